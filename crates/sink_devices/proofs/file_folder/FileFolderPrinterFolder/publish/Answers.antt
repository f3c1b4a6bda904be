use Rattle.std.proofs.Common.{inl, refl}
use Rattle.sink_devices.proofs.file_folder.FileFolderPrinterFolder.publish.Goals as goal

pub returns-in-Err-clause-err : goal.returns-in-Err-clause-err
returns-in-Err-clause-err g c = inl refl
