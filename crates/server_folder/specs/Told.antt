-- What is told of a folder that another server has.
use Rattle.std.specs.Prelude.{ℕ, List, codes}
use Rattle.server_folder.specs.declared.fault.FolderUse.{FolderUse}
use Rattle.server_folder.specs.declared.fault.FolderUse.TheVariants.{Jobs, Account}

-- by what that server has it for
abbrev pub in_use_text : FolderUse → List ℕ
in_use_text Jobs = codes "another server keeps its jobs there"
in_use_text Account = codes "another server writes its account there"
