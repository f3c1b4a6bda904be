use Rattle.std.proofs.Common.{rules}
use Rattle.lpr_client.proofs.PartLemmas.{counted_more, file_more}
use Rattle.lpr_client.proofs.part.put_data_files.Goals as goal

pub loop-file-preserved : goal.loop-file-preserved
loop-file-preserved c =
    let here = c.loop-file.invariant in
    let index = c.loop-file.file-index in
    record {
      parts = file_more _ _ _ c.args.files.now index c.file-item.result _ here.parts (search rules) c.loop-file-test.true c.file-item.is;
      counted = counted_more c.args.files.now index c.file-item.result _ here.counted (search rules) c.loop-file-test.true c.file-item.is;
    }
