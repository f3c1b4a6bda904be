use Rattle.std.proofs.Common.{◌∙◌, ap, map, sym}
use Rattle.std.proofs.lemmas.Simd.{map-map}
use Rattle.spool_history.specs.Told.{told_file}
use Rattle.history_reader.specs.Seen.{file_seen}
use Rattle.history_reader.proofs.told.JobToldJob.files.Goals as goal

pub returns : goal.returns
returns c =
    ap (map (λ f. told_file (file_seen f))) c.as_slice.ensures.value
    ∙ sym (map-map told_file file_seen c.args.self.now.files.items)
