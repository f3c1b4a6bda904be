use Rattle.lpd_values.proofs.NameLemmas.{padded_copy}
use Rattle.lpd_values.proofs.name.padded.Goals as goal

pub returns : goal.returns
returns c = padded_copy c.args.octets.now c.copy_from_slice.new.self c.copy_from_slice.ensures.after
