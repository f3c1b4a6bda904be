use Rattle.std.proofs.lemmas.Bool.Decides.{Decides-eqb}
use Rattle.std.proofs.lemmas.Slice.Eq.{strip_suffix_is}
use Rattle.std.proofs.Common.{[], ◌∷◌}
use Rattle.printer_names.proofs.cutting.without_point.Goals as goal

pub returns : goal.returns
returns c = strip_suffix_is Decides-eqb c.args.octets.now (46 ∷ []) c.strip_suffix.result c.strip_suffix.ensures.cases
