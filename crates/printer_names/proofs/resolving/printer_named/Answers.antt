use Rattle.std.proofs.Common.{ℕ, List, sym, ◌∙◌, subst}
use Rattle.printer_names.specs.Names.{Means, only_one}
use Rattle.printer_names.proofs.MeaningLemmas.{means_one}
use Rattle.printer_names.proofs.resolving.printer_named.Goals as goal

pub returns : goal.returns
returns c =
    let means =
    means_one c.args.config.now c.as_bytes-name.result.now c.first.result c.numbered_of.result (sym c.is_digits.ensures ∙ c.if-is_digits.false)
    c.first.ensures c.numbered_of.ensures in
    rw c.only_one.ensures (
    subst (λ (s : List ℕ). Means c.args.config.now s (only_one c.first.result c.numbered_of.result)) c.as_bytes-name.ensures.value means
    )
