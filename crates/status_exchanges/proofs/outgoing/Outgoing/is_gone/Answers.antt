use Rattle.std.proofs.Common.{◌≡◌, length, sym, ◌∙◌, rules}
use Rattle.std.proofs.lemmas.Bool.{eq-eqb, eqb-true}
use Rattle.std.specs.Prelude.{string_bytes}
use Rattle.status_exchanges.proofs.RestLemmas.{none_left, nothing_left}
use Rattle.status_exchanges.proofs.outgoing.Outgoing.is_gone.Goals as goal

pub returns : goal.returns
returns c =
    let sent = c.self.inside.sent in
    let bytes = string_bytes c.self.inside.response in
    let e : c.len.result ≡ length bytes = search rules in (
      λ same. sym c.self.view_is ∙ nothing_left sent bytes (eqb-true _ _ same ∙ e),
      λ none. eq-eqb _ _ (none_left sent bytes c.self.invariant (c.self.view_is ∙ none) ∙ sym e),
    )
