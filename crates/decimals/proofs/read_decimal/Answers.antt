use Rattle.std.proofs.Common.{◌≡◌, List, ℕ, sym, ◌∙◌, subst, true}
use Rattle.decimals.specs.Canonical.{is_canonical}
use Rattle.decimals.proofs.NumberLemmas.{not_canonical, not_read, not_text, read}
use Rattle.decimals.proofs.read_decimal.Goals as goal

pub returns-then-not-is_canonical : goal.returns-then-not-is_canonical
returns-then-not-is_canonical c =
    not_canonical c.args.digits.now (sym c.is_canonical.ensures ∙ c.if-not-is_canonical.true)

pub returns-in_err-text : goal.returns-in_err-text
returns-in_err-text c = rw c.from_residual.ensures (not_text c.args.digits.now c.in_err-text.ensures)

pub returns-in-Ok : goal.returns-in-Ok
returns-in-Ok c =
    sym c.in_ok-text.ensures.0
    ∙ read c.in_ok-text.text.now _ c.parse.result c.in-Ok.is
    (subst (λ (s : List ℕ). is_canonical s ≡ true) (sym c.in_ok-text.ensures.0) (sym c.is_canonical.ensures ∙ c.if-not-is_canonical.false))
    c.parse.ensures.value.0

pub returns-in-Err : goal.returns-in-Err
returns-in-Err c = λ n small e.
    not_read c.in_ok-text.text.now _ c.parse.result c.in-Err.is c.parse.ensures.value.0 n small (c.in_ok-text.ensures.0 ∙ e)
