use Rattle.std.proofs.Common.{◌≡◌, ℕ, List, [], ◌∷◌, length, true, false, append_assoc, sym, ◌∙◌, refl, arith}
use Rattle.std.specs.Prelude.{codes, ◌==◌}
use Rattle.std.proofs.lemmas.Bool.Decides.{nat_tests}
use Rattle.hex.specs.Hex.{encode_lower}
use Rattle.script_lines.specs.Texts.{shown_written}
use Rattle.script_lines.proofs.texts.turns_line.Goals as goal

shown_none : (written : List ℕ) → (length written == 0) ≡ true → shown_written written ≡ codes "-"
shown_none [] none = refl
shown_none (b ∷ bs) none = absurd (grind (arith, nat_tests))

shown_some : (written : List ℕ) → (length written == 0) ≡ false
    → shown_written written ≡ encode_lower written
shown_some [] some = cc
shown_some (b ∷ bs) some = refl

pub returns-then-is_empty : goal.returns-then-is_empty
returns-then-is_empty c =
    let none = shown_none c.args.written.now (sym c.is_empty.ensures ∙ c.if-is_empty.true) in
    simp (none, ← c.shown_stop-stop.ensures) (simp append_assoc c.format.ensures.ok)

pub returns : goal.returns
returns c =
    let some = shown_some c.args.written.now (sym c.is_empty.ensures ∙ c.if-is_empty.false) in
    simp (some, ← c.in_ok-octets.ensures, ← c.shown_stop-stop.ensures)
    (simp append_assoc c.format-2.ensures.ok)
