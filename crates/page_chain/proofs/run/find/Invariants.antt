use Rattle.std.proofs.Common.{◌≡◌, ℕ, ◌<◌, false}
use Rattle.std.specs.Str.{bytes_eq}
use Rattle.page_chain.specs.Held.{run_at}
use Rattle.page_chain.proofs.run.find.Given as goal

abbrev pub invariant-loop-i : goal.invariant-loop-i
invariant-loop-i l = (j : ℕ) → j < l.i → bytes_eq (run_at l.files j).name l.name ≡ false
