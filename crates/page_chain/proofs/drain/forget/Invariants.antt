use Rattle.std.proofs.Common.{◌≡◌, ℕ, ◌<◌, ◌≤◌, length}
use Rattle.page_chain.specs.Held.{run_at}
use Rattle.page_chain.proofs.Forgetting.{run_kept}
use Rattle.page_chain.proofs.drain.forget.Given as goal

abbrev pub invariant-loop-i : goal.invariant-loop-i
invariant-loop-i l = record {
  count : length l.files ≡ length l.initial.files;
  done : (j : ℕ) → j < l.i-counter → run_at l.files j ≡ run_kept l.kept j (run_at l.initial.files j);
  rest : (j : ℕ) → l.i-counter ≤ j → run_at l.files j ≡ run_at l.initial.files j;
}
