use Rattle.std.proofs.Common.{◌≡◌, ◌≤◌, ℕ, ◌==◌, count_by, take}
use Rattle.job_store.proofs.recovering.number_above.Given as goal

abbrev pub invariant-loop-number : goal.invariant-loop-number
invariant-loop-number l = record {
  first : l.first ≤ l.next;
  above : (n : ℕ) → l.next ≤ n → count_by (λ number. number == n) (take l.number-index l.numbers) ≡ 0;
}
