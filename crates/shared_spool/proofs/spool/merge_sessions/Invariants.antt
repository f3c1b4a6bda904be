use Rattle.std.proofs.Common.{◌≡◌, ◌+◌, length, sum_by}
use Rattle.shared_spool.proofs.spool.merge_sessions.Given as goal

-- what was put together so far
abbrev pub invariant-loop-seat : goal.invariant-loop-seat
invariant-loop-seat g l = record {
  parts : l.all.parts ≡ l.fn.all.parts + length l.yielded;
  entries : l.all.entries ≡ l.fn.all.entries + sum_by (λ s. s.entries) l.yielded;
  kinds : l.all.kinds ≡ l.fn.all.kinds + sum_by (λ s. s.kinds) l.yielded;
  handed : l.all.handed ≡ l.fn.all.handed;
}
