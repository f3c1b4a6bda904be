use Rattle.std.proofs.Common.{◌≡◌, ℕ, ◌<◌, get_or, false}
use Rattle.status_request.specs.Asked.{ends_authority}
use Rattle.status_request.proofs.target.authority_end.Given as goal

abbrev pub invariant-loop-i : goal.invariant-loop-i
invariant-loop-i l = (k : ℕ) → k < l.i → ends_authority (get_or l.rest k 0) ≡ false
