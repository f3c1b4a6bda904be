use Rattle.std.proofs.Common.{◌≡◌, ◌≤◌, ◌*◌}
use Rattle.account.specs.Kinds.{kinds_in}
use Rattle.account.proofs.Histories.{told}
use Rattle.account.proofs.account.Account.kinds.Given as goal

abbrev pub invariant-loop-entry : goal.invariant-loop-entry
invariant-loop-entry l = record {
  value : l.sum ≡ kinds_in (told l.entry-items l.entry-index);
  within : l.sum ≤ 13 * l.entry-index;
}
