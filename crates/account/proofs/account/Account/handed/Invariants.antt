use Rattle.std.proofs.Common.{◌≡◌, ◌≤◌}
use Rattle.account.specs.Kinds.{handed_in}
use Rattle.account.proofs.Histories.{told}
use Rattle.account.proofs.account.Account.handed.Given as goal

abbrev pub invariant-loop-entry : goal.invariant-loop-entry
invariant-loop-entry l = record {
  value : l.count ≡ handed_in (told l.entry-items l.entry-index);
  within : l.count ≤ l.entry-index;
}
