use Rattle.account_usage.specs.Tables.{HasPrinted, HasSent, Keeps}
use Rattle.account_usage.proofs.table.UsageTable.remove.Given as goal

abbrev pub invariant-loop-number : goal.invariant-loop-number
invariant-loop-number l = record {
  sent : HasSent 0 l.initial.self l.self;
  printed : HasPrinted 0 l.initial.self l.self;
  kept : Keeps l.initial.self l.self;
}
