use Rattle.std.proofs.Common.{◌≡◌, take}
use Rattle.std.specs.Prelude.{sum_by}
use Rattle.account.specs.declared.entry.Sheet.{Sheet}
use Rattle.printed_pages.proofs.Joins.{Goes}
use Rattle.printed_pages.proofs.folder.judge_job.Given as goal

abbrev pub invariant-loop-sheet : goal.invariant-loop-sheet
invariant-loop-sheet g l = record {
  sum : l.at ≡ sum_by (λ (s : Sheet). s.page.length) (take l.sheet-index l.sheets);
  octets : g.P.PrintedOctets.octets l.source ≡ g.P.PrintedOctets.octets l.fn.source;
  goes : Goes (g.P.PrintedOctets.octets l.fn.source) l.at (take l.sheet-index l.sheets);
}
