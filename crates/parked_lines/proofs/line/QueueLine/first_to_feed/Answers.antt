use Rattle.std.proofs.Common.{◌∙◌, ap, Some, sym}
use Rattle.parked_lines.specs.Line.{may_feed}
use Rattle.parked_lines.proofs.LineLemmas.{find_nowhere, find_place}
use Rattle.parked_lines.proofs.line.QueueLine.first_to_feed.Goals as goal

pub returns-in-Some : goal.returns-in-Some
returns-in-Some c =
    ap Some (rw (← c.self.view_is) c.index.ensures)
    ∙ sym (find_place (may_feed c.args.self.now) c.args.self.now c.in-Some.place c.index.result.now (sym c.in-Some.ensures))

pub returns-in-None : goal.returns-in-None
returns-in-None c = sym (find_nowhere (may_feed c.args.self.now) c.args.self.now (sym c.in-None.ensures))
