use Rattle.std.proofs.Common.{◌∙◌}
use Rattle.job_hand.proofs.Standing.{stands_file}
use Rattle.job_hand.proofs.hand.Hand.announce.Goals as goal

pub returns-clause-stands : goal.returns-clause-stands
returns-clause-stands g c = λ job h. stands_file g.F.Folder.seen g.F.Folder.may_leave c.args.self.now _ c.args.name c.as_slice.result.now c.args.count job h
    (c.in_ok-begin_file.ensures.knows job h.knows) (c.in_ok-begin_file.ensures.closed job h.knows)
    c.in_ok-append.ensures.in_hand (c.as_slice.ensures ∙ c.in_ok-line.ensures)
