use Rattle.std.proofs.Common.{◌∙◌, ap, arith, sym}
use Rattle.job_streams.specs.Stream.{first_line}
use Rattle.job_hand.proofs.Standing.{stands_first}
use Rattle.job_hand.proofs.hand.Hand.start.Goals as goal

pub returns-clause-stands : goal.returns-clause-stands
returns-clause-stands g c = stands_first g.F.Folder.seen g.F.Folder.may_leave c.begin.new.folder c.append.new.folder _ c.args.sender c.args.queue.now _ c.as_slice.result.now
    (omega arith) (sym c.if-not-is_queue_word.ensures) c.requires c.in_ok-begin.ensures.in_hand c.in_ok-append.ensures.in_hand
    c.in_ok-append-2.ensures.in_hand c.write_head.ensures (c.as_slice.ensures ∙ (c.in_ok-line.ensures ∙ ap first_line c.in_ok-queue.ensures))
