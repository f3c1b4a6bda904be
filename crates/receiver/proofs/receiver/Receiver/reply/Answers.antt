use Rattle.std.proofs.Common.{subst, ◌≡◌, true}
use Rattle.receiver.specs.Reading.{Progress, after_reply}
use Rattle.receiver.specs.Reads.{ReadsFrom}
use Rattle.receiver.specs.View.{reply_of}
use Rattle.receiver.specs.Sound.{state_of}
use Rattle.receiver.proofs.Laws.{reply_read}
use Rattle.receiver.proofs.receiver.Receiver.reply.Goals as goal

pub returns-clause-reading : goal.returns-clause-reading
returns-clause-reading c = λ t a os h.
    let e = subst (λ (s : Progress). state_of c.reply.new.self ≡ after_reply s (reply_of c.args.answer)) c.self.view_is c.reply.ensures.answered in
    reply_read c.args.self.now (reply_of c.args.answer) t a os c.requires.fits (subst (λ (s : Progress). ReadsFrom true os s t a) e h)
