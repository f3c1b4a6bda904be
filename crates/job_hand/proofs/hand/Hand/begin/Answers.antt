use Rattle.job_hand.proofs.hand.Hand.begin.Goals as goal

pub start-requires : goal.start-requires
start-requires g c = c.new.ensures c.args.sender c.args.queue.now
