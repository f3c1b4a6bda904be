use Rattle.spool_trace.proofs.Steps.{ack_follows, ask_follows, end_follows, refusal_follows, short_follows, wait_follows}
use Rattle.spool_trace.proofs.follows.turns_follow.Goals as goal

pub returns-clause-ask : goal.returns-clause-ask
returns-clause-ask c = ask_follows

pub returns-clause-short : goal.returns-clause-short
returns-clause-short c = short_follows

pub returns-clause-refusal : goal.returns-clause-refusal
returns-clause-refusal c = refusal_follows

pub returns-clause-end : goal.returns-clause-end
returns-clause-end c = end_follows

pub returns-clause-wait : goal.returns-clause-wait
returns-clause-wait c = wait_follows

pub returns-clause-ack : goal.returns-clause-ack
returns-clause-ack c = ack_follows
