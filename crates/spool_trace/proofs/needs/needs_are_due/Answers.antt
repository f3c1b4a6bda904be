use Rattle.spool_trace.proofs.Wanted.{ack_is_due, ask_is_due, end_is_due, more_is_due, refusal_is_due, short_is_due}
use Rattle.spool_trace.proofs.needs.needs_are_due.Goals as goal

pub returns-clause-ask : goal.returns-clause-ask
returns-clause-ask c = ask_is_due

pub returns-clause-ack : goal.returns-clause-ack
returns-clause-ack c = ack_is_due

pub returns-clause-more : goal.returns-clause-more
returns-clause-more c = more_is_due

pub returns-clause-refusal : goal.returns-clause-refusal
returns-clause-refusal c = refusal_is_due

pub returns-clause-end : goal.returns-clause-end
returns-clause-end c = end_is_due

pub returns-clause-short : goal.returns-clause-short
returns-clause-short c = short_is_due
