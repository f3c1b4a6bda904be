use Rattle.spool_trace.proofs.Reader.{advances, arrives, at_due}
use Rattle.spool_trace.proofs.reading.reader_follows.Goals as goal

pub returns-clause-due : goal.returns-clause-due
returns-clause-due c = at_due

pub returns-clause-advance : goal.returns-clause-advance
returns-clause-advance c = advances

pub returns-clause-arrival : goal.returns-clause-arrival
returns-clause-arrival c = arrives
