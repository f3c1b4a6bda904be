use Rattle.spool_trace.proofs.Read.{all_read, outputs_read}
use Rattle.spool_trace.proofs.reading.sessions_are_read.Goals as goal

pub returns-clause-so_far : goal.returns-clause-so_far
returns-clause-so_far c = all_read

pub returns-clause-whole : goal.returns-clause-whole
returns-clause-whole c = outputs_read
