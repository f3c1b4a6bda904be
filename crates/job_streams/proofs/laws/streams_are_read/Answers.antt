use Rattle.job_streams.proofs.Reading.{streams_are_read as law}
use Rattle.job_streams.proofs.laws.streams_are_read.Goals as goal

pub returns : goal.returns
returns c = law
