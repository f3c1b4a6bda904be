use Rattle.clap.specs.Words.{found_of, rows_of}
use Rattle.program_words.proofs.ServingLemmas.{no_limit}
use Rattle.program_words.proofs.values.limit_of.Goals as goal

pub returns-in-Err-clause-fault : goal.returns-in-Err-clause-fault
returns-in-Err-clause-fault c =
    (c.in-Err.ensures.fault.0, no_limit (rows_of (found_of c.args.matches.now)) c.args.id.now c.in-Err.ensures.fault.1)
