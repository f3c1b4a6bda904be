-- What a call that tells more answers, as the call that tells less answers it.
use Rattle.std.specs.Prelude.{ℕ, List, Result, Ok, Err}
use Rattle.lpd_values.specs.declared.refusal.Refusal.{Refusal}
use Rattle.spool_core.specs.declared.closing.Started.{Started}
use Rattle.spool_core.specs.declared.telling.Removal.{Removal}
use Rattle.locked_spool.specs.declared.receiving.Accepted.{Accepted}

-- the number of the job
abbrev pub job_of : Result Accepted Refusal → Result ℕ Refusal
job_of (Ok a) = Ok a.job
job_of (Err n) = Err n

-- that it was done
abbrev pub done_of : Result Started Refusal → Result (Unit {0}) Refusal
done_of (Ok s) = Ok tt
done_of (Err n) = Err n

-- the text
abbrev pub text_of : Result Removal Refusal → Result (List ℕ) Refusal
text_of (Ok r) = Ok r.text
text_of (Err n) = Err n
