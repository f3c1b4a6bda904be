-- What the requests of a session make of the job that is coming.
use Rattle.std.specs.Prelude.{ℕ, Bool, true, false, Option, None, Some}
use Rattle.receiver.specs.Script.{Request, Open, BeginFile, Filled, EndFile, Control, AbortJob}
use Rattle.spool_requests.specs.declared.answer.Answer.{Answer}
use Rattle.spool_requests.specs.declared.answer.Answer.TheVariants.{Yes, Accepted, Refused}
use Rattle.kept_jobs.specs.Folder.{SamePassed, Seen}
use Rattle.job_streams.specs.Stream.{Coming}
use Rattle.job_streams.specs.Coming.{new_job, with_control, with_end, with_file, with_octets}
use Rattle.job_hand.specs.Hand.{Settles, at_job, settled}

-- the job with the file that a request brings the end of, where it does
abbrev pub with_last : Request → Option Coming → Option Coming
with_last EndFile work = at_job with_end work
with_last (Control said) work = at_job (with_control said) work
with_last r work = None

-- a file has come: a job that is whole now is in hand no more, unless the request was refused
abbrev pub settled_by : Answer → (old new : Option Coming) → Option Coming
settled_by (Refused n) old new = old
settled_by answer old new = settled new

-- the job that is coming after a request of this sender's session that was answered so
abbrev pub work_after : (sender : ℕ) → Request → Answer → Option Coming → Option Coming
work_after sender (Open queue) (Accepted job) work = Some (new_job sender queue)
work_after sender (BeginFile name count) Yes work = at_job (with_file name count) work
work_after sender (Filled page) Yes work = at_job (with_octets page.octets) work
work_after sender EndFile answer work = settled_by answer work (at_job with_end work)
work_after sender (Control said) answer work = settled_by answer work (at_job (with_control said) work)
work_after sender AbortJob Yes work = None
work_after sender r answer work = work

-- under which number a job is told that was kept: none where it goes beside the spool, since it is left then, and else its own
abbrev pub told : (beside : Bool) → (job : ℕ) → Option ℕ
told true job = None
told false job = Some job

abbrev pub settles_by : Answer → (number : Option ℕ) → Option Coming → (old new : Option Seen) → Type 0
settles_by (Refused n) number work old new = SamePassed old new
settles_by answer number work old new = Settles number work old new

-- what a request passes on under this number, or leaves where it is none: the job, where the file that has come makes it whole,
-- and nothing else
abbrev pub PassesOn : (number : Option ℕ) → Request → Answer → Option Coming → (old new : Option Seen) → Type 0
PassesOn number EndFile answer work old new = settles_by answer number (at_job with_end work) old new
PassesOn number (Control said) answer work old new = settles_by answer number (at_job (with_control said) work) old new
PassesOn number r answer work old new = SamePassed old new
