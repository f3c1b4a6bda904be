-- A trace: the steps that a spool of many sessions was told, each with its reply. The newest stands first.
use Rattle.std.specs.Prelude.{ℕ, List, [], ◌∷◌}
use Rattle.lpd_values.specs.Refusals.{octet_of}
use Rattle.spool_history.specs.Events.{Sheet}
use Rattle.spool_history.specs.Next as N
use Rattle.spool_requests.specs.declared.answer.Answer.{Answer}
use Rattle.spool_requests.specs.declared.answer.Answer.TheVariants.{Told}
use Rattle.spool_trace.specs.declared.step.Step.{Step}
use Rattle.spool_trace.specs.declared.reply.ShownPage.{ShownPage}
use Rattle.spool_trace.specs.declared.reply.Given.{Given}
use Rattle.spool_trace.specs.declared.reply.Given.TheVariants as given
use Rattle.spool_trace.specs.declared.reply.Deed.{Deed}
use Rattle.spool_trace.specs.declared.reply.Deed.TheVariants as deed
use Rattle.spool_trace.specs.declared.reply.Reply.{Reply}

pub record Entry : Type 0 where
  pub step : Step
  pub reply : Reply

abbrev pub Trace : Type 0
Trace = List Entry

-- the page that was handed, in the words of histories
abbrev pub sheet_of : ShownPage → Sheet (List ℕ)
sheet_of page = record { job = page.job; place = page.place; file = page.file; number = page.number; page = page.octets }

-- what a printer was given
abbrev pub next_of : Given → N.Next (List ℕ)
next_of (given.Page page) = N.Next.Hands (sheet_of page)
next_of given.Nothing = N.Next.Nothing
next_of given.Stopped = N.Next.Stops
next_of given.Busy = N.Next.Busy
next_of given.Closed = N.Next.Over

-- the text of an answer
abbrev pub text_of : Answer → List ℕ
text_of (Told text) = text
text_of _ = []

-- the octets that a session wrote in a turn
abbrev pub written_by : Deed → List ℕ
written_by (deed.Asked kind answer) = text_of answer
written_by deed.Acked = 0 ∷ []
written_by (deed.Refused n) = octet_of n ∷ []
written_by deed.Waited = []
written_by deed.Ended = []
