-- The steps of a script's line, and what it prints for the replies to them.
use Rattle.std.specs.Prelude.{◌≡◌, ◌⊎◌, ◌++◌, ℕ, All, List, [], ◌∷◌, Option, Some, None, codes, map}
use Rattle.std.specs.Fmt.{decimal}
use Rattle.std.specs.List.{flat_map}
use Rattle.account.specs.declared.entry.Progress.{Progress}
use Rattle.account.specs.declared.entry.Progress.TheVariants.{Ended}
use Rattle.spool_history.specs.Now.{State, free_pages}
use Rattle.spool_laws.specs.Sums.{at_printers, chained, lent}
use Rattle.spool_requests.specs.declared.answer.Answer.TheVariants.{Later}
use Rattle.spool_trace.specs.declared.reply.Deed.{Deed}
use Rattle.spool_trace.specs.declared.reply.Deed.TheVariants as deed
use Rattle.spool_trace.specs.declared.reply.Given.{Given}
use Rattle.spool_trace.specs.declared.reply.Reply.{Reply}
use Rattle.spool_trace.specs.declared.reply.Reply.TheVariants as reply
use Rattle.spool_trace.specs.declared.step.Step.{Step}
use Rattle.spool_trace.specs.declared.step.Step.TheVariants as step
use Rattle.spool_trace.specs.Trace.{Trace, written_by}
use Rattle.spool_world.specs.Runs.{told}
use Rattle.script_lines.specs.declared.script.ScriptLine.{ScriptLine}
use Rattle.script_lines.specs.declared.script.ScriptLine.TheVariants.{Nothing, Connect, Send, Go, Break, Next, Printed, Failed, Free, Pages, Shutdown}
use Rattle.script_lines.specs.declared.texts.Stop.{Stop}
use Rattle.script_lines.specs.declared.texts.Stop.TheVariants as stop
use Rattle.script_lines.specs.Texts as T
use Rattle.lpd_script.specs.Hosts.{sender_of, with_host}

-- how many pages are free, in chains, lent to sessions and out at printers
abbrev pub pages_line : (free chained lent out : ℕ) → List ℕ
pages_line free chained lent out =
    codes "pages free " ++ decimal free ++ codes " chained " ++ decimal chained ++ codes " lent " ++ decimal lent
    ++ codes " out " ++ decimal out ++ codes "\n"

-- a turn of the session for each reply
abbrev pub turns_for : ℕ → List Reply → List Step
turns_for session replies = map (λ reply. step.Turn session) replies

-- the steps of a line: octets arrive and then come turns, as many as were replied to
abbrev pub steps_of : List (List ℕ) → ScriptLine → List Reply → List Step
steps_of hosts Nothing replies = []
steps_of hosts (Connect host) replies = step.Connect (sender_of hosts host) ∷ []
steps_of hosts (Send session octets) [] = []
steps_of hosts (Send session octets) (reply ∷ replies) = step.Arrive session octets ∷ turns_for session replies
steps_of hosts (Go session) replies = turns_for session replies
steps_of hosts (Break session) replies = step.Break session ∷ []
steps_of hosts (Next printer) replies = step.Next printer ∷ []
steps_of hosts (Printed printer) replies = step.Printed printer ∷ []
steps_of hosts (Failed printer) replies = step.Failed printer ∷ []
steps_of hosts Free replies = []
steps_of hosts Pages replies = []
steps_of hosts Shutdown replies = step.Shutdown ∷ []

-- the trace that goes on with these steps and their replies
abbrev pub after : List (List ℕ) → ScriptLine → List Reply → Trace → Trace
after hosts line replies t = told (steps_of hosts line replies) replies t

-- the hosts that connected, once the line was run
abbrev pub hosts_after : List (List ℕ) → ScriptLine → List (List ℕ)
hosts_after hosts (Connect host) = with_host hosts host
hosts_after hosts line = hosts

-- whether a session stops with what it did in a turn, and why
abbrev pub stop_of : Deed → Option Stop
stop_of deed.Waited = Some stop.Waiting
stop_of (deed.Asked kind Later) = Some stop.Later
stop_of (deed.Asked kind answer) = None
stop_of deed.Acked = None
stop_of (deed.Refused refusal) = Some stop.Over
stop_of deed.Ended = Some stop.Over

-- These are the replies to the turns of a session until it stops; it wrote this, and stopped so.
pub record AreTurns (replies : List Reply) (written : List ℕ) (why : Stop) : Type 0 where
  pub earlier : List Deed
  pub last : Deed
  pub all : replies ≡ map reply.Turned (earlier ++ last ∷ [])
  pub go_on : All (λ done. stop_of done ≡ None) earlier
  pub stops : stop_of last ≡ Some why
  pub wrote : written ≡ flat_map written_by (earlier ++ last ∷ [])

-- the session was over before
abbrev pub TellsGone : ℕ → List Reply → List ℕ → Type 0
TellsGone session replies text = (replies ≡ reply.Gone ∷ []) × (text ≡ T.gone_line session)

-- turns of a session
abbrev pub TellsTurns : ℕ → List Reply → List ℕ → Type 0
TellsTurns session replies text =
    (written : List ℕ) × (why : Stop) × AreTurns replies written why × (text ≡ T.turns_line session written why)

-- octets arrived on a session, and then its turns
abbrev pub TellsSent : ℕ → List Reply → List ℕ → Type 0
TellsSent session replies text =
    (turns : List Reply) × (replies ≡ reply.Taken ∷ turns) × TellsTurns session turns text

-- the printer held no page
abbrev pub TellsNoPage : ℕ → List Reply → List ℕ → Type 0
TellsNoPage printer replies text = (replies ≡ reply.NoPage ∷ []) × (text ≡ T.no_page_line printer)

abbrev pub TellsProgress : ℕ → List Reply → List ℕ → Type 0
TellsProgress printer replies text =
    (progress : Progress) × (replies ≡ reply.Printed progress ∷ []) × (text ≡ T.progress_line printer progress)

-- a line with these replies to its steps prints this, where the spool was so
abbrev pub Tells : State (List ℕ) → ScriptLine → List Reply → List ℕ → Type 0
Tells v Nothing replies text = (replies ≡ []) × (text ≡ [])
Tells v (Connect host) replies text = (session : ℕ) × (replies ≡ reply.Connected session ∷ []) × (text ≡ T.session_line session)
Tells v (Send session octets) replies text = TellsGone session replies text ⊎ TellsSent session replies text
Tells v (Go session) replies text = TellsGone session replies text ⊎ TellsTurns session replies text
Tells v (Break session) replies text =
    TellsGone session replies text ⊎ (replies ≡ reply.Broken ∷ []) × (text ≡ T.broken_line session)
Tells v (Next printer) replies text = (given : Given) × (replies ≡ reply.Gave given ∷ []) × (text ≡ T.given_line printer given)
Tells v (Printed printer) replies text = TellsNoPage printer replies text ⊎ TellsProgress printer replies text
Tells v (Failed printer) replies text =
    TellsNoPage printer replies text ⊎ (replies ≡ reply.Failed ∷ []) × (text ≡ T.progress_line printer Ended)
Tells v Free replies text = (replies ≡ []) × (text ≡ T.free_line (free_pages v))
Tells v Pages replies text = (replies ≡ []) × (text ≡ pages_line (free_pages v) (chained v) (lent v) (at_printers v))
Tells v Shutdown replies text = (replies ≡ reply.Closed ∷ []) × (text ≡ T.closed_line)
