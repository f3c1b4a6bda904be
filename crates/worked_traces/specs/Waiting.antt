-- Two sessions of one sender whose files may hold three pages each, over a pool of four: each has filled a page, and the second
-- asks for another. Which reply is due there, and in other moments of worked traces, and which one is not.
use Rattle.std.specs.Prelude.{◌≡◌, ℕ, List, [], ◌∷◌, ◌++◌, codes, drop}
use Rattle.lpd_values.specs.declared.refusal.Refusal.TheVariants.{OverClaim, FilesFull}
use Rattle.spool_history.specs.Base.{first_base}
use Rattle.spool_history.specs.Events.{Event}
use Rattle.spool_history.specs.Events.Event.{Opened}
use Rattle.spool_history.specs.Now.{now}
use Rattle.worked_histories.specs.Rows.{small, hello}
use Rattle.worked_histories.specs.Claims.{begun, one_page}
use Rattle.spool_requests.specs.declared.answer.Answer.TheVariants.{Yes, Lent, Later, Refused, Told}
use Rattle.spool_requests.specs.declared.answer.RequestKind.TheVariants as kind
use Rattle.spool_trace.specs.declared.step.Step.TheVariants as step
use Rattle.spool_trace.specs.declared.reply.Deed.{Deed}
use Rattle.spool_trace.specs.declared.reply.Deed.TheVariants as deed
use Rattle.spool_trace.specs.declared.reply.Reply.TheVariants as reply
use Rattle.spool_trace.specs.Trace.{Trace}
use Rattle.spool_trace.specs.Sessions.{sessions}
use Rattle.spool_trace.specs.Shown.{events}
use Rattle.spool_trace.specs.Replies.{IsReplyIn}
use Rattle.worked_traces.specs.Rows.{newest_first, did, turn, arrive, opens, begins_file, lent, fills, begins, first_line, received}
use Rattle.worked_traces.specs.Asking.{refused, failed, state_line, stopped_line}

abbrev pub begins_24 : (session job : ℕ) → Trace
begins_24 n j = begins n ++ opens n j ∷ begins_file n ∷ turn n deed.Acked ∷ lent n ∷ fills n ∷ []

abbrev pub waiting : Trace
waiting =
    newest_first (did (step.Connect 1) (reply.Connected 1) ∷ did (step.Connect 1) (reply.Connected 2)
    ∷ arrive 1 (first_line ++ 3 ∷ codes "24 dfA001" ++ 10 ∷ hello) ∷ begins_24 1 1 ++ turn 1 deed.Waited
    ∷ arrive 2 (first_line ++ 3 ∷ codes "24 dfA002" ++ 10 ∷ hello ++ hello) ∷ begins_24 2 2) []

-- what it shows
abbrev pub both_began : List (Event (List ℕ))
both_began = one_page 2 0 ++ (begun 2 1 ++ (one_page 1 0 ++ begun 1 1))

-- a turn of a session may do this, where the history and the trace before it are these
abbrev pub MayDo : List (Event (List ℕ)) → Trace → ℕ → Deed → Type 0
MayDo h t n done = IsReplyIn (now small first_base h) (sessions t) (step.Turn n) (reply.Turned done)

pub record WaitsForPage : Type 0 where
  pub shows : events small waiting ≡ both_began
  -- of one sender the first job must finish first, so the page may not be lent
  pub later : MayDo both_began waiting 2 (deed.Asked kind.Page Later)
  pub not_lent : MayDo both_began waiting 2 (deed.Asked kind.Page (Lent 8)) → ⊥

-- the third of the refused sessions, before its file is refused
abbrev pub too_long : Trace
too_long = drop 9 refused

-- the second session of the trace with a failed page, before it is told the state
abbrev pub asks_state : Trace
asks_state = drop 16 failed

pub record RightReplies : Type 0 where
  pub refusal_shows : events small too_long ≡ Opened 1 1 1 ∷ []
  -- a file of 25 octets takes four pages, and three is the limit
  pub over_claim : MayDo (Opened 1 1 1 ∷ []) too_long 3 (deed.Asked kind.BeginFile (Refused OverClaim))
  pub not_full : MayDo (Opened 1 1 1 ∷ []) too_long 3 (deed.Asked kind.BeginFile (Refused FilesFull)) → ⊥
  pub not_begun : MayDo (Opened 1 1 1 ∷ []) too_long 3 (deed.Asked kind.BeginFile Yes) → ⊥
  pub state_shows : events small asks_state ≡ received 1
  pub state : MayDo (received 1) asks_state 2 (deed.Asked kind.State (Told state_line))
  pub no_other_state : MayDo (received 1) asks_state 2 (deed.Asked kind.State (Told stopped_line)) → ⊥
