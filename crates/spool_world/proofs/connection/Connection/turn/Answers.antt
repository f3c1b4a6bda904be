use Rattle.std.proofs.Common.{◌≡◌, ℕ, List, ◌++◌, None, ap, refl, subst, sym, ◌∙◌}
use Rattle.lpd_values.specs.declared.refusal.Refusal.TheVariants.{Memory}
use Rattle.receiver.specs.Script.{Item}
use Rattle.receiver.specs.Reading.{due}
use Rattle.receiver.specs.View.{Steps, StepsAt, held, is_last}
use Rattle.receiver.specs.declared.need.Need.{Need}
use Rattle.receiver.specs.declared.need.Need.TheVariants as need
use Rattle.spool_calls.specs.Kept.{Kept}
use Rattle.spool_trace.specs.declared.reply.Deed.{Deed}
use Rattle.spool_trace.specs.declared.reply.Deed.TheVariants as deed
use Rattle.spool_trace.specs.declared.reply.Reply.TheVariants as reply
use Rattle.spool_trace.specs.declared.step.Step.TheVariants as step
use Rattle.spool_trace.specs.Trace.{Trace}
use Rattle.spool_trace.specs.Sessions.{session_at, sessions, turns}
use Rattle.spool_world.specs.declared.connection.Connection.{Connection}
use Rattle.spool_world.specs.Turns.{Does}
use Rattle.request_calls.proofs.Requested.{asked_request}
use Rattle.spool_world.proofs.Doing.{ack_not, acknowledges, asking, asks_right, ended_not, ends_all, given, job_same, more_not, refuses, waits}
use Rattle.spool_world.proofs.connection.Connection.turn.Goals as goal
use Rattle.spool_world.proofs.connection.Connection.turn.Goals.{in-More, in-Ack, in-Fault, in-Ended, in_default-need}

-- a turn that did this, where the deed and the core go by other names
named : (old core other : Kept) (t : Trace) (n : ℕ) (l : Connection) (done said : Deed) → core ≡ other → done ≡ said
    → Does old other t (step.Turn n) (reply.Turned said) l (turns said (session_at (sessions t) n)) → Does old core t (step.Turn n) (reply.Turned done) l (turns done (session_at (sessions t) n))
named old core other t n l done said c d x =
    subst (λ (y : Kept). Does old y t (step.Turn n) (reply.Turned done) l (turns done (session_at (sessions t) n))) (sym c)
    (subst (λ (y : Deed). Does old other t (step.Turn n) (reply.Turned y) l (turns y (session_at (sessions t) n))) (sym d) x)

pub returns-clause-turn : goal.returns-clause-turn
returns-clause-turn c t n o =
    let old = c.args.core.now in
    let k = c.args.self.now in
    let p = c.in-Some.reader in
    let e = c.in-Some.is in
    let new = c.advance-count.new.self in
    let count = c.advance-count.result.0 in
    let want = c.advance-count.result.1 in
    let l = c.match-need.self in
    let d = due p (p.tail ++ k.unread.items) in
    let st : StepsAt p k.unread.items count want new d = subst (λ (x : List ℕ). Steps p x count want new) c.as_slice.ensures c.advance-count.ensures.step in
    let rest = c.advance.ensures.items in
    elim c.match-need.branch [
      | in-More w ↦
          let g = given p new k.unread.items count need.More d more_not (subst (λ (x : Need). StepsAt p k.unread.items count x new d) w.in-More.is st) in
          named old c.match-need.core old t n l c.match-need.result deed.Waited w.core-is w.result-is
          (waits old t n k o p e new count l old g
          (record { sender = ap (λ (x : Connection). x.sender) w.self-is; reader = ap (λ (x : Connection). x.reader) w.self-is; unread = ap (λ (x : Connection). x.unread.items) w.self-is ∙ rest })
          (ap (λ (x : Connection). x.job) w.self-is) (ap (λ (x : Connection). x.kept) w.self-is) refl)
      | in-Ack w ↦
          let g = given p new k.unread.items count need.Ack d ack_not (subst (λ (x : Need). StepsAt p k.unread.items count x new d) w.in-Ack.is st) in
          named old c.match-need.core old t n l c.match-need.result deed.Acked w.core-is w.result-is
          (acknowledges old t n k o p e new count l old g
          (record { sender = ap (λ (x : Connection). x.sender) w.self-is; reader = ap (λ (x : Connection). x.reader) w.self-is; unread = ap (λ (x : Connection). x.unread.items) w.self-is ∙ rest })
          (ap (λ (x : Connection). x.job) w.self-is) (ap (λ (x : Connection). x.kept) w.self-is) refl)
      | in-Fault w ↦
          let st' = subst (λ (x : Need). StepsAt p k.unread.items count x new d) w.in-Fault.is st in
          let free : held new.items new.tail ≡ None = ap (λ (x : List Item). held x new.tail) (c.advance-count.ensures.leaves.over (ap is_last w.in-Fault.is)) in
          let over = w.end.ensures.over in
          named old c.match-need.core w.end.new.core t n l c.match-need.result (deed.Refused w.in-Fault.refusal) w.core-is w.result-is
          (refuses old t n k o p e new count w.in-Fault.refusal _ w.end.new.self l w.end.new.core st' (record { sender = refl; job = refl; reader = refl; kept = refl })
          over w.self-is
          w.end.ensures.config (job_same p new k.unread.items count want d st) free w.end.ensures.end)
      | in-Ended w ↦
          let g = given p new k.unread.items count need.Ended d ended_not (subst (λ (x : Need). StepsAt p k.unread.items count x new d) w.in-Ended.is st) in
          let free : held new.items new.tail ≡ None = ap (λ (x : List Item). held x new.tail) (c.advance-count.ensures.leaves.over (ap is_last w.in-Ended.is)) in
          let over = w.end-in-Ended.ensures.over in
          named old c.match-need.core w.end-in-Ended.new.core t n l c.match-need.result deed.Ended w.core-is w.result-is
          (ends_all old t n k o p e new count _ w.end-in-Ended.new.self l w.end-in-Ended.new.core g (record { sender = refl; job = refl; reader = refl; kept = refl })
          over w.self-is
          w.end-in-Ended.ensures.config (job_same p new k.unread.items count want d st) free w.end-in-Ended.ensures.end)
      | in_default-need w ↦
          let some = asking want w.in_default-need.not-More w.in_default-need.not-Ack w.in_default-need.not-Fault w.in_default-need.not-Ended in
          let r = asked_request want some in
          let g = given p new k.unread.items count want d (w.in_default-need.not-Fault Memory) st in
          named old c.match-need.core w.answer.new.core t n l c.match-need.result w.answer.result w.core-is w.result-is
          (asks_right old t n k o p e new count want r.0 l w.answer.new.core w.answer.result w.answer.new.reader w.answer.new.job w.answer.new.kept g r.1 (c.advance-count.ensures.leaves.owed ∙ r.2)
          (w.answer.ensures.done r.0 r.1) w.answer.ensures.config
          (record { sender = ap (λ (x : Connection). x.sender) w.self-is; reader = ap (λ (x : Connection). x.reader) w.self-is; unread = ap (λ (x : Connection). x.unread.items) w.self-is ∙ rest })
          (ap (λ (x : Connection). x.job) w.self-is) (ap (λ (x : Connection). x.kept) w.self-is))
    ]
