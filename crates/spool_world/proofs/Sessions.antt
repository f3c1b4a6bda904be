-- The steps of sessions.
use Rattle.std.proofs.Common.{◌≡◌, ℕ, ◌+◌, ◌-◌, ◌<◌, Bool, true, false, List, ◌∷◌, ◌++◌, Option, Some, None, length, get_or, inl, inr, set, refl, sym, subst, ap, ◌∙◌}
use Rattle.std.specs.Prelude.{is_some, not}
use Rattle.std.proofs.lemmas.List.{set-get_or}
use Rattle.page_pool.specs.Page.{Page}
use Rattle.receiver.specs.Reading.{Progress}
use Rattle.receiver.specs.View.{held}
use Rattle.spool_history.specs.Base.{first_base}
use Rattle.spool_calls.specs.Looks.Detail.{Octets}
use Rattle.spool_calls.specs.Tickets.{HasLent}
use Rattle.spool_calls.specs.Kept.{Kept, Leaves}
use Rattle.spool_trace.specs.declared.reply.Deed.{Deed}
use Rattle.spool_trace.specs.declared.reply.Reply.TheVariants as reply
use Rattle.spool_trace.specs.declared.step.Step.TheVariants as step
use Rattle.spool_trace.specs.Trace.{Trace}
use Rattle.spool_trace.specs.Sessions.{ends, new_session, session_at, sessions, takes, turns}
use Rattle.spool_trace.specs.Shown.{events}
use Rattle.spool_trace.specs.Hands.{has_page}
use Rattle.spool_trace.specs.Reading as reading
use Rattle.spool_trace.specs.Replies.{IsReply}
use Rattle.spool_trace.proofs.Reader.{arrives}
use Rattle.spool_trace.proofs.Steps.{break_follows}
use Rattle.request_calls.specs.Pages.{first_page}
use Rattle.spool_world.specs.declared.connection.Connection.{Connection}
use Rattle.spool_world.specs.Stands as stands
use Rattle.spool_world.specs.Stands.{GoesOn, Stands, page_of}
use Rattle.spool_world.specs.Turns.{AbortsIt, EndsIt, IsEnded, IsOf, TurnsRight}
use Rattle.spool_world.specs.Worlds.{Leads, Steps, Worlds, entry}
use Rattle.spool_world.proofs.Ends.{at, ended, stood, true_false}
use Rattle.spool_world.proofs.Leading.{here, is_of, nothing, one}

-- a step of a session, by the place of its connection
module _ (old : Worlds) (core : Kept) (i session : ℕ) (k l : Connection) (lt : i < length old.connections) (is : i + 1 ≡ session) (ek : k ≡ get_or old.connections i k) where
  abbrev new : Worlds
  new = record old { core = core; connections = set old.connections i l }

  of : (t : Trace) → Leads t old → IsOf old.core t (i + 1) k
  of t leads = subst (IsOf old.core t (i + 1)) (sym ek) (is_of t old i k leads lt)

  pub turn_step : (done : Deed) → core.config ≡ old.core.config → TurnsRight old.core core k l (Some done) → Steps old (step.Turn session) (reply.Turned done) new
  turn_step done same right t leads =
      let d = right t (i + 1) (of t leads) in
      subst (λ (n : ℕ). IsReply old.core.config t (step.Turn n) (reply.Turned done) × Leads (entry (step.Turn n) (reply.Turned done) ∷ t) new) is
      (one t old new (step.Turn (i + 1)) (reply.Turned done) i l (turns done) leads lt d.follows same refl refl refl (λ p. refl) d.stands)

  -- the connection is over
  over : (t : Trace) → Leads t old → k.reader ≡ None → (session_at (sessions t) (i + 1)).over ≡ true
  over t leads none = subst (stands.IsAt old.core.config.page_size k (session_at (sessions t) (i + 1))) none (of t leads).stands.at

  still : core ≡ old.core → l ≡ k → new ≡ old
  still same lk =
      ap (λ (x : Kept). record old { core = x; connections = set old.connections i l }) same
      ∙ ap (λ (x : List Connection). record old { connections = x }) (ap (set old.connections i) (lk ∙ ek) ∙ set-get_or old.connections i k)

  pub gone_turn : core ≡ old.core → l ≡ k → k.reader ≡ None → Steps old (step.Turn session) reply.Gone new
  gone_turn same lk none t leads =
      subst (λ (n : ℕ). IsReply old.core.config t (step.Turn n) reply.Gone × Leads (entry (step.Turn n) reply.Gone ∷ t) new) is
      (nothing t old new (step.Turn (i + 1)) reply.Gone leads (still same lk)
      (record { is = record { due = (here t old i leads lt, over t leads none); may = tt }; left = leads.core }) refl (λ p. refl))

  -- octets have arrived
  pub arrive_step : (p : Progress) (octets : List ℕ) → core ≡ old.core → k.reader ≡ Some p → l.reader ≡ k.reader → l.sender ≡ k.sender → l.job ≡ k.job → l.kept ≡ k.kept → l.unread.items ≡ k.unread.items ++ octets
      → Steps old (step.Arrive session octets) reply.Taken new
  arrive_step p octets same e reader sender job kept unread t leads =
      let o = of t leads in
      let s = session_at (sessions t) (i + 1) in
      let a = at old.core t (i + 1) k o p e in
      let st = subst (λ (x : List ℕ). reading.Stands p x (takes octets s)) (sym unread) (arrives p k.unread.items octets s a.reads) in
      let goes : GoesOn old.core.config.page_size l (takes octets s) p = record { open' = a.open'; reads = st; page = subst (λ (x : Option Page). HasLent (has_page s) old.core.config.page_size (first_page x (held p.items p.tail))) (sym kept) a.page; one = elim a.one [ inl x ↦ inl (kept ∙ x) | inr x ↦ inr x ] } in
      subst (λ (n : ℕ). IsReply old.core.config t (step.Arrive n octets) reply.Taken × Leads (entry (step.Arrive n octets) reply.Taken ∷ t) new) is
      (one t old new (step.Arrive (i + 1) octets) reply.Taken i l (takes octets) leads lt (record { is = record { due = (o.there, a.open', tt); may = tt }; left = subst (Leaves Octets first_base (events old.core.config t)) (sym same) leads.core }) (ap (λ (x : Kept). x.config) same) refl refl refl (λ q. refl)
      (record { sender = sender ∙ o.stands.sender; job = job ∙ o.stands.job; at = subst (stands.IsAt old.core.config.page_size l (takes octets s)) (sym (reader ∙ e)) goes }))

  -- or there was no room for them
  pub full_step : (octets : List ℕ) → core ≡ old.core → l.reader ≡ k.reader → l.sender ≡ k.sender → l.job ≡ k.job → l.kept ≡ k.kept → l.unread.items ≡ k.unread.items → (p : Progress) → k.reader ≡ Some p
      → Steps old (step.Arrive session octets) reply.Memory new
  full_step octets same reader sender job kept unread p e t leads =
      let o = of t leads in
      let s = session_at (sessions t) (i + 1) in
      let a = at old.core t (i + 1) k o p e in
      let st = subst (λ (x : List ℕ). reading.Stands p x s) (sym unread) a.reads in
      let goes : GoesOn old.core.config.page_size l s p = record { open' = a.open'; reads = st; page = subst (λ (x : Option Page). HasLent (has_page s) old.core.config.page_size (first_page x (held p.items p.tail))) (sym kept) a.page; one = elim a.one [ inl x ↦ inl (kept ∙ x) | inr x ↦ inr x ] } in
      subst (λ (n : ℕ). IsReply old.core.config t (step.Arrive n octets) reply.Memory × Leads (entry (step.Arrive n octets) reply.Memory ∷ t) new) is
      (one t old new (step.Arrive (i + 1) octets) reply.Memory i l (λ x. x) leads lt (record { is = record { due = (o.there, a.open', tt); may = tt }; left = subst (Leaves Octets first_base (events old.core.config t)) (sym same) leads.core })
      (ap (λ (x : Kept). x.config) same) refl refl (sym (set-get_or (sessions t) (i + 1 - 1) (new_session 0))) (λ q. refl)
      (record { sender = sender ∙ o.stands.sender; job = job ∙ o.stands.job; at = subst (stands.IsAt old.core.config.page_size l s) (sym (reader ∙ e)) goes }))

  -- the connection broke
  pub break_step : core.config ≡ old.core.config → IsEnded k l → EndsIt old.core core k k.reader → (p : Progress) → k.reader ≡ Some p → Steps old (step.Break session) reply.Broken new
  break_step same f ends' p e t leads =
      let o = of t leads in
      let s = session_at (sessions t) (i + 1) in
      let a = at old.core t (i + 1) k o p e in
      let ab : AbortsIt old.core core p.job k.job (page_of p k) = subst (EndsIt old.core core k) e ends' in
      subst (λ (n : ℕ). IsReply old.core.config t (step.Break n) reply.Broken × Leads (entry (step.Break n) reply.Broken ∷ t) new) is
      (one t old new (step.Break (i + 1)) reply.Broken i l ends leads lt
      (break_follows first_base (events old.core.config t) old.core core (sessions t) (stood old.core t (i + 1) k o p e core same) (i + 1) o.there a.open' (ended old.core t (i + 1) k o p e core same p k refl refl refl ab))
      same refl refl refl (λ q. refl)
      (record { sender = f.sender ∙ o.stands.sender; job = f.job ∙ o.stands.job; at = subst (stands.IsAt old.core.config.page_size l (ends s)) (sym f.reader) refl }))

-- a connection that has a reader
pub some_reader : (r : Option Progress) (b : Bool) → is_some r ≡ not b → b ≡ false → (p : Progress) × (r ≡ Some p)
some_reader None b e f = absurd (true_false (sym (e ∙ ap not f)))
some_reader (Some p) b e f = (p, refl)
