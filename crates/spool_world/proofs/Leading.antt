-- One more step of a world.
use Rattle.std.proofs.Common.{◌≡◌, inl, inr, ℕ, ◌+◌, ◌-◌, ◌<◌, List, ◌∷◌, Option, None, length, get_or, set, length-set, get_or-set_same, get_or-set_other, arith, refl, sym, subst, ap, ◌∙◌}
use Rattle.config_values.specs.Config.{Config, IsPrinter}
use Rattle.spool_history.specs.Base.{first_base}
use Rattle.spool_history.specs.Next.{printer_at}
use Rattle.spool_laws.proofs.Known.{test}
use Rattle.spool_calls.specs.declared.handed.HandedPage.{HandedPage}
use Rattle.spool_trace.specs.declared.step.Step.{Step}
use Rattle.spool_trace.specs.declared.reply.Reply.{Reply}
use Rattle.spool_trace.specs.Trace.{Trace}
use Rattle.spool_trace.specs.Sessions.{Session, change_at, session_at, sessions}
use Rattle.spool_trace.specs.Shown.{events, spool_after}
use Rattle.spool_trace.specs.Hands.{out_after}
use Rattle.spool_trace.specs.Replies.{IsReply, IsSession}
use Rattle.spool_trace.specs.Follows.{StepFollows}
use Rattle.spool_trace.proofs.Outs.{outs}
use Rattle.spool_trace.proofs.Standing.{other_at, same_at}
use Rattle.spool_world.specs.declared.connection.Connection.{Connection}
use Rattle.spool_world.specs.Stands.{Stands}
use Rattle.spool_world.specs.Turns.{IsOf}
use Rattle.spool_world.specs.Worlds.{IsOut, Leads, LeadsIn, Steps, Worlds, entry}

-- what a step owes
pub record Moves (t : Trace) (old new : Worlds) (st : Step) (re : Reply) : Type 0 where
  pub follows : StepFollows first_base (events old.core.config t) old.core new.core (sessions t) st re
  pub same : new.core.config ≡ old.core.config
  pub count' : length new.connections ≡ length (sessions (entry st re ∷ t))
  pub each : (i : ℕ) (other : Connection) → i < length new.connections
      → Stands old.core.config.page_size (get_or new.connections i other) (session_at (sessions (entry st re ∷ t)) (i + 1))
  pub outs' : (p : ℕ) → IsPrinter old.core.config p
      → IsOut old.core.config.page_size (get_or new.pages (p - 1) None) (out_after st re p (printer_at (spool_after old.core.config t) p).out)

pub leads_on : (t : Trace) (old new : Worlds) (st : Step) (re : Reply) → Leads t old → Moves t old new st re → IsReply old.core.config t st re × Leads (entry st re ∷ t) new
leads_on t old new st re l m = (
  m.follows.is,
  subst (λ (c : Config). LeadsIn c (entry st re ∷ t) new) (sym m.same) (record {
    ranges = l.ranges;
    right = (m.follows.is, l.right);
    core = m.follows.left;
    count = m.count';
    connections = m.each;
    printers = λ p is. subst (IsOut old.core.config.page_size (get_or new.pages (p - 1) None)) (sym (outs old.core.config t st re m.follows.is p is)) (m.outs' p is);
  }),
)

-- a step that leaves the connections and the pages alone, and is said of no session
pub record Leaves' (t : Trace) (old new : Worlds) (st : Step) (re : Reply) : Type 0 where
  pub follows : StepFollows first_base (events old.core.config t) old.core new.core (sessions t) st re
  pub same : new.core.config ≡ old.core.config
  pub connections : new.connections ≡ old.connections
  pub sessions' : sessions (entry st re ∷ t) ≡ sessions t

pub alone : (t : Trace) (old new : Worlds) (st : Step) (re : Reply) → Leads t old → Leaves' t old new st re
    → ((p : ℕ) → IsPrinter old.core.config p → IsOut old.core.config.page_size (get_or new.pages (p - 1) None) (out_after st re p (printer_at (spool_after old.core.config t) p).out))
    → IsReply old.core.config t st re × Leads (entry st re ∷ t) new
alone t old new st re l m o = leads_on t old new st re l (record {
  follows = m.follows;
  same = m.same;
  count' = ap length m.connections ∙ l.count ∙ ap length (sym m.sessions');
  each = λ i other lt.
      subst (λ (ss : List Session). Stands old.core.config.page_size (get_or new.connections i other) (session_at ss (i + 1))) (sym m.sessions')
      (subst (λ (ks : List Connection). Stands old.core.config.page_size (get_or ks i other) (session_at (sessions t) (i + 1))) (sym m.connections) (l.connections i other (subst (λ (ks : List Connection). i < length ks) m.connections lt)));
  outs' = o;
})

-- a step that changes nothing
pub nothing : (t : Trace) (old new : Worlds) (st : Step) (re : Reply) → Leads t old → new ≡ old → StepFollows first_base (events old.core.config t) old.core old.core (sessions t) st re → sessions (entry st re ∷ t) ≡ sessions t
    → ((p : ℕ) → out_after st re p (printer_at (spool_after old.core.config t) p).out ≡ (printer_at (spool_after old.core.config t) p).out) → IsReply old.core.config t st re × Leads (entry st re ∷ t) new
nothing t old new st re l e f ss o = subst (λ (w : Worlds). IsReply old.core.config t st re × Leads (entry st re ∷ t) w) (sym e)
    (alone t old old st re l (record { follows = f; same = refl; connections = refl; sessions' = ss })
    (λ p is. subst (IsOut old.core.config.page_size (get_or old.pages (p - 1) None)) (sym (o p)) (l.printers p is)))

-- the session of a connection is there
pub here : (t : Trace) (w : Worlds) (i : ℕ) → Leads t w → i < length w.connections → IsSession (sessions t) (i + 1)
here t w i l lt = (let n = l.count in (omega (arith), omega (arith, lt, n)))

-- a step of a session: its connection is where the step leaves the session
pub one : (t : Trace) (old new : Worlds) (st : Step) (re : Reply) (i : ℕ) (l : Connection) (f : Session → Session) → Leads t old → i < length old.connections
    → StepFollows first_base (events old.core.config t) old.core new.core (sessions t) st re → new.core.config ≡ old.core.config → new.connections ≡ set old.connections i l → new.pages ≡ old.pages
    → sessions (entry st re ∷ t) ≡ change_at (i + 1) f (sessions t) → ((p : ℕ) → out_after st re p (printer_at (spool_after old.core.config t) p).out ≡ (printer_at (spool_after old.core.config t) p).out)
    → Stands old.core.config.page_size l (f (session_at (sessions t) (i + 1))) → IsReply old.core.config t st re × Leads (entry st re ∷ t) new
one t old new st re i l f leads lt follows same ks pages ss o stands = leads_on t old new st re leads (record {
  follows = follows;
  same = same;
  count' = ap length ks ∙ length-set old.connections i l ∙ leads.count ∙ sym (length-set (sessions t) (i + 1 - 1) (f (session_at (sessions t) (i + 1)))) ∙ ap length (sym ss);
  each = λ j other less.
      subst (λ (x : List Session). Stands old.core.config.page_size (get_or new.connections j other) (session_at x (j + 1))) (sym ss)
      (subst (λ (x : List Connection). Stands old.core.config.page_size (get_or x j other) (session_at (change_at (i + 1) f (sessions t)) (j + 1))) (sym ks)
      (elim (test j i) [
        | inl e ↦
            subst (λ (x : ℕ). Stands old.core.config.page_size (get_or (set old.connections i l) x other) (session_at (change_at (i + 1) f (sessions t)) (x + 1))) (sym e.0)
            (subst (λ (x : Connection). Stands old.core.config.page_size x (session_at (change_at (i + 1) f (sessions t)) (i + 1))) (sym (get_or-set_same old.connections i l other lt))
            (subst (Stands old.core.config.page_size l) (sym (same_at (sessions t) (i + 1) f (here t old i leads lt))) stands))
        | inr e ↦
            subst (λ (x : Connection). Stands old.core.config.page_size x (session_at (change_at (i + 1) f (sessions t)) (j + 1))) (sym (get_or-set_other old.connections i j l other e.0))
            (subst (Stands old.core.config.page_size (get_or old.connections j other)) (sym (other_at (sessions t) (i + 1) (j + 1) f (omega (arith)) (omega (arith)) (λ x. e.0 (omega (arith, x)))))
            (leads.connections j other (let n = ap length ks ∙ length-set old.connections i l in omega (arith, less, n))))
      ]));
  outs' = λ p is. subst (λ (x : List (Option HandedPage)). IsOut old.core.config.page_size (get_or x (p - 1) None) (out_after st re p (printer_at (spool_after old.core.config t) p).out)) (sym pages)
      (subst (IsOut old.core.config.page_size (get_or old.pages (p - 1) None)) (sym (o p)) (leads.printers p is));
})

-- the connection of a session is one of a right trace
pub is_of : (t : Trace) (w : Worlds) (i : ℕ) (other : Connection) → Leads t w → i < length w.connections → IsOf w.core t (i + 1) (get_or w.connections i other)
is_of t w i other l lt = record {
  ranges = l.ranges;
  right = l.right;
  left = l.core;
  there = here t w i l lt;
  stands = l.connections i other lt;
}

-- a step of a world by what is seen of it
pub at_view : (old now new : Worlds) (st : Step) (re : Reply) → old ≡ now → Steps old st re new → Steps now st re new
at_view old now new st re e f = subst (λ (w : Worlds). Steps w st re new) e f

-- a reply by another name
pub replied : (old new : Worlds) (st : Step) (re said : Reply) → re ≡ said → Steps old st said new → Steps old st re new
replied old new st re said e f = subst (λ (x : Reply). Steps old st x new) (sym e) f
