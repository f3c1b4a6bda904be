-- The entries of lines that are audited are legal.
use Rattle.std.proofs.Common.{◌≡◌, ◌∙◌, ℕ, List, [], ◌∷◌, ap, refl, sym, subst}
use Rattle.std.specs.Prelude.{Option}
use Rattle.config_values.specs.Config.{Config}
use Rattle.spool_history.specs.Base.{Base}
use Rattle.spool_history.specs.Events.{Event}
use Rattle.spool_history.specs.Legal.{IsLegal}
use Rattle.spool_laws.specs.Freeing.{WiderIsLegal}
use Rattle.account.specs.declared.entry.Outline.{Outline}
use Rattle.account.specs.Seen.{octets}
use Rattle.segment_text.specs.declared.items.Stage.{Stage}
use Rattle.segment_text.specs.declared.items.Stage.TheVariants as stage
use Rattle.segment_text.specs.Heads.{Begin, Start}
use Rattle.segment_text.specs.Heads.Begin.{AtBase, Amid}
use Rattle.segment_text.specs.Items.{Item, Suits, stage_after, stage_of}
use Rattle.segment_text.specs.Items.Item.{OfOrigin, OfConfig, OfPrinter, OfStart, OfEvent, OfLast}
use Rattle.segment_audit.specs.Audited.{AreAudited, Course, course_from, course_of, events_of, from_base, given, head_of, present}
use Rattle.segment_audit.specs.Meant.{AuditedAreLegal, RunsAreLegal, SegmentsAreTheirOwn}

-- before the entries there is none
abbrev HasNone : Stage → List (Event Outline) → Type 0
HasNone stage.Entries es = Unit {0}
HasNone _ es = es ≡ []

none_at : (s : Stage) (i : Item) (es : List (Event Outline)) → HasNone s es → Suits s i → (s ≡ stage.Entries → ⊥) → es ≡ []
none_at stage.Origin i es h u n = h
none_at stage.Config i es h u n = h
none_at (stage.Printers k) i es h u n = h
none_at stage.Entries i es h u n = absurd (n refl)
none_at stage.Over i es h u n = h

not_origin : (o : _) (s : Stage) → Suits s (OfOrigin o) → s ≡ stage.Entries → ⊥
not_origin o s u e = subst (λ (t : Stage). Suits t (OfOrigin o)) e u

not_config : (c : _) (s : Stage) → Suits s (OfConfig c) → s ≡ stage.Entries → ⊥
not_config c s u e = subst (λ (t : Stage). Suits t (OfConfig c)) e u

not_start : (b : _) (s : Stage) → Suits s (OfStart b) → s ≡ stage.Entries → ⊥
not_start b s u e = subst (λ (t : Stage). Suits t (OfStart b)) e u

printer_none : (p : _) (s : Stage) (es : List (Event Outline)) → HasNone s es → HasNone (stage_after s (OfPrinter p)) es
printer_none p stage.Origin es h = h
printer_none p stage.Config es h = h
printer_none p (stage.Printers k) es h = h
printer_none p stage.Entries es h = tt
printer_none p stage.Over es h = h

none : (after : Option (List ℕ)) (is : List Item) → AreAudited after is → HasNone (stage_of (present is)) (events_of (present is))
none after [] a = refl
none after (OfOrigin o ∷ is) a =
    none_at (stage_of (present is)) (OfOrigin o) (events_of (present is)) (none after is a.1) a.0.0.0 (not_origin o (stage_of (present is)) a.0.0.0)
none after (OfConfig c ∷ is) a =
    none_at (stage_of (present is)) (OfConfig c) (events_of (present is)) (none after is a.1) a.0.0.0 (not_config c (stage_of (present is)) a.0.0.0)
none after (OfPrinter p ∷ is) a = printer_none p (stage_of (present is)) (events_of (present is)) (none after is a.1)
none after (OfStart b ∷ is) a = tt
none after (OfEvent e ∷ is) a = tt
none after (OfLast l ∷ is) a = refl

-- where a run goes on amid its jobs, it was legal before
abbrev IsLawful : Course → Type 0
IsLawful c = IsLegal octets c.config c.base c.events

started : (law : WiderIsLegal Outline) (config : Config) (s : Start) (was : Course) (g : Begin) → IsLawful was → IsLawful (course_from g config s was)
started law config s was (AtBase b) l = tt
started law config s was (Amid since freed) l = law octets was.config was.base was.events (given was) l

pub legal : (law : WiderIsLegal Outline) → RunsAreLegal
legal law after [] a = tt
legal law after (OfOrigin o ∷ is) a = legal law after is a.1
legal law after (OfConfig c ∷ is) a = legal law after is a.1
legal law after (OfPrinter p ∷ is) a = legal law after is a.1
legal law after (OfStart s ∷ is) a = started law (head_of (present is)).config s (course_of is) s.begin (legal law after is a.1)
legal law after (OfEvent e ∷ is) a = (a.0.1, legal law after is a.1)
legal law after (OfLast l ∷ is) a = legal law after is a.1

-- the course of a segment that begins from a base is its own
event_of : (e : _) (s : Stage) → Suits s (OfEvent e) → s ≡ stage.Entries
event_of e stage.Origin u = absurd u
event_of e stage.Config u = absurd u
event_of e (stage.Printers k) u = absurd u
event_of e stage.Entries u = refl
event_of e stage.Over u = absurd u

printers_stay : (p : _) (s : Stage) → Suits s (OfPrinter p) → stage_after s (OfPrinter p) ≡ stage.Entries → ⊥
printers_stay p stage.Origin u e = u
printers_stay p stage.Config u e = u
printers_stay p (stage.Printers k) u e = cc e
printers_stay p stage.Entries u e = u
printers_stay p stage.Over u e = u

pub own : SegmentsAreTheirOwn
own after [] b a e g = absurd cc
own after (OfOrigin o ∷ is) b a e g = absurd (cc e)
own after (OfConfig c ∷ is) b a e g = absurd (cc e)
own after (OfPrinter p ∷ is) b a e g = absurd (printers_stay p (stage_of (present is)) a.0.0.0 e)
own after (OfStart s ∷ is) b a e g =
    let n : events_of (present is) ≡ [] =
    none_at (stage_of (present is)) (OfStart s) (events_of (present is)) (none after is a.1) a.0.0.0 (not_start s (stage_of (present is)) a.0.0.0) in
    let from : (h : Begin) → h ≡ AtBase b → course_from h (head_of (present is)).config s (course_of is) ≡ from_base (head_of (present is)).config s b = λ h is_. ap (λ (x : Begin). course_from x (head_of (present is)).config s (course_of is)) is_ in
    let f = from s.begin g in
    record {
      base = ap (λ (x : Course). x.base) f;
      config = ap (λ (x : Course). x.config) f;
      events = ap (λ (x : Course). x.events) f ∙ sym n;
    }
own after (OfEvent e ∷ is) b a s g =
    let before = own after is b a.1 (event_of e (stage_of (present is)) a.0.0.0) g in
    record {
      base = before.base;
      config = before.config;
      events = ap (λ (es : List (Event Outline)). e ∷ es) before.events;
    }
own after (OfLast l ∷ is) b a e g = absurd (cc e)

pub audited : (law : WiderIsLegal Outline) → AuditedAreLegal
audited law after is b a e g =
    let o = own after is b a e g in
    subst (λ (es : List (Event Outline)). IsLegal octets (head_of (present is)).config b es) o.events
    (subst (λ (c : Config). IsLegal octets c b (course_of is).events) o.config
    (subst (λ (x : Base). IsLegal octets (course_of is).config x (course_of is).events) o.base (legal law after is a)))
