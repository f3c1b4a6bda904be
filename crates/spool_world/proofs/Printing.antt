-- The steps of printers.
use Rattle.std.proofs.Common.{◌≡◌, ◌==◌, ℕ, ◌-◌, Bool, cond, List, ◌∷◌, Option, Some, None, Result, Ok, inl, inr, length, get_or, set, length-set, get_or-set_same, get_or-set_other, arith, refl, sym, subst, ap, ◌∙◌}
use Rattle.account.specs.declared.entry.Progress.{Progress}
use Rattle.config_values.specs.Config.{IsPrinter, printer_count}
use Rattle.spool_history.specs.Base.{first_base}
use Rattle.spool_history.specs.Events.{Sheet}
use Rattle.spool_history.specs.Next.{printer_at}
use Rattle.spool_laws.proofs.Known.{test}
use Rattle.spool_calls.specs.declared.answers.Foreign.{Foreign}
use Rattle.spool_calls.specs.declared.answers.Next.{Next}
use Rattle.spool_calls.specs.declared.answers.Next.TheVariants as next
use Rattle.spool_calls.specs.declared.handed.HandedPage.{HandedPage}
use Rattle.spool_calls.specs.Looks.Detail.{Octets}
use Rattle.spool_calls.specs.Kept.{Kept}
use Rattle.spool_calls.specs.Calls.{IsRight, Fails, Hands, Prints}
use Rattle.spool_requests.specs.Follows.{Stood}
use Rattle.spool_trace.specs.declared.reply.Given.{Given}
use Rattle.spool_trace.specs.declared.reply.Given.TheVariants as given
use Rattle.spool_trace.specs.declared.reply.Reply.{Reply}
use Rattle.spool_trace.specs.declared.reply.Reply.TheVariants as reply
use Rattle.spool_trace.specs.declared.step.Step.{Step}
use Rattle.spool_trace.specs.declared.step.Step.TheVariants as step
use Rattle.spool_trace.specs.Trace.{Trace}
use Rattle.spool_trace.specs.Sessions.{sessions}
use Rattle.spool_trace.specs.Shown.{events, spool_after}
use Rattle.spool_trace.specs.Hands.{out_after}
use Rattle.spool_trace.specs.Replies.{IsReply}
use Rattle.spool_trace.specs.Follows.{IsItsPage, StepFollows, given_by}
use Rattle.spool_trace.proofs.Steps.{fail_follows, next_follows, print_follows}
use Rattle.spool_world.specs.Worlds.{IsOut, Leads, Steps, TakesPage, Worlds, entry, sheet_of, shown_page, with_page, without_page}
use Rattle.spool_world.proofs.Leading.{alone, at_view, nothing, replied}

-- no page is handed out
abbrev IsQuiet : Next → Type 0
IsQuiet (next.Handed page) = ⊥
IsQuiet q = Unit {0}

module _ (old : Worlds) (p : ℕ) (ip : IsPrinter old.core.config p) (few : length old.pages ≡ printer_count old.core.config) where
  abbrev size : ℕ
  size = old.core.config.page_size

  stood : (t : Trace) (core : Kept) → Leads t old → core.config ≡ old.core.config → Stood Octets first_base (events old.core.config t) old.core core
  stood t core l same = record { ranges = l.ranges; config = same; left = l.core }

  -- a page that is put at a printer, or taken from it, and the pages of the others
  changed : (q : ℕ) (x : Option HandedPage) (was now : Option (Sheet (List ℕ))) → IsPrinter old.core.config q → IsOut size x now → IsOut size (get_or old.pages (q - 1) None) was
      → IsOut size (get_or (set old.pages (p - 1) x) (q - 1) None) (cond (p == q) now was)
  changed q x was now iq here there = elim (test p q) [
    | inl e ↦
        subst (λ (b : Bool). IsOut size (get_or (set old.pages (p - 1) x) (q - 1) None) (cond b now was)) (sym e.1)
        (subst (λ (y : Option HandedPage). IsOut size y now) (sym (ap (λ (i : ℕ). get_or (set old.pages (p - 1) x) (i - 1) None) (sym e.0) ∙ get_or-set_same old.pages (p - 1) x None (let a = ip.0 in let b = ip.1 in let c = few in omega (arith, a, b, c)))) here)
    | inr e ↦
        subst (λ (b : Bool). IsOut size (get_or (set old.pages (p - 1) x) (q - 1) None) (cond b now was)) (sym e.1)
        (subst (λ (y : Option HandedPage). IsOut size y was) (sym (get_or-set_other old.pages (p - 1) (q - 1) x None (λ i. e.0 (let a = ip.0 in let b = iq.0 in omega (arith, a, b, i))))) there)
  ]

  -- a page was handed out
  pub handed_step : (page : HandedPage) (core : Kept) → core.config ≡ old.core.config → IsRight old.core (λ d b h. Hands d b h old.core p core (next.Handed page))
      → Steps old (step.Next p) (reply.Gave (given.Page (shown_page page))) (with_page (record old { core = core }) p page)
  handed_step page core same right t l =
      let hands = right Octets first_base (events old.core.config t) l.core in
      let new = with_page (record old { core = core }) p page in
      alone t old new (step.Next p) (reply.Gave (given.Page (shown_page page))) l
      (record { follows = next_follows first_base (events old.core.config t) old.core core (sessions t) (stood t core l same) p (next.Handed page) ip hands; same = same; connections = refl; sessions' = refl })
      (λ q iq. changed q (Some page) (printer_at (spool_after old.core.config t) q).out (Some (sheet_of page)) iq (refl, hands.2) (l.printers q iq))

  quiet_core : (q : Next) (core : Kept) (t : Trace) → IsQuiet q → Hands Octets first_base (events old.core.config t) old.core p core q → core ≡ old.core
  quiet_core (next.Handed page) core t is hands = absurd is
  quiet_core next.Nothing core t is hands = hands.1
  quiet_core next.Stopped core t is hands = hands.1
  quiet_core next.Busy core t is hands = hands.1
  quiet_core next.Closed core t is hands = hands.1

  quiet_out : (q : Next) (printer : ℕ) (out : Option (Sheet (List ℕ))) → IsQuiet q → out_after (step.Next p) (reply.Gave (given_by q)) printer out ≡ out
  quiet_out (next.Handed page) printer out is = absurd is
  quiet_out next.Nothing printer out is = refl
  quiet_out next.Stopped printer out is = refl
  quiet_out next.Busy printer out is = refl
  quiet_out next.Closed printer out is = refl

  -- nothing was
  given_step : (q : Next) (core : Kept) → IsQuiet q → IsRight old.core (λ d b h. Hands d b h old.core p core q)
      → Steps old (step.Next p) (reply.Gave (given_by q)) (record old { core = core })
  given_step q core is right t l =
      let hands = right Octets first_base (events old.core.config t) l.core in
      let same = quiet_core q core t is hands in
      nothing t old (record old { core = core }) (step.Next p) (reply.Gave (given_by q)) l (ap (λ (k : Kept). record old { core = k }) same)
      (next_follows first_base (events old.core.config t) old.core old.core (sessions t) (stood t old.core l refl) p q ip (subst (λ (k : Kept). Hands Octets first_base (events old.core.config t) old.core p k q) same hands)) refl
      (λ printer. quiet_out q printer (printer_at (spool_after old.core.config t) printer).out is)

  -- the page at a printer is its own
  its : (t : Trace) (page : HandedPage) (out : Option (Sheet (List ℕ))) → (printer_at (spool_after old.core.config t) p).out ≡ out → IsOut size (Some page) out → IsItsPage first_base (events old.core.config t) old.core p page
  its t page None e is = absurd is
  its t page (Some sheet) e is = record { printer = ip; out = e ∙ ap (λ (x : Sheet (List ℕ)). Some x) (sym is.0); size = is.1 }

  its_page : (t : Trace) (page : HandedPage) → Leads t old → get_or old.pages (p - 1) None ≡ Some page → IsItsPage first_base (events old.core.config t) old.core p page
  its_page t page l e = its t page (printer_at (spool_after old.core.config t) p).out refl (subst (λ (x : Option HandedPage). IsOut size x (printer_at (spool_after old.core.config t) p).out) e (l.printers p ip))

  -- a page came back to the core, and its printer has none
  came_back : (t : Trace) (st : Step) (re said : Reply) (core : Kept) → Leads t old → re ≡ said → core.config ≡ old.core.config
      → StepFollows first_base (events old.core.config t) old.core core (sessions t) st said → sessions (entry st said ∷ t) ≡ sessions t
      → ((q : ℕ) (out : Option (Sheet (List ℕ))) → out_after st said q out ≡ cond (p == q) None out)
      → IsReply old.core.config t st re × Leads (entry st re ∷ t) (record (without_page old p) { core = core })
  came_back t st re said core l is same follows ss outs =
      let new = record (without_page old p) { core = core } in
      subst (λ (r : Reply). IsReply old.core.config t st r × Leads (entry st r ∷ t) new) (sym is)
      (alone t old new st said l (record { follows = follows; same = same; connections = refl; sessions' = ss })
      (λ q iq.
      let was = (printer_at (spool_after old.core.config t) q).out in
      subst (IsOut size (get_or new.pages (q - 1) None)) (sym (outs q was)) (changed q None was None iq tt (l.printers q iq))))

-- no page was handed out, by what is seen of the world
pub quiet_step : {now seen new : Worlds} {p : ℕ} {core : Kept} {result q : Next} {said : Given} → IsPrinter seen.core.config p → length seen.pages ≡ printer_count seen.core.config
    → seen ≡ now → result ≡ q → IsQuiet q → said ≡ given_by q → new ≡ record seen { core = core } → IsRight seen.core (λ d b h. Hands d b h seen.core p core result)
    → Steps now (step.Next p) (reply.Gave said) new
quiet_step {now} {seen} {new} {p} {core} {result} {q} {said} ip few view is quiet given self right =
    at_view seen now new (step.Next p) (reply.Gave said) view
    (subst (λ (w : Worlds). Steps seen (step.Next p) (reply.Gave said) w) (sym self)
    (replied seen (record seen { core = core }) (step.Next p) (reply.Gave said) (reply.Gave (given_by q)) (ap (λ (g : Given). reply.Gave g) given)
    (given_step seen p ip few q core quiet (subst (λ (x : Next). IsRight seen.core (λ d b h. Hands d b h seen.core p core x)) is right))))

-- the core where the page of a printer was taken
at_core : (old mid : Worlds) (p : ℕ) (P : Kept → Type 0) → mid ≡ without_page old p → P mid.core → P old.core
at_core old mid p P e x = subst (λ (w : Worlds). P w.core) e x

-- what was taken, by what is seen of the world then
pub taken : (old mid seen : Worlds) (p : ℕ) (page : HandedPage) (result : Result HandedPage Reply)
    → TakesPage old p result mid → result ≡ Ok page → seen ≡ mid → TakesPage old p (Ok page) seen
taken old mid seen p page result takes is view =
    subst (TakesPage old p (Ok page)) (sym view) (subst (λ (r : Result HandedPage Reply). TakesPage old p r mid) is takes)

-- A page was taken from its printer, and the core was told what came of it.
module _ (old mid : Worlds) (p : ℕ) (page : HandedPage) (taken : TakesPage old p (Ok page) mid) (few : length mid.pages ≡ printer_count mid.core.config)
    (core : Kept) (same : core.config ≡ mid.core.config) where
  few' : length old.pages ≡ printer_count old.core.config
  few' =
      sym (length-set old.pages (p - 1) None) ∙ ap (λ (w : Worlds). length w.pages) (sym taken.2)
      ∙ few ∙ ap (λ (w : Worlds). printer_count w.core.config) taken.2

  same' : core.config ≡ old.core.config
  same' = same ∙ ap (λ (w : Worlds). w.core.config) taken.2

  here : (st : Step) (re : Reply) → Steps old st re (record (without_page old p) { core = core }) → Steps old st re (record mid { core = core })
  here st re steps = subst (λ (w : Worlds). Steps old st re (record w { core = core })) (sym taken.2) steps

  -- it was printed
  pub printed_step : (result : Result Progress Foreign) (re : Reply) → IsRight mid.core (λ d b h. Prints d b h mid.core p page core result)
      → ((x : Progress) → result ≡ Ok x → re ≡ reply.Printed x) → Steps old (step.Printed p) re (record mid { core = core })
  printed_step result re right says = here (step.Printed p) re (λ t l.
      let right' = at_core old mid p (λ (k : Kept). IsRight k (λ d b h. Prints d b h k p page core result)) taken.2 right in
      let f = print_follows first_base (events old.core.config t) old.core core (sessions t) (stood old p taken.0 few' t core l same') p page result
      (its_page old p taken.0 few' t page l taken.1) (right' Octets first_base (events old.core.config t) l.core) in
      came_back old p taken.0 few' t (step.Printed p) re (reply.Printed f.0) core l (says f.0 f.1) same' f.2 refl (λ q out. refl))

  -- it failed
  pub failed_step : (result : Result (Unit {0}) Foreign) (re : Reply) → IsRight mid.core (λ d b h. Fails d b h mid.core p page core result)
      → (result ≡ Ok tt → re ≡ reply.Failed) → Steps old (step.Failed p) re (record mid { core = core })
  failed_step result re right says = here (step.Failed p) re (λ t l.
      let right' = at_core old mid p (λ (k : Kept). IsRight k (λ d b h. Fails d b h k p page core result)) taken.2 right in
      let f = fail_follows first_base (events old.core.config t) old.core core (sessions t) (stood old p taken.0 few' t core l same') p page result
      (its_page old p taken.0 few' t page l taken.1) (right' Octets first_base (events old.core.config t) l.core) in
      came_back old p taken.0 few' t (step.Failed p) re reply.Failed core l (says f.0) same' f.1 refl (λ q out. refl))
