-- Whose page a printer gets.
use Rattle.std.proofs.Common.{inl, inr, ◌≡◌, ◌==◌, ℕ, ◌<◌, Bool, true, false, List, [], ◌∷◌, length, get_or, map, refl, sym, ◌∙◌, ap, subst, arith}
use Rattle.std.specs.Prelude.{◌||◌, ◌&&◌, not, find, Option, Some, None}
use Rattle.std.specs.List.{list_any}
use Rattle.std.proofs.lemmas.List.{length-map, get_or-map}
use Rattle.std.proofs.lemmas.Bool.Decides.{nat_tests}
use Rattle.held_jobs.specs.Jobs.{Facts, HeldJob}
use Rattle.held_jobs.specs.Shown.{ShownJob, see_job}
use Rattle.held_jobs.specs.Turns as T
use Rattle.held_jobs.specs.Turns.{FirstOf, TurnAt, facts_in, no_facts}
use Rattle.config_values.specs.Config.{Config, IsPrinter, IsQueue}
use Rattle.spool_history.specs.Base.{Base}
use Rattle.spool_history.specs.Events.{Event}
use Rattle.spool_history.specs.Said.{began_at}
use Rattle.spool_history.specs.Now.{Job, Printer, now, is_received}
use Rattle.spool_history.specs.Next.{is_preceded_by, is_ready, turn_of, or_first, printer_at}
use Rattle.spool_history.specs.Legal.{IsLegal}
use Rattle.spool_laws.proofs.Known.{known}
use Rattle.std.proofs.lemmas.Bool.{and_parts, not-true}
use Rattle.std.proofs.lemmas.List.Recursion.{found_at, found_nowhere}
use Rattle.std.proofs.lemmas.Simd.{map-map}
use Rattle.spool_laws.proofs.Facts.{facts}
use Rattle.spool_laws.proofs.Busy.{received_if}
use Rattle.spool_laws.proofs.Printers.{at_printer}
use Rattle.step_lemmas.specs.Standing.{no_job}
use Rattle.step_lemmas.proofs.HeldJobs.Standing.{has_get}
use Rattle.step_lemmas.proofs.HeldJobs.Queued.{job_queued}
use Rattle.spool_calls.specs.Looks.{Detail, What, size}
use Rattle.spool_calls.specs.Kept.{Kept, Leaves, left_by, look, shown_job, facts_of, phase_of}
use Rattle.step_lemmas.proofs.Cores.Leaving.{jobs_len}
use Rattle.step_lemmas.proofs.Cores.Phases.{ended_is, received_is}

module _ {C : Type 0} (c : Config) where
  earlier : (w : Job C) (vs : List (Job C)) → list_any (T.is_preceded_by (facts_of c w)) (map (facts_of c) vs) ≡ list_any (is_preceded_by w) vs
  earlier w [] = refl
  earlier w (y ∷ ys) = ap (λ (b : Bool). is_preceded_by w y || b) (earlier w ys)

  abbrev pub is_ready_of : List (Job C) → ℕ → Job C → Bool
  is_ready_of vs q w = (w.queue == q) && is_ready vs w

  abbrev pub is_going : ℕ → Job C → Bool
  is_going j w = (w.number == j) && not w.ended

  ready_same : (vs : List (Job C)) (q : ℕ) (w : Job C) → T.ready_in (map (facts_of c) vs) q (facts_of c w) ≡ is_ready_of vs q w
  ready_same vs q w =
      ap (λ (b : Bool). (w.queue == q) && (T.is_received (phase_of w) && ((w.handed == 0) && not b))) (earlier w vs)
      ∙ ap (λ (b : Bool). (w.queue == q) && b) (received_is w.ended (is_received w) ((w.handed == 0) && not (list_any (is_preceded_by w) vs)))

  goes_same : (j : ℕ) (w : Job C) → T.goes_on j (facts_of c w) ≡ is_going j w
  goes_same j w = ap (λ (b : Bool). (w.number == j) && not b) (ended_is w.ended (is_received w))

  facts_at : (vs : List (Job C)) (i : ℕ) → i < length vs → get_or (map (facts_of c) vs) i no_facts ≡ facts_of c (get_or vs i no_job)
  facts_at vs i lt = get_or-map (facts_of c) vs i no_job no_facts lt

  abbrev pub at_place : List (Job C) → Option ℕ → Option (Job C)
  at_place vs None = None
  at_place vs (Some i) = Some (get_or vs i no_job)

  -- what a test says of a job, it says of what is known of it
  module _ (test : Facts → Bool) (test' : Job C → Bool) (vs : List (Job C)) (same : (x : Job C) → test (facts_of c x) ≡ test' x) where
    here : (i : ℕ) (b : Bool) → i < length vs → test (get_or (map (facts_of c) vs) i no_facts) ≡ b → test' (get_or vs i no_job) ≡ b
    here i b lt e = sym (same (get_or vs i no_job)) ∙ (ap test (sym (facts_at vs i lt)) ∙ e)

    first_is : (r : Option ℕ) → FirstOf test (map (facts_of c) vs) r → find test' vs ≡ at_place vs r
    first_is None f =
        found_nowhere (find test') test' (λ (x : Job C). Some x) None refl (λ x xs. refl) vs no_job
        (λ i lt. here i false lt (f i (let n = length-map vs (facts_of c) in omega (arith, n, lt))))
    first_is (Some i) f =
        let n = length-map vs (facts_of c) in
        let lt = f.0 in
        found_at (find test') test' (λ (x : Job C). Some x) None refl (λ x xs. refl) vs i no_job (omega (arith, n, lt))
        (λ m less. here m false (omega (arith, n, lt, less)) (f.2 m less)) (here i true (omega (arith, n, lt)) f.1)

  -- the place that is found is that of the job whose turn it is
  pub turn_is : (vs : List (Job C)) (q : ℕ) (began r : Option ℕ) → TurnAt (map (facts_of c) vs) q began r → turn_of vs q began ≡ at_place vs r
  turn_is vs q None r t = first_is (T.ready_in (map (facts_of c) vs) q) (is_ready_of vs q) vs (ready_same vs q) r t
  turn_is vs q (Some j) r t = elim t [
    | inl s ↦ ap (or_first vs q) (first_is (T.goes_on j) (is_going j) vs (goes_same j) (Some s.0) s.2) ∙ ap (at_place vs) (sym s.1)
    | inr s ↦ ap (or_first vs q) (first_is (T.goes_on j) (is_going j) vs (goes_same j) None s.0) ∙ first_is (T.ready_in (map (facts_of c) vs) q) (is_ready_of vs q) vs (ready_same vs q) r s.1
  ]

  -- the job whose turn it is is received and hasn't ended

  abbrev pub Goes : Job C → Type 0
  Goes x = (x.ended ≡ false) × (is_received x ≡ true)

  ready_goes : (vs : List (Job C)) (q : ℕ) (x : Job C) → is_ready_of vs q x ≡ true → Goes x
  ready_goes vs q x e =
      let a = and_parts (x.queue == q) (is_ready vs x) e in
      let rest = (x.handed == 0) && not (list_any (is_preceded_by x) vs) in
      let b = and_parts (is_received x) (not x.ended && rest) a.1 in
      let d = and_parts (not x.ended) rest b.1 in
      (not-true x.ended d.0, b.0)

  goes_first : (vs : List (Job C)) (q i : ℕ) → i < length vs → FirstOf (T.ready_in (map (facts_of c) vs) q) (map (facts_of c) vs) (Some i) → Goes (get_or vs i no_job)
  goes_first vs q i lt f = ready_goes vs q (get_or vs i no_job) (sym (ready_same vs q (get_or vs i no_job)) ∙ (ap (T.ready_in (map (facts_of c) vs) q) (sym (facts_at vs i lt)) ∙ f.1))

  module _ (size : C → ℕ) (base : Base) (h : List (Event C)) (l : IsLegal size c base h) where
    begun_goes : (p j i : ℕ) → IsPrinter c p → i < length (now c base h).jobs → (printer_at (now c base h) p).began ≡ Some j → is_going j (get_or (now c base h).jobs i no_job) ≡ true → Goes (get_or (now c base h).jobs i no_job)
    begun_goes p j i is lt began e =
        let x = get_or (now c base h).jobs i no_job in
        let a = and_parts (x.number == j) (not x.ended) e in
        let n : x.number ≡ j = (let z = a.0 in grind (arith, nat_tests)) in
        let f = facts size c base h l in
        let at : began_at h p ≡ Some j = ap (λ (q : Printer C). q.began) (sym (at_printer c base h p is.0 is.1)) ∙ began in
        let r = received_if h j f (f.began p j at) in
        let kn = known c base h x (has_get (now c base h).jobs i no_job lt) in
        let same : j ≡ kn.opening.job = sym n ∙ ap (λ (u : Job C). u.number) kn.is in
        (not-true x.ended a.1, ap is_received kn.is ∙ subst (λ (m : ℕ). Rattle.spool_laws.proofs.Facts.received_at h m ≡ true) same r)

    goes_turn : (p i : ℕ) (began : Option ℕ) (q : ℕ) → IsPrinter c p → i < length (now c base h).jobs → (printer_at (now c base h) p).began ≡ began → TurnAt (map (facts_of c) (now c base h).jobs) q began (Some i) → Goes (get_or (now c base h).jobs i no_job)
    goes_turn p i None q is lt b t = goes_first (now c base h).jobs q i lt t
    goes_turn p i (Some j) q is lt b t = elim t [
      | inl s ↦
          let e : Some i ≡ Some s.0 = s.1 in
          let same : i ≡ s.0 = cc in
          let g : FirstOf (T.goes_on j) (map (facts_of c) (now c base h).jobs) (Some i) = subst (λ (m : ℕ). FirstOf (T.goes_on j) (map (facts_of c) (now c base h).jobs) (Some m)) (sym same) s.2 in
          begun_goes p j i is lt b (sym (goes_same j (get_or (now c base h).jobs i no_job)) ∙ (ap (T.goes_on j) (sym (facts_at (now c base h).jobs i lt)) ∙ g.1))
      | inr s ↦ goes_first (now c base h).jobs q i lt s.1
    ]

turn_there : (jobs : List Facts) (q : ℕ) (began : Option ℕ) (i : ℕ) → TurnAt jobs q began (Some i) → i < length jobs
turn_there jobs q None i t = t.0
turn_there jobs q (Some j) i t = elim t [ inl s ↦ (let e : Some i ≡ Some s.0 = s.1 in let same : i ≡ s.0 = cc in let lt = s.2.0 in omega arith) | inr s ↦ s.1.0 ]

module _ (d : Detail) (b : Base) (h : List (Event (What d))) (k : Kept) (l : Leaves d b h k) where
  -- what is known of the jobs of the book
  pub facts_kept : facts_in k.book.jobs ≡ map (facts_of k.config) (left_by d b h k).jobs
  facts_kept =
      let facts : ShownJob (What d) → Facts = λ s. s.facts in
      sym (map-map facts (see_job (look d)) k.book.jobs) ∙ (ap (map facts) l.kept.book.jobs ∙ map-map facts (shown_job k.config) (left_by d b h k).jobs)

  -- the turn in the words of the history
  pub turn_here : (q : ℕ) (began r : Option ℕ) → TurnAt (facts_in k.book.jobs) q began r → turn_of (left_by d b h k).jobs q began ≡ at_place k.config (left_by d b h k).jobs r
  turn_here q began r t = turn_is k.config (left_by d b h k).jobs q began r (subst (λ (js : List Facts). TurnAt js q began r) facts_kept t)

  -- what is known of the job whose turn it is
  pub record Turns (i : ℕ) : Type 0 where
    pub there : i < length (left_by d b h k).jobs
    pub goes : Goes k.config (get_or (left_by d b h k).jobs i no_job)
    pub queue : IsQueue k.config (get_or (left_by d b h k).jobs i no_job).queue

  pub turns : (p i : ℕ) (q : ℕ) (began : Option ℕ) → IsPrinter k.config p → (printer_at (left_by d b h k) p).began ≡ began → TurnAt (facts_in k.book.jobs) q began (Some i) → Turns i
  turns p i q began is eb t =
      let v = left_by d b h k in
      let n = jobs_len d b h k l in
      let there : i < length v.jobs = omega (arith, turn_there (facts_in k.book.jobs) q began i t, length-map k.book.jobs (λ (j : HeldJob). j.facts)) in
      record {
        there = there;
        goes = goes_turn k.config (size d) b h l.legal p i began q is there eb (subst (λ (js : List Facts). TurnAt js q began (Some i)) facts_kept t);
        queue = job_queued (size d) k.config b h (get_or v.jobs i no_job) l.legal (has_get v.jobs i no_job there);
      }
