-- What others do leaves the job that is being received, and the room for one, as they were.
use Rattle.std.proofs.Common.{◌≡◌, ◌+◌, ℕ, true, false, Bool, List, [], ◌∷◌, length, map, drop, Option, Some, None, refl, sym, ap, subst, ◌∙◌, inl, inr, arith}
use Rattle.std.specs.Prelude.{filter}
use Rattle.config_values.specs.Config.{Config, IsPrinter}
use Rattle.spool_history.specs.Base.{first_base}
use Rattle.spool_history.specs.Acts.{File, Page}
use Rattle.spool_history.specs.Events.{Event, Sheet, Turn}
use Rattle.spool_history.specs.Events.Event.{Opened, OfJob, AtPrinter, Removed, Started, Closed}
use Rattle.spool_history.specs.Events.Turn.{Handed, Printed, Failed}
use Rattle.spool_history.specs.Now.{State, now, is_held, places}
use Rattle.spool_history.specs.Said.{handed_of, back_of}
use Rattle.spool_history.specs.Next.{printer_at}
use Rattle.spool_history.specs.Steps.{accepted_by, after, change}
use Rattle.spool_history.specs.Legal.{HasJob, IsLegal, May, MayBeRemoved}
use Rattle.spool_laws.proofs.Facts.{facts, is_out}
use Rattle.spool_laws.proofs.Known.{Has, has_contained, clash, known, test}
use Rattle.spool_laws.proofs.Moves.{moved}
use Rattle.spool_laws.proofs.Turns.{given}
use Rattle.step_lemmas.proofs.HeldJobs.Moving.{jobs_left}
use Rattle.spool_calls.specs.Looks.Detail.{Octets}
use Rattle.spool_requests.specs.Shows.{with_event}
use Rattle.spool_history.specs.Refusals.{HasEntries}
use Rattle.spool_requests.specs.Due.{MayCome}
use Rattle.lone_jobs.specs.Lone.{Sent, LeavesAlone}
use Rattle.lone_jobs.proofs.Held.{History, Held, held_job, only_has}
use Rattle.lone_jobs.proofs.Owned.{IsNotOf}
use Rattle.lone_jobs.proofs.Places.{progress_at, Place, First, Asking, Ready, Begins, Began, Inside, Told, Last, Facts, Holds, NoJob, q}

only_number : (w : Held) (k : ℕ) {P : Held → Type 0} {jobs : List Held} → jobs ≡ w ∷ [] → HasJob jobs k P → w.number ≡ k
only_number w k {P} {jobs} e m =
    elim (subst (λ (l : List Held). Has m.job l) e (has_contained m.job jobs m.there)) [
      | inl same ↦ ap (λ (x : Held). x.number) same ∙ m.number
      | inr none ↦ absurd none
    ]

no_pages_left : {C : Type 0} (page : Page C) (later : List (Page C)) → ◌≡◌ {A = List (Page C)} [] (page ∷ later) → ⊥
no_pages_left page later e = cc

module _ (c : Config) (h : History) (l : IsLegal length c first_base h) where
  abbrev v : State (List ℕ)
  v = now c first_base h

  module _ (j sender queue g : ℕ) (lent : Bool) (files : List (File (List ℕ))) (one : v.jobs ≡ held_job j sender queue g lent files None ∷ []) where
    abbrev w : Held
    w = held_job j sender queue g lent files None

    -- no printer gets a page of it
    not_handed : (p : ℕ) (sheet : Sheet (List ℕ)) → May length v (AtPrinter p sheet Handed) → ⊥
    not_handed p sheet m =
        let x = (given v p sheet m.1).1 in
        elim (subst (λ (jobs : List Held). Has x.job jobs) one x.turn.there) [
          | inl same ↦ no_pages_left x.gets.page x.gets.later (subst (λ (y : Held). drop y.handed (places y) ≡ x.gets.page ∷ x.gets.later) (sym same) x.gets.left)
          | inr none ↦ absurd none
        ]

    -- and none has one
    not_out : (p : ℕ) (sheet : Sheet (List ℕ)) → IsPrinter c p → (printer_at v p).out ≡ Some sheet → sheet.job ≡ j → ⊥
    not_out p sheet is out same =
        let f = (facts length c first_base h l).out p sheet (is_out c first_base h p sheet is out) in
        let k = known c first_base h w (subst (λ (jobs : List Held). Has w jobs) (sym one) (inl refl)) in
        let number : sheet.job ≡ k.opening.job = same ∙ ap (λ (y : Held). y.number) k.is in
        let handed : 0 ≡ length (handed_of h k.opening.job) = ap (λ (y : Held). y.handed) k.is in
        let now' : length (handed_of h k.opening.job) ≡ back_of h k.opening.job + 1 =
        subst (λ (i : ℕ). length (handed_of h i) ≡ back_of h i + 1) number f.1 in
        omega (arith, handed, now')

    not_removed : (queue' : ℕ) (jobs : List ℕ) → May length v (Removed queue' jobs) → ⊥
    not_removed queue' [] m = (let some = m.2 in omega (arith, some))
    not_removed queue' (i ∷ jobs) m = (let p = only_has v.jobs w i (MayBeRemoved queue') one m.4.0 in clash false p.1 refl)

    turn_spares : (p : ℕ) (sheet : Sheet (List ℕ)) (turn : Turn) → (sheet.job ≡ j → ⊥) → filter is_held (map (change (AtPrinter p sheet turn)) (w ∷ [])) ≡ w ∷ []
    turn_spares p sheet turn ne = elim (test sheet.job j) [ inl s ↦ absurd (ne s.0) | inr s ↦ rw s.1 refl ]

    spared : (e : Event (List ℕ)) → May length v e → LeavesAlone (Some e) → IsNotOf j (Some e) → filter is_held (map (change e) (w ∷ [])) ≡ w ∷ []
    spared (AtPrinter p sheet Handed) m other apart = absurd (not_handed p sheet m)
    spared (AtPrinter p sheet (Printed said)) m other apart = turn_spares p sheet (Printed said) (not_out p sheet m.0 m.1.0)
    spared (AtPrinter p sheet Failed) m other apart = turn_spares p sheet Failed (not_out p sheet m.0 m.1)
    spared (Removed queue' jobs) m other apart = absurd (not_removed queue' jobs m)
    spared (Started queue') m other apart = refl
    spared (Opened k s i) m other apart = absurd other
    spared (OfJob k act) m other apart = absurd (apart (sym (only_number w k one m.0)))
    spared Closed m other apart = absurd other

  accepts_none : (e : Event (List ℕ)) → LeavesAlone (Some e) → accepted_by e ≡ []
  accepts_none (AtPrinter p sheet turn) other = refl
  accepts_none (Removed queue jobs) other = refl
  accepts_none (Started queue) other = refl
  accepts_none (Opened k s i) other = absurd other
  accepts_none (OfJob k act) other = refl
  accepts_none Closed other = absurd other

  jobs_stay : (e : Event (List ℕ)) → May length v e → LeavesAlone (Some e) → (jobs : List Held) → v.jobs ≡ jobs → filter is_held (map (change e) jobs) ≡ jobs → (now c first_base (e ∷ h)).jobs ≡ jobs
  jobs_stay e m other jobs are stay =
      jobs_left length c first_base h e l m (accepts_none e other) ∙ (ap (λ (x : List Held). filter is_held (map (change e) x)) are ∙ stay)

  stays_open : (e : Event (List ℕ)) → May length v e → LeavesAlone (Some e) → v.closed ≡ false → (now c first_base (e ∷ h)).closed ≡ false
  stays_open e m other going = ap (λ (x : State (List ℕ)). x.closed) (moved length c first_base h e l m) ∙ (closed_so e other ∙ going)
    where
      closed_so : (e' : Event (List ℕ)) → LeavesAlone (Some e') → (after e' v).closed ≡ v.closed
      closed_so (AtPrinter p sheet turn) o = refl
      closed_so (Removed queue jobs) o = refl
      closed_so (Started queue) o = refl
      closed_so (Opened k s i) o = absurd o
      closed_so (OfJob k act) o = refl
      closed_so Closed o = absurd o

-- no job more is accepted
entries_stay : (c : Config) (h : History) (queue : ℕ) (e : Event (List ℕ)) → LeavesAlone (Some e) → HasEntries (now c first_base h) queue → HasEntries (now c first_base (e ∷ h)) queue
entries_stay c h queue (AtPrinter p sheet turn) other has = has
entries_stay c h queue (Removed queue' jobs) other has = has
entries_stay c h queue (Started queue') other has = has
entries_stay c h queue (Opened k s i) other has = absurd other
entries_stay c h queue (OfJob k act) other has = has
entries_stay c h queue Closed other has = absurd other

module _ (c : Config) (job : Sent) (h : History) (l : IsLegal length c first_base h) (e : Event (List ℕ)) (m : May length (now c first_base h) e) (other : LeavesAlone (Some e)) where
  abbrev u : State (List ℕ)
  u = now c first_base (e ∷ h)

  still_none : NoJob c job (now c first_base h) → NoJob c job u
  still_none none = (jobs_stay c h l e m other [] none.0 refl, entries_stay c h (q c job) e other none.1)

  still_holds : (j g : ℕ) (lent : Bool) (files : List (File (List ℕ))) → IsNotOf j (Some e) → Holds c job (now c first_base h) j g lent files → Holds c job u j g lent files
  still_holds j g lent files apart held =
      (held.0, jobs_stay c h l e m other (held_job j held.0 (q c job) g lent files None ∷ []) held.1 (spared c h l j held.0 (q c job) g lent files held.1 e m other apart))

  still : (p : Place) (j : ℕ) → ((progress_at c job p).job ≡ true → IsNotOf j (Some e)) → Facts c job p h j → Facts c job p (e ∷ h) j
  still First j apart f = still_none f
  still (Asking acking) j apart f = still_none f
  still (Ready acking g done left) j apart f = (f.0, still_holds _ _ _ _ (apart refl) f.1)
  still (Begins file left) j apart f = (f.0, still_holds _ _ _ _ (apart refl) f.1)
  still (Began g done file left) j apart f = (f.0, still_holds _ _ _ _ (apart refl) f.1)
  still (Inside false g done file left octets pages) j apart f = (f.0, still_holds _ _ _ _ (apart refl) f.1)
  still (Inside true g done file left octets pages) j apart f = (f.0, f.1, still_holds _ _ _ _ (apart refl) f.2)
  still (Told acking g done) j apart f = (f.0, f.1, still_holds _ _ _ _ (apart refl) f.2)
  still (Last acking) j apart f = inr f

-- so the facts of a place stay, and the spool stays open
pub calm : (c : Config) (job : Sent) (h : History) → IsLegal length c first_base h → (o : Option (Event (List ℕ))) → MayCome Octets (now c first_base h) o → LeavesAlone o
    → (p : Place) (j : ℕ) → (now c first_base h).closed ≡ false → ((progress_at c job p).job ≡ true → IsNotOf j o) → Facts c job p h j → ((now c first_base (with_event o h)).closed ≡ false) × Facts c job p (with_event o h) j
calm c job h l None m other p j going apart f = (going, f)
calm c job h l (Some e) m other p j going apart f = (stays_open c h l e m other going, still c job h l e m other p j apart f)
