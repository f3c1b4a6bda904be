-- What was handed of one sender's jobs in a queue is the join of the first places of each.
use Rattle.std.proofs.Common.{inl, inr, ◌≡◌, ◌≢◌, ◌==◌, ℕ, zero, suc, ◌+◌, ◌<◌, Bool, true, false, List, [], ◌∷◌, ◌++◌, map, refl, sym, ◌∙◌, ap, subst, arith, append_assoc}
use Rattle.std.specs.Prelude.{◌&&◌, ◌||◌, cond, filter, Contains}
use Rattle.std.specs.List.{flat_map, list_any}
use Rattle.std.specs.List.Sorted.{IsStrictlyIncreasing}
use Rattle.std.proofs.lemmas.Bool.Decides.{nat_tests}
use Rattle.std.proofs.lemmas.Bool.{and_parts}
use Rattle.std.proofs.lemmas.List.{append-nil, nil_from_length}
use Rattle.std.proofs.lemmas.List.Concat.{flat_map-append}
use Rattle.std.proofs.lemmas.List.Elements.{filter-append}
use Rattle.config_values.specs.Config.{Config}
use Rattle.spool_history.specs.Base.{Base}
use Rattle.spool_history.specs.Events.{Event, Sheet, Turn}
use Rattle.spool_history.specs.Events.Turn.{Handed}
use Rattle.spool_history.specs.Events.Event.{Opened, AtPrinter}
use Rattle.spool_history.specs.Said.{Opening, openings, handed_of, is_handed}
use Rattle.spool_history.specs.Now.{now, job_of, is_held}
use Rattle.spool_history.specs.Legal.{IsLegal, May}
use Rattle.spool_history.specs.Joined.{LeavesJoined, handed, jobs_from, is_of_one, handed_from, first_places}
use Rattle.spool_laws.specs.Leaving.{EachHanded, WasAccepted}
use Rattle.spool_laws.proofs.Known.{Has, has_contained, has_filtered, has_last, held_at, none_of, test, clash}
use Rattle.spool_laws.proofs.Facts.{facts, Turn', turn_of_page, handed_at, handed_more, handed_one, handed_same}
use Rattle.spool_laws.proofs.Places.{placed}
use Rattle.spool_laws.proofs.Behind.{Behind, behind}
use Rattle.spool_laws.proofs.Whole.{whole}
use Rattle.spool_laws.proofs.Adding.{has_left, has_end}
use Rattle.spool_laws.proofs.Busy.{rising_openings}
use Rattle.spool_laws.proofs.Pigeons.{Rises, rises_filter}
use Rattle.spool_laws.proofs.Leaves.{each_handed}

-- jobs by rising number

-- each number is below all later ones
abbrev Rising : List Opening → Type 0
Rising os = Rises (λ (o : Opening). o.job) os

increasing : (os : List Opening) → Rising os → IsStrictlyIncreasing (map (λ (o : Opening). o.job) os)
increasing [] r k lt = absurd (omega (arith, lt))
increasing (o ∷ []) r k lt = absurd (omega (arith, lt))
increasing (o ∷ p ∷ os) r zero lt = r.0 p (inl refl)
increasing (o ∷ p ∷ os) r (suc k) lt =
    let m : suc k + 1 ≡ suc (k + 1) = omega arith in
    rw m (increasing (p ∷ os) r.1 k (omega (arith, lt)))

-- lists end to end

join_same : {X A : Type 0} (f g : X → List A) (xs : List X) → ((x : X) → Has x xs → f x ≡ g x) → flat_map f xs ≡ flat_map g xs
join_same f g [] e = refl
join_same {X} {A} f g (x ∷ xs) e =
    ap (λ (l : List A). l ++ flat_map f xs) (e x (inl refl)) ∙ ap (λ (l : List A). g x ++ l) (join_same f g xs (λ y has. e y (inr has)))

join_none : {X A : Type 0} (f : X → List A) (xs : List X) → ((x : X) → Has x xs → f x ≡ []) → flat_map f xs ≡ []
join_none f [] e = refl
join_none {X} {A} f (x ∷ xs) e = ap (λ (l : List A). l ++ flat_map f xs) (e x (inl refl)) ∙ join_none f xs (λ y has. e y (inr has))

-- a page that is handed of one of these jobs, after which nothing of a later one was handed, comes last
joined_more : {C : Type 0} (h : List (Event C)) (p : ℕ) (sheet : Sheet C) (o : Opening) (js : List Opening) → Rising js → Has o js → o.job ≡ sheet.job
    → ((k : Opening) → Has k js → o.job < k.job → handed_of h k.job ≡ [])
    → flat_map (λ (k : Opening). handed_of (AtPrinter p sheet Handed ∷ h) k.job) js ≡ flat_map (λ (k : Opening). handed_of h k.job) js ++ sheet ∷ []
joined_more h p sheet o [] r has same none = absurd has
joined_more {C} h p sheet o (y ∷ ys) r has same none =
    let now' : Opening → List (Sheet C) = λ (k : Opening). handed_of (AtPrinter p sheet Handed ∷ h) k.job in
    let was : Opening → List (Sheet C) = λ (k : Opening). handed_of h k.job in
    elim has [
      | inl s ↦
          let is : sheet.job ≡ y.job = sym same ∙ sym (ap (λ (k : Opening). k.job) s) in
          let later : (k : Opening) → Has k ys → was k ≡ [] = λ k there. none k (inr there) (subst (λ (z : Opening). z.job < k.job) s (r.0 k there)) in
          let here : now' y ≡ was y ++ sheet ∷ [] = handed_one h p sheet y.job is in
          let after : flat_map now' ys ≡ [] = join_none now' ys (λ k there.
          handed_more h p sheet k.job (λ e. (let lt = r.0 k there in let j : y.job ≡ k.job = sym is ∙ e in omega arith)) ∙ later k there) in
          let before : flat_map was ys ≡ [] = join_none was ys later in
          ap (λ (l : List (Sheet C)). l ++ flat_map now' ys) here
          ∙ (ap (λ (l : List (Sheet C)). (was y ++ sheet ∷ []) ++ l) after
          ∙ (append-nil (was y ++ sheet ∷ [])
          ∙ (ap (λ (l : List (Sheet C)). l ++ sheet ∷ []) (sym (append-nil (was y)))
          ∙ ap (λ (l : List (Sheet C)). (was y ++ l) ++ sheet ∷ []) (sym before))))
      | inr t ↦
          let lt : y.job < o.job = r.0 o t in
          let ne : sheet.job ≢ y.job = λ e. (let j : o.job ≡ y.job = same ∙ e in omega arith) in
          ap (λ (l : List (Sheet C)). l ++ flat_map now' ys) (handed_more h p sheet y.job ne)
          ∙ (ap (λ (l : List (Sheet C)). was y ++ l) (joined_more h p sheet o ys r.1 t same (λ k there lt. none k (inr there) lt))
          ∙ sym (append_assoc (was y) (flat_map was ys) (sheet ∷ [])))
    ]

-- what was handed is of these jobs, one after the other
abbrev Joins : {C : Type 0} → List (Event C) → List Opening → Type 0
Joins h js = handed_from h js ≡ flat_map (λ (o : Opening). handed_of h o.job) js

handed_has_by : {C : Type 0} (h : List (Event C)) (p : ℕ) (s sheet : Sheet C) → Has sheet (handed h ++ s ∷ []) → (Has sheet (handed h) → Has sheet (handed_of h sheet.job)) → Has sheet (handed_of (AtPrinter p s Handed ∷ h) sheet.job)
handed_has_by {C} h p s sheet has rest = elim (test s.job sheet.job) [
  | inl e ↦ subst (λ (l : List (Sheet C)). Has sheet l) (sym (handed_one h p s sheet.job e.0)) (elim (has_last sheet (handed h) s has) [
    | inl t ↦ has_left sheet (handed_of h sheet.job) (s ∷ []) (rest t)
    | inr d ↦ subst (λ (z : Sheet C). Has sheet (handed_of h sheet.job ++ z ∷ [])) (sym d) (has_end sheet (handed_of h sheet.job))
  ])
  | inr e ↦ subst (λ (l : List (Sheet C)). Has sheet l) (sym (handed_more h p s sheet.job e.0)) (elim (has_last sheet (handed h) s has) [
    | inl t ↦ rest t
    | inr d ↦ absurd (e.0 (ap (λ (z : Sheet C). z.job) d))
  ])
]

-- a page that was handed is among those of its job
handed_has : {C : Type 0} (h : List (Event C)) (sheet : Sheet C) → Has sheet (handed h) → Has sheet (handed_of h sheet.job)
handed_has [] sheet has = absurd has
handed_has (AtPrinter p s Handed ∷ h) sheet has = handed_has_by h p s sheet has (handed_has h sheet)
handed_has {C} (AtPrinter p s turn ∷ h) sheet has = subst (λ (l : List (Sheet C)). Has sheet l) (sym (handed_same h p s turn sheet.job refl)) (handed_has h sheet has)
handed_has (_ ∷ h) sheet has = handed_has h sheet has

-- a job is accepted, of which nothing was handed

any_push : {X : Type 0} (p : X → Bool) (xs : List X) (x : X) → p x ≡ false → list_any p (xs ++ x ∷ []) ≡ list_any p xs
any_push p [] x e = rw e refl
any_push p (y ∷ xs) x e = ap (λ (b : Bool). p y || b) (any_push p xs x e)

filter_alike : {X : Type 0} (p q : X → Bool) (xs : List X) → ((x : X) → Has x xs → p x ≡ q x) → filter p xs ≡ filter q xs
filter_alike p q [] e = refl
filter_alike {X} p q (x ∷ xs) e =
    ap (λ (b : Bool). cond b (x ∷ filter p xs) (filter p xs)) (e x (inl refl))
    ∙ ap (λ (l : List X). cond (q x) (x ∷ l) l) (filter_alike p q xs (λ y has. e y (inr has)))

joins_new : {C : Type 0} (h : List (Event C)) (k s q : ℕ) (js : List Opening) → handed_of h k ≡ [] → Joins h js → Joins (Opened k s q ∷ h) (js ++ record { job = k; sender = s; queue = q } ∷ [])
joins_new {C} h k s q js none j =
    let o : Opening = record { job = k; sender = s; queue = q } in
    let was : Opening → List (Sheet C) = λ (o : Opening). handed_of h o.job in
    let other : (sheet : Sheet C) → Has sheet (handed h) → is_of_one (js ++ o ∷ []) sheet ≡ is_of_one js sheet = λ sheet has. (
    elim (test k sheet.job) [
      | inl e ↦ absurd (subst (λ (l : List (Sheet C)). Has sheet l) none (subst (λ (i : ℕ). Has sheet (handed_of h i)) (sym e.0) (handed_has h sheet has)))
      | inr e ↦ any_push (λ (o : Opening). o.job == sheet.job) js o e.1
    ]) in
    let left : filter (is_of_one (js ++ o ∷ [])) (handed h) ≡ filter (is_of_one js) (handed h) = filter_alike (is_of_one (js ++ o ∷ [])) (is_of_one js) (handed h) other in
    let last' : flat_map was (o ∷ []) ≡ [] = ap (λ (l : List (Sheet C)). l ++ []) none in
    let right : flat_map was (js ++ o ∷ []) ≡ flat_map was js =
    flat_map-append was js (o ∷ []) ∙ (ap (λ (l : List (Sheet C)). flat_map was js ++ l) last' ∙ append-nil (flat_map was js)) in
    left ∙ (j ∙ sym right)

joins_opened_by : {C : Type 0} (h : List (Event C)) (k s q sender queue : ℕ) (b : Bool) → ((s == sender) && (q == queue)) ≡ b → handed_of h k ≡ [] → Joins h (jobs_from h sender queue)
    → Joins (Opened k s q ∷ h) (jobs_from h sender queue ++ cond b (record { job = k; sender = s; queue = q } ∷ []) [])
joins_opened_by h k s q sender queue true e none j = joins_new h k s q (jobs_from h sender queue) none j
joins_opened_by {C} h k s q sender queue false e none j = subst (λ (js : List Opening). Joins (Opened k s q ∷ h) js) (sym (append-nil (jobs_from h sender queue))) j

joins_opened : {C : Type 0} (h : List (Event C)) (k s q sender queue : ℕ) → handed_of h k ≡ [] → Joins h (jobs_from h sender queue) → Joins (Opened k s q ∷ h) (jobs_from (Opened k s q ∷ h) sender queue)
joins_opened {C} h k s q sender queue none j =
    let o : Opening = record { job = k; sender = s; queue = q } in
    let here : Opening → Bool = λ (o : Opening). (o.sender == sender) && (o.queue == queue) in
    subst (λ (js : List Opening). Joins (Opened k s q ∷ h) js) (sym (filter-append here (openings h) (o ∷ [])))
    (joins_opened_by h k s q sender queue ((s == sender) && (q == queue)) refl none j)

-- a page is handed

any_has_by : {X : Type 0} (p : X → Bool) (x : X) (xs : List X) (b : Bool) → p x ≡ b → (b || list_any p xs) ≡ true → (list_any p xs ≡ true → (y : X) × Has y xs × (p y ≡ true)) → (y : X) × Has y (x ∷ xs) × (p y ≡ true)
any_has_by p x xs true e is rest = (x, inl refl, e)
any_has_by p x xs false e is rest = let r = rest is in (r.0, inr r.1, r.2)

any_has : {X : Type 0} (p : X → Bool) (xs : List X) → list_any p xs ≡ true → (y : X) × Has y xs × (p y ≡ true)
any_has p [] e = absurd (clash false e refl)
any_has p (x ∷ xs) e = any_has_by p x xs (p x) refl e (any_has p xs)

-- of which sender and queue a job is
record IsFrom {C : Type 0} (h : List (Event C)) (s q : ℕ) (o : Opening) : Type 0 where
  there : Has o (openings h)
  sender : o.sender ≡ s
  queue : o.queue ≡ q

is_from : {C : Type 0} (h : List (Event C)) (sender queue : ℕ) (o : Opening) → Has o (jobs_from h sender queue) → IsFrom h sender queue o
is_from h sender queue o has =
    let a = has_filtered (λ (o : Opening). (o.sender == sender) && (o.queue == queue)) o (openings h) has in
    let b = and_parts (o.sender == sender) (o.queue == queue) a.1 in
    record { there = a.0; sender = (let z = b.0 in grind (arith, nat_tests)); queue = (let z = b.1 in grind (arith, nat_tests)) }

-- nothing of a job was handed while an earlier one of its sender and queue is held
none_after : {C : Type 0} (h : List (Event C)) (sender queue : ℕ) (o k : Opening) → Behind h → Has o (jobs_from h sender queue) → Has k (jobs_from h sender queue) → o.job < k.job → is_held (job_of h o) ≡ true → handed_at h k.job ≡ 0
none_after h sender queue o k b has also lt held =
    let f = is_from h sender queue o has in
    let g = is_from h sender queue k also in
    elim (test (handed_at h k.job) 0) [
      | inl e ↦ e.0
      | inr e ↦ absurd (clash (is_held (job_of h o)) held (b o k (f.there, g.there, lt, f.sender ∙ sym g.sender, f.queue ∙ sym g.queue) (let ne = e.0 in omega arith)))
    ]

joins_of : {C : Type 0} (h : List (Event C)) (p : ℕ) (sheet : Sheet C) (js : List Opening) (b : Bool) → is_of_one js sheet ≡ b → Rising js
    → ((o k : Opening) → Has o js → o.job ≡ sheet.job → Has k js → o.job < k.job → handed_of h k.job ≡ []) → Joins h js
    → handed_from h js ++ cond b (sheet ∷ []) [] ≡ flat_map (λ (o : Opening). handed_of (AtPrinter p sheet Handed ∷ h) o.job) js
joins_of {C} h p sheet js true e r none j =
    let a = any_has (λ (o : Opening). o.job == sheet.job) js e in
    let same : (a.0).job ≡ sheet.job = let z = a.2 in grind (arith, nat_tests) in
    ap (λ (l : List (Sheet C)). l ++ sheet ∷ []) j
    ∙ sym (joined_more h p sheet a.0 js r a.1 same (λ k has lt. none a.0 k a.1 same has lt))
joins_of {C} h p sheet js false e r none j =
    append-nil (handed_from h js)
    ∙ (j ∙ join_same (λ (o : Opening). handed_of h o.job) (λ (o : Opening). handed_of (AtPrinter p sheet Handed ∷ h) o.job) js (λ o has. (
    let ne : (o.job == sheet.job) ≡ false = none_of (λ (o : Opening). o.job == sheet.job) o js e has in
    sym (handed_more h p sheet o.job (λ (same : sheet.job ≡ o.job). (grind (arith, nat_tests)))))))

joins_handed : {C : Type 0} (h : List (Event C)) (p : ℕ) (sheet : Sheet C) (sender queue : ℕ) → Rising (openings h) → Behind h → Turn' h p sheet → Joins h (jobs_from h sender queue)
    → Joins (AtPrinter p sheet Handed ∷ h) (jobs_from h sender queue)
joins_handed {C} h p sheet sender queue r b t j =
    let js = jobs_from h sender queue in
    filter-append (is_of_one js) (handed h) (sheet ∷ [])
    ∙ joins_of h p sheet js (is_of_one js sheet) refl (rises_filter (λ (o : Opening). o.job) (λ (o : Opening). (o.sender == sender) && (o.queue == queue)) (openings h) r)
    (λ o k has same also lt. nil_from_length (handed_of h k.job) (none_after h sender queue o k b has also lt (subst (λ (i : ℕ). held_at h i ≡ true) (sym same) t.at.held))) j

joins_back : {C : Type 0} (h : List (Event C)) (p : ℕ) (sheet : Sheet C) (turn : Turn) (js : List Opening) → is_handed turn ≡ false → Joins h js
    → handed_from h js ≡ flat_map (λ (o : Opening). handed_of (AtPrinter p sheet turn ∷ h) o.job) js
joins_back h p sheet turn js is j =
    j ∙ join_same (λ (o : Opening). handed_of h o.job) (λ (o : Opening). handed_of (AtPrinter p sheet turn ∷ h) o.job) js (λ o has. sym (handed_same h p sheet turn o.job is))

joins_step : {C : Type 0} (size : C → ℕ) (c : Config) (base : Base) (h : List (Event C)) (e : Event C) (sender queue : ℕ) → IsLegal size c base h → May size (now c base h) e → Joins h (jobs_from h sender queue) → Joins (e ∷ h) (jobs_from (e ∷ h) sender queue)
joins_step size c base h (Opened k s q) sender queue l m j =
    joins_opened h k s q sender queue ((facts size c base h l).fresh k (inr (omega arith))).handed j
joins_step size c base h (AtPrinter p sheet Handed) sender queue l m j =
    joins_handed h p sheet sender queue (rising_openings size c base h l) (behind size c base h l) (turn_of_page c base h p sheet m.0.0 m.0.1 m.1) j
joins_step size c base h (AtPrinter p sheet turn) sender queue l m j = joins_back h p sheet turn (jobs_from h sender queue) refl j
joins_step size c base h _ sender queue l m j = j

joins : {C : Type 0} (size : C → ℕ) (c : Config) (base : Base) (h : List (Event C)) (sender queue : ℕ) → IsLegal size c base h → Joins h (jobs_from h sender queue)
joins size c base [] sender queue l = refl
joins size c base (e ∷ h) sender queue l = joins_step size c base h e sender queue l.1 l.0 (joins size c base h sender queue l.1)

pub joined : {C : Type 0} (size : C → ℕ) (c : Config) (base : Base) (h : List (Event C)) → IsLegal size c base h → LeavesJoined h
joined {C} size c base h l sender queue =
    let js = jobs_from h sender queue in
    record {
      rising = increasing js (rises_filter (λ (o : Opening). o.job) (λ (o : Opening). (o.sender == sender) && (o.queue == queue)) (openings h) (rising_openings size c base h l));
      join = joins size c base h sender queue l ∙ join_same (λ (o : Opening). handed_of h o.job) (first_places h) js (λ o has. placed size c base h l o.job);
      all_of_done = λ o has done. (whole size c base h l o.job done).1;
      none_unreceived = λ o has not'. (facts size c base h l).begun o.job not';
      none_behind_held = λ earlier o has also lt held. none_after h sender queue earlier o (behind size c base h l) (has_contained earlier js has) (has_contained o js also) lt held;
    }

-- a page is handed of an accepted job

pub contained : {X : Type 0} (x : X) (xs : List X) → Has x xs → Contains xs x
contained x [] has = absurd has
contained x (y ∷ ys) has = elim has [
  | inl e ↦ (zero, omega arith, e)
  | inr t ↦ let c = contained x ys t in (suc c.0, (let lt = c.1 in omega arith), c.2)
]

pub each_accepted : {C : Type 0} (size : C → ℕ) (c : Config) (base : Base) (h : List (Event C)) → IsLegal size c base h → EachHanded WasAccepted h
each_accepted size c base h l = each_handed size c base WasAccepted h (λ h p sheet l m.
    let t = (turn_of_page c base h p sheet m.0.0 m.0.1 m.1).at in
    let o : Opening = record { job = sheet.job; sender = t.sender; queue = t.queue } in
    (o, contained o (openings h) t.there, refl)) l
