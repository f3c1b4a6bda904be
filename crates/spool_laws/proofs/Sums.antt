-- The held jobs hold no more pages than there are.
use Rattle.std.proofs.Common.{inl, inr, ◌≡◌, ◌==◌, ◌≢◌, ℕ, suc, ◌+◌, ◌-◌, ◌≤◌, Bool, true, false, List, [], ◌∷◌, ◌++◌, length, map, refl, sym, ◌∙◌, ap, subst, arith}
use Rattle.std.specs.Prelude.{◌||◌, not, cond, filter, sum_by}
use Rattle.std.specs.List.{list_any}
use Rattle.std.proofs.lemmas.List.{length_push}
use Rattle.std.proofs.lemmas.List.Sums.{sum_by-cons, sum_by_push}
use Rattle.claims.specs.declared.row.Row.{Row}
use Rattle.counts.specs.Amounts.{amount}
use Rattle.spool_history.specs.Base.{Base}
use Rattle.spool_history.specs.Events.{Act, Event, Sheet, Turn, Progress}
use Rattle.spool_history.specs.Events.Act.{Granted, Aborted}
use Rattle.spool_history.specs.Events.Progress.{Done}
use Rattle.spool_history.specs.Events.Turn.{Handed, Printed, Failed}
use Rattle.spool_history.specs.Events.Event.{Opened, OfJob, AtPrinter, Removed, Started, Closed}
use Rattle.config_values.specs.Config.{Config}
use Rattle.spool_history.specs.Acts.{granted_by}
use Rattle.spool_history.specs.Said.{Opening, openings, acts_of, has_ended, ends_by_act}
use Rattle.spool_history.specs.Now.{Job, now, job_of, is_held, is_received, pages_kept, pages_out, pages_held, free_pages, row_of, up_to}
use Rattle.spool_history.specs.Steps.{change, turned}
use Rattle.spool_history.specs.Legal.{IsLegal, May}
use Rattle.spool_laws.specs.Sums.{held_pages, AddUp}
use Rattle.spool_laws.proofs.Known.{has_at, test}
use Rattle.spool_laws.proofs.Changes.{changes}
use Rattle.spool_laws.proofs.Facts.{Unknown, acts_here, facts, last, IsOther, turn_of_page, received_at}
use Rattle.spool_laws.proofs.Adding.{sum_filter, sum_map, up_below, up_less, up_none, up_one}
use Rattle.spool_laws.proofs.Copies.{kept_fewer}
use Rattle.spool_laws.proofs.Reserve.{no_events}
use Rattle.spool_laws.proofs.Sound.{Sound, sound, out_within}
use Rattle.std.proofs.Math.Nat.{add-zero}
use Rattle.std.proofs.lemmas.Bool.{cases_Bool}

-- the pages that a job holds, if it is held

abbrev weight : {C : Type 0} → Job C → ℕ
weight v = cond (is_held v) (pages_held v) 0

abbrev pub numbered : ℕ → Opening
numbered j = record { job = j; sender = 0; queue = 0 }

abbrev weight_at : {C : Type 0} → List (Event C) → ℕ → ℕ
weight_at h j = weight (job_of h (numbered j))

abbrev weights : {C : Type 0} → Base → List (Event C) → ℕ
weights base h = sum_by (weight_at h) (up_to (last base h))

sum_held : {C : Type 0} (h : List (Event C)) (os : List Opening) → sum_by (λ (v : Job C). pages_held v) (filter is_held (map (job_of h) os)) ≡ sum_by (λ (p : Opening). weight_at h p.job) os
sum_held {C} h os = sum_filter (λ (v : Job C). pages_held v) is_held (map (job_of h) os) ∙ sum_map (λ (v : Job C). weight v) (job_of h) os

-- the numbers of the accepted jobs are those after the base's last one, in order

abbrev Numbers : (ℕ → ℕ) → ℕ → List Opening → Type 0
Numbers f n os = sum_by f (up_to n) + sum_by (λ (p : Opening). f p.job) os ≡ sum_by f (up_to (n + length os))

more_numbers : (f : ℕ → ℕ) (n : ℕ) (os : List Opening) (x : Opening) → x.job ≡ n + length os + 1 → Numbers f n os → Numbers f n (os ++ x ∷ [])
more_numbers f n os x e ih =
    let m : n + length (os ++ x ∷ []) ≡ suc (n + length os) = omega (arith, length_push os x) in
    let j : x.job ≡ suc (n + length os) = omega arith in
    let fj : f x.job ≡ f (suc (n + length os)) = ap f j in
    let u : sum_by f (up_to (n + length (os ++ x ∷ []))) ≡ sum_by f (up_to (n + length os) ++ suc (n + length os) ∷ []) = ap (λ (i : ℕ). sum_by f (up_to i)) m in
    omega (arith, sum_by_push (λ (p : Opening). f p.job) os x, sum_by_push f (up_to (n + length os)) (suc (n + length os)))

all_numbers : {C : Type 0} (size : C → ℕ) (c : Config) (base : Base) (h : List (Event C)) → IsLegal size c base h → (f : ℕ → ℕ) → Numbers f base.accepted (openings h)
all_numbers size c base [] l f = omega (arith, ap (λ (i : ℕ). sum_by f (up_to i)) (sym (add-zero base.accepted)))
all_numbers size c base (Opened k s q ∷ h) l f = more_numbers f base.accepted (openings h) (record { job = k; sender = s; queue = q }) l.0.4 (all_numbers size c base h l.1 f)
all_numbers size c base (_ ∷ h) l f = all_numbers size c base h l.1 f

-- of jobs that the history doesn't know there is nothing to add
pub numbers : {C : Type 0} (size : C → ℕ) (c : Config) (base : Base) (h : List (Event C)) → IsLegal size c base h → (f : ℕ → ℕ) → ((j : ℕ) → IsOther base h j → f j ≡ 0) → sum_by (λ (p : Opening). f p.job) (openings h) ≡ sum_by f (up_to (last base h))
numbers size c base h l f none =
    let nothing : ℕ → ℕ = λ (j : ℕ). 0 in
    omega (arith, all_numbers size c base h l f, up_below nothing f base.accepted (λ j le. omega (arith, none j (inl le))), up_none nothing base.accepted (λ j. refl))

-- nothing is held of a job of which nothing is said

weight_unknown : {C : Type 0} (h : List (Event C)) (j : ℕ) → Unknown h j → weight_at h j ≡ 0
weight_unknown h j u = elim (cases_Bool (has_ended h j)) [ inl e ↦ rw (u.acts, u.handed, u.back, e) refl | inr e ↦ rw (u.acts, u.handed, u.back, e) refl ]

held_weights : {C : Type 0} (size : C → ℕ) (c : Config) (base : Base) (h : List (Event C)) → IsLegal size c base h → held_pages c base h ≡ weights base h
held_weights size c base h l = sum_held h (openings h) ∙ numbers size c base h l (weight_at h) (λ j is. weight_unknown h j ((facts size c base h l).fresh j is))

-- what has ended and has no page out is held no more
out_alone : (l : Bool) (a b : ℕ) → cond (l || not (a == b)) (cond l 1 0 + (a - b)) 0 ≡ cond l 1 0 + (a - b)
out_alone true a b = refl
out_alone false a b = elim (test a b) [ inl s ↦ (let same : a ≡ b = s.0 in rw s.1 (omega arith)) | inr s ↦ rw s.1 refl ]

weight_ended : {C : Type 0} (v : Job C) → v.ended ≡ true → weight v ≡ pages_out v
weight_ended v e = rw e (out_alone v.lent v.handed v.back)

weight_going : {C : Type 0} (v : Job C) → v.ended ≡ false → weight v ≡ cond (is_received v) (length (pages_kept v)) v.granted
weight_going v e = rw e refl

weight_received : {C : Type 0} (v : Job C) → v.ended ≡ false → is_received v ≡ true → weight v ≡ length (pages_kept v)
weight_received v e r = rw (e, r) refl

weight_receiving : {C : Type 0} (v : Job C) → v.ended ≡ false → is_received v ≡ false → weight v ≡ v.granted
weight_receiving v e r = rw (e, r) refl

-- a job that hasn't ended holds no more than was lent to it
weight_granted : {C : Type 0} (v : Job C) (b : Bool) → is_received v ≡ b → v.ended ≡ false → Sound v → weight v ≤ v.granted
weight_granted v true r e s = let w = weight_received v e r in let p = s.within in omega arith
weight_granted v false r e s = let w = weight_receiving v e r in omega arith

-- the pages that are out are among those that the job holds
out_least : {C : Type 0} (v : Job C) (e : Bool) → v.ended ≡ e → Sound v → pages_out v ≤ weight v
out_least v true e s = let w = weight_ended v e in omega arith
out_least v false e s =
    let w : weight v ≡ pages_held v = rw e refl in
    omega (arith, out_within v s)

-- a job that is ended holds no more than before
ending : {C : Type 0} (v : Job C) → Sound v → weight (record v { ended = true }) ≤ weight v
ending v s = omega (arith, weight_ended (record v { ended = true }) refl, out_least v v.ended refl s)

changed : {C : Type 0} (h : List (Event C)) (e : Event C) (j : ℕ) → weight_at (e ∷ h) j ≡ weight (change e (job_of h (numbered j)))
changed {C} h e j = ap (λ (v : Job C). weight v) (changes h e (numbered j))

-- acts of a job's session

other_act : {C : Type 0} (h : List (Event C)) (k : ℕ) (act : Act C) (j : ℕ) → k ≢ j → weight_at (OfJob k act ∷ h) j ≡ weight_at h j
other_act h k act j ne = changed h (OfJob k act) j ∙ elim (test k j) [ inl s ↦ absurd (ne s.0) | inr s ↦ rw s.1 refl ]

act_less : {C : Type 0} (h : List (Event C)) (k : ℕ) (act : Act C) → weight_at (OfJob k act ∷ h) k ≤ weight_at h k → (j : ℕ) → weight_at (OfJob k act ∷ h) j ≤ weight_at h j
act_less {C} h k act here j = elim (test k j) [
  | inl s ↦ subst (λ (i : ℕ). weight_at (OfJob k act ∷ h) i ≤ weight_at h i) s.0 here
  | inr s ↦ let o = other_act h k act j s.0 in omega arith
]

ended_same : {C : Type 0} (h : List (Event C)) (k : ℕ) (act : Act C) → ends_by_act act ≡ false → has_ended (OfJob k act ∷ h) k ≡ has_ended h k
ended_same h k act e = elim (test k k) [ inl s ↦ rw (s.1, e) refl | inr s ↦ rw s.1 refl ]

-- an act on a job that is being received
act_granted : {C : Type 0} (size : C → ℕ) (c : Config) (base : Base) (h : List (Event C)) (k : ℕ) (act : Act C) (n : ℕ) → IsLegal size c base (OfJob k act ∷ h) → ends_by_act act ≡ false → granted_by (act ∷ acts_of h k) ≡ granted_by (acts_of h k) + n → has_ended h k ≡ false → received_at h k ≡ false → weight_at (OfJob k act ∷ h) k ≤ weight_at h k + n
act_granted {C} size c base h k act n l ends is goes_on receiving =
    let v : Job C = job_of (OfJob k act ∷ h) (numbered k) in
    let w = weight_receiving (job_of h (numbered k)) goes_on receiving in
    omega (arith, ap granted_by (acts_here h k act), weight_granted v (is_received v) refl (ended_same h k act ends ∙ goes_on) (sound size c base (OfJob k act ∷ h) l (numbered k)))

abort_less : {C : Type 0} (v : Job C) → weight (record v { lent = false; ended = true }) ≤ weight (record v { ended = true })
abort_less v = omega (arith, weight_ended (record v { ended = true }) refl, weight_ended (record v { lent = false; ended = true }) refl)

aborted_here : {C : Type 0} (h : List (Event C)) (k : ℕ) → weight_at (OfJob k Aborted ∷ h) k ≡ weight (record (job_of h (numbered k)) { lent = false; ended = true })
aborted_here h k = changed h (OfJob k Aborted) k ∙ elim (test k k) [ inl s ↦ rw s.1 refl | inr s ↦ absurd (s.0 refl) ]

-- turns of a printer

handed_less : {C : Type 0} (v : Job C) → v.ended ≡ false → weight (record v { handed = v.handed + 1 }) ≤ weight v
handed_less v e = let a = weight_going v e in let b = weight_going (record v { handed = v.handed + 1 }) e in omega arith

back_ended : {C : Type 0} (v : Job C) → Sound v → weight (record v { back = v.back + 1; ended = true }) ≤ weight v
back_ended v s = omega (arith, weight_ended (record v { back = v.back + 1; ended = true }) refl, out_least v v.ended refl s)

back_going : {C : Type 0} (v : Job C) (e r : Bool) → v.ended ≡ e → is_received v ≡ r → weight (record v { back = v.back + 1 }) ≤ weight v
back_going v true r is re = omega (arith, weight_ended v is, weight_ended (record v { back = v.back + 1 }) is)
back_going v false true is re = omega (arith, weight_received v is re, weight_received (record v { back = v.back + 1 }) is re, kept_fewer v)
back_going v false false is re = omega (arith, weight_receiving v is re, weight_receiving (record v { back = v.back + 1 }) is re)

other_turn : {C : Type 0} (h : List (Event C)) (p : ℕ) (sheet : Sheet C) (turn : Turn) (j : ℕ) → sheet.job ≢ j → weight_at (AtPrinter p sheet turn ∷ h) j ≡ weight_at h j
other_turn h p sheet turn j ne = changed h (AtPrinter p sheet turn) j ∙ elim (test sheet.job j) [ inl s ↦ absurd (ne s.0) | inr s ↦ rw s.1 refl ]

turn_here : {C : Type 0} (h : List (Event C)) (p : ℕ) (sheet : Sheet C) (turn : Turn) → weight_at (AtPrinter p sheet turn ∷ h) sheet.job ≡ weight (turned turn (job_of h (numbered sheet.job)))
turn_here h p sheet turn = changed h (AtPrinter p sheet turn) sheet.job ∙ elim (test sheet.job sheet.job) [ inl s ↦ rw s.1 refl | inr s ↦ absurd (s.0 refl) ]

turn_less : {C : Type 0} (h : List (Event C)) (p : ℕ) (sheet : Sheet C) (turn : Turn) → weight (turned turn (job_of h (numbered sheet.job))) ≤ weight_at h sheet.job → (j : ℕ) → weight_at (AtPrinter p sheet turn ∷ h) j ≤ weight_at h j
turn_less {C} h p sheet turn le j = elim (test sheet.job j) [
  | inl s ↦
      let t = turn_here h p sheet turn in
      let here : weight_at (AtPrinter p sheet turn ∷ h) sheet.job ≤ weight_at h sheet.job = omega arith in
      subst (λ (i : ℕ). weight_at (AtPrinter p sheet turn ∷ h) i ≤ weight_at h i) s.0 here
  | inr s ↦ let o = other_turn h p sheet turn j s.0 in omega arith
]

printed_less : {C : Type 0} (size : C → ℕ) (c : Config) (base : Base) (h : List (Event C)) (sheet : Sheet C) (x : Progress) → IsLegal size c base h → weight (turned (Printed x) (job_of h (numbered sheet.job))) ≤ weight_at h sheet.job
printed_less size c base h sheet Done l = back_ended (job_of h (numbered sheet.job)) (sound size c base h l (numbered sheet.job))
printed_less size c base h sheet _ l = back_going (job_of h (numbered sheet.job)) _ _ refl refl

removed_less : {C : Type 0} (h : List (Event C)) (q : ℕ) (jobs : List ℕ) (j : ℕ) (b : Bool) → list_any (λ (k : ℕ). k == j) jobs ≡ b → Sound (job_of h (numbered j)) → weight_at (Removed q jobs ∷ h) j ≤ weight_at h j
removed_less h q jobs j true e s =
    let w : weight_at (Removed q jobs ∷ h) j ≡ weight (record (job_of h (numbered j)) { ended = true }) = changed h (Removed q jobs) j ∙ rw e refl in
    omega (arith, ending (job_of h (numbered j)) s)
removed_less h q jobs j false e s =
    let w : weight_at (Removed q jobs ∷ h) j ≡ weight_at h j = changed h (Removed q jobs) j ∙ rw e refl in
    omega arith

-- what is free

pub rows_held : {C : Type 0} (c : Config) (vs : List (Job C)) → sum_by (λ (row : Row). amount row.held 0) (map (row_of c) vs) ≡ sum_by (λ (v : Job C). pages_held v) vs
rows_held c [] = refl
rows_held {C} c (v ∷ vs) =
    omega (arith, rows_held c vs, sum_by-cons (λ (row : Row). amount row.held 0) (row_of c v) (map (row_of c) vs), sum_by-cons (λ (v : Job C). pages_held v) v vs)

pub free_rest : {C : Type 0} (c : Config) (base : Base) (h : List (Event C)) → free_pages (now c base h) ≡ c.pages - held_pages c base h
free_rest c base h = ap (λ (n : ℕ). c.pages - n) (rows_held c (now c base h).jobs)

-- each event

-- a job that is accepted adds nothing where its number has nothing
pub sum_opened : {C : Type 0} (base : Base) (h : List (Event C)) (k s q : ℕ) (f : ℕ → ℕ) → f (suc (last base h)) ≡ 0 → sum_by f (up_to (last base (Opened k s q ∷ h))) ≡ sum_by f (up_to (last base h))
sum_opened base h k s q f none =
    let m : last base (Opened k s q ∷ h) ≡ suc (last base h) = omega (arith, length_push (openings h) (record { job = k; sender = s; queue = q })) in
    ap (λ (i : ℕ). sum_by f (up_to i)) m ∙ omega (arith, sum_by_push f (up_to (last base h)) (suc (last base h)))

-- where no job holds more than before, they all hold no more
less : {C : Type 0} (c : Config) (base : Base) (h : List (Event C)) (e : Event C) → last base (e ∷ h) ≡ last base h → weights base h ≤ c.pages → ((j : ℕ) → weight_at (e ∷ h) j ≤ weight_at h j)
    → weights base (e ∷ h) ≤ c.pages
less c base h e same w le = omega (arith, ap (λ (n : ℕ). sum_by (weight_at (e ∷ h)) (up_to n)) same, up_less (weight_at h) (weight_at (e ∷ h)) (last base h) le)

step_weights : {C : Type 0} (size : C → ℕ) (c : Config) (base : Base) (h : List (Event C)) (e : Event C) → IsLegal size c base h → May size (now c base h) e → weights base h ≤ c.pages → weights base (e ∷ h) ≤ c.pages
step_weights size c base h (Opened k s q) l m w =
    omega (arith, sum_opened base h k s q (weight_at h) (weight_unknown h (suc (last base h)) ((facts size c base h l).fresh (suc (last base h)) (inr (omega arith)))))
step_weights size c base h (OfJob k Granted) l m w =
    let a = has_at c base h k _ m.0 in
    let one = act_granted size c base h k Granted 1 (m, l) refl refl a.is.0.0.0 a.is.0.0.1 in
    let all = up_one (weight_at h) (weight_at (OfJob k Granted ∷ h)) k (last base h) (λ j ne. omega (arith, other_act h k Granted j (λ x. ne (sym x)))) one in
    omega (arith, m.1.0, free_rest c base h, held_weights size c base h l)
step_weights size c base h (OfJob k Aborted) l m w =
    let v = job_of h (numbered k) in
    less c base h (OfJob k Aborted) refl w (act_less h k Aborted (omega (arith, aborted_here h k, abort_less v, ending v (sound size c base h l (numbered k)))))
step_weights size c base h (OfJob k act) l m w =
    let a = has_at c base h k _ m.0 in
    less c base h (OfJob k act) refl w (act_less h k act (omega (arith, act_granted size c base h k act 0 (m, l) refl (omega arith) a.is.0.0 a.is.0.1)))
step_weights size c base h (AtPrinter p sheet Handed) l m w =
    less c base h (AtPrinter p sheet Handed) refl w (turn_less h p sheet Handed (handed_less (job_of h (numbered sheet.job)) (turn_of_page c base h p sheet m.0.0 m.0.1 m.1).at.is.goes_on))
step_weights size c base h (AtPrinter p sheet (Printed x)) l m w = less c base h (AtPrinter p sheet (Printed x)) refl w (turn_less h p sheet (Printed x) (printed_less size c base h sheet x l))
step_weights size c base h (AtPrinter p sheet Failed) l m w =
    less c base h (AtPrinter p sheet Failed) refl w (turn_less h p sheet Failed (back_ended (job_of h (numbered sheet.job)) (sound size c base h l (numbered sheet.job))))
step_weights size c base h (Removed q jobs) l m w = less c base h (Removed q jobs) refl w (λ j. removed_less h q jobs j (list_any (λ (k : ℕ). k == j) jobs) refl (sound size c base h l (numbered j)))
step_weights size c base h (Started q) l m w = less c base h (Started q) refl w (λ j. omega (arith, changed h (Started q) j))
step_weights size c base h Closed l m w = less c base h Closed refl w (λ j. omega (arith, changed h Closed j, ending (job_of h (numbered j)) (sound size c base h l (numbered j))))

weights_within : {C : Type 0} (size : C → ℕ) (c : Config) (base : Base) (h : List (Event C)) → IsLegal size c base h → weights base h ≤ c.pages
weights_within {C} size c base [] l = (let z = up_none (weight_at (no_events C)) (last base (no_events C)) (λ j. refl) in omega arith)
weights_within size c base (e ∷ h) l = step_weights size c base h e l.1 l.0 (weights_within size c base h l.1)

pub pages_add_up : {C : Type 0} (size : C → ℕ) (c : Config) (base : Base) (h : List (Event C)) → IsLegal size c base h → AddUp c base h
pages_add_up size c base h l =
    let w = weights_within size c base h l in
    let e = held_weights size c base h l in
    let f = free_rest c base h in
    record { within = omega arith; all = omega arith }
