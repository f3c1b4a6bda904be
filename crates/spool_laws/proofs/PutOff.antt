-- How long a page is put off: an event by which no page comes back and no job becomes whole or ends only takes.
use Rattle.std.proofs.Common.{◌⊎◌, inl, inr, ◌≡◌, ◌==◌, ℕ, zero, suc, ◌+◌, ◌-◌, ◌<◌, ◌≤◌, Bool, true, false, List, [], ◌∷◌, ◌++◌, length, get_or, map, refl, sym, ◌∙◌, ap, subst, arith}
use Rattle.std.specs.Prelude.{◌&&◌, ◌||◌, not, cond, is_some}
use Rattle.std.proofs.lemmas.Bool.Decides.{nat_tests}
use Rattle.std.proofs.lemmas.List.{append-nil, map-append, map-id}
use Rattle.lpd_values.specs.Contents.{Contents}
use Rattle.counts.specs.Amounts.{amount}
use Rattle.claims.specs.declared.row.Row.{Row}
use Rattle.claims.specs.Safety.{freed, HasFinishingOrder}
use Rattle.claims.proofs.Orders.{safe_more, safe_without}
use Rattle.claims.proofs.Lowered.{holds, holds_sum, holds_append}
use Rattle.spool_history.specs.Base.{Base}
use Rattle.spool_history.specs.Events.{Act, Event}
use Rattle.spool_history.specs.Events.Act.{Granted, Began, Put, FileEnded, Controlled, Aborted}
use Rattle.spool_history.specs.Events.Turn.{Handed}
use Rattle.spool_history.specs.Events.Event.{Opened, OfJob, AtPrinter, Started}
use Rattle.config_values.specs.Config.{Config, limit_of}
use Rattle.spool_history.specs.Acts.{File, at_last, is_open_in, is_whole, new_file}
use Rattle.spool_history.specs.Said.{openings, ends_by_act}
use Rattle.spool_history.specs.Now.{Job, State, now, is_held, is_received, amounts, row_of, capacity, pages_held, printers_held, pages_needed, printers_needed, up_to}
use Rattle.spool_history.specs.Steps.{acted, change, accepted_by, after}
use Rattle.spool_history.specs.Legal.{HasJob, IsLegal, JobMay, May, MayGrant}
use Rattle.spool_laws.specs.PutOff.{NoneMayHelp, may_help}
use Rattle.spool_laws.proofs.Known.{Has, Known, At, known, has_at, test, clash, or_true, and_false, filter_cons}
use Rattle.spool_laws.proofs.Facts.{Facts, facts, turn_of_page}
use Rattle.spool_laws.proofs.Counts.{with_page, last_push}
use Rattle.spool_laws.proofs.Moves.{moved}
use Rattle.spool_laws.proofs.Pigeons.{Rises, tally}
use Rattle.spool_laws.proofs.Busy.{rising_jobs}
use Rattle.spool_laws.proofs.StillHeld.{left}
use Rattle.spool_laws.proofs.Sound.{amount_le, at_is}
use Rattle.spool_laws.proofs.Enough.{rows, kind_within, printers_small}
use Rattle.spool_laws.proofs.Taken.{Took, AllTook, took_more, safe_before}
use Rattle.spool_laws.proofs.Staying.{free, IsGood, to_safe, of_safe}
use Rattle.spool_laws.proofs.Printers.{map_twice}

-- what a job holds and may still need

sum_le_at : (q n m n' m' : ℕ) (l : List ℕ) (i : ℕ) → n + m ≤ n' + m'
    → get_or (map (λ (r : ℕ). cond (r == q) n 0) l) i 0 + get_or (map (λ (r : ℕ). cond (r == q) m 0) l) i 0
    ≤ get_or (map (λ (r : ℕ). cond (r == q) n' 0) l) i 0 + get_or (map (λ (r : ℕ). cond (r == q) m' 0) l) i 0
sum_le_at q n m n' m' [] i le = omega arith
sum_le_at q n m n' m' (r ∷ l) zero le = elim (test r q) [ inl s ↦ rw s.1 le | inr s ↦ rw s.1 (omega arith) ]
sum_le_at q n m n' m' (r ∷ l) (suc i) le = sum_le_at q n m n' m' l i le

sum_le : (c : Config) (q p r p' r' n m n' m' : ℕ) → p + r ≤ p' + r' → n + m ≤ n' + m' → (k : ℕ)
    → amount (amounts c p q n) k + amount (amounts c r q m) k ≤ amount (amounts c p' q n') k + amount (amounts c r' q m') k
sum_le c q p r p' r' n m n' m' a b zero = a
sum_le c q p r p' r' n m n' m' a b (suc i) = sum_le_at q n m n' m' (up_to (length c.queues)) i b

took_row : {C : Type 0} (c : Config) (u w : Job C) → w.number ≡ u.number → w.sender ≡ u.sender → w.queue ≡ u.queue → pages_held u ≤ pages_held w → printers_held u ≤ printers_held w
    → pages_held u + pages_needed c u ≤ pages_held w + pages_needed c w → printers_held u + printers_needed u ≤ printers_held w + printers_needed w → Took (row_of c u) (row_of c w)
took_row c u w n s q a b d e = record {
  number = n;
  sender = s;
  queue = q;
  held = λ k. subst (λ (i : ℕ). amount (amounts c (pages_held u) u.queue (printers_held u)) k ≤ amount (amounts c (pages_held w) i (printers_held w)) k) (sym q) (amount_le c u.queue (pages_held u) (pages_held w) (printers_held u) (printers_held w) a b k);
  claim = λ k. subst (λ (i : ℕ). amount (amounts c (pages_held u) u.queue (printers_held u)) k + amount (amounts c (pages_needed c u) u.queue (printers_needed u)) k
      ≤ amount (amounts c (pages_held w) i (printers_held w)) k + amount (amounts c (pages_needed c w) i (printers_needed w)) k) (sym q)
      (sum_le c u.queue (pages_held u) (pages_needed c u) (pages_held w) (pages_needed c w) (printers_held u) (printers_needed u) (printers_held w) (printers_needed w) d e k);
}

-- what such an event makes of a job

-- a job that is being received stays so, and is lent no less
pub record Receives {C : Type 0} (u w : Job C) : Type 0 where
  pub number : w.number ≡ u.number
  pub sender : w.sender ≡ u.sender
  pub queue : w.queue ≡ u.queue
  pub was : u.ended ≡ false
  pub is : w.ended ≡ false
  pub before : is_received u ≡ false
  pub after : is_received w ≡ false
  pub granted : u.granted ≤ w.granted
  pub handed : w.handed ≡ u.handed

-- one more page of a received job is handed
pub record Hands {C : Type 0} (u w : Job C) : Type 0 where
  pub is : w ≡ record u { handed = u.handed + 1 }
  pub was : u.ended ≡ false

abbrev pub Takes : {C : Type 0} → Job C → Job C → Type 0
Takes u w = (w ≡ u) ⊎ (Receives u w ⊎ Hands u w)

abbrev grant : {C : Type 0} → ℕ → Job C → Job C
grant {C} j v = change (OfJob j Granted) v

-- and so it is if a page is lent before and after
takes_granted : {C : Type 0} (j : ℕ) (u w : Job C) → Takes u w → Takes (grant j u) (grant j w)
takes_granted {C} j u w t = elim t [
  | inl e ↦ inl (ap (grant j) e)
  | inr t ↦ elim t [
    | inl r ↦ elim (test j u.number) [
      | inl s ↦
          let sw : (j == w.number) ≡ true = subst (λ (n : ℕ). (j == n) ≡ true) (sym r.number) s.1 in
          rw (s.1, sw) (inr (inl record { number = r.number; sender = r.sender; queue = r.queue; was = r.was; is = r.is; before = r.before; after = r.after; granted = omega arith; handed = r.handed }))
      | inr s ↦
          let sw : (j == w.number) ≡ false = subst (λ (n : ℕ). (j == n) ≡ false) (sym r.number) s.1 in
          rw (s.1, sw) (inr (inl r))
    ]
    | inr h ↦
        let more : Takes (grant j u) (grant j (record u { handed = u.handed + 1 })) = elim (test j u.number) [
          | inl s ↦ rw s.1 (inr (inr record { is = refl; was = h.was }))
          | inr s ↦ rw s.1 (inr (inr record { is = refl; was = h.was }))
        ] in
        subst (λ (v : Job C). Takes (grant j u) (grant j v)) (sym h.is) more
  ]
]

took_same : (x : Row) → Took x x
took_same x = record { number = refl; sender = refl; queue = refl; held = λ k. omega arith; claim = λ k. omega arith }

took_received : {C : Type 0} (c : Config) (u w : Job C) → Receives u w → Took (row_of c u) (row_of c w)
took_received {C} c u w r =
    let ph : pages_held u ≡ u.granted = rw (r.was, r.before) refl in
    let ph' : pages_held w ≡ w.granted = rw (r.is, r.after) refl in
    let pn : pages_needed c u ≡ limit_of c u.queue - u.granted = rw (r.was, r.before) refl in
    let pn' : pages_needed c w ≡ limit_of c u.queue - w.granted = rw (r.is, r.after, r.queue) refl in
    let h1 : printers_held w ≡ printers_held u = ap (λ (i : ℕ). cond (i == 0) 0 1) r.handed in
    let h2 : printers_needed w ≡ printers_needed u = rw (r.is, r.was) (ap (λ (i : ℕ). cond (i == 0) 1 0) r.handed) in
    took_row c u w r.number r.sender r.queue (omega arith) (omega arith) (omega arith) (omega arith)

took_handed : {C : Type 0} (c : Config) (u : Job C) → u.ended ≡ false → Took (row_of c u) (row_of c (record u { handed = u.handed + 1 }))
took_handed {C} c u was =
    let w : Job C = record u { handed = u.handed + 1 } in
    let same : pages_held w ≡ pages_held u = rw was refl in
    let need : pages_needed c w ≡ pages_needed c u = refl in
    let more : (u.handed + 1 == 0) ≡ false = grind (arith, nat_tests) in
    let ph : printers_held w ≡ 1 = rw more refl in
    let small = printers_small u in
    let one : printers_held u + printers_needed u ≡ 1 = elim (test u.handed 0) [ inl s ↦ rw (was, s.1) refl | inr s ↦ rw (was, s.1) refl ] in
    took_row c u w refl refl refl (omega arith) (omega arith) (omega arith) (omega arith)

took : {C : Type 0} (c : Config) (u w : Job C) → Takes u w → Took (row_of c u) (row_of c w)
took {C} c u w t = elim t [
  | inl e ↦ subst (λ (v : Job C). Took (row_of c u) (row_of c v)) (sym e) (took_same (row_of c u))
  | inr t ↦ elim t [
    | inl r ↦ took_received c u w r
    | inr h ↦ subst (λ (v : Job C). Took (row_of c u) (row_of c v)) (sym h.is) (took_handed c u h.was)
  ]
]

all_took : {C : Type 0} (c : Config) (f g : Job C → Job C) (us : List (Job C)) → ((u : Job C) → Has u us → Takes (f u) (g u)) → AllTook (rows c (map f us)) (rows c (map g us))
all_took c f g [] t = tt
all_took c f g (u ∷ us) t = (took c (f u) (g u) (t u (inl refl)), all_took c f g us (λ v has. t v (inr has)))

pub still_held : {C : Type 0} (u w : Job C) → Takes u w → is_held u ≡ true → is_held w ≡ true
still_held {C} u w t held = elim t [
  | inl e ↦ subst (λ (v : Job C). is_held v ≡ true) (sym e) held
  | inr t ↦ elim t [
    | inl r ↦ rw r.is refl
    | inr h ↦ subst (λ (v : Job C). is_held v ≡ true) (sym h.is) (rw h.was refl)
  ]
]

held_granted : {C : Type 0} (j : ℕ) (u : Job C) → is_held u ≡ true → is_held (grant j u) ≡ true
held_granted j u held = elim (test j u.number) [ inl s ↦ rw s.1 (or_true (not u.ended)) | inr s ↦ rw s.1 held ]

-- each held job, after such an event

pub at_job : {C : Type 0} {base : Base} (h : List (Event C)) (k : ℕ) (P : Job C → Type 0) (u : Job C) → Facts base h → At h k P → Known h (openings h) u → k ≡ u.number → P u
at_job {C} h k P u f a kn e = subst P (sym kn.is) (at_is h k P kn.opening f a kn.there (e ∙ ap (λ (v : Job C). v.number) kn.is))

act_takes : {C : Type 0} (size : C → ℕ) (c : Config) (base : Base) (h : List (Event C)) (k : ℕ) (act : Act C) → IsLegal size c base h → HasJob (now c base h).jobs k (JobMay size c act) → ((u : Job C) → JobMay size c act u → Takes u (acted act u)) → (u : Job C) → Has u (now c base h).jobs → Takes u (change (OfJob k act) u)
act_takes {C} size c base h k act l m f u has = elim (test k u.number) [
  | inl s ↦ rw s.1 (f u (at_job h k (JobMay size c act) u (facts size c base h l) (has_at c base h k (JobMay size c act) m) (known c base h u has) s.0))
  | inr s ↦ rw s.1 (inl refl)
]

pub open_last : {C : Type 0} (before : List (File C)) (last : File C) → last.ended ≡ false → is_open_in (before ++ last ∷ []) ≡ true
open_last [] last e = rw e refl
open_last {C} (f ∷ fs) last e = rw (open_last fs last e) (or_true (not f.ended))

not_whole : {C : Type 0} (control : Rattle.std.specs.Prelude.Option Contents) (files : List (File C)) → is_open_in files ≡ true → is_whole control files ≡ false
not_whole control files e = rw e (and_false (is_some control))

-- an act that doesn't end its job takes at most, while the job is received before and after
receives : {C : Type 0} (act : Act C) (u : Job C) → ends_by_act act ≡ false → u.ended ≡ false → is_received u ≡ false → is_received (acted act u) ≡ false → Takes u (acted act u)
receives Aborted u going was before after = absurd (clash true refl going)
receives act u going was before after = inr (inl record { number = refl; sender = refl; queue = refl; was = was; is = was; before = before; after = after; granted = omega arith; handed = refl })

pub takes : {C : Type 0} (size : C → ℕ) (c : Config) (base : Base) (h : List (Event C)) (e : Event C) → may_help e ≡ false → IsLegal size c base h → May size (now c base h) e → (u : Job C) → Has u (now c base h).jobs → Takes u (change e u)
takes size c base h (OfJob k Granted) quiet l m = act_takes size c base h k Granted l m.0 (λ u a. receives Granted u refl a.0.0.0 a.0.0.1 a.0.0.1)
takes size c base h (OfJob k (Began name count)) quiet l m = act_takes size c base h k (Began name count) l m.0 (λ u a.
    receives (Began name count) u refl a.0.0 a.0.1 (not_whole u.control (u.files ++ new_file name count ∷ []) (open_last u.files (new_file name count) refl)))
takes {C} size c base h (OfJob k (Put file number page)) quiet l m = act_takes size c base h k (Put file number page) l m.0 (λ u a.
    (let o = a.2 in
    let now' : at_last (with_page page) u.files ≡ o.0 ++ with_page page o.1 ∷ [] = ap (λ (fs : List (File C)). at_last (with_page page) fs) o.2 ∙ last_push (with_page page) o.0 o.1 in
    let open' : is_open_in (at_last (with_page page) u.files) ≡ true = ap is_open_in now' ∙ open_last o.0 (with_page page o.1) o.4 in
    receives (Put file number page) u refl a.0.0 a.0.1 (not_whole u.control (at_last (with_page page) u.files) open')))
takes size c base h (OfJob k (FileEnded file whole)) quiet l m = act_takes size c base h k (FileEnded file whole) l m.0 (λ u a. receives (FileEnded file whole) u refl a.0.0 a.0.1 (sym a.3 ∙ quiet))
takes size c base h (OfJob k (Controlled control whole)) quiet l m = act_takes size c base h k (Controlled control whole) l m.0 (λ u a.
    receives (Controlled control whole) u refl a.0.0 a.0.1 (sym a.2 ∙ quiet))
takes {C} size c base h (AtPrinter p sheet Handed) quiet l m = λ u has.
    (let f = facts size c base h l in
    let t = turn_of_page c base h p sheet m.0.0 m.0.1 m.1 in
    let going : At h sheet.job (λ (v : Job C). v.ended ≡ false) = record { sender = t.at.sender; queue = t.at.queue; there = t.at.there; held = t.at.held; is = t.at.is.goes_on } in
    elim (test sheet.job u.number) [
      | inl s ↦ rw s.1 (inr (inr record { is = refl; was = at_job h sheet.job (λ (v : Job C). v.ended ≡ false) u f going (known c base h u has) s.0 }))
      | inr s ↦ rw s.1 (inl refl)
    ])
takes size c base h (Opened k s q) quiet l m = λ u has. inl refl
takes size c base h (Started q) quiet l m = λ u has. inl refl
takes size c base h _ quiet l m = absurd (clash true refl quiet)

-- the held jobs

kept : {C : Type 0} (g : Job C → Job C) (us : List (Job C)) → ((u : Job C) → Has u us → is_held (g u) ≡ true) → left g us ≡ map g us
kept g [] held = refl
kept {C} g (u ∷ us) held = filter_cons true (g u) (map g us) (held u (inl refl)) ∙ ap (λ (l : List (Job C)). g u ∷ l) (kept g us (λ v has. held v (inr has)))

granted_jobs : {C : Type 0} (c : Config) (base : Base) (h : List (Event C)) (j : ℕ) → (after (OfJob j Granted) (now c base h)).jobs ≡ map (grant j) (now c base h).jobs
granted_jobs {C} c base h j = append-nil (left (grant j) (now c base h).jobs) ∙ kept (grant j) (now c base h).jobs (λ u has. held_granted j u (known c base h u has).held)

-- by one grant one page more is held at most

abbrev of_number : {C : Type 0} → ℕ → Job C → ℕ
of_number j v = cond (j == v.number) 1 0

none_beyond : {C : Type 0} (j : ℕ) (us : List (Job C)) → ((u : Job C) → Has u us → j < u.number) → tally (of_number j) us ≡ 0
none_beyond j [] lt = refl
none_beyond j (u ∷ us) lt =
    let ih = none_beyond j us (λ v has. lt v (inr has)) in
    let here = lt u (inl refl) in
    elim (test j u.number) [
      | inl s ↦ (let e : j ≡ u.number = s.0 in absurd (omega arith))
      | inr s ↦ rw s.1 (omega arith)
    ]

one_of : {C : Type 0} (j : ℕ) (us : List (Job C)) → Rises (λ (v : Job C). v.number) us → tally (of_number j) us ≤ 1
one_of j [] r = omega arith
one_of {C} j (u ∷ us) r = elim (test j u.number) [
  | inl s ↦ (let z = none_beyond j us (λ v has. (let lt = r.0 v has in let e : j ≡ u.number = s.0 in omega arith)) in rw s.1 (omega arith))
  | inr s ↦ (let ih = one_of j us r.1 in rw s.1 (omega arith))
]

granted_pages : {C : Type 0} (j : ℕ) (u : Job C) → pages_held (grant j u) ≤ of_number j u + pages_held u
granted_pages j u = elim (test j u.number) [ inl s ↦ rw s.1 (more u u.ended (is_received u) u.lent refl refl refl) | inr s ↦ rw s.1 (omega arith) ]
  where
    more : {C : Type 0} (u : Job C) (e r b : Bool) → u.ended ≡ e → is_received u ≡ r → u.lent ≡ b → pages_held (acted Granted u) ≤ 1 + pages_held u
    more u true r true ended received is_lent = rw (ended, is_lent) (omega arith)
    more u true r false ended received is_lent = rw (ended, is_lent) (omega arith)
    more u false true b ended received is_lent = rw (ended, received) (omega arith)
    more u false false b ended received is_lent = rw (ended, received) (omega arith)

held_pages : {C : Type 0} (c : Config) (j : ℕ) (us : List (Job C)) → holds 0 (rows c (map (grant j) us)) ≤ tally (of_number j) us + holds 0 (rows c us)
held_pages c j [] = omega arith
held_pages c j (u ∷ us) = let ih = held_pages c j us in let p = granted_pages j u in omega arith

granted_printers : {C : Type 0} (c : Config) (j i : ℕ) (u : Job C) → amount (row_of c (grant j u)).held (suc i) ≡ amount (row_of c u).held (suc i)
granted_printers c j i u = elim (test j u.number) [ inl s ↦ rw s.1 refl | inr s ↦ rw s.1 refl ]

held_printers : {C : Type 0} (c : Config) (j i : ℕ) (us : List (Job C)) → holds (suc i) (rows c (map (grant j) us)) ≡ holds (suc i) (rows c us)
held_printers c j i [] = refl
held_printers c j i (u ∷ us) = let ih = held_printers c j i us in let p = granted_printers c j i u in omega arith

within : {C : Type 0} (size : C → ℕ) (c : Config) (base : Base) (h : List (Event C)) (j : ℕ) → IsLegal size c base h → holds 0 (rows c (now c base h).jobs) < amount (capacity c) 0 → (k : ℕ) → holds k (rows c (map (grant j) (now c base h).jobs)) ≤ amount (capacity c) k
within size c base h j l lt zero = omega (arith, held_pages c j (now c base h).jobs, one_of j (now c base h).jobs (rising_jobs size c base h l))
within size c base h j l lt (suc i) = omega (arith, held_printers c j i (now c base h).jobs, kind_within size c base h l (suc i))

-- rows may be taken away that give back what they hold
safe_first_ones : (f : ℕ → ℕ) (a b : List Row) → HasFinishingOrder f (a ++ b) → HasFinishingOrder (λ k. f k + holds k b) a
safe_first_ones f a [] h = safe_more f (λ k. f k + 0) a (λ k. omega arith) (subst (HasFinishingOrder f) (append-nil a) h)
safe_first_ones f a (x ∷ b) h =
    safe_more (λ k. freed f x k + holds k b) (λ k. f k + (amount x.held k + holds k b)) a (λ k. omega arith) (safe_first_ones (freed f x) a b (safe_without f a x b h))

-- such an event makes no page one that may be lent
granted_before : {C : Type 0} (size : C → ℕ) (c : Config) (base : Base) (h : List (Event C)) (e : Event C) (j : ℕ) → may_help e ≡ false → IsLegal size c base (e ∷ h) → MayGrant (now c base (e ∷ h)) j → MayGrant (now c base h) j
granted_before {C} size c base h e j quiet l g =
    let us = (now c base h).jobs in
    let ws = (now c base (e ∷ h)).jobs in
    let vs = map (change e) us in
    let new : List (Job C) = accepted_by e in
    let each = takes size c base h e quiet l.1 l.0 in
    let is : ws ≡ vs ++ new = ap (λ (v : State C). v.jobs) (moved size c base h e l.1 l.0) ∙ ap (λ (r : List (Job C)). r ++ new) (kept (change e) us (λ u has. still_held u (change e u) (each u has) (known c base h u has).held)) in
    let plain : AllTook (rows c (map (λ (u : Job C). u) us)) (rows c vs) = all_took c (λ (u : Job C). u) (change e) us each in
    let plain' : AllTook (rows c us) (rows c vs) = subst (λ (r : List (Job C)). AllTook (rows c r) (rows c vs)) (map-id us) plain in
    let lent : AllTook (rows c (map (grant j) us)) (rows c (map (λ (u : Job C). grant j (change e u)) us)) = all_took c (grant j) (λ (u : Job C). grant j (change e u)) us (λ u has. takes_granted j u (change e u) (each u has)) in
    let lent' : AllTook (rows c (map (grant j) us)) (rows c (map (grant j) vs)) =
    subst (λ (r : List (Job C)). AllTook (rows c (map (grant j) us)) (rows c r)) (map_twice (change e) (grant j) (λ (u : Job C). grant j (change e u)) us (λ u. refl)) lent in
    let h0 : holds 0 (rows c ws) ≡ holds 0 (rows c vs) + holds 0 (rows c new) = ap (λ (r : List (Job C)). holds 0 (rows c r)) is ∙ (ap (holds 0) (map-append (row_of c) vs new) ∙ holds_append 0 (rows c vs) (rows c new)) in
    let lt : holds 0 (rows c ws) < amount (capacity c) 0 = omega (arith, g.0, holds_sum 0 (rows c ws)) in
    let some : 0 < amount (capacity c) 0 - holds 0 (rows c us) = omega (arith, took_more 0 (rows c us) (rows c vs) plain') in
    let A = rows c (map (grant j) vs) in
    let B = rows c (map (grant j) new) in
    let parts : rows c (map (grant j) ws) ≡ A ++ B = ap (λ (r : List (Job C)). rows c (map (grant j) r)) is ∙ (ap (rows c) (map-append (grant j) vs new) ∙ map-append (row_of c) (map (grant j) vs) (map (grant j) new)) in
    let f = free c (map (grant j) ws) in
    let safe : HasFinishingOrder f (rows c (map (grant j) ws)) = subst (λ (r : List (Job C)). IsGood c r) (granted_jobs c base (e ∷ h) j) (of_safe (after (OfJob j Granted) (now c base (e ∷ h))) g.1) in
    let first : HasFinishingOrder (λ k. f k + holds k B) A = safe_first_ones f A B (subst (HasFinishingOrder f) parts safe) in
    let good : IsGood c (map (grant j) us) = safe_before (free c (map (grant j) us)) (λ k. f k + holds k B) (rows c (map (grant j) us)) A lent' (λ k.
    (let w = within size c base (e ∷ h) j l lt k in
    let sum = ap (holds k) parts ∙ holds_append k A B in
    omega arith)) first in
    (omega (arith, holds_sum 0 (rows c us)), to_safe (after (OfJob j Granted) (now c base h)) (subst (λ (r : List (Job C)). IsGood c r) (sym (granted_jobs c base h j)) good))

pub put_off_stays : {C : Type 0} (size : C → ℕ) (c : Config) (base : Base) (h later : List (Event C)) (j : ℕ) → IsLegal size c base (later ++ h) → NoneMayHelp later → ¬ (MayGrant (now c base h) j) → ¬ (MayGrant (now c base (later ++ h)) j)
put_off_stays size c base h [] j l none quiet = quiet
put_off_stays size c base h (e ∷ later) j l none quiet = λ g. put_off_stays size c base h later j l.1 none.1 quiet (granted_before size c base (later ++ h) e j none.0 l g)
