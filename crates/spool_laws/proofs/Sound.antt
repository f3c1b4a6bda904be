-- What holds of each accepted job, and what each event makes of the row of a held one.
use Rattle.std.proofs.Common.{inl, inr, ◌≡◌, ◌==◌, ℕ, zero, suc, ◌+◌, ◌-◌, ◌*◌, ◌≤◌, Bool, true, false, List, [], ◌∷◌, length, get_or, map, take, refl, sym, ◌∙◌, ap, subst, arith}
use Rattle.std.specs.Prelude.{cond}
use Rattle.std.specs.List.{list_any}
use Rattle.counts.specs.Amounts.{amount}
use Rattle.spool_history.specs.Base.{Base}
use Rattle.spool_history.specs.Events.{Act, Event, Sheet, Turn}
use Rattle.spool_history.specs.Events.Act.{Granted, Aborted}
use Rattle.spool_history.specs.Events.Progress.{Going, Ended}
use Rattle.spool_history.specs.Events.Turn.{Handed, Printed}
use Rattle.spool_history.specs.Events.Event.{Opened, OfJob, AtPrinter, Removed, Started, Closed}
use Rattle.config_values.specs.Config.{Config, limit_of}
use Rattle.spool_history.specs.Acts.{Page, granted_by, files_by}
use Rattle.spool_history.specs.Said.{Opening, openings, acts_of, back_of, is_handed}
use Rattle.spool_history.specs.Now.{Job, now, job_of, is_received, places, pages_kept, pages_out, pages_held, printers_held, pages_needed, printers_needed, amounts, row_of, up_to}
use Rattle.spool_history.specs.Steps.{change, acted, turned}
use Rattle.spool_history.specs.Legal.{IsLegal, May}
use Rattle.spool_laws.specs.Leaving.{places_of, sheets}
use Rattle.spool_laws.proofs.Known.{Has, At, has_at, test, clash}
use Rattle.spool_laws.proofs.Changes.{changes}
use Rattle.spool_laws.proofs.Facts.{Facts, facts, turn_of_page, handed_now, handed_at, handed_same, count_one, count_more, back_same, back_more, back_one}
use Rattle.spool_laws.proofs.Places.{placed}
use Rattle.spool_laws.proofs.Copies.{pages_in, kept_within, kept_fewer, kept_some, places_many}
use Rattle.spool_laws.proofs.Held.{keeps, files_within}
use Rattle.spool_laws.proofs.Busy.{lent_unreceived}
use Rattle.claims.proofs.Lowered.{Lower}
use Rattle.std.proofs.lemmas.Bool.{cases_Bool, cases_lt}

pub record Sound {C : Type 0} (v : Job C) : Type 0 where
  pub within : length (pages_kept v) ≤ v.granted
  pub many : length (places v) ≤ 99 * v.granted
  pub lent : v.lent ≡ true → is_received v ≡ false
  pub one : v.lent ≡ true → 1 ≤ v.granted
  pub back : v.back ≤ v.handed
  pub begun : is_received v ≡ false → v.handed ≡ 0
  pub handed : v.handed ≤ length (places v)
  pub out : v.handed ≤ v.back + 1

-- of each job one page at most is at a printer

more_back : {C : Type 0} (h : List (Event C)) (p : ℕ) (sheet : Sheet C) (turn : Turn) → is_handed turn ≡ false → (j : ℕ) → handed_at h j ≤ back_of h j + 1 → handed_at (AtPrinter p sheet turn ∷ h) j ≤ back_of (AtPrinter p sheet turn ∷ h) j + 1
more_back h p sheet turn is j le =
    let n = ap length (handed_same h p sheet turn j is) in
    elim (test sheet.job j) [
      | inl s ↦ let b = back_one h p sheet turn j is s.0 in omega arith
      | inr s ↦ let b = back_more h p sheet turn j s.0 in omega arith
    ]

one_out : {C : Type 0} (size : C → ℕ) (c : Config) (base : Base) (h : List (Event C)) → IsLegal size c base h → (j : ℕ) → handed_at h j ≤ back_of h j + 1
one_out size c base [] l j = omega arith
one_out size c base (AtPrinter p sheet Handed ∷ h) l j =
    let ih = one_out size c base h l.1 j in
    let b = back_same h p sheet j in
    elim (test sheet.job j) [
      | inl s ↦
          let here = handed_now h p sheet (facts size c base h l.1) (turn_of_page c base h p sheet l.0.0.0 l.0.0.1 l.0.1) in
          let here' : handed_at h j ≡ back_of h j = subst (λ (i : ℕ). handed_at h i ≡ back_of h i) s.0 here in
          omega (arith, count_one h p sheet j s.0)
      | inr s ↦ let n = count_more h p sheet j s.0 in omega arith
    ]
one_out size c base (AtPrinter p sheet turn ∷ h) l j = more_back h p sheet turn refl j (one_out size c base h l.1 j)
one_out size c base (_ ∷ h) l j = one_out size c base h l.1 j

length_sheets : {C : Type 0} (j n k : ℕ) (xs : List (Page C)) → length (sheets j n (take k xs)) ≤ length xs
length_sheets j n zero xs = omega arith
length_sheets j n (suc k) [] = omega arith
length_sheets j n (suc k) (x ∷ xs) = let ih = length_sheets j (n + 1) k xs in omega arith

pub sound : {C : Type 0} (size : C → ℕ) (c : Config) (base : Base) (h : List (Event C)) → IsLegal size c base h → (o : Opening) → Sound (job_of h o)
sound {C} size c base h l o =
    let f = facts size c base h l in
    let k = keeps size c base h l o.job in
    record {
      within = (let w = files_within size c base h l o.job in let n = kept_within (job_of h o) in omega arith);
      many = (let w = files_within size c base h l o.job in let n = places_many (job_of h o) k.prints in omega arith);
      lent = lent_unreceived h o.job k;
      one = λ e. (let n : pages_in (files_by (acts_of h o.job)) + 1 ≤ granted_by (acts_of h o.job) = rw e at k.count in omega arith);
      back = f.back o.job;
      begun = f.begun o.job;
      handed = (let e = ap length (placed size c base h l o.job) in let b = length_sheets o.job 0 (handed_at h o.job) (places_of h o.job) in omega arith);
      out = one_out size c base h l o.job;
    }

pub sound_after : {C : Type 0} (size : C → ℕ) (c : Config) (base : Base) (h : List (Event C)) (e : Event C) → IsLegal size c base h → May size (now c base h) e → (o : Opening) → Sound (change e (job_of h o))
sound_after {C} size c base h e l m o = subst (λ (v : Job C). Sound v) (changes h e o) (sound size c base (e ∷ h) (m, l) o)

map_le : (q n m : ℕ) (l : List ℕ) (i : ℕ) → n ≤ m → get_or (map (λ (r : ℕ). cond (r == q) n 0) l) i 0 ≤ get_or (map (λ (r : ℕ). cond (r == q) m 0) l) i 0
map_le q n m [] i le = omega arith
map_le q n m (r ∷ l) zero le = elim (test r q) [ inl s ↦ rw s.1 (omega arith) | inr s ↦ rw s.1 (omega arith) ]
map_le q n m (r ∷ l) (suc i) le = map_le q n m l i le

pub amount_le : (c : Config) (q p p' n n' : ℕ) → p ≤ p' → n ≤ n' → (k : ℕ) → amount (amounts c p q n) k ≤ amount (amounts c p' q n') k
amount_le c q p p' n n' a b zero = a
amount_le c q p p' n n' a b (suc i) = map_le q n n' (up_to (length c.queues)) i b

pub lower_row : {C : Type 0} (c : Config) (v w : Job C) → w.number ≡ v.number → w.sender ≡ v.sender → w.queue ≡ v.queue → pages_held w ≤ pages_held v → printers_held w ≤ printers_held v → pages_needed c w ≤ pages_needed c v → printers_needed w ≤ printers_needed v → Lower (row_of c v) (row_of c w)
lower_row c v w n s q a b d e = record {
  number = n;
  sender = s;
  queue = q;
  held = λ k. subst (λ (i : ℕ). amount (amounts c (pages_held w) i (printers_held w)) k ≤ amount (amounts c (pages_held v) v.queue (printers_held v)) k) (sym q) (amount_le c v.queue (pages_held w) (pages_held v) (printers_held w) (printers_held v) a b k);
  need = λ k. subst (λ (i : ℕ). amount (amounts c (pages_needed c w) i (printers_needed w)) k ≤ amount (amounts c (pages_needed c v) v.queue (printers_needed v)) k) (sym q) (amount_le c v.queue (pages_needed c w) (pages_needed c v) (printers_needed w) (printers_needed v) d e k);
}

pub lower_same : {C : Type 0} (c : Config) (v : Job C) → Lower (row_of c v) (row_of c v)
lower_same c v = record { number = refl; sender = refl; queue = refl; held = λ k. omega arith; need = λ k. omega arith }

-- while a job is received

held_within : (r : Bool) (n g : ℕ) → n ≤ g → cond r n g ≤ g
held_within true n g le = le
held_within false n g le = omega arith

need_within : (r : Bool) (n : ℕ) → cond r 0 n ≤ n
need_within true n = omega arith
need_within false n = omega arith

pub lower_receiving : {C : Type 0} (c : Config) (v w : Job C) → v.ended ≡ false → is_received v ≡ false → Sound w → w.ended ≡ v.ended → w.granted ≡ v.granted → w.handed ≡ v.handed → w.number ≡ v.number → w.sender ≡ v.sender → w.queue ≡ v.queue → Lower (row_of c v) (row_of c w)
lower_receiving {C} c v w e r s we wg wh n s' q =
    let we' : w.ended ≡ false = we ∙ e in
    let a = held_within (is_received w) (length (pages_kept w)) w.granted s.within in
    let b = need_within (is_received w) (limit_of c v.queue - v.granted) in
    let ph : pages_held v ≡ v.granted = rw (e, r) refl in
    let ph' : pages_held w ≡ cond (is_received w) (length (pages_kept w)) w.granted = rw we' refl in
    let pn : pages_needed c v ≡ limit_of c v.queue - v.granted = rw (e, r) refl in
    let pn' : pages_needed c w ≡ cond (is_received w) 0 (limit_of c v.queue - v.granted) = rw (we', q, wg) refl in
    let h1 : printers_held w ≡ printers_held v = ap (λ (i : ℕ). cond (i == 0) 0 1) wh in
    let h2 : printers_needed w ≡ printers_needed v = rw (we', e) (ap (λ (i : ℕ). cond (i == 0) 1 0) wh) in
    lower_row c v w n s' q (omega arith) (omega arith) (omega arith) (omega arith)

-- when it ends

-- the page of it that is at a printer is among those that it keeps
pub out_kept : {C : Type 0} (v : Job C) → Sound v → v.handed - v.back ≤ length (pages_kept v)
out_kept v s = elim (cases_lt v.back (length (places v))) [ inl lt ↦ omega (arith, kept_some v lt, s.out) | inr le ↦ omega (arith, s.handed) ]

-- the pages of it that are out are among those that it holds
pub out_within_by : {C : Type 0} (v : Job C) (e r l : Bool) → v.ended ≡ e → is_received v ≡ r → v.lent ≡ l → Sound v → pages_out v ≤ pages_held v
out_within_by v true r l e is le s = rw e (omega arith)
out_within_by v false true true e is le s = absurd (clash (is_received v) is (s.lent le))
out_within_by v false true false e is le s = rw (e, is, le) (omega (arith, out_kept v s))
out_within_by v false false true e is le s = rw (e, is, le) (omega (arith, s.begun is, s.back, s.one le))
out_within_by v false false false e is le s = rw (e, is, le) (omega (arith, s.begun is, s.back))

pub out_within : {C : Type 0} (v : Job C) → Sound v → pages_out v ≤ pages_held v
out_within v s = out_within_by v v.ended (is_received v) v.lent refl refl refl s

pub lower_ended : {C : Type 0} (c : Config) (v w : Job C) → Sound v → pages_out w ≤ pages_out v → w.ended ≡ true → w.handed ≡ v.handed → w.number ≡ v.number → w.sender ≡ v.sender → w.queue ≡ v.queue → Lower (row_of c v) (row_of c w)
lower_ended c v w s o we wh n s' q =
    let a = out_within v s in
    let ph : pages_held w ≡ pages_out w = rw we refl in
    let pn : pages_needed c w ≡ 0 = rw we refl in
    let n1 : printers_needed w ≡ 0 = rw we refl in
    let h1 : printers_held w ≡ printers_held v = ap (λ (i : ℕ). cond (i == 0) 0 1) wh in
    lower_row c v w n s' q (omega arith) (omega arith) (omega arith) (omega arith)

-- when a page of it comes back
back_less : (e r : Bool) (n n' m g l k : ℕ) → n' ≤ n → cond e (l + (k - (m + 1))) (cond r n' g) ≤ cond e (l + (k - m)) (cond r n g)
back_less true r n n' m g l k le = omega arith
back_less false true n n' m g l k le = le
back_less false false n n' m g l k le = omega arith

pub lower_back : {C : Type 0} (c : Config) (v : Job C) → Lower (row_of c v) (row_of c (record v { back = v.back + 1 }))
lower_back c v = lower_row c v (record v { back = v.back + 1 }) refl refl refl (back_less v.ended (is_received v) (length (pages_kept v)) (length (pages_kept (record v { back = v.back + 1 }))) v.back v.granted (cond v.lent 1 0) v.handed (kept_fewer v)) (omega arith) (omega arith) (omega arith)

-- what an event makes of the row of each held job
abbrev pub LowersAll : {C : Type 0} → Config → Base → List (Event C) → Event C → Type 0
LowersAll {C} c base h e = (o : Opening) → Has o (openings h) → Lower (row_of c (job_of h o)) (row_of c (change e (job_of h o)))

pub at_is : {C : Type 0} {base : Base} (h : List (Event C)) (k : ℕ) (P : Job C → Type 0) (o : Opening) → Facts base h → At h k P → Has o (openings h) → k ≡ o.job → P (job_of h o)
at_is {C} h k P o f a has e =
    let x : Opening = record { job = k; sender = a.sender; queue = a.queue } in
    subst (λ (y : Opening). P (job_of h y)) (f.once x o a.there has e) a.is

abbrev Acts' : {C : Type 0} → Config → Base → List (Event C) → Act C → Opening → Type 0
Acts' c base h act o = Sound (acted act (job_of h o)) → Lower (row_of c (job_of h o)) (row_of c (acted act (job_of h o)))

lowers_act : {C : Type 0} (size : C → ℕ) (c : Config) (base : Base) (h : List (Event C)) (k : ℕ) (act : Act C) → IsLegal size c base h → May size (now c base h) (OfJob k act) → ((o : Opening) → Has o (openings h) → k ≡ o.job → Acts' c base h act o) → LowersAll c base h (OfJob k act)
lowers_act {C} size c base h k act l m f o has = elim (test k o.job) [
  | inl s ↦
      let e : change (OfJob k act) (job_of h o) ≡ acted act (job_of h o) = rw s.1 refl in
      rw s.1 (f o has s.0 (subst (λ (v : Job C). Sound v) e (sound_after size c base h (OfJob k act) l m o)))
  | inr s ↦ rw s.1 (lower_same c (job_of h o))
]

lowers_turn : {C : Type 0} (size : C → ℕ) (c : Config) (base : Base) (h : List (Event C)) (p : ℕ) (sheet : Sheet C) (turn : Turn) → ((o : Opening) → sheet.job ≡ o.job → Lower (row_of c (job_of h o)) (row_of c (turned turn (job_of h o)))) → LowersAll c base h (AtPrinter p sheet turn)
lowers_turn {C} size c base h p sheet turn f o has = elim (test sheet.job o.job) [
  | inl s ↦ rw s.1 (f o s.0)
  | inr s ↦ rw s.1 (lower_same c (job_of h o))
]

lower_removed : {C : Type 0} (c : Config) (v : Job C) → Sound v → Lower (row_of c v) (row_of c (record v { ended = true }))
lower_removed c v s = lower_ended c v (record v { ended = true }) s (omega arith) refl refl refl refl refl

-- the events by which no job gets or accepts anything
abbrev pub is_quiet : {C : Type 0} → Event C → Bool
is_quiet (Opened k s q) = false
is_quiet (OfJob k Granted) = false
is_quiet (AtPrinter p sheet Handed) = false
is_quiet e = true

pub lowers_all : {C : Type 0} (size : C → ℕ) (c : Config) (base : Base) (h : List (Event C)) (e : Event C) → is_quiet e ≡ true → IsLegal size c base h → May size (now c base h) e → LowersAll c base h e
lowers_all size c base h (Opened k s q) is l m = absurd (clash false is refl)
lowers_all size c base h (OfJob k Granted) is l m = absurd (clash false is refl)
lowers_all size c base h (OfJob k Aborted) is l m = lowers_act size c base h k Aborted l m (λ o has e s.
    lower_ended c (job_of h o) (acted Aborted (job_of h o)) (sound size c base h l o) (omega arith) refl refl refl refl refl)
lowers_all size c base h (OfJob k act) is l m = lowers_act size c base h k act l m (λ o has e s.
    (let a = at_is h k _ o (facts size c base h l) (has_at c base h k _ m.0) has e in lower_receiving c (job_of h o) (acted act (job_of h o)) a.0.0 a.0.1 s refl refl refl refl refl refl))
lowers_all size c base h (AtPrinter p sheet Handed) is l m = absurd (clash false is refl)
lowers_all size c base h (AtPrinter p sheet (Printed Going)) is l m = lowers_turn size c base h p sheet (Printed Going) (λ o e. lower_back c (job_of h o))
lowers_all size c base h (AtPrinter p sheet (Printed Ended)) is l m = lowers_turn size c base h p sheet (Printed Ended) (λ o e. lower_back c (job_of h o))
lowers_all size c base h (AtPrinter p sheet turn) is l m = lowers_turn size c base h p sheet turn (λ o e.
    lower_ended c (job_of h o) (turned turn (job_of h o)) (sound size c base h l o) (omega arith) refl refl refl refl refl)
lowers_all size c base h (Removed q jobs) is l m = λ o has. elim (cases_Bool (list_any (λ (k : ℕ). k == o.job) jobs)) [
  | inl e ↦ rw e (lower_removed c (job_of h o) (sound size c base h l o))
  | inr e ↦ rw e (lower_same c (job_of h o))
]
lowers_all size c base h (Started q) is l m = λ o has. lower_same c (job_of h o)
lowers_all size c base h Closed is l m = λ o has. lower_removed c (job_of h o) (sound size c base h l o)
