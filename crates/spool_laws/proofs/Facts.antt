-- What holds of every legal history.
use Rattle.std.proofs.Common.{◌⊎◌, inl, inr, ◌≡◌, ◌==◌, ◌≢◌, ℕ, ◌+◌, ◌<◌, ◌≤◌, Bool, true, false, List, [], ◌∷◌, ◌++◌, length, refl, sym, ◌∙◌, ap, subst, arith}
use Rattle.std.specs.Prelude.{Option, Some, None}
use Rattle.std.specs.List.{list_any, AllByRecursion}
use Rattle.std.proofs.lemmas.List.{length_push}
use Rattle.std.proofs.lemmas.Bool.{cases_lt}
use Rattle.spool_history.specs.Base.{Base, first_base}
use Rattle.spool_history.specs.Events.{Act, Event, Sheet, Turn}
use Rattle.spool_history.specs.Events.Act.{Granted, Aborted}
use Rattle.spool_history.specs.Events.Turn.{Handed, Printed, Failed}
use Rattle.spool_history.specs.Events.Event.{Opened, OfJob, AtPrinter, Removed, Started, Closed}
use Rattle.config_values.specs.Config.{IsPrinter, Config}
use Rattle.spool_history.specs.Said.{Opening, openings, acts_of, is_handed, handed_of, back_of, has_ended, out_at, began_at, is_closed}
use Rattle.spool_history.specs.Now.{Job, Printer, now, job_of, is_received}
use Rattle.spool_history.specs.Next.{printer_at}
use Rattle.spool_history.specs.Legal.{HasJob, May, IsLegal}
use Rattle.spool_laws.proofs.Known.{Has, At, has_at, has_last, test, clash}
use Rattle.spool_laws.proofs.Printers.{at_printer}
use Rattle.spool_laws.proofs.Turns.{given, given_at, Gets, Begins}

abbrev pub handed_at : {C : Type 0} → List (Event C) → ℕ → ℕ
handed_at h j = length (handed_of h j)

abbrev pub received_at : {C : Type 0} → List (Event C) → ℕ → Bool
received_at h j = is_received (job_of h (record { job = j; sender = 0; queue = 0 }))

-- nothing is said of a job
pub record Unknown {C : Type 0} (h : List (Event C)) (j : ℕ) : Type 0 where
  pub acts : acts_of h j ≡ []
  pub handed : handed_of h j ≡ []
  pub back : back_of h j ≡ 0
  pub ended : is_closed first_base h ≡ false → has_ended h j ≡ false

-- what isn't closed from a base isn't closed from the first one
pub open_first : {C : Type 0} (base : Base) (h : List (Event C)) → is_closed base h ≡ false → is_closed first_base h ≡ false
open_first base [] e = refl
open_first base (Closed ∷ h) e = absurd (clash true refl e)
open_first base (_ ∷ h) e = open_first base h e

-- the last acceptance number
abbrev pub last : {C : Type 0} → Base → List (Event C) → ℕ
last base h = base.accepted + length (openings h)

-- the numbers of the jobs that were accepted since the base, and all others
abbrev pub IsNumber : {C : Type 0} → Base → List (Event C) → ℕ → Type 0
IsNumber base h k = (base.accepted < k) × (k ≤ last base h)

abbrev pub IsOther : {C : Type 0} → Base → List (Event C) → ℕ → Type 0
IsOther base h j = (j ≤ base.accepted) ⊎ (last base h < j)

other_number : {C : Type 0} (base : Base) (h : List (Event C)) (k j : ℕ) → IsNumber base h k → IsOther base h j → k ≡ j → ⊥
other_number base h k j is other same = elim other [ inl l ↦ absurd (omega (arith, is.0)) | inr l ↦ absurd (omega (arith, is.1)) ]

pub record Facts {C : Type 0} (base : Base) (h : List (Event C)) : Type 0 where
  -- the numbers of the accepted jobs, and what is said of all others
  pub numbers : (o : Opening) → Has o (openings h) → IsNumber base h o.job
  pub once : (o k : Opening) → Has o (openings h) → Has k (openings h) → o.job ≡ k.job → o ≡ k
  pub fresh : (j : ℕ) → IsOther base h j → Unknown h j
  pub begun : (j : ℕ) → received_at h j ≡ false → handed_at h j ≡ 0
  pub back : (j : ℕ) → back_of h j ≤ handed_at h j
  -- the page that is out at a printer is the only one of its job that is out, and the next place after those that came back
  pub out : (p : ℕ) (s : Sheet C) → out_at h p ≡ Some s → (began_at h p ≡ Some s.job) × (handed_at h s.job ≡ back_of h s.job + 1) × (s.place ≡ back_of h s.job)
  pub idle : (p j : ℕ) → out_at h p ≡ None → began_at h p ≡ Some j → handed_at h j ≡ back_of h j
  pub began : (p j : ℕ) → began_at h p ≡ Some j → 0 < handed_at h j
  pub alone : (p q j : ℕ) → began_at h p ≡ Some j → began_at h q ≡ Some j → p ≡ q

pub number_at : {C : Type 0} {base : Base} (h : List (Event C)) (k : ℕ) (P : Job C → Type 0) → Facts base h → At h k P → IsNumber base h k
number_at h k P f a = f.numbers (record { job = k; sender = a.sender; queue = a.queue }) a.there

-- the acts of a job's session

pub acts_other : {C : Type 0} (h : List (Event C)) (k : ℕ) (act : Act C) (j : ℕ) → k ≢ j → acts_of (OfJob k act ∷ h) j ≡ acts_of h j
acts_other h k act j ne = elim (test k j) [ inl s ↦ absurd (ne s.0) | inr s ↦ rw s.1 refl ]

-- one more act of a job is its newest
pub acts_here : {C : Type 0} (h : List (Event C)) (k : ℕ) (act : Act C) → acts_of (OfJob k act ∷ h) k ≡ act ∷ acts_of h k
acts_here h k act = elim (test k k) [ inl s ↦ rw s.1 refl | inr s ↦ absurd (s.0 refl) ]

pub ended_aborted : {C : Type 0} (h : List (Event C)) (k : ℕ) → has_ended (OfJob k Aborted ∷ h) k ≡ true
ended_aborted h k = elim (test k k) [ inl s ↦ rw s.1 refl | inr s ↦ absurd (s.0 refl) ]

ended_other : {C : Type 0} (h : List (Event C)) (k : ℕ) (act : Act C) (j : ℕ) → k ≢ j → has_ended h j ≡ false → has_ended (OfJob k act ∷ h) j ≡ false
ended_other h k act j ne e = elim (test k j) [ inl s ↦ absurd (ne s.0) | inr s ↦ rw s.1 e ]

begun_act : {C : Type 0} {base : Base} (h : List (Event C)) (k : ℕ) (act : Act C) → Facts base h → (received_at (OfJob k act ∷ h) k ≡ false → received_at h k ≡ false) → (j : ℕ) → received_at (OfJob k act ∷ h) j ≡ false → handed_at h j ≡ 0
begun_act {C} h k act f before j e = elim (test k j) [
  | inl s ↦ subst (λ (i : ℕ). handed_at h i ≡ 0) s.0 (f.begun k (before (subst (λ (i : ℕ). received_at (OfJob k act ∷ h) i ≡ false) (sym s.0) e)))
  | inr s ↦ f.begun j (rw s.1 at e)
]

-- the events by which no job is accepted and no page moves
abbrev is_still : {C : Type 0} → Event C → Bool
is_still (Opened k s q) = false
is_still (AtPrinter p sheet turn) = false
is_still _ = true

-- what is open after an event was open before it
open_before : {C : Type 0} (base : Base) (h : List (Event C)) (e : Event C) → is_closed base (e ∷ h) ≡ false → is_closed base h ≡ false
open_before base h Closed o = absurd (clash true refl o)
open_before base h _ o = o

facts_still : {C : Type 0} {base : Base} (h : List (Event C)) (e : Event C) → is_still e ≡ true → Facts base h → ((j : ℕ) → IsOther base h j → acts_of (e ∷ h) j ≡ acts_of h j)
    → ((j : ℕ) → IsOther base h j → is_closed first_base (e ∷ h) ≡ false → has_ended h j ≡ false → has_ended (e ∷ h) j ≡ false)
    → ((j : ℕ) → received_at (e ∷ h) j ≡ false → handed_at h j ≡ 0) → Facts base (e ∷ h)
facts_still h (Opened k s q) is f acts ended begun = absurd (clash false is refl)
facts_still h (AtPrinter p sheet turn) is f acts ended begun = absurd (clash false is refl)
facts_still h e is f acts ended begun = record {
  numbers = f.numbers;
  once = f.once;
  fresh = λ j other. (
      let u = f.fresh j other in
      record { acts = acts j other ∙ u.acts; handed = u.handed; back = u.back; ended = λ open'. ended j other open' (u.ended (open_before first_base h e open')) });
  begun = begun;
  back = f.back;
  out = f.out;
  idle = f.idle;
  began = f.began;
  alone = f.alone;
}

facts_act : {C : Type 0} {base : Base} (h : List (Event C)) (k : ℕ) (act : Act C) → Facts base h → IsNumber base h k → (received_at (OfJob k act ∷ h) k ≡ false → received_at h k ≡ false)
    → Facts base (OfJob k act ∷ h)
facts_act {base = base} h k act f is before = facts_still h (OfJob k act) refl f (λ j other. acts_other h k act j (other_number base h k j is other))
    (λ j other open' e. ended_other h k act j (other_number base h k j is other) e) (begun_act h k act f before)

facts_opened : {C : Type 0} {base : Base} (h : List (Event C)) (k s q : ℕ) → Facts base h → k ≡ last base h + 1 → Facts base (Opened k s q ∷ h)
facts_opened {C} {base = base} h k s q f is =
    let x : Opening = record { job = k; sender = s; queue = q } in
    let n : length (openings h ++ x ∷ []) ≡ length (openings h) + 1 = length_push (openings h) x in
    record {
      numbers = λ o has. elim (has_last o (openings h) x has) [
        | inl t ↦ let old = f.numbers o t in (old.0, let le = old.1 in omega arith)
        | inr e ↦ let j : k ≡ o.job = ap (λ (y : Opening). y.job) e in (omega arith, omega arith)
      ];
      once = λ o i has also same. elim (has_last o (openings h) x has) [
        | inl t ↦ elim (has_last i (openings h) x also) [
          | inl u ↦ f.once o i t u same
          | inr e ↦ let old = (f.numbers o t).1 in let j : k ≡ i.job = ap (λ (y : Opening). y.job) e in absurd (omega arith)
        ]
        | inr e ↦ elim (has_last i (openings h) x also) [
          | inl u ↦ let old = (f.numbers i u).1 in let j : k ≡ o.job = ap (λ (y : Opening). y.job) e in absurd (omega arith)
          | inr d ↦ sym e ∙ d
        ]
      ];
      fresh = λ j lt. (let u = f.fresh j (elim lt [ inl l ↦ inl l | inr l ↦ inr (omega arith) ]) in record { acts = u.acts; handed = u.handed; back = u.back; ended = u.ended });
      begun = f.begun;
      back = f.back;
      out = f.out;
      idle = f.idle;
      began = f.began;
      alone = f.alone;
    }

-- a page that is handed

pub record Turn' {C : Type 0} (h : List (Event C)) (p : ℕ) (sheet : Sheet C) : Type 0 where
  pub idle : out_at h p ≡ None
  pub at : At h sheet.job (λ v. Gets sheet v)
  pub why : (began_at h p ≡ Some sheet.job) ⊎ ((handed_at h sheet.job ≡ 0) × (received_at h sheet.job ≡ true))

begins_at : {C : Type 0} (h : List (Event C)) (x : Job C) (j q : ℕ) (jobs : List (Job C)) (o : Opening) → x ≡ job_of h o → x.number ≡ j → Begins jobs q x → (handed_at h j ≡ 0) × (received_at h j ≡ true)
begins_at {C} h x j q jobs o is n b =
    let m : o.job ≡ j = sym (ap (λ (v : Job C). v.number) is) ∙ n in
    let a : handed_at h o.job ≡ 0 = sym (ap (λ (v : Job C). v.handed) is) ∙ b.unhanded in
    let r : received_at h o.job ≡ true = sym (ap (λ (v : Job C). is_received v) is) ∙ b.received in
    (subst (λ (i : ℕ). handed_at h i ≡ 0) m a, subst (λ (i : ℕ). received_at h i ≡ true) m r)

pub turn_of_page : {C : Type 0} (c : Config) (base : Base) (h : List (Event C)) (p : ℕ) (sheet : Sheet C) → 1 ≤ p → p ≤ Rattle.config_values.specs.Config.printer_count c → Rattle.spool_history.specs.Next.next_page (now c base h) p ≡ Rattle.spool_history.specs.Next.Next.Hands sheet → Turn' h p sheet
turn_of_page {C} c base h p sheet one le e =
    let g = (given (now c base h) p sheet e).1 in
    let here = at_printer c base h p one le in
    let k = Rattle.spool_laws.proofs.Known.known c base h g.job g.turn.there in
    let n : g.job.number ≡ sheet.job = sym (ap (λ (s : Sheet C). s.job) g.gets.is) in
    record {
      idle = sym (ap (λ (x : Printer C). x.out) here) ∙ g.idle;
      at = given_at c base h (printer_at (now c base h) p) sheet g;
      why = elim g.turn.why [
        | inl b ↦ inl (sym (ap (λ (x : Printer C). x.began) here) ∙ (b ∙ ap (λ (i : ℕ). Some i) n))
        | inr b ↦ inr (begins_at h g.job sheet.job (printer_at (now c base h) p).queue (now c base h).jobs k.opening k.is n b)
      ];
    }

pub handed_now : {C : Type 0} {base : Base} (h : List (Event C)) (p : ℕ) (sheet : Sheet C) → Facts base h → Turn' h p sheet → handed_at h sheet.job ≡ back_of h sheet.job
handed_now h p sheet f t = elim t.why [
  | inl b ↦ f.idle p sheet.job t.idle b
  | inr z ↦ let b = f.back sheet.job in let zero' = z.0 in omega arith
]

-- no other printer began the job
others : {C : Type 0} {base : Base} (h : List (Event C)) (p : ℕ) (sheet : Sheet C) → Facts base h → Turn' h p sheet → (q : ℕ) → q ≢ p → began_at h q ≡ Some sheet.job → ⊥
others h p sheet f t q ne b = elim t.why [
  | inl a ↦ ne (f.alone q p sheet.job b a)
  | inr z ↦ let w = f.began q sheet.job b in let zero' = z.0 in omega arith
]

received_now : {C : Type 0} {base : Base} (h : List (Event C)) (p : ℕ) (sheet : Sheet C) → Facts base h → Turn' h p sheet → received_at h sheet.job ≡ false → ⊥
received_now h p sheet f t e = elim t.why [
  | inl b ↦ let w = f.began p sheet.job b in let z = f.begun sheet.job e in omega arith
  | inr z ↦ clash (received_at h sheet.job) z.1 e
]

pub handed_more : {C : Type 0} (h : List (Event C)) (p : ℕ) (sheet : Sheet C) (j : ℕ) → sheet.job ≢ j → handed_of (AtPrinter p sheet Handed ∷ h) j ≡ handed_of h j
handed_more h p sheet j ne = elim (test sheet.job j) [ inl s ↦ absurd (ne s.0) | inr s ↦ rw s.1 refl ]

pub handed_one : {C : Type 0} (h : List (Event C)) (p : ℕ) (sheet : Sheet C) (j : ℕ) → sheet.job ≡ j → handed_of (AtPrinter p sheet Handed ∷ h) j ≡ handed_of h j ++ sheet ∷ []
handed_one h p sheet j e = elim (test sheet.job j) [ inl s ↦ rw s.1 refl | inr s ↦ absurd (s.0 e) ]

pub count_more : {C : Type 0} (h : List (Event C)) (p : ℕ) (sheet : Sheet C) (j : ℕ) → sheet.job ≢ j → handed_at (AtPrinter p sheet Handed ∷ h) j ≡ handed_at h j
count_more h p sheet j ne = ap length (handed_more h p sheet j ne)

pub count_one : {C : Type 0} (h : List (Event C)) (p : ℕ) (sheet : Sheet C) (j : ℕ) → sheet.job ≡ j → handed_at (AtPrinter p sheet Handed ∷ h) j ≡ handed_at h j + 1
count_one h p sheet j e = ap length (handed_one h p sheet j e) ∙ length_push (handed_of h j) sheet

pub back_same : {C : Type 0} (h : List (Event C)) (p : ℕ) (sheet : Sheet C) (j : ℕ) → back_of (AtPrinter p sheet Handed ∷ h) j ≡ back_of h j
back_same h p sheet j = elim (test sheet.job j) [ inl s ↦ rw s.1 refl | inr s ↦ rw s.1 refl ]

ended_turn : {C : Type 0} (h : List (Event C)) (p : ℕ) (sheet : Sheet C) (turn : Turn) (j : ℕ) → sheet.job ≢ j → has_ended h j ≡ false → has_ended (AtPrinter p sheet turn ∷ h) j ≡ false
ended_turn h p sheet turn j ne e = elim (test sheet.job j) [ inl s ↦ absurd (ne s.0) | inr s ↦ rw s.1 e ]

-- the one value of two equal options
pub some_same : {X : Type 0} (x y : X) → ◌≡◌ {A = Option X} (Some x) (Some y) → x ≡ y
some_same x y e = cc

none_some : {C : Type 0} (s : Sheet C) → ◌≡◌ {A = Option (Sheet C)} None (Some s) → ⊥
none_some s e = cc

-- a page is out at a printer: the next place of its job after those that came back, and the only one that is out
abbrev IsOut : {C : Type 0} → List (Event C) → ℕ → Sheet C → Type 0
IsOut h p s = (began_at h p ≡ Some s.job) × (handed_at h s.job ≡ back_of h s.job + 1) × (s.place ≡ back_of h s.job)

facts_handed : {C : Type 0} {base : Base} (h : List (Event C)) (p : ℕ) (sheet : Sheet C) → Facts base h → Turn' h p sheet → Facts base (AtPrinter p sheet Handed ∷ h)
facts_handed {C} h p sheet f t =
    let here = handed_now h p sheet f t in
    let le = number_at h sheet.job (λ v. Gets sheet v) f t.at in
    let place : sheet.place ≡ handed_at h sheet.job = ap (λ (s : Sheet C). s.place) t.at.is.is in
    let apart : (q j : ℕ) → p ≢ q → began_at h q ≡ Some j → sheet.job ≢ j = λ q j ne b same. others h p sheet f t q (λ z. ne (sym z)) (subst (λ (i : ℕ). began_at h q ≡ Some i) (sym same) b) in
    record {
      numbers = f.numbers;
      once = f.once;
      fresh = λ j lt. (
          let u = f.fresh j lt in
          let ne : sheet.job ≢ j = λ same. (let m : sheet.job ≡ j = same in omega arith) in
          record { acts = u.acts; handed = handed_more h p sheet j ne ∙ u.handed; back = back_same h p sheet j ∙ u.back; ended = λ open'. ended_turn h p sheet Handed j ne (u.ended open') });
      begun = λ j e. elim (test sheet.job j) [
        | inl s ↦ absurd (received_now h p sheet f t (subst (λ (i : ℕ). received_at h i ≡ false) (sym s.0) e))
        | inr s ↦ count_more h p sheet j s.0 ∙ f.begun j e
      ];
      back = λ j. elim (test sheet.job j) [
        | inl s ↦ omega (arith, count_one h p sheet j s.0, f.back j, back_same h p sheet j)
        | inr s ↦ omega (arith, count_more h p sheet j s.0, f.back j, back_same h p sheet j)
      ];
      out = λ q x e. elim (test p q) [
        | inl s ↦
            let one = count_one h p sheet sheet.job refl in
            let d = back_same h p sheet sheet.job in
            subst (IsOut (AtPrinter p sheet Handed ∷ h) q) (some_same sheet x (rw s.1 at e)) (rw s.1 refl, omega arith, omega arith)
        | inr s ↦
            let o = f.out q x (rw s.1 at e) in
            let m = count_more h p sheet x.job (apart q x.job s.0 o.0) in
            let d = back_same h p sheet x.job in
            (rw s.1 o.0, omega (arith, o.1), omega (arith, o.2))
      ];
      idle = λ q j e b. elim (test p q) [
        | inl s ↦ let x : ◌≡◌ {A = Option (Sheet C)} (Some sheet) None = rw s.1 at e in absurd (none_some sheet (sym x))
        | inr s ↦ let b' : began_at h q ≡ Some j = rw s.1 at b in omega (arith, f.idle q j (rw s.1 at e) b', count_more h p sheet j (apart q j s.0 b'), back_same h p sheet j)
      ];
      began = λ q j b. elim (test sheet.job j) [
        | inl s ↦ omega (arith, count_one h p sheet j s.0)
        | inr s ↦ elim (test p q) [
          | inl r ↦ absurd (s.0 (some_same sheet.job j (rw r.1 at b)))
          | inr r ↦ omega (arith, count_more h p sheet j s.0, f.began q j (rw r.1 at b))
        ]
      ];
      alone = λ q r j b d. elim (test p q) [
        | inl s ↦ elim (test p r) [ inl u ↦ sym s.0 ∙ u.0 | inr u ↦ absurd (apart r j u.0 (rw u.1 at d) (some_same sheet.job j (rw s.1 at b))) ]
        | inr s ↦ elim (test p r) [ inl u ↦ absurd (apart q j s.0 (rw s.1 at b) (some_same sheet.job j (rw u.1 at d))) | inr u ↦ f.alone q r j (rw s.1 at b) (rw u.1 at d) ]
      ];
    }

-- a page that comes back

pub handed_same : {C : Type 0} (h : List (Event C)) (p : ℕ) (sheet : Sheet C) (turn : Turn) (j : ℕ) → is_handed turn ≡ false → handed_of (AtPrinter p sheet turn ∷ h) j ≡ handed_of h j
handed_same h p sheet turn j e = elim (test sheet.job j) [ inl s ↦ rw (s.1, e) refl | inr s ↦ rw s.1 refl ]

pub began_same : {C : Type 0} (h : List (Event C)) (p : ℕ) (sheet : Sheet C) (turn : Turn) (q : ℕ) → is_handed turn ≡ false → began_at (AtPrinter p sheet turn ∷ h) q ≡ began_at h q
began_same h p sheet turn q e = elim (test p q) [ inl s ↦ rw (s.1, e) refl | inr s ↦ rw s.1 refl ]

pub back_more : {C : Type 0} (h : List (Event C)) (p : ℕ) (sheet : Sheet C) (turn : Turn) (j : ℕ) → sheet.job ≢ j → back_of (AtPrinter p sheet turn ∷ h) j ≡ back_of h j
back_more h p sheet turn j ne = elim (test sheet.job j) [ inl s ↦ absurd (ne s.0) | inr s ↦ rw s.1 refl ]

pub back_one : {C : Type 0} (h : List (Event C)) (p : ℕ) (sheet : Sheet C) (turn : Turn) (j : ℕ) → is_handed turn ≡ false → sheet.job ≡ j → back_of (AtPrinter p sheet turn ∷ h) j ≡ back_of h j + 1
back_one h p sheet turn j e same = elim (test sheet.job j) [ inl s ↦ rw (s.1, e) refl | inr s ↦ absurd (s.0 same) ]

pub out_here : {C : Type 0} (h : List (Event C)) (p : ℕ) (sheet : Sheet C) (turn : Turn) (q : ℕ) → is_handed turn ≡ false → p ≡ q → out_at (AtPrinter p sheet turn ∷ h) q ≡ None
out_here h p sheet turn q e same = elim (test p q) [ inl s ↦ rw (s.1, e) refl | inr s ↦ absurd (s.0 same) ]

pub out_there : {C : Type 0} (h : List (Event C)) (p : ℕ) (sheet : Sheet C) (turn : Turn) (q : ℕ) → p ≢ q → out_at (AtPrinter p sheet turn ∷ h) q ≡ out_at h q
out_there h p sheet turn q ne = elim (test p q) [ inl s ↦ absurd (ne s.0) | inr s ↦ rw s.1 refl ]

-- a job of which a page is out was accepted
nothing_handed : {C : Type 0} {base : Base} (h : List (Event C)) (j : ℕ) → Facts base h → 0 < handed_at h j → IsOther base h j → ⊥
nothing_handed h j f pos other =
    let z : handed_at h j ≡ 0 = ap length (f.fresh j other).handed in
    absurd (omega arith)

pub handed_number : {C : Type 0} {base : Base} (h : List (Event C)) (j : ℕ) → Facts base h → 0 < handed_at h j → IsNumber base h j
handed_number {base = base} h j f pos = elim (cases_lt base.accepted j) [
  | inl low ↦ elim (cases_lt (last base h) j) [
    | inl lt ↦ absurd (nothing_handed h j f pos (inr lt))
    | inr le ↦ (low, le)
  ]
  | inr le ↦ absurd (nothing_handed h j f pos (inl le))
]

facts_back : {C : Type 0} {base : Base} (h : List (Event C)) (p : ℕ) (sheet : Sheet C) (turn : Turn) → is_handed turn ≡ false → Facts base h → out_at h p ≡ Some sheet → Facts base (AtPrinter p sheet turn ∷ h)
facts_back {C} h p sheet turn is f o =
    let was = f.out p sheet o in
    let le = handed_number h sheet.job f (omega (arith, was.1)) in
    let one : (j : ℕ) → sheet.job ≡ j → handed_at h j ≡ back_of h j + 1 = λ j same. subst (λ (i : ℕ). handed_at h i ≡ back_of h i + 1) same was.1 in
    let apart : (q j : ℕ) → p ≢ q → began_at h q ≡ Some j → sheet.job ≢ j = λ q j ne b same. ne (f.alone p q sheet.job was.0 (subst (λ (i : ℕ). began_at h q ≡ Some i) (sym same) b)) in
    record {
      numbers = f.numbers;
      once = f.once;
      fresh = λ j lt. (
          let u = f.fresh j lt in
          let ne : sheet.job ≢ j = λ same. (let m : sheet.job ≡ j = same in omega arith) in
          record { acts = u.acts; handed = handed_same h p sheet turn j is ∙ u.handed; back = back_more h p sheet turn j ne ∙ u.back; ended = λ x. ended_turn h p sheet turn j ne (u.ended x) });
      begun = λ j e. ap length (handed_same h p sheet turn j is) ∙ f.begun j e;
      back = λ j. elim (test sheet.job j) [
        | inl r ↦ omega (arith, ap length (handed_same h p sheet turn j is), one j r.0, back_one h p sheet turn j is r.0)
        | inr r ↦ omega (arith, ap length (handed_same h p sheet turn j is), back_more h p sheet turn j r.0, f.back j)
      ];
      out = λ q x e. elim (test p q) [
        | inl s ↦ absurd (none_some x (sym (out_here h p sheet turn q is s.0) ∙ e))
        | inr s ↦
            let x' = f.out q x (sym (out_there h p sheet turn q s.0) ∙ e) in
            let m = back_more h p sheet turn x.job (apart q x.job s.0 x'.0) in
            let n = ap length (handed_same h p sheet turn x.job is) in
            (began_same h p sheet turn q is ∙ x'.0, omega (arith, x'.1), omega (arith, x'.2))
      ];
      idle = λ q j e b. (
          let b' : began_at h q ≡ Some j = sym (began_same h p sheet turn q is) ∙ b in
          let n = ap length (handed_same h p sheet turn j is) in
          elim (test p q) [
            | inl s ↦ let j' = some_same sheet.job j (sym was.0 ∙ subst (λ (r : ℕ). began_at h r ≡ Some j) (sym s.0) b') in omega (arith, one j j', back_one h p sheet turn j is j')
            | inr s ↦ omega (arith, f.idle q j (sym (out_there h p sheet turn q s.0) ∙ e) b', back_more h p sheet turn j (apart q j s.0 b'))
          ]);
      began = λ q j b. (
          omega (arith, ap length (handed_same h p sheet turn j is), f.began q j (sym (began_same h p sheet turn q is) ∙ b)));
      alone = λ q r j b d. f.alone q r j (sym (began_same h p sheet turn q is) ∙ b) (sym (began_same h p sheet turn r is) ∙ d);
    }

-- the other events

none_named : {C : Type 0} (c : Config) (base : Base) (h : List (Event C)) (P : Job C → Type 0) (j : ℕ) (jobs : List ℕ) → Facts base h → IsOther base h j → AllByRecursion (λ k. HasJob (now c base h).jobs k P) jobs → list_any (λ (k : ℕ). k == j) jobs ≡ false
none_named c base h P j [] f lt all = refl
none_named c base h P j (k ∷ ks) f lt all =
    elim (test k j) [ inl s ↦ absurd (other_number base h k j (number_at h k P f (has_at c base h k P all.0)) lt s.0) | inr s ↦ rw s.1 (none_named c base h P j ks f lt all.1) ]

no_facts : {C : Type 0} (base : Base) → Facts {C = C} base []
no_facts base = record {
  numbers = λ o has. absurd has;
  once = λ o i has also same. absurd has;
  fresh = λ j lt. record { acts = refl; handed = refl; back = refl; ended = λ open'. refl };
  begun = λ j e. refl;
  back = λ j. omega arith;
  out = λ p s e. absurd cc;
  idle = λ p j e b. refl;
  began = λ p j b. absurd cc;
  alone = λ p q j b d. absurd cc;
}

received_aborted : {C : Type 0} (h : List (Event C)) (k : ℕ) → received_at (OfJob k Aborted ∷ h) k ≡ false → received_at h k ≡ false
received_aborted h k e = elim (test k k) [ inl r ↦ rw r.1 at e | inr r ↦ absurd (r.0 refl) ]

-- a page that is out at a printer
pub is_out : {C : Type 0} (c : Config) (base : Base) (h : List (Event C)) (p : ℕ) (sheet : Sheet C) → IsPrinter c p → (printer_at (now c base h) p).out ≡ Some sheet → out_at h p ≡ Some sheet
is_out {C} c base h p sheet is e = sym (ap (λ (x : Printer C). x.out) (at_printer c base h p is.0 is.1)) ∙ e

facts_step : {C : Type 0} (size : C → ℕ) (c : Config) (base : Base) (h : List (Event C)) (e : Event C) → Facts base h → May size (now c base h) e → Facts base (e ∷ h)
facts_step size c base h (Opened k s q) f m = facts_opened h k s q f m.4
facts_step size c base h (OfJob k Granted) f m =
    let a = has_at c base h k _ m.0 in
    facts_act h k Granted f (number_at h k _ f a) (λ e. a.is.0.0.1)
facts_step size c base h (OfJob k Aborted) f m =
    facts_act h k Aborted f (number_at h k _ f (has_at c base h k _ m.0)) (received_aborted h k)
facts_step size c base h (OfJob k act) f m =
    let a = has_at c base h k _ m.0 in
    facts_act h k act f (number_at h k _ f a) (λ e. a.is.0.1)
facts_step size c base h (AtPrinter p sheet Handed) f m = facts_handed h p sheet f (turn_of_page c base h p sheet m.0.0 m.0.1 m.1)
facts_step size c base h (AtPrinter p sheet (Printed x)) f m = facts_back h p sheet (Printed x) refl f (is_out c base h p sheet m.0 m.1.0)
facts_step size c base h (AtPrinter p sheet Failed) f m = facts_back h p sheet Failed refl f (is_out c base h p sheet m.0 m.1)
facts_step size c base h (Removed q jobs) f m = facts_still h (Removed q jobs) refl f (λ j other. refl) (λ j other open' e. rw (none_named c base h _ j jobs f other m.4) e) f.begun
facts_step size c base h (Started q) f m = facts_still h (Started q) refl f (λ j other. refl) (λ j other open' e. e) f.begun
facts_step size c base h Closed f m = facts_still h Closed refl f (λ j other. refl) (λ j other open' e. absurd (clash true refl open')) f.begun

pub facts : {C : Type 0} (size : C → ℕ) (c : Config) (base : Base) (h : List (Event C)) → IsLegal size c base h → Facts base h
facts size c base [] l = no_facts base
facts size c base (e ∷ h) l = facts_step size c base h e (facts size c base h l.1) l.0
