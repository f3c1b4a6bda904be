-- Jobs of one sender and queue leave one after the other.
use Rattle.std.proofs.Common.{inl, inr, ◌≡◌, ◌==◌, ℕ, ◌+◌, ◌<◌, Bool, true, false, List, [], ◌∷◌, length, map, refl, sym, ◌∙◌, ap, arith}
use Rattle.std.specs.Prelude.{◌&&◌, filter, nat_lt, Some}
use Rattle.std.specs.List.{list_any}
use Rattle.std.proofs.lemmas.Bool.Decides.{nat_tests}
use Rattle.std.proofs.lemmas.Bool.{and_from}
use Rattle.spool_history.specs.Base.{Base}
use Rattle.spool_history.specs.Events.{Event, Sheet, Turn}
use Rattle.spool_history.specs.Events.Turn.{Handed}
use Rattle.spool_history.specs.Events.Event.{Opened, AtPrinter}
use Rattle.config_values.specs.Config.{IsPrinter, Config}
use Rattle.spool_history.specs.Said.{Opening, openings, is_handed}
use Rattle.spool_history.specs.Now.{Job, Printer, now, job_of, is_held}
use Rattle.spool_history.specs.Next.{is_preceded_by, next_page}
use Rattle.spool_history.specs.Next.Next.{Hands}
use Rattle.spool_history.specs.Legal.{IsLegal, May}
use Rattle.spool_laws.specs.Leaving.{EachHanded, EarlierAreGone}
use Rattle.spool_laws.proofs.Known.{Has, has_contained, has_last, has_kept, none_of, clash, test, Known, known}
use Rattle.spool_laws.proofs.Printers.{at_printer}
use Rattle.spool_laws.proofs.Turns.{given}
use Rattle.spool_laws.proofs.Facts.{Facts, facts, last, handed_at, handed_more, handed_same}
use Rattle.spool_laws.proofs.Moves.{steady}
use Rattle.spool_laws.proofs.Leaves.{each_handed}

abbrev pub IsBehind : {C : Type 0} → List (Event C) → Opening → Opening → Type 0
IsBehind h o k = Has o (openings h) × Has k (openings h) × (o.job < k.job) × (o.sender ≡ k.sender) × (o.queue ≡ k.queue)

-- once a page of a job was handed, all earlier jobs of its sender and queue are gone
abbrev pub Behind : {C : Type 0} → List (Event C) → Type 0
Behind h = (o k : Opening) → IsBehind h o k → 0 < handed_at h k.job → is_held (job_of h o) ≡ false

pub bool_cases : (b : Bool) → (b ≡ true → ⊥) → b ≡ false
bool_cases true f = absurd (f refl)
bool_cases false f = refl

gone_first : {C : Type 0} (h : List (Event C)) (os : List Opening) (x : Job C) (o : Opening) → Has o os → list_any (is_preceded_by x) (filter is_held (map (job_of h) os)) ≡ false
    → o.sender ≡ x.sender → o.queue ≡ x.queue → o.job < x.number → is_held (job_of h o) ≡ false
gone_first h os x o has none s q lt = bool_cases (is_held (job_of h o)) (λ held.
    let f : ((o.sender == x.sender) && ((o.queue == x.queue) && nat_lt o.job x.number)) ≡ false = none_of (is_preceded_by x) (job_of h o) (filter is_held (map (job_of h) os)) none (has_kept h o os held has) in
    let a : (o.sender == x.sender) ≡ true = grind (arith, nat_tests) in
    let b : (o.queue == x.queue) ≡ true = grind (arith, nat_tests) in
    let d : nat_lt o.job x.number ≡ true = grind (arith, nat_tests) in
    clash ((o.sender == x.sender) && ((o.queue == x.queue) && nat_lt o.job x.number)) (and_from (o.sender == x.sender) ((o.queue == x.queue) && nat_lt o.job x.number) a (and_from (o.queue == x.queue) (nat_lt o.job x.number) b d)) f)

gone_by : {C : Type 0} {base : Base} (h : List (Event C)) (x : Job C) (o k : Opening) (a : Known h (openings h) x) → Facts base h → x.number ≡ k.job → IsBehind h o k → list_any (is_preceded_by x) (filter is_held (map (job_of h) (openings h))) ≡ false → is_held (job_of h o) ≡ false
gone_by {C} h x o k a f n b none =
    let num : a.opening.job ≡ k.job = sym (ap (λ (v : Job C). v.number) a.is) ∙ n in
    let same : a.opening ≡ k = f.once a.opening k a.there b.1 num in
    let s : x.sender ≡ k.sender = ap (λ (v : Job C). v.sender) a.is ∙ ap (λ (y : Opening). y.sender) same in
    let q : x.queue ≡ k.queue = ap (λ (v : Job C). v.queue) a.is ∙ ap (λ (y : Opening). y.queue) same in
    gone_first h (openings h) x o b.0 none (b.3 ∙ sym s) (b.4 ∙ sym q) (omega arith)

-- when a page is handed, the earlier jobs are gone
now_gone : {C : Type 0} (c : Config) (base : Base) (h : List (Event C)) (p : ℕ) (sheet : Sheet C) → Facts base h → Behind h → IsPrinter c p → next_page (now c base h) p ≡ Hands sheet → (o k : Opening) → IsBehind h o k → k.job ≡ sheet.job → is_held (job_of h o) ≡ false
now_gone {C} c base h p sheet f b is e o k behind' same =
    let g = (given (now c base h) p sheet e).1 in
    let n : g.job.number ≡ k.job = sym (ap (λ (s : Sheet C). s.job) g.gets.is) ∙ sym same in
    elim g.turn.why [
      | inl began ↦
          b o k behind' (f.began p k.job (sym (ap (λ (x : Printer C). x.began) (at_printer c base h p is.0 is.1)) ∙ (began ∙ ap (λ (i : ℕ). Some i) n)))
      | inr first ↦ gone_by h g.job o k (known c base h g.job g.turn.there) f n behind' first.first
    ]

-- after a job is accepted
behind_opened : {C : Type 0} {base : Base} (h : List (Event C)) (j s q : ℕ) → Facts base h → j ≡ last base h + 1 → ((o : Opening) → is_held (job_of h o) ≡ false → is_held (job_of (Opened j s q ∷ h) o) ≡ false) → Behind h → Behind (Opened j s q ∷ h)
behind_opened {C} h j s q f new st b o k is pos =
    let x : Opening = record { job = j; sender = s; queue = q } in
    elim (has_last k (openings h) x is.1) [
      | inl t ↦ elim (has_last o (openings h) x is.0) [
        | inl u ↦ st o (b o k (u, t, is.2, is.3, is.4) pos)
        | inr e ↦ let n = f.numbers k t in let m : j ≡ o.job = ap (λ (y : Opening). y.job) e in absurd (omega arith)
      ]
      | inr e ↦
          let m : j ≡ k.job = ap (λ (y : Opening). y.job) e in
          let z : handed_at h k.job ≡ 0 = ap length (f.fresh k.job (inr (omega arith))).handed in
          absurd (omega arith)
    ]

behind_handed : {C : Type 0} (c : Config) (base : Base) (h : List (Event C)) (p : ℕ) (sheet : Sheet C) → Facts base h → IsPrinter c p → next_page (now c base h) p ≡ Hands sheet
    → ((o : Opening) → is_held (job_of h o) ≡ false → is_held (job_of (AtPrinter p sheet Handed ∷ h) o) ≡ false) → Behind h → Behind (AtPrinter p sheet Handed ∷ h)
behind_handed c base h p sheet f at e st b o k is pos = st o (elim (test sheet.job k.job) [
  | inl s ↦ now_gone c base h p sheet f b at e o k is (sym s.0)
  | inr s ↦ b o k is (let m = ap length (handed_more h p sheet k.job s.0) in omega arith)
])

behind_back : {C : Type 0} (h : List (Event C)) (p : ℕ) (sheet : Sheet C) (turn : Turn) → is_handed turn ≡ false → ((o : Opening) → is_held (job_of h o) ≡ false → is_held (job_of (AtPrinter p sheet turn ∷ h) o) ≡ false) → Behind h → Behind (AtPrinter p sheet turn ∷ h)
behind_back h p sheet turn not' st b o k is pos = st o (b o k is (let m = ap length (handed_same h p sheet turn k.job not') in omega arith))

behind_step : {C : Type 0} (size : C → ℕ) (c : Config) (base : Base) (h : List (Event C)) (e : Event C) → IsLegal size c base h → May size (now c base h) e → Behind h → Behind (e ∷ h)
behind_step size c base h (Opened k s q) l m b = behind_opened h k s q (facts size c base h l) m.4 (steady size c base h (Opened k s q) l m) b
behind_step size c base h (AtPrinter p sheet Handed) l m b = behind_handed c base h p sheet (facts size c base h l) m.0 m.1 (steady size c base h (AtPrinter p sheet Handed) l m) b
behind_step size c base h (AtPrinter p sheet turn) l m b = behind_back h p sheet turn refl (steady size c base h (AtPrinter p sheet turn) l m) b
behind_step size c base h e l m b = λ o k is pos. steady size c base h e l m o (b o k is pos)

pub behind : {C : Type 0} (size : C → ℕ) (c : Config) (base : Base) (h : List (Event C)) → IsLegal size c base h → Behind h
behind size c base [] l = λ o k is pos. absurd is.0
behind size c base (e ∷ h) l = behind_step size c base h e l.1 l.0 (behind size c base h l.1)

pub each_in_order : {C : Type 0} (size : C → ℕ) (c : Config) (base : Base) (h : List (Event C)) → IsLegal size c base h → EachHanded EarlierAreGone h
each_in_order size c base h l = each_handed size c base EarlierAreGone h (λ h p sheet l m o k has also same lt s q.
    now_gone c base h p sheet (facts size c base h l) (behind size c base h l) m.0 m.1 o k (has_contained o (openings h) has, has_contained k (openings h) also, lt, s, q) same) l
