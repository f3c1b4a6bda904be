-- What is known of a page that is out at a printer.
use Rattle.std.proofs.Common.{inl, inr, ◌≡◌, ◌≢◌, ℕ, zero, suc, ◌+◌, ◌<◌, true, List, [], ◌∷◌, ◌++◌, length, get_or, take, drop, refl, sym, ◌∙◌, ap, subst, arith}
use Rattle.std.specs.Prelude.{Option, Some, None}
use Rattle.std.proofs.lemmas.List.{length_push}
use Rattle.spool_history.specs.Base.{Base}
use Rattle.spool_history.specs.Events.{Event, Sheet, Turn}
use Rattle.spool_history.specs.Events.Turn.{Handed, Printed, Failed}
use Rattle.spool_history.specs.Events.Event.{Opened, OfJob, AtPrinter, Removed, Started, Closed}
use Rattle.config_values.specs.Config.{Config, IsPrinter, queue_of}
use Rattle.spool_history.specs.Acts.{Page}
use Rattle.spool_history.specs.Said.{Opening, openings, handed_of, back_of, out_at, began_at}
use Rattle.spool_history.specs.Now.{Job, Printer, now, job_of, is_held, is_received, places}
use Rattle.spool_history.specs.Next.{printer_at}
use Rattle.spool_history.specs.Legal.{HasJob, IsLegal}
use Rattle.spool_laws.specs.Leaving.{places_of, sheets}
use Rattle.spool_laws.proofs.Known.{Has, has_kept, known, test}
use Rattle.spool_laws.proofs.Adding.{has_left, has_end}
use Rattle.spool_laws.proofs.Facts.{facts, IsNumber, handed_at, handed_one, handed_more, handed_same, handed_number, is_out}
use Rattle.spool_laws.proofs.Printers.{at_printer}
use Rattle.spool_laws.proofs.Moves.{out_held}
use Rattle.spool_laws.proofs.Busy.{busy, received_if}
use Rattle.spool_laws.proofs.Places.{placed}
use Rattle.step_lemmas.specs.Standing.{no_job}
use Rattle.step_lemmas.proofs.HeldJobs.Standing.{Stands, has_here}
use Rattle.spool_laws.proofs.Joined.{contained as contains_has}
use Rattle.step_lemmas.proofs.HeldJobs.Holding.{job_sound}

some_sheet : {C : Type 0} (s t : Sheet C) → ◌≡◌ {A = Option (Sheet C)} (Some s) (Some t) → s ≡ t
some_sheet s t e = cc

none_some : {C : Type 0} (s : Sheet C) → ◌≡◌ {A = Option (Sheet C)} None (Some s) → ⊥
none_some s e = cc

handed_still : {C : Type 0} (h : List (Event C)) (p : ℕ) (x : Sheet C) (turn : Turn) (s : Sheet C) (j : ℕ) → Has s (handed_of h j) → Has s (handed_of (AtPrinter p x turn ∷ h) j)
handed_still {C} h p x Handed s j has = elim (test x.job j) [
  | inl e ↦ subst (λ (l : List (Sheet C)). Has s l) (sym (handed_one h p x j e.0)) (has_left s (handed_of h j) (x ∷ []) has)
  | inr e ↦ subst (λ (l : List (Sheet C)). Has s l) (sym (handed_more h p x j e.0)) has
]
handed_still {C} h p x (Printed y) s j has = subst (λ (l : List (Sheet C)). Has s l) (sym (handed_same h p x (Printed y) j refl)) has
handed_still {C} h p x Failed s j has = subst (λ (l : List (Sheet C)). Has s l) (sym (handed_same h p x Failed j refl)) has

handed_here : {C : Type 0} (h : List (Event C)) (p : ℕ) (x s : Sheet C) → x ≡ s → Has s (handed_of (AtPrinter p x Handed ∷ h) s.job)
handed_here {C} h p x s e =
    subst (λ (l : List (Sheet C)). Has s l) (sym (handed_one h p x s.job (ap (λ (y : Sheet C). y.job) e)))
    (subst (λ (y : Sheet C). Has s (handed_of h s.job ++ y ∷ [])) (sym e) (has_end s (handed_of h s.job)))

-- a page that is out is one of those of its job that were handed out
pub out_was_handed : {C : Type 0} (h : List (Event C)) (p : ℕ) (s : Sheet C) → out_at h p ≡ Some s → Has s (handed_of h s.job)
out_was_handed [] p s e = absurd (none_some s e)
out_was_handed (Opened k x q ∷ h) p s e = out_was_handed h p s e
out_was_handed (OfJob k act ∷ h) p s e = out_was_handed h p s e
out_was_handed (AtPrinter q x Handed ∷ h) p s e = elim (test q p) [
  | inl t ↦ handed_here h q x s (some_sheet x s (rw t.1 at e))
  | inr t ↦ handed_still h q x Handed s s.job (out_was_handed h p s (rw t.1 at e))
]
out_was_handed (AtPrinter q x (Printed y) ∷ h) p s e = elim (test q p) [
  | inl t ↦ absurd (none_some s (rw t.1 at e))
  | inr t ↦ handed_still h q x (Printed y) s s.job (out_was_handed h p s (rw t.1 at e))
]
out_was_handed (AtPrinter q x Failed ∷ h) p s e = elim (test q p) [
  | inl t ↦ absurd (none_some s (rw t.1 at e))
  | inr t ↦ handed_still h q x Failed s s.job (out_was_handed h p s (rw t.1 at e))
]
out_was_handed (Removed q jobs ∷ h) p s e = out_was_handed h p s e
out_was_handed (Started q ∷ h) p s e = out_was_handed h p s e
out_was_handed (Closed ∷ h) p s e = out_was_handed h p s e

-- a sheet of a job is what stands at one of these places, the first of which has the number n
record Placed {C : Type 0} (j n : ℕ) (ps : List (Page C)) (s : Sheet C) : Type 0 where
  at : ℕ
  page : Page C
  later : List (Page C)
  left : drop at ps ≡ page ∷ later
  is : s ≡ record { job = j; place = n + at; file = page.file; number = page.number; page = page.page }

placed_in : {C : Type 0} (j n m : ℕ) (ps : List (Page C)) (s : Sheet C) → Has s (sheets j n (take m ps)) → Placed j n ps s
placed_in j n zero ps s has = absurd has
placed_in j n (suc m) [] s has = absurd has
placed_in {C} j n (suc m) (x ∷ xs) s has = elim has [
  | inl e ↦
      let z : n ≡ n + 0 = omega arith in
      record { at = 0; page = x; later = xs; left = refl; is = sym e ∙ ap (λ (i : ℕ). record { job = j; place = i; file = x.file; number = x.number; page = x.page }) z }
  | inr t ↦
      let r = placed_in j (n + 1) m xs s t in
      let z : n + 1 + r.at ≡ n + suc r.at = omega arith in
      record { at = suc r.at; page = r.page; later = r.later; left = r.left; is = r.is ∙ ap (λ (i : ℕ). record { job = j; place = i; file = r.page.file; number = r.page.number; page = r.page.page }) z }
]

sheet_moved : {C : Type 0} (s : Sheet C) (x : Page C) (j j' n n' : ℕ) → s ≡ record { job = j; place = n; file = x.file; number = x.number; page = x.page } → j ≡ j' → n ≡ n' → s ≡ record { job = j'; place = n'; file = x.file; number = x.number; page = x.page }
sheet_moved s x j j' n n' e a b =
    e
    ∙ (ap (λ (i : ℕ). record { job = i; place = n; file = x.file; number = x.number; page = x.page }) a
    ∙ ap (λ (i : ℕ). record { job = j'; place = i; file = x.file; number = x.number; page = x.page }) b)

-- each number between is that of an accepted job
pub opening_there : {C : Type 0} (size : C → ℕ) (c : Config) (base : Base) (h : List (Event C)) (j : ℕ) → IsLegal size c base h → IsNumber base h j → (o : Opening) × Has o (openings h) × (o.job ≡ j)
opening_there size c base [] j l is = (let low = is.0 in let high = is.1 in absurd (omega arith))
opening_there size c base (Opened k s q ∷ h) j l is =
    let new : Opening = record { job = k; sender = s; queue = q } in
    elim (test k j) [
      | inl e ↦ (new, has_end new (openings h), e.0)
      | inr e ↦
          let ne = e.0 in
          let low = is.0 in
          let high = is.1 in
          let number = l.0.4 in
          let n = length_push (openings h) new in
          let r = opening_there size c base h j l.1 (low, omega arith) in
          (r.0, has_left r.0 (openings h) (new ∷ []) r.1, r.2)
    ]
opening_there size c base (OfJob k act ∷ h) j l is = opening_there size c base h j l.1 is
opening_there size c base (AtPrinter p sheet turn ∷ h) j l is = opening_there size c base h j l.1 is
opening_there size c base (Removed q jobs ∷ h) j l is = opening_there size c base h j l.1 is
opening_there size c base (Started q ∷ h) j l is = opening_there size c base h j l.1 is
opening_there size c base (Closed ∷ h) j l is = opening_there size c base h j l.1 is

-- a page of this job is out at a printer of the queue q: it is the page of the place after those that came back
pub record OutOf {C : Type 0} (q : ℕ) (sheet : Sheet C) (x : Job C) : Type 0 where
  pub number : x.number ≡ sheet.job
  pub queue : x.queue ≡ q
  pub handed : x.handed ≡ x.back + 1
  pub received : is_received x ≡ true
  pub place : sheet.place ≡ x.back
  pub page : Page C
  pub later : List (Page C)
  pub left : drop x.back (places x) ≡ page ∷ later
  pub is : sheet ≡ record { job = x.number; place = x.back; file = page.file; number = page.number; page = page.page }

-- what stands first behind others stands there
pub drop_first : {X : Type 0} (xs : List X) (i : ℕ) (y : X) (ys : List X) (d : X) → drop i xs ≡ y ∷ ys → (i < length xs) × (get_or xs i d ≡ y)
drop_first [] zero y ys d e = absurd cc
drop_first [] (suc i) y ys d e = absurd cc
drop_first (x ∷ xs) zero y ys d e = (omega arith, cc)
drop_first (x ∷ xs) (suc i) y ys d e = (let r = drop_first xs i y ys d e in (let lt = r.0 in omega arith, r.1))

out_held_job : {C : Type 0} (size : C → ℕ) (c : Config) (base : Base) (h : List (Event C)) (p : ℕ) (sheet : Sheet C) → IsLegal size c base h → out_at h p ≡ Some sheet → HasJob (now c base h).jobs sheet.job (OutOf (queue_of c p) sheet)
out_held_job {C} size c base h p sheet l e =
    let f = facts size c base h l in
    let out = f.out p sheet e in
    let more = out.1 in
    let there = opening_there size c base h sheet.job l (handed_number h sheet.job f (omega arith)) in
    let o : Opening = there.0 in
    let number : sheet.job ≡ o.job = sym there.2 in
    let handed : handed_at h o.job ≡ back_of h o.job + 1 = subst (λ (j : ℕ). handed_at h j ≡ back_of h j + 1) number out.1 in
    let held = out_held h o.job handed in
    let b = busy size c base h l o there.1 held (omega arith) in
    let same : p ≡ b.at = f.alone p b.at o.job (out.0 ∙ ap (λ (j : ℕ). Some j) number) b.began in
    let printed = placed_in sheet.job 0 (handed_at h sheet.job) (places_of h sheet.job) sheet (subst (λ (l : List (Sheet C)). Has sheet l) (placed size c base h l sheet.job) (out_was_handed h p sheet e)) in
    let page = printed.page in
    let place : sheet.place ≡ back_of h o.job = out.2 ∙ ap (back_of h) number in
    let was : sheet.place ≡ 0 + printed.at = ap (λ (s : Sheet C). s.place) printed.is in
    let at : printed.at ≡ back_of h o.job = omega arith in
    let at' : 0 + printed.at ≡ back_of h o.job = omega arith in
    record {
      job = job_of h o;
      there = contains_has (job_of h o) (now c base h).jobs (has_kept h o (openings h) held there.1);
      number = sym number;
      is = record {
        number = sym number;
        queue = sym b.queue ∙ ap (queue_of c) (sym same);
        handed = handed;
        received = received_if h o.job f (omega arith);
        place = place;
        page = page;
        later = printed.later;
        left = subst (λ (j : ℕ). drop (back_of h o.job) (places_of h j) ≡ page ∷ printed.later) number (subst (λ (n : ℕ). drop n (places_of h sheet.job) ≡ page ∷ printed.later) at printed.left);
        is = sheet_moved sheet page sheet.job o.job (0 + printed.at) (back_of h o.job) printed.is number at';
      };
    }

-- the job of a page that is out is held, ended or not, and the page is that of its place after those that came back
pub out_job : {C : Type 0} (size : C → ℕ) (c : Config) (base : Base) (h : List (Event C)) (p : ℕ) (sheet : Sheet C) → IsLegal size c base h → IsPrinter c p → (printer_at (now c base h) p).out ≡ Some sheet
    → HasJob (now c base h).jobs sheet.job (OutOf (queue_of c p) sheet)
out_job size c base h p sheet l is e = out_held_job size c base h p sheet l (is_out c base h p sheet is e)

-- the same of the job at its place
pub out_here : {C : Type 0} (size : C → ℕ) (c : Config) (base : Base) (h : List (Event C)) (i p : ℕ) (sheet : Sheet C) → IsLegal size c base h → IsPrinter c p → (printer_at (now c base h) p).out ≡ Some sheet → Stands (now c base h).jobs i sheet.job
    → OutOf (queue_of c p) sheet (get_or (now c base h).jobs i no_job)
out_here {C} size c base h i p sheet l is e s = has_here size c base h i sheet.job (OutOf (queue_of c p) sheet) l s (out_job size c base h p sheet l is e)

-- a page of this job is out at a printer
pub record AtPrinterOf {C : Type 0} (c : Config) (base : Base) (h : List (Event C)) (x : Job C) : Type 0 where
  pub at : ℕ
  pub is : IsPrinter c at
  pub sheet : Sheet C
  pub out : (printer_at (now c base h) at).out ≡ Some sheet
  pub job : sheet.job ≡ x.number
