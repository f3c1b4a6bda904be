-- What makes each event of a job legal that is alone in the small spool: what it reads of the spool before it.
use Rattle.std.proofs.Common.{◌≡◌, ℕ, zero, suc, ◌≤◌, ◌<◌, true, false, List, [], ◌∷◌, length, refl, sym, subst, arith, drop, map, lit≤, lit<}
use Rattle.std.specs.Prelude.{Some, slice_index_or}
use Rattle.std.proofs.lemmas.List.{get_or_default}
use Rattle.counts.specs.Amounts.{Fits}
use Rattle.claims.specs.Safety.{HasFinishingOrder}
use Rattle.claims.specs.declared.row.Row.{Row}
use Rattle.lpd_values.specs.Contents.{Contents}
use Rattle.spool_history.specs.Base.{Base, first_base}
use Rattle.spool_history.specs.Events.{Act, Event, Progress, Sheet}
use Rattle.spool_history.specs.Events.Act.{Granted, Began, Put, FileEnded, Controlled}
use Rattle.spool_history.specs.Events.Turn.{Handed, Printed}
use Rattle.spool_history.specs.Events.Event.{Opened, OfJob, AtPrinter}
use Rattle.spool_history.specs.Acts.{File, new_file}
use Rattle.spool_history.specs.Now.{Job, State, now, is_received, row_of, free_amount, free_pages}
use Rattle.spool_history.specs.Next.{next_page, printer_at}
use Rattle.spool_history.specs.Next.Next.{Hands}
use Rattle.spool_history.specs.Steps.{acted, after, new_job}
use Rattle.spool_history.specs.Legal.{ActMay, HasJob, IsControl, IsLegal, JobMay, progress_of}
use Rattle.worked_histories.specs.Rows.{small, hello, rld}

-- each event of a history of the small spool meets its conditions
abbrev pub Legal : Base → List (Event (List ℕ)) → Type 0
Legal b h = IsLegal length small b h

-- where the spool is, its first job, and the first file of that
abbrev pub state : Base → List (Event (List ℕ)) → State (List ℕ)
state b h = now small b h

abbrev pub first_job : Base → List (Event (List ℕ)) → Job (List ℕ)
first_job b h = slice_index_or (state b h).jobs 0 (new_job 0 0 0)

abbrev pub first_file : Base → List (Event (List ℕ)) → File (List ℕ)
first_file b h = slice_index_or (first_job b h).files 0 (new_file [] 0)

-- the first job is there, with this number
has : (b : Base) (h : List (Event (List ℕ))) (j : ℕ) (P : Job (List ℕ) → Type 0) → 0 < length (state b h).jobs → (first_job b h).number ≡ j → P (first_job b h) → HasJob (state b h).jobs j P
has b h j P some number is =
    record { job = first_job b h; there = (0, some, get_or_default (state b h).jobs 0 (first_job b h) (new_job 0 0 0) some); number = number; is = is }

-- a page is handed to the printer, and comes back
pub prints : (b : Base) (h : List (Event (List ℕ))) (s : Sheet (List ℕ)) (x : Progress) → next_page (state b h) 1 ≡ Hands s → let g : List (Event (List ℕ)) = AtPrinter 1 s Handed ∷ h in
    (printer_at (state b g) 1).out ≡ Some s → 0 < length (state b g).jobs → (first_job b g).number ≡ s.job → x ≡ progress_of (first_job b g) → Legal b h → Legal b (AtPrinter 1 s (Printed x) ∷ g)
prints b h s x next out some number is l =
    (((lit≤ tt, lit≤ tt), (out, has b (AtPrinter 1 s Handed ∷ h) s.job (λ v. x ≡ progress_of v) some number is)), (((lit≤ tt, lit≤ tt), next), l))

-- a session does what an act says
pub acts : (b : Base) (h : List (Event (List ℕ))) (j : ℕ) (act : Act (List ℕ)) → 0 < length (state b h).jobs → (first_job b h).number ≡ j → JobMay length small act (first_job b h)
    → ActMay (state b h) j act → Legal b h → Legal b (OfJob j act ∷ h)
acts b h j act some number may beside l = ((has b h j (JobMay length small act) some number may, beside), l)

pub fits : (f : ℕ → ℕ) (a b : ℕ) → a ≤ f 0 → b ≤ f 1 → Fits (a ∷ b ∷ []) f
fits f a b h i zero = h
fits f a b h i (suc zero) = i
fits f a b h i (suc (suc k)) = omega arith

-- the row of a job of the one queue
abbrev pub row : (number sender held need : ℕ) → Row
row n s held need = record { number = n; sender = s; queue = 1; held = held ∷ 0 ∷ []; need = need ∷ 1 ∷ [] }

-- and so a page may be lent to a job that is alone
pub lent : (b : Base) (h : List (Event (List ℕ))) (j s held need : ℕ) → 0 < length (state b h).jobs → (first_job b h).number ≡ j → JobMay length small Granted (first_job b h)
    → 0 < free_pages (state b h) → let v : State (List ℕ) = after (OfJob j Granted) (state b h) in map (row_of small) v.jobs ≡ row j s held need ∷ [] → need ≤ free_amount v 0 → 1 ≤ free_amount v 1
    → Legal b h → Legal b (OfJob j Granted ∷ h)
lent b h j s held need some number may free is pages printers l =
    let f = free_amount (after (OfJob j Granted) (state b h)) in
    let P : List Row → Type 0 = HasFinishingOrder f in
    acts b h j Granted some number may (free, subst P (sym is) (row j s held need ∷ [], record { each_once = ([], [], refl, refl); in_line = (tt, tt); fits = (fits f need 1 pages printers, tt) })) l

-- the data file of a job is received: 11 octets under this name
abbrev pub file_sent : List ℕ → List (Event (List ℕ))
file_sent name =
    OfJob 1 (FileEnded 0 false) ∷ OfJob 1 (Put 0 1 rld) ∷ OfJob 1 Granted ∷ OfJob 1 (Put 0 0 hello) ∷ OfJob 1 Granted
    ∷ OfJob 1 (Began name 11) ∷ Opened 1 1 1 ∷ []

abbrev sent : List ℕ → ℕ → List (Event (List ℕ))
sent name n = drop n (file_sent name)

filed : (name : List ℕ) → Legal first_base (file_sent name)
filed name =
    acts first_base (sent name 1) 1 (FileEnded 0 false) (lit< tt) refl ((refl, refl), refl, ([], first_file first_base (sent name 1), refl, refl, refl, refl), refl) tt
    (acts first_base (sent name 2) 1 (Put 0 1 rld) (lit< tt) refl ((refl, refl), refl, ([], first_file first_base (sent name 2), refl, refl, refl, (refl, lit< tt, refl))) tt
    (lent first_base (sent name 3) 1 1 2 1 (lit< tt) refl (((refl, refl), refl, refl), lit< tt) (lit< tt) refl (lit≤ tt) (lit≤ tt)
    (acts first_base (sent name 4) 1 (Put 0 0 hello) (lit< tt) refl ((refl, refl), refl, ([], first_file first_base (sent name 4), refl, refl, refl, (refl, lit< tt, refl))) tt
    (lent first_base (sent name 5) 1 1 1 2 (lit< tt) refl (((refl, refl), refl, refl), lit< tt) (lit< tt) refl (lit≤ tt) (lit≤ tt)
    (acts first_base (sent name 6) 1 (Began name 11) (lit< tt) refl ((refl, refl), refl, refl, lit< tt, lit≤ tt) (lit< tt)
    ((refl, (lit≤ tt, lit≤ tt), lit< tt, lit≤ tt, refl, lit< tt), tt))))))

-- and its control file comes
pub controlled : (name : List ℕ) (control : Contents) → IsControl control → is_received (acted (Controlled control true) (first_job first_base (file_sent name))) ≡ true
    → Legal first_base (OfJob 1 (Controlled control true) ∷ file_sent name)
controlled name control is whole = acts first_base (file_sent name) 1 (Controlled control true) (lit< tt) refl ((refl, refl), refl, sym whole) is (filed name)
