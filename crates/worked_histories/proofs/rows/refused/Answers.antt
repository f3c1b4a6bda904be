use Rattle.std.proofs.Common.{◌≡◌, ℕ, zero, suc, ◌≤◌, ◌<◌, true, false, List, [], ◌∷◌, ◌++◌, Option, Some, None, refl, sym, ◌∙◌, ap, subst, arith, drop, length}
use Rattle.std.specs.Prelude.{◌-◌, ◌*◌, min, slice_index_or}
use Rattle.spool_history.specs.Base.{Base, first_base}
use Rattle.spool_history.specs.Events.{Event, Sheet}
use Rattle.spool_history.specs.Events.Act.{Put}
use Rattle.spool_history.specs.Events.Event.{OfJob, Started}
use Rattle.spool_history.specs.Events.Progress.{Going, Done}
use Rattle.spool_history.specs.Acts.{File}
use Rattle.spool_history.specs.Now.{Job, State, now}
use Rattle.spool_history.specs.Next.{Next, printer_at}
use Rattle.spool_history.specs.Next.Next.{Hands}
use Rattle.spool_history.specs.Legal.{HasJob, May}
use Rattle.worked_histories.specs.Rows.{small, hello, rld, one_job}
use Rattle.worked_histories.specs.Bases.{after_one, after_failure}
use Rattle.worked_histories.specs.Copies.{out_1, out_2, out_3}
use Rattle.std.proofs.lemmas.List.{same_from_push}
use Rattle.worked_histories.proofs.Legal.{first_file, first_job}
use Rattle.worked_histories.proofs.rows.refused.Goals as goal

none_is_not_some : (sheet : Sheet (List ℕ)) → (let none : Option (Sheet (List ℕ)) = None in none ≡ Some sheet) → ⊥
none_is_not_some sheet h = cc

abbrev mine : ℕ → Job (List ℕ)
mine n = first_job first_base (drop n one_job)

abbrev file : ℕ → File (List ℕ)
file n = first_file first_base (drop n one_job)

-- which place, which job and how many octets a printer is handed; 9 where it is handed nothing
abbrev place_of : Next (List ℕ) → ℕ
place_of (Hands sheet) = sheet.place
place_of _ = 9

abbrev job_in : Next (List ℕ) → ℕ
job_in (Hands sheet) = sheet.job
job_in _ = 9

abbrev length_in : Next (List ℕ) → ℕ
length_in (Hands sheet) = length sheet.page
length_in _ = 9

other_place : (n m : ℕ) → n ≡ m → (n ≡ m → ⊥) → ⊥
other_place n m e differ = differ e

-- a state with no job has none of which anything holds
nobody : (jobs : List (Job (List ℕ))) (j : ℕ) (P : Job (List ℕ) → Type 0) → jobs ≡ [] → HasJob jobs j P → ⊥
nobody jobs j P none h = let lt : h.there.0 < length jobs = h.there.1 in let e : length jobs ≡ 0 = ap length none in omega arith

first_of_one : (a x : Job (List ℕ)) (k : ℕ) → k < 1 → slice_index_or (a ∷ []) k x ≡ x → a ≡ x
first_of_one a x zero lt e = e
first_of_one a x (suc k) lt e = absurd (omega arith)

-- a state with one job
single : (jobs : List (Job (List ℕ))) (a : Job (List ℕ)) (j : ℕ) (P : Job (List ℕ) → Type 0) → jobs ≡ a ∷ [] → HasJob jobs j P → (a.number ≡ j) × P a
single jobs a j P one h =
    let len : length jobs ≡ 1 = ap length one in
    let at : slice_index_or (a ∷ []) h.there.0 h.job ≡ h.job = subst (λ (l : List (Job (List ℕ))). slice_index_or l h.there.0 h.job ≡ h.job) one h.there.2 in
    let same : a ≡ h.job = first_of_one a h.job h.there.0 (let lt = h.there.1 in omega arith) at in
    (ap (λ (x : Job (List ℕ)). x.number) same ∙ h.number, subst P (sym same) h.is)

-- what holds of a job of number 1 before the newest n events holds of the one there
of_mine : (n : ℕ) {P : Job (List ℕ) → Type 0} → (now small first_base (drop n one_job)).jobs ≡ mine n ∷ []
    → HasJob (now small first_base (drop n one_job)).jobs 1 P → ((mine n).number ≡ 1) × P (mine n)
of_mine n {P} one h = single (now small first_base (drop n one_job)).jobs (mine n) 1 P one h

-- of one file the last is that one, and none is before it
one_file : (files : List (File (List ℕ))) (f : File (List ℕ)) (before : List (File (List ℕ))) (last : File (List ℕ)) → files ≡ f ∷ [] → files ≡ before ++ last ∷ [] → ([] ≡ before) × (f ≡ last)
one_file files f before last one e = same_from_push [] before f last (sym one ∙ e)

-- the one printer isn't stopped, from a base
not_stopped_from : (b : Base) (h : List (Event (List ℕ))) → (printer_at (now small b h) 1).stopped ≡ false → (p : ℕ) → 1 ≤ p → p ≤ 1 → (printer_at (now small b h) p).stopped ≡ true → ⊥
not_stopped_from b h runs zero low high is = omega arith
not_stopped_from b h runs (suc zero) low high is = cc
not_stopped_from b h runs (suc (suc p)) low high is = omega arith

pub returns-clause-events : goal.returns-clause-events
returns-clause-events c = record {
  close_twice = λ h. let e : true ≡ false = h in cc;
  opened_after_close = λ h. let e : true ≡ false = h.0 in cc;
  handed_after_close = λ h. other_place 9 0 (ap place_of h.1) (λ e. omega arith);
  started_after_close = λ h. let e : true ≡ false = h.0 in cc;
  removed_after_close = λ h. let e : true ≡ false = h.0 in cc;
  number_again = λ h. let e : 1 < 1 = omega (arith, h.4) in omega arith;
  number_skipped = λ h. let e : 3 < 3 = omega (arith, h.4) in omega arith;
  queue_unknown = λ h. let e : 2 ≤ 1 = h.1.1 in omega arith;
  queue_0 = λ h. let e : 1 ≤ 0 = h.1.0 in omega arith;
  account_full = λ h. let e : 713 ≤ 712 = h.3 in omega arith;
  table_full = λ h. let e : 1 < 1 = h.2 in omega arith;
  lent_to_nobody = λ h. nobody (now small first_base []).jobs 1 _ refl h.0;
  lent_with_no_file = λ h. let s = of_mine 12 refl h.0 in let e : false ≡ true = s.1.0.1 in cc;
  lent_twice = λ h. let s = of_mine 10 refl h.0 in let e : true ≡ false = s.1.0.2 in cc;
  put_unlent = λ h. let s = of_mine 11 refl h.0 in let e : false ≡ true = s.1.1 in cc;
  put_into_another_file = λ h. let s = of_mine 10 refl h.0 in omega (arith, s.1.2.3, ap length (one_file (mine 10).files (file 10) s.1.2.0 s.1.2.1 refl s.1.2.2).0);
  file_while_one_is_open = λ h. let s = of_mine 11 refl h.0 in let e : true ≡ false = s.1.1 in cc;
  name_taken = λ h. let s = of_mine 6 refl h.0 in let e : true ≡ false = s.1.2 in cc;
  over_the_limit = λ h. let s = of_mine 12 refl h.0 in let e : 4 ≤ 3 = s.1.4 in omega arith;
  file_of_no_octet = λ h. let e : 0 < 0 = h.1 in omega arith;
  ended_while_lent = λ h. let s = of_mine 10 refl h.0 in let e : true ≡ false = s.1.1 in cc;
  ended_with_the_wrong_word = λ h. let s = of_mine 7 refl h.0 in let e : true ≡ false = s.1.3 in cc;
  control_twice = λ h. let s = of_mine 5 refl h.0 in let e : true ≡ false = s.1.0.1 in cc;
  control_with_the_wrong_word = λ h. let s = of_mine 6 refl h.0 in let e : false ≡ true = s.1.2 in cc;
  control_printing_nothing = λ h. let e : false ≡ true = h.1.prints in cc;
  control_printing_100_names = λ h. let e : false ≡ true = h.1.prints in cc;
  aborted_nobody = λ h. nobody (now small first_base []).jobs 1 _ refl h.0;
  handed_out_of_order = λ h. other_place 0 1 (ap place_of h.1) (λ e. omega arith);
  handed_while_busy = λ h. other_place 9 1 (ap place_of h.1) (λ e. omega arith);
  handed_again = λ h. other_place 1 0 (ap place_of h.1) (λ e. omega arith);
  handed_before_its_time = λ h. other_place 9 0 (ap place_of h.1) (λ e. omega arith);
  later_job_first = λ h. other_place 1 2 (ap job_in h.1) (λ e. omega arith);
  next_job_while_one_is_dying = λ h. other_place 9 2 (ap job_in h.1) (λ e. omega arith);
  other_bytes = λ h. other_place 8 5 (ap length_in h.1) (λ e. omega arith);
  printed_not_out = λ h. none_is_not_some _ h.1.0;
  printed_done_early = λ h. let s = of_mine 4 refl h.1.1 in let e : Done ≡ Going = s.1 in cc;
  printed_going_at_last = λ h. let s = of_mine 2 refl h.1.1 in let e : Going ≡ Done = s.1 in cc;
  failed_not_out = λ h. none_is_not_some _ h.1;
  printer_unknown = λ h. let e : 2 ≤ 1 = h.0.1 in omega arith;
  printer_0 = λ h. let e : 1 ≤ 0 = h.0.0 in omega arith;
  removed_nobody = λ h. let e : 0 < 0 = h.2 in omega arith;
  removed_while_received = λ h. let s = of_mine 6 refl h.4.0 in let e : false ≡ true = s.1.1 in cc;
  started_unstopped = λ h. not_stopped_from first_base (drop 5 one_job) refl h.2 h.3.0 h.3.1 h.4.1;
}

-- a page that may be put into the one file of a state is as long as what the file lacks, and at most 8 octets
due : (n number : ℕ) (page : List ℕ) → let v : State (List ℕ) = now small first_base (drop n one_job) in
    v.jobs ≡ mine n ∷ [] → (mine n).files ≡ file n ∷ [] → May length v (OfJob 1 (Put 0 number page)) → length page ≡ min 8 ((file n).count - number * 8)
due n number page one files h =
    let s = of_mine n one h.0 in
    let o = s.1.2 in
    let last = (one_file (mine n).files (file n) o.0 o.1 files o.2).1 in
    subst (λ (f : File (List ℕ)). length page ≡ min 8 (f.count - number * 8)) (sym last) o.5.2

pub returns-clause-pages : goal.returns-clause-pages
returns-clause-pages c = record {
  too_short = λ h. let e : 3 ≡ 8 = due 10 0 rld refl refl h in other_place 3 8 e (λ x. omega arith);
  too_long = λ h. let e : 8 ≡ 3 = due 8 1 hello refl refl h in other_place 8 3 e (λ x. omega arith);
}

-- the number of the page that a printer is handed in its file
abbrev number_in : Next (List ℕ) → ℕ
number_in (Hands sheet) = sheet.number
number_in _ = 9

pub returns-clause-copies : goal.returns-clause-copies
returns-clause-copies c = record {
  place_again_before_its_turn = λ h. other_place 1 0 (ap place_of h.1) (λ e. omega arith);
  later_place_first = λ h. other_place 0 2 (ap place_of h.1) (λ e. omega arith);
  page_again_at_the_next_place = λ h. other_place 1 0 (ap number_in h.1) (λ e. omega arith);
  place_for_its_number = λ h. other_place 0 2 (ap number_in h.1) (λ e. omega arith);
  past_the_last_place = λ h. other_place 9 4 (ap place_of h.1) (λ e. omega arith);
  done_after_the_first_copy = λ h. let s = single (now small first_base out_1).jobs (first_job first_base out_1) 1 _ refl h.1.1 in let e : Done ≡ Going = s.1 in cc;
  done_one_place_early = λ h. let s = single (now small first_base out_2).jobs (first_job first_base out_2) 1 _ refl h.1.1 in let e : Done ≡ Going = s.1 in cc;
  going_at_the_last_place = λ h. let s = single (now small first_base out_3).jobs (first_job first_base out_3) 1 _ refl h.1.1 in let e : Going ≡ Done = s.1 in cc;
}

pub returns-clause-bases : goal.returns-clause-bases
returns-clause-bases c = record {
  number_of_the_base = λ h. let e : 1 < 1 = omega (arith, h.4) in omega arith;
  number_skipped = λ h. let e : 3 < 3 = omega (arith, h.4) in omega arith;
  started_unstopped = λ h. not_stopped_from after_one [] refl h.2 h.3.0 h.3.1 h.4.1;
  handed_of_the_last_job = λ h. other_place 9 0 (ap place_of h.1) (λ e. omega arith);
  removed_of_the_last_job = λ h. nobody (now small after_one []).jobs 1 _ refl h.4.0;
  handed_while_stopped = λ h. other_place 9 0 (ap place_of h.1) (λ e. omega arith);
  started_twice = λ h. not_stopped_from after_failure (Started 1 ∷ []) refl h.2 h.3.0 h.3.1 h.4.1;
  account_full = λ h. let e : 714 ≤ 713 = h.3 in omega arith;
  opened_when_closed = λ h. let e : true ≡ false = h.0 in cc;
  closed_when_closed = λ h. let e : true ≡ false = h in cc;
  started_when_closed = λ h. let e : true ≡ false = h.0 in cc;
}
