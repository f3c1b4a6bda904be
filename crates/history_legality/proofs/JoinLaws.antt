-- Joins, job by job and line by line.
use Rattle.std.proofs.Common.{◌≡◌, ℕ, zero, suc, ◌+◌, ◌-◌, ◌<◌, ◌==◌, ◌&&◌, Bool, true, false, List, [], ◌∷◌, ◌++◌, refl, sym, ◌∙◌, ap, subst, arith, map, filter, get_or, take}
use Rattle.std.specs.Prelude.{Contains, cond}
use Rattle.std.specs.List.{AllByRecursion, flat_map, list_any}
use Rattle.std.specs.List.Sorted.{IsStrictlyIncreasing}
use Rattle.std.proofs.lemmas.Bool.{ltb-true, lt-ltb, and_parts, and_from, or_parts, eqb-true}
use Rattle.std.proofs.lemmas.List.{append_assoc, map-append}
use Rattle.std.proofs.lemmas.List.Elements.{All-from_recursion, recursion_from_All, All-contains, Contains-get_or}
use Rattle.std.proofs.lemmas.List.Folds.{Any-from_list_any, list_any_at}
use Rattle.spool_history.specs.Events.{Sheet, Event}
use Rattle.spool_history.specs.Acts.{Page}
use Rattle.spool_history.specs.Said.{Opening, openings}
use Rattle.spool_history.specs.Now.{is_held, job_of}
use Rattle.spool_history.specs.Joined.{IsJoin, LeavesJoined, handed, handed_from, first_places, is_of_one, sheets}
use Rattle.account.specs.declared.entry.Outline.{Outline}
use Rattle.account.specs.declared.entry.Sheet as A
use Rattle.account.specs.Seen.{sheet_seen}
use Rattle.history_reader.specs.declared.state.Opening as R
use Rattle.history_reader.specs.declared.state.Page as P
use Rattle.history_reader.specs.Seen.{opening_seen, page_seen}
use Rattle.history_legality.specs.Joins.{MayLeave, LineIsJoin, is_held_before, of_line}

-- an earlier held job is one of which the test tells
held_before : {C : Type 0} (h : List (Event C)) (jobs : List Opening) (earlier o : Opening) → Contains jobs earlier → earlier.job < o.job → is_held (job_of h earlier) ≡ true → list_any (is_held_before h o.job) jobs ≡ true
held_before h jobs earlier o has lt held =
    list_any_at (is_held_before h o.job) jobs has.0 earlier has.1
    (subst (λ (x : Opening). is_held_before h o.job x ≡ true) (sym has.2) (and_from _ _ (lt-ltb earlier.job o.job lt) held))

-- a join is what its jobs allow it to be
pub join_of : {C : Type 0} (h : List (Event C)) (jobs : List Opening) → IsStrictlyIncreasing (map (λ (o : Opening). o.job) jobs) → handed_from h jobs ≡ flat_map (first_places h) jobs → AllByRecursion (MayLeave h jobs) jobs → IsJoin h jobs
join_of h jobs rising join may =
    let each : (o : Opening) → Contains jobs o → MayLeave h jobs o = λ o has. All-contains (MayLeave h jobs) jobs o (All-from_recursion (MayLeave h jobs) jobs may) has in
    record {
      rising = rising;
      join = join;
      all_of_done = λ o has. (each o has).all_of_done;
      none_unreceived = λ o has. (each o has).none_unreceived;
      none_behind_held = λ earlier o before has lt held. (each o has).none_behind_held (held_before h jobs earlier o before lt held);
    }

pub may_of : {C : Type 0} (h : List (Event C)) (jobs : List Opening) → IsJoin h jobs → AllByRecursion (MayLeave h jobs) jobs
may_of {C} h jobs j = recursion_from_All (MayLeave h jobs) jobs (λ k d lt. one (get_or jobs k d) (Contains-get_or jobs k d lt))
  where
    one : (o : Opening) → Contains jobs o → MayLeave h jobs o
    one o has = record {
      all_of_done = j.all_of_done o has;
      none_unreceived = j.none_unreceived o has;
      none_behind_held = λ any.
          let a = Any-from_list_any (is_held_before h o.job) jobs any in
          let parts = and_parts _ _ a.4 in
          j.none_behind_held a.1 o (a.0, a.2, a.3) has (ltb-true a.1.job o.job parts.0) parts.1;
    }

-- of no job at all
none_from : {C : Type 0} (sheets : List (Sheet C)) → filter (is_of_one []) sheets ≡ []
none_from [] = refl
none_from (x ∷ xs) = none_from xs

of_none : {C : Type 0} (h : List (Event C)) → IsJoin h []
of_none h = record {
  rising = λ k lt. absurd (omega arith);
  join = none_from (handed h);
  all_of_done = λ o has. (let lt = has.1 in absurd (omega arith));
  none_unreceived = λ o has. (let lt = has.1 in absurd (omega arith));
  none_behind_held = λ earlier o before. (let lt = before.1 in absurd (omega arith));
}

filter_none : {A : Type 0} (p : A → Bool) (xs : List A) → list_any p xs ≡ false → filter p xs ≡ []
filter_none p [] e = refl
filter_none {A} p (x ∷ xs) e =
    let parts = or_parts (p x) (list_any p xs) e in
    ap (λ (b : Bool). cond b (x ∷ filter p xs) (filter p xs)) parts.0 ∙ filter_none p xs parts.1

-- a job of a sender and a queue
abbrev is_of_line : (sender queue : ℕ) → Opening → Bool
is_of_line sender queue o = (o.sender == sender) && (o.queue == queue)

-- each sender and queue of an accepted job, and so each sender and queue
pub joined_of : {C : Type 0} (h : List (Event C)) → AllByRecursion (LineIsJoin h (openings h)) (openings h) → LeavesJoined h
joined_of {C} h lines sender queue = step (list_any (is_of_line sender queue) (openings h)) refl
  where
    step : (b : Bool) → list_any (is_of_line sender queue) (openings h) ≡ b → IsJoin h (of_line (openings h) sender queue)
    step true any =
        let a = Any-from_list_any (is_of_line sender queue) (openings h) any in
        let parts = and_parts _ _ a.4 in
        let line : LineIsJoin h (openings h) a.1 = All-contains (LineIsJoin h (openings h)) (openings h) a.1 (All-from_recursion (LineIsJoin h (openings h)) (openings h) lines) (a.0, a.2, a.3) in
        subst (λ (s : ℕ). IsJoin h (of_line (openings h) s queue)) (eqb-true a.1.sender sender parts.0)
        (subst (λ (q : ℕ). IsJoin h (of_line (openings h) a.1.sender q)) (eqb-true a.1.queue queue parts.1) line)
    step false none = subst (λ (jobs : List Opening). IsJoin h jobs) (sym (filter_none (is_of_line sender queue) (openings h) none)) (of_none h)

pub lines_of : {C : Type 0} (h : List (Event C)) (os : List Opening) → LeavesJoined h → AllByRecursion (LineIsJoin h (openings h)) os
lines_of h [] j = tt
lines_of h (o ∷ os) j = (j o.sender o.queue, lines_of h os j)

-- the first of some places, and those behind it
sheets_more : {C : Type 0} (job place count : ℕ) (x : Page C) (xs : List (Page C)) → (count ≡ 0 → ⊥) → sheets job place (take count (x ∷ xs)) ≡ record { job = job; place = place; file = x.file; number = x.number; page = x.page } ∷ sheets job (place + 1) (take (count - 1) xs)
sheets_more job place zero x xs some = absurd (some refl)
sheets_more {C} job place (suc n) x xs some =
    let less : n ≡ suc n - 1 = omega arith in
    ap (λ (k : ℕ). record { job = job; place = place; file = x.file; number = x.number; page = x.page } ∷ sheets {C = C} job (place + 1) (take k xs)) less

-- the page of a place
abbrev pub sheet_at : (job place : ℕ) → P.Page → A.Sheet
sheet_at job place x = record { job = job; place = place; file = x.file; number = x.number; page = x.page }

pub pushed : (old new : List A.Sheet) (job place count : ℕ) (x : P.Page) (xs places : List P.Page) → places ≡ x ∷ xs → new ≡ old ++ sheet_at job place x ∷ [] → (count ≡ 0 → ⊥)
    → map sheet_seen new ++ sheets job (place + 1) (take (count - 1) (map page_seen xs)) ≡ map sheet_seen old ++ sheets job place (take count (map page_seen places))
pushed old new job place count x xs places split items some =
    let more = sheets job (place + 1) (take (count - 1) (map page_seen xs)) in
    let seen : map sheet_seen new ≡ map sheet_seen old ++ sheet_seen (sheet_at job place x) ∷ [] = ap (map sheet_seen) items ∙ map-append sheet_seen old (sheet_at job place x ∷ []) in
    ap (λ (s : List (Sheet Outline)). s ++ more) seen
    ∙ (append_assoc (map sheet_seen old) (sheet_seen (sheet_at job place x) ∷ []) more
    ∙ ap (λ (s : List (Sheet Outline)). map sheet_seen old ++ s) (sym (sheets_more job place count (page_seen x) (map page_seen xs) some)
    ∙ ap (λ (l : List P.Page). sheets job place (take count (map page_seen l))) (sym split)))

-- the numbers of jobs, as they are seen
pub numbers_seen : (jobs : List R.Opening) → map (λ (o : R.Opening). o.job) jobs ≡ map (λ (o : Opening). o.job) (map opening_seen jobs)
numbers_seen [] = refl
numbers_seen (o ∷ os) = ap (λ (ns : List ℕ). o.job ∷ ns) (numbers_seen os)
