-- What a step makes of the jobs of a queue.
use Rattle.std.proofs.Common.{◌≡◌, ◌≢◌, ◌<◌, ◌≤◌, ◌+◌, ◌-◌, ℕ, suc, Bool, true, false, List, [], ◌∷◌, ◌++◌, Option, Some, None, length, get_or, take, drop, inl, inr, nat_lt, refl, sym, ◌∙◌, ap, subst, arith, add-one, ◌||◌}
use Rattle.std.specs.Option.{OnSome}
use Rattle.std.specs.List.{All, AllWithin, find, insert, list_any, position, position_or_len, remove, take_while}
use Rattle.std.proofs.Math.ListN.{set}
use Rattle.std.proofs.lemmas.Grind.{common_steps}
use Rattle.std.proofs.lemmas.Bool.{cases_eq, cases_lt}
use Rattle.std.proofs.lemmas.List.{get_or-take, get_or-drop, get_or-set_same, get_or-set_other, length-take-le, length-drop, length-set, set_split, drop_more, take-append-drop, get_or_default}
use Rattle.std.proofs.lemmas.List.Edits.{get_or-insert_above, get_or-insert_at, get_or-insert_below, length-insert}
use Rattle.std.proofs.lemmas.List.Elements.{All-append, All-head, All-tail}
use Rattle.std.proofs.lemmas.List.Folds.{find_at, list_any_none}
use Rattle.std.proofs.lemmas.List.Sums.{take_while-cons}
use Rattle.std.proofs.lemmas.List.Quantifiers.{position-Some}
use Rattle.std.proofs.lemmas.Option.{slice_get-get_or, slice_get_cases}
use Rattle.parked_lines.specs.declared.job.ParkedJob.{ParkedJob}
use Rattle.parked_lines.specs.Line.{Becomes, IsAt, IsRising, is_earlier, job_of}

-- no job has this number
none_of : (jobs : List ParkedJob) (n : ℕ) → All (λ (job : ParkedJob). job.number ≢ n) jobs → job_of jobs n ≡ None
none_of [] n h = refl
none_of (x ∷ xs) n h =
    let here = All-head (λ (job : ParkedJob). job.number ≢ n) x xs h in
    let rest = none_of xs n (All-tail (λ (job : ParkedJob). job.number ≢ n) x xs h) in
    grind (arith, common_steps)

at_split : (before after : List ParkedJob) (x : ParkedJob) → All (λ (job : ParkedJob). job.number ≢ x.number) before → job_of (before ++ x ∷ after) x.number ≡ Some x
at_split [] after x h = grind (arith, common_steps)
at_split (b ∷ before) after x h =
    let here = All-head (λ (job : ParkedJob). job.number ≢ x.number) b before h in
    let rest = at_split before after x (All-tail (λ (job : ParkedJob). job.number ≢ x.number) b before h) in
    grind (arith, common_steps)

past_split : (before after : List ParkedJob) (x : ParkedJob) (k : ℕ) → k ≢ x.number → job_of (before ++ x ∷ after) k ≡ job_of (before ++ after) k
past_split [] after x k h = grind (arith, common_steps)
past_split (b ∷ before) after x k h =
    let rest = past_split before after x k h in
    grind (arith, common_steps)

split_is : (jobs : List ParkedJob) (i : ℕ) (d : ParkedJob) → i < length jobs → jobs ≡ take i jobs ++ get_or jobs i d ∷ drop (suc i) jobs
split_is jobs i d h = sym (take-append-drop i jobs) ∙ ap (λ (rest : List ParkedJob). take i jobs ++ rest) (rw (← add-one) (drop_more jobs i d h))

-- those before a place have other numbers, and those behind it
before_differ : (jobs : List ParkedJob) (i n : ℕ) → IsRising jobs → IsAt jobs n i → All (λ (job : ParkedJob). job.number ≢ n) (take i jobs)
before_differ jobs i n rising at k d within =
    let short : k < i = omega (arith, within, length-take-le i jobs) in
    let smaller = rising k i d short at.within in
    let same = at.number_is d in
    rw (get_or-take) (grind (arith, smaller, same))

after_differ : (jobs : List ParkedJob) (i n : ℕ) → IsRising jobs → IsAt jobs n i → All (λ (job : ParkedJob). job.number ≢ n) (drop (suc i) jobs)
after_differ jobs i n rising at k d within =
    let long : suc i + k < length jobs = omega (arith, within, length-drop (suc i) jobs) in
    let greater = rising i (suc i + k) d (omega arith) long in
    let same = at.number_is d in
    rw (get_or-drop) (grind (arith, greater, same))

-- the job at a place is the one of its number
pub job_at_place : (jobs : List ParkedJob) (i n : ℕ) (d : ParkedJob) → IsRising jobs → IsAt jobs n i → job_of jobs n ≡ Some (get_or jobs i d)
job_at_place jobs i n d rising at =
    let same = at.number_is d in
    let differ = before_differ jobs i n rising at in
    let found : job_of (take i jobs ++ get_or jobs i d ∷ drop (suc i) jobs) (get_or jobs i d).number ≡ Some (get_or jobs i d) =
    at_split (take i jobs) (drop (suc i) jobs) (get_or jobs i d) (rw same differ) in
    let P : List ParkedJob → Type 0 = λ list. job_of list n ≡ Some (get_or jobs i d) in
    subst P (sym (split_is jobs i d at.within)) (rw same at found)

-- the job at a place is replaced
pub becomes_set : (jobs : List ParkedJob) (i : ℕ) (y : ParkedJob) → IsRising jobs → IsAt jobs y.number i → Becomes jobs (set jobs i y) y.number (Some y)
becomes_set jobs i y rising at = record {
  this_job = rw (set_split jobs i y at.within) (at_split (take i jobs) (drop (suc i) jobs) y (before_differ jobs i y.number rising at));
  other_jobs = λ k ne.
      let same = at.number_is y in
      let other : k ≢ (get_or jobs i y).number = rw same ne in
      let P : List ParkedJob → Type 0 = λ list. job_of (set jobs i y) k ≡ job_of list k in
      subst P (sym (split_is jobs i y at.within))
      (rw (set_split jobs i y at.within) (past_split (take i jobs) (drop (suc i) jobs) y k ne ∙ sym (past_split (take i jobs) (drop (suc i) jobs) (get_or jobs i y) k other)));
}

-- the job at a place is taken out
pub becomes_remove : (jobs : List ParkedJob) (i n : ℕ) (d : ParkedJob) → IsRising jobs → IsAt jobs n i → Becomes jobs (remove jobs i) n None
becomes_remove jobs i n d rising at = record {
  this_job = none_of (remove jobs i) n (All-append (λ (job : ParkedJob). job.number ≢ n) (take i jobs) (drop (suc i) jobs) (before_differ jobs i n rising at) (after_differ jobs i n rising at));
  other_jobs = λ k ne.
      let same = at.number_is d in
      let other : k ≢ (get_or jobs i d).number = rw same ne in
      let P : List ParkedJob → Type 0 = λ list. job_of (remove jobs i) k ≡ job_of list k in
      subst P (sym (split_is jobs i d at.within)) (sym (past_split (take i jobs) (drop (suc i) jobs) (get_or jobs i d) k other));
}

-- a job is put in between those with smaller numbers and those with greater ones
pub becomes_insert : (jobs : List ParkedJob) (i : ℕ) (y : ParkedJob) → i ≤ length jobs → AllWithin (λ (job : ParkedJob). job.number < y.number) jobs 0 i → Becomes jobs (insert jobs i y) y.number (Some y)
becomes_insert jobs i y within before = record {
  this_job = at_split (take i jobs) (drop i jobs) y (λ k d short.
      let less : k < i = omega (arith, short, length-take-le i jobs) in
      let smaller = before k d (omega arith) less in
      rw (get_or-take) (grind (arith, smaller)));
  other_jobs = λ k ne.
      let P : List ParkedJob → Type 0 = λ list. job_of (insert jobs i y) k ≡ job_of list k in
      subst P (take-append-drop i jobs) (past_split (take i jobs) (drop i jobs) y k ne);
}

-- with one job replaced each place has the number that it had
number_set : (jobs : List ParkedJob) (i : ℕ) (y : ParkedJob) → IsAt jobs y.number i → (k : ℕ) (d : ParkedJob) → (get_or (set jobs i y) k d).number ≡ (get_or jobs k d).number
number_set jobs i y at k d =
    elim (cases_eq k i) [
      | inl e ↦
          let same = at.number_is d in
          let now = get_or-set_same jobs i y d at.within in
          grind (arith, same, now, e)
      | inr ne ↦ ap (λ (job : ParkedJob). job.number) (get_or-set_other jobs i k y d ne)
    ]

pub rising_set : (jobs : List ParkedJob) (i : ℕ) (y : ParkedJob) → IsRising jobs → IsAt jobs y.number i → IsRising (set jobs i y)
rising_set jobs i y rising at a b d less within =
    let short : b < length jobs = omega (arith, within, length-set jobs i y) in
    let old = rising a b d less short in
    let one = number_set jobs i y at a d in
    let other = number_set jobs i y at b d in
    grind (arith, old, one, other)

insert_above : (jobs : List ParkedJob) (i : ℕ) (y : ParkedJob) (k : ℕ) (d : ParkedJob) → i < k → i ≤ length jobs → get_or (insert jobs i y) k d ≡ get_or jobs (k - 1) d
insert_above jobs i y k d above within =
    let P : ℕ → Type 0 = λ n. get_or (insert jobs i y) n d ≡ get_or jobs (k - 1) d in
    let same : k - 1 + 1 ≡ k = omega arith in
    subst P same (get_or-insert_above jobs i y d (k - 1) (omega arith) within)

pub rising_insert : (jobs : List ParkedJob) (i : ℕ) (y : ParkedJob) → IsRising jobs → i ≤ length jobs → AllWithin (λ (job : ParkedJob). job.number < y.number) jobs 0 i → AllWithin (λ (job : ParkedJob). y.number < job.number) jobs i (length jobs) → IsRising (insert jobs i y)
rising_insert jobs i y rising within before from a b d less short =
    let all : b < length jobs + 1 = omega (arith, short, length-insert jobs i y within) in
    elim (cases_lt b i) [
      | inl b-before ↦
          let one = get_or-insert_below jobs i y d a (omega arith) within in
          let other = get_or-insert_below jobs i y d b b-before within in
          let old = rising a b d less (omega arith) in
          grind (arith, one, other, old)
      | inr b-from ↦ elim (cases_eq b i) [
        | inl b-at ↦
            let one = get_or-insert_below jobs i y d a (omega arith) within in
            let other = get_or-insert_at jobs i y d within in
            let old = before a d (omega arith) (omega arith) in
            grind (arith, one, other, old, b-at)
        | inr b-off ↦
            let b-above : i < b = omega (arith, b-from, b-off) in
            let other = insert_above jobs i y b d b-above within in
            elim (cases_lt a i) [
              | inl a-before ↦
                  let one = get_or-insert_below jobs i y d a a-before within in
                  let old = rising a (b - 1) d (omega arith) (omega arith) in
                  grind (arith, one, other, old)
              | inr a-from ↦ elim (cases_eq a i) [
                | inl a-at ↦
                    let one = get_or-insert_at jobs i y d within in
                    let old = from (b - 1) d (omega arith) (omega arith) in
                    grind (arith, one, other, old, a-at)
                | inr a-off ↦
                    let a-above : i < a = omega (arith, a-from, a-off) in
                    let one = insert_above jobs i y a d a-above within in
                    let old = rising (a - 1) (b - 1) d (omega arith) (omega arith) in
                    grind (arith, one, other, old)
              ]
            ]
      ]
    ]

-- none has the number where the first that isn't smaller is greater, or is missing
pub none_at : (jobs : List ParkedJob) (i n : ℕ) → IsRising jobs → AllWithin (λ (job : ParkedJob). job.number < n) jobs 0 i → AllWithin (λ (job : ParkedJob). n < job.number) jobs i (length jobs) → job_of jobs n ≡ None
none_at jobs i n rising before from =
    none_of jobs n (λ k d within.
    elim (cases_lt k i) [
      | inl short ↦ let old = before k d (omega arith) short in grind (arith, old)
      | inr long ↦ let old = from k d long within in grind (arith, old)
    ])

-- those from the first that isn't smaller on are greater, where that one is
pub greater_from : (jobs : List ParkedJob) (i n : ℕ) → IsRising jobs → ((d : ParkedJob) → i < length jobs → n < (get_or jobs i d).number) → AllWithin (λ (job : ParkedJob). n < job.number) jobs i (length jobs)
greater_from jobs i n rising first k d from within =
    elim (cases_eq k i) [
      | inl e ↦ let here = first d (omega arith) in grind (arith, here, e)
      | inr ne ↦
          let here = first d (omega arith) in
          let old = rising i k d (omega (arith, from, ne)) within in
          grind (arith, here, old)
    ]

-- none has the number where the first that isn't smaller hasn't
pub none_here : (jobs : List ParkedJob) (i n : ℕ) → IsRising jobs → AllWithin (λ (job : ParkedJob). job.number < n) jobs 0 i → AllWithin (λ (job : ParkedJob). n ≤ job.number) jobs i (length jobs) → ((d : ParkedJob) → i < length jobs → (get_or jobs i d).number ≢ n) → job_of jobs n ≡ None
none_here jobs i n rising before from other =
    none_at jobs i n rising before (greater_from jobs i n rising (λ d within.
    let least = from i d (omega arith) within in
    let ne = other d within in
    omega (arith, least, ne)))

-- one that isn't smaller is greater, where none has the number
pub greater_from_none : (jobs : List ParkedJob) (i n : ℕ) → IsRising jobs → job_of jobs n ≡ None → AllWithin (λ (job : ParkedJob). n ≤ job.number) jobs i (length jobs) → AllWithin (λ (job : ParkedJob). n < job.number) jobs i (length jobs)
greater_from_none jobs i n rising none from k d far within =
    let here = from k d far within in
    elim (cases_eq (get_or jobs k d).number n) [
      | inl e ↦
          let at : IsAt jobs n k = record { within = within; number_is = λ other. ap (λ (job : ParkedJob). job.number) (get_or_default jobs k other d within) ∙ e } in
          let some = job_at_place jobs k n d rising at in
          let both : Some (get_or jobs k d) ≡ None = sym some ∙ none in
          absurd (cc both)
      | inr ne ↦ grind (arith, here, ne)
    ]

pub tail_rising : (x : ParkedJob) (xs : List ParkedJob) → IsRising (x ∷ xs) → IsRising xs
tail_rising x xs h i j d less within = h (suc i) (suc j) d (omega arith) (omega arith)

pub head_smaller : (x : ParkedJob) (xs : List ParkedJob) → IsRising (x ∷ xs) → All (λ (job : ParkedJob). x.number < job.number) xs
head_smaller x xs h k d within = h 0 (suc k) d (omega arith) (omega arith)

not_earlier : (job : ParkedJob) (sender n : ℕ) → n ≤ job.number → is_earlier sender n job ≡ false
not_earlier job sender n h = grind (arith, common_steps)

none_past : (xs : List ParkedJob) (sender n : ℕ) → All (λ (job : ParkedJob). n ≤ job.number) xs → list_any (is_earlier sender n) xs ≡ false
none_past xs sender n h = list_any_none (is_earlier sender n) xs (λ k d within. not_earlier (get_or xs k d) sender n (h k d within))

while_more : (n : ℕ) (x : ParkedJob) (xs : List ParkedJob) → nat_lt x.number n ≡ true → take_while (λ (job : ParkedJob). nat_lt job.number n) (x ∷ xs) ≡ x ∷ take_while (λ (job : ParkedJob). nat_lt job.number n) xs
while_more n x xs e = rw (take_while-cons, e) refl

while_none : (n : ℕ) (x : ParkedJob) (xs : List ParkedJob) → nat_lt x.number n ≡ false → take_while (λ (job : ParkedJob). nat_lt job.number n) (x ∷ xs) ≡ []
while_none n x xs e = rw (take_while-cons, e) refl

-- among those with smaller numbers, which stand first, one is earlier where one is
pub held_up_is : (jobs : List ParkedJob) (sender n : ℕ) → IsRising jobs → list_any (is_earlier sender n) (take_while (λ (job : ParkedJob). nat_lt job.number n) jobs) ≡ list_any (is_earlier sender n) jobs
held_up_is [] sender n h = refl
held_up_is (x ∷ xs) sender n h = by (held_up_is xs sender n (tail_rising x xs h)) (nat_lt x.number n) refl
  where
    by : list_any (is_earlier sender n) (take_while (λ (job : ParkedJob). nat_lt job.number n) xs) ≡ list_any (is_earlier sender n) xs → (b : Bool) → nat_lt x.number n ≡ b → list_any (is_earlier sender n) (take_while (λ (job : ParkedJob). nat_lt job.number n) (x ∷ xs)) ≡ list_any (is_earlier sender n) (x ∷ xs)
    by rest true is = ap (list_any (is_earlier sender n)) (while_more n x xs is) ∙ ap (λ (b : Bool). is_earlier sender n x || b) rest
    by rest false is =
        let more : n ≤ x.number = grind (arith, common_steps, is) in
        let past : All (λ (job : ParkedJob). n ≤ job.number) xs = λ k d within. let greater = h 0 (suc k) d (omega arith) (omega arith) in omega (arith, greater, more) in
        let none = none_past xs sender n past in
        let here = not_earlier x sender n more in
        ap (list_any (is_earlier sender n)) (while_none n x xs is) ∙ sym (ap (λ (b : Bool). b || list_any (is_earlier sender n) xs) here ∙ none)

-- the places between which the first job of this number or a greater one is looked for
pub record Halves (jobs : List ParkedJob) (number low high : ℕ) : Type 0 where
  pub ordered : low ≤ high
  pub within : high ≤ length jobs
  pub before : AllWithin (λ (job : ParkedJob). job.number < number) jobs 0 low
  pub from : AllWithin (λ (job : ParkedJob). number ≤ job.number) jobs high (length jobs)

-- the number at the middle is smaller
pub upper_half : (jobs : List ParkedJob) (number low high middle : ℕ) (x : ParkedJob) → IsRising jobs → Halves jobs number low high → low ≤ middle → middle < high → x ≡ get_or jobs middle x → x.number < number → Halves jobs number (middle + 1) high
upper_half jobs number low high middle x rising h from to is less = record {
  ordered = omega arith;
  within = h.within;
  before = λ k d _ short.
      let here = get_or_default jobs middle d x (omega (arith, to, h.within)) in
      elim (cases_eq k middle) [
        | inl e ↦ grind (arith, here, is, less, e)
        | inr ne ↦
            let old = rising k middle d (omega (arith, short, ne)) (omega (arith, to, h.within)) in
            grind (arith, here, is, less, old)
      ];
  from = h.from;
}

-- the number at the middle is the one, or greater
pub lower_half : (jobs : List ParkedJob) (number low high middle : ℕ) (x : ParkedJob) → IsRising jobs → Halves jobs number low high → low ≤ middle → middle < high → x ≡ get_or jobs middle x → number ≤ x.number → Halves jobs number low middle
lower_half jobs number low high middle x rising h from to is more = record {
  ordered = from;
  within = omega (arith, to, h.within);
  before = h.before;
  from = λ k d long short.
      let here = get_or_default jobs middle d x (omega (arith, to, h.within)) in
      elim (cases_eq k middle) [
        | inl e ↦ grind (arith, here, is, more, e)
        | inr ne ↦
            let old = rising middle k d (omega (arith, long, ne)) short in
            grind (arith, here, is, more, old)
      ];
}

pub rising_same : (items jobs : List ParkedJob) → items ≡ jobs → IsRising items → IsRising jobs
rising_same items jobs e rising = let P : List ParkedJob → Type 0 = λ list. IsRising list in subst P e rising

-- a job is put in at the place that was looked for
pub becomes_put_in : (items jobs new : List ParkedJob) (i : ℕ) (y : ParkedJob) → items ≡ jobs → i ≤ length jobs → AllWithin (λ (job : ParkedJob). job.number < y.number) jobs 0 i → new ≡ insert items i y → Becomes jobs new y.number (Some y)
becomes_put_in items jobs new i y e within before is =
    let same : new ≡ insert jobs i y = is ∙ ap (λ (list : List ParkedJob). insert list i y) e in
    let P : List ParkedJob → Type 0 = λ list. Becomes jobs list y.number (Some y) in
    subst P (sym same) (becomes_insert jobs i y within before)

pub rising_put_in : (items jobs new : List ParkedJob) (i : ℕ) (y : ParkedJob) → items ≡ jobs → IsRising items → job_of jobs y.number ≡ None → i ≤ length jobs → AllWithin (λ (job : ParkedJob). job.number < y.number) jobs 0 i → AllWithin (λ (job : ParkedJob). y.number ≤ job.number) jobs i (length jobs) → new ≡ insert items i y → IsRising new
rising_put_in items jobs new i y e rising none within before from is =
    let same : new ≡ insert jobs i y = is ∙ ap (λ (list : List ParkedJob). insert list i y) e in
    let sorted : IsRising jobs = rising_same items jobs e rising in
    rising_same (insert jobs i y) new (sym same) (rising_insert jobs i y sorted within before (greater_from_none jobs i y.number sorted none from))

-- a job is replaced
pub becomes_replaced : (items jobs : List ParkedJob) (i : ℕ) (y : ParkedJob) → items ≡ jobs → IsRising items → IsAt jobs y.number i → Becomes jobs (set items i y) y.number (Some y)
becomes_replaced items jobs i y e rising at =
    let P : List ParkedJob → Type 0 = λ list. Becomes jobs (set list i y) y.number (Some y) in
    subst P (sym e) (becomes_set jobs i y (rising_same items jobs e rising) at)

-- a job is taken out
becomes_taken_at : (items jobs new : List ParkedJob) (i n : ℕ) (d : ParkedJob) → items ≡ jobs → IsRising items → IsAt jobs n i → new ≡ remove items i → Becomes jobs new n None
becomes_taken_at items jobs new i n d e rising at is =
    let same : new ≡ remove jobs i = is ∙ ap (λ (list : List ParkedJob). remove list i) e in
    let P : List ParkedJob → Type 0 = λ list. Becomes jobs list n None in
    subst P (sym same) (becomes_remove jobs i n d (rising_same items jobs e rising) at)

first_of_some : (jobs : List ParkedJob) (i n : ℕ) → IsAt jobs n i → ParkedJob
first_of_some [] i n at = absurd (omega (arith, at.within))
first_of_some (x ∷ xs) i n at = x

pub becomes_taken : (items jobs new : List ParkedJob) (i n : ℕ) (taken : Option ParkedJob) → items ≡ jobs → IsRising items → IsAt jobs n i → ((d : ParkedJob) → taken ≡ Some (get_or items i d)) → OnSome taken (new ≡ remove items i) → Becomes jobs new n None
becomes_taken items jobs new i n taken e rising at some is =
    let d = first_of_some jobs i n at in
    let P : Option ParkedJob → Type 0 = λ o. OnSome o (new ≡ remove items i) in
    let same : new ≡ remove items i = subst P (some d) is in
    becomes_taken_at items jobs new i n d e rising at same

-- the job that is taken out is the one of its number
pub answer_taken : (items jobs : List ParkedJob) (i n : ℕ) (taken : Option ParkedJob) → items ≡ jobs → IsRising items → IsAt jobs n i → ((d : ParkedJob) → taken ≡ Some (get_or items i d)) → taken ≡ job_of jobs n
answer_taken items jobs i n taken e rising at some =
    let d = first_of_some jobs i n at in
    some d ∙ ap (λ (list : List ParkedJob). Some (get_or list i d)) e ∙ sym (job_at_place jobs i n d (rising_same items jobs e rising) at)

-- the first that passes stands at its place
pub find_place : (p : ParkedJob → Bool) (jobs : List ParkedJob) (i : ℕ) (d : ParkedJob) → position p jobs ≡ Some i → find p jobs ≡ Some (get_or jobs i d)
find_place p jobs i d e =
    let first = position-Some p jobs i d e in
    let same : position_or_len p jobs ≡ i = grind (arith, common_steps, e) in
    rw (find_at p jobs) (rw same (slice_get-get_or jobs i d first.0))

pub find_nowhere : (p : ParkedJob → Bool) (jobs : List ParkedJob) → position p jobs ≡ None → find p jobs ≡ None
find_nowhere p jobs e =
    let past : length jobs ≤ position_or_len p jobs = grind (arith, common_steps, e) in
    elim (slice_get_cases jobs (position_or_len p jobs)).1 [
      | inl here ↦ absurd (omega (arith, here.1, past))
      | inr none ↦ find_at p jobs ∙ none.1
    ]
