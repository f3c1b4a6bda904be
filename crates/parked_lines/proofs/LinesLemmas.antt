-- What a step makes of the lines of all queues.
use Rattle.std.proofs.Common.{◌≡◌, ◌≢◌, ◌<◌, ◌≤◌, ℕ, Bool, true, false, IsTrue, List, [], ◌∷◌, Option, Some, None, IsSome, IfSome, is_some, length, eqb, find, if◌then◌else◌, not, ◌&&◌, ◌||◌, inl, inr, refl, sym, ◌∙◌, ap, subst, arith}
use Rattle.std.specs.Bool.{OnTrue}
use Rattle.std.specs.List.{All, list_any}
use Rattle.std.specs.Option.{option_and_then, option_map}
use Rattle.std.proofs.Math.ListN.{set}
use Rattle.std.proofs.lemmas.Grind.{common_steps}
use Rattle.std.proofs.lemmas.Bool.{cases_eq, cases_lt, false≢true}
use Rattle.std.proofs.lemmas.List.{get_or-set_same, get_or-set_other, get_or_past, length-set}
use Rattle.std.proofs.lemmas.List.Elements.{All-head, All-tail}
use Rattle.std.proofs.lemmas.List.Folds.{list_any_at}
use Rattle.parked_lines.specs.declared.job.JobSize.{JobSize}
use Rattle.parked_lines.specs.declared.job.ParkedJob.{ParkedJob}
use Rattle.parked_lines.specs.declared.parts.FreePart.{FreePart}
use Rattle.parked_lines.specs.declared.state.JobMove.{JobMove}
use Rattle.parked_lines.specs.declared.state.JobMove.TheVariants.{TurnAside, Enter, PutBack}
use Rattle.parked_lines.specs.declared.state.ParkState.{ParkState}
use Rattle.parked_lines.specs.declared.state.ParkState.TheVariants.{Coming, Beside, Fed, Whole}
use Rattle.parked_lines.specs.Line.{Becomes, IsRising, has_earlier, has_parked, is_earlier, job_kept, job_moved, job_of, may_feed, way_of}
use Rattle.parked_lines.specs.Lines.{HasKept, IsNext, IsOnce, LosesNone, MovesOne, fitting, found, free_of, has_known, line_of, next_of}
use Rattle.parked_lines.specs.Parts.{has_room}
use Rattle.parked_lines.proofs.LineLemmas.{head_smaller, tail_rising}
use Rattle.parked_lines.specs.States.{is_kept, is_outside, kept, moved}

abbrev Lines : Type 0
Lines = List (List ParkedJob)

-- the line of a queue is written
pub moves_one : (lines : Lines) (queue number : ℕ) (line : List ParkedJob) (job : Option ParkedJob) → queue < length lines → Becomes (line_of lines queue) line number job → MovesOne lines (set lines queue line) queue number job
moves_one lines queue number line job within becomes = record {
  queues = length-set lines queue line;
  in_line =
      let P : List ParkedJob → Type 0 = λ new. Becomes (line_of lines queue) new number job in
      subst P (sym (get_or-set_same lines queue line [] within)) becomes;
  other_lines = λ q ne. get_or-set_other lines queue q line [] ne;
}

-- each number stays in one place where a job of another line hasn't this number
crossed : (old new : Lines) (queue number : ℕ) (job : Option ParkedJob) → IsOnce old → MovesOne old new queue number job → (IsSome job → (q : ℕ) → q ≢ queue → found old q number ≡ None) → (other k : ℕ) → other ≢ queue → IsSome (found new queue k) → IsSome (found new other k) → ⊥
crossed old new queue number job once moves alone other k ne here there =
    let P : Option ParkedJob → Type 0 = λ o. IsSome o in
    let Q : List ParkedJob → Type 0 = λ line. IsSome (job_of line k) in
    let there-was : IsSome (found old other k) = subst Q (moves.other_lines other ne) there in
    elim (cases_eq k number) [
      | inl e ↦
          let R : ℕ → Type 0 = λ n. IsSome (found new queue n) in
          let S : ℕ → Type 0 = λ n. IsSome (found old other n) in
          let some : IsSome job = subst P moves.in_line.this_job (subst R e here) in
          absurd (false≢true (subst P (alone some other ne) (subst S e there-was)))
      | inr differs ↦
          let here-was : IsSome (found old queue k) = subst P (moves.in_line.other_jobs k differs) here in
          ne (sym (once.in_one_line queue other k here-was there-was))
    ]

pub once_moved : (old new : Lines) (queue number : ℕ) (job : Option ParkedJob) → IsOnce old → MovesOne old new queue number job → IsRising (line_of new queue) → (IsSome job → (q : ℕ) → q ≢ queue → found old q number ≡ None) → IsOnce new
once_moved old new queue number job once moves rising alone = record {
  in_line = λ q.
      elim (cases_eq q queue) [
        | inl e ↦ let P : ℕ → Type 0 = λ n. IsRising (line_of new n) in subst P (sym e) rising
        | inr ne ↦ let P : List ParkedJob → Type 0 = λ line. IsRising line in subst P (sym (moves.other_lines q ne)) (once.in_line q)
      ];
  in_one_line = λ one other k here there.
      let P : ℕ → Type 0 = λ n. IsSome (found new n k) in
      let Q : List ParkedJob → Type 0 = λ line. IsSome (job_of line k) in
      elim (cases_eq one queue) [
        | inl e ↦ elim (cases_eq other queue) [
          | inl f ↦ e ∙ sym f
          | inr ne ↦ absurd (crossed old new queue number job once moves alone other k ne (subst P e here) there)
        ]
        | inr ne ↦ elim (cases_eq other queue) [
          | inl f ↦ absurd (crossed old new queue number job once moves alone one k ne (subst P f there) here)
          | inr differs ↦ once.in_one_line one other k (subst Q (moves.other_lines one ne) here) (subst Q (moves.other_lines other differs) there)
        ]
      ];
}

none_from_not_some : (o : Option ParkedJob) → (IsSome o → ⊥) → o ≡ None
none_from_not_some None h = refl
none_from_not_some (Some x) h = absurd (h refl)

some_from_is_some : (o : Option ParkedJob) → is_some o ≡ true → IsSome o
some_from_is_some None h = absurd (false≢true h)
some_from_is_some (Some x) h = refl

-- no other line has a number that this line has
pub alone_in : (lines : Lines) (queue number : ℕ) → IsOnce lines → is_some (found lines queue number) ≡ true → (q : ℕ) → q ≢ queue → found lines q number ≡ None
alone_in lines queue number once some q ne =
    none_from_not_some (found lines q number) (λ there. ne (once.in_one_line q queue number there (some_from_is_some (found lines queue number) some)))

-- a number that isn't known stands in no line
pub unknown_in : (lines : Lines) (number : ℕ) → has_known lines number ≡ false → (q : ℕ) → found lines q number ≡ None
unknown_in lines number unknown q =
    elim (cases_lt q (length lines)) [
      | inl within ↦ go within (found lines q number) refl
      | inr past ↦ ap (λ (line : List ParkedJob). job_of line number) (get_or_past lines q [] past)
    ]
  where
    go : q < length lines → (o : Option ParkedJob) → found lines q number ≡ o → found lines q number ≡ None
    go within None e = e
    go within (Some x) e =
        let yes : has_known lines number ≡ true = list_any_at (λ line. is_some (job_of line number)) lines q [] within (ap is_some e) in
        absurd (false≢true (sym unknown ∙ yes))

-- nothing is lost where the one job that changes was not kept, or is
pub loses_none : (old new : Lines) (queue number : ℕ) (job : ParkedJob) → MovesOne old new queue number (Some job) → (HasKept old queue number → IsTrue (is_kept job.state)) → LosesNone old new
loses_none old new queue number job moves stays q k kept =
    elim (cases_eq q queue) [
      | inl e ↦ elim (cases_eq k number) [
        | inl f ↦
            let P : ℕ → Type 0 = λ n. HasKept old n k in
            let Q : ℕ → Type 0 = λ n. HasKept old queue n in
            let R : ℕ → Type 0 = λ n. HasKept new n k in
            let S : ℕ → Type 0 = λ n. HasKept new queue n in
            subst R (sym e) (subst S (sym f) (job, moves.in_line.this_job, stays (subst Q f (subst P e kept))))
        | inr ne ↦
            let P : ℕ → Type 0 = λ n. found old n k ≡ Some kept.0 in
            let R : ℕ → Type 0 = λ n. HasKept new n k in
            subst R (sym e) (kept.0, moves.in_line.other_jobs k ne ∙ subst P e kept.1, kept.2)
      ]
      | inr ne ↦ (kept.0, ap (λ (line : List ParkedJob). job_of line k) (moves.other_lines q ne) ∙ kept.1, kept.2)
    ]

-- nothing is lost where nothing changes
pub loses_none_same : (old new : Lines) → new ≡ old → LosesNone old new
loses_none_same old new e q k kept = let P : Lines → Type 0 = λ lines. HasKept lines q k in subst P (sym e) kept

some_injective : (x y : ParkedJob) → Some x ≡ Some y → x ≡ y
some_injective x y e = cc

-- the job that is found has the number that was looked for
pub found_number : (jobs : List ParkedJob) (n : ℕ) (x : ParkedJob) → job_of jobs n ≡ Some x → x.number ≡ n
found_number [] n x e = absurd (cc)
found_number (y ∷ ys) n x e = by (found_number ys n x) (eqb y.number n) refl e
  where
    by : (job_of ys n ≡ Some x → x.number ≡ n) → (b : Bool) → eqb y.number n ≡ b → job_of (y ∷ ys) n ≡ Some x → x.number ≡ n
    by rest true is e = grind (arith, common_steps, is, e)
    by rest false is e = rest (rw is at e)

state_stays : (x after : ParkedJob) → Some x ≡ Some after → IsTrue (is_kept x.state) → IsTrue (is_kept after.state)
state_stays x after e h = let P : ParkedJob → Type 0 = λ job. IsTrue (is_kept job.state) in subst P (some_injective x after e) h

-- a job is kept
kept_number : (job : ParkedJob) (size : JobSize) (after : ParkedJob) → job_kept job size ≡ Some after → after.number ≡ job.number
kept_number job size after e = go (kept job.state) refl
  where
    go : (o : Option ParkState) → kept job.state ≡ o → after.number ≡ job.number
    go None is = let none : None ≡ Some after = rw is at e in absurd (cc)
    go (Some state) is =
        let some : Some (record job { octets = size.octets; pages = size.pages; state = state }) ≡ Some after = rw is at e in
        sym (ap (λ (j : ParkedJob). j.number) (some_injective _ _ some))

kept_is_kept : (job : ParkedJob) (size : JobSize) (after : ParkedJob) → job_kept job size ≡ Some after → IsTrue (is_kept after.state)
kept_is_kept job size after e = go job.state e
  where
    go : (s : ParkState) → option_map (λ state. record job { octets = size.octets; pages = size.pages; state = state }) (kept s) ≡ Some after → IsTrue (is_kept after.state)
    go Coming is = state_stays _ after is refl
    go Beside is = state_stays _ after is refl
    go _ is = absurd (cc)

moved_number : (change : JobMove) (job after : ParkedJob) → job_moved change job ≡ Some after → after.number ≡ job.number
moved_number change job after e = go (moved change job.state) refl
  where
    go : (o : Option ParkState) → moved change job.state ≡ o → after.number ≡ job.number
    go None is = let none : None ≡ Some after = rw is at e in absurd (cc)
    go (Some state) is =
        let some : Some (record job { state = state }) ≡ Some after = rw is at e in
        sym (ap (λ (j : ParkedJob). j.number) (some_injective _ _ some))

moved_stays_kept : (change : JobMove) (job after : ParkedJob) → job_moved change job ≡ Some after → IsTrue (is_kept job.state) → IsTrue (is_kept after.state)
moved_stays_kept change job after e k = go change job.state e k
  where
    go : (m : JobMove) (s : ParkState) → option_map (λ state. record job { state = state }) (moved m s) ≡ Some after → IsTrue (is_kept s) → IsTrue (is_kept after.state)
    go TurnAside Coming is h = absurd (false≢true h)
    go TurnAside _ is h = absurd (cc)
    go Enter Fed is h = state_stays _ after is refl
    go Enter _ is h = absurd (cc)
    go PutBack Fed is h = state_stays _ after is refl
    go PutBack Whole is h = state_stays _ after is refl
    go PutBack _ is h = absurd (cc)

-- the job that is found is replaced by one of its number
moves_at : (lines new : Lines) (queue number : ℕ) (before after : ParkedJob) (answer : Bool) → found lines queue number ≡ Some before → after.number ≡ before.number → answer ≡ is_some (found lines queue after.number) → OnTrue answer (MovesOne lines new queue after.number (Some after)) → MovesOne lines new queue number (Some after)
moves_at lines new queue number before after answer is same answered replaced =
    let e : after.number ≡ number = same ∙ found_number (line_of lines queue) number before is in
    let P : ℕ → Type 0 = λ n. MovesOne lines new queue n (Some after) in
    let R : Bool → Type 0 = λ b. OnTrue b (MovesOne lines new queue after.number (Some after)) in
    let some : is_some (found lines queue after.number) ≡ true = rw e (ap is_some is) in
    subst P e (subst R (answered ∙ some) replaced)

pub moves_kept : (lines new : Lines) (queue number : ℕ) (size : JobSize) (before after : ParkedJob) (answer : Bool) → Some before ≡ found lines queue number → Some after ≡ job_kept before size → answer ≡ is_some (found lines queue after.number) → OnTrue answer (MovesOne lines new queue after.number (Some after)) → MovesOne lines new queue number (Some after)
moves_kept lines new queue number size before after answer is kept answered replaced =
    moves_at lines new queue number before after answer (sym is) (kept_number before size after (sym kept)) answered replaced

pub moves_moved : (lines new : Lines) (queue number : ℕ) (change : JobMove) (before after : ParkedJob) (answer : Bool) → Some before ≡ found lines queue number → Some after ≡ job_moved change before → answer ≡ is_some (found lines queue after.number) → OnTrue answer (MovesOne lines new queue after.number (Some after)) → MovesOne lines new queue number (Some after)
moves_moved lines new queue number change before after answer is moved answered replaced =
    moves_at lines new queue number before after answer (sym is) (moved_number change before after (sym moved)) answered replaced

pub keeps_kept : (lines new : Lines) (queue number : ℕ) (size : JobSize) (before after : ParkedJob) → Some after ≡ job_kept before size → MovesOne lines new queue number (Some after) → LosesNone lines new
keeps_kept lines new queue number size before after kept moves =
    loses_none lines new queue number after moves (λ _. kept_is_kept before size after (sym kept))

pub keeps_moved : (lines new : Lines) (queue number : ℕ) (change : JobMove) (before after : ParkedJob) → Some before ≡ found lines queue number → Some after ≡ job_moved change before → MovesOne lines new queue number (Some after) → LosesNone lines new
keeps_moved lines new queue number change before after is moved moves =
    loses_none lines new queue number after moves (λ kept.
    moved_stays_kept change before after (sym moved) (state_stays kept.0 before (sym kept.1 ∙ sym is) kept.2))

-- what is found passes, and doesn't pass what none passes
pub find_passes : (p : ParkedJob → Bool) (jobs : List ParkedJob) (x : ParkedJob) → find p jobs ≡ Some x → p x ≡ true
find_passes p [] x e = absurd (cc)
find_passes p (y ∷ ys) x e = by (find_passes p ys x) (p y) refl e
  where
    by : (find p ys ≡ Some x → p x ≡ true) → (b : Bool) → p y ≡ b → find p (y ∷ ys) ≡ Some x → p x ≡ true
    by rest true is e =
        let some : Some y ≡ Some x = rw is at e in
        let P : ParkedJob → Type 0 = λ job. p job ≡ true in
        subst P (some_injective y x some) is
    by rest false is e = rest (rw is at e)

pub find_fails : (p q : ParkedJob → Bool) (jobs : List ParkedJob) (x : ParkedJob) → list_any q jobs ≡ false → find p jobs ≡ Some x → q x ≡ false
find_fails p q [] x none e = absurd (cc)
find_fails p q (y ∷ ys) x none e = by (find_fails p q ys x) (p y) refl (q y) refl none e
  where
    by : (list_any q ys ≡ false → find p ys ≡ Some x → q x ≡ false) → (b : Bool) → p y ≡ b → (c : Bool) → q y ≡ c → list_any q (y ∷ ys) ≡ false → find p (y ∷ ys) ≡ Some x → q x ≡ false
    by rest b is true passes none e = absurd (false≢true (sym none ∙ ap (λ (d : Bool). d || list_any q ys) passes))
    by rest true is false fails none e =
        let some : Some y ≡ Some x = rw is at e in
        let P : ParkedJob → Type 0 = λ job. q job ≡ false in
        subst P (some_injective y x some) fails
    by rest false is false fails none e = rest (rw fails at none) (rw is at e)

-- none of its sender with a smaller number isn't the spool's
pub is_next : (lines : Lines) (queue sender number : ℕ) → has_earlier (line_of lines queue) sender number ≡ false → IsNext lines queue sender number
is_next lines queue sender number none k = go (found lines queue k) refl
  where
    go : (o : Option ParkedJob) → found lines queue k ≡ o → IfSome o (λ job. IsTrue (is_outside job.state) → job.sender ≡ sender → number ≤ k)
    go None e = tt
    go (Some x) e = λ outside same.
        let fails = find_fails (λ job. eqb job.number k) (is_earlier sender number) (line_of lines queue) x none e in
        let has = found_number (line_of lines queue) k x e in
        grind (arith, common_steps, fails, has, outside, same)

way_first : (p e r : Bool) → (if r && (not p && not e) then Coming else Beside) ≡ Coming → e ≡ false
way_first p false r h = refl
way_first true true true h = absurd (cc)
way_first true true false h = absurd (cc)
way_first false true true h = absurd (cc)
way_first false true false h = absurd (cc)

pub way_next : (lines : Lines) (queue sender number : ℕ) (has_room : Bool) → way_of (line_of lines queue) sender number has_room ≡ Coming → IsNext lines queue sender number
way_next lines queue sender number room h =
    is_next lines queue sender number (way_first (has_parked (line_of lines queue)) (has_earlier (line_of lines queue) sender number) room h)

find_holds : (P : ParkedJob → Type 0) (p : ParkedJob → Bool) (jobs : List ParkedJob) (x : ParkedJob) → All P jobs → find p jobs ≡ Some x → P x
find_holds P p [] x all e = absurd (cc)
find_holds P p (y ∷ ys) x all e = by (find_holds P p ys x (All-tail P y ys all)) (p y) refl e
  where
    by : (find p ys ≡ Some x → P x) → (b : Bool) → p y ≡ b → find p (y ∷ ys) ≡ Some x → P x
    by rest true is e =
        let some : Some y ≡ Some x = rw is at e in
        subst P (some_injective y x some) (All-head P y ys all)
    by rest false is e = rest (rw is at e)

-- what is found is the job of its number
find_own : (p : ParkedJob → Bool) (jobs : List ParkedJob) (x : ParkedJob) → IsRising jobs → find p jobs ≡ Some x → job_of jobs x.number ≡ Some x
find_own p [] x rising e = absurd (cc)
find_own p (y ∷ ys) x rising e = by (find_own p ys x (tail_rising y ys rising)) (p y) refl e
  where
    by : (find p ys ≡ Some x → job_of ys x.number ≡ Some x) → (b : Bool) → p y ≡ b → find p (y ∷ ys) ≡ Some x → job_of (y ∷ ys) x.number ≡ Some x
    by rest true is e =
        let some : Some y ≡ Some x = rw is at e in
        let P : ParkedJob → Type 0 = λ job. job_of (y ∷ ys) job.number ≡ Some job in
        subst P (some_injective y x some) (grind (arith, common_steps))
    by rest false is e =
        let found : find p ys ≡ Some x = rw is at e in
        let own = rest found in
        let greater : y.number < x.number = find_holds (λ (job : ParkedJob). y.number < job.number) p ys x (head_smaller y ys rising) found in
        grind (arith, common_steps, own, greater)

-- the job that is fed next is the first of its queue that may be fed
next_is_first : (lines : Lines) (free : List FreePart) (queue : ℕ) (job : ParkedJob) → next_of lines free queue ≡ Some job → find (may_feed (line_of lines queue)) (line_of lines queue) ≡ Some job
next_is_first lines free queue job e = go (find (may_feed (line_of lines queue)) (line_of lines queue)) e
  where
    fits : (x : ParkedJob) (b : Bool) → (if b then Some x else None) ≡ Some job → Some x ≡ Some job
    fits x true is = is
    fits x false is = absurd (cc)

    go : (o : Option ParkedJob) → option_and_then (fitting (free_of free queue)) o ≡ Some job → o ≡ Some job
    go None is = absurd (cc)
    go (Some x) is = fits x (has_room (free_of free queue) x.pages) is

pub fed_moves : (lines new : Lines) (free : List FreePart) (queue : ℕ) (job fed : ParkedJob) (answer : Bool) → IsOnce lines → next_of lines free queue ≡ Some job → fed ≡ record job { state = Fed } → answer ≡ is_some (found lines queue fed.number) → OnTrue answer (MovesOne lines new queue fed.number (Some fed)) → MovesOne lines new queue job.number (Some (record job { state = Fed }))
fed_moves lines new free queue job fed answer once next is answered replaced =
    let own = find_own (may_feed (line_of lines queue)) (line_of lines queue) job (once.in_line queue) (next_is_first lines free queue job next) in
    let P : ParkedJob → Type 0 = λ j. answer ≡ is_some (found lines queue j.number) in
    let Q : ParkedJob → Type 0 = λ j. OnTrue answer (MovesOne lines new queue j.number (Some j)) in
    let R : Bool → Type 0 = λ b. OnTrue b (MovesOne lines new queue job.number (Some (record job { state = Fed }))) in
    subst R (subst P is answered ∙ ap is_some own) (subst Q is replaced)

pub fed_next : (lines : Lines) (free : List FreePart) (queue : ℕ) (job : ParkedJob) → next_of lines free queue ≡ Some job → IsNext lines queue job.sender job.number
fed_next lines free queue job next =
    let line = line_of lines queue in
    let passes = find_passes (may_feed line) line job (next_is_first lines free queue job next) in
    is_next lines queue job.sender job.number (grind (arith, common_steps, passes))
