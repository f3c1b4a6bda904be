-- How often a job's session may do each thing.
use Rattle.std.proofs.Common.{◌⊎◌, inl, inr, ◌≡◌, ℕ, zero, suc, ◌+◌, ◌<◌, ◌≤◌, Bool, true, false, List, [], ◌∷◌, ◌++◌, length, refl, ◌∙◌, ap, arith}
use Rattle.std.specs.Prelude.{None}
use Rattle.std.proofs.lemmas.List.{length_push}
use Rattle.lpd_values.specs.Contents.{Contents}
use Rattle.spool_history.specs.Events.{Act}
use Rattle.spool_history.specs.Events.Act.{Granted, Began, Put, FileEnded, Controlled, Aborted}
use Rattle.spool_history.specs.Acts.{File, new_file, at_last, granted_by, is_lent_by, files_by, control_by}
use Rattle.spool_laws.proofs.Known.{clash}

abbrev pub one_if : Bool → ℕ
one_if true = 1
one_if false = 0

abbrev pub began_in : {C : Type 0} → List (Act C) → ℕ
began_in [] = 0
began_in (Began name count ∷ a) = began_in a + 1
began_in (_ ∷ a) = began_in a

abbrev pub put_in : {C : Type 0} → List (Act C) → ℕ
put_in [] = 0
put_in (Put file number page ∷ a) = put_in a + 1
put_in (_ ∷ a) = put_in a

abbrev pub ended_in : {C : Type 0} → List (Act C) → ℕ
ended_in [] = 0
ended_in (FileEnded file whole ∷ a) = ended_in a + 1
ended_in (_ ∷ a) = ended_in a

abbrev pub controlled_in : {C : Type 0} → List (Act C) → ℕ
controlled_in [] = 0
controlled_in (Controlled control whole ∷ a) = controlled_in a + 1
controlled_in (_ ∷ a) = controlled_in a

abbrev pub aborted_in : {C : Type 0} → List (Act C) → ℕ
aborted_in [] = 0
aborted_in (Aborted ∷ a) = aborted_in a + 1
aborted_in (_ ∷ a) = aborted_in a

pub all_counted : {C : Type 0} (a : List (Act C)) → length a ≡ granted_by a + (began_in a + (put_in a + (ended_in a + (controlled_in a + aborted_in a))))
all_counted [] = refl
all_counted (Granted ∷ a) = let ih = all_counted a in omega arith
all_counted (_ ∷ a) = let ih = all_counted a in omega arith

-- files

abbrev pub ended_count : {C : Type 0} → List (File C) → ℕ
ended_count [] = 0
ended_count (f ∷ fs) = one_if f.ended + ended_count fs

abbrev pub with_page : {C : Type 0} → C → File C → File C
with_page page f = record f { pages = f.pages ++ page ∷ [] }

abbrev pub with_end : {C : Type 0} → File C → File C
with_end f = record f { ended = true }

length_last : {A : Type 0} (f : A → A) (xs : List A) → length (at_last f xs) ≡ length xs
length_last f [] = refl
length_last f (x ∷ []) = refl
length_last f (x ∷ y ∷ ys) = ap suc (length_last f (y ∷ ys))

pub last_push : {A : Type 0} (f : A → A) (xs : List A) (x : A) → at_last f (xs ++ x ∷ []) ≡ xs ++ f x ∷ []
last_push f [] x = refl
last_push f (y ∷ []) x = refl
last_push {A} f (y ∷ z ∷ zs) x = ap (λ (l : List A). y ∷ l) (last_push f (z ∷ zs) x)

count_push : {C : Type 0} (fs : List (File C)) (f : File C) → ended_count (fs ++ f ∷ []) ≡ ended_count fs + one_if f.ended
count_push [] f = omega arith
count_push (g ∷ fs) f = let ih = count_push fs f in omega arith

count_page : {C : Type 0} (page : C) (fs : List (File C)) → ended_count (at_last (with_page page) fs) ≡ ended_count fs
count_page page [] = refl
count_page page (f ∷ []) = refl
count_page page (f ∷ g ∷ fs) = ap (λ (n : ℕ). one_if f.ended + n) (count_page page (g ∷ fs))

count_end : {C : Type 0} (fs before : List (File C)) (last : File C) → fs ≡ before ++ last ∷ [] → last.ended ≡ false → ended_count (at_last with_end fs) ≡ ended_count fs + 1
count_end fs before last e open' =
    let a : ended_count (at_last with_end fs) ≡ ended_count (before ++ with_end last ∷ []) = ap (λ l. ended_count (at_last with_end l)) e ∙ ap ended_count (last_push with_end before last) in
    let d : ended_count fs ≡ ended_count (before ++ last ∷ []) = ap ended_count e in
    let z : one_if last.ended ≡ 0 = ap one_if open' in
    omega (arith, count_push before (with_end last), count_push before last)

pub one_le : (b : Bool) → one_if b ≤ 1
one_le true = omega arith
one_le false = omega arith

pub count_le : {C : Type 0} (fs : List (File C)) → ended_count fs ≤ length fs
count_le [] = omega arith
count_le (f ∷ fs) = let ih = count_le fs in let o = one_le f.ended in omega arith

pub began_files : {C : Type 0} (a : List (Act C)) → length (files_by a) ≡ began_in a
began_files [] = refl
began_files (Began name count ∷ a) = let ih = began_files a in let n = length_push (files_by a) (new_file name count) in omega arith
began_files (Put file number page ∷ a) = length_last (with_page page) (files_by a) ∙ began_files a
began_files (FileEnded file whole ∷ a) = length_last with_end (files_by a) ∙ began_files a
began_files (_ ∷ a) = began_files a

uncontrolled : {C : Type 0} (a : List (Act C)) → control_by a ≡ None → controlled_in a ≡ 0
uncontrolled [] e = refl
uncontrolled (Controlled control whole ∷ a) e = absurd cc
uncontrolled (_ ∷ a) e = uncontrolled a e

-- what a session did is within its bounds; b says whether the job has ended
pub record Fits {C : Type 0} (a : List (Act C)) (b : Bool) : Type 0 where
  pub puts : put_in a + one_if (is_lent_by a) ≤ granted_by a
  pub files : length (files_by a) ≤ 52
  pub ended : ended_in a ≤ ended_count (files_by a)
  pub control : controlled_in a ≤ 1
  pub aborted : aborted_in a ≤ 1
  pub after : 0 < aborted_in a → (b ≡ true) × (is_lent_by a ≡ false)

pub fits_none : {C : Type 0} (b : Bool) → Fits {C = C} [] b
fits_none b = record { puts = omega arith; files = omega arith; ended = omega arith; control = omega arith; aborted = omega arith; after = λ p. absurd (omega arith) }

pub fits_later : {C : Type 0} (a : List (Act C)) (b d : Bool) → (b ≡ true → d ≡ true) → Fits a b → Fits a d
fits_later a b d up f = record { puts = f.puts; files = f.files; ended = f.ended; control = f.control; aborted = f.aborted; after = λ p. (up (f.after p).0, (f.after p).1) }

-- an act of a job that goes on, which doesn't abort it
fits_going : {C : Type 0} (act : Act C) (a : List (Act C)) (b d : Bool) → Fits a b → b ≡ false → aborted_in (act ∷ a) ≡ aborted_in a
    → put_in (act ∷ a) + one_if (is_lent_by (act ∷ a)) ≤ granted_by (act ∷ a)
    → length (files_by (act ∷ a)) ≤ 52 → ended_in (act ∷ a) ≤ ended_count (files_by (act ∷ a)) → controlled_in (act ∷ a) ≤ 1 → Fits (act ∷ a) d
fits_going act a b d f e is puts files ended control =
    record { puts = puts; files = files; ended = ended; control = control; aborted = omega (arith, is, f.aborted); after = λ p. absurd (clash b (f.after (omega (arith, is))).0 e) }

pub fits_granted : {C : Type 0} (a : List (Act C)) (b d : Bool) → Fits a b → b ≡ false → is_lent_by a ≡ false → Fits (Granted ∷ a) d
fits_granted a b d f e l = fits_going Granted a b d f e refl (omega (arith, f.puts, ap one_if l)) f.files f.ended f.control

pub fits_began : {C : Type 0} (a : List (Act C)) (name : List ℕ) (count : ℕ) (b d : Bool) → Fits a b → b ≡ false → length (files_by a) < 52 → Fits (Began name count ∷ a) d
fits_began a name count b d f e lt = fits_going (Began name count) a b d f e refl f.puts (omega (arith, length_push (files_by a) (new_file name count)))
    (omega (arith, count_push (files_by a) (new_file name count), f.ended)) f.control

pub fits_put : {C : Type 0} (a : List (Act C)) (file number : ℕ) (page : C) (b d : Bool) → Fits a b → b ≡ false → is_lent_by a ≡ true → Fits (Put file number page ∷ a) d
fits_put a file number page b d f e l = fits_going (Put file number page) a b d f e refl (omega (arith, f.puts, ap one_if l))
    (omega (arith, length_last (with_page page) (files_by a), f.files)) (omega (arith, count_page page (files_by a), f.ended)) f.control

pub fits_ended : {C : Type 0} (a : List (Act C)) (file : ℕ) (whole : Bool) (before : List (File C)) (last : File C) (b d : Bool) → Fits a b → b ≡ false → files_by a ≡ before ++ last ∷ [] → last.ended ≡ false → Fits (FileEnded file whole ∷ a) d
fits_ended a file whole before last b d f e l open' = fits_going (FileEnded file whole) a b d f e refl f.puts
    (omega (arith, length_last with_end (files_by a), f.files)) (omega (arith, count_end (files_by a) before last l open', f.ended)) f.control

pub fits_controlled : {C : Type 0} (a : List (Act C)) (control : Contents) (whole : Bool) (b d : Bool) → Fits a b → b ≡ false → control_by a ≡ None → Fits (Controlled control whole ∷ a) d
fits_controlled a control whole b d f e l = fits_going (Controlled control whole) a b d f e refl f.puts f.files f.ended (omega (arith, uncontrolled a l))

pub none_by : (n : ℕ) → (0 < n → ⊥) → n ≡ 0
none_by zero f = refl
none_by (suc n) f = absurd (f (omega arith))

pub fits_aborted : {C : Type 0} (a : List (Act C)) (b d : Bool) → Fits a b → (b ≡ false) ⊎ (is_lent_by a ≡ true) → d ≡ true → Fits (Aborted ∷ a) d
fits_aborted a b d f e t =
    let none : aborted_in a ≡ 0 = none_by (aborted_in a) (λ p. elim e [ inl x ↦ clash b (f.after p).0 x | inr x ↦ clash (is_lent_by a) x (f.after p).1 ]) in
    record { puts = omega arith; files = f.files; ended = f.ended; control = f.control; aborted = omega arith; after = λ p. (t, refl) }
