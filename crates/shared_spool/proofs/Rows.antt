-- Seats, one more.
use Rattle.std.proofs.Common.{◌≡◌, ℕ, zero, suc, ◌<◌, List, [], ◌∷◌, ◌++◌, length, ap, arith}
use Rattle.std.specs.Prelude.{Some, All, slice_get, slice_index_or}
use Rattle.std.proofs.lemmas.List.Elements.{All-append}

-- what stands at each place of a list that has one more
pub at_pushed : {A : Type 0} (xs : List A) (x : A) (want : ℕ → A) → ((k : ℕ) → k < length xs → slice_get xs k ≡ Some (want k))
    → x ≡ want (length xs) → (i : ℕ) → i < length (xs ++ x ∷ []) → slice_get (xs ++ x ∷ []) i ≡ Some (want i)
at_pushed [] x want row is zero lt = ap Some is
at_pushed [] x want row is (suc i) lt = absurd (omega (arith, lt))
at_pushed (y ∷ xs) x want row is zero lt = row zero (omega arith)
at_pushed (y ∷ xs) x want row is (suc i) lt =
    at_pushed xs x (λ k. want (suc k)) (λ k within. row (suc k) (omega (arith, within))) is i (omega (arith, lt))

-- what holds of the only element
of_one : {A : Type 0} (P : A → Type 0) (x : A) → P x → (k : ℕ) (d : A) → k < 1 → P (slice_index_or (x ∷ []) k d)
of_one P x here zero d lt = here
of_one P x here (suc k) d lt = absurd (omega (arith, lt))

-- what holds of each element of a list that has one more
pub all_pushed : {A : Type 0} (P : A → Type 0) (xs : List A) (x : A) → All P xs → P x → All P (xs ++ x ∷ [])
all_pushed P xs x all here = All-append P xs (x ∷ []) all (of_one P x here)
