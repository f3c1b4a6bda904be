-- What there is of each kind where a job holds pages, and printers of its queue.
use Rattle.std.proofs.Common.{◌≡◌, ◌≢◌, ℕ, zero, suc, ◌+◌, ◌<◌, ◌≤◌, inl, inr, List, [], ◌∷◌, length, refl, sym, ◌∙◌, ap, arith, length-append, map}
use Rattle.std.specs.Prelude.{◌==◌, if◌then◌else◌}
use Rattle.std.proofs.lemmas.List.{map-append, get_or_at, get_or_append_left, get_or_past, length-map}
use Rattle.std.proofs.lemmas.Bool.{cases_lt}
use Rattle.counts.specs.Amounts.{amount, Fits}
use Rattle.config_values.specs.Config as S
use Rattle.spool_history.specs.Now.{amounts, up_to}

up_to_length : (n : ℕ) → length (up_to n) ≡ n
up_to_length zero = refl
up_to_length (suc n) = let h = length-append (up_to n) (suc n ∷ []) in let i = up_to_length n in omega arith

mapped_length : (g : ℕ → ℕ) (n : ℕ) → length (map g (up_to n)) ≡ n
mapped_length g n = length-map (up_to n) g ∙ up_to_length n

at_kind : (g : ℕ → ℕ) (n k : ℕ) → k < n → amount (map g (up_to n)) k ≡ g (suc k)
at_kind g zero k lt = absurd (omega arith)
at_kind g (suc n) k lt =
    let m = map-append g (up_to n) (suc n ∷ []) in
    let l = mapped_length g n in
    ap (λ (r : List ℕ). amount r k) m ∙ elim (cases_lt k n) [
      | inl h ↦ get_or_append_left (map g (up_to n)) (g (suc n) ∷ []) 0 k (omega arith) ∙ at_kind g n k h
      | inr h ↦ let e : k ≡ n = omega arith in get_or_at (map g (up_to n)) (g (suc n)) [] 0 k (omega arith) ∙ ap (λ (i : ℕ). g (suc i)) (sym e)
    ]

past_kinds : (g : ℕ → ℕ) (n k : ℕ) → n ≤ k → amount (map g (up_to n)) k ≡ 0
past_kinds g n k le = get_or_past (map g (up_to n)) k 0 (omega (arith, mapped_length g n))

-- of a queue there are its printers, and of all others none
pub of_kind : (c : S.Config) (p q m k : ℕ) → k ≢ 0 → k ≤ length c.queues → amount (amounts c p q m) k ≡ (if k == q then m else 0)
of_kind c p q m zero z le = absurd (z refl)
of_kind c p q m (suc k) z le = at_kind (λ (i : ℕ). if i == q then m else 0) (length c.queues) k (omega arith)

pub none_past : (c : S.Config) (p q m k : ℕ) → length c.queues < k → amount (amounts c p q m) k ≡ 0
none_past c p q m zero lt = absurd (omega arith)
none_past c p q m (suc k) lt = past_kinds (λ (i : ℕ). if i == q then m else 0) (length c.queues) k (omega arith)

-- a need fits where it fits of each kind that there is
pub fits_kinds : (c : S.Config) (p q m : ℕ) (free : ℕ → ℕ) → ((k : ℕ) → k < length c.queues + 1 → amount (amounts c p q m) k ≤ free k) → Fits (amounts c p q m) free
fits_kinds c p q m free h k = elim (cases_lt k (length c.queues + 1)) [
  | inl lt ↦ h k lt
  | inr le ↦ omega (arith, none_past c p q m k (omega arith))
]
