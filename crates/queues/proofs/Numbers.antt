-- The numbers of a book's jobs.
use Rattle.std.proofs.Common.{◌≡◌, ◌≢◌, ℕ, zero, suc, ◌<◌, Bool, true, false, cond, nat_eq, Option, Some, None, is_some, IfSome, IfNone, All, List, [], ◌∷◌, length, get_or, position, true≢false, refl, sym, ◌∙◌, ap, arith}
use Rattle.std.proofs.lemmas.Bool.Decides.{nat_tests}
use Rattle.std.proofs.lemmas.List.{get_or-map, get_or_default, length-map}
use Rattle.std.proofs.lemmas.List.Quantifiers.{position-Some}
use Rattle.std.specs.Map.{keys_of, lookup}
use Rattle.slab.specs.Slab.{Slab}
use Rattle.page_nodes.specs.Chains.{Chains}
use Rattle.held_jobs.specs.Jobs.{HeldJob, no_job}
use Rattle.held_jobs.specs.Books.{Books, job_at}
use Rattle.queues.specs.declared.entry.Entry.{Entry}
use Rattle.queues.specs.Inside.{book_of, no_entry, entry_at, IsBook}
use Rattle.queues.proofs.Entries.{job_seen, length-seen}

-- the number of the job at a place is the key there
number_at : (nodes : Chains) (rows : Slab ℕ) (es : List (ℕ × Entry)) (most places size : ℕ) (b : Books) (k : ℕ) → IsBook nodes rows es most places size → book_of nodes es most places size ≡ b
    → k < length es → (job_at b k).facts.number ≡ (entry_at es k).0
number_at nodes rows es most places size b k h v lt =
    ap (λ (u : Books). (job_at u k).facts.number) (sym v)
    ∙ (ap (λ (j : HeldJob). j.facts.number) (job_seen nodes es k lt) ∙ sym (h.entries k lt).key)

same_number : (a b : ℕ) → nat_eq a b ≡ true → b ≡ a
same_number a b e = grind (arith, nat_tests)

other_number : (a b : ℕ) → nat_eq a b ≡ false → b ≡ a → ⊥
other_number a b e s = grind (arith, nat_tests)

passes_not : (a b : ℕ) → (b ≡ a → ⊥) → nat_eq a b ≡ false
passes_not a b ne = grind (arith, nat_tests)

-- a number that is found, and one that is not

pub found_at : (nodes : Chains) (rows : Slab ℕ) (es : List (ℕ × Entry)) (most places size : ℕ) (b : Books) (number : ℕ) (r : Option ℕ) → IsBook nodes rows es most places size
    → book_of nodes es most places size ≡ b → r ≡ position (nat_eq number) (keys_of es) → IfSome r (λ i. (i < length b.jobs) × ((job_at b i).facts.number ≡ number))
found_at nodes rows es most places size b number None h v e = tt
found_at nodes rows es most places size b number (Some i) h v e =
    let p = position-Some (nat_eq number) (keys_of es) i 0 (sym e) in
    let l = length-map es (λ (x : ℕ × Entry). x.0) in
    let lt = p.0 in
    let within : i < length es = omega (arith, l, lt) in
    let m = length-seen nodes es in
    let n = ap (λ (u : Books). length u.jobs) v in
    let key = get_or-map (λ (x : ℕ × Entry). x.0) es i no_entry 0 within in
    (omega (arith, within, m, n), number_at nodes rows es most places size b i h v within ∙ (sym key ∙ same_number number (get_or (keys_of es) i 0) p.1))

none_passes : (number : ℕ) (es : List (ℕ × Entry)) → lookup (nat_eq number) es ≡ None → (k : ℕ) → k < length es → (entry_at es k).0 ≡ number → ⊥
none_passes number [] none k lt e = absurd (omega arith)
none_passes number (x ∷ es) none k lt e = by (nat_eq number x.0) refl (λ none' m l. none_passes number es none' m l) k lt e
  where
    some_none : {X : Type 0} {y : X} → Some y ≡ None → ⊥
    some_none e = cc

    by : (t : Bool) → nat_eq number x.0 ≡ t → (lookup (nat_eq number) es ≡ None → (m : ℕ) → m < length es → (entry_at es m).0 ≡ number → ⊥)
        → (k : ℕ) → k < length (x ∷ es) → (entry_at (x ∷ es) k).0 ≡ number → ⊥
    by true t rest k lt e = some_none (sym (ap (λ (u : Bool). cond u (Some x.1) (lookup (nat_eq number) es)) t) ∙ none)
    by false t rest zero lt e = other_number number x.0 t e
    by false t rest (suc k) lt e = rest (sym (ap (λ (u : Bool). cond u (Some x.1) (lookup (nat_eq number) es)) t) ∙ none) k (omega arith) e

pub absent_in : (nodes : Chains) (rows : Slab ℕ) (es : List (ℕ × Entry)) (most places size : ℕ) (b : Books) (number : ℕ) (r : Option ℕ) → IsBook nodes rows es most places size
    → book_of nodes es most places size ≡ b → is_some r ≡ is_some (lookup (nat_eq number) es) → IfNone r (All (λ (j : HeldJob). j.facts.number ≢ number) b.jobs)
absent_in nodes rows es most places size b number (Some i) h v e = tt
absent_in nodes rows es most places size b number None h v e = λ k d lt same.
    let m = length-seen nodes es in
    let n = ap (λ (u : Books). length u.jobs) v in
    let within : k < length es = omega (arith, m, n, lt) in
    none_passes number es (none (lookup (nat_eq number) es) e) k within
    (sym (number_at nodes rows es most places size b k h v within) ∙ (ap (λ (j : HeldJob). j.facts.number) (get_or_default b.jobs k no_job d lt) ∙ same))
  where
    none : (o : Option Entry) → false ≡ is_some o → o ≡ None
    none None e = refl
    none (Some x) e = absurd (true≢false (sym e))

pub other_keys : (nodes : Chains) (rows : Slab ℕ) (es : List (ℕ × Entry)) (most places size : ℕ) (b : Books) (number : ℕ) → IsBook nodes rows es most places size
    → book_of nodes es most places size ≡ b → All (λ (j : HeldJob). j.facts.number ≢ number) b.jobs → (k : ℕ) → k < length es → (entry_at es k).0 ≡ number → ⊥
other_keys nodes rows es most places size b number h v other k lt same =
    let m = length-seen nodes es in
    let n = ap (λ (u : Books). length u.jobs) v in
    other k no_job (omega (arith, m, n, lt)) (number_at nodes rows es most places size b k h v lt ∙ same)

pub looks_up_none : (number : ℕ) (es : List (ℕ × Entry)) → ((k : ℕ) → k < length es → (entry_at es k).0 ≡ number → ⊥) → lookup (nat_eq number) es ≡ None
looks_up_none number [] h = refl
looks_up_none number (x ∷ es) h =
    ap (λ (u : Bool). cond u (Some x.1) (lookup (nat_eq number) es)) (passes_not number x.0 (h 0 (omega arith)))
    ∙ looks_up_none number es (λ k lt. h (suc k) (omega arith))
