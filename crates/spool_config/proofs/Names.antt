-- Names that stand more than once, told name by name.
use Rattle.std.proofs.Common.{◌≡◌, ◌≢◌, ℕ, ◌+◌, Bool, true, false, ◌||◌, cond, nat_lt, List, [], ◌∷◌, map, All, count_by, get_or, refl, sym, ◌∙◌, ap, arith, zero-add}
use Rattle.std.proofs.lemmas.Bool.{or_parts, false≢true, false_from_ne_true}
use Rattle.std.proofs.lemmas.Bool.Decides.{nat_tests}
use Rattle.std.proofs.lemmas.Cmp.{nat_list_eq_equiv}
use Rattle.std.proofs.lemmas.List.Folds.{list_any_at, list_any_none}
use Rattle.std.proofs.lemmas.List.Sums.{sum_by-cons}
use Rattle.std.proofs.lemmas.Slice.Eq.{bytes_eq-Decides}
use Rattle.std.specs.List.{list_any}
use Rattle.std.specs.Str.{bytes_eq}
use Rattle.config_values.specs.Config.{Queue}
use Rattle.config_values.specs.Ranges.{HaveOwnNames}
use Rattle.spool_config.specs.Faults.{has_same}
use Rattle.spool_config.proofs.Lists.{list_any-map}

counted_first : {X : Type 0} (p : X → Bool) (x : X) (xs : List X) → count_by p (x ∷ xs) ≡ cond (p x) 1 0 + count_by p xs
counted_first p x xs = sum_by-cons (λ y. cond (p y) 1 0) x xs

-- a number where one more is counted or not
lt_zero_by : (b : Bool) (k : ℕ) → nat_lt 0 (cond b 1 0 + k) ≡ (b || nat_lt 0 k)
lt_zero_by true k = grind (arith, nat_tests)
lt_zero_by false k = ap (nat_lt 0) (zero-add k)

one_less : (k : ℕ) → nat_lt 1 (1 + k) ≡ nat_lt 0 k
one_less k = grind (arith, nat_tests)

-- some element is counted, or none
counted : {X : Type 0} (p : X → Bool) (xs : List X) → nat_lt 0 (count_by p xs) ≡ list_any p xs
counted p [] = refl
counted p (x ∷ xs) =
    ap (nat_lt 0) (counted_first p x xs) ∙ lt_zero_by (p x) (count_by p xs) ∙ ap (λ b. p x || b) (counted p xs)

-- whether a name stands more than once among these
abbrev is_twice : List (List ℕ) → List ℕ → Bool
is_twice names name = nat_lt 1 (count_by (bytes_eq name) names)

-- a name that isn't among others changes none of their counts
others : (n : List ℕ) (ns ms : List (List ℕ)) → list_any (bytes_eq n) ms ≡ false → list_any (is_twice (n ∷ ns)) ms ≡ list_any (is_twice ns) ms
others n ns [] none = refl
others n ns (m ∷ ms) none =
    let (here, more) = or_parts (bytes_eq n m) (list_any (bytes_eq n) ms) none in
    let apart : bytes_eq m n ≡ false = nat_list_eq_equiv.symm m n ∙ here in
    let same : is_twice (n ∷ ns) m ≡ is_twice ns m =
    ap (nat_lt 1) (counted_first (bytes_eq m) n ns ∙ rw apart (zero-add (count_by (bytes_eq m) ns))) in
    ap (λ b. b || list_any (is_twice (n ∷ ns)) ms) same ∙ ap (λ b. is_twice ns m || b) (others n ns ms more)

more_by : (n : List ℕ) (ns : List (List ℕ)) (b : Bool) → list_any (bytes_eq n) ns ≡ b → (b || list_any (is_twice (n ∷ ns)) ns) ≡ (b || has_same ns)
more_by n ns true among = refl
more_by n ns false none = others n ns ns none

-- names have two that are the same where the first is among the rest, or the rest have
pub has_same-more : (n : List ℕ) (ns : List (List ℕ)) → has_same (n ∷ ns) ≡ (list_any (bytes_eq n) ns || has_same ns)
has_same-more n ns =
    let first : is_twice (n ∷ ns) n ≡ list_any (bytes_eq n) ns =
    ap (nat_lt 1) (counted_first (bytes_eq n) n ns)
    ∙ rw (nat_list_eq_equiv.refl n) (one_less (count_by (bytes_eq n) ns))
    ∙ counted (bytes_eq n) ns in
    ap (λ b. b || list_any (is_twice (n ∷ ns)) ns) first ∙ more_by n ns (list_any (bytes_eq n) ns) refl

abbrev pub names : List Queue → List (List ℕ)
names queues = map (λ (q : Queue). q.name) queues

-- a name that none of these queues has
none_among : (name : List ℕ) (queues : List Queue) → list_any (bytes_eq name) (names queues) ≡ false → All (λ (q : Queue). q.name ≢ name) queues
none_among name queues none = λ k d lt same.
    let here = list_any_at (λ (q : Queue). bytes_eq name q.name) queues k d lt ((bytes_eq-Decides name (get_or queues k d).name).1 (sym same)) in
    false≢true (sym none ∙ list_any-map (bytes_eq name) (λ (q : Queue). q.name) queues ∙ here)

pub own_names : (queues : List Queue) → has_same (names queues) ≡ false → HaveOwnNames queues
own_names [] none = tt
own_names (q ∷ queues) none =
    let (here, more) = or_parts _ _ (sym (has_same-more q.name (names queues)) ∙ none) in
    (none_among q.name queues here, own_names queues more)

not_among : (name : List ℕ) (queues : List Queue) → All (λ (q : Queue). q.name ≢ name) queues → list_any (bytes_eq name) (names queues) ≡ false
not_among name queues other =
    list_any-map (bytes_eq name) (λ (q : Queue). q.name) queues
    ∙ list_any_none (λ (q : Queue). bytes_eq name q.name) queues (λ k d lt. false_from_ne_true _ (λ same. other k d lt (sym ((bytes_eq-Decides name (get_or queues k d).name).0 same))))

pub has_same-own : (queues : List Queue) → HaveOwnNames queues → has_same (names queues) ≡ false
has_same-own [] own = refl
has_same-own (q ∷ queues) own =
    rw (has_same-more q.name (names queues), not_among q.name queues own.0, has_same-own queues own.1)

-- the same of queues, the first and the rest
pub has_same-first : (queues : List Queue) (first : Queue) (rest : List Queue) → queues ≡ first ∷ rest
    → has_same (names queues) ≡ (list_any (bytes_eq first.name) (names rest) || has_same (names rest))
has_same-first queues first rest is = ap (λ qs. has_same (names qs)) is ∙ has_same-more first.name (names rest)
