-- A host has one session for all less once one of its places is taken out.
use Rattle.std.proofs.Common.{◌≡◌, ◌≢◌, ◌==◌, ◌<◌, ◌+◌, ◌-◌, ◌∙◌, ℕ, zero, suc, Bool, true, false, List, [], ◌∷◌, Some, ap, arith, cond, refl, remove, slice_get, sym}
use Rattle.std.proofs.lemmas.Bool.Decides.{nat_tests}
use Rattle.std.proofs.lemmas.List.Recursion.{is_count_by}
use Rattle.connection_lobby.specs.Desk.{of_host}

-- how many of these places a host has, from the first one on
abbrev count : ℕ → List ℕ → ℕ
count host [] = 0
count host (other ∷ hosts) = cond (other == host) (1 + count host hosts) (count host hosts)

is_count : (host : ℕ) (hosts : List ℕ) → count host hosts ≡ of_host host hosts
is_count host hosts = is_count_by (count host) (λ other. other == host) refl (λ x xs. refl) hosts

itself : (host other : ℕ) → Some other ≡ Some host → (other == host) ≡ true
itself host other is =
    let same : other ≡ host = cc in
    grind (arith, nat_tests)

another : (host other first : ℕ) → Some first ≡ Some host → other ≢ host → (first == other) ≡ false
another host other first is differs =
    let same : first ≡ host = cc in
    let apart : first ≢ other = λ e. differs (sym e ∙ same) in
    grind (arith, nat_tests)

-- a host that has a place has one at least
has_one : (host : ℕ) (hosts : List ℕ) (at : ℕ) → slice_get hosts at ≡ Some host → 0 < count host hosts
has_one host [] at is = absurd cc
has_one host (other ∷ hosts) zero is = rw (itself host other is) (omega arith)
has_one host (other ∷ hosts) (suc at) is = by (other == host) (has_one host hosts at is)
  where
    by : (b : Bool) → 0 < count host hosts → 0 < cond b (1 + count host hosts) (count host hosts)
    by true one = omega (arith, one)
    by false one = one

less : (host : ℕ) (hosts : List ℕ) (at : ℕ) → slice_get hosts at ≡ Some host → count host (remove hosts at) + 1 ≡ count host hosts
less host [] at is = absurd cc
less host (other ∷ hosts) zero is = rw (itself host other is) (omega arith)
less host (other ∷ hosts) (suc at) is = by (other == host) (less host hosts at is)
  where
    by : (b : Bool) → count host (remove hosts at) + 1 ≡ count host hosts → cond b (1 + count host (remove hosts at)) (count host (remove hosts at)) + 1 ≡ cond b (1 + count host hosts) (count host hosts)
    by true one = omega (arith, one)
    by false one = one

same : (host other : ℕ) (hosts : List ℕ) (at : ℕ) → slice_get hosts at ≡ Some host → other ≢ host → count other (remove hosts at) ≡ count other hosts
same host other [] at is differs = absurd cc
same host other (first ∷ hosts) zero is differs = rw (another host other first is differs) refl
same host other (first ∷ hosts) (suc at) is differs =
    ap (λ n. cond (first == other) (1 + n) n) (same host other hosts at is differs)

pub one_less : (host : ℕ) (hosts : List ℕ) (at : ℕ) → slice_get hosts at ≡ Some host → of_host host (remove hosts at) ≡ of_host host hosts - 1
one_less host hosts at is =
    let before = is_count host hosts in
    let after = is_count host (remove hosts at) in
    let one = less host hosts at is in
    omega (arith, before, after, one)

pub no_other : (host other : ℕ) (hosts : List ℕ) (at : ℕ) → slice_get hosts at ≡ Some host → other ≢ host → of_host other (remove hosts at) ≡ of_host other hosts
no_other host other hosts at is differs =
    sym (is_count other (remove hosts at)) ∙ same host other hosts at is differs ∙ is_count other hosts
