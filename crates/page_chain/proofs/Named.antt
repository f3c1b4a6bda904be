-- Files by name.
use Rattle.std.proofs.Common.{◌≡◌, ℕ, suc, inl, inr, ◌+◌, ◌<◌, Bool, true, false, cond, nat_lt, Option, Some, None, List, [], ◌∷◌, ◌++◌, length, take, get_or, refl, sym, ◌∙◌, ap, arith}
use Rattle.std.specs.Prelude.{filter, is_some}
use Rattle.std.specs.Str.{bytes_eq}
use Rattle.std.specs.List.{cons_option, filter_map, list_any, position_or_len}
use Rattle.std.proofs.lemmas.Bool.{cases_lt, cond-true, cond-false, lt-ltb, le-ltb}
use Rattle.std.proofs.lemmas.List.{get_or-map, length-map, take_more}
use Rattle.std.proofs.lemmas.List.Quantifiers.{position-Some}
use Rattle.std.proofs.lemmas.List.Sums.{position_or_len_is}
use Rattle.std.proofs.lemmas.List.Elements.{filter-append, filter_map-append}
use Rattle.page_chain.specs.declared.run.Run.{Run}
use Rattle.page_chain.specs.Changes.{has_name, number_of, numbers_of}
use Rattle.page_chain.specs.Held.{no_run, run_at, names_in}

name_at : (files : List Run) (i : ℕ) → i < length files → get_or (names_in files) i [] ≡ (run_at files i).name
name_at files i lt = get_or-map (λ (run : Run). run.name) files i no_run [] lt

pub number_is : (files : List Run) (name : List ℕ) (i : ℕ) → i < length files → bytes_eq (run_at files i).name name ≡ true
    → ((j : ℕ) → j < i → bytes_eq (run_at files j).name name ≡ false) → number_of (names_in files) name ≡ Some i
number_is files name i lt named first =
    let names = names_in files in
    let p : List ℕ → Bool = λ other. bytes_eq other name in
    let l = length-map files (λ (run : Run). run.name) in
    let at = position_or_len_is p names i [] (omega (arith, l, lt))
    (λ k kl. ap p (name_at files k (omega (arith, kl, lt))) ∙ first k kl)
    (λ il. ap p (name_at files i lt) ∙ named) in
    ap (λ (k : ℕ). cond (nat_lt k (length names)) (Some k) None) at
    ∙ cond-true (nat_lt i (length names)) (Some i) None (lt-ltb i (length names) (omega (arith, l, lt)))

pub number_none : (files : List Run) (name : List ℕ) → ((j : ℕ) → j < length files → bytes_eq (run_at files j).name name ≡ false)
    → number_of (names_in files) name ≡ None
number_none files name first =
    let names = names_in files in
    let p : List ℕ → Bool = λ other. bytes_eq other name in
    let l = length-map files (λ (run : Run). run.name) in
    let at = position_or_len_is p names (length names) [] (omega arith)
    (λ k kl. ap p (name_at files k (omega (arith, kl, l))) ∙ first k (omega (arith, kl, l)))
    (λ il. absurd (omega (arith, il))) in
    ap (λ (k : ℕ). cond (nat_lt k (length names)) (Some k) None) at
    ∙ cond-false (nat_lt (length names) (length names)) (Some (length names)) None (le-ltb (length names) (length names) (omega arith))

pub number_within : (files : List Run) (name : List ℕ) (i : ℕ) → number_of (names_in files) name ≡ Some i → i < length files
number_within files name i e =
    let w = position-Some (λ (other : List ℕ). bytes_eq other name) (names_in files) i [] e in
    let l = length-map files (λ (run : Run). run.name) in
    let lt = w.0 in omega (arith, l, lt)

shift : (k n : ℕ) → nat_lt (1 + k) (suc n) ≡ nat_lt k n
shift k n = elim (cases_lt k n) [
  | inl lt ↦ lt-ltb (1 + k) (suc n) (omega (arith, lt)) ∙ sym (lt-ltb k n lt)
  | inr le ↦ le-ltb (1 + k) (suc n) (omega (arith, le)) ∙ sym (le-ltb k n le)
]

-- a name is there where it has a number
found : (p : List ℕ → Bool) (names : List (List ℕ)) → list_any p names ≡ nat_lt (position_or_len p names) (length names)
found p [] = refl
found p (x ∷ names) = go (p x) refl (found p names)
  where
    go : (b : Bool) → p x ≡ b → list_any p names ≡ nat_lt (position_or_len p names) (length names)
        → list_any p (x ∷ names) ≡ nat_lt (position_or_len p (x ∷ names)) (length (x ∷ names))
    go true e ih = rw e (sym (lt-ltb 0 (suc (length names)) (omega arith)))
    go false e ih = rw e (ih ∙ sym (shift (position_or_len p names) (length names)))

pub has_number : (names : List (List ℕ)) (name : List ℕ) → has_name names name ≡ is_some (number_of names name)
has_number names name =
    let p : List ℕ → Bool = λ other. bytes_eq other name in
    found p names ∙ go (nat_lt (position_or_len p names) (length names)) (position_or_len p names)
  where
    go : (b : Bool) (k : ℕ) → b ≡ is_some (cond b (Some k) None)
    go true k = refl
    go false k = refl

-- one more name of the list
pub listed_push : (p : ℕ → Bool) (names : List (List ℕ)) (list : List (List ℕ)) (i : ℕ) (name : List ℕ) (got : Option ℕ) → i < length list → name ≡ get_or list i name
    → got ≡ number_of names name
    → filter p (numbers_of names (take (i + 1) list)) ≡ filter p (numbers_of names (take i list)) ++ filter p (cons_option got [])
listed_push p names list i name got lt is e =
    ap (λ (xs : List (List ℕ)). filter p (numbers_of names xs)) (take_more list i name lt)
    ∙ (ap (λ (x : List ℕ). filter p (numbers_of names (take i list ++ x ∷ []))) (sym is)
    ∙ (ap (filter p) (filter_map-append (number_of names) (take i list) (name ∷ []))
    ∙ (filter-append p (numbers_of names (take i list)) (filter_map (number_of names) (name ∷ []))
    ∙ ap (λ (o : Option ℕ). filter p (numbers_of names (take i list)) ++ filter p (cons_option o [])) (sym e))))
