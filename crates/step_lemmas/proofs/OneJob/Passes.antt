-- Places of whole files, one pass after the other.
use Rattle.std.proofs.Common.{inl, inr, ◌≡◌, ◌==◌, ℕ, zero, suc, ◌+◌, ◌-◌, ◌<◌, Bool, true, false, List, [], ◌∷◌, ◌++◌, length, drop, refl, sym, ◌∙◌, ap, subst, arith}
use Rattle.std.specs.Prelude.{◌||◌, ◌&&◌}
use Rattle.std.specs.List.{flat_map, list_any}
use Rattle.std.proofs.lemmas.Bool.{false_from_ne_true, true_from_ne_false, and_parts, and_right, cases_lt, eq-eqb, eqb-true, ne_eqb, or_cases, or_from, or_left, or_parts, or_right}
use Rattle.std.proofs.Math.Seq.{drop-append-add}
use Rattle.std.proofs.lemmas.List.Folds.{list_any-append}
use Rattle.page_chain.specs.declared.place.Place.{Place}
use Rattle.page_chain.specs.Changes.{is_among, is_same_place}
use Rattle.page_chain.specs.Files.{numbered}
use Rattle.spool_calls.specs.Kept.{is_printed}
use Rattle.spool_laws.proofs.Known.{clash}
use Rattle.page_chain.proofs.Places.{in_range, length-numbered}

-- a test and nothing more
pub and_yes : (b : Bool) → (b && true) ≡ b
and_yes true = refl
and_yes false = refl

-- the places of these files, each of which has so many pages
abbrev pub passes : (ℕ → ℕ) → List ℕ → List Place
passes len numbers = flat_map (λ (i : ℕ). numbered i 0 (len i)) numbers

-- a number below the first is that of none
pub before_range : (file n m : ℕ) (place : Place) → place.number < n → list_any (is_same_place place) (numbered file n m) ≡ false
before_range file n zero place lt = refl
before_range file n (suc m) place lt =
    or_from (is_same_place place (record { file = file; number = n })) (list_any (is_same_place place) (numbered file (suc n) m))
    (and_right (place.file == file) (place.number == n) (ne_eqb place.number n (λ e. omega (arith, e, lt))))
    (before_range file (suc n) m place (omega (arith, lt)))

-- a place of another file
numbered_other : (file i n m : ℕ) → (i ≡ file → ⊥) → is_printed (numbered i n m) file ≡ false
numbered_other file i n zero ne = refl
numbered_other file i n (suc m) ne = or_from (i == file) (is_printed (numbered i (suc n) m) file) (ne_eqb i file ne) (numbered_other file i (suc n) m ne)

-- a file that isn't among those has no place
pub printed_none : (len : ℕ → ℕ) (numbers : List ℕ) (file : ℕ) → is_among numbers file ≡ false → is_printed (passes len numbers) file ≡ false
printed_none len [] file e = refl
printed_none len (i ∷ numbers) file e =
    let o = or_parts (i == file) (is_among numbers file) e in
    list_any-append (λ (place : Place). place.file == file) (numbered i 0 (len i)) (passes len numbers)
    ∙ or_from (is_printed (numbered i 0 (len i)) file) (is_printed (passes len numbers) file)
    (numbered_other file i 0 (len i) (λ s. clash (i == file) (eq-eqb i file s) o.0)) (printed_none len numbers file o.1)

-- each page of a file that is among those has a place
pub passed : (len : ℕ → ℕ) (numbers : List ℕ) (place : Place) → is_among numbers place.file ≡ true → place.number < len place.file → list_any (is_same_place place) (passes len numbers) ≡ true
passed len [] place e lt = e
passed len (i ∷ numbers) place e lt =
    let here = numbered i 0 (len i) in
    let rest = passes len numbers in
    list_any-append (is_same_place place) here rest
    ∙ elim (or_cases (i == place.file) (is_among numbers place.file) e) [
      | inl h ↦
          or_left (list_any (is_same_place place) here) (list_any (is_same_place place) rest)
          (ap (λ (k : ℕ). list_any (is_same_place place) (numbered k 0 (len k))) (eqb-true i place.file h)
          ∙ in_range 0 (len place.file) place (omega arith) (omega (arith, lt)))
      | inr later ↦ or_right (list_any (is_same_place place) here) (list_any (is_same_place place) rest) (passed len numbers place later lt)
    ]

-- a file of which some place is there is printed
pub printed_some : (spots : List Place) (place : Place) → list_any (is_same_place place) spots ≡ true → is_printed spots place.file ≡ true
printed_some [] place e = e
printed_some (x ∷ spots) place e = elim (or_cases (is_same_place place x) (list_any (is_same_place place) spots) e) [
  | inl h ↦
      let p = and_parts (place.file == x.file) (place.number == x.number) h in
      or_left (x.file == place.file) (is_printed spots place.file) (eq-eqb x.file place.file (sym (eqb-true place.file x.file p.0)))
  | inr t ↦ or_right (x.file == place.file) (is_printed spots place.file) (printed_some spots place t)
]

-- and of one that isn't printed no place is there
pub none_there : (spots : List Place) (place : Place) → is_printed spots place.file ≡ false → list_any (is_same_place place) spots ≡ false
none_there spots place e = false_from_ne_true (list_any (is_same_place place) spots) (λ h. clash (is_printed spots place.file) (printed_some spots place h) e)

-- what follows a place

-- the places of a file from one of them on
drop_numbered : (file n m t : ℕ) (rest : List Place) → t < m → drop t (numbered file n m ++ rest) ≡ record { file = file; number = n + t } ∷ (numbered file (suc (n + t)) (m - suc t) ++ rest)
drop_numbered file n zero t rest lt = absurd (omega arith)
drop_numbered file n (suc m) zero rest lt =
    let a : n ≡ n + 0 = omega arith in
    let b : m ≡ suc m - suc 0 = omega arith in
    ap (λ (k : ℕ). record { file = file; number = k } ∷ (numbered file (suc k) m ++ rest)) a
    ∙ ap (λ (k : ℕ). record { file = file; number = n + 0 } ∷ (numbered file (suc (n + 0)) k ++ rest)) b
drop_numbered file n (suc m) (suc t) rest lt =
    let a : suc n + t ≡ n + suc t = omega arith in
    let b : m - suc t ≡ suc m - suc (suc t) = omega arith in
    drop_numbered file (suc n) m t rest (omega arith)
    ∙ (ap (λ (k : ℕ). record { file = file; number = k } ∷ (numbered file (suc k) (m - suc t) ++ rest)) a
    ∙ ap (λ (k : ℕ). record { file = file; number = n + suc t } ∷ (numbered file (suc (n + suc t)) k ++ rest)) b)

-- a page that has a place has its file among those that are printed
among : (len : ℕ → ℕ) (numbers : List ℕ) (place : Place) → list_any (is_same_place place) (passes len numbers) ≡ true → is_among numbers place.file ≡ true
among len numbers place h =
    true_from_ne_false (is_among numbers place.file)
    (λ e. clash (list_any (is_same_place place) (passes len numbers)) h (none_there (passes len numbers) place (printed_none len numbers place.file e)))

-- what comes after the place `number` of a pass over a file has the same page again only in a later pass, where all are
later_pass : (len : ℕ → ℕ) (file n m : ℕ) (numbers : List ℕ) (place other : Place) → place.number < n → list_any (is_same_place place) (numbered file n m ++ passes len numbers) ≡ true
    → other.file ≡ place.file → other.number < len other.file → list_any (is_same_place other) (numbered file n m ++ passes len numbers) ≡ true
later_pass len file n m numbers place other lt h same within =
    let here = list_any-append (is_same_place place) (numbered file n m) (passes len numbers) in
    let rest : list_any (is_same_place place) (passes len numbers) ≡ true =
    ap (λ (b : Bool). b || list_any (is_same_place place) (passes len numbers)) (sym (before_range file n m place lt)) ∙ (sym here ∙ h) in
    let there : is_among numbers other.file ≡ true = ap (is_among numbers) same ∙ among len numbers place rest in
    list_any-append (is_same_place other) (numbered file n m) (passes len numbers)
    ∙ or_right (list_any (is_same_place other) (numbered file n m)) (list_any (is_same_place other) (passes len numbers)) (passed len numbers other there within)

-- where the page of a place comes again after it, each page of its file does
pub all_again : (len : ℕ → ℕ) (numbers : List ℕ) (k : ℕ) (place other : Place) (later : List Place) → drop k (passes len numbers) ≡ place ∷ later → list_any (is_same_place place) later ≡ true
    → other.file ≡ place.file → other.number < len other.file → list_any (is_same_place other) later ≡ true
all_again len [] zero place other later e h same lt = absurd cc
all_again len [] (suc k) place other later e h same lt = absurd cc
all_again len (i ∷ numbers) k place other later e h same lt = elim (cases_lt k (len i)) [
  | inl less ↦
      let first : Place = record { file = i; number = 0 + k } in
      let tail : List Place = numbered i (suc (0 + k)) (len i - suc k) ++ passes len numbers in
      let both : place ∷ later ≡ first ∷ tail = sym e ∙ drop_numbered i 0 (len i) k (passes len numbers) less in
      let at : place ≡ first = cc in
      let is : later ≡ tail = cc in
      let number : place.number ≡ 0 + k = ap (λ (p : Place). p.number) at in
      subst (λ (l : List Place). list_any (is_same_place other) l ≡ true) (sym is)
      (later_pass len i (suc (0 + k)) (len i - suc k) numbers place other (omega (arith, number)) (subst (λ (l : List Place). list_any (is_same_place place) l ≡ true) is h) same lt)
  | inr past ↦
      let n : k ≡ length (numbered i 0 (len i)) + (k - len i) = omega (arith, length-numbered i 0 (len i), past) in
      let skip : drop k (numbered i 0 (len i) ++ passes len numbers) ≡ drop (k - len i) (passes len numbers) =
      ap (λ (m : ℕ). drop m (numbered i 0 (len i) ++ passes len numbers)) n ∙ drop-append-add (numbered i 0 (len i)) (passes len numbers) (k - len i) in
      all_again len numbers (k - len i) place other later (sym skip ∙ e) h same lt
]
