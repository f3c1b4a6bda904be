-- The places of a job are those of whole files, one pass after the other.
use Rattle.std.proofs.Common.{◌≡◌, ℕ, suc, ◌+◌, Bool, true, false, cond, nat_lt, List, [], ◌∷◌, ◌++◌, length, map, refl, sym, ◌∙◌, ap, ap₂, subst, arith}
use Rattle.std.specs.Prelude.{Option, Some, None}
use Rattle.std.specs.List.{cons_option, flat_map, position_or_len}
use Rattle.std.specs.Str.{bytes_eq}
use Rattle.std.proofs.lemmas.Bool.{lt-ltb, le-ltb, or_parts}
use Rattle.std.proofs.lemmas.Bool.Decides.{nat_tests}
use Rattle.std.proofs.lemmas.List.{append-nil, map-append}
use Rattle.std.proofs.lemmas.Slice.Eq.{bytes_eq-Decides}
use Rattle.lpd_values.specs.Kept.{is_among}
use Rattle.page_chain.specs.declared.place.Place.{Place}
use Rattle.page_chain.specs.Files as F
use Rattle.page_chain.specs.Changes.{number_of, numbers_of}
use Rattle.spool_history.specs.Acts as A
use Rattle.spool_history.specs.Acts.{names_in, new_file}
use Rattle.spool_calls.specs.Kept.{place_of}
use Rattle.step_lemmas.proofs.HeldJobs.Files.{Differ}
use Rattle.step_lemmas.proofs.OneJob.Passes.{passes}

-- which of these names is the first that is this one, where the first has the number n
abbrev number_from : ℕ → List (List ℕ) → List ℕ → Option ℕ
number_from n [] name = None
number_from n (x ∷ names) name = cond (bytes_eq x name) (Some n) (number_from (suc n) names name)

-- a place in a list, where there is one, counted from n
abbrev found_at : ℕ → ℕ → ℕ → Option ℕ
found_at n k len = cond (nat_lt k len) (Some (n + k)) None

-- the same place, counted from the next
shift : (n k len : ℕ) → found_at n (1 + k) (suc len) ≡ found_at (suc n) k len
shift n k len =
    let same : nat_lt (1 + k) (suc len) ≡ nat_lt k len = grind (arith, nat_tests) in
    let a : n + (1 + k) ≡ suc n + k = omega arith in
    ap (λ (b : Bool). cond b (Some (n + (1 + k))) None) same ∙ ap (λ (m : ℕ). cond (nat_lt k len) (Some m) None) a

-- whether the first name is that name
position_by : (n : ℕ) (x name : List ℕ) (names : List (List ℕ)) (b : Bool) → bytes_eq x name ≡ b
    → found_at (suc n) (position_or_len (λ other. bytes_eq other name) names) (length names) ≡ number_from (suc n) names name
    → found_at n (position_or_len (λ other. bytes_eq other name) (x ∷ names)) (length (x ∷ names)) ≡ number_from n (x ∷ names) name
position_by n x name names true e ih =
    let z : n + 0 ≡ n = omega arith in
    rw e (ap (λ (b : Bool). cond b (Some (n + 0)) None) (lt-ltb 0 (suc (length names)) (omega arith)) ∙ ap (λ (m : ℕ). Some m) z)
position_by n x name names false e ih = rw e (shift n (position_or_len (λ other. bytes_eq other name) names) (length names) ∙ ih)

-- the place of a name is its number
position_from : (n : ℕ) (names : List (List ℕ)) (name : List ℕ) → found_at n (position_or_len (λ other. bytes_eq other name) names) (length names) ≡ number_from n names name
position_from n [] name = ap (λ (b : Bool). cond b (Some (n + 0)) None) (le-ltb 0 0 (omega arith))
position_from n (x ∷ names) name = position_by n x name names (bytes_eq x name) refl (position_from (suc n) names name)

-- the same of the number that a chain looks up
number_is : (names : List (List ℕ)) (name : List ℕ) → number_of names name ≡ number_from 0 names name
number_is names name =
    let k = position_or_len (λ other. bytes_eq other name) names in
    let z : k ≡ 0 + k = omega arith in
    ap (λ (m : ℕ). cond (nat_lt k (length names)) (Some m) None) z ∙ position_from 0 names name

-- the places of one file
numbered_places : {C : Type 0} (file n m : ℕ) (pages : List C) → n ≡ m → map {A = A.Page C} {B = Place} place_of (A.numbered file n pages) ≡ F.numbered file m (length pages)
numbered_places file n m [] e = refl
numbered_places {C} file n m (x ∷ pages) e =
    ap₂ (λ (k : ℕ) (l : List Place). record { file = file; number = k } ∷ l) e (numbered_places file (n + 1) (suc m) pages (omega arith))

-- a name of no file has no page
none_named : {C : Type 0} (name : List ℕ) (n : ℕ) (fs : List (A.File C)) → is_among name (names_in fs) ≡ false → A.pages_named name n fs ≡ []
none_named name n [] e = refl
none_named name n (f ∷ fs) e =
    let o = or_parts (bytes_eq f.name name) (is_among name (names_in fs)) e in
    rw o.0 (none_named name (n + 1) fs o.1)

-- the places of the file of a number, where there is one
abbrev placed_at : (ℕ → ℕ) → Option ℕ → List Place
placed_at len None = []
placed_at len (Some i) = F.numbered i 0 (len i)

-- each of these files, the first of which has the number n, has so many pages
abbrev pub Sizes : {C : Type 0} → (ℕ → ℕ) → ℕ → List (A.File C) → Type 0
Sizes len n [] = Unit {0}
Sizes len n (f ∷ fs) = (len n ≡ length f.pages) × Sizes len (suc n) fs

-- whether the first file has that name
named_by : {C : Type 0} (len : ℕ → ℕ) (name : List ℕ) (n m : ℕ) (f : A.File C) (fs : List (A.File C)) (b : Bool) → n ≡ m → bytes_eq f.name name ≡ b → is_among f.name (names_in fs) ≡ false
    → len m ≡ length f.pages
    → map {A = A.Page C} {B = Place} place_of (A.pages_named name (n + 1) fs) ≡ placed_at len (number_from (suc m) (names_in fs) name)
    → map {A = A.Page C} {B = Place} place_of (A.pages_named name n (f ∷ fs)) ≡ placed_at len (number_from m (names_in (f ∷ fs)) name)
named_by {C} len name n m f fs true nm e none size ih =
    let same : f.name ≡ name = (bytes_eq-Decides f.name name).0 e in
    let rest : A.pages_named name (n + 1) fs ≡ [] = none_named name (n + 1) fs (subst (λ (x : List ℕ). is_among x (names_in fs) ≡ false) same none) in
    rw e (
    ap (λ (l : List (A.Page C)). map {A = A.Page C} {B = Place} place_of (A.numbered n 0 f.pages ++ l)) rest
    ∙ (ap (map {A = A.Page C} {B = Place} place_of) (append-nil (A.numbered n 0 f.pages))
    ∙ (numbered_places n 0 0 f.pages refl
    ∙ (ap (λ (k : ℕ). F.numbered k 0 (length f.pages)) nm ∙ ap (F.numbered m 0) (sym size)))))
named_by len name n m f fs false nm e none size ih = rw e ih

-- where no two files have one name, the places of that name are those of one file
named_places : {C : Type 0} (len : ℕ → ℕ) (name : List ℕ) (n m : ℕ) (fs : List (A.File C)) → n ≡ m → Differ (names_in fs) → Sizes len m fs
    → map {A = A.Page C} {B = Place} place_of (A.pages_named name n fs) ≡ placed_at len (number_from m (names_in fs) name)
named_places len name n m [] e d s = refl
named_places len name n m (f ∷ fs) e d s =
    named_by len name n m f fs (bytes_eq f.name name) e refl d.0 s.0 (named_places len name (n + 1) (suc m) fs (omega arith) d.1 s.1)

-- one more file
flat_option : (len : ℕ → ℕ) (o : Option ℕ) (numbers : List ℕ) → passes len (cons_option o numbers) ≡ placed_at len o ++ passes len numbers
flat_option len None numbers = refl
flat_option len (Some i) numbers = refl

-- so the places of a print list are those of the files of its names
pub placed_is : {C : Type 0} (len : ℕ → ℕ) (names : List (List ℕ)) (fs : List (A.File C)) → Differ (names_in fs) → Sizes len 0 fs
    → map {A = A.Page C} {B = Place} place_of (flat_map (λ name. A.pages_named name 0 fs) names) ≡ passes len (numbers_of (names_in fs) names)
placed_is len [] fs d s = refl
placed_is {C} len (name ∷ names) fs d s =
    let rest = flat_map (λ name. A.pages_named name 0 fs) names in
    map-append (place_of {C = C}) (A.pages_named name 0 fs) rest
    ∙ (ap (λ (l : List Place). l ++ map {A = A.Page C} {B = Place} place_of rest) (named_places len name 0 0 fs refl d s ∙ ap (placed_at len) (sym (number_is (names_in fs) name)))
    ∙ (ap (λ (l : List Place). placed_at len (number_of (names_in fs) name) ++ l) (placed_is len names fs d s)
    ∙ sym (flat_option len (number_of (names_in fs) name) (numbers_of (names_in fs) names))))
