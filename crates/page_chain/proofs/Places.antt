-- The places that are still to be handed out.
use Rattle.std.proofs.Common.{◌≡◌, ℕ, zero, suc, ◌+◌, ◌-◌, ◌<◌, ◌≤◌, inl, inr, Bool, true, false, cond, List, [], ◌∷◌, ◌++◌, length, drop, refl, sym, ◌∙◌, ap, arith, eqb, leb, ◌&&◌, ◌||◌}
use Rattle.std.specs.List.{flat_map, list_any}
use Rattle.std.proofs.lemmas.Bool.{cases_eq, cases_lt, eq-eqb, ne_eqb, le-leb, lt-leb, and_left, and_right, and_from, or_left, or_right, or_from}
use Rattle.std.proofs.lemmas.List.{drop-drop, drop_at, drop-append-le}
use Rattle.std.proofs.lemmas.List.Folds.{list_any-append}
use Rattle.page_chain.specs.declared.run.Run.{Run}
use Rattle.page_chain.specs.declared.place.Place.{Place}
use Rattle.page_chain.specs.Files.{numbered}
use Rattle.page_chain.specs.Changes.{is_among, is_same_place, is_to_come}
use Rattle.page_chain.specs.Held.{run_at, turned_in, places_left, CanPrint}

pub length-numbered : (file n m : ℕ) → length (numbered file n m) ≡ m
length-numbered file n zero = refl
length-numbered file n (suc m) = ap suc (length-numbered file (suc n) m)

drop_numbered : (file n m t : ℕ) (rest : List Place) → t < m
    → drop t (numbered file n m ++ rest) ≡ record { file = file; number = n + t } ∷ drop (suc t) (numbered file n m ++ rest)
drop_numbered file n zero t rest lt = absurd (omega arith)
drop_numbered file n (suc m) zero rest lt =
    let same : n ≡ n + 0 = omega arith in
    ap (λ (k : ℕ). record { file = file; number = k } ∷ (numbered file (suc n) m ++ rest)) same
drop_numbered file n (suc m) (suc t) rest lt =
    let same : suc n + t ≡ n + suc t = omega arith in
    drop_numbered file (suc n) m t rest (omega arith)
    ∙ ap (λ (k : ℕ). record { file = file; number = k } ∷ drop (suc t) (numbered file (suc n) m ++ rest)) same

-- the next place, and those after it
pub places_step : (files : List Run) (file : ℕ) (prints : List ℕ) (turned : ℕ) → turned < (run_at files file).pages
    → places_left files (file ∷ prints) turned ≡ record { file = file; number = turned } ∷ drop 1 (places_left files (file ∷ prints) turned)
places_step files file prints turned lt =
    let all = flat_map (λ (i : ℕ). numbered i 0 (run_at files i).pages) (file ∷ prints) in
    let rest = flat_map (λ (i : ℕ). numbered i 0 (run_at files i).pages) prints in
    let first : Place = record { file = file; number = turned } in
    let step = drop_numbered file 0 (run_at files file).pages turned rest lt in
    let zero_less : 0 + turned ≡ turned = omega arith in
    let next : drop turned all ≡ first ∷ drop (suc turned) all = step ∙ ap (λ (k : ℕ). record { file = file; number = k } ∷ drop (suc turned) all) zero_less in
    next ∙ ap (λ (ps : List Place). first ∷ ps) (ap (drop 1) (sym next))

pub places_more : (files : List Run) (file : ℕ) (prints : List ℕ) (turned : ℕ) → turned < (run_at files file).pages
    → drop 1 (places_left files (file ∷ prints) turned) ≡ places_left files (file ∷ prints) (suc turned)
places_more files file prints turned lt =
    let all = flat_map (λ (i : ℕ). numbered i 0 (run_at files i).pages) (file ∷ prints) in
    let same : turned + 1 ≡ suc turned = omega arith in
    drop-drop 1 turned all ∙ ap (λ (k : ℕ). drop k all) same

pub places_over : (files : List Run) (file : ℕ) (prints : List ℕ) (turned : ℕ) → turned ≡ (run_at files file).pages
    → places_left files (file ∷ prints) turned ≡ places_left files prints 0
places_over files file prints turned e =
    let size = (run_at files file).pages in
    let rest = flat_map (λ (i : ℕ). numbered i 0 (run_at files i).pages) prints in
    drop_at (numbered file 0 size) rest turned (length-numbered file 0 size ∙ sym e)

-- where no place is left, no file is to be printed
pub none_left : (files : List Run) (prints : List ℕ) (turned : ℕ) → CanPrint files prints turned → places_left files prints turned ≡ [] → prints ≡ []
none_left files [] turned p e = refl
none_left files (file ∷ prints) turned p e =
    absurd (let l = ap length (sym (places_step files file prints turned p.1) ∙ e) in omega (arith, l))

pub none_printed : (files : List Run) (turned : ℕ) → places_left files [] turned ≡ []
none_printed files zero = refl
none_printed files (suc turned) = refl

-- where a place is left, a file is to be printed
pub some_left : (files : List Run) (prints : List ℕ) (turned : ℕ) → 0 < length (places_left files prints turned) → 0 < length prints
some_left files [] turned lt = absurd (let l = ap length (none_printed files turned) in omega (arith, l, lt))
some_left files (file ∷ prints) turned lt = omega arith

pub turned_here : (file : ℕ) (prints : List ℕ) (turned : ℕ) → turned_in (file ∷ prints) turned file ≡ turned
turned_here file prints turned = ap (λ (b : Bool). cond b turned 0) (eq-eqb file file refl)

pub turned_none : (prints : List ℕ) (i : ℕ) → turned_in prints 0 i ≡ 0
turned_none [] i = refl
turned_none (file ∷ prints) i = both (eqb file i)
  where
    both : (b : Bool) → ◌≡◌ {A = ℕ} (cond b 0 0) 0
    both true = refl
    both false = refl

pub turned_other : (file : ℕ) (prints : List ℕ) (turned i : ℕ) → (i ≡ file → ⊥) → turned_in (file ∷ prints) turned i ≡ 0
turned_other file prints turned i ne = ap (λ (b : Bool). cond b turned 0) (ne_eqb file i (λ e. ne (sym e)))

-- no file has turned further than its pages
pub turned_within : (files : List Run) (prints : List ℕ) (turned i : ℕ) → CanPrint files prints turned → turned_in prints turned i ≤ (run_at files i).pages
turned_within files [] turned i p = omega arith
turned_within files (file ∷ prints) turned i p = elim (cases_eq i file) [
  | inl e ↦
      let t = turned_here file prints turned in
      let same = ap (λ (j : ℕ). turned_in (file ∷ prints) turned j) e ∙ t in
      let size = ap (λ (j : ℕ). (run_at files j).pages) e in
      let lt = p.1 in
      omega (arith, same, size, lt)
  | inr ne ↦ let none = turned_other file prints turned i ne in omega (arith, none)
]

-- whether a place of the same page is to come
same_file : (file n m : ℕ) (place : Place) → (place.file ≡ file → ⊥) → list_any (is_same_place place) (numbered file n m) ≡ false
same_file file n zero place ne = refl
same_file file n (suc m) place ne =
    or_from (is_same_place place (record { file = file; number = n })) (list_any (is_same_place place) (numbered file (suc n) m))
    (and_left (eqb place.file file) (eqb place.number n) (ne_eqb place.file file ne)) (same_file file (suc n) m place ne)

pub in_range : (n m : ℕ) (place : Place) → n ≤ place.number → place.number < n + m → list_any (is_same_place place) (numbered place.file n m) ≡ true
in_range n zero place le lt = absurd (omega arith)
in_range n (suc m) place le lt = elim (cases_eq place.number n) [
  | inl e ↦ or_left (is_same_place place (record { file = place.file; number = n })) (list_any (is_same_place place) (numbered place.file (suc n) m))
      (and_from (eqb place.file place.file) (eqb place.number n) (eq-eqb place.file place.file refl) (eq-eqb place.number n e))
  | inr ne ↦ or_right (is_same_place place (record { file = place.file; number = n })) (list_any (is_same_place place) (numbered place.file (suc n) m))
      (in_range (suc n) m place (omega (arith, le, ne)) (omega (arith, lt)))
]

before_range : (n m : ℕ) (place : Place) → place.number < n → list_any (is_same_place place) (numbered place.file n m) ≡ false
before_range n zero place lt = refl
before_range n (suc m) place lt =
    or_from (is_same_place place (record { file = place.file; number = n })) (list_any (is_same_place place) (numbered place.file (suc n) m))
    (and_right (eqb place.file place.file) (eqb place.number n) (ne_eqb place.number n (λ e. omega (arith, e, lt))))
    (before_range (suc n) m place (omega (arith, lt)))

drop_range : (file n m t : ℕ) → t ≤ m → drop t (numbered file n m) ≡ numbered file (n + t) (m - t)
drop_range file n m zero le =
    let a : n ≡ n + 0 = omega arith in let b : m ≡ m - 0 = omega arith in
    ap (λ (k : ℕ). numbered file k m) a ∙ ap (λ (k : ℕ). numbered file (n + 0) k) b
drop_range file n zero (suc t) le = absurd (omega (arith, le))
drop_range file n (suc m) (suc t) le =
    let a : suc n + t ≡ n + suc t = omega arith in let b : m - t ≡ suc m - suc t = omega arith in
    drop_range file (suc n) m t (omega (arith, le))
    ∙ (ap (λ (k : ℕ). numbered file k (m - t)) a ∙ ap (λ (k : ℕ). numbered file (n + suc t) k) b)

-- of whole files: where the file is printed
in_whole : (files : List Run) (prints : List ℕ) (place : Place) → place.number < (run_at files place.file).pages
    → list_any (is_same_place place) (flat_map (λ (i : ℕ). numbered i 0 (run_at files i).pages) prints) ≡ is_among prints place.file
in_whole files [] place lt = refl
in_whole files (file ∷ prints) place lt =
    let size = (run_at files file).pages in
    let rest = flat_map (λ (i : ℕ). numbered i 0 (run_at files i).pages) prints in
    let ih = in_whole files prints place lt in
    list_any-append (is_same_place place) (numbered file 0 size) rest
    ∙ elim (cases_eq file place.file) [
      | inl e ↦
          let here : list_any (is_same_place place) (numbered file 0 size) ≡ true =
          ap (λ (i : ℕ). list_any (is_same_place place) (numbered i 0 (run_at files i).pages)) e
          ∙ in_range 0 (run_at files place.file).pages place (omega arith) (omega (arith, lt)) in
          or_left (list_any (is_same_place place) (numbered file 0 size)) (list_any (is_same_place place) rest) here
          ∙ sym (or_left (eqb file place.file) (is_among prints place.file) (eq-eqb file place.file e))
      | inr ne ↦
          ap (λ (b : Bool). b || list_any (is_same_place place) rest) (same_file file 0 size place (λ e. ne (sym e)))
          ∙ (ih ∙ ap (λ (b : Bool). b || is_among prints place.file) (sym (ne_eqb file place.file ne)))
    ]

pub to_come_is : (files : List Run) (prints : List ℕ) (turned : ℕ) (place : Place) → CanPrint files prints turned → place.number < (run_at files place.file).pages
    → is_to_come prints turned place ≡ list_any (is_same_place place) (places_left files prints turned)
to_come_is files [] turned place p lt = ap (list_any (is_same_place place)) (sym (none_printed files turned))
to_come_is files (file ∷ prints) turned place p lt =
    let size = (run_at files file).pages in
    let rest = flat_map (λ (i : ℕ). numbered i 0 (run_at files i).pages) prints in
    let within = p.1 in
    let whole = in_whole files prints place lt in
    let split : places_left files (file ∷ prints) turned ≡ numbered file (0 + turned) (size - turned) ++ rest =
    (let l = length-numbered file 0 size in
    drop-append-le turned (numbered file 0 size) rest (omega (arith, l, within)) ∙ ap (λ (ps : List Place). ps ++ rest) (drop_range file 0 size turned (omega (arith, within)))) in
    let parts = ap (list_any (is_same_place place)) split ∙ list_any-append (is_same_place place) (numbered file (0 + turned) (size - turned)) rest in
    sym (parts ∙ elim (cases_eq file place.file) [
      | inl e ↦ elim (cases_lt place.number turned) [
        | inl past ↦
            let none : list_any (is_same_place place) (numbered file (0 + turned) (size - turned)) ≡ false =
            ap (λ (i : ℕ). list_any (is_same_place place) (numbered i (0 + turned) (size - turned))) e ∙ before_range (0 + turned) (size - turned) place (omega (arith, past)) in
            ap (λ (b : Bool). b || list_any (is_same_place place) rest) none
            ∙ (whole ∙ ap (λ (b : Bool). b || is_among prints place.file) (sym (and_right (eqb file place.file) (leb turned place.number) (lt-leb turned place.number past))))
        | inr ahead ↦
            let same = ap (λ (i : ℕ). (run_at files i).pages) e in
            let some : list_any (is_same_place place) (numbered file (0 + turned) (size - turned)) ≡ true =
            ap (λ (i : ℕ). list_any (is_same_place place) (numbered i (0 + turned) (size - turned))) e
            ∙ in_range (0 + turned) (size - turned) place (omega (arith, ahead)) (omega (arith, lt, same, within)) in
            or_left (list_any (is_same_place place) (numbered file (0 + turned) (size - turned))) (list_any (is_same_place place) rest) some
            ∙ sym (or_left (eqb file place.file && leb turned place.number) (is_among prints place.file)
            (and_from (eqb file place.file) (leb turned place.number) (eq-eqb file place.file e) (le-leb turned place.number ahead)))
      ]
      | inr ne ↦
          ap (λ (b : Bool). b || list_any (is_same_place place) rest) (same_file file (0 + turned) (size - turned) place (λ e. ne (sym e)))
          ∙ (whole ∙ ap (λ (b : Bool). b || is_among prints place.file) (sym (and_left (eqb file place.file) (leb turned place.number) (ne_eqb file place.file ne))))
    ])
