-- The places of a job, and the page at each.
use Rattle.std.proofs.Common.{inl, inr, ◌≡◌, ◌==◌, ◌<◌, ℕ, zero, suc, ◌+◌, Bool, true, false, List, [], ◌∷◌, length, drop, map, refl, sym, ◌∙◌, ap, arith}
use Rattle.std.specs.Prelude.{◌&&◌, not, Option, Some, slice_get, option_map}
use Rattle.std.specs.List.{list_any}
use Rattle.std.proofs.lemmas.Bool.{and_from, and_left, and_parts, and_right, cases_eq, eq-eqb, eqb-true, ne_eqb, or_right}
use Rattle.std.proofs.lemmas.List.{drop-map, length-map}
use Rattle.std.proofs.lemmas.Option.{slice_get-map}
use Rattle.lpd_values.specs.Told.{prints_in}
use Rattle.page_chain.specs.declared.place.Place.{Place}
use Rattle.page_chain.specs.Changes.{is_same_place}
use Rattle.spool_history.specs.Acts as A
use Rattle.spool_history.specs.Acts.{names_in}
use Rattle.spool_history.specs.Now.{Job, places}
use Rattle.spool_calls.specs.Kept.{is_at, is_there, place_of, spots}
use Rattle.spool_laws.proofs.Known.{Has, clash}
use Rattle.step_lemmas.proofs.HeldJobs.EachPage.{nth}
use Rattle.step_lemmas.proofs.OneJob.Passes.{and_yes}
use Rattle.step_lemmas.proofs.OneJob.Shelves.{content_at}
use Rattle.spool_laws.proofs.Copies.{has_either, places_there}

-- the page at a place is that of its file and number

-- a page of this file, its number counted from n
record OfFile {C : Type 0} (x : A.Page C) (number n : ℕ) (pages : List C) : Type 0 where
  k : ℕ
  file : x.file ≡ number
  at : x.number ≡ n + k
  is : slice_get pages k ≡ Some x.page

-- each page of a numbered file is one
of_file : {C : Type 0} (x : A.Page C) (file n : ℕ) (pages : List C) → Has x (A.numbered file n pages) → OfFile x file n pages
of_file x file n [] has = absurd has
of_file {C} x file n (page ∷ pages) has = elim has [
  | inl e ↦
      let z : n ≡ n + 0 = omega arith in
      record { k = 0; file = ap (λ (y : A.Page C). y.file) (sym e); at = ap (λ (y : A.Page C). y.number) (sym e) ∙ z; is = ap (λ (y : A.Page C). Some y.page) e }
  | inr t ↦
      let o = of_file x file (n + 1) pages t in
      record { k = suc o.k; file = o.file; at = omega (arith, o.at); is = o.is }
]

-- a page of one of these files, counted from n
record OfFiles {C : Type 0} (x : A.Page C) (n : ℕ) (fs : List (A.File C)) : Type 0 where
  i : ℕ
  file : x.file ≡ n + i
  is : content_at fs i x.number ≡ Some x.page

-- each page of these files is one
of_files : {C : Type 0} (x : A.Page C) (n : ℕ) (fs : List (A.File C)) → Has x (A.all_pages n fs) → OfFiles x n fs
of_files x n [] has = absurd has
of_files {C} x n (f ∷ fs) has = elim (has_either x (A.numbered n 0 f.pages) (A.all_pages (n + 1) fs) has) [
  | inl a ↦
      let o = of_file x n 0 f.pages a in
      let same : x.number ≡ o.k = omega (arith, o.at) in
      record { i = 0; file = omega (arith, o.file); is = ap (slice_get f.pages) same ∙ o.is }
  | inr b ↦
      let o = of_files x (n + 1) fs b in
      record { i = suc o.i; file = omega (arith, o.file); is = o.is }
]

-- each place of a job has the page of its file and number
pub content_of : {C : Type 0} (v : Job C) (x : A.Page C) → Has x (places v) → content_at v.files x.file x.number ≡ Some x.page
content_of v x has =
    let o = of_files x 0 v.files (places_there x v.files (prints_in v.control) has) in
    let same : x.file ≡ o.i = omega (arith, o.file) in
    ap (λ (i : ℕ). content_at v.files i x.number) same ∙ o.is

-- places

-- a place is its own
pub same_place : (p : Place) → is_same_place p p ≡ true
same_place p = and_from (p.file == p.file) (p.number == p.number) (eq-eqb p.file p.file refl) (eq-eqb p.number p.number refl)

-- two places that are the same are one
pub place_is : (p q : Place) → is_same_place p q ≡ true → p ≡ q
place_is p q e =
    let a = and_parts (p.file == q.file) (p.number == q.number) e in
    ap (λ (i : ℕ). record { file = i; number = p.number }) (eqb-true p.file q.file a.0) ∙ ap (λ (n : ℕ). record { file = q.file; number = n }) (eqb-true p.number q.number a.1)

-- and two that aren't one are not the same
pub place_differs : (p q : Place) → ((p.file ≡ q.file) × (p.number ≡ q.number) → ⊥) → is_same_place p q ≡ false
place_differs p q ne = elim (cases_eq p.file q.file) [
  | inl f ↦ and_right (p.file == q.file) (p.number == q.number) (ne_eqb p.number q.number (λ n. ne (f, n)))
  | inr nf ↦ and_left (p.file == q.file) (p.number == q.number) (ne_eqb p.file q.file nf)
]

-- the i-th place of a job
pub record PlaceAt {C : Type 0} (v : Job C) (i : ℕ) : Type 0 where
  pub page : A.Page C
  pub has : Has page (places v)
  pub is : slice_get (places v) i ≡ Some page
  pub left : drop i (places v) ≡ page ∷ drop (i + 1) (places v)
  pub spot : slice_get (spots v) i ≡ Some (place_of page)
  pub spots_left : drop i (spots v) ≡ place_of page ∷ drop (i + 1) (spots v)

-- each number below how many places there are is that of a place
pub place_at : {C : Type 0} (v : Job C) (i : ℕ) → i < length (places v) → PlaceAt v i
place_at {C} v i lt =
    let n = nth (places v) i lt in
    record {
      page = n.here;
      has = n.has;
      is = n.is;
      left = n.left;
      spot = slice_get-map (place_of {C = C}) (places v) i ∙ ap (λ (o : Option (A.Page C)). option_map place_of o) n.is;
      spots_left =
          drop-map (place_of {C = C}) i (places v)
          ∙ (ap (map {A = A.Page C} {B = Place} place_of) n.left
          ∙ ap (λ (l : List Place). place_of n.here ∷ l) (sym (drop-map (place_of {C = C}) (i + 1) (places v))));
    }

-- a job has as many spots as places
pub length-spots : {C : Type 0} (v : Job C) → length (spots v) ≡ length (places v)
length-spots {C} v = length-map (places v) (place_of {C = C})

-- a place that is among those after the n-th
pub any_within : {X : Type 0} (t : X → Bool) (n : ℕ) (xs : List X) → list_any t (drop n xs) ≡ true → n < length xs
any_within t zero [] e = absurd (clash false e refl)
any_within t (suc n) [] e = absurd (clash false e refl)
any_within t zero (x ∷ xs) e = omega arith
any_within t (suc n) (x ∷ xs) e = (let lt = any_within t n xs e in omega (arith, lt))

-- what is among the later ones is among all
pub any_later : {X : Type 0} (t : X → Bool) (n : ℕ) (xs : List X) → list_any t (drop n xs) ≡ true → list_any t xs ≡ true
any_later t zero xs e = e
any_later t (suc n) [] e = e
any_later t (suc n) (x ∷ xs) e = or_right (t x) (list_any t xs) (any_later t n xs e)

-- which pages are there

-- where no page is at a printer, those of which some place hasn't come back
pub there_even : (s : List Place) (handed back : ℕ) (place : Place) → handed ≡ back → is_there s handed back place ≡ list_any (is_same_place place) (drop back s)
there_even s handed back place e =
    ap (λ (b : Bool). list_any (is_same_place place) (drop back s) && not (not b && is_at (slice_get s back) place)) (eq-eqb handed back e)
    ∙ and_yes (list_any (is_same_place place) (drop back s))

-- where a page is at a printer, the same but for that one
pub there_odd : (s : List Place) (handed back : ℕ) (at place : Place) → handed ≡ back + 1 → slice_get s back ≡ Some at
    → is_there s handed back place ≡ (list_any (is_same_place place) (drop back s) && not (is_same_place place at))
there_odd s handed back at place e o =
    ap (λ (b : Bool). list_any (is_same_place place) (drop back s) && not (not b && is_at (slice_get s back) place)) (ne_eqb handed back (λ d. omega (arith, e, d)))
    ∙ ap (λ (x : Option Place). list_any (is_same_place place) (drop back s) && not (is_at x place)) o
