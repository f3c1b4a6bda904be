-- The file and the page that a trace shows are the only ones that may be.
use Rattle.std.proofs.Common.{◌≡◌, ◌==◌, ℕ, ◌-◌, Bool, true, false, List, [], ◌∷◌, ◌++◌, Option, Some, None, length, get_or, refl, sym, ◌∙◌, ap, subst, arith, inl, inr, ◌⊎◌}
use Rattle.std.specs.Prelude.{find}
use Rattle.std.proofs.lemmas.List.{length-append}
use Rattle.std.proofs.lemmas.Bool.{eqb-true, eq-eqb}
use Rattle.spool_history.specs.Events.{Event}
use Rattle.config_values.specs.Config.{Config}
use Rattle.spool_history.specs.Base.{Base}
use Rattle.spool_history.specs.Acts.{File, files_by, new_file}
use Rattle.spool_history.specs.Said.{acts_of}
use Rattle.spool_history.specs.Now.{Job, now}
use Rattle.spool_history.specs.Legal.{HasJob}
use Rattle.spool_laws.proofs.Known.{Has, has_contained, clash, find_has, known, known_at, has_at}
use Rattle.spool_requests.specs.Shows.{files_in, files_at, file_now, page_now}
use Rattle.spool_requests.specs.Decided.{PutIsDecided, EndIsDecided}

none_by : {X : Type 0} (t : X → Bool) (x y : X) (ys : List X) (b : Bool) → t y ≡ b → find t (y ∷ ys) ≡ None → (y ≡ x) ⊎ Has x ys → t x ≡ true → (find t ys ≡ None → Has x ys → ⊥) → ⊥
none_by {X} t x y ys true is e has p rest =
    let bad : ◌≡◌ {A = Option X} (Some y) None = rw is at e in
    absurd cc
none_by {X} t x y ys false is e has p rest =
    let more : find t ys ≡ None = rw is at e in
    elim has [ inl s ↦ clash (t x) p (subst (λ (v : X). t v ≡ false) s is) | inr h ↦ rest more h ]

none_found : {X : Type 0} (t : X → Bool) (x : X) (xs : List X) → find t xs ≡ None → Has x xs → t x ≡ true → ⊥
none_found t x [] e has p = has
none_found t x (y ∷ ys) e has p = none_by t x y ys (t y) refl e has p (λ f h. none_found t x ys f h p)

at_end : {X : Type 0} (x d : X) (xs : List X) → get_or (xs ++ x ∷ []) (length xs) d ≡ x
at_end x d [] = refl
at_end x d (y ∷ ys) = at_end x d ys

before_end : {X : Type 0} (x : X) (xs : List X) → length (xs ++ x ∷ []) - 1 ≡ length xs
before_end x xs = omega (arith, length-append xs (x ∷ []))

abbrev is_job : {C : Type 0} → ℕ → Job C → Bool
is_job j w = w.number == j

module _ {C : Type 0} (c : Config) (b : Base) (h : List (Event C)) (j : ℕ) where
  found_by : (x : Job C) (r : Option (Job C)) → Has x (now c b h).jobs → x.number ≡ j → find (is_job j) (now c b h).jobs ≡ r → files_in r ≡ files_by (acts_of h j)
  found_by x None has n e = absurd (none_found (is_job j) x (now c b h).jobs e has (eq-eqb x.number j n))
  found_by x (Some w) has n e =
      let f = find_has (is_job j) w (now c b h).jobs e in
      sym (known_at h w j (λ (v : Job C). v.files ≡ w.files) (known c b h w f.0) (eqb-true w.number j f.1) refl).is

  -- the files of a held job are those that the history says
  pub files_found : (P : Job C → Type 0) → HasJob (now c b h).jobs j P → files_at (now c b h) j ≡ files_by (acts_of h j)
  files_found P m = found_by m.job (find (is_job j) (now c b h).jobs) (has_contained m.job (now c b h).jobs m.there) m.number refl

  -- where the last file is this one, it is the one that is shown
  pub last_file : (before : List (File C)) (last : File C) → files_at (now c b h) j ≡ before ++ last ∷ [] → (file_now (now c b h) j ≡ length before) × (page_now (now c b h) j ≡ length last.pages)
  last_file before last e =
      let n : file_now (now c b h) j ≡ length before = rw e (before_end last before) in
      (n, rw (n, e) (ap {A = File C} {B = ℕ} (λ f. length f.pages) (at_end last (new_file [] 0) before)))

pub put_decided : {C : Type 0} → PutIsDecided C
put_decided size c b h j file number page m =
    let a = has_at c b h j _ m.0 in
    let o = a.is.2 in
    let l = last_file c b h j o.0 o.1 (files_found c b h j _ m.0 ∙ o.2) in
    (sym o.3 ∙ sym l.0, sym o.5.0 ∙ sym l.1)

pub end_decided : {C : Type 0} → EndIsDecided C
end_decided size c b h j file whole m =
    let a = has_at c b h j _ m.0 in
    let o = a.is.2 in
    let l = last_file c b h j o.0 o.1 (files_found c b h j _ m.0 ∙ o.2) in
    sym o.3 ∙ sym l.0
