-- A page that was handed is a page of a file of its job.
use Rattle.std.proofs.Common.{◌≡◌, ℕ, zero, suc, ◌+◌, Bool, true, false, cond, List, [], ◌∷◌, ◌++◌, length, take, drop, Option, Some, refl, sym, ap, subst, ◌∙◌, arith, inl, inr}
use Rattle.std.specs.Prelude.{Contains}
use Rattle.std.specs.List.{flat_map, slice_get}
use Rattle.std.specs.Str.{bytes_eq}
use Rattle.std.proofs.lemmas.List.{take-append-drop}
use Rattle.config_values.specs.Config.{Config}
use Rattle.spool_history.specs.Base.{first_base}
use Rattle.spool_history.specs.Events.{Sheet}
use Rattle.lpd_values.specs.Told.{prints_in}
use Rattle.spool_history.specs.Acts.{File, Page, control_by, files_by, numbered, pages_named}
use Rattle.spool_history.specs.Said.{Opening, openings, acts_of, handed_of}
use Rattle.spool_laws.specs.Leaving.{places_of, sheets}
use Rattle.spool_laws.proofs.Known.{Has, has_contained}
use Rattle.spool_laws.proofs.Adding.{has_left}
use Rattle.spool_laws.proofs.Places.{placed}
use Rattle.spool_laws.proofs.Reserve.{accepted}
use Rattle.spool_trace.specs.Trace.{Trace}
use Rattle.spool_trace.specs.Shown.{events}
use Rattle.spool_trace.specs.Replies.{IsTrace}
use Rattle.spool_trace.specs.Headline.{AsArrived, HandedArrived, HandedAsArrived, IsAsArrived}
use Rattle.spool_trace.proofs.Legal.{legal}
use Rattle.spool_laws.proofs.Copies.{has_either as has_split}
use Rattle.spool_laws.proofs.Joined.{contained}

got : {X : Type 0} (x : X) (xs : List X) (i : ℕ) → slice_get xs i ≡ Some x → Has x xs
got x [] i e = absurd cc
got x (y ∷ ys) zero e = inl (let same : ◌≡◌ {A = Option _} (Some y) (Some x) = e in cc)
got x (y ∷ ys) (suc i) e = inr (got x ys i e)

abbrev Of : {C : Type 0} → (job : ℕ) → Page C → Sheet C → Type 0
Of job x s = (s.job ≡ job) × (s.file ≡ x.file) × (s.number ≡ x.number) × (s.page ≡ x.page)

in_sheets : {C : Type 0} (j n : ℕ) (xs : List (Page C)) (s : Sheet C) → Has s (sheets j n xs) → (x : Page C) × Has x xs × Of j x s
in_sheets j n [] s has = absurd has
in_sheets {C} j n (x ∷ xs) s has = elim has [
  | inl e ↦ (x, inl refl, (ap {A = Sheet C} {B = ℕ} (λ y. y.job) (sym e), ap {A = Sheet C} {B = ℕ} (λ y. y.file) (sym e), ap {A = Sheet C} {B = ℕ} (λ y. y.number) (sym e), ap {A = Sheet C} {B = C} (λ y. y.page) (sym e)))
  | inr t ↦ let r = in_sheets j (n + 1) xs s t in (r.0, inr r.1, r.2)
]

in_flat : {X Y : Type 0} (g : X → List Y) (xs : List X) (y : Y) → Has y (flat_map g xs) → (x : X) × Has y (g x)
in_flat g [] y has = absurd has
in_flat g (x ∷ xs) y has = elim (has_split y (g x) (flat_map g xs) has) [ inl a ↦ (x, a) | inr b ↦ in_flat g xs y b ]

in_numbered : {C : Type 0} (file n : ℕ) (pages : List C) (x : Page C) → Has x (numbered file n pages) → (i : ℕ) × (x.file ≡ file) × (x.number ≡ n + i) × (slice_get pages i ≡ Some x.page)
in_numbered file n [] x has = absurd has
in_numbered {C} file n (p ∷ ps) x has = elim has [
  | inl e ↦
      (0, ap {A = Page C} {B = ℕ} (λ y. y.file) (sym e), (let number = ap {A = Page C} {B = ℕ} (λ y. y.number) (sym e) in omega (arith, number)), ap {A = Page C} {B = Option C} (λ y. Some y.page) e)
  | inr t ↦ let r = in_numbered file (n + 1) ps x t in (suc r.0, r.1, (let number = r.2 in omega (arith, number)), r.3)
]

-- a page of the file of a name is a page of a file, of which its own numbers tell
abbrev OfFile : {C : Type 0} → ℕ → List (File C) → Page C → Type 0
OfFile {C} k fs x = (i : ℕ) × (f : File C) × (x.file ≡ k + i) × (slice_get fs i ≡ Some f) × (slice_get f.pages x.number ≡ Some x.page)

named_by : {C : Type 0} (b : Bool) (k : ℕ) (f : File C) (fs : List (File C)) (rest : List (Page C)) (x : Page C) → Has x (cond b (numbered k 0 f.pages) [] ++ rest) → (Has x rest → OfFile (k + 1) fs x) → OfFile k (f ∷ fs) x
named_by {C} b k f fs rest x has ih = elim (has_split x (cond b (numbered k 0 f.pages) []) rest has) [
  | inl a ↦ here b a
  | inr t ↦ let r = ih t in (suc r.0, r.1, (let file = r.2 in omega (arith, file)), r.3, r.4)
]
  where
    here : (b' : Bool) → Has x (cond b' (numbered k 0 f.pages) []) → OfFile k (f ∷ fs) x
    here true a =
        let r = in_numbered k 0 f.pages x a in
        let same : x.number ≡ r.0 = (let number = r.2 in omega (arith, number)) in
        (0, f, (let file = r.1 in omega (arith, file)), refl, ap (slice_get f.pages) same ∙ r.3)
    here false a = absurd a

in_named : {C : Type 0} (name : List ℕ) (k : ℕ) (fs : List (File C)) (x : Page C) → Has x (pages_named name k fs) → OfFile k fs x
in_named name k [] x has = absurd has
in_named name k (f ∷ fs) x has = named_by (bytes_eq f.name name) k f fs (pages_named name (k + 1) fs) x has (in_named name (k + 1) fs x)

-- a page that was handed, from its place
from_place : (c : Config) (t : Trace) (j i : ℕ) (sheet : Sheet (List ℕ)) (x : Page (List ℕ)) (o : Opening) (f : File (List ℕ)) → Contains (openings (events c t)) o → o.job ≡ j → Of j x sheet → x.file ≡ 0 + i
    → slice_get (files_by (acts_of (events c t) j)) i ≡ Some f → slice_get f.pages x.number ≡ Some x.page → IsAsArrived c t o.sender o.job f → (sheet.job ≡ j) × HandedArrived c t sheet
from_place c t j i sheet x o f accepted' job is file its_file its_page came =
    let same : o.job ≡ sheet.job = job ∙ sym is.0 in
    let place : sheet.file ≡ i = (let e = is.1 in omega (arith, e, file)) in
    let there : slice_get (files_by (acts_of (events c t) j)) sheet.file ≡ Some f = ap (slice_get (files_by (acts_of (events c t) j))) place ∙ its_file in
    let number : slice_get f.pages sheet.number ≡ Some x.page = ap (slice_get f.pages) is.2 ∙ its_page in (
      is.0,
      record {
        opening = o;
        accepted = accepted';
        job = same;
        file = f;
        its_file = subst (λ (k : ℕ). slice_get (files_by (acts_of (events c t) k)) sheet.file ≡ Some f) (sym is.0) there;
        its_page = number ∙ ap {A = List ℕ} {B = Option (List ℕ)} (λ y. Some y) (sym is.3);
        arrived = subst (λ (k : ℕ). IsAsArrived c t o.sender k f) same came;
      },
    )

pub handed : (c : Config) (t : Trace) → IsTrace c t → AsArrived c t → HandedAsArrived c t
handed c t r all j sheet has =
    let h = events c t in
    let l = legal c t r in
    let n : ℕ = length (handed_of h j) in
    let files : List (File (List ℕ)) = files_by (acts_of h j) in
    let there : Has sheet (handed_of h j) = has_contained sheet (handed_of h j) has in
    let a = in_sheets j 0 (take n (places_of h j)) sheet (subst (λ (xs : List (Sheet (List ℕ))). Has sheet xs) (placed length c first_base h l j) there) in
    let place : Has a.0 (places_of h j) = subst (λ (xs : List (Page (List ℕ))). Has a.0 xs) (take-append-drop n (places_of h j)) (has_left a.0 (take n (places_of h j)) (drop n (places_of h j)) a.1) in
    let named = in_flat (λ (name : List ℕ). pages_named name 0 files) (prints_in (control_by (acts_of h j))) a.0 place in
    let f = in_named named.0 0 files a.0 named.1 in
    let some = has.1 in
    let o = accepted length c first_base h l j (omega (arith, some)) in
    let opened = contained o.0 (openings h) o.1 in
    let of_job : Has f.1 (files_by (acts_of h o.0.job)) = subst (λ (i : ℕ). Has f.1 (files_by (acts_of h i))) (sym o.2) (got f.1 files f.0 f.3) in
    from_place c t j f.0 sheet a.0 o.0 f.1 opened o.2 a.2 f.2 f.3 f.4 (all o.0 f.1 opened (contained f.1 (files_by (acts_of h o.0.job)) of_job))
