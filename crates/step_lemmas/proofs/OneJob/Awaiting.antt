-- The page that is at a printer is the only one of its file that isn't in the chain, where it comes again.
use Rattle.std.proofs.Common.{◌≡◌, ◌<◌, ℕ, zero, suc, ◌+◌, Bool, true, false, List, [], ◌∷◌, length, drop, refl, sym, ◌∙◌, ap, subst, arith}
use Rattle.std.specs.Prelude.{Option, Some, None, IsSome}
use Rattle.std.specs.List.{list_any}
use Rattle.page_pool.specs.Page.{Page}
use Rattle.lpd_values.specs.Told.{prints_in}
use Rattle.page_chain.specs.declared.place.Place.{Place}
use Rattle.page_chain.specs.Files.{file_at, page_at}
use Rattle.page_chain.specs.Changes.{AwaitsLast, IsOnlyGap, comes_again, is_same_place, numbers_of, or_no_place}
use Rattle.held_jobs.specs.Jobs.{HeldJob}
use Rattle.held_jobs.specs.Shown as S
use Rattle.config_values.specs.Config.{Config}
use Rattle.spool_history.specs.Acts as A
use Rattle.spool_history.specs.Acts.{names_in}
use Rattle.spool_history.specs.Now.{Job}
use Rattle.spool_calls.specs.Kept.{is_printed, is_there, place_of, spots}
use Rattle.step_lemmas.proofs.HeldJobs.Files.{Differ}
use Rattle.step_lemmas.proofs.HeldJobs.EachPage.{nth}
use Rattle.step_lemmas.proofs.OneJob.Ties.{Prints, Ties, prints}
use Rattle.step_lemmas.proofs.OneJob.Passes.{all_again, passes}
use Rattle.step_lemmas.proofs.OneJob.Placing.{placed_is}
use Rattle.step_lemmas.proofs.OneJob.Seeing.{see_len, seen_len, seen_none, seen_some}
use Rattle.step_lemmas.proofs.OneJob.Shelves.{content_at, given_if, given_none, len_of, len_shelved, sizes_of}
use Rattle.step_lemmas.proofs.OneJob.Spots.{PlaceAt, place_at, place_differs, same_place}
use Rattle.step_lemmas.proofs.OneJob.Printing.{Goes, again_is, again_within, alike, last_is, see_place, there_before, there_printed, unlike}

-- the places of a job are passes over its files
pub spots_pass : {C : Type 0} (v : Job C) → Differ (names_in v.files) → spots v ≡ passes (len_of v.files) (numbers_of (names_in v.files) (prints_in v.control))
spots_pass v d = placed_is (len_of v.files) (prints_in v.control) v.files d (sizes_of v.files)

-- each number below the length of a file is that of a page
content : {C : Type 0} (fs : List (A.File C)) (i n : ℕ) → n < len_of fs i → (page : C) × (content_at fs i n ≡ Some page)
content [] i n lt = absurd (omega arith)
content (f ∷ fs) zero n lt = (let s = nth f.pages n lt in (s.here, s.is))
content (f ∷ fs) (suc i) n lt = content fs i n lt

-- the page that is at a printer isn't in the chain
page_out : {C : Type 0} (f : Page → C) (c : Config) (j : HeldJob) (v : Job C) (at : PlaceAt v v.back) → v.handed ≡ v.back + 1 → Prints f c j v → page_at j.chain.files (place_of at.page) ≡ None
page_out {C} f c j v at e a =
    let p = place_of at.page in
    let there : is_there (spots v) v.handed v.back p ≡ false =
    there_before v at p e ∙ alike (is_same_place p p) (list_any (is_same_place p) (drop (v.back + 1) (spots v))) (same_place p) in
    seen_none f (page_at j.chain.files p)
    (see_place f c j v p a
    ∙ (ap (λ (b : Bool). given_if (is_printed (spots v) p.file) (given_if b (content_at v.files p.file p.number))) there ∙ given_none (is_printed (spots v) p.file)))

-- the other pages of its file are, where it comes again
page_in : {C : Type 0} (f : Page → C) (c : Config) (j : HeldJob) (v : Job C) (at : PlaceAt v v.back) → v.handed ≡ v.back + 1 → Differ (names_in v.files) → comes_again j.chain.places j.chain.last ≡ true → Prints f c j v
    → (n : ℕ) → n < length (file_at j.chain.files at.page.file).pages → (n ≡ at.page.number → ⊥) → IsSome (page_at j.chain.files (record { file = at.page.file; number = n }))
page_in {C} f c j v at e d again a n lt ne =
    let p = place_of at.page in
    let s = spots v in
    let rest = drop (v.back + 1) s in
    let q : Place = record { file = p.file; number = n } in
    let most = len_shelved (is_printed s) (is_there s v.handed v.back) 0 p.file v.files in
    let within : n < len_of v.files p.file = omega (arith, lt, see_len f j.chain.files p.file, ap (λ (l : List (S.File C)). seen_len l p.file) a.files, most) in
    let x = content v.files p.file n within in
    let pass : drop v.back (passes (len_of v.files) (numbers_of (names_in v.files) (prints_in v.control))) ≡ p ∷ rest = ap (drop v.back) (sym (spots_pass v d)) ∙ at.spots_left in
    let later : list_any (is_same_place q) rest ≡ true =
    all_again (len_of v.files) (numbers_of (names_in v.files) (prints_in v.control)) v.back p q rest pass (sym (again_is f c j v at e a) ∙ again) refl within in
    let there : is_there s v.handed v.back q ≡ true =
    there_before v at q e ∙ (unlike (is_same_place q p) (list_any (is_same_place q) rest) (place_differs q p (λ m. ne m.1)) ∙ later) in
    seen_some f (page_at j.chain.files q) x.0
    (see_place f c j v q a
    ∙ (ap (λ (b : Bool). given_if b (given_if (is_there s v.handed v.back q) (content_at v.files q.file q.number))) (there_printed v v.back at).1
    ∙ (ap (λ (b : Bool). given_if b (content_at v.files q.file q.number)) there ∙ x.1)))

-- so its page is awaited
pub awaits_last : {C : Type 0} (f : Page → C) (c : Config) (j : HeldJob) (v : Job C) → Goes v → v.handed ≡ v.back + 1 → Differ (names_in v.files) → comes_again j.chain.places j.chain.last ≡ true → Ties f c j v → AwaitsLast j.chain
awaits_last {C} f c j v g e d again t =
    let a = prints f c j v g.0 g.1 t in
    let at = place_at v v.back (omega (arith, e, again_within f c j v again a)) in
    let last = last_is f c j v at e a in
    let gap : IsOnlyGap j.chain (place_of at.page) = record { out = page_out f c j v at e a; others = page_in f c j v at e d again a } in
    record {
      last = subst (λ (o : Option Place). IsSome o) (sym last) refl;
      gap = subst (λ (p : Place). IsOnlyGap j.chain p) (sym (ap or_no_place last)) gap;
    }
