-- The places of a received job are handed out and come back.
use Rattle.std.proofs.Common.{inl, inr, ◌≡◌, ◌==◌, ◌<◌, ◌≤◌, ℕ, suc, ◌+◌, Bool, true, false, List, [], ◌∷◌, length, drop, get_or, refl, sym, ◌∙◌, ap, arith, ◌-◌}
use Rattle.std.specs.Prelude.{◌&&◌, ◌||◌, not, Option, Some, None, slice_get}
use Rattle.std.specs.List.{list_any}
use Rattle.std.proofs.lemmas.Bool.{cases_lt}
use Rattle.std.proofs.lemmas.List.{drop-drop, drop_all, length-drop}
use Rattle.std.proofs.lemmas.Bool.Decides.{nat_tests}
use Rattle.page_pool.specs.Page.{Page}
use Rattle.page_chain.specs.declared.place.Place.{Place}
use Rattle.page_chain.specs.Files.{no_place, page_at}
use Rattle.page_chain.specs.Changes.{IsReady, comes_again, is_same_place, last_place, next_place, or_no_place}
use Rattle.held_jobs.specs.Jobs.{HeldJob}
use Rattle.held_jobs.specs.Moves.{again_job, back_facts, handed_facts, handed_job, told}
use Rattle.held_jobs.specs.Shown as S
use Rattle.held_jobs.specs.Shown.{see_file, see_page}
use Rattle.config_values.specs.Config.{Config}
use Rattle.spool_history.specs.Events.Progress.{Going}
use Rattle.spool_history.specs.Events.Turn.{Handed, Printed}
use Rattle.spool_history.specs.Acts as A
use Rattle.spool_history.specs.Now.{Job, is_received, places}
use Rattle.spool_history.specs.Steps.{turned}
use Rattle.spool_calls.specs.Kept.{is_at, is_printed, is_there, last_of, place_of, shelved_files, spots}
use Rattle.step_lemmas.proofs.OneJob.Ties.{Prints, Ties, prints, ties_printing}
use Rattle.step_lemmas.proofs.OneJob.Passes.{and_yes, printed_some}
use Rattle.step_lemmas.proofs.OneJob.Seeing.{see_at, see_with, seen_at, seen_some, seen_with}
use Rattle.step_lemmas.proofs.OneJob.Shelves.{content_at, given_if, same_files, seen_shelved, set_shelved}
use Rattle.spool_laws.proofs.Known.{and_false}
use Rattle.step_lemmas.proofs.OneJob.Spots.{PlaceAt, any_later, any_within, content_of, length-spots, place_at, place_differs, place_is, same_place, there_even, there_odd}

-- a received job that hasn't ended
abbrev pub Goes : {C : Type 0} → Job C → Type 0
Goes v = (v.ended ≡ false) × (is_received v ≡ true)

-- what is seen of the page of a place in its chain
pub see_place : {C : Type 0} (f : Page → C) (c : Config) (j : HeldJob) (v : Job C) (place : Place) → Prints f c j v
    → see_page f (page_at j.chain.files place) ≡ given_if (is_printed (spots v) place.file) (given_if (is_there (spots v) v.handed v.back place) (content_at v.files place.file place.number))
see_place {C} f c j v place a =
    see_at f j.chain.files place
    ∙ (ap (λ (l : List (S.File C)). seen_at l place.file place.number) a.files
    ∙ seen_shelved (is_printed (spots v)) (is_there (spots v) v.handed v.back) v.files place)

-- the next place

-- no page of it is at a printer, and a place is left
pub record CanHand {C : Type 0} (v : Job C) : Type 0 where
  pub goes : Goes v
  pub even : v.handed ≡ v.back
  pub some : v.handed < length (places v)

-- the next place of the chain is that of the job
pub next_is : {C : Type 0} (f : Page → C) (c : Config) (j : HeldJob) (v : Job C) (at : PlaceAt v v.handed) → Prints f c j v → next_place j.chain ≡ place_of at.page
next_is f c j v at a = ap (λ (l : List Place). get_or l 0 no_place) (a.places ∙ at.spots_left)

-- the place is printed
pub there_printed : {C : Type 0} (v : Job C) (i : ℕ) (at : PlaceAt v i) → (list_any (is_same_place (place_of at.page)) (drop i (spots v)) ≡ true) × (is_printed (spots v) at.page.file ≡ true)
there_printed v i at =
    let p = place_of at.page in
    let first : list_any (is_same_place p) (drop i (spots v)) ≡ true =
    ap (list_any (is_same_place p)) at.spots_left ∙ ap (λ (b : Bool). b || list_any (is_same_place p) (drop (i + 1) (spots v))) (same_place p) in
    (first, printed_some (spots v) p (any_later (is_same_place p) i (spots v) first))

-- the page of the next place is there, and it is the history's
pub see_next : {C : Type 0} (f : Page → C) (c : Config) (j : HeldJob) (v : Job C) (at : PlaceAt v v.handed) → v.handed ≡ v.back → Prints f c j v → see_page f (page_at j.chain.files (next_place j.chain)) ≡ Some at.page.page
see_next {C} f c j v at e a =
    let p = place_of at.page in
    let here = there_printed v v.handed at in
    let there : is_there (spots v) v.handed v.back p ≡ true = there_even (spots v) v.handed v.back p e ∙ (ap (λ (n : ℕ). list_any (is_same_place p) (drop n (spots v))) (sym e) ∙ here.0) in
    ap (λ (q : Place). see_page f (page_at j.chain.files q)) (next_is f c j v at a)
    ∙ (see_place f c j v p a
    ∙ (ap (λ (b : Bool). given_if b (given_if (is_there (spots v) v.handed v.back p) (content_at v.files p.file p.number))) here.1
    ∙ (ap (λ (b : Bool). given_if b (content_at v.files p.file p.number)) there ∙ content_of v at.page at.has)))

-- so it can be handed out
pub can_hand : {C : Type 0} (f : Page → C) (c : Config) (j : HeldJob) (v : Job C) → CanHand v → Ties f c j v → IsReady j.chain
can_hand {C} f c j v h t =
    let a = prints f c j v h.goes.0 h.goes.1 t in
    let at = place_at v v.handed h.some in
    record {
      some = omega (arith, ap (λ (l : List Place). length l) (a.places ∙ at.spots_left));
      here = seen_some f (page_at j.chain.files (next_place j.chain)) at.page.page (see_next f c j v at h.even a);
    }

-- the history's next place, of which the page is this one
pub record NextPage {C : Type 0} (f : Page → C) (j : HeldJob) (v : Job C) (page : Page) : Type 0 where
  pub next : A.Page C
  pub is : slice_get (places v) v.handed ≡ Some next
  pub left : drop v.handed (places v) ≡ next ∷ drop (v.handed + 1) (places v)
  pub place : next_place j.chain ≡ place_of next
  pub page' : f page ≡ next.page

-- the page of the next place is the history's
pub next_page : {C : Type 0} (f : Page → C) (c : Config) (j : HeldJob) (v : Job C) (page : Page) → CanHand v → page_at j.chain.files (next_place j.chain) ≡ Some page → Ties f c j v → NextPage f j v page
next_page {C} f c j v page h is t =
    let a = prints f c j v h.goes.0 h.goes.1 t in
    let at = place_at v v.handed h.some in
    let same : Some (f page) ≡ Some at.page.page = ap (see_page f) (sym is) ∙ see_next f c j v at h.even a in
    record { next = at.page; is = at.is; left = at.left; place = next_is f c j v at a; page' = cc }

-- one more, in two spellings
next_left : (n : ℕ) → n + 1 ≡ suc n
next_left n = omega arith

-- it is handed out
pub ties_handed : {C : Type 0} (f : Page → C) (c : Config) (j : HeldJob) (v : Job C) → CanHand v → Ties f c j v → Ties f c (handed_job j) (turned Handed v)
ties_handed {C} f c j v h t =
    let a = prints f c j v h.goes.0 h.goes.1 t in
    let at = place_at v v.handed h.some in
    let p = place_of at.page in
    let s = spots v in
    let there = is_there s v.handed v.back in
    let after = is_there s (v.handed + 1) v.back in
    let next = next_is f c j v at a in
    let e = h.even in
    let odd : v.handed + 1 ≡ v.back + 1 = omega arith in
    let spot : slice_get s v.back ≡ Some p = ap (slice_get s) (sym e) ∙ at.spot in
    let tells : (q : Place) → after q ≡ (there q && not (is_same_place q p)) =
    λ q.
    there_odd s (v.handed + 1) v.back p q odd spot
    ∙ ap (λ (b : Bool). b && not (is_same_place q p)) (sym (there_even s v.handed v.back q e)) in
    let others : (q : Place) → ((q.file ≡ p.file) × (q.number ≡ p.number) → ⊥) → there q ≡ after q =
    λ q ne. sym (tells q ∙ (ap (λ (b : Bool). there q && not b) (place_differs q p ne) ∙ and_yes (there q))) in
    let gone : after p ≡ false = tells p ∙ (ap (λ (b : Bool). there p && not b) (same_place p) ∙ and_false (there p)) in
    ties_printing f c (handed_job j) (turned Handed v) h.goes.0 h.goes.1 (record {
      facts = ap handed_facts a.facts;
      files =
          see_with f j.chain.files (next_place j.chain) None
          ∙ (ap (λ (l : List (S.File C)). seen_with l (next_place j.chain).file (next_place j.chain).number None) a.files
          ∙ (ap (λ (q : Place). seen_with (shelved_files (is_printed s) there 0 v.files) q.file q.number None) next
          ∙ set_shelved (is_printed s) there after p v.files None others (sym (ap (λ (b : Bool). given_if b (content_at v.files p.file p.number)) gone))));
      is_open = a.is_open;
      places = ap (drop 1) a.places ∙ drop-drop 1 v.handed s;
      last = ap (λ (q : Place). Some q) next ∙ (sym at.spot ∙ ap (last_of s) (sym (next_left v.handed)));
    })

-- a page comes back

-- the place that was handed out last
pub last_is : {C : Type 0} (f : Page → C) (c : Config) (j : HeldJob) (v : Job C) (at : PlaceAt v v.back) → v.handed ≡ v.back + 1 → Prints f c j v → j.chain.last ≡ Some (place_of at.page)
last_is f c j v at e a = a.last ∙ (ap (last_of (spots v)) (e ∙ next_left v.back) ∙ at.spot)

-- whether its page comes again
pub again_is : {C : Type 0} (f : Page → C) (c : Config) (j : HeldJob) (v : Job C) (at : PlaceAt v v.back) → v.handed ≡ v.back + 1 → Prints f c j v
    → comes_again j.chain.places j.chain.last ≡ list_any (is_same_place (place_of at.page)) (drop (v.back + 1) (spots v))
again_is f c j v at e a =
    ap (comes_again j.chain.places) (last_is f c j v at e a)
    ∙ ap (list_any (is_same_place (place_of at.page))) (a.places ∙ ap (λ (n : ℕ). drop n (spots v)) e)

-- which pages are there before and after
pub there_before : {C : Type 0} (v : Job C) (at : PlaceAt v v.back) (q : Place) → v.handed ≡ v.back + 1
    → is_there (spots v) v.handed v.back q ≡ ((is_same_place q (place_of at.page) || list_any (is_same_place q) (drop (v.back + 1) (spots v))) && not (is_same_place q (place_of at.page)))
there_before v at q e =
    there_odd (spots v) v.handed v.back (place_of at.page) q e at.spot
    ∙ ap (λ (l : List Place). list_any (is_same_place q) l && not (is_same_place q (place_of at.page))) at.spots_left

-- another page is there where it comes again
pub unlike : (b d : Bool) → b ≡ false → ((b || d) && not b) ≡ d
unlike true d e = absurd cc
unlike false true e = refl
unlike false false e = refl

-- the page that is at a printer isn't there
pub alike : (b d : Bool) → b ≡ true → ((b || d) && not b) ≡ false
alike true d e = refl
alike false d e = absurd cc

-- a page that isn't to come again changes nothing of what is there as it comes back
stays_by : {C : Type 0} (v : Job C) (at : PlaceAt v v.back) (q : Place) (b : Bool) → v.handed ≡ v.back + 1 → list_any (is_same_place (place_of at.page)) (drop (v.back + 1) (spots v)) ≡ false
    → is_same_place q (place_of at.page) ≡ b → is_there (spots v) v.handed v.back q ≡ list_any (is_same_place q) (drop (v.back + 1) (spots v))
stays_by v at q true e none is =
    let p = place_of at.page in
    let rest = drop (v.back + 1) (spots v) in
    there_before v at q e ∙ (alike (is_same_place q p) (list_any (is_same_place q) rest) is ∙ sym (ap (λ (x : Place). list_any (is_same_place x) rest) (place_is q p is) ∙ none))
stays_by v at q false e none is = there_before v at q e ∙ unlike (is_same_place q (place_of at.page)) (list_any (is_same_place q) (drop (v.back + 1) (spots v))) is

-- past the last place no page is there
past_there : {C : Type 0} (v : Job C) (q : Place) → length (places v) ≤ v.back → v.handed ≡ v.back + 1 → is_there (spots v) v.handed v.back q ≡ is_there (spots v) v.handed (v.back + 1) q
past_there v q le e =
    let s = spots v in
    let l = length-spots v in
    let none : drop v.back s ≡ [] = drop_all v.back s (omega (arith, l, le)) in
    let none' : drop (v.back + 1) s ≡ [] = drop_all (v.back + 1) s (omega (arith, l, le)) in
    ap (λ (x : List Place). list_any (is_same_place q) x && not (not (v.handed == v.back) && is_at (slice_get s v.back) q)) none
    ∙ sym (there_even s v.handed (v.back + 1) q e ∙ ap (list_any (is_same_place q)) none')

-- whether or not the place is one of the job's
stays : {C : Type 0} (f : Page → C) (c : Config) (j : HeldJob) (v : Job C) (q : Place) → v.handed ≡ v.back + 1 → comes_again j.chain.places j.chain.last ≡ false → Prints f c j v
    → is_there (spots v) v.handed v.back q ≡ is_there (spots v) v.handed (v.back + 1) q
stays f c j v q e none a = elim (cases_lt v.back (length (places v))) [
  | inl lt ↦
      let at = place_at v v.back lt in
      stays_by v at q (is_same_place q (place_of at.page)) e (sym (again_is f c j v at e a) ∙ none) refl
      ∙ sym (there_even (spots v) v.handed (v.back + 1) q e)
  | inr le ↦ past_there v q le e
]

-- it comes back for the last time
pub ties_back : {C : Type 0} (f : Page → C) (c : Config) (j : HeldJob) (v : Job C) → Goes v → v.handed ≡ v.back + 1 → comes_again j.chain.places j.chain.last ≡ false → Ties f c j v
    → Ties f c (told back_facts j) (turned (Printed Going) v)
ties_back {C} f c j v g e none t =
    let a = prints f c j v g.0 g.1 t in
    ties_printing f c (told back_facts j) (turned (Printed Going) v) g.0 g.1 (record {
      facts = ap back_facts a.facts;
      files = a.files ∙ same_files (is_printed (spots v)) (is_there (spots v) v.handed v.back) (is_there (spots v) v.handed (v.back + 1)) 0 v.files (λ q le. stays f c j v q e none a);
      is_open = a.is_open;
      places = a.places;
      last = a.last;
    })

-- a page comes again only while places are left
pub again_within : {C : Type 0} (f : Page → C) (c : Config) (j : HeldJob) (v : Job C) → comes_again j.chain.places j.chain.last ≡ true → Prints f c j v → v.handed < length (places v)
again_within {C} f c j v again a = omega (arith, length-spots v, within j.chain.last (ap (λ (x : List Place). comes_again x j.chain.last) (sym a.places) ∙ again))
  where
    within : (o : Option Place) → comes_again (drop v.handed (spots v)) o ≡ true → v.handed < length (spots v)
    within None e = absurd cc
    within (Some place) e = any_within (is_same_place place) v.handed (spots v) e

-- it comes back for a later place
pub ties_again : {C : Type 0} (f : Page → C) (c : Config) (j : HeldJob) (v : Job C) (page : Page) (x : A.Page C) → Goes v → v.handed ≡ v.back + 1 → comes_again j.chain.places j.chain.last ≡ true
    → slice_get (places v) v.back ≡ Some x → f page ≡ x.page → Ties f c j v → Ties f c (again_job page j) (turned (Printed Going) v)
ties_again {C} f c j v page x g e again is same t =
    let a = prints f c j v g.0 g.1 t in
    let at = place_at v v.back (omega (arith, e, again_within f c j v again a)) in
    let here : Some x ≡ Some at.page = sym is ∙ at.is in
    let x_is : x ≡ at.page = cc in
    let p = place_of at.page in
    let s = spots v in
    let there = is_there s v.handed v.back in
    let after = is_there s v.handed (v.back + 1) in
    let last : last_place j.chain ≡ p = ap or_no_place (last_is f c j v at e a) in
    let others : (q : Place) → ((q.file ≡ p.file) × (q.number ≡ p.number) → ⊥) → there q ≡ after q =
    λ q ne.
    there_before v at q e
    ∙ (unlike (is_same_place q p) (list_any (is_same_place q) (drop (v.back + 1) s)) (place_differs q p ne)
    ∙ sym (there_even s v.handed (v.back + 1) q e)) in
    let here' : after p ≡ true = there_even s v.handed (v.back + 1) p e ∙ (sym (again_is f c j v at e a) ∙ again) in
    let content : Some (f page) ≡ given_if (after p) (content_at v.files p.file p.number) =
    ap (λ (y : C). Some y) same
    ∙ (ap (λ (y : A.Page C). Some y.page) x_is
    ∙ (sym (content_of v at.page at.has) ∙ ap (λ (b : Bool). given_if b (content_at v.files p.file p.number)) (sym here'))) in
    ties_printing f c (again_job page j) (turned (Printed Going) v) g.0 g.1 (record {
      facts = ap back_facts a.facts;
      files =
          see_with f j.chain.files (last_place j.chain) (Some page)
          ∙ (ap (λ (l : List (S.File C)). seen_with l (last_place j.chain).file (last_place j.chain).number (Some (f page))) a.files
          ∙ (ap (λ (q : Place). seen_with (shelved_files (is_printed s) there 0 v.files) q.file q.number (Some (f page))) last
          ∙ set_shelved (is_printed s) there after p v.files (Some (f page)) others content));
      is_open = a.is_open;
      places = a.places;
      last = a.last;
    })

-- when it is done

-- so many places are left
pub places_left : {C : Type 0} (f : Page → C) (c : Config) (j : HeldJob) (v : Job C) → Goes v → Ties f c j v → length j.chain.places ≡ length (places v) - v.handed
places_left f c j v g t =
    let a = prints f c j v g.0 g.1 t in
    ap (λ (l : List Place). length l) a.places ∙ (length-drop v.handed (spots v) ∙ ap (λ (n : ℕ). n - v.handed) (length-spots v))

-- a page that comes back is the last where no place is left
pub is_done : {C : Type 0} (f : Page → C) (c : Config) (j : HeldJob) (v : Job C) → Goes v → v.handed ≡ v.back + 1 → v.handed ≤ length (places v) → Ties f c j v → (v.back + 1 == length (places v)) ≡ (length j.chain.places == 0)
is_done f c j v g e le t = (let l = places_left f c j v g t in grind (arith, nat_tests))
