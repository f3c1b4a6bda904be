use Rattle.std.proofs.Common.{◌≡◌, ◌+◌, ◌<◌, ℕ, Some, List, ◌∷◌, drop, length, get_or, sym, ◌∙◌, ap, subst, arith}
use Rattle.std.specs.Prelude.{slice_get}
use Rattle.std.proofs.lemmas.Bool.{ltb-true}
use Rattle.std.proofs.lemmas.List.{drop_more, get_or_default}
use Rattle.page_chain.specs.declared.place.Place.{Place}
use Rattle.page_chain.specs.Held.{Kept, places_left, CanPrint}
use Rattle.page_chain.proofs.Inside.{kept_of}
use Rattle.page_chain.proofs.Places.{places_step}
use Rattle.page_chain.proofs.chain.Chain.next_place.Goals as goal

pub returns : goal.returns
returns c =
    let f = c.self.inside in
    let i = c.self.invariant in
    let files = f.files.items in
    let prints = f.prints.items in
    let t = kept_of f in
    let v : t ≡ c.args.self.now = c.self.view_is in
    let file = c.in_ok-file.field-0.now in
    let shown = c.deref.ensures.value in
    let lt : f.printed < length prints = (let l = ap length shown in let n = ltb-true f.printed (length c.deref.result.now) (sym c.in_ok-file.ensures.lookup.0) in omega (arith, l, n)) in
    let is : file ≡ get_or prints f.printed 0 = c.in_ok-file.ensures.lookup.1 ∙ (ap (λ (xs : List ℕ). get_or xs f.printed file) shown ∙ get_or_default prints f.printed file 0 lt) in
    let rest = drop (f.printed + 1) prints in
    let front : drop f.printed prints ≡ file ∷ rest = drop_more prints f.printed 0 lt ∙ ap (λ (x : ℕ). x ∷ rest) (sym is) in
    let p = subst (λ (ps : List ℕ). CanPrint files ps f.turned) front i.7 in
    let step : slice_get (places_left files (drop f.printed prints) f.turned) 0 ≡ Some (record { file = file; number = f.turned }) =
    ap (λ (ps : List ℕ). slice_get (places_left files ps f.turned) 0) front ∙ ap (λ (ps : List Place). slice_get ps 0) (places_step files file rest f.turned p.1) in
    subst (λ (u : Kept). Some (record { file = file; number = f.turned }) ≡ slice_get (places_left u.files u.prints u.turned) 0) v (sym step)
