use Rattle.std.proofs.Common.{◌≡◌, ◌≤◌, ℕ, Option, Some, None, false, List, drop, length, refl, sym, ◌∙◌, ap, subst, arith}
use Rattle.std.specs.Prelude.{is_some}
use Rattle.std.proofs.lemmas.Bool.{eqb-true, eq-eqb}
use Rattle.std.proofs.lemmas.Grind.{common_steps}
use Rattle.std.proofs.lemmas.List.{drop_all, length-drop}
use Rattle.page_chain.specs.declared.place.Place.{Place}
use Rattle.page_chain.specs.Held.{IsIdle, places_left}
use Rattle.page_chain.proofs.Inside.{kept_of}
use Rattle.page_chain.proofs.Places.{none_left, none_printed}
use Rattle.page_chain.proofs.chain.Chain.is_idle.Goals as goal

none_is : (o : Option Place) → is_some o ≡ false → o ≡ None
none_is None e = refl
none_is (Some x) e = absurd cc

pub returns : goal.returns
returns c =
    let f = c.self.inside in
    let files = f.files.items in
    let prints = f.prints.items in
    let t = kept_of f in
    let v : t ≡ c.args.self.now = c.self.view_is in
    let n : c.len.result ≡ length prints = grind (arith, common_steps) in (
      λ same.
          let e = eqb-true f.printed c.len.result same in
          let over = drop_all f.printed prints (omega (arith, e, n)) in
          subst IsIdle v (record {
            closed = c.if-self.false;
            placed = ap (λ (ps : List ℕ). places_left files ps f.turned) over ∙ none_printed files f.turned;
            fresh = none_is f.last (sym c.is_some.ensures ∙ c.if-is_some.false);
          }),
      λ h.
          let i = subst IsIdle (sym v) h in
          let over = ap length (none_left files (drop f.printed prints) f.turned c.self.invariant.7 i.placed) in
          let l = length-drop f.printed prints in
          let within : f.printed ≤ length prints = grind (arith, common_steps, c.self.invariant.5) in
          eq-eqb f.printed c.len.result (omega (arith, over, l, within, n)),
    )
