use Rattle.std.proofs.Common.{◌-◌, List, [], get_or, sym, ◌∙◌, ap, subst, arith}
use Rattle.std.proofs.lemmas.Bool.{eqb-true, eq-eqb}
use Rattle.std.proofs.lemmas.List.{get_or_default}
use Rattle.page_pool.specs.Page.{Page}
use Rattle.page_chain.specs.declared.run.Run.{Run}
use Rattle.page_chain.specs.Changes.{AwaitsLast}
use Rattle.page_chain.specs.Held.{Kept, IsHeld, IsOfFile, HasTurned, no_run, shown}
use Rattle.page_chain.proofs.Inside.{kept_of}
use Rattle.page_chain.proofs.Calls.{awaits, awaits_counts, file_there}
use Rattle.page_chain.proofs.chain.Chain.awaits_last.Goals as goal

pub returns-in-Some : goal.returns-in-Some
returns-in-Some c =
    let t = kept_of c.self.inside in
    let n = c.args.nodes.now in
    let place = c.in-Some.place in
    let number = subst (IsOfFile t.files) c.in-Some.is c.self.invariant.8 in
    let turned = subst (HasTurned t.files t.prints t.turned) c.in-Some.is c.self.invariant.9 in
    let there = file_there t.files place number in
    let blank : Page = record { octets = []; page_size = 0 } in
    let held = subst (λ (u : Kept). IsHeld u n) (sym c.self.view_is) c.requires in
    let pages = ap (λ (fs : List Run). (get_or fs place.file c.index-as_slice-place.result).pages) c.as_slice.ensures.value
    ∙ ap (λ (r : Run). r.pages) (get_or_default t.files place.file c.index-as_slice-place.result no_run there) in
    let told = (get_or c.as_slice.result.now place.file c.index-as_slice-place.result).pages in
    let len = simp c.key_of.ensures at c.len.ensures in (
      λ same.
          let e = eqb-true c.len.result (told - 1) same in
          subst (λ (u : Kept). AwaitsLast (shown u n)) c.self.view_is (awaits t n place c.self.invariant.7 number c.in-Some.is held turned (omega (arith, e, pages, len, number))),
      λ a.
          let e = awaits_counts t n place c.self.invariant.7 number c.in-Some.is blank (subst (λ (u : Kept). AwaitsLast (shown u n)) (sym c.self.view_is) a) in
          eq-eqb c.len.result (told - 1) (omega (arith, e, pages, len)),
    )
