use Rattle.std.proofs.Common.{◌≡◌, ◌+◌, ◌<◌, ℕ, List, drop, length, get_or, refl, sym, ◌∙◌, ap, subst, arith}
use Rattle.std.proofs.lemmas.Bool.{ltb-true, lt-ltb}
use Rattle.page_chain.specs.Changes.{IsReady}
use Rattle.page_chain.specs.Held.{Kept, pages_in, shown}
use Rattle.page_chain.proofs.Inside.{kept_of}
use Rattle.page_chain.proofs.Calls.{front_at, next_front, ready}
use Rattle.page_chain.proofs.chain.Chain.is_ready.Goals as goal

pub returns-in-Some : goal.returns-in-Some
returns-in-Some c =
    let f = c.self.inside in
    let n = c.args.nodes.now in
    let prints = f.prints.items in
    let file = c.in-Some.field-0.now in
    let rest = drop (f.printed + 1) prints in
    let t = kept_of f in
    let v : t ≡ c.args.self.now = c.self.view_is in
    let all = c.deref.ensures.value in
    let lt : f.printed < length prints = (let l = ap length all in let m = ltb-true f.printed (length c.deref.result.now) (sym c.in-Some.ensures.lookup.0) in omega (arith, l, m)) in
    let is : file ≡ get_or prints f.printed file = c.in-Some.ensures.lookup.1 ∙ ap (λ (xs : List ℕ). get_or xs f.printed file) all in
    let g = front_at t c.args.self.now prints f.printed file v refl c.self.invariant.7 lt is in (
      λ some.
          let m = ltb-true 0 c.len.result some in
          let e = simp c.key_of.ensures at c.len.ensures in
          subst (λ (u : Kept). IsReady (shown u n)) g.is (ready t n file rest g.can (pages_in n f.row file) refl (omega (arith, m, e))),
      λ h.
          let r = subst (λ (u : Kept). IsReady (shown u n)) (sym g.is) h in
          let m = next_front t n file rest g.can r.here in
          let e = simp c.key_of.ensures at c.len.ensures in
          lt-ltb 0 c.len.result (omega (arith, m, e)),
    )
