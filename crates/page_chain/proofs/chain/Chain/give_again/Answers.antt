use Rattle.std.proofs.Common.{[], ◌∷◌, ◌++◌, sym, subst, arith}
use Rattle.std.proofs.lemmas.List.{length_push}
use Rattle.page_chain.specs.Changes.{IsOnlyGap, last_place, given_again}
use Rattle.page_chain.specs.Held.{Kept, Leads, IsHeld, IsOfFile, pages_in, shown}
use Rattle.page_chain.proofs.Inside.{kept_of}
use Rattle.page_chain.proofs.Rows.{total_with}
use Rattle.page_chain.proofs.Calls.{gives, file_there}
use Rattle.page_chain.proofs.chain.Chain.give_again.Goals as goal

pub returns-clause-chain : goal.returns-clause-chain
returns-clause-chain c =
    let t = kept_of c.self.inside in
    let n = c.args.nodes.now in
    let place = c.in-Some.place in
    let number = subst (IsOfFile t.files) c.in-Some.is c.self.invariant.8 in
    let held = subst (λ (u : Kept). IsHeld u n) (sym c.self.view_is) c.requires.held in
    let gap = subst (λ (u : Kept). IsOnlyGap (shown u n) (last_place (shown u n))) (sym c.self.view_is) c.requires.awaited.gap in
    subst (λ (u : Kept). Leads u u n c.push.new.self (given_again c.args.page (shown u n))) c.self.view_is
    (gives t n c.push.new.self place c.args.page held c.self.invariant.7 number (file_there t.files place number) c.in-Some.is gap (simp c.key_of.ensures at c.push.ensures))

pub returns-clause-total : goal.returns-clause-total
returns-clause-total c =
    let t = kept_of c.self.inside in
    let n = c.args.nodes.now in
    let place = c.in-Some.place in
    let there = file_there t.files place (subst (IsOfFile t.files) c.in-Some.is c.self.invariant.8) in
    let held = subst (λ (u : Kept). IsHeld u n) (sym c.self.view_is) c.requires.held in
    let few = held.few in
    let old = pages_in n t.row place.file in
    let a = total_with n c.push.new.self t.row place.file (old ++ c.args.page ∷ []) (simp c.key_of.ensures at c.push.ensures) held.row (omega (arith, there, few)) in
    let b = length_push old c.args.page in
    omega (arith, a, b)
