use Rattle.std.proofs.Common.{◌≡◌, ◌-◌, suc, true, [], ◌∷◌, ◌++◌, length, set, sym, ◌∙◌, subst, arith}
use Rattle.std.proofs.lemmas.Grind.{common_steps}
use Rattle.std.proofs.lemmas.List.{length_push, get_or_default}
use Rattle.page_chain.specs.declared.run.Run.{Run}
use Rattle.page_chain.specs.Changes.{with_page}
use Rattle.page_chain.specs.Held.{Kept, Leads, IsHeld, no_run, run_at, pages_in, shown}
use Rattle.page_chain.proofs.Inside.{kept_of}
use Rattle.page_chain.proofs.Rows.{total_with}
use Rattle.page_chain.proofs.Calls.{pushes}
use Rattle.page_chain.proofs.chain.Chain.push.Goals as goal

pub returns-clause-chain : goal.returns-clause-chain
returns-clause-chain c =
    let n = c.args.nodes.now in
    let new = c.push.new.self in
    let t = kept_of c.self.inside in
    let v : t ≡ c.args.self.now = c.self.view_is in
    let held = subst (λ (u : Kept). IsHeld u n) (sym v) c.requires.held in
    let opened = subst (λ (u : Kept). u.is_open ≡ true) (sym v) c.requires.opened in
    let i = c.self.invariant.6 opened in
    let last = c.len-last.result - 1 in
    let len : c.len-last.result ≡ length t.files = grind (arith, common_steps) in
    let at : suc last ≡ length t.files = (let some = i.0 in omega (arith, some, len)) in
    let run : run_at t.files last ≡ c.index_mut.result.now = sym (c.index_mut.ensures.value ∙ get_or_default t.files last c.index_mut.result.now no_run (omega (arith, at))) in
    let made = pushes t n new last c.len.result c.args.page held opened i.1 at (simp c.key_of-key.ensures at c.push.ensures) (simp c.key_of-key.ensures at c.len.ensures) in
    let exact = subst (λ (r : Run). Leads t (record t { files = set t.files last (record r { pages = c.len.result }) }) n new (record (shown t n) { files = with_page (shown t n).files c.args.page })) run made in
    subst (λ (u : Kept). Leads u (record t { files = set t.files last (record c.index_mut.result.now { pages = c.len.result }) }) n new (record (shown u n) { files = with_page (shown u n).files c.args.page })) v exact

pub returns-clause-total : goal.returns-clause-total
returns-clause-total c =
    let t = kept_of c.self.inside in
    let n = c.args.nodes.now in
    let held = subst (λ (u : Kept). IsHeld u n) (sym c.self.view_is) c.requires.held in
    let some = (c.self.invariant.6 (subst (λ (u : Kept). u.is_open ≡ true) (sym c.self.view_is) c.requires.opened)).0 in
    let last = c.len-last.result - 1 in
    let len : c.len-last.result ≡ length t.files = grind (arith, common_steps) in
    let few = held.few in
    let old = pages_in n t.row last in
    let a = total_with n c.push.new.self t.row last (old ++ c.args.page ∷ []) (simp c.key_of-key.ensures at c.push.ensures) held.row (omega (arith, some, len, few)) in
    let b = length_push old c.args.page in
    omega (arith, a, b)
