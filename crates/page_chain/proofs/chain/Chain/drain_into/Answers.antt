use Rattle.std.proofs.Common.{◌≡◌, ℕ, ◌+◌, [], length, sym, ◌∙◌, ap, subst, arith}
use Rattle.std.proofs.lemmas.Grind.{common_steps}
use Rattle.page_nodes.specs.Chains.{AreOfSize, Chains}
use Rattle.page_chain.specs.declared.chain.Chain.TheInside.{Inside}
use Rattle.page_chain.specs.Files.{every_page}
use Rattle.page_chain.specs.Held.{Kept, IsHeld, shown}
use Rattle.page_chain.specs.Drained.{dropped_in}
use Rattle.page_chain.proofs.Inside.{kept_of}
use Rattle.page_chain.proofs.Dropping.{all_count, all_sized}
use Rattle.page_chain.proofs.chain.Chain.drain_into.Goals as goal

-- its pages are those that are dropped
count : (f : Inside) (now : Kept) (n : Chains) (all : ℕ) → kept_of f ≡ now → IsHeld now n → all ≡ length f.files.items → dropped_in n f.row [] all ≡ length (every_page (shown now n).files)
count f now n all v held is =
    ap (dropped_in n f.row []) is
    ∙ (all_count (kept_of f) n (subst (λ (u : Kept). IsHeld u n) (sym v) held) ∙ ap (λ (u : Kept). length (every_page (shown u n).files)) v)

pub drain_files-requires-clause-sizes : goal.drain_files-requires-clause-sizes
drain_files-requires-clause-sizes c = λ i lt none.
    let n = c.args.nodes.now in
    let t = kept_of c.self.inside in
    let v : t ≡ c.args.self.now = c.self.view_is in
    let held = subst (λ (u : Kept). IsHeld u n) (sym v) c.requires.held in
    let sizes = subst (λ (u : Kept). AreOfSize c.args.pool.now.page_size (every_page (shown u n).files)) (sym v) c.requires.sizes in
    let all : c.len.result ≡ length t.files = grind (arith, common_steps) in
    all_sized c.args.pool.now.page_size t n i held sizes (omega (arith, lt, all))

pub drain_files-requires-clause-room : goal.drain_files-requires-clause-room
drain_files-requires-clause-room c =
    let room = c.requires.room in
    let all = count c.self.inside c.args.self.now c.args.nodes.now c.len.result c.self.view_is c.requires.held (grind (arith, common_steps)) in
    omega (arith, room, all)

pub returns-clause-pool : goal.returns-clause-pool
returns-clause-pool c =
    let all = count c.self.inside c.args.self.now c.args.nodes.now c.len.result c.self.view_is c.requires.held (grind (arith, common_steps)) in
    c.drain_files.ensures.pool ∙ ap (λ (m : ℕ). record c.args.pool.now { free = c.args.pool.now.free + m }) all

pub returns-clause-total : goal.returns-clause-total
returns-clause-total c =
    let all = count c.self.inside c.args.self.now c.args.nodes.now c.len.result c.self.view_is c.requires.held (grind (arith, common_steps)) in
    let e = c.drain_files.ensures.total in
    omega (arith, e, all)
