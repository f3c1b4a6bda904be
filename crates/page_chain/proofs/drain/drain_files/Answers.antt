use Rattle.std.proofs.Common.{◌≡◌, ℕ, suc, ◌+◌, ◌<◌, false, List, length, sym, ◌∙◌, ap, subst, arith}
use Rattle.std.proofs.lemmas.Bool.{cond-false}
use Rattle.page_pool.specs.Page.{Page, Pages}
use Rattle.page_nodes.specs.Chains.{Chains, AreOfSize}
use Rattle.page_chain.specs.Changes.{is_among}
use Rattle.page_chain.specs.Held.{pages_in}
use Rattle.page_chain.proofs.Rows.{row_stays}
use Rattle.page_chain.proofs.Draining.{Drains, drains_none, drains_kept, drains_gone, dropped_more, still_in}
use Rattle.page_chain.proofs.drain.drain_files.Goals.{then-not-contains, else-not-contains}
use Rattle.page_chain.proofs.drain.drain_files.Goals as goal

pub files-init : goal.files-init
files-init c = drains_none c.args.nodes.now c.args.row c.args.kept.now c.args.pool.now

pub drain_into-requires-clause-here : goal.drain_into-requires-clause-here
drain_into-requires-clause-here c =
    let h = row_stays c.args.nodes.now c.files.nodes c.args.row c.files.invariant.only c.args.row c.requires.here in
    let few = c.requires.few in
    let lt = c.files-test.true in
    omega (arith, h, few, lt)

pub drain_into-requires-clause-sizes : goal.drain_into-requires-clause-sizes
drain_into-requires-clause-sizes c =
    let n = c.args.nodes.now in
    let i = c.files.i-counter in
    let d = c.files.invariant in
    let few = c.requires.few in
    let lt = c.files-test.true in
    let among : is_among c.args.kept.now i ≡ false = sym c.contains.ensures.value ∙ c.if-not-contains.true in
    let still = still_in n c.args.row c.args.kept.now c.args.pool.now c.files.nodes c.files.pool i d (omega (arith, few, lt)) in
    let size = ap (λ (p : Pages). p.page_size) d.pool_is in
    rw c.key_of.ensures (subst (λ (ps : List Page). AreOfSize c.files.pool.page_size ps) (sym still)
    (subst (λ (s : ℕ). AreOfSize s (pages_in n c.args.row i)) (sym size) (c.requires.sizes i lt among)))

pub drain_into-requires-clause-room : goal.drain_into-requires-clause-room
drain_into-requires-clause-room c =
    let p = c.files.invariant.pool_is in
    let free = ap (λ (p : Pages). p.free) p in
    let pages = ap (λ (p : Pages). p.pages) p in
    let n = c.args.nodes.now in
    let i = c.files.i-counter in
    let few = c.requires.few in
    let lt = c.files-test.true in
    let among : is_among c.args.kept.now i ≡ false = sym c.contains.ensures.value ∙ c.if-not-contains.true in
    let still = ap length (still_in n c.args.row c.args.kept.now c.args.pool.now c.files.nodes c.files.pool i c.files.invariant (omega (arith, few, lt))) in
    let all = cond-false (is_among c.args.kept.now i) 0 (length (pages_in n c.args.row i)) among in
    let more = dropped_more n c.args.row c.args.kept.now (suc i) c.args.files (omega (arith, lt)) in
    let room = c.requires.room in
    rw c.key_of.ensures (omega (arith, free, pages, still, all, more, room))

pub files-preserved : goal.files-preserved
files-preserved c =
    let n = c.args.nodes.now in
    let row = c.args.row in
    let kept = c.args.kept.now in
    let pool = c.args.pool.now in
    let i = c.files.i-counter in
    let few = c.requires.few in
    let lt = c.files-test.true in
    let lt52 : i < 52 = omega (arith, few, lt) in
    let next : suc i ≡ i + 1 = omega arith in
    subst (λ (k : ℕ). Drains n row kept pool c.if-not-contains.nodes c.if-not-contains.pool k) next
    (elim c.if-not-contains.branch [
      | then-not-contains w ↦
          drains_gone n row kept pool c.files.nodes c.files.pool i c.if-not-contains.nodes c.if-not-contains.pool c.files.invariant lt52 c.requires.here
          (sym c.contains.ensures.value ∙ w.if-not-contains.true) (w.nodes-is ∙ simp w.key_of.ensures at w.drain_into.ensures.nodes) (w.pool-is ∙ simp w.key_of.ensures at w.drain_into.ensures.pool)
      | else-not-contains w ↦
          subst (λ (u : Chains). Drains n row kept pool u c.if-not-contains.pool (suc i)) (sym w.nodes-is)
          (subst (λ (u : Pages). Drains n row kept pool c.files.nodes u (suc i)) (sym w.pool-is)
          (drains_kept n row kept pool c.files.nodes c.files.pool i c.files.invariant (sym c.contains.ensures.value ∙ w.if-not-contains.false)))
    ])

pub returns-clause-kept : goal.returns-clause-kept
returns-clause-kept c =
    let t = c.files-test.false in
    let a = c.files.auto.i-counter-end in
    let all : c.files.i-counter ≡ c.args.files = omega (arith, t, a) in
    (subst (λ (k : ℕ). Drains c.args.nodes.now c.args.row c.args.kept.now c.args.pool.now c.files.nodes c.files.pool k) all c.files.invariant).left

pub returns-clause-only : goal.returns-clause-only
returns-clause-only c = c.files.invariant.only

pub returns-clause-pool : goal.returns-clause-pool
returns-clause-pool c =
    let t = c.files-test.false in
    let a = c.files.auto.i-counter-end in
    let all : c.files.i-counter ≡ c.args.files = omega (arith, t, a) in
    (subst (λ (k : ℕ). Drains c.args.nodes.now c.args.row c.args.kept.now c.args.pool.now c.files.nodes c.files.pool k) all c.files.invariant).pool_is

pub returns-clause-total : goal.returns-clause-total
returns-clause-total c =
    let t = c.files-test.false in
    let a = c.files.auto.i-counter-end in
    let all : c.files.i-counter ≡ c.args.files = omega (arith, t, a) in
    (subst (λ (k : ℕ). Drains c.args.nodes.now c.args.row c.args.kept.now c.args.pool.now c.files.nodes c.files.pool k) all c.files.invariant).counted
