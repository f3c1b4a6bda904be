use Rattle.std.proofs.Common.{◌≡◌, ◌<◌, Option, Some, List, ◌∷◌, drop, sym, ◌∙◌, ap, subst, arith}
use Rattle.std.specs.Prelude.{IsSome}
use Rattle.page_pool.specs.Page.{Page}
use Rattle.page_nodes.specs.Links.{page_at}
use Rattle.page_nodes.proofs.Linked.{first_node, first_page}
use Rattle.page_nodes.proofs.Strands.{reads, read_lies}
use Rattle.page_nodes.proofs.nodes.Nodes.first.Goals as goal

pub page_in-requires : goal.page_in-requires
page_in-requires c =
    let f = c.self.inside in
    let s = c.index.result.now in
    let r = reads f c.args.self.now c.args.key s c.self.view_is c.requires.here c.index.ensures in
    let i = c.self.invariant in
    let some : 0 < s.len = (let l = r.len in let q = c.requires.some in omega (arith, l, q)) in
    let there = (first_node f.links f.slots.items i.owner c.args.key s (read_lies f c.args.self.now c.args.key s i r) some).filled in
    subst (λ (slots : List (Option Page)). IsSome (page_at slots s.first)) (sym c.as_slice.ensures.value) there

pub returns : goal.returns
returns c =
    let f = c.self.inside in
    let s = c.index.result.now in
    let r = reads f c.args.self.now c.args.key s c.self.view_is c.requires.here c.index.ensures in
    let some : 0 < s.len = (let l = r.len in let q = c.requires.some in omega (arith, l, q)) in
    let page = c.page_in.result.now in
    let shown : page_at f.slots.items s.first ≡ Some page = subst (λ (slots : List (Option Page)). page_at slots s.first ≡ Some page) c.as_slice.ensures.value c.page_in.ensures in
    r.pages ∙ (first_page f.links f.slots.items s page some shown ∙ ap (λ (ps : List Page). page ∷ drop 1 ps) (sym r.pages))
