use Rattle.std.proofs.Common.{refl}
use Rattle.page_chain.proofs.Inside.{kept_of}
use Rattle.page_chain.proofs.Taking.{next_some, front_page}
use Rattle.page_chain.proofs.chain.Chain.page.Goals as goal

pub first-requires-clause-some : goal.first-requires-clause-some
first-requires-clause-some c =
    let f = c.self.inside in
    rw c.key_of.ensures (next_some (kept_of f) c.args.self.now c.args.nodes.now f.prints.items f.printed c.index.result.now c.self.view_is refl c.self.invariant.7 c.requires.held c.requires.ready c.index.ensures)

pub returns : goal.returns
returns c =
    let f = c.self.inside in
    front_page (kept_of f) c.args.self.now c.args.nodes.now f.prints.items f.printed c.index.result.now c.self.view_is refl c.self.invariant.7 c.requires.held c.requires.ready c.index.ensures
    c.first.result.now (simp c.key_of.ensures at c.first.ensures)
