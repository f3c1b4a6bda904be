use Rattle.std.proofs.Common.{refl, ap, arith}
use Rattle.page_chain.specs.declared.run.Run.{Run}
use Rattle.page_chain.proofs.Inside.{kept_of}
use Rattle.page_chain.proofs.Taking.{next_pages, next_some, next_turned, taken_on, taken_over, taken_total, front_page}
use Rattle.page_chain.proofs.chain.Chain.take.Goals as goal

pub take-page-requires-clause-some : goal.take-page-requires-clause-some
take-page-requires-clause-some c =
    let f = c.self.inside in
    let file = c.index-file.result.now in
    rw c.key_of.ensures (next_some (kept_of f) c.args.self.now c.args.nodes.now f.prints.items f.printed file c.self.view_is refl c.self.invariant.7 c.requires.held c.requires.ready c.index-file.ensures)

pub overflow_add-self : goal.overflow_add-self
overflow_add-self c =
    let f = c.self.inside in
    let file = c.index-file.result.now in
    let pages = next_pages (kept_of f) c.args.self.now c.args.nodes.now f.prints.items f.printed file c.self.view_is refl c.self.invariant.7 c.requires.held c.requires.ready c.index-file.ensures c.as_slice.result.now c.index-as_slice-file.result c.as_slice.ensures.value in
    let turned = next_turned (kept_of f) c.args.self.now c.args.nodes.now f.prints.items f.printed file c.self.view_is refl c.self.invariant.7 c.requires.held c.requires.ready c.index-file.ensures in
    let fits = c.index-as_slice-file.element_fits in
    omega (arith, turned, pages, fits)

pub returns-then-self-pages-clause-page : goal.returns-then-self-pages-clause-page
returns-then-self-pages-clause-page c =
    let f = c.self.inside in
    let file = c.index-file.result.now in
    front_page (kept_of f) c.args.self.now c.args.nodes.now f.prints.items f.printed file c.self.view_is refl c.self.invariant.7 c.requires.held c.requires.ready c.index-file.ensures c.take-page.result (simp c.key_of.ensures at c.take-page.ensures.page)

pub returns-then-self-pages-clause-chain : goal.returns-then-self-pages-clause-chain
returns-then-self-pages-clause-chain c =
    let f = c.self.inside in
    let file = c.index-file.result.now in
    let pages = next_pages (kept_of f) c.args.self.now c.args.nodes.now f.prints.items f.printed file c.self.view_is refl c.self.invariant.7 c.requires.held c.requires.ready c.index-file.ensures c.as_slice.result.now c.index-as_slice-file.result c.as_slice.ensures.value in
    let told = ap (λ (r : Run). r.pages) c.index-as_slice-file.is in
    let last = c.if-self-pages.true in
    taken_over (kept_of f) c.args.self.now c.args.nodes.now f.prints.items f.printed file c.self.view_is refl c.self.invariant.7 c.requires.held c.requires.ready c.index-file.ensures c.take-page.new.self c.take-page.result (simp c.key_of.ensures at c.take-page.ensures.page) (simp c.key_of.ensures at c.take-page.ensures.nodes) (λ o. (c.self.invariant.6 o).1) (omega (arith, last, pages, told))

pub returns-then-self-pages-clause-total : goal.returns-then-self-pages-clause-total
returns-then-self-pages-clause-total c =
    let f = c.self.inside in
    let file = c.index-file.result.now in
    taken_total (kept_of f) c.args.self.now c.args.nodes.now f.prints.items f.printed file c.self.view_is refl c.self.invariant.7 c.requires.held c.requires.ready c.index-file.ensures c.take-page.new.self c.take-page.result (simp c.key_of.ensures at c.take-page.ensures.page) (simp c.key_of.ensures at c.take-page.ensures.nodes)

pub returns-else-self-pages-clause-page : goal.returns-else-self-pages-clause-page
returns-else-self-pages-clause-page c =
    let f = c.self.inside in
    let file = c.index-file.result.now in
    front_page (kept_of f) c.args.self.now c.args.nodes.now f.prints.items f.printed file c.self.view_is refl c.self.invariant.7 c.requires.held c.requires.ready c.index-file.ensures c.take-page.result (simp c.key_of.ensures at c.take-page.ensures.page)

pub returns-else-self-pages-clause-chain : goal.returns-else-self-pages-clause-chain
returns-else-self-pages-clause-chain c =
    let f = c.self.inside in
    let file = c.index-file.result.now in
    let pages = next_pages (kept_of f) c.args.self.now c.args.nodes.now f.prints.items f.printed file c.self.view_is refl c.self.invariant.7 c.requires.held c.requires.ready c.index-file.ensures c.as_slice.result.now c.index-as_slice-file.result c.as_slice.ensures.value in
    let turned = next_turned (kept_of f) c.args.self.now c.args.nodes.now f.prints.items f.printed file c.self.view_is refl c.self.invariant.7 c.requires.held c.requires.ready c.index-file.ensures in
    let told = ap (λ (r : Run). r.pages) c.index-as_slice-file.is in
    taken_on (kept_of f) c.args.self.now c.args.nodes.now f.prints.items f.printed file c.self.view_is refl c.self.invariant.7 c.requires.held c.requires.ready c.index-file.ensures c.take-page.new.self c.take-page.result (simp c.key_of.ensures at c.take-page.ensures.page) (simp c.key_of.ensures at c.take-page.ensures.nodes) (λ o. (c.self.invariant.6 o).1) (omega (arith, c.if-self-pages.false, pages, told, turned))

pub returns-else-self-pages-clause-total : goal.returns-else-self-pages-clause-total
returns-else-self-pages-clause-total c =
    let f = c.self.inside in
    let file = c.index-file.result.now in
    taken_total (kept_of f) c.args.self.now c.args.nodes.now f.prints.items f.printed file c.self.view_is refl c.self.invariant.7 c.requires.held c.requires.ready c.index-file.ensures c.take-page.new.self c.take-page.result (simp c.key_of.ensures at c.take-page.ensures.page) (simp c.key_of.ensures at c.take-page.ensures.nodes)
