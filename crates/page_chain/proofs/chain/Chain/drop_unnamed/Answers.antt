use Rattle.std.proofs.Common.{◌≡◌, ℕ, ◌+◌, ◌<◌, false, None, List, length, sym, ◌∙◌, ap, subst, arith}
use Rattle.std.proofs.lemmas.Bool.{both_ways}
use Rattle.std.proofs.lemmas.Grind.{common_steps}
use Rattle.std.proofs.lemmas.List.{with_items_is}
use Rattle.page_chain.specs.declared.run.Run.{Run}
use Rattle.page_chain.specs.Changes.{is_among, placed}
use Rattle.page_chain.specs.Drained.{left_in, runs_kept}
use Rattle.page_chain.specs.Held.{Kept, Leads, CanPrint, pages_in, shown}
use Rattle.page_chain.proofs.Inside.{kept_of}
use Rattle.page_chain.proofs.Forgetting.{length-runs_kept}
use Rattle.page_chain.proofs.Dropping.{seen_count, seen_leads, seen_prints, seen_sized}
use Rattle.page_chain.proofs.chain.Chain.drop_unnamed.Goals as goal

pub drain_files-requires-clause-sizes : goal.drain_files-requires-clause-sizes
drain_files-requires-clause-sizes c = λ j lt none.
    let count : c.len.result ≡ length c.self.inside.files.items = grind (arith, common_steps) in
    seen_sized (kept_of c.self.inside) c.args.self.now c.args.nodes.now c.args.names.now c.list_prints.new.prints.items c.self.view_is c.self.invariant.7 c.requires.idle c.requires.held
    c.as_slice.result.now c.as_slice.ensures.value c.list_prints.ensures.listed
    c.args.pool.now.page_size j c.requires.sizes (omega (arith, lt, count)) (ap (λ (ps : List ℕ). is_among ps j) (sym c.as_slice-kept.ensures.value) ∙ none)

pub drain_files-requires-clause-room : goal.drain_files-requires-clause-room
drain_files-requires-clause-room c =
    let all = seen_count (kept_of c.self.inside) c.args.self.now c.args.nodes.now c.args.names.now c.list_prints.new.prints.items c.self.view_is c.self.invariant.7 c.requires.idle c.requires.held
    c.as_slice.result.now c.as_slice.ensures.value c.list_prints.ensures.listed c.as_slice-kept.result.now c.len.result c.as_slice-kept.ensures.value (grind (arith, common_steps)) in
    let room = c.requires.room in
    omega (arith, room, all)

pub invariant_of-self : goal.invariant_of-self
invariant_of-self c =
    let f = c.self.inside in
    let prints = c.list_prints.new.prints.items in
    let forgot = c.forget.ensures ∙ (ap (λ (ps : List ℕ). runs_kept 0 ps c.as_mut_slice.result.now) c.as_slice-kept.ensures.value ∙ ap (runs_kept 0 prints) c.as_mut_slice.ensures.value) in
    let size : length f.files.items ≡ f.files.len = grind (arith, common_steps) in
    let after = with_items_is f.files c.forget.new.files (ap length forgot ∙ (length-runs_kept 0 prints f.files.items ∙ size)) ∙ forgot in
    let old = c.self.invariant in
    let closed = subst (λ (u : Kept). u.is_open ≡ false) (sym c.self.view_is) c.requires.idle.closed in (
      old.0,
      old.1,
      old.2,
      old.3,
      (let room = old.4 in let more = c.list_prints.ensures.capacity in omega (arith, room, more)),
      omega arith,
      λ is_open. absurd (both_ways f.is_open closed is_open),
      subst (λ (fs : List Run). CanPrint fs prints 0) (sym after)
          (seen_prints (kept_of c.self.inside) c.args.self.now c.args.nodes.now c.args.names.now c.list_prints.new.prints.items c.self.view_is c.self.invariant.7 c.requires.idle c.requires.held
          c.as_slice.result.now c.as_slice.ensures.value c.list_prints.ensures.listed),
      tt,
      tt,
    )

pub returns-clause-chain : goal.returns-clause-chain
returns-clause-chain c =
    let f = c.self.inside in
    let names = c.args.names.now in
    let prints = c.list_prints.new.prints.items in
    let kept : c.as_slice-kept.result.now ≡ prints = c.as_slice-kept.ensures.value in
    let forgot = c.forget.ensures ∙ (ap (λ (ps : List ℕ). runs_kept 0 ps c.as_mut_slice.result.now) kept ∙ ap (runs_kept 0 prints) c.as_mut_slice.ensures.value) in
    let size : length f.files.items ≡ f.files.len = grind (arith, common_steps) in
    let after = with_items_is f.files c.forget.new.files (ap length forgot ∙ (length-runs_kept 0 prints f.files.items ∙ size)) ∙ forgot in
    let n = c.args.nodes.now in
    let new = c.drain_files.new.nodes in
    let count : c.len.result ≡ length f.files.items = grind (arith, common_steps) in
    let left : (j : ℕ) → j < 52 → pages_in new f.row j ≡ left_in n f.row prints (length f.files.items) j =
    λ j lt. c.drain_files.ensures.kept j lt ∙ (ap (λ (ps : List ℕ). left_in n f.row ps c.len.result j) kept ∙ ap (λ (m : ℕ). left_in n f.row prints m j) count) in
    subst (λ (fs : List Run). Leads c.args.self.now (record (kept_of f) { files = fs; prints = prints; turned = 0; last = None }) n new (placed names (shown c.args.self.now n))) (sym after)
    (seen_leads (kept_of c.self.inside) c.args.self.now c.args.nodes.now c.args.names.now c.list_prints.new.prints.items c.self.view_is c.self.invariant.7 c.requires.idle c.requires.held
    c.as_slice.result.now c.as_slice.ensures.value c.list_prints.ensures.listed new left c.drain_files.ensures.only)

pub returns-clause-pool : goal.returns-clause-pool
returns-clause-pool c =
    let all = seen_count (kept_of c.self.inside) c.args.self.now c.args.nodes.now c.args.names.now c.list_prints.new.prints.items c.self.view_is c.self.invariant.7 c.requires.idle c.requires.held
    c.as_slice.result.now c.as_slice.ensures.value c.list_prints.ensures.listed c.as_slice-kept.result.now c.len.result c.as_slice-kept.ensures.value (grind (arith, common_steps)) in
    c.drain_files.ensures.pool ∙ ap (λ (m : ℕ). record c.args.pool.now { free = c.args.pool.now.free + m }) all

pub returns-clause-total : goal.returns-clause-total
returns-clause-total c =
    let all = seen_count (kept_of c.self.inside) c.args.self.now c.args.nodes.now c.args.names.now c.list_prints.new.prints.items c.self.view_is c.self.invariant.7 c.requires.idle c.requires.held
    c.as_slice.result.now c.as_slice.ensures.value c.list_prints.ensures.listed c.as_slice-kept.result.now c.len.result c.as_slice-kept.ensures.value (grind (arith, common_steps)) in
    let gone = c.drain_files.ensures.total in
    omega (arith, all, gone)
