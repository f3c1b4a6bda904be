use Rattle.std.proofs.Common.{◌≡◌, ℕ, ◌+◌, ◌-◌, true≢false, List, Option, IsSome, length, refl, sym, ◌∙◌, ap, subst, arith}
use Rattle.indexmap.specs.IndexMap.{set_value_at}
use Rattle.slab.specs.Slab.{Slab}
use Rattle.lpd_values.specs.Contents.{Contents}
use Rattle.page_nodes.specs.Chains.{AreOfSize, Chains, total}
use Rattle.page_chain.specs.Files.{every_page}
use Rattle.page_chain.specs.Changes.{placed, unnamed_pages}
use Rattle.page_chain.specs.Held.{Kept, Leads, shown}
use Rattle.page_chain.proofs.Counting.{named_of_size, returns_of_these}
use Rattle.held_jobs.specs.Jobs.{Facts, HeldJob}
use Rattle.held_jobs.specs.Moves.{received_facts, received_job, unnamed_of}
use Rattle.lpd_values.specs.Told.{prints_in}
use Rattle.held_jobs.specs.Books.{Books, IsIdle, job_at, prints_of}
use Rattle.queues.specs.declared.entry.Entry.{Entry}
use Rattle.queues.specs.Inside.{seen}
use Rattle.queues.proofs.Entries.{Here, Led, here_at, leads_led}
use Rattle.queues.proofs.book.Book.receive.Goals as goal

module _ {nodes : Chains} {rows : Slab ℕ} {es : List (ℕ × Entry)} {most places size : ℕ} {b : Books} {i : ℕ} {e : Entry} (k : Here nodes rows es most places size b i e) (names : List (List ℕ)) (is : names ≡ prints_of (seen nodes e)) where
  -- how many pages go back
  gone : length (unnamed_pages (shown e.chain nodes).files names) ≡ unnamed_of (job_at b i)
  gone = ap (λ (l : List (List ℕ)). length (unnamed_pages (shown e.chain nodes).files l)) is ∙ sym (ap (λ (j : HeldJob). unnamed_of j) k.shows)

  received : (new : Chains) (job : Facts) (chain : Kept) → Leads e.chain chain nodes new (placed names (shown e.chain nodes)) → job ≡ received_facts e.job
      → total new.chains + length (unnamed_pages (shown e.chain nodes).files names) ≡ total nodes.chains
      → Led new rows (set_value_at es i (record { job = job; chain = chain; row = e.row })) most places size b i (received_job (prints_of (job_at b i)) (job_at b i)) (b.stored - unnamed_of (job_at b i))
  received new job chain leads facts t =
      let ns = prints_of (seen nodes e) in
      let on = subst (λ (l : List (List ℕ)). Leads e.chain chain nodes new (placed l (shown e.chain nodes))) is leads in
      let s = ap (λ (u : Books). u.stored) k.view in
      let g = gone in
      leads_led k new job chain (λ (j : HeldJob). received_job (prints_of j) j) (b.stored - unnamed_of (job_at b i)) on facts refl refl (named_of_size size (shown e.chain nodes).files ns k.entry.sizes) (omega (arith, t, s, g))

pub drop_unnamed-requires-clause-idle : goal.drop_unnamed-requires-clause-idle
drop_unnamed-requires-clause-idle c =
    let k = here_at c.args.i c.index_mut-entry.result.now c.self.invariant c.self.view_is c.requires.here c.index_mut-entry.ensures.value in
    let q = subst (λ (j : HeldJob). IsIdle j.chain) k.shows c.requires.idle in
    record { closed = q.closed; placed = q.placed; fresh = q.fresh }

pub drop_unnamed-requires-clause-held : goal.drop_unnamed-requires-clause-held
drop_unnamed-requires-clause-held c = (here_at c.args.i c.index_mut-entry.result.now c.self.invariant c.self.view_is c.requires.here c.index_mut-entry.ensures.value).entry.held

pub drop_unnamed-requires-clause-sizes : goal.drop_unnamed-requires-clause-sizes
drop_unnamed-requires-clause-sizes c =
    let files = (shown c.index_mut-entry.result.now.chain c.self.inside.nodes).files in
    let k = here_at c.args.i c.index_mut-entry.result.now c.self.invariant c.self.view_is c.requires.here c.index_mut-entry.ensures.value in
    let size : c.args.pool.now.page_size ≡ c.self.inside.page_size = c.requires.size ∙ sym (ap (λ (u : Books). u.page_size) c.self.view_is) in
    (returns_of_these files c.as_slice-names.result.now).1 c.args.pool.now.page_size (subst (λ (n : ℕ). AreOfSize n (every_page files)) (sym size) k.entry.sizes)

pub drop_unnamed-requires-clause-room : goal.drop_unnamed-requires-clause-room
drop_unnamed-requires-clause-room c =
    let k = here_at c.args.i c.index_mut-entry.result.now c.self.invariant c.self.view_is c.requires.here c.index_mut-entry.ensures.value in
    let count = gone k c.as_slice-names.result.now (c.as_slice-names.ensures ∙ sym (ap prints_in c.in-Some.ensures)) in
    let room = c.requires.room in
    omega (arith, count, room)

pub unreachable-requires : goal.unreachable-requires
unreachable-requires c =
    let k = here_at c.args.i c.index_mut-entry.result.now c.self.invariant c.self.view_is c.requires.here c.index_mut-entry.ensures.value in
    let some = subst (λ (j : HeldJob). IsSome j.facts.control) k.shows c.requires.control in
    let none = c.in-None.ensures in
    subst (λ (o : Option Contents). IsSome o → ⊥) (sym none) (λ h. true≢false (sym h)) some

pub invariant_of-self : goal.invariant_of-self
invariant_of-self c =
    let k = here_at c.args.i c.index_mut-entry.result.now c.self.invariant c.self.view_is c.requires.here c.index_mut-entry.ensures.value in
    let names = c.as_slice-names.ensures ∙ sym (ap prints_in c.in-Some.ensures) in
    let e = c.drop_unnamed.ensures in
    (received k c.as_slice-names.result.now names c.drop_unnamed.new.nodes c.receive.new.self c.drop_unnamed.new.self e.chain c.receive.ensures e.total).book

pub returns-clause-book : goal.returns-clause-book
returns-clause-book c =
    let k = here_at c.args.i c.index_mut-entry.result.now c.self.invariant c.self.view_is c.requires.here c.index_mut-entry.ensures.value in
    let names = c.as_slice-names.ensures ∙ sym (ap prints_in c.in-Some.ensures) in
    let e = c.drop_unnamed.ensures in
    (received k c.as_slice-names.result.now names c.drop_unnamed.new.nodes c.receive.new.self c.drop_unnamed.new.self e.chain c.receive.ensures e.total).shows

pub returns-clause-counted : goal.returns-clause-counted
returns-clause-counted c =
    let k = here_at c.args.i c.index_mut-entry.result.now c.self.invariant c.self.view_is c.requires.here c.index_mut-entry.ensures.value in
    let count = gone k c.as_slice-names.result.now (c.as_slice-names.ensures ∙ sym (ap prints_in c.in-Some.ensures)) in
    let t = c.drop_unnamed.ensures.total in
    let s = ap (λ (u : Books). u.stored) c.self.view_is in
    omega (arith, count, t, s)

pub returns-clause-pool : goal.returns-clause-pool
returns-clause-pool c =
    let k = here_at c.args.i c.index_mut-entry.result.now c.self.invariant c.self.view_is c.requires.here c.index_mut-entry.ensures.value in
    let count = gone k c.as_slice-names.result.now (c.as_slice-names.ensures ∙ sym (ap prints_in c.in-Some.ensures)) in
    c.drop_unnamed.ensures.pool ∙ ap (λ (n : ℕ). record c.args.pool.now { free = c.args.pool.now.free + n }) count
