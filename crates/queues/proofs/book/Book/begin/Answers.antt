use Rattle.std.proofs.Common.{◌≡◌, ℕ, ◌<◌, List, length, refl, ◌∙◌, ap, subst}
use Rattle.page_chain.specs.Files.{names_of}
use Rattle.page_chain.specs.Changes.{CanBegin, RefusedFor, begun}
use Rattle.page_chain.specs.Held.{names_in, shown}
use Rattle.page_chain.proofs.Counting.{file_of_size}
use Rattle.held_jobs.specs.Jobs.{HeldJob}
use Rattle.held_jobs.specs.Moves.{begun_job}
use Rattle.held_jobs.specs.Books.{IsIdle, job_at}
use Rattle.queues.proofs.Entries.{here_at, turned_led}
use Rattle.queues.proofs.Sizes.{names_seen, never_refused}
use Rattle.queues.proofs.book.Book.begin.Goals as goal

pub begin_file-requires : goal.begin_file-requires
begin_file-requires c =
    let k = here_at c.args.i c.index_mut-entry.result.now c.self.invariant c.self.view_is c.requires.here c.index_mut-entry.ensures.value in
    let q = subst (λ (j : HeldJob). IsIdle j.chain) k.shows c.requires.idle in
    record { closed = q.closed; placed = q.placed; fresh = q.fresh }

pub begin-requires : goal.begin-requires
begin-requires c =
    let k = here_at c.args.i c.index_mut-entry.result.now c.self.invariant c.self.view_is c.requires.here c.index_mut-entry.ensures.value in
    subst (λ (j : HeldJob). length j.facts.files < 52) k.shows c.requires.files

pub unreachable-requires : goal.unreachable-requires
unreachable-requires c =
    let f = c.self.inside in
    let e = c.index_mut-entry.result.now in
    let k = here_at c.args.i c.index_mut-entry.result.now c.self.invariant c.self.view_is c.requires.here c.index_mut-entry.ensures.value in
    let name = c.args.name in
    let names : names_of (job_at c.args.self.now c.args.i).chain.files ≡ names_in e.chain.files =
    ap (λ (j : HeldJob). names_of j.chain.files) k.shows ∙ names_seen e.chain f.nodes in
    let can = subst (λ (ns : List (List ℕ)). CanBegin ns 52 name) names c.requires.free in
    never_refused (names_in e.chain.files) 52 name c.in-Err.field-0 can
    (subst (λ (n : ℕ). RefusedFor (names_in e.chain.files) n name c.in-Err.field-0) k.entry.room c.in-Err.ensures.cause)

pub invariant_of-self : goal.invariant_of-self
invariant_of-self c =
    let k = here_at c.args.i c.index_mut-entry.result.now c.self.invariant c.self.view_is c.requires.here c.index_mut-entry.ensures.value in
    let sizes = file_of_size c.self.inside.page_size (shown c.index_mut-entry.result.now.chain c.self.inside.nodes).files c.args.name k.entry.sizes in
    (turned_led k c.begin.new.self c.begin_file.new.self (begun c.args.name) (begun_job c.args.name c.args.count) c.in-Ok.ensures.begun refl c.begin.ensures refl refl sizes).book

pub returns : goal.returns
returns c =
    let k = here_at c.args.i c.index_mut-entry.result.now c.self.invariant c.self.view_is c.requires.here c.index_mut-entry.ensures.value in
    let sizes = file_of_size c.self.inside.page_size (shown c.index_mut-entry.result.now.chain c.self.inside.nodes).files c.args.name k.entry.sizes in
    (turned_led k c.begin.new.self c.begin_file.new.self (begun c.args.name) (begun_job c.args.name c.args.count) c.in-Ok.ensures.begun refl c.begin.ensures refl refl sizes).shows
