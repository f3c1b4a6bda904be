use Rattle.std.proofs.Common.{◌≡◌, ℕ, List, MatchOption, sym, ◌∙◌, ap, subst}
use Rattle.page_chain.specs.Files.{names_of}
use Rattle.page_chain.specs.Changes.{CanBegin, RefusedFor}
use Rattle.page_chain.specs.Held.{names_in}
use Rattle.held_jobs.specs.Jobs.{HeldJob}
use Rattle.held_jobs.specs.Books.{job_at}
use Rattle.queues.proofs.Entries.{here_at}
use Rattle.queues.proofs.Sizes.{names_seen}
use Rattle.queues.proofs.book.Book.refusal.Goals as goal

pub returns : goal.returns
returns c =
    let k = here_at c.args.i c.index-entry.result.now c.self.invariant c.self.view_is c.requires c.index-entry.ensures in
    let e = c.index-entry.result.now in
    let r = c.refusal.result in
    let name = c.args.name.now in
    let names : names_in e.chain.files ≡ names_of (job_at c.args.self.now c.args.i).chain.files =
    sym (ap (λ (j : HeldJob). names_of j.chain.files) k.shows ∙ names_seen e.chain c.self.inside.nodes) in
    subst (λ (ns : List (List ℕ)). MatchOption r (CanBegin ns 52 name) (RefusedFor ns 52 name)) names
    (subst (λ (n : ℕ). MatchOption r (CanBegin (names_in e.chain.files) n name) (RefusedFor (names_in e.chain.files) n name)) k.entry.room c.refusal.ensures)
