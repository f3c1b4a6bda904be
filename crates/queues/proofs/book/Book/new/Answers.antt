use Rattle.std.proofs.Common.{ℕ, ◌*◌, [], List, replicate, ◌∙◌, ap}
use Rattle.page_nodes.specs.Chains.{Chains}
use Rattle.page_chain.proofs.Counting.{new_total}
use Rattle.queues.specs.declared.entry.Entry.{Entry}
use Rattle.queues.specs.Inside.{book_of}
use Rattle.queues.proofs.book.Book.new.Goals as goal

pub returns : goal.returns
returns c =
    let p = c.args.pages in
    let u : Chains = record { chains = replicate (52 * c.capacity-count.result) []; room = p } in
    ap (λ (es : List (ℕ × Entry)). book_of c.in_ok-new.field-0 es c.args.max_jobs p c.args.page_size) c.in_ok-with_capacity.ensures.empty
    ∙ (ap (λ (n : Chains). book_of n [] c.args.max_jobs p c.args.page_size) c.in_ok-new.ensures
    ∙ ap (λ (t : ℕ). record (book_of u [] c.args.max_jobs p c.args.page_size) { stored = t }) (new_total (52 * c.capacity-count.result)))
