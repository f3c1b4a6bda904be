use Rattle.std.proofs.Common.{subst, sym}
use Rattle.segment_text.specs.Configs.{AreQueues}
use Rattle.segment_text.proofs.Ranged.{in_ranges, numbers_in, queues_in}
use Rattle.segment_text.proofs.config.whole.Goals as goal

pub returns-then-not-are_numbers : goal.returns-then-not-are_numbers
returns-then-not-are_numbers c = λ h. (
    let t = c.are_numbers.ensures.1 (numbers_in (record { pages = c.args.pages; page_size = c.args.page_size; max_jobs = c.args.max_jobs; account = c.args.account; queues = c.args.queues.items }) h) in
    let f = c.if-not-are_numbers.true in
    cc)

pub returns-then-not-are_queues : goal.returns-then-not-are_queues
returns-then-not-are_queues c = λ h. (
    let q = queues_in (record { pages = c.args.pages; page_size = c.args.page_size; max_jobs = c.args.max_jobs; account = c.args.account; queues = c.args.queues.items }) h in
    let t = c.are_queues.ensures.1 (subst (AreQueues c.args.pages) (sym c.as_slice.ensures.value) q) in
    let f = c.if-not-are_queues.true in
    cc)

pub new-requires : goal.new-requires
new-requires c =
    in_ranges (record { pages = c.args.pages; page_size = c.args.page_size; max_jobs = c.args.max_jobs; account = c.args.account; queues = c.args.queues.items })
    (c.are_numbers.ensures.0 c.if-not-are_numbers.false) (subst (AreQueues c.args.pages) c.as_slice.ensures.value (c.are_queues.ensures.0 c.if-not-are_queues.false))
