use Rattle.std.proofs.Common.{◌∙◌, ◌∷◌, [], ap, arith, refl, List, ℕ, Bool, filter}
use Rattle.std.specs.List.{flat_map}
use Rattle.lpd_values.specs.Choice.{is_picked}
use Rattle.held_jobs.specs.Jobs.{Facts}
use Rattle.held_jobs.specs.Told.{told_in}
use Rattle.told_jobs.proofs.Rows.{passed_more}
use Rattle.queues.proofs.Lists.{all_taken, numbers_in, stands_at}
use Rattle.held_jobs.specs.Turns.{facts_in}
use Rattle.queues.proofs.book.Book.chosen_by.Goals as goal

abbrev number_alone : Facts → List ℕ
number_alone j = j.number ∷ []

pub loop-i-preserved : goal.loop-i-preserved
loop-i-preserved c =
    let n = c.len-i-end.ensures in
    let lt = c.loop-i-test.true in
    let j = c.job-job.result.now in
    let b = c.args.self.now in
    let p : Facts → Bool = λ x. is_picked c.args.queue c.args.agent.now c.args.words.now (told_in x) in
    let more = passed_more number_alone p (facts_in b.jobs) c.loop-i.i j (stands_at b c.loop-i.i j (omega arith) c.job-job.ensures) in
    rw (c.in_ok-put_where_taken.ensures, c.number.ensures, c.is_picked-is_taken.ensures, c.loop-i.invariant, more) refl

pub returns : goal.returns
returns c =
    let b = c.args.self.now in
    let p : Facts → Bool = λ j. is_picked c.args.queue c.args.agent.now c.args.words.now (told_in j) in
    c.loop-i.invariant
    ∙ (ap (λ (l : List Facts). flat_map number_alone (filter p l)) (all_taken b c.loop-i.i c.len-i-end.result c.len-i-end.ensures c.loop-i-test.false)
    ∙ numbers_in (filter p (facts_in b.jobs)))
