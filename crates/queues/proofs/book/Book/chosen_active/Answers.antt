use Rattle.std.proofs.Common.{◌∷◌, [], sym, arith, refl, List, ℕ}
use Rattle.held_jobs.specs.Jobs.{Facts}
use Rattle.lpd_values.specs.Choice.{chosen}
use Rattle.held_jobs.specs.Told.{told_in}
use Rattle.held_jobs.specs.Turns.{facts_in}
use Rattle.told_jobs.proofs.Rows.{active_taken, none_active}
use Rattle.queues.proofs.Firsts.{facts_len}
use Rattle.queues.proofs.Lists.{numbers_in, stands_at}
use Rattle.queues.proofs.book.Book.chosen_active.Goals as goal

abbrev number_alone : Facts → List ℕ
number_alone j = j.number ∷ []

pub returns-in_default : goal.returns-in_default
returns-in_default c =
    rw (c.new-numbers.ensures.items, none_active told_in (facts_in c.args.self.now.jobs) c.args.queue c.args.agent.now c.in_default.ensures) refl

pub returns : goal.returns
returns c =
    let b = c.args.self.now in
    let j = c.job-job.result.now in
    let m = facts_len b.jobs in
    let here = c.in-Some.ensures.0 in
    let there = stands_at b c.in-Some.i j (omega (arith, m, here)) c.job-job.ensures in
    let taken = active_taken told_in (facts_in b.jobs) c.args.queue c.args.agent.now number_alone c.in-Some.i j c.in-Some.ensures there in
    rw (c.in_ok-put_where_taken.ensures, c.number.ensures, c.may_remove.ensures, c.new-numbers.ensures.items, sym (numbers_in (chosen told_in c.args.queue c.args.agent.now [] (facts_in b.jobs))), taken) refl
