use Rattle.lpd_values.specs.Choice.{is_active}
use Rattle.held_jobs.specs.Told.{told_in}
use Rattle.held_jobs.specs.Turns.{facts_in}
use Rattle.queues.proofs.Lists.{first_known}
use Rattle.queues.proofs.book.Book.active.Goals as goal

pub returns : goal.returns
returns c = first_known (λ j. is_active c.args.queue (told_in j)) (facts_in c.args.self.now.jobs) c.active.result c.active.ensures
