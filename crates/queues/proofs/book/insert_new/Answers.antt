use Rattle.std.proofs.Common.{nat_eq, ◌∙◌}
use Rattle.indexmap.proofs.CallerLemmas.{insert_entry-new}
use Rattle.queues.proofs.book.insert_new.Goals as goal

pub returns : goal.returns
returns c =
    c.in-Ok-None.ensures.entries ∙ insert_entry-new nat_eq c.args.jobs.now c.args.number c.args.entry c.requires.other
