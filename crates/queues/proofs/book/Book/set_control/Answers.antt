use Rattle.std.proofs.Common.{refl}
use Rattle.control_file.specs.View.{contents}
use Rattle.held_jobs.specs.Moves.{controlled_facts}
use Rattle.queues.proofs.Entries.{here_at, told_led}
use Rattle.queues.proofs.book.Book.set_control.Goals as goal

pub invariant_of-self : goal.invariant_of-self
invariant_of-self c =
    let k = here_at c.args.i c.index_mut-entry.result.now c.self.invariant c.self.view_is c.requires.here c.index_mut-entry.ensures.value in
    (told_led k c.set_control.new.self (controlled_facts (contents c.args.control)) c.set_control.ensures refl).book

pub returns : goal.returns
returns c =
    let k = here_at c.args.i c.index_mut-entry.result.now c.self.invariant c.self.view_is c.requires.here c.index_mut-entry.ensures.value in
    (told_led k c.set_control.new.self (controlled_facts (contents c.args.control)) c.set_control.ensures refl).shows
