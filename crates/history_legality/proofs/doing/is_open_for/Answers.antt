use Rattle.std.proofs.Common.{arith}
use Rattle.spool_history.specs.Legal.{IsNextPage}
use Rattle.history_legality.proofs.DoingLaws.{open_if}
use Rattle.history_legality.proofs.doing.is_open_for.Goals as goal

pub returns : goal.returns
returns c =
    open_if c.args.files.now c.in-Some.before.now c.in-Some.last.now c.args.place (IsNextPage c.args.config.now.page_size c.args.number c.args.page.now.length) c.is_next_page.result
    (cc (c.in-Some.ensures.cases.0)) (omega arith) (cc) c.is_next_page.ensures
