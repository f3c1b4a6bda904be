use Rattle.std.proofs.Common.{arith}
use Rattle.spool_history.specs.Legal.{HasPages}
use Rattle.history_legality.proofs.DoingLaws.{open_if}
use Rattle.history_legality.proofs.doing.is_open_at_end.Goals as goal

pub returns : goal.returns
returns c =
    open_if c.args.files.now c.in-Some.before.now c.in-Some.last.now c.args.place (HasPages c.args.config.now.page_size) c.has_pages.result
    (cc (c.in-Some.ensures.cases.0)) (omega arith) (cc) c.has_pages.ensures
