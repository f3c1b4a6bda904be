use Rattle.std.proofs.Common.{append_assoc, rules}
use Rattle.lpr_client.proofs.PartLemmas.{parts_more}
use Rattle.lpr_client.proofs.job.joined.Goals as goal

pub loop-part-preserved : goal.loop-part-preserved
loop-part-preserved c =
    let more = parts_more c.args.parts.now c.loop-part.part-index c.part-item.result _ c.loop-part-test.true c.part-item.is in
    search (rules, more, append_assoc)
