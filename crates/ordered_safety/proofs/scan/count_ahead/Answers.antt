use Rattle.std.proofs.Common.{[], ◌∷◌, refl, ◌∙◌, arith}
use Rattle.std.proofs.lemmas.Grind.{common_steps}
use Rattle.std.proofs.lemmas.Slice.{pushed}
use Rattle.ordered_safety.specs.Scan.{ahead_of, rows_at}
use Rattle.ordered_safety.proofs.Waiting.{counts_more, ahead_there}
use Rattle.ordered_safety.proofs.scan.count_ahead.Goals as goal

pub loop-at-preserved : goal.loop-at-preserved
loop-at-preserved c =
    let rows = c.args.rows.now in
    let left = c.args.left.now in
    let at = c.loop-at.at in
    let old = c.loop-at.invariant in
    let items = pushed (c.count_line.result ∷ []) refl c.unwrap.ensures c.push.ensures.items in
    record {
      len = grind (arith, common_steps);
      each = counts_more (ahead_of (rows_at rows left)) c.loop-at.ahead.items c.push.new.self.items c.count_line.result at items (omega arith) old.each
          (c.count_line.ensures ∙ ahead_there rows left at c.loop-at-test.true);
      room = let e = c.push.ensures.capacity in let r = old.room in omega arith;
    }
