use Rattle.std.proofs.Common.{◌≡◌, ◌≤◌, ◌-◌, ◌∙◌, length, arith}
use Rattle.job_store.proofs.Headed.{reads_more, rest_length, still_within}
use Rattle.job_store.proofs.heading.read_full.Goals as goal

pub loop-count-preserved : goal.loop-count-preserved
loop-count-preserved g c =
    let into = c.loop-count.into in
    let got = c.read.new.into in
    let long : length got ≡ length into - c.loop-count.count = c.read.auto.into ∙ rest_length into c.loop-count.count in
    let some : c.in_ok-more.more ≤ length got = omega (arith, c.in_ok-more.ensures.within, c.read.auto.into) in
    record {
      within = still_within into got c.loop-count.count c.in_ok-more.more c.loop-count.invariant.within long some;
      took = reads_more _ _ _ into got c.loop-count.count c.in_ok-more.more _ _ c.loop-count.invariant.within some
          c.loop-count.invariant.took c.in_ok-more.ensures.octets;
    }
