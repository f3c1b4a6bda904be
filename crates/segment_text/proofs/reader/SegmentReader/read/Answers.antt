use Rattle.std.proofs.Common.{inr, refl, ap}
use Rattle.segment_text.specs.Items.{item_seen}
use Rattle.segment_text.specs.Seen.{last_seen}
use Rattle.segment_text.proofs.InTurn.{wrong_end}
use Rattle.segment_text.proofs.reader.SegmentReader.read.Goals as goal

pub returns-then-not-branch-clause-read : goal.returns-then-not-branch-clause-read
returns-then-not-branch-clause-read c = λ is read.
    let got = c.in_ok-got.ensures in
    inr (
      refl,
      wrong_end c.args.line.now c.args.self.now.stage (item_seen c.in_ok-got.got) (last_seen c.in-Last.last) (ap item_seen c.in-Last.is) got.1 got.2 is read.2 (λ ends. (
          let t = (c.in_ok-ends.ensures is read).1 ends in
          let f = c.if-not-branch.true in
          cc)),
    )
