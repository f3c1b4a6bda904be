use Rattle.std.proofs.Common.{arith}
use Rattle.job_store.proofs.Headed.{headed, read_of_head, too_few}
use Rattle.job_store.proofs.heading.read_sender.Goals as goal

pub returns-then-count-lt-HEAD_LENGTH : goal.returns-then-count-lt-HEAD_LENGTH
returns-then-count-lt-HEAD_LENGTH g c =
    let out = c.in_ok-count.ensures.out (omega (arith, c.if-count-lt-HEAD_LENGTH.true, c.read_full.auto.into)) in
    too_few _ _ c.read_full.new.into c.in_ok-count.count c.if-count-lt-HEAD_LENGTH.true c.in_ok-count.ensures.took
    c.in_ok-count.ensures.within out

pub returns : goal.returns
returns g c =
    let buffer = c.read_full.new.into in
    let took = read_of_head _ _ buffer c.in_ok-count.count c.if-count-lt-HEAD_LENGTH.false c.read_full.auto.into c.in_ok-count.ensures.took in
    headed _ _ buffer c.read_head.result c.read_full.auto.into took c.read_head.ensures.read c.read_head.ensures.refused
    c.read_head.ensures.other
