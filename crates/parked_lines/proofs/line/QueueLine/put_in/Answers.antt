use Rattle.parked_lines.proofs.LineLemmas.{becomes_put_in, rising_put_in}
use Rattle.parked_lines.proofs.line.QueueLine.put_in.Goals as goal

pub invariant_of-self-2 : goal.invariant_of-self-2
invariant_of-self-2 c =
    rising_put_in c.self.inside.jobs.items c.args.self.now c.insert.new.self.items c.seek-place.result c.args.job c.self.view_is c.self.invariant c.requires c.seek-place.ensures.within c.seek-place.ensures.before c.seek-place.ensures.from c.in_ok-insert.ensures.items

pub returns-clause-ok : goal.returns-clause-ok
returns-clause-ok c =
    becomes_put_in c.self.inside.jobs.items c.args.self.now c.insert.new.self.items c.seek-place.result c.args.job c.self.view_is c.seek-place.ensures.within c.seek-place.ensures.before c.in_ok-insert.ensures.items

pub returns-clause-rising : goal.returns-clause-rising
returns-clause-rising c =
    rising_put_in c.self.inside.jobs.items c.args.self.now c.insert.new.self.items c.seek-place.result c.args.job c.self.view_is c.self.invariant c.requires c.seek-place.ensures.within c.seek-place.ensures.before c.seek-place.ensures.from c.in_ok-insert.ensures.items
