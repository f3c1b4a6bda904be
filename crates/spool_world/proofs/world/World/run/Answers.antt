use Rattle.std.proofs.Common.{◌∙◌, arith}
use Rattle.spool_world.proofs.Telling.{headline_of, runs_on}
use Rattle.spool_world.proofs.world.World.run.Goals as goal

pub returns-in_err-replies-clause-headline : goal.returns-in_err-replies-clause-headline
returns-in_err-replies-clause-headline c t l = headline_of c.args.self.now t l

pub loop-step-preserved : goal.loop-step-preserved
loop-step-preserved c =
    let i = c.loop-step.invariant in
    record {
      config = c.step.ensures.config ∙ i.config;
      count = (let a = c.push_reserved.ensures.len in let b = i.count in omega (arith, a, b));
      room = c.push_reserved.ensures.capacity ∙ i.room;
      runs = runs_on c.args.self.now c.loop-step.self c.step.new.self c.args.steps.now c.loop-step.replies.items c.push_reserved.new.self.items c.loop-step.step-index c.step-item.result c.step.result i.runs c.step.ensures.step c.loop-step-test.true c.step-item.is (let a = c.loop-step.replies.ok in let b = i.count in omega (arith, a, b)) c.push_reserved.ensures.items;
    }

pub returns-clause-headline : goal.returns-clause-headline
returns-clause-headline c t l = headline_of c.loop-step.self t l
