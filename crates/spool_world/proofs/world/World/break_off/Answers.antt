use Rattle.std.proofs.Common.{◌≡◌, ◌+◌, ◌<◌, length, arith, set, subst, sym}
use Rattle.spool_trace.specs.declared.reply.Reply.TheVariants as reply
use Rattle.spool_trace.specs.declared.step.Step.TheVariants as step
use Rattle.spool_world.specs.Worlds.{IsPlace, Worlds}
use Rattle.spool_world.specs.Inside.{world_view}
use Rattle.spool_world.proofs.Leading.{at_view}
use Rattle.spool_world.proofs.Sessions.{break_step, some_reader}
use Rattle.spool_world.proofs.world.World.break_off.Goals as goal

pub returns-clause-step : goal.returns-clause-step
returns-clause-step c =
    let old = world_view c.self.inside in
    let i = c.in-Some.i in
    let k = c.index_mut-connection.result.now in
    let place = subst (λ (w : Worlds). IsPlace w c.args.session × (c.in-Some.i + 1 ≡ c.args.session)) (sym c.self.view_is) c.in-Some.ensures in
    let lt : i < length old.connections = (let a = place.0.1 in let b = place.1 in omega (arith, a, b)) in
    let p = some_reader k.reader c.is_none.result c.is_none.ensures c.if-is_none.false in
    at_view old c.args.self.now (record old { core = c.end.new.core; connections = set old.connections i c.end.new.self }) (step.Break c.args.session) reply.Broken c.self.view_is
    (break_step old c.end.new.core i c.args.session k c.end.new.self lt place.1 c.index_mut-connection.ensures.value c.end.ensures.config c.end.ensures.over c.end.ensures.end p.0 p.1)
