use Rattle.std.proofs.Common.{◌≡◌, ◌+◌, ◌<◌, length, arith, refl, subst, sym}
use Rattle.spool_trace.specs.declared.reply.Reply.TheVariants as reply
use Rattle.spool_trace.specs.declared.step.Step.TheVariants as step
use Rattle.spool_world.specs.Worlds.{IsPlace, Worlds}
use Rattle.spool_world.specs.Inside.{world_view}
use Rattle.spool_world.proofs.Leading.{at_view, replied}
use Rattle.spool_world.proofs.Sessions.{arrive_step, full_step, some_reader}
use Rattle.spool_world.proofs.world.World.arrive.Goals as goal
use Rattle.spool_world.proofs.world.World.arrive.Goals.{in-Ok, in-Err}

pub returns-clause-step : goal.returns-clause-step
returns-clause-step c =
    let old = world_view c.self.inside in
    let i = c.in-Some.i in
    let k = c.index_mut-connection.result.now in
    let place = subst (λ (w : Worlds). IsPlace w c.args.session × (c.in-Some.i + 1 ≡ c.args.session)) (sym c.self.view_is) c.in-Some.ensures in
    let lt : i < length old.connections = (let a = place.0.1 in let b = place.1 in omega (arith, a, b)) in
    let ek = c.index_mut-connection.ensures.value in
    let p = some_reader k.reader c.is_none.result c.is_none.ensures c.if-is_none.false in
    elim c.match-extend_from_slice.branch [
      | in-Ok w ↦
          at_view old c.args.self.now _ (step.Arrive c.args.session c.args.octets.now) c.match-extend_from_slice.result c.self.view_is
          (replied old _ (step.Arrive c.args.session c.args.octets.now) c.match-extend_from_slice.result reply.Taken w.result-is
          (arrive_step old old.core i c.args.session k _ lt place.1 ek p.0 c.args.octets.now refl p.1 refl refl refl refl w.in-Ok.ensures.ok))
      | in-Err w ↦
          at_view old c.args.self.now _ (step.Arrive c.args.session c.args.octets.now) c.match-extend_from_slice.result c.self.view_is
          (replied old _ (step.Arrive c.args.session c.args.octets.now) c.match-extend_from_slice.result reply.Memory w.result-is
          (full_step old old.core i c.args.session k _ lt place.1 ek c.args.octets.now refl refl refl refl refl w.in-Err.ensures.err p.0 p.1))
    ]
