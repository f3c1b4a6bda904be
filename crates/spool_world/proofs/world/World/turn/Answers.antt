use Rattle.std.proofs.Common.{◌≡◌, ◌+◌, ◌<◌, length, set, arith, subst, sym}
use Rattle.spool_trace.specs.declared.reply.Reply.{Reply}
use Rattle.spool_trace.specs.declared.step.Step.TheVariants as step
use Rattle.spool_world.specs.Turns.{TurnsRight}
use Rattle.spool_world.specs.Worlds.{IsPlace, Steps, Worlds}
use Rattle.spool_world.specs.Inside.{world_view}
use Rattle.spool_world.proofs.Sessions.{gone_turn, turn_step}
use Rattle.spool_world.proofs.world.World.turn.Goals as goal
use Rattle.spool_world.proofs.world.World.turn.Goals.{in-Some-turn, in-None}

pub returns-clause-step : goal.returns-clause-step
returns-clause-step c =
    let old = world_view c.self.inside in
    let core = c.turn.new.core in
    let i = c.in-Some.i in
    let k = c.index_mut.result.now in
    let l = c.turn.new.self in
    let new : Worlds = record old { core = core; connections = set old.connections i l } in
    let place = subst (λ (w : Worlds). IsPlace w c.args.session × (c.in-Some.i + 1 ≡ c.args.session)) (sym c.self.view_is) c.in-Some.ensures in
    let lt : i < length old.connections = (let a = place.0.1 in let b = place.1 in omega (arith, a, b)) in
    let ek = c.index_mut.ensures.value in
    let right = c.turn.ensures.turn in
    subst (λ (w : Worlds). Steps w (step.Turn c.args.session) c.match-turn.result new) c.self.view_is (elim c.match-turn.branch [
      | in-Some-turn w ↦
          subst (λ (x : Reply). Steps old (step.Turn c.args.session) x new) (sym w.result-is)
          (turn_step old core i c.args.session k l lt place.1 ek w.in-Some-turn.deed c.turn.ensures.config (subst (TurnsRight old.core core k l) w.in-Some-turn.is right))
      | in-None w ↦
          let none = subst (TurnsRight old.core core k l) w.in-None.is right in
          subst (λ (x : Reply). Steps old (step.Turn c.args.session) x new) (sym w.result-is)
          (gone_turn old core i c.args.session k l lt place.1 ek none.0 none.1 none.2)
    ])
