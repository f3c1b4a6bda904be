use Rattle.std.proofs.Common.{refl, subst, sym, arith, ap, ◌∙◌}
use Rattle.std.specs.Vec.{vec_capacity}
use Rattle.config_values.specs.Config.{Config, IsPrinter}
use Rattle.spool_calls.specs.declared.answers.Next.{Next}
use Rattle.spool_calls.specs.Looks.Detail.{Outlines}
use Rattle.spool_calls.specs.Calls.{IsRight, Hands, sheet_of}
use Rattle.spool_trace.specs.declared.reply.Reply.TheVariants as reply
use Rattle.spool_trace.specs.declared.reply.Given.{Given}
use Rattle.spool_trace.specs.declared.reply.ShownPage.{ShownPage}
use Rattle.spool_trace.specs.declared.reply.Given.TheVariants as given
use Rattle.spool_trace.specs.declared.step.Step.TheVariants as step
use Rattle.spool_world.specs.Worlds.{Worlds, with_page}
use Rattle.spool_world.specs.Inside.{world_view}
use Rattle.spool_world.proofs.Ends.{true_false}
use Rattle.spool_world.proofs.Leading.{at_view}
use Rattle.spool_world.proofs.Printing.{handed_step, quiet_step}
use Rattle.spool_world.proofs.world.World.next.Goals as goal
use Rattle.spool_world.proofs.world.World.next.Goals.{in-Handed, in-Nothing, in-Stopped, in-Busy, in-Closed, then-has_next+in-Ok, else-has_next}

pub shown-shown-requires-clause-room : goal.shown-shown-requires-clause-room
shown-shown-requires-clause-room c =
    let core = c.self.inside.core in
    let r = c.has_next.ensures.reached in
    let hands = subst (λ (x : Next). Hands Outlines r.0 r.1 core c.args.printer c.next.new.self x) c.in-Handed.is (c.next.ensures.answer Outlines r.0 r.1 r.2) in
    elim c.if-has_next.branch [
      | then-has_next+in-Ok w ↦ (let a = hands.2 in let b = w.page_size-page_size.ensures.value in let d = w.in-Ok.ensures.exact in let f = ap vec_capacity w.room-is in let g = ap (λ (x : Config). x.page_size) w.config-then-has_next.ensures in omega (arith, a, b, d, f, g))
      | else-has_next w ↦ absurd (true_false (sym ((c.has_next.ensures.next Outlines r.0 r.1 r.2).1 (sheet_of Outlines r.0 r.1 core c.in-Handed.page, hands.0)) ∙ w.if-has_next.false))
    ]

pub returns-clause-step : goal.returns-clause-step
returns-clause-step c =
    let old = world_view c.self.inside in
    let p = c.args.printer in
    let core = c.next.new.self in
    let ip : IsPrinter old.core.config p = subst (λ (x : Config). IsPrinter x p) c.config.ensures (c.if-not-is_printer.ensures.0 refl) in
    let right = c.next.ensures.answer in
    elim c.match-next.branch [
      | in-Handed w ↦
          let page = w.in-Handed.page in
          at_view old c.args.self.now c.match-next.self (step.Next p) (reply.Gave c.match-next.given) c.self.view_is
          (subst (λ (x : Worlds). Rattle.spool_world.specs.Worlds.Steps old (step.Next p) (reply.Gave c.match-next.given) x) (sym (w.self-is ∙ w.put_at.ensures))
          (subst (λ (x : Given). Rattle.spool_world.specs.Worlds.Steps old (step.Next p) (reply.Gave x) (with_page (record old { core = core }) p page)) (sym (w.given-is ∙ ap (λ (x : ShownPage). given.Page x) w.shown-shown.ensures))
          (handed_step old p ip c.self.invariant page core c.next.ensures.config (subst (λ (x : Next). IsRight old.core (λ d b h. Hands d b h old.core p core x)) w.in-Handed.is right))))
      | in-Nothing w ↦ quiet_step ip c.self.invariant c.self.view_is w.in-Nothing.is tt w.given-is w.self-is right
      | in-Stopped w ↦ quiet_step ip c.self.invariant c.self.view_is w.in-Stopped.is tt w.given-is w.self-is right
      | in-Busy w ↦ quiet_step ip c.self.invariant c.self.view_is w.in-Busy.is tt w.given-is w.self-is right
      | in-Closed w ↦ quiet_step ip c.self.invariant c.self.view_is w.in-Closed.is tt w.given-is w.self-is right
    ]
