use Rattle.std.proofs.Common.{subst, ◌++◌}
use Rattle.receiver.specs.Reading.{Progress, due}
use Rattle.receiver.specs.View.{StepsAt}
use Rattle.receiver.specs.Sound.{state_of}
use Rattle.receiver.proofs.Laws.{steps_read, steps_within, steps_over, rested}
use Rattle.receiver.proofs.receiver.Receiver.advance.Goals as goal

pub returns-clause-within : goal.returns-clause-within
returns-clause-within c = steps_within _ _ _ _ _ _ c.advance.ensures.step

pub returns-clause-step : goal.returns-clause-step
returns-clause-step c =
    let input = c.args.input.now in
    let new = state_of c.advance.new.self in
    subst (λ (s : Progress). StepsAt s input c.advance.result.0 c.advance.result.1 new (due s (s.tail ++ input))) c.self.view_is c.advance.ensures.step

pub returns-clause-reading : goal.returns-clause-reading
returns-clause-reading c = λ t a os h.
    let input = c.args.input.now in
    let new = state_of c.advance.new.self in
    steps_read c.args.self.now input t c.advance.result.0 c.advance.result.1 new a os c.requires (subst (λ (s : Progress). StepsAt s input c.advance.result.0 c.advance.result.1 new (due s (s.tail ++ input))) c.self.view_is c.advance.ensures.step) h

pub returns-clause-rested : goal.returns-clause-rested
returns-clause-rested c =
    let input = c.args.input.now in
    let new = state_of c.advance.new.self in
    rested c.args.self.now input c.advance.result.0 c.advance.result.1 new c.requires (subst (λ (s : Progress). StepsAt s input c.advance.result.0 c.advance.result.1 new (due s (s.tail ++ input))) c.self.view_is c.advance.ensures.step) c.advance.ensures.leaves

pub returns-clause-over : goal.returns-clause-over
returns-clause-over c =
    let input = c.args.input.now in
    let new = state_of c.advance.new.self in
    steps_over c.args.self.now input c.advance.result.0 c.advance.result.1 new (subst (λ (s : Progress). StepsAt s input c.advance.result.0 c.advance.result.1 new (due s (s.tail ++ input))) c.self.view_is c.advance.ensures.step)
