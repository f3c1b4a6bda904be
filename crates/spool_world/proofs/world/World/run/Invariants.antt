use Rattle.std.proofs.Common.{◌≡◌, length, take}
use Rattle.std.specs.Vec.{vec_capacity, vec_len}
use Rattle.spool_world.specs.Runs.{Runs}
use Rattle.spool_world.proofs.world.World.run.Given as goal

abbrev pub invariant-loop-step : goal.invariant-loop-step
invariant-loop-step l = record {
  config : l.self.core.config ≡ l.fn.self.core.config;
  count : vec_len l.replies ≡ l.step-index;
  room : vec_capacity l.replies ≡ length l.fn.steps;
  runs : Runs l.fn.self (take l.step-index l.fn.steps) l.replies.items l.self;
}
