use Rattle.std.proofs.Common.{◌≤◌, ◌<◌, ◌^◌, ℕ}
use Rattle.config_values.specs.Config.{reserve_of}
use Rattle.server_house.proofs.room.AccountRoom.new.Given as goal

abbrev pub invariant-loop-queue : goal.invariant-loop-queue
invariant-loop-queue l = record {
  most : (queue : ℕ) → 1 ≤ queue → queue ≤ l.queue → reserve_of l.config queue ≤ l.largest;
  within : l.largest < 2 ^ 40;
}
