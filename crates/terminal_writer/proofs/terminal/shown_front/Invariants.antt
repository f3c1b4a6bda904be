use Rattle.std.proofs.Common.{◌≡◌, ◌≤◌, ◌++◌, ◌-◌, List, ℕ, drop, length}
use Rattle.terminal_writer.specs.Terminal.{shown}
use Rattle.terminal_writer.proofs.terminal.shown_front.Given as goal

abbrev pub invariant-loop-at : goal.invariant-loop-at
invariant-loop-at l = record {
  within : l.at ≤ length l.text;
  shown : (rest : List ℕ) → shown (l.text ++ rest) ≡ l.shown.items ++ shown (drop l.at l.text ++ rest);
}

abbrev pub decreases-loop-at : goal.decreases-loop-at
decreases-loop-at l = length l.text - l.at
