use Rattle.std.proofs.Common.{◌≡◌, ◌++◌, drop}
use Rattle.terminal_writer.specs.Terminal.{digits_of}
use Rattle.terminal_writer.proofs.terminal.TerminalWriter.finish.Given as goal

abbrev pub invariant-loop-octet : goal.invariant-loop-octet
invariant-loop-octet g l = record {
  digits : digits_of l.fn.self.held.items ≡ l.digits.items ++ digits_of (drop l.octet-index l.fn.self.held.items);
}
