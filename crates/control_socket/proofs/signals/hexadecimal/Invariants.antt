use Rattle.std.proofs.Common.{◌≡◌, ◌<◌, ◌^◌, drop}
use Rattle.control_socket.proofs.MaskLemmas.{read_from}
use Rattle.control_socket.proofs.signals.hexadecimal.Given as goal

abbrev pub invariant-loop-digit : goal.invariant-loop-digit
invariant-loop-digit l = (read_from l.mask (drop l.digit-index l.digits) ≡ read_from 0 l.digits) × (l.mask < 16 ^ l.digit-index)
