use Rattle.std.proofs.Common.{◌≡◌, Ok, sym, ◌∙◌}
use Rattle.std.specs.Prelude.{take, drop}
use Rattle.std.proofs.lemmas.Nat.{from_be_bytes-to_be_bytes_4}
use Rattle.std.specs.Int.{to_be_bytes, w32}
use Rattle.hex.specs.Hex.{decode_sized}
use Rattle.job_heads.proofs.Heads.{digits_read, found_equal}
use Rattle.job_heads.proofs.read_head.Goals as goal

pub returns-then-is_err-clause-refused : goal.returns-then-is_err-clause-refused
returns-then-is_err-clause-refused c = λ sender small same.
    let read : decode_sized (take 8 (drop 11 c.args.octets.now)) 4 ≡ Ok (to_be_bytes w32 sender) = rw same (digits_read sender) in
    let v = rw read at c.decode_to_slice.ensures.value in
    let e = rw v.0 at c.is_err.ensures.value in
    cc (sym e ∙ c.if-is_err.true)

pub returns-then-ne-clause-refused : goal.returns-then-ne-clause-refused
returns-then-ne-clause-refused c = λ sender small same.
    let read : decode_sized (take 8 (drop 11 c.args.octets.now)) 4 ≡ Ok (to_be_bytes w32 sender) = rw same (digits_read sender) in
    let v = rw read at c.decode_to_slice.ensures.value in
    let back = from_be_bytes-to_be_bytes_4 sender small in
    let f = rw v.1 at c.from_be_bytes-sender.ensures in
    let is = f ∙ back in
    let w = rw is at c.write_head.ensures in
    let n = rw (w ∙ sym same) at c.if-ne.ensures in
    let equal = rw (found_equal c.args.octets.now) at n in
    cc equal
