use Rattle.std.proofs.Common.{arith, ◌∙◌}
use Rattle.control_file.proofs.WriteLemmas.{put_step}
use Rattle.control_file.proofs.control.Control.write_lines.Goals as goal

pub loop-name-preserved : goal.loop-name-preserved
loop-name-preserved c =
    put_step _ _ _ c.as_slice-name-items.result.now c.loop-name.name-index _ c.name-item.result c.loop-name.invariant c.in_ok-put_line-3.ensures (omega arith)
    (c.octets.ensures.value ∙ c.name-item.is)
