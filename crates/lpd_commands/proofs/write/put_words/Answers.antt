use Rattle.std.proofs.Common.{arith, ◌∙◌}
use Rattle.lpd_commands.proofs.WriteLemmas.{put_step}
use Rattle.lpd_commands.proofs.write.put_words.Goals as goal

pub loop-word-preserved : goal.loop-word-preserved
loop-word-preserved c =
    put_step _ _ _ c.as_slice-word-items.result.now c.loop-word.word-index _ c.word-item.result c.loop-word.invariant c.in_ok-put_word.ensures (omega arith)
    (c.as_slice.ensures ∙ c.word-item.is)
