use Rattle.std.proofs.Common.{◌∙◌, add-one}
use Rattle.program_words.proofs.ListLemmas.{one_more_copied}
use Rattle.program_words.proofs.questions.list_of.Goals as goal

pub loop-text-preserved : goal.loop-text-preserved
loop-text-preserved c =
    let more =
    one_more_copied c.in-Ok.texts.now c.loop-text.text-index _ c.loop-text.list c.push.new.self c.in_ok-copy_of.field-0 c.loop-text-test.true
    c.loop-text.invariant c.in_ok-push.ensures.ok (c.in_ok-copy_of.ensures ∙ c.as_bytes.ensures.value) in
    rw add-one more
