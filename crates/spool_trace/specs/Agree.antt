-- That one reply is due to a step, but for want of memory.
use Rattle.std.specs.Prelude.{◌≡◌, Bool, true, false}
use Rattle.lpd_values.specs.declared.refusal.Refusal.TheVariants.{Memory}
use Rattle.config_values.specs.Config.{Config}
use Rattle.spool_requests.specs.Agree as answers
use Rattle.spool_trace.specs.declared.step.Step.{Step}
use Rattle.spool_trace.specs.declared.reply.Deed.{Deed}
use Rattle.spool_trace.specs.declared.reply.Deed.TheVariants as deed
use Rattle.spool_trace.specs.declared.reply.Reply.{Reply}
use Rattle.spool_trace.specs.declared.reply.Reply.TheVariants as reply
use Rattle.spool_trace.specs.Trace.{Trace}
use Rattle.spool_trace.specs.Replies.{IsReply, IsTrace}

-- memory was refused to a session, or for the answer to its request
abbrev pub is_short_deed : Deed → Bool
is_short_deed (deed.Asked kind answer) = answers.is_short answer
is_short_deed (deed.Refused Memory) = true
is_short_deed _ = false

-- or for the step
abbrev pub is_short : Reply → Bool
is_short (reply.Turned done) = is_short_deed done
is_short reply.Memory = true
is_short _ = false

-- after a right trace two right replies to one step are one, where neither is want of memory
abbrev pub RepliesAgree : Type 0
RepliesAgree =
    (c : Config) (t : Trace) → IsTrace c t → (step : Step) (a b : Reply) → IsReply c t step a → IsReply c t step b
    → is_short a ≡ false → is_short b ≡ false → a ≡ b
