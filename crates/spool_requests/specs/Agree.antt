-- That one answer is due to a request, but for want of memory.
use Rattle.std.specs.Prelude.{◌≡◌, ℕ, Bool, true, false, List}
use Rattle.lpd_values.specs.declared.refusal.Refusal.TheVariants.{Memory}
use Rattle.config_values.specs.Config.{Config}
use Rattle.receiver.specs.Script.{Request}
use Rattle.spool_history.specs.Base.{Base}
use Rattle.spool_history.specs.Events.{Event}
use Rattle.spool_history.specs.Now.{now}
use Rattle.spool_history.specs.Legal.{IsLegal}
use Rattle.spool_calls.specs.Looks.{Detail, What, size}
use Rattle.spool_requests.specs.declared.answer.Answer.{Answer}
use Rattle.spool_requests.specs.declared.answer.Answer.TheVariants.{Refused}
use Rattle.spool_requests.specs.Due.{IsAnswer}

-- memory was refused
abbrev pub is_short : Answer → Bool
is_short (Refused Memory) = true
is_short _ = false

-- after a legal history two right answers to one request are one, where neither is want of memory
abbrev pub AnswersAgree : Type 0
AnswersAgree =
    (d : Detail) (c : Config) (b : Base) (h : List (Event (What d))) → IsLegal (size d) c b h
    → (sender job : ℕ) (r : Request) (x y : Answer) → IsAnswer d (now c b h) sender job r x → IsAnswer d (now c b h) sender job r y
    → is_short x ≡ false → is_short y ≡ false → x ≡ y
