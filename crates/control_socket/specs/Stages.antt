-- Until when a connection may stay as far as it has come.
use Rattle.std.specs.Prelude.{◌≡◌, Vec, ◌+◌, ◌-◌, ◌^◌, ℕ, Bool, true, false, min, nat_le, Some, None}
use Rattle.std.specs.declared.option.Option.{Option}
use Rattle.std.specs.Global.{Global}
use Rattle.std.specs.Option.{option_map_or}
use Rattle.control_socket.specs.declared.stages.TalkStage.{TalkStage}
use Rattle.control_socket.specs.declared.stages.TalkStage.TheVariants.{Asking, Ready, Asked, Answering}

-- a millisecond that comes so many after another, or the last one that a number tells
abbrev pub after : ℕ → ℕ → ℕ
after now ms = min (now + ms) (2 ^ 64 - 1)

-- the millisecond at which it is over
abbrev pub until_of : TalkStage → Option ℕ
until_of (Asking line until) = Some until
until_of (Ready line is_gone) = None
until_of Asked = None
until_of (Answering answer until) = until

-- its time is over
abbrev pub is_late : ℕ → TalkStage → Bool
is_late now stage = option_map_or (λ until. nat_le until now) (until_of stage) false

-- an answer that has no limit yet has one from now on; all else stays as it is
abbrev pub begun : TalkStage → ℕ → ℕ → TalkStage
begun (Answering answer None) now answer_ms = Answering answer (Some (after now answer_ms))
begun stage now answer_ms = stage

abbrev pub is_asking : TalkStage → Bool
is_asking (Asking line until) = true
is_asking stage = false

abbrev pub is_ready : TalkStage → Bool
is_ready (Ready line is_gone) = true
is_ready stage = false

abbrev pub is_asked : TalkStage → Bool
is_asked Asked = true
is_asked stage = false

abbrev pub earlier_of : Option ℕ → Option ℕ → Option ℕ
earlier_of (Some first) (Some second) = Some (min first second)
earlier_of first None = first
earlier_of None second = second

-- a line that was coming is whole
abbrev pub heard : TalkStage → Bool → TalkStage
heard (Asking line until) is_gone = Ready line is_gone
heard stage is_gone = stage

-- an answer of these octets, of which nothing is written, and whose time hasn't begun
abbrev pub IsNewAnswer : Vec ℕ Global → TalkStage → Type 0
IsNewAnswer octets (Answering answer None) = (answer.octets ≡ octets) × (answer.written ≡ 0)
IsNewAnswer octets stage = ⊥
