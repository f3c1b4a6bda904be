-- The connections of a control socket, the oldest one first: who leaves, and who is next.
use Rattle.std.specs.Prelude.{◌≡◌, ◌≤◌, ◌<◌, ◌==◌, ◌||◌, ℕ, Bool, List, Some, None, IfSome, IsSomeAnd, is_some, length, nat_lt, remove, slice_get, true, option_and_then, ◌&&◌, if◌then◌else◌}
use Rattle.std.specs.declared.option.Option.{Option}
use Rattle.std.specs.Option.{option_map}
use Rattle.std.specs.List.{position}
use Rattle.control_socket.specs.declared.talks.ControlTalk.{ControlTalk}
use Rattle.control_socket.specs.declared.partings.TalkNumber.{TalkNumber}
use Rattle.control_socket.specs.declared.partings.Parting.{Parting}
use Rattle.control_socket.specs.declared.partings.Parting.TheVariants.{LineLate, AnswerLate}
use Rattle.control_socket.specs.declared.line.PartialLine.{PartialLine}
use Rattle.control_socket.specs.declared.stages.TalkStage.{TalkStage}
use Rattle.control_socket.specs.declared.stages.TalkStage.TheVariants.{Ready}
use Rattle.control_socket.specs.Stages.{is_asking, is_ready, is_asked, is_late, until_of}

abbrev pub is_asking_talk : ControlTalk → Bool
is_asking_talk talk = is_asking talk.stage

abbrev pub is_ready_talk : ControlTalk → Bool
is_ready_talk talk = is_ready talk.stage

abbrev pub is_late_talk : ℕ → ControlTalk → Bool
is_late_talk now talk = is_late now talk.stage

-- a connection has this number and waits for its answer
abbrev pub is_asked_as : ℕ → ControlTalk → Bool
is_asked_as number talk = (talk.number.0 == number) && is_asked talk.stage

-- another one may come in: a place is free, or one leaves for it
abbrev pub is_room_among : List ControlTalk → Bool
is_room_among talks = nat_lt (length talks) 64 || is_some (position is_asking_talk talks)

-- the place of the one that leaves for another: where all are taken, the oldest whose line isn't whole
abbrev pub place_of_leaving : List ControlTalk → Option ℕ
place_of_leaving talks = if nat_lt (length talks) 64 then None else position is_asking_talk talks

-- all but the one at a place, where there is a place
abbrev pub without : Option ℕ → List ControlTalk → List ControlTalk
without (Some at) talks = remove talks at
without None talks = talks

-- the number of the one at a place
abbrev pub number_at : List ControlTalk → ℕ → Option TalkNumber
number_at talks at = option_map (λ talk. talk.number) (slice_get talks at)

-- the moment is that of one of the first n of them, and of these the earliest; none where none of these has one
pub record IsNearest (talks : List ControlTalk) (n : ℕ) (nearest : Option ℕ) : Type 0 where
  pub of_one : IfSome nearest (λ moment. (k : ℕ) × (talk : ControlTalk) × (slice_get talks k ≡ Some talk) × (until_of talk.stage ≡ Some moment))
  pub earliest : (k : ℕ) (talk : ControlTalk) (until : ℕ) → k < n → slice_get talks k ≡ Some talk → until_of talk.stage ≡ Some until → IsSomeAnd nearest (λ moment. moment ≤ until)

-- the line of one at a place, where it waits to be handed out
abbrev pub line_of : TalkStage → Option PartialLine
line_of (Ready line is_gone) = Some line
line_of stage = None

abbrev pub line_at : List ControlTalk → ℕ → Option PartialLine
line_at talks at = option_and_then (λ talk. line_of talk.stage) (slice_get talks at)

-- a connection that was accepted: it has its line's time
abbrev pub IsAccepted : TalkNumber → ℕ → ControlTalk → Type 0
IsAccepted number until talk = (talk.number ≡ number) × (is_asking talk.stage ≡ true) × (until_of talk.stage ≡ Some until)

-- why one leaves whose time is over
abbrev pub why_late : TalkStage → Parting
why_late stage = if is_asking stage then LineLate else AnswerLate
