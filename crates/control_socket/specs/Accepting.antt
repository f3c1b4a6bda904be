-- When connections are accepted.
use Rattle.std.specs.Prelude.{ℕ, Bool, true, false, Some, None, nat_le, if◌then◌else◌}
use Rattle.std.specs.declared.option.Option.{Option}
use Rattle.control_socket.specs.declared.accepting.Accepting.{Accepting}
use Rattle.control_socket.specs.declared.accepting.Accepting.TheVariants.{WhenTold, WhenRoom, From}

-- the millisecond from which on they are; none where the system tells when, or where there is no room
abbrev pub due_at : Accepting → Bool → ℕ → Option ℕ
due_at WhenTold has_room now = None
due_at WhenRoom has_room now = if has_room then Some now else None
due_at (From moment) has_room now = Some moment

-- they are by now, where there is room
abbrev pub is_due : Accepting → ℕ → Bool
is_due WhenTold now = false
is_due WhenRoom now = true
is_due (From moment) now = nat_le moment now
