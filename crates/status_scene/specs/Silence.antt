-- Peers of sessions from which nothing comes.
use Rattle.std.specs.Prelude.{Bool, nat_le}
use Rattle.status_lines.specs.declared.outside.SeenSession.{SeenSession}

-- no octet of a peer came for a minute
abbrev pub is_silent : SeenSession → Bool
is_silent session = nat_le 60 session.silent
