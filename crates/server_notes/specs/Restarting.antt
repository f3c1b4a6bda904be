-- When a queue in which a printer failed is started again.
use Rattle.std.specs.Prelude.{ℕ, ◌*◌, if◌then◌else◌, min, nat_lt}

-- the time from a failure to the start behind it, in seconds, where a start was in vain that came after so many: twice as long, up to
-- 10 minutes, and never shorter
abbrev pub longer : ℕ → ℕ
longer seconds = if nat_lt seconds 600 then min 600 (2 * seconds) else seconds
