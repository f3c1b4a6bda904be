-- When the account is rotated.
use Rattle.std.specs.Prelude.{◌≡◌, ◌<◌, ◌+◌, ◌-◌, ◌*◌, ◌%◌, ◌^◌, ℕ, Option, Some, None, if◌then◌else◌, max, min, nat_lt}
use Rattle.std.specs.declared.time.Instant.{Instant}
use Rattle.server_house.specs.declared.room.AccountRoom.{AccountRoom}
use Rattle.server_house.specs.declared.room.Hold.{Hold}
use Rattle.server_house.specs.declared.room.Hold.TheVariants.{No, Since, Over}

-- the account has its turn after this number of connections
abbrev pub HasTurn : Option ℕ → ℕ → Type 0
HasTurn (Some every) handed_on = (0 < every) × (0 < handed_on) × (handed_on % every ≡ 0)
HasTurn None handed_on = ⊥

-- whether new jobs wait, where the account is nearly full: they wait from this moment on; once they have waited for the longest
-- time they are let in; and they wait anew where a job has left since they were
abbrev pub next_hold : Hold → Instant → ℕ → ℕ → ℕ → Hold
next_hold No now waited_ms longest_ms held = Since now
next_hold (Since start) now waited_ms longest_ms held = if nat_lt waited_ms longest_ms then Since start else Over held
next_hold (Over before) now waited_ms longest_ms held = if nat_lt held before then Since now else Over held

-- how many entries may be counted beside so many held jobs until new jobs wait: as many as there are where the account is trimmed, as long
-- as there is room for one job of the largest limit in each session, and never fewer than without held jobs
abbrev pub most_beside : AccountRoom → ℕ → ℕ
most_beside room held =
    max (min (min (room.least + min (held * room.reserve) (2 ^ 64 - 1)) (2 ^ 64 - 1)) (room.account - min (room.reserve * room.sessions) (2 ^ 64 - 1))) room.most
