-- When it is told again that a printer stands still, or that nothing of its page goes, and when that is shown.
use Rattle.std.specs.Prelude.{ℕ, ◌*◌, ◌-◌, ◌==◌, if◌then◌else◌}
use Rattle.server_notes.specs.declared.delays.DelayCause.{DelayCause}
use Rattle.server_notes.specs.declared.delays.DelayCause.TheVariants.{TakesNothing, Unreached}

-- after how many minutes that is told again which was told this often: after 1, after 10, and then each 60
abbrev pub minutes_until : ℕ → ℕ
minutes_until told = if told == 0 then 1 else if told == 1 then 10 else 60 * (told - 1)

-- for how many seconds a printer isn't tried that has given its job back this often before: 5, 10, 20, 40, 60, 60 and so on
abbrev pub pause_before : ℕ → ℕ
pause_before pauses =
    if pauses == 0 then 5 else if pauses == 1 then 10 else if pauses == 2 then 20 else if pauses == 3 then 40 else 60

-- from how many seconds on it is shown that nothing of a printer's page goes: at once where it isn't reached, and after a minute where it
-- takes nothing
abbrev pub shown_after : DelayCause → ℕ
shown_after (Unreached error) = 0
shown_after TakesNothing = 60
