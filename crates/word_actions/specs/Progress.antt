-- How often is told how far a job is that is sent.
use Rattle.std.specs.Prelude.{◌+◌, ◌/◌, ℕ, max}

-- how many octets lie between two lines, of a job of this many: a tenth, rounded up, and 65,536 at the least
abbrev pub step_of : ℕ → ℕ
step_of all = max ((all + 9) / 10) 65536
