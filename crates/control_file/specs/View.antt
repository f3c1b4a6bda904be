-- A control file as what it says.
use Rattle.std.specs.Prelude.{◌≡◌, ◌⊎◌, Result, Ok, Err, IsOk, MatchResult}
use Rattle.lpd_values.specs.declared.refusal.Refusal.{Refusal}
use Rattle.lpd_values.specs.declared.refusal.Refusal.TheVariants.{Memory}
use Rattle.control_file.specs.declared.control.Control.{Control}
use Rattle.lpd_values.specs.Contents.{Contents}

abbrev pub contents : Control → Contents
contents c = record { host = c.host; user = c.user; number = c.number; prints = c.prints }

-- a reader gives the control file that is due, or the refusal, but for want of memory where a control file is due
abbrev pub GivesControl : Result Control Refusal → Result Contents Refusal → Type 0
GivesControl result due =
    MatchResult result (λ c. due ≡ Ok (contents c)) (λ e. (due ≡ Err e) ⊎ ((e ≡ Memory) × IsOk due))
