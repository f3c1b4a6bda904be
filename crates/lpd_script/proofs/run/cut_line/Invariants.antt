use Rattle.std.proofs.Common.{◌≡◌, true, take}
use Rattle.std.specs.List.{list_all}
use Rattle.lpd_script.specs.Parts.{is_no_lf}
use Rattle.lpd_script.proofs.run.cut_line.Given as goal

abbrev pub invariant-loop-i : goal.invariant-loop-i
invariant-loop-i l = list_all is_no_lf (take l.i l.text) ≡ true
