use Rattle.std.proofs.Common.{rules, ◌≡◌, ◌∷◌, length}
use Rattle.std.proofs.lemmas.List.{nil_from_length}
use Rattle.lpd_script.specs.Scripts.{lines_of}
use Rattle.lpd_script.proofs.LineCuts.{cut_lines}
use Rattle.lpd_script.proofs.Running.{finished, one_more, stopped}
use Rattle.lpd_script.proofs.run.run_script.Given.{Over}
use Rattle.lpd_script.proofs.run.run_script.Goals as goal
use Rattle.lpd_script.proofs.run.run_script.Goals.{After-cut_line}

-- the first line of what is left, and the lines of what follows it
cut : (g : Over) (c : After-cut_line g) → lines_of c.loop-rest.rest.now ≡ c.cut_line.result.0.now ∷ lines_of c.cut_line.result.1.now
cut g c = cut_lines c.loop-rest.rest.now c.cut_line.result.0.now c.cut_line.result.1.now (search rules) c.cut_line.ensures.cut

pub loop-rest-preserved : goal.loop-rest-preserved
loop-rest-preserved g c =
    let printed = rw c.as_str.ensures.value at c.in_ok-print-in-Ok.ensures.printed in
    record {
      faults = search rules;
      count = search rules;
      so_far = one_more c.loop-rest.invariant.so_far c.cut_line.result.1.now (cut g (goal.at.loop-rest-preserved g c).After-cut_line) c.in-Ok.ensures.ran printed;
    }

pub returns-in-Err-clause-ran : goal.returns-in-Err-clause-ran
returns-in-Err-clause-ran g c =
    stopped c.loop-rest.invariant.so_far _ c.cut_line.result.1.now (cut g (goal.at.returns-in-Err-clause-ran g c).After-cut_line) c.in-Err.ensures.not_run c.in_ok-write_out-in-Err.ensures.written

pub returns-clause-ran : goal.returns-clause-ran
returns-clause-ran g c =
    let empty : length c.loop-rest.rest.now ≡ 0 = search rules in
    finished c.loop-rest.invariant.so_far _ c.write_out-2.result (nil_from_length c.loop-rest.rest.now empty) c.write_out-2.ensures.written c.write_out-2.ensures.fault
