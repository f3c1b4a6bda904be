use Rattle.std.proofs.Common.{◌∷◌, ◌++◌, take, drop, refl, lit≤, lit<}
use Rattle.receiver.specs.Script.{Acks, data_file}
use Rattle.worked_traces.specs.Rows.{one_job, first_line, data_line, contents, control_block}
use Rattle.worked_traces.proofs.rows.file_arrived.Goals as goal

pub returns : goal.returns
returns c = record {
  files = refl;
  arrived = record {
    session = 1;
    there = (lit≤ tt, lit≤ tt);
    from = refl;
    arrived = record {
      newer = take 16 one_job;
      older = drop 17 one_job;
      moment = refl;
      in_hand = refl;
      items = Acks ∷ data_file 11;
      text = contents ++ 0 ∷ control_block;
      begins = refl;
      read = first_line ++ data_line;
      by_then = refl;
      after = 0 ∷ control_block;
      here = refl;
    };
    cut = (refl, lit< tt, (lit< tt, lit≤ tt));
    all = λ e. refl;
  };
}
