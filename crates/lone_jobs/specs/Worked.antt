-- A job that comes alone to the small spool of the worked traces.
use Rattle.std.specs.Prelude.{◌≡◌, [], ◌∷◌, ◌++◌, codes, drop, take}
use Rattle.std.proofs.Common.{lit≤, refl}
use Rattle.worked_histories.specs.Rows.{small}
use Rattle.worked_traces.specs.Rows.{contents, control_block, data_line, first_line, name_1, one_job}
use Rattle.spool_trace.specs.Trace.{Trace}
use Rattle.spool_trace.specs.Replies.{IsTrace}
use Rattle.lone_jobs.specs.Lone.{Sent, ComesAlone, HasRoomFor, octets_of, pages_of_files}

-- the job of the first worked trace: a file of eleven octets, which takes two of the three pages that a job may hold
abbrev pub lone : Sent
lone = record {
  queue = codes "lp";
  name = codes "cfA001h1";
  control = record {
    host = codes "h1";
    user = codes "ann";
    number = 1;
    prints = name_1 ∷ [];
    number_fits = lit≤ tt;
    host_fits = refl;
    user_fits = refl;
    prints_fit = refl;
  };
  files = record { name = name_1; octets = codes "hello world" } ∷ [];
}

-- the spool in which nothing has happened has room for it
pub record WorkedRoom : Type 0 where
  pub octets : octets_of lone ≡ first_line ++ data_line ++ contents ++ 0 ∷ control_block
  pub pages : pages_of_files 8 lone.files ≡ 2
  pub room : HasRoomFor small [] lone

-- what its session does in that trace, after the connection and before a printer gets a page
abbrev pub steps : Trace
steps = take 16 (drop 5 one_job)

-- and there it comes alone, with all its octets
abbrev pub WorkedJob : Type 0
WorkedJob = IsTrace small one_job → (comes : ComesAlone small [] lone 1 1 steps) × (comes.coming ≡ [])
