-- How an answer at the control socket names a job.
use Rattle.std.specs.Prelude.{ℕ, List, ◌++◌, codes}
use Rattle.control_lines.specs.Escapes.{escaped}
use Rattle.server_jobs.specs.declared.owned_job.OwnedJob.{OwnedJob}
use Rattle.standings.specs.Words.{name_words}

-- job 5 (002) ann@hosta of prn08
abbrev pub owned_words : OwnedJob → List ℕ
owned_words job =
    name_words job.name ++ (codes " " ++ (escaped job.user.now ++ (codes "@" ++ (escaped job.host.now ++ (codes " of " ++ escaped job.queue.now)))))
