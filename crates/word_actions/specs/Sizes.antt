-- How many jobs fit into the account, and the lines that say it.
use Rattle.std.specs.Prelude.{◌++◌, ◌∷◌, ◌-◌, ◌/◌, ◌==◌, ◌||◌, ◌&&◌, ℕ, Bool, List, [], Result, Ok, Err, codes, false, if◌then◌else◌, length, nat_lt, zero, suc}
use Rattle.std.specs.Fmt.{decimal}
use Rattle.config_values.specs.Config as C
use Rattle.word_actions.specs.declared.fault.ActionFault.{ActionFault}
use Rattle.word_actions.specs.declared.fault.ActionFault.TheVariants.{NoJobFits}

-- how many jobs of a queue fit between two moments without held jobs, each as large as the queue allows: the last entry
-- is that of the close
abbrev pub jobs_that_fit : C.Config → ℕ → ℕ
jobs_that_fit c queue = (c.account - 1) / C.reserve_of c queue

-- what is said where so many jobs are few
abbrev pub few_text : ℕ → List ℕ
few_text jobs = if nat_lt jobs 50 then codes ", too few: a larger account or larger pages make room" else []

abbrev pub size_line : C.Config → ℕ → List ℕ
size_line c queue =
    codes "queue " ++ (C.queue_at c queue).name ++ codes " jobs " ++ decimal (jobs_that_fit c queue)
    ++ few_text (jobs_that_fit c queue) ++ 10 ∷ []

-- how many jobs of a queue may be held at once, each as large as the queue allows, where the account is trimmed: that is done once a
-- quarter of it is counted for jobs that are gone
abbrev pub jobs_held : C.Config → ℕ → ℕ
jobs_held c queue = (c.account - c.account / 4 - 1) / C.reserve_of c queue

abbrev pub held_line : C.Config → ℕ → List ℕ
held_line c queue = codes "queue " ++ (C.queue_at c queue).name ++ codes " held " ++ decimal (jobs_held c queue) ++ 10 ∷ []

-- two lines for each of the first so many queues
abbrev pub size_lines : C.Config → ℕ → List ℕ
size_lines c zero = []
size_lines c (suc n) = (size_lines c n ++ size_line c (suc n)) ++ held_line c (suc n)

-- one of the first so many queues takes no job: the account has no room for one as large as it allows
abbrev pub takes_none : C.Config → ℕ → Bool
takes_none c zero = false
takes_none c (suc n) = takes_none c n || (jobs_that_fit c (suc n) == 0)

-- what a check answers: where sizes are asked for, each queue has to take a job
abbrev pub sizes_result : (sizes : Bool) → C.Config → Result Unit ActionFault
sizes_result sizes c = if sizes && takes_none c (length c.queues) then Err NoJobFits else Ok tt
