-- What was handed of one sender's jobs is joined job by job; and histories in which it isn't. The newest event stands first.
use Rattle.std.specs.Prelude.{◌≡◌, ℕ, List, [], ◌∷◌, ◌++◌, map, take}
use Rattle.std.specs.List.{flat_map}
use Rattle.spool_history.specs.Events.{Sheet, Event}
use Rattle.spool_history.specs.Events.Progress.{Going, Done}
use Rattle.spool_history.specs.Events.Turn.{Handed}
use Rattle.spool_history.specs.Events.Event.{Opened, AtPrinter}
use Rattle.spool_history.specs.Said.{Opening}
use Rattle.spool_history.specs.Joined.{IsJoin, jobs_from, handed_from, first_places}
use Rattle.worked_histories.specs.Rows.{hello, rld, sheet}
use Rattle.worked_histories.specs.MoreRows.{again, printed, received, removed, short_job, two_jobs}
use Rattle.worked_histories.specs.Copies.{back_3, copy}
use Rattle.worked_histories.specs.Waiting.{still_open}

-- the jobs of the first sender for the first queue
abbrev pub mine : List (Event (List ℕ)) → List Opening
mine h = jobs_from h 1 1

-- what was handed of them, and the join of the first places of each, are these pages
abbrev pub BothAre : List (Event (List ℕ)) → List (Sheet (List ℕ)) → Type 0
BothAre h pages = (handed_from h (mine h) ≡ pages) × (flat_map (first_places h) (mine h) ≡ pages)

-- the pages of the first of two jobs of one sender leave, and then that of the second
abbrev pub first_printed : List (Event (List ℕ))
first_printed = printed 1 1 rld Done ++ (printed 1 0 hello Going ++ two_jobs)

abbrev pub both_printed : List (Event (List ℕ))
both_printed = printed 2 0 again Done ++ first_printed

-- the page of the second leaves between those of the first
abbrev pub between : List (Event (List ℕ)) → List (Event (List ℕ))
between h = printed 1 1 rld Done ++ (printed 2 0 again Done ++ (printed 1 0 hello Going ++ h))

-- two jobs of two senders, and of one sender for two queues
abbrev pub two_senders : List (Event (List ℕ))
two_senders = short_job 2 2 ++ received 1 1

abbrev pub two_queues : List (Event (List ℕ))
two_queues = take 5 (short_job 2 1) ++ Opened 2 1 2 ∷ received 1 1

pub record Joined : Type 0 where
  pub numbers : map (λ (o : Opening). o.job) (mine both_printed) ≡ 1 ∷ 2 ∷ []
  pub none : BothAre two_jobs []
  pub first : BothAre first_printed (sheet 1 0 hello ∷ sheet 1 1 rld ∷ [])
  pub both : BothAre both_printed (sheet 1 0 hello ∷ sheet 1 1 rld ∷ sheet 2 0 again ∷ [])
  pub copies : BothAre back_3 (copy 0 0 hello ∷ copy 1 1 rld ∷ copy 2 0 hello ∷ copy 3 1 rld ∷ [])
  -- of a removed job the page that was handed before
  pub of_removed : BothAre removed (sheet 1 0 hello ∷ [])
  -- another sender's job, and one for another queue, leave between them
  pub other_sender : BothAre (between two_senders) (sheet 1 0 hello ∷ sheet 1 1 rld ∷ [])
  pub other_queue : BothAre (between two_queues) (sheet 1 0 hello ∷ sheet 1 1 rld ∷ [])

abbrev pub IsNoJoin : List (Event (List ℕ)) → Type 0
IsNoJoin h = IsJoin h (mine h) → ⊥

pub record AreNoJoins : Type 0 where
  -- the first page of a job whose file is still open, though that is its first place
  pub half_received : IsNoJoin (AtPrinter 1 (sheet 1 0 hello) Handed ∷ still_open)
  -- the later job's page while the earlier one waits, and while it is removed and its page is still out
  pub later_first : IsNoJoin (AtPrinter 1 (sheet 2 0 again) Handed ∷ two_jobs)
  pub while_one_is_dying : IsNoJoin (AtPrinter 2 (sheet 2 0 again) Handed ∷ removed)
  -- also once both are done
  pub later_was_first : IsNoJoin (printed 1 1 rld Done ++ (printed 1 0 hello Going ++ (printed 2 0 again Done ++ two_jobs)))
  pub later_was_between : IsNoJoin (between two_jobs)
  pub place_left_out : IsNoJoin (printed 1 1 rld Done ++ received 1 1)
  pub place_twice : IsNoJoin (printed 1 0 hello Going ++ (printed 1 0 hello Going ++ received 1 1))
  pub other_bytes : IsNoJoin (printed 1 0 again Going ++ received 1 1)
  pub done_early : IsNoJoin (printed 1 0 hello Done ++ received 1 1)
  pub numbers_fall : IsNoJoin (short_job 1 1 ++ received 2 1)
