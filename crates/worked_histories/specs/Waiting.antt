-- Jobs that wait, and pages that are not as long as they must be.
use Rattle.std.specs.Prelude.{◌≡◌, ℕ, false, List, [], ◌∷◌, ◌++◌, drop}
use Rattle.spool_history.specs.Events.{Event}
use Rattle.spool_history.specs.Events.Act.{Granted, Began, Put, Controlled}
use Rattle.spool_history.specs.Events.Event.{Opened, OfJob}
use Rattle.spool_history.specs.Next.Next.{Hands, Nothing}
use Rattle.worked_histories.specs.Rows.{small, data_name, control, hello, rld, sheet, one_job}
use Rattle.worked_histories.specs.MoreRows.{again, short_job, next_of, free_of}
use Rattle.worked_histories.specs.Refused.{IsRefused}

-- the control file of a job came while its data file was open, of which one page was put
abbrev pub still_open : List (Event (List ℕ))
still_open =
    OfJob 1 (Put 0 0 hello) ∷ OfJob 1 Granted ∷ OfJob 1 (Controlled (control 1) false)
    ∷ OfJob 1 (Began (data_name 1) 11) ∷ Opened 1 1 1 ∷ []

-- a job waits for each earlier one of its sender, and until its open file has ended
pub record Waiting : Type 0 where
  pub same_sender : next_of (short_job 2 1 ++ Opened 1 1 1 ∷ []) ≡ Nothing
  pub other_sender : next_of (short_job 2 2 ++ Opened 1 1 1 ∷ []) ≡ Hands (sheet 2 0 again)
  pub open_file : next_of still_open ≡ Nothing
  pub open_file_holds : free_of still_open ≡ 3

-- of a file of 11 octets the first page must have 8, and the second 3
pub record PagesAreRefused : Type 0 where
  pub too_short : IsRefused small (drop 10 one_job) (OfJob 1 (Put 0 0 rld))
  pub too_long : IsRefused small (drop 8 one_job) (OfJob 1 (Put 0 1 hello))
