-- Histories from a base: after a rotation, with a printer stopped before, and after a close.
use Rattle.std.specs.Prelude.{◌≡◌, ℕ, ◌+◌, true, false, List, [], ◌∷◌, ◌++◌, drop, length, map}
use Rattle.config_values.specs.Config.{Config, reserve_of}
use Rattle.spool_history.specs.Base.{Base, first_base}
use Rattle.spool_history.specs.Events.{Event}
use Rattle.spool_history.specs.Events.Progress.{Done}
use Rattle.spool_history.specs.Events.Turn.{Handed}
use Rattle.spool_history.specs.Events.Event.{Opened, AtPrinter, Removed, Started, Closed}
use Rattle.spool_history.specs.Now.{now, free_pages}
use Rattle.spool_history.specs.Rotated.{rotated}
use Rattle.spool_history.specs.Next.{Next, next_page}
use Rattle.spool_history.specs.Next.Next.{Hands, Nothing, Stops, Over}
use Rattle.spool_history.specs.Legal.{May, IsLegal}
use Rattle.worked_histories.specs.Rows.{small, sheet, one_job}
use Rattle.worked_histories.specs.MoreRows.{again, failed, printed, short_job}
use Rattle.worked_histories.specs.Refused.{IsRefusedFrom}

-- the first twelve events of the history of one job, after which no job is held
abbrev pub first_twelve : List (Event (List ℕ))
first_twelve = drop 1 one_job

abbrev pub after_one : Base
after_one = rotated (now small first_base first_twelve)

-- from there the next job is received and printed
abbrev pub second_job : List (Event (List ℕ))
second_job = printed 2 0 again Done ++ short_job 2 1

abbrev pub free_from : Base → List (Event (List ℕ)) → ℕ
free_from b h = free_pages (now small b h)

abbrev pub next_from : Base → List (Event (List ℕ)) → Next (List ℕ)
next_from b h = next_page (now small b h) 1

pub record AfterRotation : Type 0 where
  pub base : after_one ≡ record { accepted = 1; reserved = 0; closed = false; stopped = false ∷ [] }
  pub free : free_from after_one [] ≡ 4
  pub is_legal : IsLegal length small after_one second_job
  pub next : map (next_from after_one) (short_job 2 1 ∷ second_job ∷ [])
      ≡ Hands (sheet 2 0 again) ∷ Nothing ∷ []
  pub free_again : map (free_from after_one) (short_job 2 1 ∷ second_job ∷ []) ≡ 3 ∷ 4 ∷ []
  -- the counted reserve is that of the second job alone
  pub reserved : (now small after_one second_job).reserved ≡ reserve_of small 1

-- after a page failed: the printer is stopped, and the base counts an entry for its start
abbrev pub after_failure : Base
after_failure = rotated (now small first_base failed)

abbrev pub with_account : ℕ → Config
with_account n = record small { account = n }

pub record StoppedBefore : Type 0 where
  pub base : after_failure
      ≡ record { accepted = 1; reserved = 1; closed = false; stopped = true ∷ [] }
  pub stops : next_from after_failure (short_job 2 1) ≡ Stops
  pub started : next_from after_failure (Started 1 ∷ short_job 2 1) ≡ Hands (sheet 2 0 again)
  pub may_start : May length (now {C = List ℕ} small after_failure []) (Started 1)
  pub needs : (now {C = List ℕ} small after_failure []).reserved + reserve_of small 1 + 1 ≡ 714
  pub fits : May length (now {C = List ℕ} (with_account 714) after_failure []) (Opened 2 1 1)

-- after the close
abbrev pub after_close : Base
after_close = rotated (now small first_base one_job)

pub record ClosedBefore : Type 0 where
  pub base : after_close
      ≡ record { accepted = 1; reserved = 0; closed = true; stopped = false ∷ [] }
  pub over : next_from after_close [] ≡ Over
  pub free : free_from after_close [] ≡ 4

-- closed, with its printer stopped
abbrev pub closed_and_stopped : Base
closed_and_stopped = record after_failure { closed = true }

pub record BasesAreRefused : Type 0 where
  pub number_of_the_base : IsRefusedFrom small after_one [] (Opened 1 1 1)
  pub number_skipped : IsRefusedFrom small after_one [] (Opened 3 1 1)
  pub started_unstopped : IsRefusedFrom small after_one [] (Started 1)
  pub handed_of_the_last_job :
      IsRefusedFrom small after_one [] (AtPrinter 1 (sheet 1 0 again) Handed)
  pub removed_of_the_last_job : IsRefusedFrom small after_one [] (Removed 1 (1 ∷ []))
  pub handed_while_stopped :
      IsRefusedFrom small after_failure (short_job 2 1) (AtPrinter 1 (sheet 2 0 again) Handed)
  pub started_twice : IsRefusedFrom small after_failure (Started 1 ∷ []) (Started 1)
  pub account_full : IsRefusedFrom (with_account 713) after_failure [] (Opened 2 1 1)
  pub opened_when_closed : IsRefusedFrom small after_close [] (Opened 2 1 1)
  pub closed_when_closed : IsRefusedFrom small after_close [] Closed
  pub started_when_closed : IsRefusedFrom small closed_and_stopped [] (Started 1)
