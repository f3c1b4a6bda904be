-- Events that may not come: what each stands after, and why it is refused.
use Rattle.std.specs.Prelude.{ℕ, true, false, List, [], ◌∷◌, drop, length, replicate}
use Rattle.lpd_values.specs.Contents.{Contents}
use Rattle.spool_history.specs.Base.{Base, first_base}
use Rattle.spool_history.specs.Events.{Event}
use Rattle.spool_history.specs.Events.Act.{Granted, Began, Put, FileEnded, Controlled, Aborted}
use Rattle.spool_history.specs.Events.Progress.{Going, Done}
use Rattle.spool_history.specs.Events.Turn.{Handed, Printed, Failed}
use Rattle.spool_history.specs.Events.Event.{Opened, OfJob, AtPrinter, Removed, Started, Closed}
use Rattle.config_values.specs.Config.{Config}
use Rattle.spool_history.specs.Now.{now}
use Rattle.spool_history.specs.Legal.{May}
use Rattle.worked_histories.specs.Rows.{small, data_name, control, hello, rld, sheet, one_job}
use Rattle.worked_histories.specs.MoreRows.{again, two_jobs, removed, closed}

-- from this base, after this history, this event may not come
abbrev pub IsRefusedFrom : Config → Base → List (Event (List ℕ)) → Event (List ℕ) → Type 0
IsRefusedFrom c b h e = May length (now c b h) e → ⊥

abbrev pub IsRefused : Config → List (Event (List ℕ)) → Event (List ℕ) → Type 0
IsRefused c h e = IsRefusedFrom c first_base h e

-- a control file that prints the one data file by so many lines
abbrev pub printing : ℕ → Contents
printing n = record (control 1) { prints = replicate n (data_name 1) }

-- of the history of one job, drop n is what it was before its newest n events
pub record AreRefused : Type 0 where
  pub close_twice : IsRefused small one_job (Closed)
  pub opened_after_close : IsRefused small one_job (Opened 2 1 1)
  pub handed_after_close : IsRefused small closed (AtPrinter 1 (sheet 2 0 again) Handed)
  pub started_after_close : IsRefused small one_job (Started 1)
  pub removed_after_close : IsRefused small one_job (Removed 1 (1 ∷ []))
  pub number_again : IsRefused small (drop 1 one_job) (Opened 1 1 1)
  pub number_skipped : IsRefused small (drop 1 one_job) (Opened 3 1 1)
  pub queue_unknown : IsRefused small (drop 1 one_job) (Opened 2 1 2)
  pub queue_0 : IsRefused small (drop 1 one_job) (Opened 2 1 0)
  pub account_full : IsRefused (record small { account = 712 }) [] (Opened 1 1 1)
  pub table_full : IsRefused (record small { max_jobs = 1 }) (drop 12 one_job) (Opened 2 1 1)
  pub lent_to_nobody : IsRefused small (drop 13 one_job) (OfJob 1 Granted)
  pub lent_with_no_file : IsRefused small (drop 12 one_job) (OfJob 1 Granted)
  pub lent_twice : IsRefused small (drop 10 one_job) (OfJob 1 Granted)
  pub put_unlent : IsRefused small (drop 11 one_job) (OfJob 1 (Put 0 0 hello))
  pub put_into_another_file : IsRefused small (drop 10 one_job) (OfJob 1 (Put 1 0 hello))
  pub file_while_one_is_open : IsRefused small (drop 11 one_job) (OfJob 1 (Began (data_name 2) 8))
  pub name_taken : IsRefused small (drop 6 one_job) (OfJob 1 (Began (data_name 1) 8))
  pub over_the_limit : IsRefused small (drop 12 one_job) (OfJob 1 (Began (data_name 1) 25))
  pub file_of_no_octet : IsRefused small (drop 12 one_job) (OfJob 1 (Began (data_name 1) 0))
  pub ended_while_lent : IsRefused small (drop 10 one_job) (OfJob 1 (FileEnded 0 false))
  pub ended_with_the_wrong_word : IsRefused small (drop 7 one_job) (OfJob 1 (FileEnded 0 true))
  pub control_twice : IsRefused small (drop 5 one_job) (OfJob 1 (Controlled (control 1) true))
  pub control_with_the_wrong_word : IsRefused small (drop 6 one_job) (OfJob 1 (Controlled (control 1) false))
  pub control_printing_nothing : IsRefused small (drop 6 one_job) (OfJob 1 (Controlled (printing 0) true))
  pub control_printing_100_names : IsRefused small (drop 6 one_job) (OfJob 1 (Controlled (printing 100) true))
  pub aborted_nobody : IsRefused small [] (OfJob 1 Aborted)
  pub handed_out_of_order : IsRefused small (drop 5 one_job) (AtPrinter 1 (sheet 1 1 rld) Handed)
  pub handed_while_busy : IsRefused small (drop 4 one_job) (AtPrinter 1 (sheet 1 1 rld) Handed)
  pub handed_again : IsRefused small (drop 3 one_job) (AtPrinter 1 (sheet 1 0 hello) Handed)
  pub handed_before_its_time : IsRefused small (drop 6 one_job) (AtPrinter 1 (sheet 1 0 hello) Handed)
  pub later_job_first : IsRefused small two_jobs (AtPrinter 1 (sheet 2 0 again) Handed)
  pub next_job_while_one_is_dying : IsRefused small removed (AtPrinter 1 (sheet 2 0 again) Handed)
  pub other_bytes : IsRefused small (drop 5 one_job) (AtPrinter 1 (sheet 1 0 again) Handed)
  pub printed_not_out : IsRefused small (drop 5 one_job) (AtPrinter 1 (sheet 1 0 hello) (Printed Going))
  pub printed_done_early : IsRefused small (drop 4 one_job) (AtPrinter 1 (sheet 1 0 hello) (Printed Done))
  pub printed_going_at_last : IsRefused small (drop 2 one_job) (AtPrinter 1 (sheet 1 1 rld) (Printed Going))
  pub failed_not_out : IsRefused small (drop 5 one_job) (AtPrinter 1 (sheet 1 0 hello) Failed)
  pub printer_unknown : IsRefused small (drop 5 one_job) (AtPrinter 2 (sheet 1 0 hello) Handed)
  pub printer_0 : IsRefused small (drop 5 one_job) (AtPrinter 0 (sheet 1 0 hello) Handed)
  pub removed_nobody : IsRefused small (drop 5 one_job) (Removed 1 [])
  pub removed_while_received : IsRefused small (drop 6 one_job) (Removed 1 (1 ∷ []))
  pub started_unstopped : IsRefused small (drop 5 one_job) (Started 1)
