-- Copies: one file of 11 octets, printed by two lines of its job's control file. The newest event
-- stands first.
use Rattle.std.specs.Prelude.{◌≡◌, ℕ, true, List, [], ◌∷◌, drop, length, map}
use Rattle.lpd_values.specs.Contents.{Contents}
use Rattle.spool_history.specs.Base.{first_base}
use Rattle.spool_history.specs.Events.{Sheet, Progress, Event}
use Rattle.spool_history.specs.Events.Act.{Controlled}
use Rattle.spool_history.specs.Events.Progress.{Going, Done}
use Rattle.spool_history.specs.Events.Turn.{Handed, Printed}
use Rattle.spool_history.specs.Events.Event.{OfJob, AtPrinter}
use Rattle.spool_history.specs.Acts.{Page}
use Rattle.spool_history.specs.Now.{now, places}
use Rattle.spool_history.specs.Next.Next.{Hands, Nothing}
use Rattle.spool_history.specs.Legal.{IsLegal, progress_of}
use Rattle.worked_histories.specs.Rows.{small, hello, rld}
use Rattle.worked_histories.specs.MoreRows.{received, next_of, free_of}
use Rattle.worked_histories.specs.Refused.{IsRefused, printing}

-- the control file prints the one data file twice
abbrev pub twice : Contents
twice = printing 2

abbrev pub copied : List (Event (List ℕ))
copied = OfJob 1 (Controlled twice true) ∷ drop 1 (received 1 1)

-- a page of the file, and what a printer gets of it at a place of the job
abbrev pub page_of : ℕ → List ℕ → Page (List ℕ)
page_of number page = record { file = 0; number = number; page = page }

abbrev pub copy : (place number : ℕ) → List ℕ → Sheet (List ℕ)
copy place number page = record { job = 1; place = place; file = 0; number = number; page = page }

-- at each of the four places: the page is handed out, and comes back
abbrev pub out_0 : List (Event (List ℕ))
out_0 = AtPrinter 1 (copy 0 0 hello) Handed ∷ copied

abbrev pub back_0 : List (Event (List ℕ))
back_0 = AtPrinter 1 (copy 0 0 hello) (Printed Going) ∷ out_0

abbrev pub out_1 : List (Event (List ℕ))
out_1 = AtPrinter 1 (copy 1 1 rld) Handed ∷ back_0

abbrev pub back_1 : List (Event (List ℕ))
back_1 = AtPrinter 1 (copy 1 1 rld) (Printed Going) ∷ out_1

abbrev pub out_2 : List (Event (List ℕ))
out_2 = AtPrinter 1 (copy 2 0 hello) Handed ∷ back_1

abbrev pub back_2 : List (Event (List ℕ))
back_2 = AtPrinter 1 (copy 2 0 hello) (Printed Going) ∷ out_2

abbrev pub out_3 : List (Event (List ℕ))
out_3 = AtPrinter 1 (copy 3 1 rld) Handed ∷ back_2

abbrev pub back_3 : List (Event (List ℕ))
back_3 = AtPrinter 1 (copy 3 1 rld) (Printed Done) ∷ out_3

abbrev pub said_of : List (Event (List ℕ)) → List Progress
said_of h = map progress_of (now small first_base h).jobs

pub record PrintedTwice : Type 0 where
  pub is_legal : IsLegal length small first_base back_3
  pub places : map places (now small first_base copied).jobs
      ≡ (page_of 0 hello ∷ page_of 1 rld ∷ page_of 0 hello ∷ page_of 1 rld ∷ []) ∷ []
  pub next : map next_of (copied ∷ back_0 ∷ back_1 ∷ back_2 ∷ back_3 ∷ [])
      ≡ Hands (copy 0 0 hello) ∷ Hands (copy 1 1 rld) ∷ Hands (copy 2 0 hello)
      ∷ Hands (copy 3 1 rld) ∷ Nothing ∷ []
  pub said : map said_of (out_0 ∷ out_1 ∷ out_2 ∷ out_3 ∷ [])
      ≡ (Going ∷ []) ∷ (Going ∷ []) ∷ (Going ∷ []) ∷ (Done ∷ []) ∷ []
  -- a page is free once its last place came back
  pub free : map free_of (back_0 ∷ back_1 ∷ back_2 ∷ back_3 ∷ []) ≡ 2 ∷ 2 ∷ 3 ∷ 4 ∷ []
  -- and none before the first or while one is at the printer
  pub free_out : map free_of (copied ∷ out_0 ∷ out_1 ∷ out_2 ∷ out_3 ∷ []) ≡ 2 ∷ 2 ∷ 2 ∷ 2 ∷ 3 ∷ []

pub record CopiesAreRefused : Type 0 where
  pub place_again_before_its_turn : IsRefused small back_0 (AtPrinter 1 (copy 0 0 hello) Handed)
  pub later_place_first : IsRefused small copied (AtPrinter 1 (copy 2 0 hello) Handed)
  pub page_again_at_the_next_place : IsRefused small back_0 (AtPrinter 1 (copy 1 0 hello) Handed)
  pub place_for_its_number : IsRefused small back_1 (AtPrinter 1 (copy 2 2 hello) Handed)
  pub past_the_last_place : IsRefused small back_3 (AtPrinter 1 (copy 4 0 hello) Handed)
  pub done_after_the_first_copy : IsRefused small out_1 (AtPrinter 1 (copy 1 1 rld) (Printed Done))
  pub done_one_place_early : IsRefused small out_2 (AtPrinter 1 (copy 2 0 hello) (Printed Done))
  pub going_at_the_last_place : IsRefused small out_3 (AtPrinter 1 (copy 3 1 rld) (Printed Going))
