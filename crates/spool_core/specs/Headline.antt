-- What holds of the history of a core, whatever calls were made of it.
use Rattle.std.specs.Prelude.{◌≡◌, ℕ, ◌+◌, ◌≤◌, true, List, length, take}
use Rattle.config_values.specs.Config.{Config}
use Rattle.config_values.specs.Ranges.{IsConfig}
use Rattle.spool_history.specs.Base.{Base}
use Rattle.spool_history.specs.Events.{Event}
use Rattle.spool_history.specs.Said.{handed_of, is_done}
use Rattle.spool_history.specs.Now.{now, IsSafeNow}
use Rattle.spool_history.specs.Joined.{LeavesJoined}
use Rattle.spool_laws.specs.Leaving.{EachHanded, EachPrinted, EarlierAreGone, HasNotEnded, IsOpen, SaysWhatIs, WasAccepted, places_of, sheets}
use Rattle.spool_laws.specs.Reserve.{CountsStops}
use Rattle.spool_laws.specs.Sums.{AddUp}
use Rattle.spool_calls.specs.Looks.{Detail, What}
use Rattle.spool_calls.specs.Kept.{Kept, Leaves}

pub record Headline {C : Type 0} (c : Config) (b : Base) (h : List (Event C)) : Type 0 where
  -- of each job the first places were handed, in print order, each once and as it was put
  pub places : (j : ℕ) → handed_of h j ≡ sheets j 0 (take (length (handed_of h j)) (places_of h j))
  -- and all of them, where the job is done
  pub done : (j : ℕ) → is_done h j ≡ true → handed_of h j ≡ sheets j 0 (places_of h j)
  -- "done" was said for the last place of a job that had not ended, and "ended" where it had
  pub said : EachPrinted SaysWhatIs h
  -- when a page of a job was handed, each earlier job of its sender and queue was gone
  pub by_acceptance : EachHanded EarlierAreGone h
  -- for each sender and queue, what was handed of their jobs is the join, by rising number over the accepted ones, of the
  -- first places of each: all of them where the job is done, none where it wasn't received or an earlier one is held
  pub joined : LeavesJoined h
  -- and nothing was handed but of accepted jobs
  pub accepted : EachHanded WasAccepted h
  -- nothing was handed after a job's end, or after the close
  pub going : EachHanded HasNotEnded h
  pub while_open : EachHanded (IsOpen b) h
  -- the pages add up to the pool
  pub pages : AddUp c b h
  -- the held jobs have a finishing order that keeps each sender's order
  pub safe : IsSafeNow (now c b h)
  -- the account has room for what came
  pub entries : CountsStops c b → length h ≤ (now c b h).reserved + 1

-- it holds of each history that leaves a core
abbrev pub HeadlineStands : Type 0
HeadlineStands =
    (d : Detail) (b : Base) (h : List (Event (What d))) (k : Kept) → IsConfig k.config → Leaves d b h k → Headline k.config b h
