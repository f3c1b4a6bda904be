-- What holds after every trace whose replies are right.
use Rattle.std.specs.Prelude.{◌≡◌, ◌+◌, ℕ, true, List, ◌∷◌, ◌++◌, Some, length, take, Contains}
use Rattle.std.specs.List.{concat, slice_get}
use Rattle.account.specs.declared.entry.Outline.{Outline}
use Rattle.config_values.specs.Config.{Config}
use Rattle.config_values.specs.Ranges.{IsConfig}
use Rattle.receiver.specs.Script.{BeginFile, Item}
use Rattle.receiver.specs.Reading.{Requests}
use Rattle.receiver.specs.Blocks.{AreCut}
use Rattle.spool_history.specs.Base.{first_base}
use Rattle.spool_history.specs.Events.{Sheet}
use Rattle.spool_history.specs.Acts.{File, files_by}
use Rattle.spool_history.specs.Said.{Opening, openings, acts_of, handed_of, is_done}
use Rattle.spool_history.specs.Now.{IsSafeNow, free_pages}
use Rattle.spool_history.specs.Joined.{LeavesJoined}
use Rattle.spool_history.specs.Legal.{IsLegal}
use Rattle.spool_laws.specs.Leaving.{EachHanded, IsOpen, HasNotEnded, EarlierAreGone, sheets, places_of}
use Rattle.spool_laws.specs.Outline.{outline}
use Rattle.spool_laws.specs.Sums.{at_printers, chained, lent}
use Rattle.spool_calls.specs.Looks.{outline_of}
use Rattle.spool_requests.specs.declared.answer.Answer.TheVariants.{Yes}
use Rattle.spool_requests.specs.declared.answer.RequestKind.TheVariants as kind
use Rattle.spool_trace.specs.declared.step.Step.TheVariants as step
use Rattle.spool_trace.specs.declared.reply.Deed.TheVariants as deed
use Rattle.spool_trace.specs.declared.reply.Reply.TheVariants as reply
use Rattle.spool_trace.specs.Trace.{Entry, Trace}
use Rattle.spool_trace.specs.Sessions.{session_at, due_in, sessions}
use Rattle.spool_trace.specs.Shown.{events, spool_after}
use Rattle.spool_trace.specs.Replies.{IsSession, IsTrace}

-- a session began a data file
abbrev pub began_file : ℕ → Entry
began_file n = record { step = step.Turn n; reply = reply.Turned (deed.Asked kind.BeginFile Yes) }

-- The octets of a file of a job, as they arrived on session n: at a moment of the trace the session, with this job in hand,
-- began a file of this name and this length; what was read by then and what follows are all that has arrived up to now, and
-- these octets come first in what follows.
pub record Arrived (t : Trace) (n job : ℕ) (name : List ℕ) (count : ℕ) (octets : List ℕ) : Type 0 where
  pub newer : Trace
  pub older : Trace
  pub moment : t ≡ newer ++ began_file n ∷ older
  pub in_hand : (session_at (sessions older) n).job ≡ job
  pub items : List Item
  pub text : List ℕ
  pub begins : due_in (session_at (sessions older) n) ≡ Requests (BeginFile name count) items text
  pub read : List ℕ
  pub by_then : (session_at (sessions older) n).arrived ≡ read ++ text
  pub after : List ℕ
  pub here : (session_at (sessions t) n).arrived ≡ read ++ (octets ++ after)

-- The pages of a file of a job are its octets as they arrived on a session of this sender, cut in pages: all but the
-- last are full. Once the file has ended they are as many as its line said.
pub record IsAsArrived (c : Config) (t : Trace) (sender job : ℕ) (f : File (List ℕ)) : Type 0 where
  pub session : ℕ
  pub there : IsSession (sessions t) session
  pub from : (session_at (sessions t) session).sender ≡ sender
  pub arrived : Arrived t session job f.name f.count (concat f.pages)
  pub cut : AreCut c.page_size f.pages
  pub all : f.ended ≡ true → length (concat f.pages) ≡ f.count

-- so it is of every file of every job
abbrev pub AsArrived : Config → Trace → Type 0
AsArrived c t =
    (o : Opening) (f : File (List ℕ)) → Contains (openings (events c t)) o → Contains (files_by (acts_of (events c t) o.job)) f →
    IsAsArrived c t o.sender o.job f

-- A page that was handed to a printer is the one of its number of its file, the file of its job, and so are its octets.
pub record HandedArrived (c : Config) (t : Trace) (sheet : Sheet (List ℕ)) : Type 0 where
  pub opening : Opening
  pub accepted : Contains (openings (events c t)) opening
  pub job : opening.job ≡ sheet.job
  pub file : File (List ℕ)
  pub its_file : slice_get (files_by (acts_of (events c t) sheet.job)) sheet.file ≡ Some file
  pub its_page : slice_get file.pages sheet.number ≡ Some sheet.page
  pub arrived : IsAsArrived c t opening.sender sheet.job file

-- so it is of each page of each job
abbrev pub HandedAsArrived : Config → Trace → Type 0
HandedAsArrived c t =
    (j : ℕ) (sheet : Sheet (List ℕ)) → Contains (handed_of (events c t) j) sheet → (sheet.job ≡ j) × HandedArrived c t sheet

-- After any steps every page place of every job was handed to a printer at most once, in print order, with its bytes as
-- they arrived, and exactly once where the job is done; the jobs of one sender in one queue leave in order of
-- acceptance, one after the other, and nothing of a job that wasn't received; nothing leaves after the end of its job or
-- after the close; and the held jobs have a finishing order that keeps each sender's order.
pub record Headline (c : Config) (t : Trace) : Type 0 where
  -- what was handed of a job are its first places, in print order, each once and as it was put
  pub once_in_order : (j : ℕ) → handed_of (events c t) j ≡ sheets j 0 (take (length (handed_of (events c t) j)) (places_of (events c t) j))
  -- and all of them, where the job is done
  pub all_of_done : (j : ℕ) → is_done (events c t) j ≡ true → handed_of (events c t) j ≡ sheets j 0 (places_of (events c t) j)
  -- the places of a job are the pages of its files, and those are the octets that arrived
  pub as_arrived : AsArrived c t
  -- and so each page that was handed is as it arrived
  pub handed_arrived : HandedAsArrived c t
  -- a page of a job is handed only once all earlier jobs of its sender and queue are gone
  pub by_acceptance : EachHanded EarlierAreGone (events c t)
  -- for each sender and queue, what was handed of their jobs is the join, by rising number over the accepted ones, of the
  -- first places of each: all of them where the job is done, none where it wasn't received or an earlier one is held
  pub joined : LeavesJoined (events c t)
  pub not_after_end : EachHanded HasNotEnded (events c t)
  pub not_after_close : EachHanded (IsOpen first_base) (events c t)
  pub finishing_order : IsSafeNow (spool_after c t)

-- it holds of every trace whose replies are right
abbrev pub HeadlineHolds : Type 0
HeadlineHolds = (c : Config) (t : Trace) → IsConfig c → IsTrace c t → Headline c t

-- the pages of every right trace are as they arrived
abbrev pub PagesAreAsArrived : Type 0
PagesAreAsArrived = (c : Config) (t : Trace) → IsConfig c → IsTrace c t → AsArrived c t

-- the events of a right trace are a legal history
abbrev pub EventsAreLegal : Type 0
EventsAreLegal = (c : Config) (t : Trace) → IsTrace c t → IsLegal length c first_base (events c t)

-- and so is their outline, each page by its length and its SHA-256 (FIPS 180-4)
abbrev pub OutlineIsLegal : Type 0
OutlineIsLegal =
    (c : Config) (t : Trace) → IsTrace c t
    → IsLegal (λ (o : Outline). o.length) c first_base (outline outline_of (events c t))

-- each page of the pool is in the chain of a job, lent to a session, at a printer or free
abbrev pub PagesAddUp : Type 0
PagesAddUp =
    (c : Config) (t : Trace) → IsTrace c t
    → chained (spool_after c t) + lent (spool_after c t) + at_printers (spool_after c t) + free_pages (spool_after c t) ≡ c.pages
