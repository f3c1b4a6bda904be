-- What a request that is carried out through a seat gets, and adds to the seat's shares.
use Rattle.std.specs.Prelude.{◌≡◌, ℕ, Option, Ok}
use Rattle.page_pool.specs.Page.{Page}
use Rattle.account.specs.declared.kind.Kind.TheVariants as kind
use Rattle.receiver.specs.Script.{Request}
use Rattle.spool_requests.specs.Kinds.{request_kind}
use Rattle.spool_requests.specs.declared.answer.Answer.{Answer}
use Rattle.spool_requests.specs.declared.answer.Answer.TheVariants.{Yes, Accepted, Lent, Stored, Received, Told, Refused}
use Rattle.spool_requests.specs.declared.answer.RequestKind.{RequestKind}
use Rattle.spool_requests.specs.declared.answer.RequestKind.TheVariants as request
use Rattle.spool_ledgers.specs.Sums.{Sums, with_entry}
use Rattle.locked_spool.specs.Shares.{OneOrNone, when_removed}

-- what a request of this kind adds where it was answered so
abbrev pub Adds : RequestKind → Answer → (old new : Sums) → Type 0
Adds request.Open (Accepted job) old new = new ≡ with_entry kind.Opened old
Adds request.BeginFile Yes old new = new ≡ with_entry kind.Began old
Adds request.Page (Lent page_size) old new = new ≡ with_entry kind.Granted old
Adds request.Filled Yes old new = new ≡ with_entry kind.Put old
Adds request.EndFile Stored old new = new ≡ with_entry kind.FileEnded old
Adds request.EndFile Received old new = new ≡ with_entry kind.FileEnded old
Adds request.Control Stored old new = new ≡ with_entry kind.Controlled old
Adds request.Control Received old new = new ≡ with_entry kind.Controlled old
Adds request.Abort Yes old new = new ≡ with_entry kind.Aborted old
Adds request.Start Yes old new = OneOrNone kind.Started old new
Adds request.Remove (Told text) old new = new ≡ when_removed (Ok text) old
Adds asked answer old new = new ≡ old

-- which answers a request of this kind gets. A page is waited for.
abbrev pub IsGiven : RequestKind → Answer → Type 0
IsGiven kind (Refused n) = Unit {0}
IsGiven request.Queue Yes = Unit {0}
IsGiven request.Open (Accepted job) = Unit {0}
IsGiven request.BeginFile Yes = Unit {0}
IsGiven request.Page (Lent page_size) = Unit {0}
IsGiven request.Filled Yes = Unit {0}
IsGiven request.EndFile Stored = Unit {0}
IsGiven request.EndFile Received = Unit {0}
IsGiven request.Control Stored = Unit {0}
IsGiven request.Control Received = Unit {0}
IsGiven request.Abort Yes = Unit {0}
IsGiven request.Start Yes = Unit {0}
IsGiven request.State (Told text) = Unit {0}
IsGiven request.Remove (Told text) = Unit {0}
IsGiven kind answer = ⊥

-- a request was answered, and the seat has what that adds
pub record Carries (old : Sums) (sender job : ℕ) (r : Request) (answer : Answer) (new : Sums) : Type 0 where
  pub given : IsGiven (request_kind r) answer
  pub adds : Adds (request_kind r) answer old new

-- an abort at the end of a session, whatever is answered
abbrev pub Ends : (old : Sums) → (job : ℕ) → Option Page → (new : Sums) → Type 0
Ends old job page new = OneOrNone kind.Aborted old new
