-- What the requests of a session come to, whatever carries them out.
use Rattle.std.specs.Prelude.{◌≡◌, ℕ, Bool, true, false, [], ◌∷◌, Option}
use Rattle.page_pool.specs.Page.{Page}
use Rattle.receiver.specs.Script.{Request}
use Rattle.receiver.specs.Reading.{Due, Requests}
use Rattle.spool_requests.specs.declared.answer.Answer.{Answer}
use Rattle.spool_trace.specs.declared.reply.Deed.TheVariants as deed
use Rattle.spool_trace.specs.Sessions.{due_in}
use Rattle.request_session.specs.Course.{Course, Did, session_after}

-- what an answer to a request may be, and what it leaves
abbrev pub Carrying : Type 0 → Type 1
Carrying S = S → (sender job : ℕ) → Request → Answer → S → Type 0

-- what the end of a session leaves that has a job in hand, and this page
abbrev pub Ending : Type 0 → Type 1
Ending S = S → (job : ℕ) → Option Page → S → Type 0

module _ {S : Type 0} (carries : Carrying S) (sender : ℕ) where
  -- the request that was due was carried out
  abbrev pub CarriesDue : Due → (job : ℕ) → Answer → (old new : S) → Type 0
  CarriesDue (Requests r items text) job answer old new = carries old sender job r answer new
  CarriesDue due job answer old new = ⊥

  -- all requests of a course were carried out, one after another
  abbrev pub CarriesAll : Course → (old new : S) → Type 0
  CarriesAll [] old new = new ≡ old
  CarriesAll (Did (deed.Asked asked answer) ∷ c) old new =
      (before : S) × CarriesAll c old before
      × CarriesDue (due_in (session_after sender c)) (session_after sender c).job answer before new
  CarriesAll (move ∷ c) old new = CarriesAll c old new

-- the end of a session aborts a job in hand, if it can
abbrev pub AtEnd : {S : Type 0} → Ending S → (in_hand : Bool) → (job : ℕ) → (old new : S) → Type 0
AtEnd ends true job old new = (page : Option Page) × ends old job page new
AtEnd ends false job old new = new ≡ old
