-- What a core makes of a request.
use Rattle.std.specs.Prelude.{◌≡◌, ℕ, Option, Result}
use Rattle.config_values.specs.Ranges.{IsConfig}
use Rattle.page_pool.specs.Page.{Page}
use Rattle.receiver.specs.Script.{Request}
use Rattle.spool_calls.specs.declared.answers.ReturnedTicket.{ReturnedTicket}
use Rattle.spool_calls.specs.Kept.{Kept}
use Rattle.spool_calls.specs.Calls.{IsRight, Aborts}
use Rattle.spool_requests.specs.declared.answer.Answer.{Answer}
use Rattle.spool_requests.specs.Follows.{Follows, from_session}

-- After every history that leads to where the core was the answer to the request is the one that is due, and the core is
-- where that history leads with the event that the request shows.
pub record Carries (old : Kept) (sender job : ℕ) (r : Request) (answer : Answer) (new : Kept) : Type 0 where
  pub config : new.config ≡ old.config
  pub follows : IsConfig old.config → IsRight old (λ d b h. Follows d b h old new (from_session sender job r) answer)

-- the job is aborted with the page, whatever is answered
pub record Ends (old : Kept) (job : ℕ) (page : Option Page) (new : Kept) : Type 0 where
  pub config : new.config ≡ old.config
  pub aborts : IsRight old (λ d b h. (result : Result (Unit {0}) ReturnedTicket) × Aborts d b h old job page new result)
