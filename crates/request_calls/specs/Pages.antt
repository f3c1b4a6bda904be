-- The page that comes with an answer.
use Rattle.std.specs.Prelude.{◌≡◌, ℕ, Bool, true, false, [], Option, Some, None}
use Rattle.page_pool.specs.Page.{Page}
use Rattle.receiver.specs.Script.{Request, AskPage, Filled}
use Rattle.spool_calls.specs.declared.answers.Asked.{Asked}
use Rattle.spool_calls.specs.declared.answers.Asked.TheVariants as asked
use Rattle.spool_requests.specs.declared.answer.Answer.{Answer}
use Rattle.spool_requests.specs.declared.answer.Answer.TheVariants.{Lent, Refused}

-- a page that is lent has nothing on it
abbrev pub IsBlank : Asked → Type 0
IsBlank (asked.Page ticket) = ticket.octets ≡ []
IsBlank asked.Later = Unit {0}

-- the size of the page that comes with an answer: the one that is lent, and one that was to be put
-- and was refused
abbrev pub page_with : Request → Answer → Option ℕ
page_with AskPage (Lent page_size) = Some page_size
page_with (Filled page) (Refused refusal) = Some page.page_size
page_with _ _ = None

-- a page with nothing on it
abbrev pub blank : Option ℕ → Option Page
blank None = None
blank (Some size) = Some (record { octets = []; page_size = size })

-- with a page that is lent comes the page
abbrev pub IsLentPage : Answer → Option Page → Type 0
IsLentPage (Lent page_size) page = page ≡ blank (Some page_size)
IsLentPage _ page = Unit {0}

abbrev pub is_lent : Answer → Bool
is_lent (Lent page_size) = true
is_lent _ = false

-- the first of two pages that is there
abbrev pub first_page : Option Page → Option Page → Option Page
first_page None page = page
first_page (Some page) other = Some page
