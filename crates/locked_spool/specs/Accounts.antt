-- What an account is of what happened: its outline, each page by its length and digest.
use Rattle.std.specs.Prelude.{ℕ, List}
use Rattle.account.specs.Seen.{octets}
use Rattle.config_values.specs.Config.{Config}
use Rattle.spool_history.specs.Base.{Base}
use Rattle.spool_history.specs.Events.{Event}
use Rattle.spool_history.specs.Legal.{IsLegal}
use Rattle.spool_laws.specs.Outline.{outline}
use Rattle.spool_calls.specs.Looks.{outline_of, size}
use Rattle.spool_calls.specs.Looks.Detail.{Octets}

-- the outline of a legal history of octets is a legal account
abbrev pub AccountsAreOutlines : Type 0
AccountsAreOutlines =
    (c : Config) (b : Base) (h : List (Event (List ℕ))) → IsLegal (size Octets) c b h
    → IsLegal octets c b (outline outline_of h)
