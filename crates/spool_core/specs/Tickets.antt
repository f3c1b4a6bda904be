-- A page that is lent.
use Rattle.std.specs.Prelude.{◌≡◌, ℕ, []}
use Rattle.spool_calls.specs.declared.answers.Asked.{Asked}
use Rattle.spool_calls.specs.declared.answers.Asked.TheVariants as asked

-- a page that is lent has nothing on it, and is of this size
abbrev pub IsBlank : ℕ → Asked → Type 0
IsBlank page_size (asked.Page ticket) = (ticket.octets ≡ []) × (ticket.page_size ≡ page_size)
IsBlank page_size asked.Later = Unit {0}
