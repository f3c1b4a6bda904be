-- The exit status where words ask for nothing that is done.
use Rattle.std.specs.Prelude.{◌≡◌, ◌⊎◌, ℕ}
use Rattle.program_words.specs.declared.words.Unread.{Unread}
use Rattle.program_words.specs.declared.words.Unread.TheVariants.{Shown, Refused, Memory}

-- 0 for a text that was asked for, or 4 where it can't be written; 1 for words that can't be read; 4 for memory
abbrev pub IsUnreadStatus : Unread → ℕ → Type 0
IsUnreadStatus (Shown text) status = (status ≡ 0) ⊎ (status ≡ 4)
IsUnreadStatus (Refused text) status = status ≡ 1
IsUnreadStatus Memory status = status ≡ 4
