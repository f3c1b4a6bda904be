-- How an error is told.
use Rattle.std.specs.Prelude.{ℕ, List, codes}
use Rattle.page_chain.specs.declared.error.ChainError.{ChainError}
use Rattle.page_chain.specs.declared.error.ChainError.TheVariants.{NameTaken, FilesFull}

-- its number and its name
abbrev pub error_words : ChainError → List ℕ
error_words NameTaken = codes "7 NameTaken"
error_words FilesFull = codes "8 FilesFull"
