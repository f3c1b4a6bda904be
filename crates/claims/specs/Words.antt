-- How an error is told.
use Rattle.std.specs.Prelude.{ℕ, List, codes}
use Rattle.claims.specs.declared.table.OpenError.{OpenError}
use Rattle.claims.specs.declared.table.OpenError.TheVariants.{OverCapacity, Full, Memory}

-- its number and its name
abbrev pub error_words : OpenError → List ℕ
error_words OverCapacity = codes "21 OverCapacity"
error_words Full = codes "22 Full"
error_words Memory = codes "12 Memory"
