-- How an error is told.
use Rattle.std.specs.Prelude.{ℕ, List, codes}
use Rattle.page_pool.specs.declared.error.PoolError.{PoolError}
use Rattle.page_pool.specs.declared.error.PoolError.TheVariants.{BadSize, Memory}

-- its number and its name
abbrev pub error_words : PoolError → List ℕ
error_words BadSize = codes "20 BadSize"
error_words Memory = codes "12 Memory"
