-- What is left of a row once the pages of files went back to the pool.
use Rattle.std.specs.Prelude.{ℕ, zero, suc, ◌+◌, ◌&&◌, not, nat_lt, List, [], ◌∷◌, length, if◌then◌else◌}
use Rattle.page_pool.specs.Page.{Page}
use Rattle.page_nodes.specs.Chains.{Chains}
use Rattle.page_chain.specs.declared.run.Run.{Run}
use Rattle.page_chain.specs.Changes.{is_among}
use Rattle.page_chain.specs.Held.{pages_in}

-- how many pages the first files of a row have together, but for those of these numbers
abbrev pub dropped_in : Chains → ℕ → List ℕ → ℕ → ℕ
dropped_in nodes row numbers zero = 0
dropped_in nodes row numbers (suc i) =
    dropped_in nodes row numbers i + (if is_among numbers i then 0 else length (pages_in nodes row i))

-- what the file of the number i has then, where the first `files` files went
abbrev pub left_in : Chains → ℕ → List ℕ → ℕ → ℕ → List Page
left_in nodes row numbers files i = if nat_lt i files && not (is_among numbers i) then [] else pages_in nodes row i

-- the files, the first of which has the number n, all others than those of these numbers without a page
abbrev pub runs_kept : ℕ → List ℕ → List Run → List Run
runs_kept n numbers [] = []
runs_kept n numbers (run ∷ files) = (if is_among numbers n then run else record run { pages = 0 }) ∷ runs_kept (suc n) numbers files
