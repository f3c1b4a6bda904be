-- How a book holds its jobs.
use Rattle.std.specs.Prelude.{◌≡◌, ℕ, ◌<◌, ◌≤◌, ◌^◌, false, Some, None, List, [], length, map, slice_index_or}
use Rattle.lpd_values.specs.declared.limits.TheConstants.{MAX_FILES}
use Rattle.slab.specs.Slab.{Slab, get, slab_len}
use Rattle.page_nodes.specs.Chains.{Chains, AreOfSize, total}
use Rattle.page_chain.specs.Files.{every_page}
use Rattle.page_chain.specs.Held.{Kept, IsFreeRow, IsHeld, shown}
use Rattle.held_jobs.specs.Jobs.{HeldJob, new_facts}
use Rattle.held_jobs.specs.Books.{Books}
use Rattle.queues.specs.declared.entry.Entry.{Entry}

-- what is seen of an entry among the nodes
abbrev pub seen : Chains → Entry → HeldJob
seen nodes e = record { facts = e.job; chain = shown e.chain nodes }

abbrev pub seen_jobs : Chains → List (ℕ × Entry) → List HeldJob
seen_jobs nodes es = map {A = ℕ × Entry} {B = HeldJob} (λ (e : ℕ × Entry). seen nodes e.1) es

-- what is seen of a book
abbrev pub book_of : Chains → List (ℕ × Entry) → ℕ → ℕ → ℕ → Books
book_of nodes es max_jobs pages page_size = record {
  jobs = seen_jobs nodes es;
  stored = total nodes.chains;
  max_jobs = max_jobs;
  pages = pages;
  page_size = page_size;
}

abbrev pub no_chain : Kept
no_chain = record { row = 0; files = []; is_open = false; prints = []; turned = 0; last = None; file_room = MAX_FILES }

abbrev pub no_entry : ℕ × Entry
no_entry = (0, record { job = new_facts 0 0 0; chain = no_chain; row = 0 })

abbrev pub entry_at : List (ℕ × Entry) → ℕ → ℕ × Entry
entry_at es i = slice_index_or es i no_entry

-- an entry has its job's number as its key, and a row of its own, which the nodes hold
pub record IsEntry (nodes : Chains) (rows : Slab ℕ) (size : ℕ) (e : ℕ × Entry) : Type 0 where
  pub key : e.0 ≡ e.1.job.number
  pub row : e.1.row ≡ e.1.chain.row
  pub held : IsHeld e.1.chain nodes
  pub room : e.1.chain.file_room ≡ MAX_FILES
  pub within : e.1.chain.row < rows.capacity
  pub taken : get rows e.1.chain.row ≡ Some e.0
  pub sizes : AreOfSize size (every_page (shown e.1.chain nodes).files)

-- the jobs have rows of their own, all other rows are free, and there is room for all jobs and pages
pub record IsBook (nodes : Chains) (rows : Slab ℕ) (es : List (ℕ × Entry)) (most places size : ℕ) : Type 0 where
  pub entries : (i : ℕ) → i < length es → IsEntry nodes rows size (entry_at es i)
  pub differ : (i j : ℕ) → i < length es → j < length es → (i ≡ j → ⊥) → (entry_at es i).0 ≡ (entry_at es j).0 → ⊥
  pub free : (r : ℕ) → r < rows.capacity → get rows r ≡ None → IsFreeRow nodes r
  pub rows_few : rows.capacity < 2 ^ 32
  pub rows_enough : most ≤ rows.capacity
  pub counted : slab_len rows ≡ length es
  pub fits : length es ≤ most
  pub room : nodes.room ≡ places
