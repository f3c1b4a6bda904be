use Rattle.std.proofs.Common.{◌≡◌, ℕ, ◌≤◌, nat_lt, filter, length, vec_capacity, take}
use Rattle.page_chain.specs.Changes.{numbers_of}
use Rattle.page_chain.specs.Held.{names_in, run_at}
use Rattle.page_chain.proofs.prints.list_prints.Given as goal

abbrev pub invariant-names : goal.invariant-names
invariant-names l = record {
  listed : l.prints.items ≡ filter (λ (i : ℕ). nat_lt 0 (run_at l.files i).pages) (numbers_of (names_in l.files) (take l.name-index l.names));
  count : length l.prints.items ≤ l.name-index;
  capacity : vec_capacity l.initial.prints ≤ vec_capacity l.prints;
}
