use Rattle.std.proofs.Common.{◌≡◌, ◌≤◌, All, None, Option}
use Rattle.std.specs.Vec.{vec_capacity, vec_len}
use Rattle.spool_calls.specs.declared.handed.HandedPage.{HandedPage}
use Rattle.spool_world.proofs.world.no_pages.Given as goal

abbrev pub invariant-loop : goal.invariant-loop
invariant-loop l =
    (vec_len l.pages ≡ l.counter) × (l.printers ≤ vec_capacity l.pages) × All (λ (page : Option HandedPage). page ≡ None) l.pages.items
