use Rattle.std.proofs.Common.{ℕ, List, subst, sym}
use Rattle.std.specs.Prelude.{Result, Ok, Err}
use Rattle.spool_history.specs.Base.{Base}
use Rattle.spool_history.specs.Events.{Event}
use Rattle.spool_history.specs.Refusals.{TakesJobs}
use Rattle.spool_calls.specs.Looks.{Detail, What}
use Rattle.spool_calls.specs.Kept.{Kept, left_by}
use Rattle.spool_calls.specs.Calls.{IsRight}
use Rattle.spool_core.specs.declared.removing.Unremoved.{Unremoved}
use Rattle.spool_core.specs.declared.removing.Unremoved.TheVariants.{Stays}
use Rattle.spool_core.specs.Halves.{FindsQueue, MayRemove}
use Rattle.spool_core.specs.Inside.{core_view}
use Rattle.spool_core.specs.Removal.{FindsJobs, IsFirstLeft, IsRemovable}
use Rattle.spool_core.proofs.Cores.{stays}
use Rattle.spool_core.proofs.Removable.{first, may, runs}
use Rattle.spool_core.proofs.core_state.Core.removable.Goals as goal

abbrev Finds : List ℕ → List ℕ → Result ℕ Unremoved → Kept → (d : Detail) → Base → List (Event (What d)) → Type 0
Finds name numbers r k d b h = FindsJobs d b h k name numbers r

abbrev Takes : ℕ → List ℕ → Kept → (d : Detail) → Base → List (Event (What d)) → Type 0
Takes q numbers k d b h = MayRemove d b h k q numbers

-- what was found of the queue
abbrev Queue : List ℕ → ℕ → Kept → Type 0
Queue name q k = IsRight k (λ d b h. FindsQueue d b h k name (Ok q))

pub returns-in-Some-clause-answer : goal.returns-in-Some-clause-answer
returns-in-Some-clause-answer c =
    let k = core_view c.self.inside in
    let q = c.in_ok-number.number in
    let name = c.args.queue.now in
    let numbers = c.args.numbers.now in
    let n = c.in-Some.left in
    let queue = subst (Queue name q) (sym c.self.view_is) c.in_ok-number.ensures.answer in
    stays k c.args.self.now (Finds name numbers (Err (Stays n))) c.self.view_is
    (λ d b h l.
    let f = queue d b h l in
    subst (λ (m : ℕ). TakesJobs (left_by d b h k) m × IsFirstLeft (IsRemovable d b h k m) numbers n) (sym f.0) (f.1, first d b h k l q numbers n c.in-Some.ensures))

pub returns-in-None-clause-answer : goal.returns-in-None-clause-answer
returns-in-None-clause-answer c =
    let k = core_view c.self.inside in
    let q = c.in_ok-number.number in
    let name = c.args.queue.now in
    let numbers = c.args.numbers.now in
    let queue = subst (Queue name q) (sym c.self.view_is) c.in_ok-number.ensures.answer in
    stays k c.args.self.now (Finds name numbers (Ok q)) c.self.view_is
    (λ d b h l.
    let f = queue d b h l in
    (f.0, f.1, runs d b h k l q numbers _ c.in-None.ensures))

pub returns-in-None-clause-takes : goal.returns-in-None-clause-takes
returns-in-None-clause-takes c =
    let k = core_view c.self.inside in
    let q = c.in_ok-number.number in
    let numbers = c.args.numbers.now in
    let queue = subst (Queue c.args.queue.now q) (sym c.self.view_is) c.in_ok-number.ensures.answer in
    stays k c.args.self.now (Takes q numbers) c.self.view_is
    (λ d b h l. may d b h k l q numbers (queue d b h l).1 c.in-None.ensures)
