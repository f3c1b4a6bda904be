use Rattle.std.proofs.Common.{◌↔◌, ℕ, Bool, List}
use Rattle.std.specs.Prelude.{IsTrue}
use Rattle.spool_history.specs.Base.{Base}
use Rattle.spool_history.specs.Events.{Event}
use Rattle.spool_history.specs.Legal.{HasJob}
use Rattle.spool_calls.specs.Looks.{Detail, What}
use Rattle.spool_calls.specs.Kept.{Kept, left_by}
use Rattle.spool_core.specs.Inside.{core_view}
use Rattle.spool_core.specs.Wanted.{GoesOn}
use Rattle.spool_core.proofs.Cores.{stays}
use Rattle.spool_core.proofs.Wanted.{wanted}
use Rattle.spool_core.proofs.core_state.Core.is_wanted.Goals as goal

abbrev Answer : Bool → ℕ → Kept → (d : Detail) → Base → List (Event (What d)) → Type 0
Answer r job k d b h = IsTrue r ↔ HasJob (left_by d b h k).jobs job GoesOn

pub returns : goal.returns
returns c =
    let k = core_view c.self.inside in
    stays k c.args.self.now (Answer c.is_going.result c.args.job) c.self.view_is (λ d b h l. wanted d b h k l c.args.job c.is_going.result c.is_going.ensures)
