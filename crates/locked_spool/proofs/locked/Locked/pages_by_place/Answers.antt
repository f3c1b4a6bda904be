use Rattle.std.proofs.Common.{◌∙◌, ap}
use Rattle.config_values.specs.Config.{Config}
use Rattle.spool_calls.specs.Looks.Detail.{Outlines}
use Rattle.locked_spool.proofs.locked.Locked.pages_by_place.Goals as goal

pub returns-clause-all : goal.returns-clause-all
returns-clause-all g c =
    let kept = c.self.invariant in
    (c.pages_by_place.ensures Outlines _ _ kept.left).all ∙ ap (λ (k : Config). k.pages) kept.config_is
