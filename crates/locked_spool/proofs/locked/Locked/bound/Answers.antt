use Rattle.locked_spool.proofs.Sums.{handed_fits}
use Rattle.locked_spool.proofs.locked.Locked.bound.Goals as goal

pub returns-clause-bound : goal.returns-clause-bound
returns-clause-bound g c =
    let i = c.self.invariant in
    handed_fits _ _ _ _ c.self.inside.account.kept c.bound.ensures.bound i.handed i.few_handed i.few c.len-entries.ensures.within
