use Rattle.std.proofs.Common.{◌∙◌, subst}
use Rattle.account.specs.Seen.{base_seen}
use Rattle.config_values.specs.Ranges.{IsConfig}
use Rattle.spool_calls.specs.Looks.Detail.{Outlines}
use Rattle.locked_spool.proofs.Beginning.{begun}
use Rattle.locked_spool.proofs.locked.Locked.new.Goals as goal

pub invariant_of-locked : goal.invariant_of-locked
invariant_of-locked g c =
    let s = c.in-Ok-new.ensures in
    let r = c.in-Ok.ensures in
    begun g.E.SpoolLedger.config c.in-Ok-new.core (base_seen c.first.result) c.reserve.new.self.events c.reserve.new.self.kept c.reserve.new.self.room c.open-books.result.0 (s.config ∙ c.requires.config) (subst IsConfig (s.config ∙ c.requires.config) s.ranges) (s.left Outlines)
    c.first.ensures (r.events ∙ c.new-account.ensures.events) (r.kept ∙ c.new-account.ensures.kept) r.room c.open-books.ensures.books
