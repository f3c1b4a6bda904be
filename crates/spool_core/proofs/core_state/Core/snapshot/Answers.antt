use Rattle.std.proofs.Common.{refl, ◌∙◌}
use Rattle.spool_core.specs.Inside.{core_view}
use Rattle.spool_core.proofs.Seen.{seen}
use Rattle.spool_core.proofs.core_state.Core.snapshot.Goals as goal

pub returns : goal.returns
returns c =
    seen (core_view c.self.inside) c.args.self.now _ c.self.view_is
    (record {
      jobs = c.in_ok-seen_jobs.ensures;
      claims = c.in_ok-copy.ensures;
      printers = c.in_ok-from_slice.ensures.items ∙ c.as_slice.ensures.value;
      accepted = refl;
      reserved = refl;
      closed = refl;
    })
    c.pages_by_place.ensures
