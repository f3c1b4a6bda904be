use Rattle.std.proofs.Common.{refl, ap, subst}
use Rattle.std.specs.Prelude.{reverse}
use Rattle.account.specs.Seen.{base_seen, history}
use Rattle.locked_spool.specs.Held.{Held}
use Rattle.locked_spool.specs.Rotation.{AreRest}
use Rattle.locked_spool.proofs.Segments.{headline_parts, in_all, legal_parts, rest}
use Rattle.locked_spool.proofs.locked.Locked.into_segment.Goals as goal

pub returns-clause-segment : goal.returns-clause-segment
returns-clause-segment g c =
    let v = c.self.view_is in
    record {
      number = ap (λ (z : Held). z.number) v;
      before = ap (λ (z : Held). z.before) v;
      kinds_before = ap (λ (z : Held). z.kinds_before) v;
      handed_before = ap (λ (z : Held). z.handed_before) v;
      base = ap (λ (z : Held). z.base) v;
      since = ap (λ (z : Held). z.since) v;
      freed = ap (λ (z : Held). z.freed) v;
      entries = subst (λ (z : Held). AreRest z (history (reverse c.into_entries.result.items))) v (rest c.self.invariant (history (reverse c.into_entries.result.items)) c.into_entries.ensures);
    }

pub returns-clause-legal : goal.returns-clause-legal
returns-clause-legal g c = (let a = c.self.inside in legal_parts c.self.invariant (base_seen a.base) (history (reverse c.into_entries.result.items)) a.since a.freed refl c.into_entries.ensures refl refl)

pub returns-clause-headline : goal.returns-clause-headline
returns-clause-headline g c = (let a = c.self.inside in headline_parts c.self.invariant (base_seen a.base) (history (reverse c.into_entries.result.items)) a.since a.freed refl c.into_entries.ensures refl refl)

pub returns-clause-entries : goal.returns-clause-entries
returns-clause-entries g c = in_all c.self.invariant c.into_entries.result.items c.args.all.now.entries c.into_entries.ensures c.audit.ensures.whole.0
