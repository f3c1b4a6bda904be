use Rattle.std.proofs.Common.{◌≡◌, ◌∙◌, ap, refl, sym}
use Rattle.std.proofs.lemmas.Bool.{iff_false}
use Rattle.segment_text.specs.Seen.{begin_seen, start_seen}
use Rattle.segment_audit.specs.Audited.{amid}
use Rattle.segment_audit.proofs.Arms.{amid_counts, amid_freed, amid_since, denied, is_amid, only_amid}
use Rattle.segment_audit.proofs.course.Course.comes_to.Goals as goal

pub returns : goal.returns
returns c = λ v x.
    let k = c.args.self.now in
    let s = start_seen c.args.start.now in
    let e = ap begin_seen c.in-Amid.is in
    let counted = c.has_counted.ensures.0 c.if-not-has_counted.false in
    let since = c.is_same.ensures.0 c.if-not-is_same.false ∙ c.entries.ensures in (
      λ t. is_amid k s c.in-Amid.since c.in-Amid.freed c.args.more v x counted e since c.requires (c.is_sum.ensures.0 t),
      λ goes. c.is_sum.ensures.1 (amid_freed k s c.in-Amid.since c.in-Amid.freed c.args.more v x e c.requires goes),
    )

pub returns-in_default : goal.returns-in_default
returns-in_default c = λ v x.
    let s = start_seen c.args.start.now in
    denied (s ≡ amid v) (only_amid c.args.start.now.begin s v refl c.in_default.not-Amid)

pub returns-then-not-has_counted : goal.returns-then-not-has_counted
returns-then-not-has_counted c = λ v x.
    let s = start_seen c.args.start.now in
    denied (s ≡ amid v) (λ goes. iff_false c.has_counted.ensures c.if-not-has_counted.true (amid_counts c.args.self.now s v x goes))

pub returns-then-not-is_same : goal.returns-then-not-is_same
returns-then-not-is_same c = λ v x.
    let s = start_seen c.args.start.now in
    let e = ap begin_seen c.in-Amid.is in
    denied (s ≡ amid v) (λ goes. iff_false c.is_same.ensures c.if-not-is_same.true (amid_since c.args.self.now s c.in-Amid.since c.in-Amid.freed v x e goes ∙ sym c.entries.ensures))
