use Rattle.std.proofs.Common.{inl, inr, refl, rules, subst, sym}
use Rattle.segment_text.specs.declared.items.Stage.{Stage}
use Rattle.segment_text.proofs.InTurn.{IsNone, none_origin, none_config, none_over}
use Rattle.segment_text.proofs.items.parse_line.Goals as goal

pub returns-in_err-origin-in-Origin : goal.returns-in_err-origin-in-Origin
returns-in_err-origin-in-Origin c =
    elim c.in_err-origin-in-Origin.ensures [
      | inl m ↦ search (rules, m)
      | inr b ↦ (
          let n : IsNone c.args.stage c.args.line.now = subst (λ (s : Stage). IsNone s c.args.line.now) (sym c.in-Origin.is) (none_origin c.args.line.now b.1) in
          search (rules, b, n))
    ]

pub returns-in_err-config-in-Config : goal.returns-in_err-config-in-Config
returns-in_err-config-in-Config c =
    elim c.in_err-config-in-Config.ensures [
      | inl m ↦ search (rules, m)
      | inr b ↦ (
          let n : IsNone c.args.stage c.args.line.now = subst (λ (s : Stage). IsNone s c.args.line.now) (sym c.in-Config.is) (none_config c.args.line.now b.1) in
          search (rules, b, n))
    ]

pub returns-in-Over : goal.returns-in-Over
returns-in-Over c = inr (refl, subst (λ (s : Stage). IsNone s c.args.line.now) (sym c.in-Over.is) (none_over c.args.line.now))
