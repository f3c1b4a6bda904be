use Rattle.std.proofs.Common.{inr, refl, rules}
use Rattle.config_values.specs.Ranges.{IsConfig}
use Rattle.segment_text.specs.Heads.{config_line}
use Rattle.segment_text.specs.Reading.{config_of}
use Rattle.segment_text.proofs.HeadsBack.{config_back, other_has}
use Rattle.segment_text.proofs.config.parse_config.Goals as goal

pub returns-else-eq : goal.returns-else-eq
returns-else-eq c =
    inr (
      refl,
      other_has config_of config_line IsConfig config_back c.args.line.now c.in_ok-config.config c.in_ok-config.ensures (λ same. (
          let w = c.in_ok-written.ensures in
          let v = c.as_slice.ensures.value in
          let e = c.eq.ensures in
          let f = c.if-eq.false in
          let g = c.if-eq.ensures in
          search (rules, same, w, v, e, f, g))),
    )
