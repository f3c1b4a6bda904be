use Rattle.std.proofs.Common.{inl, inr, refl, rules}
use Rattle.config_values.specs.Ranges.{IsConfig}
use Rattle.segment_text.specs.Heads.{config_line}
use Rattle.segment_text.specs.Reading.{config_of}
use Rattle.segment_text.proofs.HeadsBack.{config_back, none_has, untold_has}
use Rattle.segment_text.proofs.config.read_config.Goals as goal

pub returns-in_err-pages : goal.returns-in_err-pages
returns-in_err-pages c =
    elim c.in_err-pages.ensures [
      | inl m ↦ search (rules, m)
      | inr b ↦ (let n = none_has config_of config_line IsConfig config_back c.args.line.now b.1 in search (rules, b, n))
    ]

pub returns-in_default : goal.returns-in_default
returns-in_default c = inr (refl, untold_has config_of config_line IsConfig config_back c.args.line.now _ c.in_ok-pages.ensures c.in_default.ensures)
