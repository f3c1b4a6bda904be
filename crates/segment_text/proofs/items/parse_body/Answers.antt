use Rattle.std.proofs.Common.{inl, inr, rules}
use Rattle.account_text.specs.Meant.{MeansNothing}
use Rattle.segment_text.specs.Seen.{last_seen}
use Rattle.segment_text.proofs.InTurn.{none_body, only_last}
use Rattle.segment_text.proofs.items.parse_body.Goals as goal

pub returns-in_ok-last-in-Err-Bad : goal.returns-in_ok-last-in-Err-Bad
returns-in_ok-last-in-Err-Bad c =
    let nothing : MeansNothing c.args.line.now =
    elim c.in-Err-Bad.ensures [
      | inl m ↦ absurd (let is = c.in-Err-Bad.field-0-is in cc)
      | inr b ↦ b.1
    ] in
    (c.in_ok-last-in-Err-Bad.ensures.0, tt, only_last c.args.line.now (last_seen c.in_ok-last-in-Err-Bad.last) nothing c.in_ok-last-in-Err-Bad.ensures.1)

pub returns-in_err-last-in-Err-Bad : goal.returns-in_err-last-in-Err-Bad
returns-in_err-last-in-Err-Bad c =
    let nothing : MeansNothing c.args.line.now =
    elim c.in-Err-Bad.ensures [
      | inl m ↦ absurd (let is = c.in-Err-Bad.field-0-is in cc)
      | inr b ↦ b.1
    ] in
    elim c.in_err-last-in-Err-Bad.ensures [
      | inl m ↦ search (rules, m)
      | inr b ↦ (let n = none_body c.args.line.now nothing b.1 in search (rules, b, n))
    ]
