use Rattle.std.proofs.Common.{inl, inr, refl, rules}
use Rattle.segment_text.specs.Heads.{last_line}
use Rattle.segment_text.specs.Reading.{last_of}
use Rattle.segment_text.specs.Seen.{IsLast, last_seen}
use Rattle.segment_text.proofs.HeadsBack.{last_back, none_has, other_has}
use Rattle.segment_text.proofs.read.parse_last.Goals as goal

pub returns : goal.returns
returns c =
    inr (
      refl,
      other_has last_of last_line IsLast last_back c.args.line.now (last_seen c.in_ok-last.last) c.in_ok-last.ensures (λ same. (
          let w = c.in_ok-written.ensures in
          let v = c.as_slice.ensures.value in
          let e = c.eq.ensures in
          let f = c.if-eq.false in
          let g = c.if-eq.ensures in
          search (rules, same, w, v, e, f, g))),
    )

pub returns-in_err-last : goal.returns-in_err-last
returns-in_err-last c =
    elim c.in_err-last.ensures [
      | inl m ↦ search (rules, m)
      | inr b ↦ (let n = none_has last_of last_line IsLast last_back c.args.line.now b.1 in search (rules, b, n))
    ]
