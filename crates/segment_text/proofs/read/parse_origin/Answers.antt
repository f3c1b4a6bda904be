use Rattle.std.proofs.Common.{inl, inr, refl, rules}
use Rattle.segment_text.specs.Heads.{origin_line}
use Rattle.segment_text.specs.Reading.{origin_of}
use Rattle.segment_text.specs.Seen.{IsOrigin, origin_seen}
use Rattle.segment_text.proofs.HeadsBack.{origin_back, none_has, other_has}
use Rattle.segment_text.proofs.read.parse_origin.Goals as goal

pub returns-else-eq : goal.returns-else-eq
returns-else-eq c =
    inr (
      refl,
      other_has origin_of origin_line IsOrigin origin_back c.args.line.now (origin_seen c.in_ok-origin.origin) c.in_ok-origin.ensures (λ same. (
          let w = c.in_ok-written.ensures in
          let v = c.as_slice.ensures.value in
          let e = c.eq.ensures in
          let f = c.if-eq.false in
          let g = c.if-eq.ensures in
          search (rules, same, w, v, e, f, g))),
    )

pub returns-in_err-origin : goal.returns-in_err-origin
returns-in_err-origin c =
    elim c.in_err-origin.ensures [
      | inl m ↦ search (rules, m)
      | inr b ↦ (let n = none_has origin_of origin_line IsOrigin origin_back c.args.line.now b.1 in search (rules, b, n))
    ]
