use Rattle.std.proofs.Common.{inl, inr, refl, rules}
use Rattle.segment_text.specs.Heads.{start_line}
use Rattle.segment_text.specs.Reading.{start_of}
use Rattle.segment_text.specs.Seen.{IsStart, start_seen}
use Rattle.segment_text.proofs.HeadsBack.{start_back, none_has, other_has}
use Rattle.segment_text.proofs.read.parse_start.Goals as goal

pub returns-else-eq : goal.returns-else-eq
returns-else-eq c =
    inr (
      refl,
      other_has start_of start_line IsStart start_back c.args.line.now (start_seen c.in_ok-start.start) c.in_ok-start.ensures (λ same. (
          let w = c.in_ok-written.ensures in
          let v = c.as_slice.ensures.value in
          let e = c.eq.ensures in
          let f = c.if-eq.false in
          let g = c.if-eq.ensures in
          search (rules, same, w, v, e, f, g))),
    )

pub returns-in_err-start : goal.returns-in_err-start
returns-in_err-start c =
    elim c.in_err-start.ensures [
      | inl m ↦ search (rules, m)
      | inr b ↦ (let n = none_has start_of start_line IsStart start_back c.args.line.now b.1 in search (rules, b, n))
    ]
