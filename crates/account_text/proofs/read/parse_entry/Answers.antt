use Rattle.std.proofs.Common.{inl, inr, refl, rules}
use Rattle.account.specs.Seen.{event_seen}
use Rattle.account_text.proofs.ReadBack.{nothing_read, other_line}
use Rattle.account_text.proofs.read.parse_entry.Goals as goal

pub returns-else-eq : goal.returns-else-eq
returns-else-eq c =
    inr (
      refl,
      other_line c.args.line.now (event_seen c.in_ok-entry.entry) c.in_ok-entry.ensures (λ same. (
          let w = c.in_ok-written.ensures.line in
          let v = c.as_slice.ensures.value in
          let e = c.eq.ensures in
          let f = c.if-eq.false in
          let g = c.if-eq.ensures in
          search (rules, same, w, v, e, f, g))),
    )

pub returns-in_err-entry : goal.returns-in_err-entry
returns-in_err-entry c =
    elim c.in_err-entry.ensures [
      | inl m ↦ search (rules, m)
      | inr b ↦ (let n = nothing_read c.args.line.now b.1 in search (rules, b, n))
    ]
