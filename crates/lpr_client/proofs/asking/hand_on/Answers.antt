use Rattle.std.proofs.Common.{◌≡◌, ◌≤◌, ◌∙◌, arith, inl, inr, length, refl, rules}
use Rattle.std.proofs.lemmas.Result.{err_from_is_err_and}
use Rattle.lpd_commands.specs.Ends.{most_reads}
use Rattle.lpr_client.proofs.AskLemmas.{hands_all, hands_more, hands_none, stops_at_once, stops_reading, stops_writing}
use Rattle.lpr_client.proofs.asking.hand_on.Goals as goal

pub loop-init : goal.loop-init
loop-init g c = record {
  hands = hands_none _ _ _ _ c.in_ok-write_on.ensures.ok;
  reader_faults = search rules;
  output_faults = search rules;
  room = search rules;
  within = omega (arith);
}

pub loop-preserved : goal.loop-preserved
loop-preserved g c = record {
  hands = hands_more _ _ _ _ _ _ _ _ _ _ c.loop.invariant.hands c.in-Ok.ensures.octets (search rules) c.in_ok-write_on-2.ensures.ok;
  reader_faults = search rules;
  output_faults = search rules;
  room = search rules;
  within = omega (arith, c.loop-test.true, c.loop.auto.counter-end);
}

pub returns-in_err-write_on-clause-err : goal.returns-in_err-write_on-clause-err
returns-in_err-write_on-clause-err g c =
    let p = err_from_is_err_and c.from_residual.result c.from_residual.ensures.1 in
    rw p.1 (inr (p.2 ∙ c.in_err-write_on.ensures.err.0), stops_at_once _ _ _ _ c.in_err-write_on.ensures.err.1)

pub returns-in_err-write_on-2-clause-err : goal.returns-in_err-write_on-2-clause-err
returns-in_err-write_on-2-clause-err g c =
    let r = c.from_residual-in_err-write_on-2 in
    let p = err_from_is_err_and r.result r.ensures.1 in
    rw p.1
    (inr (p.2 ∙ c.in_err-write_on-2.ensures.err.0), stops_writing _ _ _ _ _ _ _ _ _ _ c.loop.invariant.hands c.in-Ok.ensures.octets c.in_err-write_on-2.ensures.err.1)

pub returns-in_default-clause-err : goal.returns-in_default-clause-err
returns-in_default-clause-err g c =
    (inl refl, stops_reading _ _ _ _ _ _ _ c.loop.invariant.hands (search rules))

pub returns-in_default-clause-read_fault : goal.returns-in_default-clause-read_fault
returns-in_default-clause-read_fault g c e = inl (search rules)

pub returns-then-count-eq0-clause-ok : goal.returns-then-count-eq0-clause-ok
returns-then-count-eq0-clause-ok g c =
    hands_all _ _ _ _ _ _ _ _ c.loop.invariant.hands (rw c.if-count-eq0.true at c.in-Ok.ensures.octets)
    (omega (arith, c.loop.invariant.room))

pub returns-clause-err : goal.returns-clause-err
returns-clause-err g c =
    (inl refl, stops_reading _ _ _ _ _ _ _ c.loop.invariant.hands refl)

pub returns-clause-read_fault : goal.returns-clause-read_fault
returns-clause-read_fault g c e =
    let h = c.loop.invariant.hands in
    let all : c.loop.counter ≡ most_reads = omega (arith, c.loop.invariant.within, c.loop.auto.counter-end, c.loop-test.false) in
    inr (h.0, h.1, omega (arith, all, h.3))
