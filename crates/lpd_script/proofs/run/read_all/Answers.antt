use Rattle.std.proofs.Common.{◌≡◌, ◌≤◌, ◌+◌, inl, inr, refl, rules, arith}
use Rattle.std.proofs.lemmas.Result.{err_from_is_err_and}
use Rattle.lpd_commands.specs.Ends.{most_reads}
use Rattle.lpd_commands.proofs.Writing.{counts_one}
use Rattle.lpd_script.proofs.ReadLemmas.{HasGiven-none, HasGiven-more, HasGivenAll-end}
use Rattle.lpd_script.proofs.run.read_all.Goals as goal

pub loop-init : goal.loop-init
loop-init g c = record {
  given = rw c.new-all.ensures.items (HasGiven-none _);
  faults = search rules;
  room = search rules;
  reads = refl;
  within = omega (arith);
  many = omega (arith);
}

pub loop-preserved : goal.loop-preserved
loop-preserved g c = record {
  given = rw c.in_ok-extend_from_slice.ensures.items
      (HasGiven-more _ _ _ _ _ _ c.loop.invariant.given c.in-Ok.ensures.octets);
  faults = search rules;
  room = search rules;
  reads = counts_one c.loop.counter _ _ _ c.loop.invariant.reads c.read.ensures.counts;
  within = omega (arith, c.loop-test.true, c.loop.auto.counter-end);
  many = search rules;
}

pub returns-then-count-eq0-clause-all : goal.returns-then-count-eq0-clause-all
returns-then-count-eq0-clause-all g c =
    HasGivenAll-end _ _ _ _ _ c.loop.invariant.given (rw c.if-count-eq0.true at c.in-Ok.ensures.octets)
    (omega (arith, c.loop.invariant.room))

pub returns-clause-given_up : goal.returns-clause-given_up
returns-clause-given_up g c e =
    let all : c.loop.counter ≡ most_reads = omega (arith, c.loop.invariant.within, c.loop.auto.counter-end, c.loop-test.false) in
    inr (c.loop.counter, all, c.loop.invariant.reads)

pub returns-in_default-clause-given_up : goal.returns-in_default-clause-given_up
returns-in_default-clause-given_up g c e = inl (search rules)

pub returns-in_default-clause-reads : goal.returns-in_default-clause-reads
returns-in_default-clause-reads g c =
    let most : c.loop.counter + 1 ≤ most_reads = omega (arith, c.loop-test.true, c.loop.auto.counter-end) in
    (c.loop.counter + 1, most, counts_one c.loop.counter _ _ _ c.loop.invariant.reads c.read.ensures.counts)

pub returns-then-count-eq0-clause-reads : goal.returns-then-count-eq0-clause-reads
returns-then-count-eq0-clause-reads g c =
    let most : c.loop.counter + 1 ≤ most_reads = omega (arith, c.loop-test.true, c.loop.auto.counter-end) in
    (c.loop.counter + 1, most, counts_one c.loop.counter _ _ _ c.loop.invariant.reads c.read.ensures.counts)

pub returns-in_err-extend_from_slice-clause-given_up : goal.returns-in_err-extend_from_slice-clause-given_up
returns-in_err-extend_from_slice-clause-given_up g c e =
    let returned = err_from_is_err_and c.from_residual.result c.from_residual.ensures.1 in
    let is = returned.1 in
    let gives = returned.2 in
    cc

pub returns-in_err-extend_from_slice-clause-reads : goal.returns-in_err-extend_from_slice-clause-reads
returns-in_err-extend_from_slice-clause-reads g c =
    let most : c.loop.counter + 1 ≤ most_reads = omega (arith, c.loop-test.true, c.loop.auto.counter-end) in
    (c.loop.counter + 1, most, counts_one c.loop.counter _ _ _ c.loop.invariant.reads c.read.ensures.counts)

pub returns-clause-reads : goal.returns-clause-reads
returns-clause-reads g c = (c.loop.counter, c.loop.invariant.within, c.loop.invariant.reads)
