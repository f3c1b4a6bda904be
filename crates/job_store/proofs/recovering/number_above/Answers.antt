use Rattle.std.proofs.Common.{◌≡◌, ◌<◌, ◌≤◌, ◌==◌, ℕ, false, get_or, ◌∙◌, arith}
use Rattle.std.proofs.lemmas.Bool.Decides.{nat_tests}
use Rattle.std.proofs.lemmas.Grind.{common_steps}
use Rattle.std.proofs.lemmas.List.Sums.{count_by_more_no}
use Rattle.job_store.proofs.recovering.number_above.Goals as goal
use Rattle.job_store.proofs.recovering.number_above.Goals.{then-number-next+in_ok-next, else-number-next}

other : (number n : ℕ) → number < n → (number == n) ≡ false
other number n less = grind (arith, nat_tests)

pub loop-number-preserved : goal.loop-number-preserved
loop-number-preserved c = record {
  first = elim c.if-number-next.branch [
    | then-number-next+in_ok-next w ↦ omega (
      arith,
      w.in_ok-next.ensures,
      c.loop-number.invariant.first,
    )
    | else-number-next w ↦ omega (arith, c.loop-number.invariant.first)
  ];
  above = λ n le.
      let here : get_or c.args.numbers.now c.loop-number.number-index 0 < n = elim c.if-number-next.branch [
        | then-number-next+in_ok-next
            w ↦ omega (arith, w.in_ok-next.ensures)
        | else-number-next w ↦ omega arith
      ] in
      let before : c.loop-number.next ≤ n = elim c.if-number-next.branch [
        | then-number-next+in_ok-next w ↦ omega (
          arith,
          w.in_ok-next.ensures,
        )
        | else-number-next w ↦ omega arith
      ] in
      count_by_more_no (λ number. number == n) c.args.numbers.now c.loop-number.number-index 0 (omega arith) (other _ n here)
      ∙ c.loop-number.invariant.above n before;
}

pub returns-clause-above : goal.returns-clause-above
returns-clause-above c n le = grind (arith, common_steps, c.loop-number.invariant.above n le)
