use Rattle.std.proofs.Common.{◌≡◌, ◌<◌, List, ap, arith, get_or, length, subst, sym, ◌∙◌}
use Rattle.std.proofs.lemmas.List.{get_or_default}
use Rattle.parked_lines.specs.declared.job.ParkedJob.{ParkedJob}
use Rattle.parked_lines.proofs.LineLemmas.{none_here, rising_same}
use Rattle.parked_lines.proofs.line.QueueLine.place_of.Goals as goal
use Rattle.parked_lines.proofs.line.QueueLine.place_of.Goals.{else-place-len-via-then-place-len+else-index-number, else-place-len-via-else-place-len}

pub returns-else-place-len : goal.returns-else-place-len
returns-else-place-len c =
    none_here _ c.seek-place.result _ (rising_same _ _ c.self.view_is c.self.invariant) c.seek-place.ensures.before c.seek-place.ensures.from
    (λ d within. elim c.else-place-len.branch [
      | else-place-len-via-then-place-len+else-index-number w ↦ λ e.
          let read : w.index.result.now ≡ get_or c.args.self.now c.seek-place.result w.index.result.now = rw (← c.self.view_is) w.index.ensures in
          let same = get_or_default c.args.self.now c.seek-place.result w.index.result.now d within in
          w.if-index-number.false (ap (λ (job : ParkedJob). job.number) (read ∙ same) ∙ e)
      | else-place-len-via-else-place-len w ↦ λ _.
          let P : List ParkedJob → Type 0 = λ list. c.seek-place.result < length list in
          let inside : c.seek-place.result < length c.self.inside.jobs.items = subst P (sym c.self.view_is) within in
          absurd (omega (arith, inside, c.self.inside.jobs.ok))
    ])
