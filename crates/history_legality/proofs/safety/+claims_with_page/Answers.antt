use Rattle.std.proofs.Common.{◌≡◌, ◌+◌, ◌∷◌, ◌∙◌, ℕ, List, ap, true, map, filter, subst, sym}
use Rattle.std.proofs.lemmas.Bool.{eq-eqb, ne_eqb}
use Rattle.spool_history.specs.Events as E
use Rattle.spool_history.specs.Now.{row_of, is_held}
use Rattle.spool_history.specs.Steps.{change}
use Rattle.account.specs.declared.entry.Outline.{Outline}
use Rattle.history_reader.specs.declared.state.Job as R
use Rattle.history_reader.specs.Seen.{job_seen}
use Rattle.history_legality.specs.declared.orders.Claim.{Claim}
use Rattle.history_legality.specs.Claimed.{rows_seen, with_lent}
use Rattle.history_legality.proofs.LentLaws.{one_held, none_held, lent_one, other_one, held_with_page}
use Rattle.history_legality.proofs.safety.+claims_with_page.Goals as goal
use Rattle.history_legality.proofs.safety.+claims_with_page.Goals.{then-number-job+in_ok-claim+in_ok-insert, else-number-job+then-is_held+in_ok-claim-2+in_ok-insert-2, else-number-job+else-is_held}

pub returns : goal.returns
returns t c =
    let s = c.args.config.now in
    let n = c.args.number in
    let e : E.Event Outline = E.Event.OfJob n E.Act.Granted in
    let job = c.in-Some.job.now in
    let v = job_seen job in
    let rest = c.in-Some.rest.now in
    let before = c.in_ok-claims.claims.items in
    let split : c.args.jobs.now ≡ job ∷ rest = cc (c.in-Some.ensures.cases.0) in
    subst (λ (r : List R.Job). rows_seen s c.if-number-job.claims.items ≡ map (row_of s) (filter is_held (map (change e) (map job_seen r)))) (sym split)
    (elim c.if-number-job.branch [
      | then-number-job+in_ok-claim+in_ok-insert w ↦
          let items : c.if-number-job.claims.items ≡ w.in_ok-claim.claim ∷ before = cc (w.claims-is, w.in_ok-insert.ensures.items) in
          one_held s e v (with_lent (v.granted + 1) true v) (map job_seen rest) c.if-number-job.claims.items before w.in_ok-claim.claim items (lent_one n v (eq-eqb n v.number w.if-number-job.true)) (held_with_page (v.granted + 1) v)
          (w.in_ok-claim.ensures ∙ ap (λ (g : ℕ). row_of s (with_lent (g + 1) true v)) w.from.ensures) c.in_ok-claims.ensures
      | else-number-job+then-is_held+in_ok-claim-2+in_ok-insert-2 w ↦
          let items : c.if-number-job.claims.items ≡ w.in_ok-claim-2.claim ∷ before = cc (w.claims-is, w.in_ok-insert-2.ensures.items) in
          one_held s e v v (map job_seen rest) c.if-number-job.claims.items before w.in_ok-claim-2.claim items (other_one n v (ne_eqb n v.number w.if-number-job.false)) (sym w.is_held.ensures ∙ w.if-is_held.true)
          (w.in_ok-claim-2.ensures ∙ ap (λ (g : ℕ). row_of s (with_lent g v.lent v)) w.from-then-is_held.ensures) c.in_ok-claims.ensures
      | else-number-job+else-is_held w ↦
          let items : before ≡ c.if-number-job.claims.items = cc (w.claims-is) in
          subst (λ (l : List Claim). rows_seen s l ≡ map (row_of s) (filter is_held (map (change e) (v ∷ map job_seen rest)))) items
          (none_held s e v (map job_seen rest) before (other_one n v (ne_eqb n v.number w.if-number-job.false)) (sym w.is_held.ensures ∙ w.if-is_held.false) c.in_ok-claims.ensures)
    ])
