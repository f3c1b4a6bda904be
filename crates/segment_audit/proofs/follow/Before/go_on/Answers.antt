use Rattle.std.proofs.Common.{◌∙◌, inl, inr, ap, subst, sym}
use Rattle.std.specs.Prelude.{Some}
use Rattle.segment_text.specs.Follow.{GoesOn, RunFollows}
use Rattle.segment_text.specs.Heads as H
use Rattle.segment_text.specs.Seen.{head_seen}
use Rattle.segment_audit.proofs.Matched.{result_map}
use Rattle.segment_audit.proofs.follow.Before.go_on.Goals as goal

pub returns-then-not-goes_on-clause-read : goal.returns-then-not-goes_on-clause-read
returns-then-not-goes_on-clause-read c = λ was v b.
    let next = head_seen c.args.next.now in
    result_map c.begin_next.result _ _ _ _
    (λ k h. (
      (c.names_digest.ensures.0 c.if-not-names_digest.false ∙ ap Some b.digest, inr (subst (λ (x : H.Head). RunFollows x next) b.head h.0)),
      h.1,
    ))
    (λ f h. elim h [
      | inl m ↦ inl m
      | inr n ↦ inr (
        n.0,
        λ follows. elim follows.1 [
          | inl g ↦ (
              let t = c.goes_on.ensures.1 (subst (λ (x : H.Head). GoesOn x next) (sym b.head) g.0) in
              let e = c.if-not-goes_on.true in
              absurd cc)
          | inr r ↦ n.1 (subst (λ (x : H.Head). RunFollows x next) (sym b.head) r)
        ],
      )
    ])
    (c.begin_next.ensures.read v)
