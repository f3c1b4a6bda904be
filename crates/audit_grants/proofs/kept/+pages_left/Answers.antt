use Rattle.std.proofs.Common.{◌≡◌, ◌≤◌, ◌-◌, ◌∷◌, ◌∙◌, ℕ, List, ap, arith, map, subst, sym}
use Rattle.std.specs.Prelude.{IfSome, length}
use Rattle.spool_history.specs.Acts.{pages_named}
use Rattle.history_reader.specs.Seen.{file_seen}
use Rattle.audit_grants.proofs.KeptPages.{left_of, left_empty, past_name, left_again, left_last}
use Rattle.audit_grants.proofs.kept.+pages_left.Goals as goal

pub returns-in_default : goal.returns-in_default
returns-in_default t c = left_empty c.args.names.now c.args.back (map file_seen c.args.files.now) c.in_default.ensures.cases

pub returns-then-own-back : goal.returns-then-own-back
returns-then-own-back t c =
    let fs = map file_seen c.args.files.now in
    let first = c.in-Some.first.now in
    let e : c.args.names.now ≡ first ∷ c.in-Some.rest.now = cc (c.in-Some.ensures.cases.0) in
    let own : c.in_ok-own.own ≡ length (pages_named first 0 fs) = c.in_ok-own.ensures in
    let le : length (pages_named first 0 fs) ≤ c.args.back = omega (arith, own, c.if-own-back.true) in
    subst (λ (k : ℕ). IfSome c.pages_left.result (λ n. n ≡ k))
    (sym (ap (λ (l : List (List ℕ)). left_of l fs c.args.back) e
    ∙ (past_name first c.in-Some.rest.now c.args.back fs le ∙ ap (λ (k : ℕ). left_of c.in-Some.rest.now fs (c.args.back - k)) (sym own))))
    c.pages_left.ensures

pub returns-then-is_again : goal.returns-then-is_again
returns-then-is_again t c =
    let fs = map file_seen c.args.files.now in
    let first = c.in-Some.first.now in
    let e : c.args.names.now ≡ first ∷ c.in-Some.rest.now = cc (c.in-Some.ensures.cases.0) in
    let own : c.in_ok-own.own ≡ length (pages_named first 0 fs) = c.in_ok-own.ensures in
    let le : c.args.back ≤ length (pages_named first 0 fs) = omega (arith, own, c.if-own-back.false) in
    c.in_ok-others.ensures
    ∙ sym (ap (λ (l : List (List ℕ)). left_of l fs c.args.back) e
    ∙ left_again first c.in-Some.rest.now c.args.back fs le (sym c.is_again.ensures ∙ c.if-is_again.true))

pub returns : goal.returns
returns t c =
    let fs = map file_seen c.args.files.now in
    let first = c.in-Some.first.now in
    let e : c.args.names.now ≡ first ∷ c.in-Some.rest.now = cc (c.in-Some.ensures.cases.0) in
    let own : c.in_ok-own.own ≡ length (pages_named first 0 fs) = c.in_ok-own.ensures in
    let le : c.args.back ≤ length (pages_named first 0 fs) = omega (arith, own, c.if-own-back.false) in
    let all = ap (λ (l : List (List ℕ)). left_of l fs c.args.back) e
    ∙ left_last first c.in-Some.rest.now c.args.back fs le (sym c.is_again.ensures ∙ c.if-is_again.false) in
    let others : c.in_ok-others.others ≡ left_of c.in-Some.rest.now fs 0 = c.in_ok-others.ensures in
    omega (arith, all, others, own, c.in_ok-all.ensures.1)
