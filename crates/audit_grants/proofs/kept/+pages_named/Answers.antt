use Rattle.std.proofs.Common.{◌≡◌, ◌∷◌, ◌∙◌, List, ap, arith, map, sym}
use Rattle.std.specs.Prelude.{length}
use Rattle.std.proofs.lemmas.Bool.{not-true, not-false}
use Rattle.spool_history.specs.Acts.{pages_named}
use Rattle.history_reader.specs.declared.state.File.{File}
use Rattle.history_reader.specs.Seen.{file_seen}
use Rattle.audit_grants.proofs.KeptPages.{named_own, named_other}
use Rattle.audit_grants.proofs.kept.+pages_named.Goals as goal

pub returns-then-ne : goal.returns-then-ne
returns-then-ne t c =
    let e : c.args.files.now ≡ c.in-Some.first.now ∷ c.in-Some.rest.now = cc (c.in-Some.ensures.cases.0) in
    c.in_ok-others.ensures
    ∙ sym (ap (λ (l : List File). length (pages_named c.args.name.now 0 (map file_seen l))) e
    ∙ named_other c.args.name.now (file_seen c.in-Some.first.now) (map file_seen c.in-Some.rest.now) (not-true _ (sym c.ne.ensures ∙ c.if-ne.true)))

pub returns : goal.returns
returns t c =
    let e : c.args.files.now ≡ c.in-Some.first.now ∷ c.in-Some.rest.now = cc (c.in-Some.ensures.cases.0) in
    let own = ap (λ (l : List File). length (pages_named c.args.name.now 0 (map file_seen l))) e
    ∙ named_own c.args.name.now (file_seen c.in-Some.first.now) (map file_seen c.in-Some.rest.now) (not-false _ (sym c.ne.ensures ∙ c.if-ne.false)) in
    omega (arith, own, c.in_ok-all.ensures.1, c.in_ok-others.ensures, c.len.ensures)
