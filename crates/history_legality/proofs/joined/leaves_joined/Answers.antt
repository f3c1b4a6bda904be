use Rattle.std.proofs.Common.{◌≡◌, ◌↔◌, Bool, List, map, ap, subst, ◌∙◌}
use Rattle.std.specs.Prelude.{IfOk, IsTrue}
use Rattle.std.specs.List.{AllByRecursion}
use Rattle.spool_history.specs.Said as D
use Rattle.account.specs.Seen.{history}
use Rattle.history_reader.specs.Seen.{opening_seen}
use Rattle.history_legality.specs.Joins.{LineIsJoin}
use Rattle.history_legality.proofs.OrderLaws.{if_ok_iff}
use Rattle.history_legality.proofs.JoinLaws.{joined_of, lines_of}
use Rattle.history_legality.proofs.joined.leaves_joined.Goals as goal

pub returns : goal.returns
returns c =
    let h = history c.args.entries.now in
    let r = c.all_join.result in
    let Q : List D.Opening → Type 0 = λ os. IfOk r (λ (b : Bool). IsTrue b ↔ AllByRecursion (LineIsJoin h os) os) in
    let opened : map opening_seen c.as_slice-opened.result.now ≡ D.openings h = ap (map opening_seen) c.as_slice-opened.ensures.value ∙ c.in_ok-opened.ensures in
    let told : Q (D.openings h) = subst Q opened c.all_join.ensures in
    if_ok_iff r (joined_of h) (lines_of h (D.openings h)) told
