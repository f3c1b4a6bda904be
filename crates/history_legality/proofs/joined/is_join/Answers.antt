use Rattle.std.proofs.Common.{rules, ◌≡◌, ◌++◌, List, map, filter, subst, sym, ap, ◌∙◌}
use Rattle.std.specs.List.{flat_map}
use Rattle.std.specs.List.Sorted.{IsStrictlyIncreasing}
use Rattle.spool_history.specs.Joined as J
use Rattle.spool_history.specs.Said as D
use Rattle.spool_history.specs.Events as E
use Rattle.account.specs.declared.entry.Outline.{Outline}
use Rattle.account.specs.Seen.{history, sheet_seen}
use Rattle.history_reader.specs.declared.state.Opening as R
use Rattle.history_reader.specs.Seen.{opening_seen}
use Rattle.history_legality.proofs.OrderLaws.{if_ok_iff}
use Rattle.history_legality.proofs.JoinLaws.{join_of, may_of, numbers_seen}
use Rattle.history_legality.proofs.joined.is_join.Goals as goal

pub returns-then-not-rises : goal.returns-then-not-rises
returns-then-not-rises c =
    let items : c.in_ok-numbers.numbers.items ≡ map (λ (o : R.Opening). o.job) c.args.jobs.now = search rules in
    let numbers : c.as_slice.result.now ≡ map (λ (o : D.Opening). o.job) (map opening_seen c.args.jobs.now) = c.as_slice.ensures.value ∙ (items ∙ numbers_seen c.args.jobs.now) in
    (λ t. absurd (cc), λ j. absurd (cc (c.rises.ensures.1 (subst IsStrictlyIncreasing (sym numbers) j.rising))))

pub returns : goal.returns
returns c =
    let h = history c.args.entries.now in
    let jobs = map opening_seen c.args.jobs.now in
    let items : c.in_ok-numbers.numbers.items ≡ map (λ (o : R.Opening). o.job) c.args.jobs.now = search rules in
    let numbers : c.as_slice.result.now ≡ map (λ (o : D.Opening). o.job) jobs = c.as_slice.ensures.value ∙ (items ∙ numbers_seen c.args.jobs.now) in
    let rising : IsStrictlyIncreasing (map (λ (o : D.Opening). o.job) jobs) = subst IsStrictlyIncreasing numbers (c.rises.ensures.0 c.if-not-rises.false) in
    let left : map sheet_seen c.as_slice-2.result.now ≡ J.handed_from h jobs =
    ap (map sheet_seen) c.as_slice-2.ensures.value ∙ (c.in_ok-add_of_one.ensures
    ∙ (ap (λ (s : List (E.Sheet Outline)). s ++ filter (J.is_of_one jobs) (map sheet_seen c.args.handed.now)) (ap (map sheet_seen) c.new-left.ensures.items)
    ∙ ap (filter (J.is_of_one jobs)) c.requires)) in
    let joined : map sheet_seen c.as_slice-3.result.now ≡ flat_map (J.first_places h) jobs =
    ap (map sheet_seen) c.as_slice-3.ensures.value ∙ (c.in_ok-add_first_places.ensures
    ∙ ap (λ (s : List (E.Sheet Outline)). s ++ flat_map (J.first_places h) jobs) (ap (map sheet_seen) c.new-joined.ensures.items)) in
    let join : J.handed_from h jobs ≡ flat_map (J.first_places h) jobs = sym left ∙ (c.are_same.ensures.0 c.if-not-are_same.false ∙ joined) in
    if_ok_iff c.all_may_leave.result (join_of h jobs rising join) (may_of h jobs) c.all_may_leave.ensures
