use Rattle.std.proofs.Common.{◌≡◌, ◌∷◌}
use Rattle.std.proofs.lemmas.Result.{IfOk-equal}
use Rattle.history_legality.proofs.JoinLaws.{pushed}
use Rattle.history_legality.proofs.joined.+add_sheets.Goals as goal

pub returns : goal.returns
returns t c =
    let split : c.args.places.now ≡ c.in-Some.first.now ∷ c.in-Some.rest.now = cc (c.in-Some.ensures.cases.0) in
    IfOk-equal c.add_sheets.result _ _ _ c.add_sheets.ensures
    (pushed c.args.sheets.now.items c.push.new.self.items c.args.job c.args.place c.args.count c.in-Some.first.now c.in-Some.rest.now c.args.places.now split c.in_ok-push.ensures.items c.if-count-eq0.false)
