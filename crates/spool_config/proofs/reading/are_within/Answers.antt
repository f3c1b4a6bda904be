use Rattle.std.proofs.Common.{rules, tests, ◌≡◌, ◌∙◌, nat_le}
use Rattle.std.specs.List.{list_all}
use Rattle.std.proofs.lemmas.Iterator.{YieldsList-from_slice}
use Rattle.std.proofs.lemmas.Iterator.Search.{all_from_yields_List}
use Rattle.config_values.specs.Config.{Queue}
use Rattle.spool_config.proofs.Lists.{limits_within}
use Rattle.spool_config.proofs.reading.are_within.Goals as goal

pub returns-clause-value : goal.returns-clause-value
returns-clause-value c =
    let queues = c.args.queues.now in
    let plain : c.all.result ≡ list_all (λ (q : Queue). nat_le q.limit c.args.pages) queues =
    all_from_yields_List (λ (q : Queue). nat_le q.limit c.args.pages) _ _ c.all.result c.all.ensures.ran (YieldsList-from_slice queues cc) (λ x b q k. search (rules, tests)) in
    plain ∙ limits_within c.args.pages queues
