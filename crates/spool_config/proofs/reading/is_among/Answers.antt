use Rattle.std.proofs.Common.{rules, tests, ◌≡◌, ◌∙◌, sym}
use Rattle.std.specs.List.{list_any}
use Rattle.std.specs.Str.{bytes_eq}
use Rattle.std.proofs.lemmas.Iterator.{YieldsList-from_slice}
use Rattle.std.proofs.lemmas.Iterator.Search.{any_from_yields_List}
use Rattle.config_values.specs.Config.{Queue}
use Rattle.spool_config.proofs.Lists.{list_any-map}
use Rattle.spool_config.proofs.reading.is_among.Goals as goal

pub returns : goal.returns
returns c =
    let queues = c.args.queues.now in
    let plain : c.any.result ≡ list_any (λ (q : Queue). bytes_eq c.args.name.now q.name) queues =
    any_from_yields_List (λ (q : Queue). bytes_eq c.args.name.now q.name) _ _ c.any.result c.any.ensures.ran (YieldsList-from_slice queues cc) (λ x b q k. search (rules, tests)) in
    plain ∙ sym (list_any-map (bytes_eq c.args.name.now) (λ (q : Queue). q.name) queues)
