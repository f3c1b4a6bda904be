use Rattle.std.proofs.Common.{◌==◌, rules, tests}
use Rattle.std.proofs.lemmas.Iterator.Consumers.{fold_from_yields_List}
use Rattle.std.proofs.lemmas.Iterator.Splits.{YieldsList-from_slice_split}
use Rattle.sink_devices.specs.Names.{with_name}
use Rattle.sink_devices.proofs.folder_names.FolderNames.with_all.Goals as goal

pub returns : goal.returns
returns c =
    fold_from_yields_List _ with_name _ _ c.fold.ensures.ran
    (YieldsList-from_slice_split _ (λ octet. octet == 0) c.args.octets.now c.split.ensures.rest c.split.ensures.done c.split.ensures.closure (λ x b q k. search (rules, tests)))
    (λ names name next q k. search (rules, tests))
