use Rattle.std.proofs.Common.{◌∙◌, refl}
use Rattle.config_values.proofs.Named.{named, unnamed}
use Rattle.config_values.proofs.config.Config.queue_named.Goals as goal

pub returns-in_default-clause-named : goal.returns-in_default-clause-named
returns-in_default-clause-named c =
    unnamed c.args.self.now _ c.as_slice.result.now c.args.name.now c.self.view_is c.as_slice.ensures.value c.in_default.ensures.absent

pub returns-clause-named : goal.returns-clause-named
returns-clause-named c =
    named c.args.self.now _ c.as_slice.result.now c.args.name.now c.in-Some.at _ c.self.view_is c.self.invariant.names c.as_slice.ensures.value c.in-Some.ensures.found.0 c.in-Some.ensures.found.1 refl
