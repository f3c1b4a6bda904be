use Rattle.std.proofs.Common.{subst}
use Rattle.segment_audit.specs.declared.part.Part.{Part}
use Rattle.segment_audit.specs.Read.{IsPart}
use Rattle.segment_audit.proofs.part.Part.read.Goals as goal

pub returns-in-Begun-clause-read : goal.returns-in-Begun-clause-read
returns-in-Begun-clause-read c = λ is p n.
    let own = subst (λ (t : Part). IsPart t is) c.in-Begun.is p in
    c.add_config.ensures.read c.args.after.now is own.0 own.1 n

pub returns-in-Entries-clause-read : goal.returns-in-Entries-clause-read
returns-in-Entries-clause-read c = λ is p n.
    c.read_body.ensures.read c.args.after.now is (subst (λ (t : Part). IsPart t is) c.in-Entries.is p) n
