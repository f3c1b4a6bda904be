-- What a start adds, by how many printers it found stopped.
use Rattle.std.proofs.Common.{◌≡◌, ◌==◌, inl, inr, refl, subst, sym}
use Rattle.std.specs.Prelude.{Ok}
use Rattle.std.proofs.lemmas.Bool.{cond_both}
use Rattle.account.specs.declared.kind.Kind.TheVariants as kind
use Rattle.spool_ledgers.specs.Sums.{Sums, with_entry}
use Rattle.spool_core.specs.declared.closing.Started.{Started}
use Rattle.locked_spool.specs.Shares.{OneOrNone, when_started}

-- it is one entry or none
pub one_or_none : (s : Started) (old new : Sums) → new ≡ when_started (Ok s) old → OneOrNone kind.Started old new
one_or_none s old new is =
    subst (OneOrNone kind.Started old) (sym is)
    (cond_both (s.stopped == 0) old (with_entry kind.Started old) (OneOrNone kind.Started old) (λ yes. inl refl) (λ no. inr refl))
