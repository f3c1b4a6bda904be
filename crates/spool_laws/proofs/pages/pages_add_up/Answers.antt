use Rattle.spool_laws.proofs.Sums.{pages_add_up}
use Rattle.spool_laws.proofs.Apart.{each_has_a_place}
use Rattle.spool_laws.proofs.Enough.{no_kind_runs_over}
use Rattle.spool_laws.proofs.pages.pages_add_up.Goals as goal

pub returns-clause-all : goal.returns-clause-all
returns-clause-all g c = pages_add_up

pub returns-clause-places : goal.returns-clause-places
returns-clause-places g c = each_has_a_place

pub returns-clause-kinds : goal.returns-clause-kinds
returns-clause-kinds g c = no_kind_runs_over
