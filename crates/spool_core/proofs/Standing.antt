-- Whatever calls were made of a core, the headline holds of its history.
use Rattle.std.proofs.Common.{ℕ, zero, suc, ◌≤◌, arith}
use Rattle.config_values.specs.Config.{Config, IsQueue, no_queue, queue_at}
use Rattle.config_values.specs.Ranges.{IsConfig}
use Rattle.spool_laws.specs.Safety.{EachCouldFinish}
use Rattle.spool_laws.proofs.Behind.{each_in_order}
use Rattle.spool_laws.proofs.Joined.{each_accepted, joined}
use Rattle.spool_laws.proofs.Leaves.{each_going, each_open}
use Rattle.spool_laws.proofs.Places.{placed}
use Rattle.spool_laws.proofs.Reserve.{reserve_is_enough}
use Rattle.spool_laws.proofs.Says.{each_says}
use Rattle.spool_laws.proofs.Staying.{stays}
use Rattle.spool_laws.proofs.Sums.{pages_add_up}
use Rattle.spool_laws.proofs.Whole.{all_placed}
use Rattle.spool_calls.specs.Looks.{size}
use Rattle.step_lemmas.proofs.Cores.Ranges.{limit_pages}
use Rattle.spool_core.specs.Headline.{HeadlineStands}

some_printer : (c : Config) (q : ℕ) → IsConfig c → IsQueue c q → 1 ≤ (queue_at c q).printers
some_printer c zero ranges is = (let low = is.0 in absurd (omega (arith, low)))
some_printer c (suc n) ranges is = (let high = is.1 in (ranges.queues n no_queue (omega (arith, high))).printers_low)

could : (c : Config) → IsConfig c → EachCouldFinish c
could c ranges = record { pages = λ q is. limit_pages c q ranges; printers = λ q is. some_printer c q ranges is }

pub stands : HeadlineStands
stands d b h k ranges l = record {
  places = placed (size d) k.config b h l.legal;
  done = all_placed (size d) k.config b h l.legal;
  said = each_says (size d) k.config b h l.legal;
  by_acceptance = each_in_order (size d) k.config b h l.legal;
  joined = joined (size d) k.config b h l.legal;
  accepted = each_accepted (size d) k.config b h l.legal;
  going = each_going (size d) k.config b h l.legal;
  while_open = each_open (size d) k.config b h l.legal;
  pages = pages_add_up (size d) k.config b h l.legal;
  safe = stays (size d) k.config b h (could k.config ranges) l.legal;
  entries = λ counts. reserve_is_enough (size d) k.config b h counts l.legal;
}
