-- What is told in its range has no fault.
use Rattle.std.proofs.Common.{◌≡◌, ℕ, ◌≤◌, true, pos, List, [], ◌∷◌, length, map, Some, refl, sym, ap, ◌∙◌, arith}
use Rattle.std.specs.List.{list_all, flat_map, AllByRecursion}
use Rattle.std.proofs.lemmas.List.Elements.{All-weaker}
use Rattle.std.proofs.lemmas.List.Sums.{list_all-from_AllPass}
use Rattle.toml.specs.Data.{Data, string, Members}
use Rattle.config_values.specs.Config as C
use Rattle.config_values.specs.Ranges.{IsQueueName, IsWithin}
use Rattle.spool_config.specs.declared.settings.ConfigFault.TheVariants.{OutOfRange}
use Rattle.spool_config.specs.declared.settings.Key.{Key}
use Rattle.spool_config.specs.declared.settings.Key.TheVariants.{Name, Limit, Printers}
use Rattle.spool_config.specs.Keys.{value_at, most_of}
use Rattle.spool_config.specs.Told.{HasNumber, TellsQueue, TellQueues}
use Rattle.spool_config.specs.Faults.{fault_unless, number_faults, name_faults, queue_faults, row_faults, is_row, is_name, is_printable, names_of, limits_of}
use Rattle.spool_config.proofs.Names.{names}
use Rattle.spool_config.proofs.Rows.{in_range, is_name-fit}

pub number_fit : (key : Key) (t : Members) (n : ℕ) → HasNumber t key n → 1 ≤ n → n ≤ most_of key → number_faults key (value_at key t) ≡ []
number_fit key t n stands low high =
    ap (number_faults key) stands ∙ ap (λ b. fault_unless b (OutOfRange key)) (in_range 1 (most_of key) n low high)

pub is_name-within : (name : List ℕ) → IsQueueName name → is_name name ≡ true
is_name-within name fit =
    let printable = All-weaker (λ octet. (33 ≤ octet) × (octet ≤ 126)) (λ octet. is_printable octet ≡ true) (λ octet r. in_range 33 126 octet r.0 r.1) name fit.printable in
    sym (is_name-fit name fit.low fit.high) ∙ list_all-from_AllPass is_printable name printable

-- a queue that is within some pages is within more, where its limit is
pub within_more : {pages : ℕ} (more : ℕ) (q : C.Queue) → IsWithin pages q → q.limit ≤ more → IsWithin more q
within_more more q w high = record { name = w.name; limit_low = w.limit_low; limit_high = high; printers_low = w.printers_low; printers_high = w.printers_high }

pub name_fit : (t : Members) (name : List ℕ) → value_at Name t ≡ Some (string name) → IsQueueName name → name_faults (value_at Name t) ≡ []
name_fit t name stands fit = ap name_faults stands ∙ ap (λ b. fault_unless b (OutOfRange Name)) (is_name-within name fit)

pub queue_fit : (t : Members) (q : C.Queue) → TellsQueue t q → IsWithin 65536 q → queue_faults t ≡ []
queue_fit t q tells within =
    rw (
      name_fit t q.name tells.name within.name,
      number_fit Limit t q.limit tells.limit within.limit_low within.limit_high,
      number_fit Printers t q.printers tells.printers within.printers_low within.printers_high,
    )

-- of rows that tell queues: there are as many, all are tables, with the queues' names and limits
pub record AreTold (rows : List Data) (queues : List C.Queue) : Type 0 where
  pub count : length rows ≡ length queues
  pub tables : list_all is_row rows ≡ true
  pub names : names_of rows ≡ names queues
  pub limits : limits_of rows ≡ map (λ (q : C.Queue). pos q.limit) queues

pub are_told : (rows : List Data) (queues : List C.Queue) → TellQueues rows queues → AreTold rows queues
are_told [] [] told = record { count = refl; tables = refl; names = refl; limits = refl }
are_told (row ∷ rows) (q ∷ queues) told =
    let rest = are_told rows queues told.1 in
    record {
      count = omega (arith, rest.count);
      tables = rw (told.0.1, rest.tables);
      names = rw (told.0.1, told.0.2.name, rest.names);
      limits = rw (told.0.1, told.0.2.limit, rest.limits);
    }
are_told _ _ told = absurd told

-- and none has a fault
pub told_fit : (rows : List Data) (queues : List C.Queue) → TellQueues rows queues → AllByRecursion (IsWithin 65536) queues → flat_map row_faults rows ≡ []
told_fit [] [] told within = refl
told_fit (row ∷ rows) (q ∷ queues) told within =
    rw (told.0.1, queue_fit told.0.0 q told.0.2 within.0, told_fit rows queues told.1 within.1)
told_fit _ _ told within = absurd told
