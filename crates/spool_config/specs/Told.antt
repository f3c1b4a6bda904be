-- Which configuration a document tells: each field is the value at its own key.
use Rattle.std.specs.Prelude.{◌≡◌, ◌≤◌, ℕ, List, [], ◌∷◌, Option, Some, pos}
use Rattle.toml.specs.Data.{Data, string, integer, array, table, Items, no_items, item, Members}
use Rattle.config_values.specs.Config as C
use Rattle.config_values.specs.Ranges.{IsConfig}
use Rattle.spool_config.specs.declared.settings.Key.{Key}
use Rattle.spool_config.specs.declared.settings.Key.TheVariants.{Pages, PageSize, MaxJobs, Account, Queue, Name, Limit, Printers}
use Rattle.spool_config.specs.Keys.{value_at}

-- the whole number n stands at the key
abbrev pub HasNumber : Members → Key → ℕ → Type 0
HasNumber t key n = value_at key t ≡ Some (integer (pos n))

-- the table tells this queue
pub record TellsQueue (t : Members) (q : C.Queue) : Type 0 where
  pub name : value_at Name t ≡ Some (string q.name)
  pub limit : HasNumber t Limit q.limit
  pub printers : HasNumber t Printers q.printers

-- the elements of an array, as a list
abbrev pub elements : Items → List Data
elements no_items = []
elements (item row rows) = row ∷ elements rows

-- the rows tell these queues, each row the queue at its place and no other
abbrev pub TellQueues : List Data → List C.Queue → Type 0
TellQueues [] [] = Unit {0}
TellQueues (row ∷ rows) (q ∷ queues) =
    ((t : Members) × (row ≡ table t) × TellsQueue t q) × TellQueues rows queues
TellQueues _ _ = ⊥

-- an array of tables stands at `queue`, and tells these queues
abbrev pub TellsQueues : Option Data → List C.Queue → Type 0
TellsQueues value queues =
    (rows : Items) × (value ≡ Some (array rows)) × TellQueues (elements rows) queues

-- the document tells this configuration, which is in its ranges
pub record TellsConfig (document : Members) (c : C.Config) : Type 0 where
  pub pages : HasNumber document Pages c.pages
  pub page_size : HasNumber document PageSize c.page_size
  pub max_jobs : HasNumber document MaxJobs c.max_jobs
  pub account : HasNumber document Account c.account
  pub queues : TellsQueues (value_at Queue document) c.queues
  pub ranges : IsConfig c
  -- a text asks for no larger account than this
  pub account_most : c.account ≤ 16000000
