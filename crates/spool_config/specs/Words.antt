-- The line that tells a fault, and the words for a key in it.
use Rattle.std.specs.Prelude.{ℕ, List, ◌++◌, codes}
use Rattle.spool_config.specs.declared.settings.Key.{Key}
use Rattle.spool_config.specs.declared.settings.Key.TheVariants.{Pages, PageSize, MaxJobs, Account, Queue, Name, Limit, Printers}
use Rattle.spool_config.specs.declared.settings.ConfigFault.{ConfigFault}
use Rattle.spool_config.specs.declared.settings.ConfigFault.TheVariants.{NotToml, Missing, WrongType, OutOfRange, SameName, LimitOverPool, Memory}

-- as it is told: with `queue.` where it stands in the table of a queue
abbrev pub key_words : Key → List ℕ
key_words Pages = codes "pages"
key_words PageSize = codes "page_size"
key_words MaxJobs = codes "max_jobs"
key_words Account = codes "account"
key_words Queue = codes "queue"
key_words Name = codes "queue.name"
key_words Limit = codes "queue.limit"
key_words Printers = codes "queue.printers"

abbrev pub fault_words : ConfigFault → List ℕ
fault_words NotToml = codes "fault 50 NotToml"
fault_words (Missing key) = codes "fault 51 Missing " ++ key_words key
fault_words (WrongType key) = codes "fault 52 WrongType " ++ key_words key
fault_words (OutOfRange key) = codes "fault 53 OutOfRange " ++ key_words key
fault_words SameName = codes "fault 54 SameName"
fault_words LimitOverPool = codes "fault 55 LimitOverPool"
fault_words Memory = codes "fault 12 Memory"
