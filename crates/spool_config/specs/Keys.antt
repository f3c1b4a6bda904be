-- The keys of a configuration: the word of each in its table, and its range.
use Rattle.std.specs.Prelude.{ℕ, Bool, ◌&&◌, List, Option, codes, nat_le}
use Rattle.toml.specs.Data.{Data, Members, get_member}
use Rattle.spool_config.specs.declared.settings.Key.{Key}
use Rattle.spool_config.specs.declared.settings.Key.TheVariants.{Pages, PageSize, MaxJobs, Account, Queue, Name, Limit, Printers}

-- the word under which it stands: the first five in the document, the others in the table of a queue
abbrev pub word_of : Key → List ℕ
word_of Pages = codes "pages"
word_of PageSize = codes "page_size"
word_of MaxJobs = codes "max_jobs"
word_of Account = codes "account"
word_of Queue = codes "queue"
word_of Name = codes "name"
word_of Limit = codes "limit"
word_of Printers = codes "printers"

-- the most that its number may be; at `queue` the most queues, at `name` the most octets
abbrev pub most_of : Key → ℕ
most_of Pages = 65536
most_of PageSize = 65536
most_of MaxJobs = 1024
most_of Account = 16000000
most_of Queue = 64
most_of Name = 64
most_of Limit = 65536
most_of Printers = 16

-- a range begins at 1 and ends with the most
abbrev pub is_in_range : Key → ℕ → Bool
is_in_range key n = nat_le 1 n && nat_le n (most_of key)

-- what stands at a key of a table
abbrev pub value_at : Key → Members → Option Data
value_at key table = get_member (word_of key) table
