-- The ranges of a configuration.
use Rattle.std.specs.Prelude.{◌≢◌, ◌≤◌, ◌^◌, ℕ, List, [], ◌∷◌, All, length}
use Rattle.config_values.specs.Config.{Config, Queue}

-- a queue's name: 1 to 64 octets from 21 to 7E in hexadecimal
pub record IsQueueName (name : List ℕ) : Type 0 where
  pub low : 1 ≤ length name
  pub high : length name ≤ 64
  pub printable : All (λ octet. (33 ≤ octet) × (octet ≤ 126)) name

-- a queue is in its ranges, and its limit within the pages
pub record IsWithin (pages : ℕ) (q : Queue) : Type 0 where
  pub name : IsQueueName q.name
  pub limit_low : 1 ≤ q.limit
  pub limit_high : q.limit ≤ pages
  pub printers_low : 1 ≤ q.printers
  pub printers_high : q.printers ≤ 16

-- no two queues have one name
abbrev pub HaveOwnNames : List Queue → Type 0
HaveOwnNames [] = Unit {0}
HaveOwnNames (q ∷ qs) = All (λ p. p.name ≢ q.name) qs × HaveOwnNames qs

pub record IsConfig (c : Config) : Type 0 where
  pub pages_low : 1 ≤ c.pages
  pub pages_high : c.pages ≤ 65536
  pub page_size_low : 1 ≤ c.page_size
  pub page_size_high : c.page_size ≤ 65536
  pub max_jobs_low : 1 ≤ c.max_jobs
  pub max_jobs_high : c.max_jobs ≤ 1024
  pub account_low : 1 ≤ c.account
  pub account_high : c.account ≤ 2 ^ 62
  pub some_queue : 1 ≤ length c.queues
  pub few_queues : length c.queues ≤ 64
  pub queues : All (IsWithin c.pages) c.queues
  pub names : HaveOwnNames c.queues
