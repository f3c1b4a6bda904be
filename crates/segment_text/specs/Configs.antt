-- Which numbers, names and queues a configuration may have, part by part.
use Rattle.std.specs.Prelude.{◌≡◌, ◌≢◌, ◌≤◌, ◌^◌, ◌&&◌, ℕ, Bool, true, List, [], ◌∷◌, nat_le, length}
use Rattle.std.specs.List.{list_all, AllByRecursion}
use Rattle.config_values.specs.Config.{Queue}
use Rattle.control_lines.specs.Escapes.{is_shown}

abbrev pub is_name_len : ℕ → Bool
is_name_len n = nat_le 1 n && nat_le n 64

-- the name of a queue: 1 to 64 octets from 21 to 7E (hexadecimal)
abbrev pub is_queue_name : List ℕ → Bool
is_queue_name name = is_name_len (length name) && list_all is_shown name

abbrev pub AreNumbers : (pages page_size max_jobs account : ℕ) → Type 0
AreNumbers pages page_size max_jobs account =
    ((1 ≤ pages) × (pages ≤ 65536)) × ((1 ≤ page_size) × (page_size ≤ 65536))
    × ((1 ≤ max_jobs) × (max_jobs ≤ 1024)) × ((1 ≤ account) × (account ≤ 2 ^ 62))

-- a queue is in its ranges, and its limit within the pages
abbrev pub FitsPages : (pages : ℕ) → Queue → Type 0
FitsPages pages q =
    (is_queue_name q.name ≡ true) × ((1 ≤ q.limit) × (q.limit ≤ pages)) × ((1 ≤ q.printers) × (q.printers ≤ 16))

-- no two queues have one name
abbrev pub AreNamedApart : List Queue → Type 0
AreNamedApart [] = Unit {0}
AreNamedApart (q ∷ qs) = AllByRecursion (λ (p : Queue). p.name ≢ q.name) qs × AreNamedApart qs

abbrev pub AreQueues : (pages : ℕ) (queues : List Queue) → Type 0
AreQueues pages queues =
    (1 ≤ length queues) × (length queues ≤ 64) × AllByRecursion (FitsPages pages) queues × AreNamedApart queues
