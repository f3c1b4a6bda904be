-- What needs somebody, the worst first.
use Rattle.std.specs.Prelude.{ℕ, ◌==◌, Bool, List, [], ◌∷◌, Option, Some, None, count_by, if◌then◌else◌, length}
use Rattle.standings.specs.Printers.{count_at, is_stopped_at, is_unreached_at}
use Rattle.status_lines.specs.declared.outside.KeptJobs.{KeptJobs}
use Rattle.status_scene.specs.declared.concern.Concern.{Concern}
use Rattle.status_scene.specs.declared.concern.Concern.TheVariants as needs
use Rattle.status_scene.specs.declared.scene.Scene.{Scene}
use Rattle.status_scene.specs.Refusing.{has_full_pool, has_full_table, is_refused_at, filling_queue, pages_for}

-- where there are some
abbrev pub where_some : ℕ → Concern → Option Concern
where_some count concern = if count == 0 then None else Some concern

abbrev pub account_concern : (refusing all : ℕ) → Option Concern
account_concern refusing all = where_some refusing (needs.AccountFull refusing all)

abbrev pub refusal_concern : Scene → Option Concern
refusal_concern s =
    if has_full_table s.config.now s.spool.now then Some (needs.TableFull (length s.spool.now.jobs.items)) else account_concern (count_at (λ at _. is_refused_at s.config.now s.spool.now at) 0 s.config.now.queues) (length s.config.now.queues)

abbrev pub filling_concern : Option ℕ → Scene → Option Concern
filling_concern None s = None
filling_concern (Some queue) s = Some (needs.PoolFull queue (pages_for queue s.spool.now.claims.rows) s.config.now.pages)

abbrev pub pool_concern : Scene → Option Concern
pool_concern s =
    if has_full_pool s.spool.now s.outside.now.noted then filling_concern (filling_queue s.outside.now.noted s.spool.now.printers.items s.spool.now.claims.rows s.config.now.pages s.spool.now.claims.rows) s else None

abbrev pub unreached_among : (count all : ℕ) → Option Concern
unreached_among count all = where_some count (needs.Unreached count all)

abbrev pub unreached_concern : Scene → Option Concern
unreached_concern s =
    unreached_among (count_at (is_unreached_at s.outside.now.noted.printers.now) 0 s.spool.now.printers.items) (length s.spool.now.printers.items)

abbrev pub stopped_among : (count all : ℕ) → Option Concern
stopped_among count all = where_some count (needs.Stopped count all)

abbrev pub stopped_concern : Scene → Option Concern
stopped_concern s = stopped_among (count_at (is_stopped_at s.outside.now.noted.printers.now) 0 s.spool.now.printers.items) (length s.spool.now.printers.items)

abbrev pub failed_among : Option KeptJobs → Option Concern
failed_among None = None
failed_among (Some kept) = where_some kept.failed (needs.Failed kept.failed)

abbrev pub failed_concern : Scene → Option Concern
failed_concern s = failed_among s.outside.now.kept

abbrev pub held_among : (count all : ℕ) → Option Concern
held_among count all = where_some count (needs.Held count all)

abbrev pub held_concern : Scene → Option Concern
held_concern s = held_among (count_by (λ (held : Bool). held) s.outside.now.noted.held.now) (length s.outside.now.noted.held.now)

-- jobs are refused, wait for pages; printers aren't reached, are stopped; kept jobs have failed; queues are held
abbrev pub concerns_of : Scene → List (Option Concern)
concerns_of s = refusal_concern s ∷ pool_concern s ∷ unreached_concern s ∷ stopped_concern s ∷ failed_concern s ∷ held_concern s ∷ []
