-- What is said of what needs somebody.
use Rattle.std.specs.Prelude.{ℕ, ◌==◌, List, ◌++◌, codes, if◌then◌else◌}
use Rattle.std.specs.Fmt.{decimal}
use Rattle.status_scene.specs.declared.concern.Concern.{Concern}
use Rattle.status_scene.specs.declared.concern.Concern.TheVariants as needs

-- N of M, and what is so of one or of several
abbrev pub of_words : (count all : ℕ) → (one several : List ℕ) → List ℕ
of_words count all one several =
    if count == 1 then codes "1 of " ++ (decimal all ++ one) else decimal count ++ (codes " of " ++ (decimal all ++ several))

abbrev pub unreached_words : (count all : ℕ) → List ℕ
unreached_words count all = of_words count all (codes " printers isn't reached") (codes " printers aren't reached")

abbrev pub stopped_words : (count all : ℕ) → List ℕ
stopped_words count all = of_words count all (codes " printers is stopped") (codes " printers are stopped")

abbrev pub held_words : (count all : ℕ) → List ℕ
held_words count all = of_words count all (codes " queues is held") (codes " queues are held")

abbrev pub failed_words : ℕ → List ℕ
failed_words jobs = if jobs == 1 then codes "1 kept job has failed" else decimal jobs ++ codes " kept jobs have failed"

abbrev pub refused_words : (count all : ℕ) → List ℕ
refused_words count all =
    if count == all then codes "refuses jobs: the account is full" else codes "refuses jobs of " ++ (decimal count ++ (codes " of " ++ (decimal all ++ codes " queues: the account is full")))

-- what needs somebody, where the queue that it is about has this name
abbrev pub concern_words : Concern → List ℕ → List ℕ
concern_words (needs.TableFull jobs) name = codes "refuses jobs: " ++ (decimal jobs ++ codes " are held, as many as may be")
concern_words (needs.AccountFull queues all) name = refused_words queues all
concern_words (needs.PoolFull queue pages all) name =
    codes "jobs wait: the pool is full of jobs for " ++ (name ++ (codes ", " ++ (decimal pages ++ (codes " of " ++ (decimal all ++ codes " pages")))))
concern_words (needs.Unreached printers all) name = unreached_words printers all
concern_words (needs.Stopped printers all) name = stopped_words printers all
concern_words (needs.Failed jobs) name = failed_words jobs
concern_words (needs.Held queues all) name = held_words queues all
