-- Jobs one after another.
use Rattle.std.proofs.Common.{◌≡◌, inl, inr, ℕ, List, [], ◌∷◌, Option, Some, sym, subst}
use Rattle.printer_sinks.specs.Connections.{Connection, new_connection}
use Rattle.printer_sinks.specs.Visits.{Given, AddsOne}
use Rattle.printer_sinks.specs.Runs.{Visit, Runs, jobs_of, visited, IsNew, AreApart}
use Rattle.printer_sinks.proofs.VisitLemmas.{visit_adds_one}

-- none of these jobs is among those
abbrev AllNew : List ℕ → List ℕ → Type 0
AllNew [] jobs = Unit {0}
AllNew (job ∷ rest) jobs = IsNew job jobs × AllNew rest jobs

all_new_nil : (rest : List ℕ) → AllNew rest []
all_new_nil [] = tt
all_new_nil (job ∷ rest) = (tt, all_new_nil rest)

all_new_more : (job : ℕ) (rest jobs : List ℕ) → IsNew job rest → AllNew rest jobs → AllNew rest (job ∷ jobs)
all_new_more job [] jobs new all = tt
all_new_more job (other ∷ rest) jobs (differs, new) (here, all) = ((λ e. differs (sym e), here), all_new_more job rest jobs new all)

some_same : (a b : List Connection) (o : Option (List Connection)) → o ≡ Some a → o ≡ Some b → a ≡ b
some_same a b o p q = cc

-- a job more, that none before it was
keeps_apart : (job : ℕ) (pages : List Given) (rest : List ℕ) (old connections : List Connection) (mid : Option (List Connection)) → AddsOne job pages old mid → mid ≡ Some connections → IsNew job rest → IsNew job (jobs_of old) → AllNew rest (jobs_of old) → AreApart (jobs_of old) → AllNew rest (jobs_of connections) × AreApart (jobs_of connections)
keeps_apart job pages rest old connections mid (inl (none, _)) is first here all was =
    let e : old ≡ connections = some_same old connections mid none is in
    (subst (λ ls. AllNew rest (jobs_of ls)) e all, subst (λ ls. AreApart (jobs_of ls)) e was)
keeps_apart job pages rest old connections mid (inr (took, one, _)) is first here all was =
    let e : new_connection job took old ≡ connections = some_same (new_connection job took old) connections mid one is in
    (subst (λ ls. AllNew rest (jobs_of ls)) e (all_new_more job rest (jobs_of old) first all), subst (λ ls. AreApart (jobs_of ls)) e (here, was))

runs_apart : (visits : List Visit) (old new : List Connection) → Runs visits old new → AreApart (visited visits) → AllNew (visited visits) (jobs_of old) → AreApart (jobs_of old) → AreApart (jobs_of new)
runs_apart [] old new same apart all was = subst (λ ls. AreApart (jobs_of ls)) (sym same) was
runs_apart (visit ∷ visits) old new (mid, connections, visits_it, is, rest) (first, apart) (here, all) was =
    let next = keeps_apart visit.job visit.pages (visited visits) old connections mid.connections (visit_adds_one visit.job visit.pages old mid visits_it) is first here all was in
    runs_apart visits connections new rest apart next.0 next.1

pub no_job_twice : (visits : List Visit) (new : List Connection) → Runs visits [] new → AreApart (visited visits) → AreApart (jobs_of new)
no_job_twice visits new runs apart = runs_apart visits [] new runs apart (all_new_nil (visited visits)) tt
