-- How many printers queues in their ranges have together.
use Rattle.std.proofs.Common.{◌≡◌, ℕ, suc, ◌+◌, ◌*◌, ◌<◌, ◌≤◌, List, [], ◌∷◌, length, arith}
use Rattle.std.specs.Prelude.{All, sum_by}
use Rattle.std.proofs.lemmas.List.Sums.{sum_by-cons}
use Rattle.config_values.specs.Config.{Queue}
use Rattle.config_values.specs.Ranges.{IsWithin}

abbrev total : List Queue → ℕ
total qs = sum_by (λ (q : Queue). q.printers) qs

-- at most 16 a queue
most : (pages : ℕ) (qs : List Queue) → All (IsWithin pages) qs → total qs ≤ 16 * length qs
most pages [] all = omega arith
most pages (q ∷ qs) all =
    let rest = most pages qs (λ k d lt. all (suc k) d (omega arith)) in
    let one = (all 0 q (omega arith)).printers_high in
    let sum = sum_by-cons (λ (x : Queue). x.printers) q qs in
    omega arith

-- the printers of these queues, which are those, are at most 1,024
pub few_printers : (pages : ℕ) (qs same : List Queue) (n : ℕ) → All (IsWithin pages) qs → length qs ≤ 64 → n ≡ total same → same ≡ qs → n ≤ 1024
few_printers pages qs same n all few is e =
    let m = most pages qs all in
    let t : total same ≡ total qs = Rattle.std.proofs.Common.ap total e in
    omega arith
