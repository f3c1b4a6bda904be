-- Sums over entries.
use Rattle.std.proofs.Common.{◌≡◌, ℕ, ◌+◌, ◌<◌, ◌≤◌, ◌*◌, ◌^◌, Bool, true, false, List, [], ◌∷◌, length, arith}
use Rattle.std.specs.Prelude.{if◌then◌else◌}
use Rattle.account.specs.Kinds.{handed_in, is_handed_kind, kind_of}
use Rattle.spool_history.specs.Events.{Event}

one_if : (b : Bool) → (if b then 1 else 0) ≤ 1
one_if true = omega arith
one_if false = omega arith

-- no more entries are of the kind Handed than there are
pub handed_few : {C : Type 0} (h : List (Event C)) → handed_in h ≤ length h
handed_few [] = omega arith
handed_few (e ∷ h) = omega (arith, one_if (is_handed_kind (kind_of e)), handed_few h)

-- so their number fits
pub handed_fits : {C : Type 0} (mine handed handed_before before : ℕ) (h : List (Event C)) → mine ≤ handed → handed ≡ handed_before + handed_in h → handed_before ≤ before → 13 * before < 2 ^ 64 → length h < 2 ^ 63 → mine < 2 ^ 64
handed_fits mine handed handed_before before h within is few fits short = omega (arith, handed_few h, within, is, few, fits, short)
