-- The rows of the array at `queue`.
use Rattle.std.proofs.Common.{◌≡◌, ℕ, ◌≤◌, ◌<◌, ◌⊎◌, true, false, ◌&&◌, nat_le, List, [], ◌∷◌, length, map, Option, Some, slice_get, option_map, refl, sym, ap, ◌∙◌, arith}
use Rattle.std.proofs.lemmas.Bool.{and_from, and_parts, false_from_ne_true, le-leb, leb-true}
use Rattle.std.specs.List.{list_all}
use Rattle.toml.specs.Data.{Data, as_array}
use Rattle.toml.specs.View.{view, items_view}
use Rattle.toml.specs.declared.value.Value.{Value}
use Rattle.spool_config.specs.declared.settings.ConfigFault.TheVariants.{WrongType, OutOfRange}
use Rattle.spool_config.specs.declared.settings.Key.TheVariants.{Queue}
use Rattle.spool_config.specs.Told.{elements}
use Rattle.spool_config.specs.Faults.{is_row, is_name, is_printable, rows_faults, array_faults}

pub range_parts : (least most n : ℕ) → (nat_le least n && nat_le n most) ≡ true → (least ≤ n) × (n ≤ most)
range_parts least most n both = let (low, high) = and_parts (nat_le least n) (nat_le n most) both in (leb-true least n low, leb-true n most high)

pub in_range : (least most n : ℕ) → least ≤ n → n ≤ most → (nat_le least n && nat_le n most) ≡ true
in_range least most n low high = and_from _ _ (le-leb least n low) (le-leb n most high)

pub out_of_range : (most n : ℕ) → (n ≡ 0) ⊎ (most < n) → (nat_le 1 n && nat_le n most) ≡ false
out_of_range most n out = false_from_ne_true _ (λ both. let r = range_parts 1 most n both in omega arith)

pub is_name-fit : (name : List ℕ) → 1 ≤ length name → length name ≤ 64 → list_all is_printable name ≡ is_name name
is_name-fit name low high = ap (λ b. b && list_all is_printable name) (sym (in_range 1 64 (length name) low high))

pub elements-view : (vs : List Value) → elements (items_view vs) ≡ map view vs
elements-view [] = refl
elements-view (v ∷ vs) = ap (λ rows. view v ∷ rows) (elements-view vs)

-- what is said of the value at `queue` where it is an array of these
pub rows_faults-array : (value : Option Data) (found : Data) (vs : List Value) → value ≡ Some found → as_array found ≡ Some (items_view vs) → rows_faults value ≡ array_faults (Some (map view vs))
rows_faults-array value found vs there is =
    ap rows_faults there ∙ ap (λ items. array_faults (option_map elements items)) is ∙ ap (λ rows. array_faults (Some rows)) (elements-view vs)

pub wrong_rows : (rows : List Data) → list_all is_row rows ≡ false → slice_get (array_faults (Some rows)) 0 ≡ Some (WrongType Queue)
wrong_rows rows wrong = rw wrong

pub uncounted_rows : (rows : List Data) → list_all is_row rows ≡ true → (length rows ≡ 0) ⊎ (64 < length rows) → slice_get (array_faults (Some rows)) 0 ≡ Some (OutOfRange Queue)
uncounted_rows rows right out = rw (right, out_of_range 64 (length rows) out)
