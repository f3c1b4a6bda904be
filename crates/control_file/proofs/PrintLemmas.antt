-- What a list of names needs to be a print list.
use Rattle.std.proofs.Common.{◌≡◌, ◌≤◌, ◌<◌, ℕ, true, List, length, arith}
use Rattle.lpd_values.specs.declared.limits.TheConstants.{MAX_PRINTS}
use Rattle.std.specs.List.{list_all}
use Rattle.std.proofs.lemmas.Bool.{and_from, le-leb}
use Rattle.lpd_values.specs.Name.{is_data_name}
use Rattle.lpd_values.specs.Kept.{is_print_list}

pub is_print_list_of : (ns : List (List ℕ)) → 0 < length ns → length ns ≤ MAX_PRINTS → list_all is_data_name ns ≡ true → is_print_list ns ≡ true
is_print_list_of ns h k d = and_from _ _ (and_from _ _ (le-leb 1 (length ns) (omega arith)) (le-leb (length ns) MAX_PRINTS k)) d
