-- The faults of a document, in the order in which they are looked for. The first is told.
use Rattle.std.specs.Prelude.{ℕ, ℤ, pos, negsuc, Bool, true, false, not, ◌&&◌, nat_le, nat_lt, int_lt, List, [], ◌∷◌, ◌++◌, length, count_by, Option, Some, None, is_some, option_map}
use Rattle.std.specs.List.{list_all, list_any, filter_map, flat_map}
use Rattle.std.specs.Option.{option_and_then, option_map_or}
use Rattle.std.specs.Str.{bytes_eq}
use Rattle.toml.specs.Data.{Data, Members, as_str, as_integer, as_array, as_table}
use Rattle.spool_config.specs.declared.settings.Key.{Key}
use Rattle.spool_config.specs.declared.settings.Key.TheVariants.{Pages, PageSize, MaxJobs, Account, Queue, Name, Limit, Printers}
use Rattle.spool_config.specs.declared.settings.ConfigFault.{ConfigFault}
use Rattle.spool_config.specs.declared.settings.ConfigFault.TheVariants.{Missing, WrongType, OutOfRange, SameName, LimitOverPool}
use Rattle.spool_config.specs.Keys.{is_in_range, value_at}
use Rattle.spool_config.specs.Told.{elements}

-- the fault, where the test is passed, or where it isn't
abbrev pub fault_if : Bool → ConfigFault → List ConfigFault
fault_if true fault = fault ∷ []
fault_if false fault = []

abbrev pub fault_unless : Bool → ConfigFault → List ConfigFault
fault_unless test fault = fault_if (not test) fault

-- whether a whole number is in the range of its key
abbrev pub is_number : Key → ℤ → Bool
is_number key (pos n) = is_in_range key n
is_number key (negsuc n) = false

-- of the number at a key, where a number stands there
abbrev pub type_faults : Key → Option ℤ → List ConfigFault
type_faults key None = WrongType key ∷ []
type_faults key (Some number) = fault_unless (is_number key number) (OutOfRange key)

-- of the value at a key whose value is to be a number
abbrev pub number_faults : Key → Option Data → List ConfigFault
number_faults key None = Missing key ∷ []
number_faults key (Some value) = type_faults key (as_integer value)

-- 21 to 7E in hexadecimal
abbrev pub is_printable : ℕ → Bool
is_printable octet = nat_le 33 octet && nat_le octet 126

abbrev pub is_name : List ℕ → Bool
is_name name = is_in_range Name (length name) && list_all is_printable name

-- of the text at `name`, where a text stands there
abbrev pub text_faults : Option (List ℕ) → List ConfigFault
text_faults None = WrongType Name ∷ []
text_faults (Some name) = fault_unless (is_name name) (OutOfRange Name)

abbrev pub name_faults : Option Data → List ConfigFault
name_faults None = Missing Name ∷ []
name_faults (Some value) = text_faults (as_str value)

-- of the table of a queue
abbrev pub queue_faults : Members → List ConfigFault
queue_faults t =
    name_faults (value_at Name t) ++ (number_faults Limit (value_at Limit t)
    ++ number_faults Printers (value_at Printers t))

-- of a row, where it is a table
abbrev pub row_faults : Data → List ConfigFault
row_faults row = option_map_or queue_faults (as_table row) []

abbrev pub is_row : Data → Bool
is_row row = is_some (as_table row)

-- of an array: each row is a table, there are 1 to 64, and what each row tells
abbrev pub array_faults : Option (List Data) → List ConfigFault
array_faults None = WrongType Queue ∷ []
array_faults (Some rows) =
    fault_unless (list_all is_row rows) (WrongType Queue)
    ++ (fault_unless (is_in_range Queue (length rows)) (OutOfRange Queue) ++ flat_map row_faults rows)

-- the rows of an array
abbrev pub rows_of : Data → Option (List Data)
rows_of value = option_map elements (as_array value)

abbrev pub rows_faults : Option Data → List ConfigFault
rows_faults None = Missing Queue ∷ []
rows_faults (Some value) = array_faults (rows_of value)

-- what stands at a key of a row
abbrev pub in_row : Key → Data → Option Data
in_row key row = option_and_then (value_at key) (as_table row)

-- the names and the limits that rows tell
abbrev pub names_of : List Data → List (List ℕ)
names_of = filter_map (λ row. option_and_then as_str (in_row Name row))

abbrev pub limits_of : List Data → List ℤ
limits_of = filter_map (λ row. option_and_then as_integer (in_row Limit row))

-- some name stands more than once among these
abbrev pub has_same : List (List ℕ) → Bool
has_same names = list_any (λ name. nat_lt 1 (count_by (bytes_eq name) names)) names

-- some limit is over the pages
abbrev pub is_over : Option ℤ → List ℤ → Bool
is_over None limits = false
is_over (Some pages) limits = list_any (int_lt pages) limits

-- the rows that stand at `queue`
abbrev pub queue_rows : Members → List Data
queue_rows document = option_map_or (λ rows. rows) (option_and_then rows_of (value_at Queue document)) []

abbrev pub whole_number : Option Data → Option ℤ
whole_number value = option_and_then as_integer value

abbrev pub same_name_faults : List Data → List ConfigFault
same_name_faults rows = fault_if (has_same (names_of rows)) SameName

abbrev pub over_pool_faults : Option ℤ → List Data → List ConfigFault
over_pool_faults pages rows = fault_if (is_over pages (limits_of rows)) LimitOverPool

-- all faults: key by key, row by row, then of the names, and then of the limits
abbrev pub faults_of : Members → List ConfigFault
faults_of document =
    number_faults Pages (value_at Pages document)
    ++ (number_faults PageSize (value_at PageSize document)
    ++ (number_faults MaxJobs (value_at MaxJobs document)
    ++ (number_faults Account (value_at Account document)
    ++ (rows_faults (value_at Queue document)
    ++ (same_name_faults (queue_rows document)
    ++ over_pool_faults (whole_number (value_at Pages document)) (queue_rows document))))))
