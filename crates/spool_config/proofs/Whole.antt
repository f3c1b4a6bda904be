-- The faults of a whole document, where its keys and rows are read.
use Rattle.std.proofs.Common.{◌≡◌, ℕ, ◌≤◌, true, ℤ, pos, int_lt, List, [], ◌++◌, length, map, Option, Some, slice_get, All, refl, sym, ap, subst, ◌∙◌}
use Rattle.std.specs.List.{list_all, list_any, flat_map}
use Rattle.std.proofs.lemmas.List.{length-map}
use Rattle.std.proofs.lemmas.List.Elements.{recursion_from_All}
use Rattle.toml.specs.Data.{Data, array, Members}
use Rattle.toml.specs.View.{view, items_view}
use Rattle.toml.specs.declared.value.Value.{Value}
use Rattle.config_values.specs.Config as C
use Rattle.config_values.specs.Ranges.{IsWithin}
use Rattle.spool_config.specs.declared.settings.ConfigFault.{ConfigFault}
use Rattle.spool_config.specs.declared.settings.ConfigFault.TheVariants.{SameName, LimitOverPool}
use Rattle.spool_config.specs.declared.settings.Key.TheVariants.{Pages, PageSize, MaxJobs, Account, Queue}
use Rattle.spool_config.specs.Keys.{value_at}
use Rattle.spool_config.specs.Told.{HasNumber, TellQueues, TellsQueues, elements}
use Rattle.spool_config.specs.Faults.{fault_if, number_faults, row_faults, rows_faults, is_row, faults_of, has_same, is_over, whole_number, queue_rows, names_of, limits_of}
use Rattle.spool_config.proofs.Names.{names}
use Rattle.spool_config.proofs.Lists.{first_of}
use Rattle.spool_config.proofs.Rows.{in_range, elements-view, rows_faults-array}
use Rattle.spool_config.proofs.Fitting.{are_told, told_fit}

-- the numbers of the document have no fault
pub record KeysFit (d : Members) : Type 0 where
  pub pages : number_faults Pages (value_at Pages d) ≡ []
  pub page_size : number_faults PageSize (value_at PageSize d) ≡ []
  pub max_jobs : number_faults MaxJobs (value_at MaxJobs d) ≡ []
  pub account : number_faults Account (value_at Account d) ≡ []

abbrev pub limits : List C.Queue → List ℤ
limits queues = map (λ (q : C.Queue). pos q.limit) queues

-- the faults after those of the numbers
abbrev after_keys : Members → List ConfigFault
after_keys d =
    rows_faults (value_at Queue d)
    ++ (fault_if (has_same (names_of (queue_rows d))) SameName
    ++ fault_if (is_over (whole_number (value_at Pages d)) (limits_of (queue_rows d))) LimitOverPool)

faults_after_keys : (d : Members) → KeysFit d → faults_of d ≡ after_keys d
faults_after_keys d keys = rw (keys.pages, keys.page_size, keys.max_jobs, keys.account)

-- the faults of the rows where there are 1 to 64 tables
pub rows_are : (value : Option Data) (vs : List Value) → value ≡ Some (array (items_view vs)) → list_all is_row (map view vs) ≡ true
    → 1 ≤ length vs → length vs ≤ 64 → rows_faults value ≡ flat_map row_faults (map view vs)
rows_are value vs there tables some few =
    rows_faults-array value (array (items_view vs)) vs there refl
    ∙ rw (tables, length-map vs view, in_range 1 64 (length vs) some few)

-- a fault of a queue is told where the keys before it have none
pub queue_fault_told : (d : Members) (vs : List Value) (fault : ConfigFault) → KeysFit d → value_at Queue d ≡ Some (array (items_view vs))
    → list_all is_row (map view vs) ≡ true → 1 ≤ length vs → length vs ≤ 64
    → slice_get (flat_map row_faults (map view vs)) 0 ≡ Some fault → slice_get (faults_of d) 0 ≡ Some fault
queue_fault_told d vs fault keys there tables some few first =
    ap (λ faults. slice_get faults 0) (faults_after_keys d keys)
    ∙ first_of (rows_faults (value_at Queue d)) _ fault (ap (λ faults. slice_get faults 0) (rows_are _ vs there tables some few) ∙ first)

-- what rows tell, as the value at `queue` tells it
pub queues_told : (value : Option Data) (vs : List Value) (queues : List C.Queue) → value ≡ Some (array (items_view vs)) → TellQueues (map view vs) queues → TellsQueues value queues
queues_told value vs queues there told =
    (items_view vs, there, subst (λ rows. TellQueues rows queues) (sym (elements-view vs)) told)

-- what is read of a document: these pages, and the queues that its 1 to 64 rows tell, with no fault of its own
pub record Read (d : Members) (pages : ℕ) (queues : List C.Queue) : Type 0 where
  pub keys : KeysFit d
  pub stands : HasNumber d Pages pages
  pub told : TellsQueues (value_at Queue d) queues
  pub some : 1 ≤ length queues
  pub few : length queues ≤ 64
  pub within : All (IsWithin 65536) queues

-- then its faults are those of the names and of the limits
pub faults_told : (d : Members) (pages : ℕ) (queues : List C.Queue) → Read d pages queues
    → faults_of d ≡ fault_if (has_same (names queues)) SameName ++ fault_if (list_any (int_lt (pos pages)) (limits queues)) LimitOverPool
faults_told d pages queues r =
    let rows = elements r.told.0 in
    let told = are_told rows queues r.told.2 in
    let fit : rows_faults (value_at Queue d) ≡ [] =
    ap rows_faults r.told.1 ∙ rw (told.tables, told.count, in_range 1 64 (length queues) r.some r.few, told_fit rows queues r.told.2 (recursion_from_All (IsWithin 65536) queues r.within)) in
    let there : queue_rows d ≡ rows = rw r.told.1 in
    faults_after_keys d r.keys ∙ rw (fit, there, told.names, told.limits, r.stands)

-- a fault of the rows is told where the keys before them have none
pub rows_fault_told : (d : Members) (fault : ConfigFault) → KeysFit d → slice_get (rows_faults (value_at Queue d)) 0 ≡ Some fault → slice_get (faults_of d) 0 ≡ Some fault
rows_fault_told d fault keys first =
    ap (λ faults. slice_get faults 0) (faults_after_keys d keys) ∙ first_of (rows_faults (value_at Queue d)) _ fault first

pub length-queues : (vs : List Value) (queues : List C.Queue) → TellQueues (map view vs) queues → length queues ≡ length vs
length-queues vs queues told = sym (are_told (map view vs) queues told).count ∙ length-map vs view

pub first_told : (d : Members) (pages : ℕ) (queues : List C.Queue) → Read d pages queues
    → slice_get (faults_of d) 0 ≡ slice_get (fault_if (has_same (names queues)) SameName ++ fault_if (list_any (int_lt (pos pages)) (limits queues)) LimitOverPool) 0
first_told d pages queues r = ap (λ faults. slice_get faults 0) (faults_told d pages queues r)
