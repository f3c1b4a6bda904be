-- A text without a fault gives a configuration.
use Rattle.std.proofs.Common.{◌≡◌, ℕ, ◌≤◌, Bool, true, false, not, nat_le, pos, List, [], ◌∷◌, ◌++◌, length, Option, Some, None, slice_get, get_or, All, refl, sym, ap, ◌∙◌, arith}
use Rattle.std.specs.List.{list_all, flat_map, AllByRecursion}
use Rattle.std.proofs.lemmas.Bool.{and_parts, false≢true, leb-true, not-false}
use Rattle.std.proofs.lemmas.List.Elements.{All-from_recursion}
use Rattle.std.proofs.lemmas.List.Sums.{AllPass-from_list_all}
use Rattle.toml.specs.Data.{Data, string, integer, array, table, Items, Members}
use Rattle.config_values.specs.Config as C
use Rattle.config_values.specs.Ranges.{IsQueueName, IsWithin, IsConfig}
use Rattle.spool_config.specs.declared.settings.ConfigFault.{ConfigFault}
use Rattle.spool_config.specs.declared.settings.ConfigFault.TheVariants.{WrongType, OutOfRange, SameName, LimitOverPool}
use Rattle.spool_config.specs.declared.settings.Key.{Key}
use Rattle.spool_config.specs.declared.settings.Key.TheVariants.{Pages, PageSize, MaxJobs, Account, Queue, Name, Limit, Printers}
use Rattle.spool_config.specs.Keys.{value_at, most_of, is_in_range}
use Rattle.spool_config.specs.Told.{TellsQueue, TellQueues, TellsQueues, TellsConfig, elements}
use Rattle.spool_config.specs.Faults.{fault_if, fault_unless, number_faults, name_faults, queue_faults, row_faults, rows_faults, array_faults, is_row, is_name, is_printable, faults_of, has_same}
use Rattle.spool_config.specs.Answers.{document_of, first_fault, fault_of, GivesConfig}
use Rattle.spool_config.proofs.Lists.{limits_within}
use Rattle.spool_config.proofs.Names.{names, own_names}
use Rattle.spool_config.proofs.Rows.{range_parts}
use Rattle.spool_config.proofs.Fitting.{are_told, within_more}
use Rattle.spool_config.proofs.Whole.{KeysFit, Read, faults_told}

no_first : {X : Type 0} (xs : List X) → slice_get xs 0 ≡ None → xs ≡ []
no_first [] none = refl
no_first (x ∷ xs) none = absurd cc

no_parts : {X : Type 0} (xs ys : List X) → xs ++ ys ≡ [] → (xs ≡ []) × (ys ≡ [])
no_parts [] ys none = (refl, none)
no_parts (x ∷ xs) ys none = absurd cc

not_passed : (b : Bool) (fault : ConfigFault) → fault_if b fault ≡ [] → b ≡ false
not_passed true fault none = absurd cc
not_passed false fault none = refl

passed : (b : Bool) (fault : ConfigFault) → fault_unless b fault ≡ [] → b ≡ true
passed b fault none = not-false b (not_passed (not b) fault none)

abbrev NumberIn : Key → Option Data → Type 0
NumberIn key value = (n : ℕ) × (value ≡ Some (integer (pos n))) × (1 ≤ n) × (n ≤ most_of key)

number_found : (key : Key) (value : Option Data) → number_faults key value ≡ [] → NumberIn key value
number_found key (Some (integer (pos n))) none =
    let (low, high) = range_parts 1 (most_of key) n (passed (is_in_range key n) (OutOfRange key) none) in
    (n, refl, low, high)
number_found key _ none = absurd cc

-- the number at a key whose faults stand first, and that the other faults are none
number_first : (key : Key) (value : Option Data) (rest : List ConfigFault) → number_faults key value ++ rest ≡ [] → (number_faults key value ≡ []) × NumberIn key value × (rest ≡ [])
number_first key value rest none = let (here, more) = no_parts (number_faults key value) rest none in (here, number_found key value here, more)

is_name_found : (name : List ℕ) → is_name name ≡ true → IsQueueName name
is_name_found name is =
    let (range, each) = and_parts (is_in_range Name (length name)) (list_all is_printable name) is in
    let (low, high) = range_parts 1 64 (length name) range in
    record { low = low; high = high; printable = λ k d lt. range_parts 33 126 (get_or name k d) (AllPass-from_list_all is_printable name each k d lt) }

name_found : (value : Option Data) → name_faults value ≡ [] → (name : List ℕ) × (value ≡ Some (string name)) × IsQueueName name
name_found (Some (string s)) none = (s, refl, is_name_found s (passed (is_name s) (OutOfRange Name) none))
name_found _ none = absurd cc

abbrev QueueIn : Members → Type 0
QueueIn t = (q : C.Queue) × TellsQueue t q × IsWithin 65536 q

queue_found : (t : Members) → queue_faults t ≡ [] → QueueIn t
queue_found t none =
    let (named, more) = no_parts (name_faults (value_at Name t)) _ none in
    let (none_over, limit, rest) = number_first Limit (value_at Limit t) _ more in
    let name = name_found (value_at Name t) named in
    let printers = number_found Printers (value_at Printers t) rest in (
      record { name = name.0; limit = limit.0; printers = printers.0 },
      record { name = name.1; limit = limit.1; printers = printers.1 },
      record { name = name.2; limit_low = limit.2; limit_high = limit.3; printers_low = printers.2; printers_high = printers.3 },
    )

abbrev QueuesIn : List Data → Type 0
QueuesIn rows = (queues : List C.Queue) × TellQueues rows queues × AllByRecursion (IsWithin 65536) queues

one_more_found : (t : Members) (rows : List Data) → QueueIn t → QueuesIn rows → QueuesIn (table t ∷ rows)
one_more_found t rows first rest = (first.0 ∷ rest.0, ((t, refl, first.1), rest.1), (first.2, rest.2))

rows_found : (rows : List Data) → list_all is_row rows ≡ true → flat_map row_faults rows ≡ [] → QueuesIn rows
rows_found [] each none = ([], tt, tt)
rows_found (table t ∷ rows) each none =
    let (here, more) = no_parts (queue_faults t) (flat_map row_faults rows) none in
    one_more_found t rows (queue_found t here) (rows_found rows each more)
rows_found (_ ∷ rows) each none = absurd (false≢true each)

abbrev RowsIn : Option Data → Type 0
RowsIn value = (queues : List C.Queue) × TellsQueues value queues × (1 ≤ length queues) × (length queues ≤ 64) × All (IsWithin 65536) queues

array_found : (items : Items) → array_faults (Some (elements items)) ≡ [] → RowsIn (Some (array items))
array_found items none =
    let rows = elements items in
    let (tables, more) = no_parts (fault_unless (list_all is_row rows) (WrongType Queue)) (fault_unless (is_in_range Queue (length rows)) (OutOfRange Queue) ++ flat_map row_faults rows) none in
    let (count, each) = no_parts (fault_unless (is_in_range Queue (length rows)) (OutOfRange Queue)) (flat_map row_faults rows) more in
    let found = rows_found rows (passed (list_all is_row rows) (WrongType Queue) tables) each in
    let (some, few) = range_parts 1 64 (length rows) (passed (is_in_range Queue (length rows)) (OutOfRange Queue) count) in
    let same = (are_told rows found.0 found.1).count in
    (found.0, (items, refl, found.1), omega (arith, same, some), omega (arith, same, few), All-from_recursion (IsWithin 65536) found.0 found.2)

value_found : (value : Option Data) → rows_faults value ≡ [] → RowsIn value
value_found (Some (array items)) none = array_found items none
value_found _ none = absurd cc

within_pages : (pages : ℕ) (queues : List C.Queue) → All (IsWithin 65536) queues → list_all (λ (q : C.Queue). nat_le q.limit pages) queues ≡ true → All (IsWithin pages) queues
within_pages pages queues each fit = λ k d lt.
    let q = get_or queues k d in
    within_more pages q (each k d lt) (leb-true q.limit pages (AllPass-from_list_all (λ (q : C.Queue). nat_le q.limit pages) queues fit k d lt))

document_found : (d : Members) → faults_of d ≡ [] → (c : C.Config) × TellsConfig d c
document_found d none =
    let (p, pages, a) = number_first Pages (value_at Pages d) _ none in
    let (s, page_size, b) = number_first PageSize (value_at PageSize d) _ a in
    let (j, max_jobs, e) = number_first MaxJobs (value_at MaxJobs d) _ b in
    let (o, account, f) = number_first Account (value_at Account d) _ e in
    let rows = value_found (value_at Queue d) (no_parts (rows_faults (value_at Queue d)) _ f).0 in
    let keys : KeysFit d = record { pages = p; page_size = s; max_jobs = j; account = o } in
    let read : Read d pages.0 rows.0 = record { keys = keys; stands = pages.1; told = rows.1; some = rows.2; few = rows.3; within = rows.4 } in
    let (own, fit) = no_parts (fault_if (has_same (names rows.0)) SameName) _ (sym (faults_told d pages.0 rows.0 read) ∙ none) in
    let within = within_pages pages.0 rows.0 rows.4 (limits_within pages.0 rows.0 ∙ ap not (not_passed _ LimitOverPool fit)) in
    let ranges : IsConfig (record { pages = pages.0; page_size = page_size.0; max_jobs = max_jobs.0; account = account.0; queues = rows.0 }) = record {
      pages_low = pages.2;
      pages_high = pages.3;
      page_size_low = page_size.2;
      page_size_high = page_size.3;
      max_jobs_low = max_jobs.2;
      max_jobs_high = max_jobs.3;
      account_low = account.2;
      account_high = (let most = account.3 in omega arith);
      some_queue = rows.2;
      few_queues = rows.3;
      queues = within;
      names = own_names rows.0 (not_passed _ SameName own);
    } in (
      record { pages = pages.0; page_size = page_size.0; max_jobs = max_jobs.0; account = account.0; queues = rows.0 },
      record { pages = pages.1; page_size = page_size.1; max_jobs = max_jobs.1; account = account.1; queues = rows.1; ranges = ranges; account_most = account.3 },
    )

text_found : (text : List ℕ) (document : Option Members) → document_of text ≡ document → first_fault document ≡ None → (c : C.Config) × GivesConfig text c
text_found text None is none = absurd cc
text_found text (Some d) is none =
    let found = document_found d (no_first (faults_of d) none) in
    (found.0, (d, is, found.1))

pub given_found : (text : List ℕ) → fault_of text ≡ None → (c : C.Config) × GivesConfig text c
given_found text none = text_found text (document_of text) refl none
