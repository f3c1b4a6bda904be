-- What is known of a job for which a spool has room.
use Rattle.std.proofs.Common.{◌≡◌, ◌≢◌, ◌*◌, ◌^◌, ◌<◌, ◌≤◌, ℕ, zero, suc, Bool, true, false, List, [], ◌∷◌, ◌++◌, length, refl, sym, ◌∙◌, arith}
use Rattle.std.specs.Prelude.{All}
use Rattle.std.specs.List.{list_all}
use Rattle.std.specs.Str.{bytes_eq}
use Rattle.std.proofs.Math.Nat.{mul-le-mul}
use Rattle.std.proofs.lemmas.Bool.{and_parts, and_from, leb-true}
use Rattle.std.proofs.lemmas.List.Elements.{All-head, All-tail}
use Rattle.std.proofs.lemmas.List.Folds.{list_any-append}
use Rattle.std.proofs.lemmas.Slice.Eq.{bytes_eq-Decides}
use Rattle.lpd_values.specs.declared.limits.TheConstants.{MAX_CONTROL_TEXT, MAX_FILES}
use Rattle.lpd_values.specs.Kept.{is_among}
use Rattle.control_file.proofs.WriteLemmas.{control_is_read_back}
use Rattle.config_values.specs.Config.{Config, IsQueue, limit_of, no_queue}
use Rattle.config_values.specs.Ranges.{IsConfig}
use Rattle.lpr_client.specs.declared.file.DataFile.{DataFile}
use Rattle.lpr_client.specs.Parts.{AreCounted}
use Rattle.lpr_client.proofs.JobReading.{IsSendable, sendable}
use Rattle.lpr_client.proofs.LineLemmas.{receive_line, control_line}
use Rattle.spool_history.specs.Legal.{pages_for}
use Rattle.step_lemmas.proofs.HeldJobs.Files.{all_is_none_left}
use Rattle.config_values.specs.Config.{queue_named}
use Rattle.spool_trace.specs.Trace.{Trace}
use Rattle.lone_jobs.specs.Lone.{Sent, HasRoomFor, HaveOwnNames, file_names, pages_of_files}
use Rattle.lone_jobs.proofs.Files.{pages_more}
use Rattle.lone_jobs.proofs.Places.{AllFresh, IsKnown, text}
use Rattle.spool_trace.proofs.Whole.{limit_pages}
use Rattle.spool_laws.proofs.Behind.{bool_cases as not_so}

-- files that take few pages have few octets
counted : (c : Config) (files : List DataFile) → IsConfig c → pages_of_files c.page_size files ≤ 65536 → AreCounted files
counted c [] ranges few = tt
counted c (file ∷ files) ranges few =
    let n : ℕ = pages_for c.page_size (length file.octets) in
    let more = pages_more c.page_size file files in
    let high = ranges.page_size_high in
    let all : length file.octets ≤ n * c.page_size = all_is_none_left c.page_size n (length file.octets) ranges.page_size_low refl in
    let pages : n ≤ 65536 = omega (arith, more, few) in
    let most : n * c.page_size ≤ 65536 * 65536 = mul-le-mul {n₁ = n} {m₁ = c.page_size} {n₂ = 65536} {m₂ = 65536} pages high in
    (omega (arith, all, most), counted c files ranges (omega (arith, more, few)))

-- none of the files has one of the names
abbrev NoneIn : List (List ℕ) → List DataFile → Type 0
NoneIn names [] = Unit {0}
NoneIn names (file ∷ files) = (is_among file.name names ≡ false) × NoneIn names files

none_in_none : (files : List DataFile) → NoneIn [] files
none_in_none [] = tt
none_in_none (file ∷ files) = (refl, none_in_none files)

one_more_name : (names : List (List ℕ)) (name other : List ℕ) → is_among other names ≡ false → other ≢ name → is_among other (names ++ name ∷ []) ≡ false
one_more_name names name other none ne =
    let last : bytes_eq name other ≡ false = not_so (bytes_eq name other) (λ e. ne (sym ((bytes_eq-Decides name other).0 e))) in
    list_any-append (λ (x : List ℕ). bytes_eq x other) names (name ∷ []) ∙ rw (none, last) refl

none_more : (names : List (List ℕ)) (file : DataFile) (files : List DataFile) → NoneIn names files → All (λ other. other.name ≢ file.name) files → NoneIn (names ++ file.name ∷ []) files
none_more names file [] none own = tt
none_more names file (other ∷ files) none own = (
  one_more_name names file.name other.name none.0 (All-head (λ (o : DataFile). o.name ≢ file.name) other files own),
  none_more names file files none.1 (All-tail (λ (o : DataFile). o.name ≢ file.name) other files own),
)

all_fresh : (names : List (List ℕ)) (files : List DataFile) → HaveOwnNames files → NoneIn names files → AllFresh names files
all_fresh names [] own none = tt
all_fresh names (file ∷ files) own none = (none.0, all_fresh (names ++ file.name ∷ []) files own.1 (none_more names file files none.1 own.0))

all_printed : (test : List ℕ → Bool) (names : List (List ℕ)) → All (λ name. test name ≡ true) names → list_all test names ≡ true
all_printed test [] all = refl
all_printed test (name ∷ names) all =
    and_from (test name) (list_all test names) (All-head (λ n. test n ≡ true) name names all) (all_printed test names (All-tail (λ n. test n ≡ true) name names all))

pub known : (c : Config) (t : Trace) (job : Sent) → HasRoomFor c t job → IsKnown c job
known c t job room =
    let limit = limit_pages c (queue_named c job.queue) room.config room.known in
    let high = room.config.pages_high in
    let few = room.pages in
    let count = counted c job.files room.config (omega (arith, limit, high, few)) in
    let s : IsSendable job.queue job.name job.control job.files = sendable job.queue job.name job.control job.files room.sendable count in
    let length_few : length (text c job) ≤ MAX_CONTROL_TEXT = s.text in
    let short : length (text c job) < 10 ^ 19 = omega (arith, length_few) in
    let long : 1 ≤ length (text c job) = omega arith in
    record {
      ranges = room.config;
      queue = room.known;
      first_line = receive_line job.queue s.queue_word;
      control_line = control_line (length (text c job)) job.name short s.control_name;
      some = long;
      few = s.text;
      read = control_is_read_back job.control job.name s.number s.text;
      printed = all_printed (λ name. is_among name (file_names job.files)) job.control.prints room.printed;
      max_files = leb-true (length job.files) MAX_FILES (and_parts _ _ (and_parts _ _ (and_parts _ _ room.sendable).1).0).1;
      fresh = all_fresh [] job.files room.names (none_in_none job.files);
      files = s.data_files;
      pages = room.pages;
    }
