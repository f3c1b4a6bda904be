-- What is written of a segment's head and end is read back.
use Rattle.std.proofs.Common.{◌≡◌, ◌==◌, ◌<◌, ◌≤◌, ◌^◌, ℕ, Bool, true, false, List, [], ◌∷◌, ◌++◌, inl, inr, length, map, refl, sym, ◌∙◌, ap, subst, arith, lit<, append_assoc, All}
use Rattle.std.specs.Prelude.{Option, Some, None, codes, unwrap_or, if◌then◌else◌}
use Rattle.std.specs.List.{list_all}
use Rattle.std.specs.Fmt.{decimal}
use Rattle.std.specs.Str.{bytes_eq}
use Rattle.std.proofs.lemmas.Bool.{and_parts, and_from, cases_Bool, eqb-true, le-leb, leb-true}
use Rattle.std.proofs.lemmas.Bool.Decides.{nat_tests}
use Rattle.std.proofs.lemmas.List.{append-nil}
use Rattle.std.proofs.lemmas.List.Elements.{All-head, All-tail}
use Rattle.std.proofs.lemmas.Slice.Eq.{bytes_eq-Decides}
use Rattle.hex.specs.Hex.{encode_lower}
use Rattle.control_lines.specs.Escapes.{is_shown}
use Rattle.config_values.specs.Config.{Config, Queue}
use Rattle.config_values.specs.Ranges.{IsConfig, IsQueueName, IsWithin}
use Rattle.lpd_values.specs.Digits.{count_of}
use Rattle.lpd_values.specs.Kinds.{is_digit, is_word_octet}
use Rattle.lpd_values.proofs.DigitLemmas.{decimal_is}
use Rattle.lpd_values.proofs.NameLemmas.{digit_word}
use Rattle.lpd_values.proofs.PieceLemmas.{list_all-wider}
use Rattle.account_text.specs.Lines.{shown_as}
use Rattle.account_text.specs.Reading as A
use Rattle.account_text.specs.Reading.{words_of}
use Rattle.account_text.specs.Told.{IsU64, IsU32}
use Rattle.account_text.proofs.WordLaws.{IsWord, AreWords, joined, is_some_if, spaced, spaced-cons, words_of-joined, digest_read, shown_read, shown_word}
use Rattle.account_text.proofs.ReadBack.{long_word, short_word, long_read, short_read, digest_word}
use Rattle.segment_text.specs.Configs.{is_queue_name}
use Rattle.segment_text.specs.Heads as H
use Rattle.segment_text.specs.declared.head.Version.{Version}
use Rattle.segment_text.specs.declared.head.Version.TheVariants as version
use Rattle.segment_text.specs.declared.read.StartWord.{StartWord}
use Rattle.segment_text.specs.declared.read.StartWord.TheVariants as first
use Rattle.segment_text.specs.Heads.{Begin, Origin, Printer, Start, Last}
use Rattle.segment_text.specs.Heads.Begin.{AtBase, Amid}
use Rattle.segment_text.specs.Meant.{OriginIsReadBack, ConfigIsReadBack, PrinterIsReadBack, StartIsReadBack, LastIsReadBack}
use Rattle.segment_text.specs.Reading as R
use Rattle.segment_text.specs.Reading.{are_ordered, behind, fits_shape, is_time, stamp_of, queues_onto, stopped_onto, is_u32}
use Rattle.segment_text.specs.Seen.{IsBegin, IsOrigin, IsPrinter, IsPrevious, IsBeginning, IsStart, IsLast}

-- times are words
fits_octets : (w t : List ℕ) → list_all is_word_octet t ≡ true → fits_shape w t ≡ true → list_all is_word_octet w ≡ true
fits_octets [] t k f = refl
fits_octets (b ∷ bs) [] k f = cc f
fits_octets (b ∷ bs) (t ∷ ts) k f = and_from _ _ (one (t == 48) (and_parts _ _ k).0 (and_parts _ _ f).0) (fits_octets bs ts (and_parts _ _ k).1 (and_parts _ _ f).1)
  where
    one : (zero : Bool) → is_word_octet t ≡ true → (if zero then is_digit b else b == t) ≡ true → is_word_octet b ≡ true
    one true kept is = digit_word b is
    one false kept is = ap is_word_octet (eqb-true b t is) ∙ kept

stamp_fits : (b : Bool) (w : List ℕ) → (if b then Some w else None) ≡ Some w → b ≡ true
stamp_fits true w e = refl
stamp_fits false w e = cc e

stamp_word : (w : List ℕ) → stamp_of w ≡ Some w → IsWord w
stamp_word w e = (some w fits, fits_octets w (codes "0000-00-00T00:00:00Z") refl fits)
  where
    fits : fits_shape w (codes "0000-00-00T00:00:00Z") ≡ true
    fits = (and_parts _ _ (stamp_fits (is_time w) w e)).0

    some : (v : List ℕ) → fits_shape v (codes "0000-00-00T00:00:00Z") ≡ true → 0 < length v
    some [] f = cc f
    some (b ∷ bs) f = omega arith

-- where a segment stands
abbrev pub previous_list : Option (List ℕ) → List (List ℕ)
previous_list None = codes "first" ∷ []
previous_list (Some d) = codes "after" ∷ encode_lower d ∷ []

abbrev pub version_list : Version → List ℕ
version_list version.One = codes "1"
version_list version.Two = codes "2"

version_spaced : (v : Version) → H.version_word v ≡ 32 ∷ version_list v
version_spaced version.One = refl
version_spaced version.Two = refl

version_is_word : (v : Version) → IsWord (version_list v)
version_is_word version.One = (lit< tt, refl)
version_is_word version.Two = (lit< tt, refl)

version_read : (v : Version) → R.version_of (version_list v) ≡ Some v
version_read version.One = refl
version_read version.Two = refl

abbrev pub origin_words : Origin → List (List ℕ)
origin_words o = codes "account" ∷ version_list o.version ∷ decimal o.run ∷ decimal o.segment ∷ o.first ∷ o.last ∷ previous_list o.previous

previous_spaced : (p : Option (List ℕ)) → H.previous_words p ≡ spaced (previous_list p)
previous_spaced None = refl
previous_spaced (Some d) = refl

previous_are : (p : Option (List ℕ)) → IsPrevious p → AreWords (previous_list p)
previous_are None h = ((lit< tt, refl), tt)
previous_are (Some d) h = ((lit< tt, refl), (digest_word d h.0 h.1, tt))

previous_read : (p : Option (List ℕ)) → IsPrevious p → R.previous_in (previous_list p) ≡ Some p
previous_read None h = refl
previous_read (Some d) h = let e = digest_read d h.0 h.1 in rw e refl

pub origin_joined : (o : Origin) → H.origin_line o ≡ joined (origin_words o)
origin_joined o =
    ap (λ (l : List ℕ). codes "account" ++ (l ++ (32 ∷ (decimal o.run ++ (32 ∷ (decimal o.segment ++ (32 ∷ (o.first ++ (32 ∷ (o.last ++ H.previous_words o.previous)))))))))) (version_spaced o.version)
    ∙ ap (λ (l : List ℕ). codes "account" ++ (32 ∷ (version_list o.version ++ (32 ∷ (decimal o.run ++ (32 ∷ (decimal o.segment ++ (32 ∷ (o.first ++ l)))))))))
    (ap (λ (l : List ℕ). 32 ∷ (o.last ++ l)) (previous_spaced o.previous) ∙ spaced-cons o.last (previous_list o.previous))

pub origin_are : (o : Origin) → IsOrigin o → AreWords (origin_words o)
origin_are o h = (
  (lit< tt, refl),
  (version_is_word o.version, (long_word o.run h.0, (long_word o.segment h.1, (stamp_word o.first h.2, (stamp_word o.last h.3, previous_are o.previous h.4))))),
)

pub origin_back : OriginIsReadBack
origin_back o h =
    let a = long_read o.run h.0 in
    let b = long_read o.segment h.1 in
    let c : stamp_of o.first ≡ Some o.first = h.2 in
    let d : stamp_of o.last ≡ Some o.last = h.3 in
    let e = previous_read o.previous h.4 in
    let f = version_read o.version in
    let g : are_ordered o.version o.first o.last ≡ true = h.5 in
    ap R.origin_of (origin_joined o)
    ∙ (ap (behind (codes "account") R.origin_in) (words_of-joined (origin_words o) (origin_are o h)) ∙ rw (a, b, c, d, e, f, g) refl)

-- a configuration
abbrev pub queue_list : List Queue → List (List ℕ)
queue_list [] = []
queue_list (q ∷ qs) = q.name ∷ decimal q.limit ∷ decimal q.printers ∷ queue_list qs

abbrev pub config_words : Config → List (List ℕ)
config_words c = codes "config" ∷ decimal c.pages ∷ decimal c.page_size ∷ decimal c.max_jobs ∷ decimal c.account ∷ queue_list c.queues

queues_spaced : (qs : List Queue) → H.queues_words qs ≡ spaced (queue_list qs)
queues_spaced [] = refl
queues_spaced (q ∷ qs) =
    ap (λ (l : List ℕ). 32 ∷ (q.name ++ (32 ∷ (decimal q.limit ++ (32 ∷ (decimal q.printers ++ l)))))) (queues_spaced qs)
    ∙ ap (λ (l : List ℕ). 32 ∷ (q.name ++ (32 ∷ (decimal q.limit ++ l)))) (spaced-cons (decimal q.printers) (queue_list qs))

-- a queue's name is what the ranges say
shown_octet : (b : ℕ) → (33 ≤ b) × (b ≤ 126) → is_shown b ≡ true
shown_octet b h = and_from _ _ (le-leb 33 b h.0) (le-leb b 126 h.1)

pub octet_shown : (b : ℕ) → is_shown b ≡ true → (33 ≤ b) × (b ≤ 126)
octet_shown b h = (leb-true 33 b (and_parts _ _ h).0, leb-true b 126 (and_parts _ _ h).1)

shown_is_word : (b : ℕ) → is_shown b ≡ true → is_word_octet b ≡ true
shown_is_word b h = grind (arith, nat_tests)

abbrev IsShown : ℕ → Type 0
IsShown b = (33 ≤ b) × (b ≤ 126)

all_shown : (s : List ℕ) → All IsShown s → list_all is_shown s ≡ true
all_shown [] h = refl
all_shown (b ∷ bs) h = and_from _ _ (shown_octet b (All-head IsShown b bs h)) (all_shown bs (All-tail IsShown b bs h))

pub queue_name_is : (s : List ℕ) → IsQueueName s → is_queue_name s ≡ true
queue_name_is s h = and_from _ _ (and_from _ _ (le-leb 1 (length s) h.low) (le-leb (length s) 64 h.high)) (all_shown s h.printable)

name_is_word : (s : List ℕ) → IsQueueName s → IsWord s
name_is_word s h = (omega (arith, h.low), list_all-wider is_shown is_word_octet shown_is_word s (all_shown s h.printable))

-- its limit and its printers have 32 bits
limit_fits : (pages : ℕ) (q : Queue) → pages ≤ 65536 → IsWithin pages q → IsU32 q.limit
limit_fits pages q few h = let p : 65536 < 2 ^ 32 = lit< tt in omega (arith, h.limit_high)

printers_fit : (pages : ℕ) (q : Queue) → IsWithin pages q → IsU32 q.printers
printers_fit pages q h = let p : 16 < 2 ^ 32 = lit< tt in omega (arith, h.printers_high)

queues_are : (pages : ℕ) (qs : List Queue) → pages ≤ 65536 → All (IsWithin pages) qs → AreWords (queue_list qs)
queues_are pages [] few h = tt
queues_are pages (q ∷ qs) few h =
    let own = All-head (IsWithin pages) q qs h in (
      name_is_word q.name own.name,
      (short_word q.limit (limit_fits pages q few own), (short_word q.printers (printers_fit pages q own), queues_are pages qs few (All-tail (IsWithin pages) q qs h))),
    )

queues_read : (pages : ℕ) (done qs : List Queue) → pages ≤ 65536 → All (IsWithin pages) qs → queues_onto done (queue_list qs) ≡ Some (done ++ qs)
queues_read pages done [] few h = ap Some (sym (append-nil done))
queues_read pages done (q ∷ qs) few h =
    let own = All-head (IsWithin pages) q qs h in
    let n = queue_name_is q.name own.name in
    let a = is_some_if (is_u32 (decimal q.limit)) (count_of (decimal q.limit)) q.limit (short_read q.limit (limit_fits pages q few own)) in
    let b = is_some_if (is_u32 (decimal q.printers)) (count_of (decimal q.printers)) q.printers (short_read q.printers (printers_fit pages q own)) in
    let la : is_u32 (decimal q.limit) ≡ true = a.0 in
    let lb : is_u32 (decimal q.printers) ≡ true = b.0 in
    let va : count_of (decimal q.limit) ≡ q.limit = a.1 in
    let vb : count_of (decimal q.printers) ≡ q.printers = b.1 in
    let rest = queues_read pages (done ++ q ∷ []) qs few (All-tail (IsWithin pages) q qs h) in
    rw (n, la, lb, va, vb) (rest ∙ ap Some (append_assoc done (q ∷ []) qs))

pub config_joined : (c : Config) → H.config_line c ≡ joined (config_words c)
config_joined c =
    ap (λ (l : List ℕ). codes "config" ++ (32 ∷ (decimal c.pages ++ (32 ∷ (decimal c.page_size ++ (32 ∷ (decimal c.max_jobs ++ l)))))))
    (ap (λ (l : List ℕ). 32 ∷ (decimal c.account ++ l)) (queues_spaced c.queues) ∙ spaced-cons (decimal c.account) (queue_list c.queues))

-- its numbers have 32 bits
pages_fit : (c : Config) → IsConfig c → IsU32 c.pages
pages_fit c h = let p : 65536 < 2 ^ 32 = lit< tt in omega (arith, h.pages_high)

page_size_fits : (c : Config) → IsConfig c → IsU32 c.page_size
page_size_fits c h = let p : 65536 < 2 ^ 32 = lit< tt in omega (arith, h.page_size_high)

max_jobs_fit : (c : Config) → IsConfig c → IsU32 c.max_jobs
max_jobs_fit c h = let p : 1024 < 2 ^ 32 = lit< tt in omega (arith, h.max_jobs_high)

account_fits : (c : Config) → IsConfig c → IsU64 c.account
account_fits c h = let p : 2 ^ 62 < 2 ^ 64 = lit< tt in omega (arith, h.account_high)

pub config_are : (c : Config) → IsConfig c → AreWords (config_words c)
config_are c h = (
  (lit< tt, refl),
  (
    short_word c.pages (pages_fit c h),
    (short_word c.page_size (page_size_fits c h), (short_word c.max_jobs (max_jobs_fit c h), (long_word c.account (account_fits c h), queues_are c.pages c.queues h.pages_high h.queues))),
  ),
)

pub config_back : ConfigIsReadBack
config_back v h =
    let a = short_read v.pages (pages_fit v h) in
    let b = short_read v.page_size (page_size_fits v h) in
    let c = short_read v.max_jobs (max_jobs_fit v h) in
    let d = long_read v.account (account_fits v h) in
    let e = queues_read v.pages [] v.queues h.pages_high h.queues in
    ap R.config_of (config_joined v)
    ∙ (ap (behind (codes "config") R.config_in) (words_of-joined (config_words v) (config_are v h)) ∙ rw (a, b, c, d, e) refl)

-- a printer
abbrev pub begins_list : Option ℕ → List ℕ
begins_list None = codes "-"
begins_list (Some n) = decimal n

abbrev pub printer_words : Printer → List (List ℕ)
printer_words p = codes "printer" ∷ shown_as p.place ∷ begins_list p.begins ∷ []

begins_spaced : (n : Option ℕ) → H.begins_word n ≡ 32 ∷ begins_list n
begins_spaced None = refl
begins_spaced (Some n) = refl

begins_is_word : (n : Option ℕ) → IsBeginning n → IsWord (begins_list n)
begins_is_word None h = (lit< tt, refl)
begins_is_word (Some n) h = long_word n h

-- no number is written as a dash
not_dash : (n : ℕ) → IsU64 n → bytes_eq (decimal n) (codes "-") ≡ false
not_dash n h =
    elim (cases_Bool (bytes_eq (decimal n) (codes "-"))) [
      | inl said ↦
          let is : decimal n ≡ codes "-" = (bytes_eq-Decides (decimal n) (codes "-")).0 said in
          let all : list_all is_digit (decimal n) ≡ true = (decimal_is n h).0 in
          let no_ : list_all is_digit (codes "-") ≡ true = ap (list_all is_digit) (sym is) ∙ all in
          cc no_
      | inr other ↦ other
    ]

begins_read : (n : Option ℕ) → IsBeginning n → R.begins_of (begins_list n) ≡ Some n
begins_read None h = refl
begins_read (Some n) h = let a = not_dash n h in let b = long_read n h in rw (a, b) refl

pub printer_joined : (p : Printer) → H.printer_line p ≡ joined (printer_words p)
printer_joined p = ap (λ (l : List ℕ). codes "printer" ++ (32 ∷ (shown_as p.place ++ l))) (begins_spaced p.begins)

pub printer_are : (p : Printer) → IsPrinter p → AreWords (printer_words p)
printer_are p h = ((lit< tt, refl), (shown_word p.place h.0, (begins_is_word p.begins h.2, tt)))

pub printer_back : PrinterIsReadBack
printer_back p h =
    let a = shown_read p.place h.1 in
    let b = begins_read p.begins h.2 in
    ap R.printer_of (printer_joined p)
    ∙ (ap (behind (codes "printer") R.printer_in) (words_of-joined (printer_words p) (printer_are p h)) ∙ rw (a, b) refl)

-- what is before
abbrev stop_word : Bool → List ℕ
stop_word true = codes "stopped"
stop_word false = codes "running"

abbrev close_word : Bool → List ℕ
close_word true = codes "closed"
close_word false = codes "open"

stopped_spaced : (bs : List Bool) → H.stopped_words bs ≡ spaced (map stop_word bs)
stopped_spaced [] = refl
stopped_spaced (true ∷ bs) = ap (λ (l : List ℕ). codes " stopped" ++ l) (stopped_spaced bs) ∙ spaced-cons (codes "stopped") (map stop_word bs)
stopped_spaced (false ∷ bs) = ap (λ (l : List ℕ). codes " running" ++ l) (stopped_spaced bs) ∙ spaced-cons (codes "running") (map stop_word bs)

stopped_are : (bs : List Bool) → AreWords (map stop_word bs)
stopped_are [] = tt
stopped_are (true ∷ bs) = ((lit< tt, refl), stopped_are bs)
stopped_are (false ∷ bs) = ((lit< tt, refl), stopped_are bs)

stopped_read : (done bs : List Bool) → stopped_onto done (map stop_word bs) ≡ Some (done ++ bs)
stopped_read done [] = ap Some (sym (append-nil done))
stopped_read done (true ∷ bs) = stopped_read (done ++ true ∷ []) bs ∙ ap Some (append_assoc done (true ∷ []) bs)
stopped_read done (false ∷ bs) = stopped_read (done ++ false ∷ []) bs ∙ ap Some (append_assoc done (false ∷ []) bs)

close_is_word : (b : Bool) → IsWord (close_word b)
close_is_word true = (lit< tt, refl)
close_is_word false = (lit< tt, refl)

close_read : (b : Bool) → R.closed_of (close_word b) ≡ Some b
close_read true = refl
close_read false = refl

closed_spaced : (b : Bool) (l : List ℕ) → H.closed_word b ++ l ≡ 32 ∷ (close_word b ++ l)
closed_spaced true l = refl
closed_spaced false l = refl

-- what entries begin from
abbrev begin_list : Begin → List (List ℕ)
begin_list (AtBase b) = decimal b.accepted ∷ decimal b.reserved ∷ close_word b.closed ∷ map stop_word b.stopped
begin_list (Amid since freed) = decimal since ∷ decimal freed ∷ []

begin_spaced : (g : Begin) → H.begin_words g ≡ spaced (begin_list g)
begin_spaced (AtBase b) =
    ap (λ (l : List ℕ). 32 ∷ (decimal b.accepted ++ (32 ∷ (decimal b.reserved ++ l))))
    (closed_spaced b.closed (H.stopped_words b.stopped)
    ∙ (ap (λ (l : List ℕ). 32 ∷ (close_word b.closed ++ l)) (stopped_spaced b.stopped) ∙ spaced-cons (close_word b.closed) (map stop_word b.stopped)))
begin_spaced (Amid since freed) = refl

begin_are : (g : Begin) → IsBegin g → AreWords (begin_list g)
begin_are (AtBase b) h = (long_word b.accepted h.0, (long_word b.reserved h.1, (close_is_word b.closed, stopped_are b.stopped)))
begin_are (Amid since freed) h = (long_word since h.0, (long_word freed h.1, tt))

-- the first word of the line
abbrev first_of : Begin → StartWord
first_of (AtBase b) = first.Base
first_of (Amid since freed) = first.Part

first_is_word : (g : Begin) → IsWord (H.start_word g)
first_is_word (AtBase b) = (lit< tt, refl)
first_is_word (Amid since freed) = (lit< tt, refl)

first_read : (g : Begin) → R.start_word_of (H.start_word g) ≡ Some (first_of g)
first_read (AtBase b) = refl
first_read (Amid since freed) = refl

begin_read : (g : Begin) → IsBegin g → R.begin_in (first_of g) (begin_list g) ≡ Some g
begin_read (AtBase b) h =
    let d = long_read b.accepted h.0 in
    let e = long_read b.reserved h.1 in
    let f = close_read b.closed in
    let g = stopped_read [] b.stopped in
    rw (d, e, f, g) refl
begin_read (Amid since freed) h =
    let d = long_read since h.0 in
    let e = long_read freed h.1 in
    rw (d, e) refl

abbrev pub start_words : Start → List (List ℕ)
start_words s = H.start_word s.begin ∷ decimal s.entries ∷ decimal s.kinds ∷ decimal s.handed ∷ begin_list s.begin

pub start_joined : (s : Start) → H.start_line s ≡ joined (start_words s)
start_joined s =
    ap (λ (l : List ℕ). H.start_word s.begin ++ (32 ∷ (decimal s.entries ++ (32 ∷ (decimal s.kinds ++ l)))))
    (ap (λ (l : List ℕ). 32 ∷ (decimal s.handed ++ l)) (begin_spaced s.begin) ∙ spaced-cons (decimal s.handed) (begin_list s.begin))

pub start_are : (s : Start) → IsStart s → AreWords (start_words s)
start_are s h = (first_is_word s.begin, (long_word s.entries h.0, (long_word s.kinds h.1, (long_word s.handed h.2, begin_are s.begin h.3))))

pub start_back : StartIsReadBack
start_back s h =
    let a = long_read s.entries h.0 in
    let b = long_read s.kinds h.1 in
    let c = long_read s.handed h.2 in
    let d = first_read s.begin in
    let e = begin_read s.begin h.3 in
    ap R.start_of (start_joined s) ∙ (ap R.start_at (words_of-joined (start_words s) (start_are s h)) ∙ rw (d, a, b, c, e) refl)

-- the end
abbrev pub last_words : Last → List (List ℕ)
last_words l = codes "end" ∷ decimal l.entries ∷ encode_lower l.digest ∷ []

pub last_are : (l : Last) → IsLast l → AreWords (last_words l)
last_are l h = ((lit< tt, refl), (long_word l.entries h.0, (digest_word l.digest h.1.0 h.1.1, tt)))

pub last_back : LastIsReadBack
last_back l h =
    let a = long_read l.entries h.0 in
    let b = digest_read l.digest h.1.0 h.1.1 in
    ap (behind (codes "end") R.last_in) (words_of-joined (last_words l) (last_are l h)) ∙ rw (a, b) refl

-- where each value that can be told is read back from its line: what nothing is read from is no line of such a value, and what
-- another value is read from is only that one's
pub none_has : {V : Type 0} (of : List ℕ → Option V) (line_of : V → List ℕ) (Is : V → Type 0) → ((v : V) → Is v → of (line_of v) ≡ Some v) → (line : List ℕ) → of line ≡ None → (v : V) → Is v → line ≡ line_of v → ⊥
none_has of line_of Is back line e v told is = cc (sym (ap of is ∙ back v told) ∙ e)

pub other_has : {V : Type 0} (of : List ℕ → Option V) (line_of : V → List ℕ) (Is : V → Type 0) → ((v : V) → Is v → of (line_of v) ≡ Some v) → (line : List ℕ) (w : V) → of line ≡ Some w → (line ≡ line_of w → ⊥) → (v : V) → Is v → line ≡ line_of v → ⊥
other_has {V} of line_of Is back line w r never v told is =
    let same : v ≡ w = ap (λ (o : Option V). unwrap_or o v) (sym (ap of is ∙ back v told) ∙ r) in
    never (is ∙ ap line_of same)

-- and what another value is read from that can't be told is that of none
pub untold_has : {V : Type 0} (of : List ℕ → Option V) (line_of : V → List ℕ) (Is : V → Type 0) → ((v : V) → Is v → of (line_of v) ≡ Some v) → (line : List ℕ) (w : V) → of line ≡ Some w → (Is w → ⊥) → (v : V) → Is v → line ≡ line_of v → ⊥
untold_has {V} of line_of Is back line w r never v told is =
    let same : v ≡ w = ap (λ (o : Option V). unwrap_or o v) (sym (ap of is ∙ back v told) ∙ r) in
    never (subst Is same told)

-- one queue more is read
pub queue_step : (old new : List Queue) (rest a1 a2 a3 name limit printers : List ℕ) (l p : ℕ) (r : Option (List Queue)) → words_of rest ≡ name ∷ words_of a1 → words_of a1 ≡ limit ∷ words_of a2 → words_of a2 ≡ printers ∷ words_of a3
    → is_queue_name name ≡ true → A.short_of limit ≡ Some l → A.short_of printers ≡ Some p → new ≡ old ++ record { name = name; limit = l; printers = p } ∷ [] → queues_onto old (words_of rest) ≡ r → queues_onto new (words_of a3) ≡ r
queue_step old new rest a1 a2 a3 name limit printers l p r e1 e2 e3 n el ep en inv =
    let a = is_some_if (is_u32 limit) (count_of limit) l el in
    let b = is_some_if (is_u32 printers) (count_of printers) p ep in
    let la : is_u32 limit ≡ true = a.0 in
    let lb : is_u32 printers ≡ true = b.0 in
    let va : count_of limit ≡ l = a.1 in
    let vb : count_of printers ≡ p = b.1 in
    let words : words_of rest ≡ name ∷ limit ∷ printers ∷ words_of a3 = e1 ∙ ap (λ (w : List (List ℕ)). name ∷ w) (e2 ∙ ap (λ (w : List (List ℕ)). limit ∷ w) e3) in
    let step : queues_onto old (name ∷ limit ∷ printers ∷ words_of a3) ≡ queues_onto (old ++ record { name = name; limit = l; printers = p } ∷ []) (words_of a3) = rw (n, la, lb, va, vb) refl in
    ap (λ (q : List Queue). queues_onto q (words_of a3)) en ∙ (sym step ∙ (sym (ap (queues_onto old) words) ∙ inv))
