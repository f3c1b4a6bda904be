-- The lines of a segment that can be told are in turn, and which items a line is of.
use Rattle.std.proofs.Common.{◌≡◌, ◌<◌, ◌+◌, ◌-◌, ◌/◌, ◌%◌, ℕ, zero, suc, true, List, [], ◌∷◌, length, refl, sym, ◌∙◌, ap, subst, arith, lit<, All}
use Rattle.std.specs.List.{list_all, AllByRecursion}
use Rattle.std.specs.Int.{w32, to_be_bytes}
use Rattle.std.specs.Prelude.{Option, Some, slice_index, unwrap_or}
use Rattle.std.proofs.lemmas.List.Elements.{All-append, All-cons, All-head, All-nil, All-tail}
use Rattle.hex.specs.Hex.{IsBytes}
use Rattle.sha2.specs.Sha256.{digest_bytes, final_hash, initial_hash_256, sha256}
use Rattle.sha2.proofs.Facts256.{length-sha256}
use Rattle.lpd_values.specs.Kept.{is_line_feed}
use Rattle.lpd_values.specs.Pieces.{is_kept}
use Rattle.spool_history.specs.Events.{Event}
use Rattle.account.specs.declared.entry.Outline.{Outline}
use Rattle.account_text.specs.Meant.{MeansNothing}
use Rattle.account_text.specs.Told.{IsTold}
use Rattle.account_text.proofs.ReadBack.{line_is_unfed}
use Rattle.account_text.proofs.WordLaws.{joined_unfed}
use Rattle.segment_text.specs.declared.items.Stage.{Stage}
use Rattle.segment_text.specs.declared.items.Stage.TheVariants as stage
use Rattle.segment_text.specs.Heads.{Head, Printer, Last}
use Rattle.segment_text.specs.Items.{Item, item_line, IsItem, IsHead, Suits, MayStand, AreInTurn, SegmentsAreInTurn, OnlyMeans, Ends, stage_after, stage_of, text_of, entries_of, with_printers, with_events, head_items, body_items, digest_of}
use Rattle.segment_text.specs.Items.Item.{OfOrigin, OfConfig, OfPrinter, OfStart, OfEvent, OfLast}
use Rattle.segment_text.specs.Reading.{last_of}
use Rattle.segment_text.specs.Meant.{IsNoOrigin, IsNoConfig, IsNoPrinter, IsNoStart, IsNoLast}
use Rattle.segment_text.specs.Seen.{IsDigest, IsPrinter}
use Rattle.segment_text.proofs.HeadsBack.{last_back, origin_joined, origin_words, origin_are, config_joined, config_words, config_are, printer_joined, printer_words, printer_are, start_joined, start_words, start_are, last_words, last_are}

-- a digest is 32 octets
abbrev IsByte : ℕ → Type 0
IsByte b = b < 256

low_byte : (n : ℕ) → IsByte (n % 256)
low_byte n = omega arith

four : (a b c d : ℕ) → IsByte a → IsByte b → IsByte c → IsByte d → All IsByte (a ∷ b ∷ c ∷ d ∷ [])
four a b c d ha hb hc hd =
    All-cons IsByte a (b ∷ c ∷ d ∷ []) ha (All-cons IsByte b (c ∷ d ∷ []) hb (All-cons IsByte c (d ∷ []) hc (All-cons IsByte d [] hd (All-nil IsByte))))

word_bytes : (n : ℕ) → All IsByte (to_be_bytes w32 n)
word_bytes n = four _ _ _ _ (low_byte (n / 16777216)) (low_byte (n / 65536)) (low_byte (n / 256)) (low_byte n)

digest_all : (h : List ℕ) (n : ℕ) → All IsByte (digest_bytes h n)
unfolding digest_bytes
digest_all h zero = All-nil IsByte
digest_all h (suc n) = All-append IsByte (digest_bytes h n) (to_be_bytes w32 (slice_index h n)) (digest_all h n) (word_bytes (slice_index h n))

all_bytes : (xs : List ℕ) → All IsByte xs → IsBytes xs
all_bytes [] h i = lit< tt
all_bytes (x ∷ xs) h zero = All-head IsByte x xs h
all_bytes (x ∷ xs) h (suc i) = all_bytes xs (All-tail IsByte x xs h) i

sha_bytes : (m : List ℕ) → All IsByte (sha256 m)
unfolding sha256
sha_bytes m = digest_all (final_hash initial_hash_256 m) 8

pub sha_digest : (m : List ℕ) → IsDigest (sha256 m)
sha_digest m = (length-sha256 m, all_bytes (sha256 m) (sha_bytes m))

-- the lines of printers, as many as are to come
printers_stage : (is : List Item) (ps : List Printer) → stage_of is ≡ stage.Printers (length ps) → stage_of (with_printers is ps) ≡ stage.Printers 0
printers_stage is [] e = e
printers_stage is (p ∷ ps) e =
    let less : suc (length ps) - 1 ≡ length ps = omega arith in
    printers_stage (OfPrinter p ∷ is) ps (ap (λ (s : Stage). stage_after s (OfPrinter p)) e ∙ ap (λ (n : ℕ). stage.Printers n) less)

printers_turn : (is : List Item) (ps : List Printer) → stage_of is ≡ stage.Printers (length ps) → AllByRecursion IsPrinter ps → AreInTurn is → AreInTurn (with_printers is ps)
printers_turn is [] e h t = t
printers_turn is (p ∷ ps) e h t =
    let less : suc (length ps) - 1 ≡ length ps = omega arith in
    let some : 0 < suc (length ps) = omega arith in
    printers_turn (OfPrinter p ∷ is) ps (ap (λ (s : Stage). stage_after s (OfPrinter p)) e ∙ ap (λ (n : ℕ). stage.Printers n) less) h.1
    (h.0, (subst (λ (s : Stage). Suits s (OfPrinter p)) (sym e) some, tt), t)

printers_entries : (is : List Item) (ps : List Printer) → entries_of (with_printers is ps) ≡ entries_of is
printers_entries is [] = refl
printers_entries is (p ∷ ps) = let e = printers_entries (OfPrinter p ∷ is) ps in omega arith

-- those of entries
events_stage : (is : List Item) (es : List (Event Outline)) → stage_of is ≡ stage.Entries → stage_of (with_events is es) ≡ stage.Entries
events_stage is [] e = e
events_stage is (x ∷ es) e = events_stage (OfEvent x ∷ is) es refl

events_turn : (is : List Item) (es : List (Event Outline)) → stage_of is ≡ stage.Entries → AllByRecursion IsTold es → AreInTurn is → AreInTurn (with_events is es)
events_turn is [] e h t = t
events_turn is (x ∷ es) e h t =
    events_turn (OfEvent x ∷ is) es refl h.1 (h.0, (subst (λ (s : Stage). Suits s (OfEvent x)) (sym e) tt, tt), t)

events_entries : (is : List Item) (es : List (Event Outline)) → entries_of (with_events is es) ≡ entries_of is + length es
events_entries is [] = omega arith
events_entries is (x ∷ es) =
    let e = events_entries (OfEvent x ∷ is) es in
    let d : entries_of (OfEvent x ∷ is) + length es ≡ entries_of is + suc (length es) = omega arith in
    e ∙ d

-- a head
abbrev first_two : Head → List Item
first_two h = OfConfig h.config ∷ OfOrigin h.origin ∷ []

two_stage : (h : Head) → IsHead h → stage_of (first_two h) ≡ stage.Printers (length h.printers)
two_stage h is = ap (λ (n : ℕ). stage.Printers n) (sym is.count)

head_turn : (h : Head) → IsHead h → AreInTurn (head_items h)
head_turn h is = (
  is.start,
  (subst (λ (s : Stage). Suits s (OfStart h.start)) (sym (printers_stage (first_two h) h.printers (two_stage h is))) refl, tt),
  printers_turn (first_two h) h.printers (two_stage h is) is.printers (is.config, (tt, tt), (is.origin, (tt, tt), tt)),
)

pub head_entries : (h : Head) → entries_of (head_items h) ≡ 0
head_entries h = let e = printers_entries (first_two h) h.printers in omega arith

pub in_turn : SegmentsAreInTurn
in_turn h es is told few =
    let count : length es ≡ entries_of (body_items h es) = (let e = events_entries (head_items h) es in let none = head_entries h in omega arith) in (
      (few, sha_digest (text_of (body_items h es))),
      (subst (λ (s : Stage). Suits s (OfLast (record { entries = length es; digest = digest_of h es }))) (sym (events_stage (head_items h) es refl)) tt, (count, refl)),
      events_turn (head_items h) es refl told (head_turn h is),
    )

-- no line has a line feed in it
pub item_unfed : (i : Item) → IsItem i → list_all (is_kept is_line_feed) (item_line i) ≡ true
item_unfed (OfOrigin o) h = ap (list_all (is_kept is_line_feed)) (origin_joined o) ∙ joined_unfed (origin_words o) (origin_are o h)
item_unfed (OfConfig c) h = ap (list_all (is_kept is_line_feed)) (config_joined c) ∙ joined_unfed (config_words c) (config_are c h)
item_unfed (OfPrinter p) h = ap (list_all (is_kept is_line_feed)) (printer_joined p) ∙ joined_unfed (printer_words p) (printer_are p h)
item_unfed (OfStart s) h = ap (list_all (is_kept is_line_feed)) (start_joined s) ∙ joined_unfed (start_words s) (start_are s h)
item_unfed (OfEvent e) h = line_is_unfed e h
item_unfed (OfLast l) h = joined_unfed (last_words l) (last_are l h)

-- a line that is none of what suits a stage
abbrev pub IsNone : Stage → List ℕ → Type 0
IsNone at line = (i : Item) → IsItem i → Suits at i → line ≡ item_line i → ⊥

pub none_origin : (line : List ℕ) → IsNoOrigin line → IsNone stage.Origin line
none_origin line n (OfOrigin o) h s is = n o h is
none_origin line n (OfConfig c) h s is = s
none_origin line n (OfPrinter p) h s is = s
none_origin line n (OfStart b) h s is = s
none_origin line n (OfEvent e) h s is = s
none_origin line n (OfLast l) h s is = s

pub none_config : (line : List ℕ) → IsNoConfig line → IsNone stage.Config line
none_config line n (OfOrigin o) h s is = s
none_config line n (OfConfig c) h s is = n c h is
none_config line n (OfPrinter p) h s is = s
none_config line n (OfStart b) h s is = s
none_config line n (OfEvent e) h s is = s
none_config line n (OfLast l) h s is = s

pub none_printer : (line : List ℕ) (k : ℕ) → 0 < k → IsNoPrinter line → IsNone (stage.Printers k) line
none_printer line k some n (OfOrigin o) h s is = s
none_printer line k some n (OfConfig c) h s is = s
none_printer line k some n (OfPrinter p) h s is = n p h is
none_printer line k some n (OfStart b) h s is = omega (arith, s, some)
none_printer line k some n (OfEvent e) h s is = s
none_printer line k some n (OfLast l) h s is = s

pub none_start : (line : List ℕ) (k : ℕ) → k ≡ 0 → IsNoStart line → IsNone (stage.Printers k) line
none_start line k zero_ n (OfOrigin o) h s is = s
none_start line k zero_ n (OfConfig c) h s is = s
none_start line k zero_ n (OfPrinter p) h s is = omega (arith, s, zero_)
none_start line k zero_ n (OfStart b) h s is = n b h is
none_start line k zero_ n (OfEvent e) h s is = s
none_start line k zero_ n (OfLast l) h s is = s

pub none_body : (line : List ℕ) → MeansNothing line → IsNoLast line → IsNone stage.Entries line
none_body line m n (OfOrigin o) h s is = s
none_body line m n (OfConfig c) h s is = s
none_body line m n (OfPrinter p) h s is = s
none_body line m n (OfStart b) h s is = s
none_body line m n (OfEvent e) h s is = m e h is
none_body line m n (OfLast l) h s is = n l h is

pub none_over : (line : List ℕ) → IsNone stage.Over line
none_over line (OfOrigin o) h s is = s
none_over line (OfConfig c) h s is = s
none_over line (OfPrinter p) h s is = s
none_over line (OfStart b) h s is = s
none_over line (OfEvent e) h s is = s
none_over line (OfLast l) h s is = s

-- a line that is read as the end of a segment is that of no entry, and of no other end
pub only_last : (line : List ℕ) (l : Last) → MeansNothing line → last_of line ≡ Some l → OnlyMeans line (OfLast l)
only_last line l m read (OfOrigin o) h s is = absurd s
only_last line l m read (OfConfig c) h s is = absurd s
only_last line l m read (OfPrinter p) h s is = absurd s
only_last line l m read (OfStart b) h s is = absurd s
only_last line l m read (OfEvent e) h s is = absurd (m e h is)
only_last line l m read (OfLast v) h s is =
    ap (λ (o : Option Last). OfLast (unwrap_or o v)) (sym (ap last_of is ∙ last_back v h) ∙ read)

-- an end that tells other numbers than there are is that of nothing that may stand there
pub wrong_end : (line : List ℕ) (at : Stage) (got : Item) (l : Last) → got ≡ OfLast l → Suits at got → OnlyMeans line got → (is : List Item) → at ≡ stage_of is
    → ((l.entries ≡ entries_of is) × (l.digest ≡ sha256 (text_of is)) → ⊥) → (i : Item) → IsItem i → MayStand is i → line ≡ item_line i → ⊥
wrong_end line at got l e suits only is here never i told stand same =
    by at (subst (Suits at) e suits) (subst (λ (s : Stage). Suits s i) (sym here) stand.0)
  where
    by : (s : Stage) → Suits s (OfLast l) → Suits s i → ⊥
    by stage.Origin h k = h
    by stage.Config h k = h
    by (stage.Printers n) h k = h
    by stage.Entries h k = never (subst (Ends is) (subst (OnlyMeans line) e only i told k same) stand.1)
    by stage.Over h k = h
