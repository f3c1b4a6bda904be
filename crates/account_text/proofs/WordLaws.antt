-- The words of a line, and what single words say that were written for a value.
use Rattle.std.proofs.Common.{◌≡◌, ◌<◌, ◌≤◌, ◌^◌, ℕ, Bool, true, false, List, [], ◌∷◌, ◌++◌, length, refl, sym, ◌∙◌, ap, subst, arith, inl, inr, All}
use Rattle.std.specs.Prelude.{Option, Some, None, nat_lt, not, unwrap_or, if◌then◌else◌}
use Rattle.std.specs.List.{list_all, AllByRecursion}
use Rattle.std.specs.Fmt.{decimal}
use Rattle.std.specs.Str.{bytes_eq}
use Rattle.std.proofs.lemmas.Bool.{and_from, and_parts, cases_Bool, cond-false, lt-ltb, ltb-true, or_cases}
use Rattle.std.proofs.lemmas.Bool.Decides.{nat_tests}
use Rattle.std.proofs.lemmas.Fmt.{decimal_nonempty}
use Rattle.std.proofs.lemmas.List.{append-nil}
use Rattle.std.proofs.lemmas.List.Elements.{All-head, All-tail, All-from_get_or}
use Rattle.std.proofs.lemmas.List.Sums.{list_all-from_AllPass}
use Rattle.std.proofs.lemmas.Slice.Eq.{bytes_eq-Decides}
use Rattle.hex.specs.Hex.{IsBytes, encode_lower, is_hex_digit, lower_digits}
use Rattle.hex.proofs.HexLemmas.{length-encode_with, decode_of-encode_lower, decode_of-ok, decode_sized-encode_lower}
use Rattle.percent_encoding.specs.AsciiSet.{contains, should_percent_encode}
use Rattle.percent_encoding.proofs.PercentLemmas.{All-percent_encode, IsByte, IsEscapeByte, percent_encode_nonempty, round_trip}
use Rattle.control_lines.specs.Escapes.{is_plain}
use Rattle.control_lines.specs.declared.escaped.TheConstants.{HIDDEN}
use Rattle.control_lines.proofs.EscapeLemmas.{hides}
use Rattle.lpd_values.specs.Digits.{count_of}
use Rattle.lpd_values.specs.Kept.{is_line_feed, is_operand}
use Rattle.lpd_values.specs.Kinds.{is_digit, is_word_octet}
use Rattle.lpd_values.specs.Name.{IsFileName, is_control_name, is_data_name, is_name}
use Rattle.lpd_values.specs.Pieces.{is_kept, begins_piece}
use Rattle.lpd_values.proofs.DigitLemmas.{decimal_is}
use Rattle.lpd_values.proofs.NameLemmas.{digit_word, long_enough, name_octets}
use Rattle.lpd_values.proofs.PieceLemmas.{list_all-join, list_all-wider, pieces_of-append}
use Rattle.account_text.specs.Lines.{shown_as}
use Rattle.account_text.specs.Reading as R
use Rattle.account_text.specs.Reading.{is_gap, words_of, number_below, spells}

-- one or more word octets
abbrev pub IsWord : List ℕ → Type 0
IsWord word = (0 < length word) × (list_all is_word_octet word ≡ true)

abbrev pub AreWords : List (List ℕ) → Type 0
AreWords words = AllByRecursion IsWord words

octet_kept : (b : ℕ) → is_word_octet b ≡ true → is_kept is_gap b ≡ true
octet_kept b h = grind (arith, nat_tests)

octet_unfed : (b : ℕ) → is_word_octet b ≡ true → is_kept is_line_feed b ≡ true
octet_unfed b h = grind (arith, nat_tests)

word_kept : (w : List ℕ) → IsWord w → list_all (is_kept is_gap) w ≡ true
word_kept w h = list_all-wider is_word_octet (is_kept is_gap) octet_kept w h.1

word_unfed : (w : List ℕ) → IsWord w → list_all (is_kept is_line_feed) w ≡ true
word_unfed w h = list_all-wider is_word_octet (is_kept is_line_feed) octet_unfed w h.1

-- words, each after one space
abbrev pub spaced : List (List ℕ) → List ℕ
spaced [] = []
spaced (word ∷ []) = 32 ∷ word
spaced (word ∷ next ∷ words) = 32 ∷ (word ++ spaced (next ∷ words))

pub spaced-cons : (w : List ℕ) (ws : List (List ℕ)) → 32 ∷ (w ++ spaced ws) ≡ spaced (w ∷ ws)
spaced-cons w [] = ap (λ (v : List ℕ). 32 ∷ v) (append-nil w)
spaced-cons w (v ∷ ws) = refl

begins : (ws : List (List ℕ)) → begins_piece is_gap (spaced ws) ≡ false
begins [] = refl
begins (w ∷ []) = refl
begins (w ∷ v ∷ ws) = refl

one_word : (w : List ℕ) → IsWord w → words_of w ≡ w ∷ []
one_word w h = ap words_of (sym (append-nil w)) ∙ pieces_of-append is_gap w [] h.0 (word_kept w h) refl

pub words_of-spaced : (ws : List (List ℕ)) → AreWords ws → words_of (spaced ws) ≡ ws
words_of-spaced [] h = refl
words_of-spaced (w ∷ []) h = one_word w h.0
words_of-spaced (w ∷ v ∷ ws) h =
    pieces_of-append is_gap w (spaced (v ∷ ws)) h.0.0 (word_kept w h.0) (begins (v ∷ ws)) ∙ ap (λ (l : List (List ℕ)). w ∷ l) (words_of-spaced (v ∷ ws) h.1)

-- words with one space between two
abbrev pub joined : List (List ℕ) → List ℕ
joined [] = []
joined (w ∷ ws) = w ++ spaced ws

-- the words of a line are those that it was made of
pub words_of-joined : (ws : List (List ℕ)) → AreWords ws → words_of (joined ws) ≡ ws
words_of-joined [] h = refl
words_of-joined (w ∷ ws) h =
    pieces_of-append is_gap w (spaced ws) h.0.0 (word_kept w h.0) (begins ws) ∙ ap (λ (l : List (List ℕ)). w ∷ l) (words_of-spaced ws h.1)

-- and there is no line feed in it
spaced_unfed : (ws : List (List ℕ)) → AreWords ws → list_all (is_kept is_line_feed) (spaced ws) ≡ true
spaced_unfed [] h = refl
spaced_unfed (w ∷ []) h = and_from _ _ refl (word_unfed w h.0)
spaced_unfed (w ∷ v ∷ ws) h =
    and_from _ _ refl (list_all-join (is_kept is_line_feed) w (spaced (v ∷ ws)) (word_unfed w h.0) (spaced_unfed (v ∷ ws) h.1))

pub joined_unfed : (ws : List (List ℕ)) → AreWords ws → list_all (is_kept is_line_feed) (joined ws) ≡ true
joined_unfed [] h = refl
joined_unfed (w ∷ ws) h = list_all-join (is_kept is_line_feed) w (spaced ws) (word_unfed w h.0) (spaced_unfed ws h.1)

-- what numbers, octets and names are written as are words
hex_octet : (b : ℕ) → is_hex_digit b ≡ true → is_word_octet b ≡ true
hex_octet b h = grind (arith, nat_tests)

pub decimal_word : (n : ℕ) → n < 2 ^ 64 → IsWord (decimal n)
decimal_word n h = (decimal_nonempty n h, list_all-wider is_digit is_word_octet digit_word (decimal n) (decimal_is n h).0)

pub hexed_word : (xs : List ℕ) → 0 < length xs → IsBytes xs → IsWord (encode_lower xs)
hexed_word xs some h =
    let len = length-encode_with lower_digits xs in
    let ok = decode_of-ok (encode_lower xs) xs (decode_of-encode_lower xs h) in
    (omega (arith, len, some), list_all-wider is_hex_digit is_word_octet hex_octet (encode_lower xs) (list_all-from_AllPass is_hex_digit (encode_lower xs) ok.1))

abbrev IsWordOctet : ℕ → Type 0
IsWordOctet b = is_word_octet b ≡ true

plain_octet : (b : ℕ) → false ≡ not (is_plain b) → IsWordOctet b
plain_octet b h = grind (arith, nat_tests)

kept_octet : (b : ℕ) → should_percent_encode HIDDEN b ≡ false → IsWordOctet b
kept_octet b h = plain_octet b (sym h ∙ hides b)

escape_octet : (b : ℕ) → IsEscapeByte b → IsWordOctet b
escape_octet b h = grind (arith, nat_tests)

all_pass : (s : List ℕ) → All IsWordOctet s → list_all is_word_octet s ≡ true
all_pass [] h = refl
all_pass (b ∷ bs) h = and_from _ _ (All-head IsWordOctet b bs h) (all_pass bs (All-tail IsWordOctet b bs h))

pub shown_word : (s : List ℕ) → 0 < length s → IsWord (shown_as s)
shown_word s some = (percent_encode_nonempty HIDDEN s some, all_pass (shown_as s) (All-percent_encode IsWordOctet HIDDEN s kept_octet escape_octet))

named_word : (kind : ℕ) (s : List ℕ) → is_word_octet kind ≡ true → is_name kind s ≡ true → IsWord s
named_word kind s w h =
    let long = long_enough kind s h in
    (omega arith, name_octets kind s w h long)

pub name_word : (s : List ℕ) → IsFileName s → IsWord s
name_word s h =
    elim (or_cases (is_control_name s) (is_data_name s) h) [
      | inl k ↦ named_word 99 s refl k
      | inr k ↦ named_word 100 s refl k
    ]

pub data_word : (s : List ℕ) → is_data_name s ≡ true → IsWord s
data_word s h = named_word 100 s refl h

-- what they say is what was written
pub number_read : (bound n : ℕ) → n < bound → n < 2 ^ 64 → number_below bound (decimal n) ≡ Some n
number_read bound n within h =
    let value : count_of (decimal n) ≡ n = (decimal_is n h).1 in
    let below : nat_lt n bound ≡ true = lt-ltb n bound within in
    let same : bytes_eq (decimal n) (decimal n) ≡ true = (bytes_eq-Decides (decimal n) (decimal n)).1 refl in
    rw (value, below, same) refl

pub spelt : (bound n : ℕ) (word : List ℕ) → n < bound → n < 2 ^ 64 → word ≡ decimal n → number_below bound word ≡ Some n
spelt bound n word within h e = ap (number_below bound) e ∙ number_read bound n within h

-- what is written of no number below the bound says nothing
pub unspelt : (bound : ℕ) (word : List ℕ) → ((n : ℕ) → n < bound → word ≡ decimal n → ⊥) → number_below bound word ≡ None
unspelt bound word none =
    elim (cases_Bool (spells bound word)) [
      | inl said ↦
          absurd (none (count_of word) (ltb-true (count_of word) bound (and_parts _ _ said).0) ((bytes_eq-Decides word (decimal (count_of word))).0 (and_parts _ _ said).1))
      | inr no_ ↦ cond-false (spells bound word) (Some (count_of word)) None no_
    ]

-- two numbers aren't written alike
pub decimal_apart : (m n : ℕ) → m < 2 ^ 64 → n < 2 ^ 64 → decimal m ≡ decimal n → m ≡ n
decimal_apart m n h k e = sym (decimal_is m h).1 ∙ (ap count_of e ∙ (decimal_is n k).1)

-- what is said of a number below 2^64 is said below another bound where it is below that
pub is_some_if : {A : Type 0} (b : Bool) (x y : A) → (if b then Some x else None) ≡ Some y → (b ≡ true) × (x ≡ y)
is_some_if {A} true x y e = (refl, ap (λ (o : Option A). unwrap_or o x) e)
is_some_if false x y e = cc e

below_is : (bound n : ℕ) (word : List ℕ) → number_below bound word ≡ Some n → (word ≡ decimal n) × (n < bound)
below_is bound n word e =
    let is = is_some_if (spells bound word) (count_of word) n e in
    let parts = and_parts _ _ is.0 in
    let same : word ≡ decimal (count_of word) = (bytes_eq-Decides word (decimal (count_of word))).0 parts.1 in
    (same ∙ ap decimal is.1, subst (λ (m : ℕ). m < bound) is.1 (ltb-true (count_of word) bound parts.0))

pub below_some : (bound n : ℕ) (word : List ℕ) → R.number_of word ≡ Some n → n < bound → number_below bound word ≡ Some n
below_some bound n word e within =
    let is = below_is (2 ^ 64) n word e in
    spelt bound n word within is.1 is.0

pub below_none : (bound : ℕ) (word : List ℕ) → R.number_of word ≡ None → bound ≤ 2 ^ 64 → number_below bound word ≡ None
below_none bound word e le =
    unspelt bound word (λ n within is. (let some : R.number_of word ≡ Some n = spelt (2 ^ 64) n word (omega (arith, within, le)) (omega (arith, within, le)) is in cc))

pub above_none : (bound n : ℕ) (word : List ℕ) → R.number_of word ≡ Some n → bound ≤ n → number_below bound word ≡ None
above_none bound n word e le =
    unspelt bound word (λ m within is. (
    let own = below_is (2 ^ 64) n word e in
    let p : bound ≤ n = le in
    let same : m ≡ n = decimal_apart m n (omega (arith, within, le, own.1)) own.1 (sym is ∙ own.0) in
    omega (arith, same, within, le)))

pub digest_read : (d : List ℕ) → length d ≡ 32 → IsBytes d → R.digest_of (encode_lower d) ≡ Some d
digest_read d len h = ap R.ok_of (decode_sized-encode_lower d 32 len h)

has_percent : contains HIDDEN 37 ≡ true
has_percent = refl

pub shown_read : (s : List ℕ) → IsBytes s → R.hidden_of (shown_as s) ≡ s
shown_read s h = round_trip HIDDEN s has_percent (All-from_get_or IsByte s 0 (λ i within. h i))

pub operand_read : (s : List ℕ) → is_operand s ≡ true → IsBytes s → R.operand_of (shown_as s) ≡ Some s
operand_read s fit h = let e = shown_read s h in rw (e, fit) refl

pub name_read : (s : List ℕ) → IsFileName s → R.name_of s ≡ Some s
name_read s h = rw h refl
