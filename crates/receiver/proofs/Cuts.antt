-- What is due, where a text comes in pieces.
use Rattle.std.proofs.Common.{◌≡◌, ℕ, ◌+◌, ◌≤◌, ◌<◌, List, [], ◌∷◌, ◌++◌, length, take, drop, refl, sym, ap, ◌∙◌, arith, ◌==◌, slice_index_or}
use Rattle.lpd_values.specs.declared.limits.TheConstants.{MAX_LINE}
use Rattle.std.proofs.Common.{if◌then◌else◌}
use Rattle.std.specs.List.{prefix_len}
use Rattle.std.proofs.lemmas.Bool.{le-leb, le-ltb, lt-ltb, lt-leb, eq-eqb}
use Rattle.std.proofs.Math.Seq.{take-append-add, drop-append-add}
use Rattle.std.proofs.lemmas.List.{length-append, take-take, take_all}
use Rattle.std.proofs.lemmas.List.{get_or-append-add}
use Rattle.std.proofs.lemmas.List.Folds.{prefix_len-append}
use Rattle.lpd_values.specs.declared.refusal.Refusal.TheVariants.{LineTooLong, NoZero}
use Rattle.control_file.specs.Text.{control_of}
use Rattle.receiver.specs.Script.{Filled, Fault, Item, Over}
use Rattle.receiver.specs.Reading.{Due, Waits, Writes, Requests, at_page, at_text, after_text, at_line, is_inner}

-- what is read in two parts: a piece
pub piece_done : (items : List Item) (size k : ℕ) (tail input : List ℕ) → k ≤ length input → at_page (length tail + k) size items (tail ++ input) ≡ Requests (Filled (record { octets = tail ++ take k input; page_size = size })) items (drop k input)
piece_done items size k tail input h =
    let e = length-append tail input in
    rw (le-leb (length tail + k) (length (tail ++ input)) (omega arith), take-append-add tail input k, drop-append-add tail input k) refl

pub piece_waits : (items : List Item) (size n : ℕ) (tail input : List ℕ) → length tail + length input < n → at_page n size items (tail ++ input) ≡ Waits
piece_waits items size n tail input h =
    let e = length-append tail input in
    rw (lt-leb n (length (tail ++ input)) (omega arith)) refl

-- a control text
pub text_done : (name : List ℕ) (items : List Item) (k : ℕ) (tail input : List ℕ) → k < length input → at_text name (length tail + k) items (tail ++ input) ≡ (if slice_index_or input k 0 == 0 then after_text (control_of name (tail ++ take k input)) items (drop (k + 1) input) else Writes (Fault NoZero) (Over ∷ []) (drop (k + 1) input))
text_done name items k tail input h =
    let e = length-append tail input in
    let d = drop-append-add tail input (k + 1) in
    let s : length tail + k + 1 ≡ length tail + (k + 1) = omega arith in
    rw (lt-ltb (length tail + k) (length (tail ++ input)) (omega arith), get_or-append-add tail input k 0, take-append-add tail input k, s, d) refl

-- a line: how far it goes without LF, where the tail has none
inner : (tail input : List ℕ) → prefix_len is_inner tail ≡ length tail → prefix_len is_inner (tail ++ input) ≡ length tail + prefix_len is_inner input
inner tail input h = prefix_len-append is_inner tail input ∙ rw (eq-eqb _ _ h) refl

pub inner_more : (tail input : List ℕ) (n : ℕ) → prefix_len is_inner tail ≡ length tail → n ≡ prefix_len is_inner input → n ≡ length input → prefix_len is_inner (tail ++ input) ≡ length (tail ++ input)
inner_more tail input n h e f = inner tail input h ∙ (ap (λ k. length tail + k) (sym e ∙ f) ∙ sym (length-append tail input))

pub line_too_long : (next : List ℕ → List ℕ → Due) (tail input : List ℕ) (room : ℕ) → prefix_len is_inner tail ≡ length tail → length tail + room ≡ 1024 → room ≤ prefix_len is_inner input → at_line next (tail ++ input) ≡ Writes (Fault LineTooLong) (Over ∷ []) (drop room input)
line_too_long next tail input room h e l =
    rw (inner tail input h, lt-ltb MAX_LINE (length tail + prefix_len is_inner input) (omega arith), ← e, drop-append-add tail input room) refl

pub line_waits : (next : List ℕ → List ℕ → Due) (tail input : List ℕ) → prefix_len is_inner tail ≡ length tail → prefix_len is_inner input ≡ length input → length tail + length input ≤ MAX_LINE → at_line next (tail ++ input) ≡ Waits
line_waits next tail input h e l =
    rw (inner tail input h, length-append tail input, e, le-ltb MAX_LINE (length tail + length input) l, le-ltb (length tail + length input) (length tail + length input) (omega arith)) refl

pub line_done : (next : List ℕ → List ℕ → Due) (tail input : List ℕ) (n : ℕ) → prefix_len is_inner tail ≡ length tail → n ≡ prefix_len is_inner input → n < length input → length tail + n ≤ MAX_LINE → at_line next (tail ++ input) ≡ next (tail ++ take n input) (drop (n + 1) input)
line_done next tail input n h e k l =
    let s : length tail + n + 1 ≡ length tail + (n + 1) = omega arith in
    rw (inner tail input h, length-append tail input, ← e, le-ltb MAX_LINE (length tail + n) l, lt-ltb (length tail + n) (length tail + length input) (omega arith), take-append-add tail input n, s, drop-append-add tail input (n + 1)) refl

-- what was pushed of a front of the input is that front
pub pushed_front : (line new : List ℕ) (r n : ℕ) (input : List ℕ) → new ≡ line ++ take r (take n input) → r ≡ n → new ≡ line ++ take n input
pushed_front line new r n input e f = e ∙ ap (λ xs. line ++ xs) (rw f (take-take n n input (omega arith)))

pub pushed_all : (line new : List ℕ) (n : ℕ) (input : List ℕ) → new ≡ line ++ take n input → n ≡ length input → new ≡ line ++ input
pushed_all line new n input e f = e ∙ ap (λ xs. line ++ xs) (take_all n input (omega arith))
