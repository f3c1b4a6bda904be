-- The texts at `places`.
use Rattle.std.proofs.Common.{◌≡◌, [], inl, inr, subst, ◌≤◌, ◌<◌, ℕ, true, false, nat_le, is_some, List, ◌++◌, append_assoc, length, map, IsUtf8, Option, None, Result, Some, Ok, Err, option_map, sym, ap, ◌∙◌, arith}
use Rattle.std.proofs.lemmas.Bool.{cases_Bool, false_from_ne_true, le-leb, leb-true}
use Rattle.std.proofs.lemmas.Str.{IsUtf8-from_is_utf8}
use Rattle.std.specs.Str.{is_utf8}
use Rattle.toml.specs.Parse.{parse_document}
use Rattle.spool_config.specs.Answers.{document_of}
use Rattle.spool_config.specs.Faults.{queue_rows}
use Rattle.spool_config.proofs.Texts.{document_there}
use Rattle.std.specs.List.{list_all}
use Rattle.toml.specs.Data.{Data, Members, as_array, as_str}
use Rattle.toml.specs.View.{view, items_view}
use Rattle.toml.specs.declared.value.Value.{Value}
use Rattle.spool_config.specs.Told.{elements}
use Rattle.spool_config.specs.Places.{array_texts, before_rest, IsToldBehind, places_told, rows_told, texts_told, value_texts}
use Rattle.spool_config.specs.declared.places.PlacesFault.{PlacesFault}
use Rattle.spool_config.specs.declared.places.PlacesFault.TheVariants.{NotToml, OutOfRange, WrongType}
use Rattle.spool_config.proofs.Rows.{elements-view}

-- what is said of the value at `places` where it is an array of these
pub value_texts-array : (value : Option Data) (found : Data) (vs : List Value) → value ≡ Some found → as_array found ≡ Some (items_view vs) → value_texts value ≡ array_texts (Some (map view vs))
value_texts-array value found vs there is =
    ap value_texts there ∙ ap (λ items. array_texts (option_map elements items)) is ∙ ap (λ rows. array_texts (Some rows)) (elements-view vs)

pub no_texts : (values : List Data) → list_all (λ value. is_some (as_str value)) values ≡ false → array_texts (Some values) ≡ Err WrongType
no_texts values none = rw none

pub many_texts : (values : List Data) → list_all (λ value. is_some (as_str value)) values ≡ true → 16 < length values → array_texts (Some values) ≡ Err OutOfRange
many_texts values all many =
    let out : nat_le (length values) 16 ≡ false = false_from_ne_true _ (λ few. let low = leb-true (length values) 16 few in omega arith) in
    rw (all, out)

pub few_texts : (values : List Data) → list_all (λ value. is_some (as_str value)) values ≡ true → length values ≤ 16 → array_texts (Some values) ≡ Ok values
few_texts values all few = rw (all, le-leb (length values) 16 few)

-- what a queue's row tells stands before what those behind it tell
pub one_more_row : (queue : ℕ) (texts : Result (List Data) PlacesFault) (values : List Data) (rest : Result (List (ℕ × ℕ × List ℕ)) PlacesFault) (old mid new : List (ℕ × ℕ × List ℕ)) → texts ≡ Ok values → mid ≡ old ++ texts_told queue 1 values → IsToldBehind rest mid new → IsToldBehind (before_rest queue texts rest) old new
one_more_row queue texts values rest old mid new is here (more, told, all) =
    (texts_told queue 1 values ++ more, rw (is, told), all ∙ (ap (λ (s : List (ℕ × ℕ × List ℕ)). s ++ more) here ∙ append_assoc old (texts_told queue 1 values) more))

pub no_document_told : (text : List ℕ) → (IsUtf8 text → parse_document text ≡ None) → places_told text ≡ Err NotToml
no_document_told text none =
    elim (cases_Bool (is_utf8 text)) [
      | inl utf8 ↦ rw (utf8, none (IsUtf8-from_is_utf8 text utf8))
      | inr other ↦ rw other
    ]

-- what a document tells whose rows these are
pub few_rows : (text : List ℕ) (d : Members) (rows : List Data) → IsUtf8 text × (parse_document text ≡ Some d) → rows ≡ queue_rows d → length rows ≤ 64 → places_told text ≡ rows_told 1 rows
few_rows text d rows there is few =
    let there_ : document_of text ≡ Some d = document_there text d there in
    let within : nat_le (length (queue_rows d)) 64 ≡ true = subst (λ (rs : List Data). nat_le (length rs) 64 ≡ true) is (le-leb (length rows) 64 few) in
    rw (there_, within) (ap (rows_told 1) (sym is))

pub many_rows : (text : List ℕ) (d : Members) (rows : List Data) → IsUtf8 text × (parse_document text ≡ Some d) → rows ≡ queue_rows d → 64 < length rows → places_told text ≡ Err OutOfRange
many_rows text d rows there is many =
    let there_ : document_of text ≡ Some d = document_there text d there in
    let out : nat_le (length rows) 64 ≡ false = false_from_ne_true _ (λ few. let low = leb-true (length rows) 64 few in omega arith) in
    let beyond : nat_le (length (queue_rows d)) 64 ≡ false = subst (λ (rs : List Data). nat_le (length rs) 64 ≡ false) is out in
    rw (there_, beyond)

-- what was told behind nothing is all that is told
pub all_told : (told : Result (List (ℕ × ℕ × List ℕ)) PlacesFault) (new : List (ℕ × ℕ × List ℕ)) → IsToldBehind told [] new → told ≡ Ok new
all_told told new (more, is, all) = is ∙ ap (λ (s : List (ℕ × ℕ × List ℕ)). Ok s) (sym all)
