-- What texts say of printers, read one after another.
use Rattle.std.proofs.Common.{◌≡◌, ◌≢◌, ◌==◌, ◌<◌, ◌++◌, ◌∷◌, ℕ, Bor, Bool, List, [], ap, arith, drop, get_or, length, refl, suc, take, true, false, zero}
use Rattle.std.specs.List.{AllZip, Any, list_any}
use Rattle.std.specs.Str.{bytes_eq}
use Rattle.std.proofs.lemmas.Slice.Eq.{bytes_eq-Decides}
use Rattle.std.proofs.lemmas.List.Folds.{Any-from_list_any, list_any_at}
use Rattle.std.proofs.lemmas.List.Quantifiers.{all_pairs_push}
use Rattle.printer_names.specs.Texts.{IsNamedText}
use Rattle.printer_names.specs.declared.named.NamedPrinter.{NamedPrinter}
use Rattle.program_words.specs.Serving.{HaveDifferentNames}
use Rattle.program_words.proofs.AllowLemmas.{texts}

-- one more text was read, and says something of one more printer
pub one_more_said : (words : List (Bor (List ℕ))) (i : ℕ) (other : Bor (List ℕ)) (printers : List NamedPrinter) (said : NamedPrinter) → i < length words → AllZip IsNamedText (take i (texts words)) printers → IsNamedText (get_or words i other).now said → AllZip IsNamedText (take (suc i) (texts words)) (printers ++ said ∷ [])
one_more_said [] i other printers said few all one = absurd (omega arith)
one_more_said (w ∷ ws) zero other [] said few all one = (one, tt)
one_more_said (w ∷ ws) zero other (p ∷ ps) said few all one = absurd all
one_more_said (w ∷ ws) (suc i) other [] said few all one = absurd all
one_more_said (w ∷ ws) (suc i) other (p ∷ ps) said few all one =
    (all.0, one_more_said ws i other ps said (omega arith) all.1 one)

-- a text stands between those before it and those behind it
pub text_between : (words : List (Bor (List ℕ))) (i : ℕ) (other : Bor (List ℕ)) → i < length words → texts words ≡ take i (texts words) ++ (get_or words i other).now ∷ drop (suc i) (texts words)
text_between [] i other few = absurd (omega arith)
text_between (w ∷ ws) zero other few = refl
text_between (w ∷ ws) (suc i) other few =
    ap (λ rest. w.now ∷ rest) (text_between ws i other (omega arith))

abbrev pub has_name : List ℕ → NamedPrinter → Bool
has_name name said = bytes_eq said.name.now name

-- none of these has the name of one more, so all names differ
pub one_more_differs : (printers : List NamedPrinter) (said : NamedPrinter) → HaveDifferentNames printers → list_any (has_name said.name.now) printers ≡ false → HaveDifferentNames (printers ++ said ∷ [])
one_more_differs printers said different none =
    all_pairs_push (λ (one other : NamedPrinter). one.name.now ≢ other.name.now) printers said different
    (λ k d few same.
    let equal : bytes_eq (get_or printers k d).name.now said.name.now ≡ true = (bytes_eq-Decides (get_or printers k d).name.now said.name.now).1 same in
    let found : list_any (has_name said.name.now) printers ≡ true = list_any_at (has_name said.name.now) printers k d few equal in
    cc)

-- one of these has the name
pub one_has_name : (printers : List NamedPrinter) (name : List ℕ) → list_any (has_name name) printers ≡ true → Any (λ (one : NamedPrinter). one.name.now ≡ name) printers
one_has_name printers name found =
    let any = Any-from_list_any (has_name name) printers found in
    (any.0, any.1, any.2, any.3, (bytes_eq-Decides any.1.name.now name).0 any.4)
