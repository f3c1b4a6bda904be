-- Words, by what they lack.
use Rattle.std.proofs.Common.{◌≡◌, ◌&&◌, ◌||◌, ℕ, Bool, true, false, not, List, [], ◌∷◌, refl}
use Rattle.std.specs.List.{list_all, list_any}
use Rattle.lpd_values.specs.Kinds.{is_space, is_word_octet, is_text_octet}
use Rattle.lpd_commands.proofs.LayoutLemmas.{word_not_space}

-- the tests of one octet more
one_more : (word space all none rest : Bool) → (word ≡ true → space ≡ false) → (all && not none) ≡ rest → (((word || space) && all) && not (space || none)) ≡ (word && rest)
one_more true true all none rest h e = let wrong : true ≡ false = h refl in cc
one_more true false all none rest h e = e
one_more false true true none rest h e = refl
one_more false true false none rest h e = refl
one_more false false all none rest h e = refl

-- a text without white space has word octets alone
pub text_without_space : (s : List ℕ) → (list_all is_text_octet s && not (list_any is_space s)) ≡ list_all is_word_octet s
text_without_space [] = refl
text_without_space (b ∷ bs) =
    one_more (is_word_octet b) (is_space b) (list_all is_text_octet bs) (list_any is_space bs) (list_all is_word_octet bs) (word_not_space b) (text_without_space bs)
