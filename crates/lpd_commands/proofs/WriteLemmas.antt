-- What is written, and how it is laid out.
use Rattle.std.proofs.Common.{◌≡◌, ◌<◌, ◌≤◌, ℕ, true, false, ◌^◌, List, [], ◌∷◌, ◌++◌, ◌+◌, length, take, get_or, refl, ap, sym, ◌∙◌, arith, append_assoc, lit<, length-append}
use Rattle.lpd_values.proofs.DigitLemmas.{decimal_is, decimal_count, fits}
use Rattle.lpd_values.proofs.PieceLemmas.{list_all-wider}
use Rattle.std.proofs.lemmas.Bool.{and_parts, and_from, ltb-true, le-leb, leb-true}
use Rattle.std.specs.List.{list_all}
use Rattle.std.specs.Fmt.{decimal}
use Rattle.std.proofs.lemmas.Fmt.{decimal_nonempty, length-decimal-le}
use Rattle.std.proofs.lemmas.List.{take_more, append-nil}
use Rattle.lpd_values.specs.Kinds.{is_word_octet, is_digit}
use Rattle.lpd_values.specs.Name.{is_name}
use Rattle.lpd_commands.specs.Layout.{IsWord, AreLaidOut, IsLine, IsShort}
use Rattle.lpd_commands.specs.Written.{spaced, is_word}
use Rattle.lpd_commands.specs.Laws.{CommandIsReadBack, SubIsReadBack}
use Rattle.lpd_commands.specs.declared.command.Command.{Command}
use Rattle.lpd_commands.specs.declared.command.Command.TheVariants.{PrintWaiting, Receive, State, Remove}
use Rattle.lpd_commands.specs.declared.sub.Sub.{Sub}
use Rattle.lpd_commands.specs.declared.sub.Sub.TheVariants.{Abort, ControlFile, DataFile}
use Rattle.lpd_values.proofs.NameLemmas.{long_enough, short_enough, digit_word, name_octets}
use Rattle.lpd_commands.proofs.CommandLaws as commands
use Rattle.lpd_commands.proofs.SubLaws as subs

spaced-append : (ws : List (List ℕ)) (w : List ℕ) → spaced (ws ++ w ∷ []) ≡ spaced ws ++ (32 ∷ w)
spaced-append [] w = ap (λ v. 32 ∷ v) (append-nil w)
spaced-append (v ∷ ws) w = ap (λ t. 32 ∷ (v ++ t)) (spaced-append ws w) ∙ ap (λ t. 32 ∷ t) (sym (append_assoc v (spaced ws) (32 ∷ w)))

-- one word more
pub put_step : (old items new : List ℕ) (ws : List (List ℕ)) (i : ℕ) (w d : List ℕ) → items ≡ old ++ spaced (take i ws) → new ≡ items ++ 32 ∷ w → i < length ws → w ≡ get_or ws i d → new ≡ old ++ spaced (take (i + 1) ws)
put_step old items new ws i w d a b h e =
    b ∙ (ap (λ t. t ++ 32 ∷ w) a ∙ (append_assoc old (spaced (take i ws)) (32 ∷ w)
    ∙ ap (λ t. old ++ t) (sym (spaced-append (take i ws) w) ∙ (ap (λ v. spaced (take i ws ++ v ∷ [])) e ∙ ap spaced (sym (take_more ws i d h))))))

word_of : (w : List ℕ) → is_word w ≡ true → IsWord w
word_of w h = let some = leb-true 1 (length w) (and_parts _ _ h).0 in (omega arith, (and_parts _ _ h).1)

-- words that are written are laid out
laid_out-spaced : (ws : List (List ℕ)) → list_all is_word ws ≡ true → AreLaidOut ws (spaced ws)
laid_out-spaced [] h = refl
laid_out-spaced (w ∷ ws) h = (32 ∷ [], spaced ws, refl, omega arith, refl, word_of w (and_parts _ _ h).0, laid_out-spaced ws (and_parts _ _ h).1)

a_line : (code : ℕ) (w : List ℕ) (ws : List (List ℕ)) → is_word w ≡ true → list_all is_word ws ≡ true → IsLine code w ws (code ∷ (w ++ spaced ws))
a_line code w ws h k = (spaced ws, refl, word_of w h, laid_out-spaced ws k)

pub command_is_read_back : (c : Command) → CommandIsReadBack c
command_is_read_back (PrintWaiting queue) h =
    commands.means_ok _ (PrintWaiting queue) (leb-true _ 1023 (and_parts _ _ h).1, ([], a_line 1 queue [] (and_parts _ _ h).0 refl))
command_is_read_back (Receive queue) h =
    commands.means_ok _ (Receive queue) (leb-true _ 1023 (and_parts _ _ h).1, ([], a_line 2 queue [] (and_parts _ _ h).0 refl))
command_is_read_back (State queue list false) h =
    let words = (and_parts _ _ h).0 in
    commands.means_ok _ (State queue list false) (leb-true _ 1023 (and_parts _ _ h).1, a_line 3 queue list (and_parts _ _ words).0 (and_parts _ _ words).1)
command_is_read_back (State queue list true) h =
    let words = (and_parts _ _ h).0 in
    commands.means_ok _ (State queue list true) (leb-true _ 1023 (and_parts _ _ h).1, a_line 4 queue list (and_parts _ _ words).0 (and_parts _ _ words).1)
command_is_read_back (Remove queue agent list) h =
    let words = (and_parts _ _ h).0 in
    commands.means_ok _ (Remove queue agent list) (leb-true _ 1023 (and_parts _ _ h).1, a_line 5 queue (agent ∷ list) (and_parts _ _ words).0 (and_parts _ _ words).1)

decimal_word : (n : ℕ) → n < 10 ^ 19 → is_word (decimal n) ≡ true
decimal_word n h =
    let some = decimal_nonempty n (fits n h) in
    and_from _ _ (le-leb 1 (length (decimal n)) (omega arith)) (list_all-wider is_digit is_word_octet digit_word (decimal n) (decimal_is n (fits n h)).0)

name_word : (kind : ℕ) (s : List ℕ) → is_word_octet kind ≡ true → is_name kind s ≡ true → is_word s ≡ true
name_word kind s w h =
    let long = long_enough kind s h in
    and_from _ _ (le-leb 1 (length s) (omega arith)) (name_octets kind s w h long)

file_short : (code n : ℕ) (name : List ℕ) → n < 10 ^ 19 → length name ≤ 126 → IsShort (code ∷ (decimal n ++ spaced (name ∷ [])))
file_short code n name h k =
    let few = length-decimal-le 19 n (lit< tt) h (fits n h) in
    let a = length-append (decimal n) (spaced (name ∷ [])) in
    let b = length-append name [] in
    omega arith

file_line : (code n kind : ℕ) (name : List ℕ) → n < 10 ^ 19 → is_word_octet kind ≡ true → is_name kind name ≡ true → IsLine code (decimal n) (name ∷ []) (code ∷ (decimal n ++ spaced (name ∷ [])))
file_line code n kind name h w k = a_line code (decimal n) (name ∷ []) (decimal_word n h) (and_from _ _ (name_word kind name w k) refl)

pub sub_is_read_back : (s : Sub) → SubIsReadBack s
sub_is_read_back Abort h = refl
sub_is_read_back (ControlFile n name) h =
    let below = ltb-true n (10 ^ 19) (and_parts _ _ h).0 in
    let named = (and_parts _ _ h).1 in
    subs.means_ok _ (ControlFile n name) (
      file_short 2 n name below (short_enough 99 name named),
      decimal n,
      file_line 2 n 99 name below refl named,
      decimal_count n below,
      sym (decimal_is n (fits n below)).1,
      named,
    )
sub_is_read_back (DataFile n name) h =
    let some = ltb-true 0 n (and_parts _ _ (and_parts _ _ h).0).0 in
    let below = ltb-true n (10 ^ 19) (and_parts _ _ (and_parts _ _ h).0).1 in
    let named = (and_parts _ _ h).1 in
    subs.means_ok _ (DataFile n name) (
      file_short 3 n name below (short_enough 100 name named),
      decimal n,
      file_line 3 n 100 name below refl named,
      decimal_count n below,
      sym (decimal_is n (fits n below)).1,
      some,
      named,
    )
