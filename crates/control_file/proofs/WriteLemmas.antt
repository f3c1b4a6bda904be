-- What is written, and how it is laid out.
use Rattle.std.proofs.Common.{◌≡◌, ◌<◌, ◌≤◌, ℕ, Bool, true, false, List, [], ◌∷◌, ◌++◌, ◌+◌, ◌-◌, length, take, get_or, map, Some, refl, ap, sym, subst, ◌∙◌, arith, append_assoc, append-nil, length-append}
use Rattle.std.specs.List.{list_all}
use Rattle.std.proofs.lemmas.Bool.{and_parts, and_from, leb-true, le-ltb, lt-ltb}
use Rattle.std.proofs.lemmas.Bool.Decides.{nat_tests}
use Rattle.std.proofs.lemmas.List.{take_more}
use Rattle.std.proofs.Math.Seq.{take-append_seam}
use Rattle.lpd_values.specs.Kinds.{is_word_octet}
use Rattle.lpd_values.specs.Pieces.{is_kept}
use Rattle.lpd_values.specs.Name.{is_data_name}
use Rattle.lpd_values.proofs.NameLemmas.{long_enough, name_octets}
use Rattle.lpd_values.proofs.PieceLemmas.{list_all-wider}
use Rattle.lpd_values.specs.declared.limits.TheConstants.{MAX_CONTROL_TEXT, MAX_PRINTS}
use Rattle.control_file.specs.declared.control.Control.{Control}
use Rattle.control_file.specs.View.{contents}
use Rattle.lpd_values.specs.Kept.{is_line_feed, is_print_list}
use Rattle.control_file.specs.Text.{is_print_letter}
use Rattle.control_file.specs.Layout.{AreLines, AreOperands}
use Rattle.lpd_values.specs.Contents.{Contents}
use Rattle.control_file.specs.Written.{control_text, is_over, last_lines, open_lines, print_lines, text_with}
use Rattle.control_file.specs.Laws.{ControlIsReadBack}
use Rattle.control_file.proofs.TextLemmas.{add_before}
use Rattle.control_file.proofs.ControlLaws.{means_ok}

print_lines-append : (ns : List (List ℕ)) (n : List ℕ) → print_lines (ns ++ n ∷ []) ≡ print_lines ns ++ (102 ∷ (n ++ 10 ∷ []))
print_lines-append [] n = refl
print_lines-append (m ∷ ns) n =
    ap (λ t. 102 ∷ (m ++ 10 ∷ t)) (print_lines-append ns n) ∙ ap (λ t. 102 ∷ t) (sym (append_assoc m (10 ∷ print_lines ns) (102 ∷ (n ++ 10 ∷ []))))

-- one line more
pub put_step : (old items new : List ℕ) (ns : List (List ℕ)) (i : ℕ) (n d : List ℕ) → items ≡ old ++ print_lines (take i ns) → new ≡ items ++ 102 ∷ (n ++ 10 ∷ []) → i < length ns → n ≡ get_or ns i d → new ≡ old ++ print_lines (take (i + 1) ns)
put_step old items new ns i n d a b h e =
    b ∙ (ap (λ t. t ++ 102 ∷ (n ++ 10 ∷ [])) a ∙ (append_assoc old (print_lines (take i ns)) (102 ∷ (n ++ 10 ∷ []))
    ∙ ap (λ t. old ++ t) (sym (print_lines-append (take i ns) n) ∙ (ap (λ v. print_lines (take i ns ++ v ∷ [])) e ∙ ap print_lines (sym (take_more ns i d h))))))

-- lines without the last one's LF are the others but for that
open_lines-feed : (n : List ℕ) (ns : List (List ℕ)) → print_lines (n ∷ ns) ≡ open_lines (n ∷ ns) ++ 10 ∷ []
open_lines-feed n [] = refl
open_lines-feed n (m ∷ ns) =
    ap (λ t. 102 ∷ (n ++ 10 ∷ t)) (open_lines-feed m ns) ∙ ap (λ t. 102 ∷ t) (sym (append_assoc n (10 ∷ open_lines (m ∷ ns)) (10 ∷ [])))

text_with-feed : (said : Contents) → 1 ≤ length said.prints → text_with said (print_lines said.prints) ≡ text_with said (open_lines said.prints) ++ 10 ∷ []
text_with-feed said some = go said.prints some
  where
    joined : (host user lines : List ℕ) → 72 ∷ (host ++ 10 ∷ (80 ∷ (user ++ 10 ∷ (lines ++ 10 ∷ [])))) ≡ (72 ∷ (host ++ 10 ∷ (80 ∷ (user ++ 10 ∷ lines)))) ++ 10 ∷ []
    joined host user lines = simp append_assoc

    go : (ns : List (List ℕ)) → 1 ≤ length ns → text_with said (print_lines ns) ≡ text_with said (open_lines ns) ++ 10 ∷ []
    go [] h = absurd (omega arith)
    go (n ∷ ns) h = ap (text_with said) (open_lines-feed n ns) ∙ joined said.host said.user (open_lines (n ∷ ns))

-- the text, where all lines have their LF
pub written_whole : (said : Contents) (text : List ℕ) → text ≡ text_with said (print_lines said.prints) → length text ≤ MAX_CONTROL_TEXT → text ≡ control_text said
written_whole said text is few =
    let over : is_over said ≡ false = le-ltb MAX_CONTROL_TEXT (length (text_with said (print_lines said.prints))) (subst (λ t. length t ≤ MAX_CONTROL_TEXT) is few) in
    is ∙ ap (λ o. text_with said (last_lines o said.prints)) (sym over)

-- the text, where the last LF is taken away
pub written_open : (said : Contents) (text new : List ℕ) → 1 ≤ length said.prints → text ≡ text_with said (print_lines said.prints) → MAX_CONTROL_TEXT < length text → new ≡ take (length text - 1) text → new ≡ control_text said
written_open said text new some is many cut =
    let over : is_over said ≡ true = lt-ltb MAX_CONTROL_TEXT (length (text_with said (print_lines said.prints))) (subst (λ t. MAX_CONTROL_TEXT < length t) is many) in
    let front = text_with said (open_lines said.prints) in
    let whole : text ≡ front ++ 10 ∷ [] = is ∙ text_with-feed said some in
    cut ∙ (ap (λ t. take (length t - 1) t) whole ∙ (one_less front ∙ ap (λ o. text_with said (last_lines o said.prints)) (sym over)))
  where
    one_less : (xs : List ℕ) → take (length (xs ++ 10 ∷ []) - 1) (xs ++ 10 ∷ []) ≡ xs
    one_less xs =
        let long : length (xs ++ 10 ∷ []) - 1 ≡ length xs = omega (arith, length-append xs (10 ∷ [])) in
        ap (λ n. take n (xs ++ 10 ∷ [])) long ∙ take-append_seam xs (10 ∷ [])

word_not_feed : (b : ℕ) → is_word_octet b ≡ true → is_kept is_line_feed b ≡ true
word_not_feed b h = grind (arith, nat_tests)

-- a name has no LF
name_kept : (n : List ℕ) → is_data_name n ≡ true → list_all (is_kept is_line_feed) n ≡ true
name_kept n h = list_all-wider is_word_octet (is_kept is_line_feed) word_not_feed n (name_octets 100 n refl h (long_enough 100 n h))

-- the print lines as they are cut
abbrev print_line : List ℕ → List ℕ
print_line n = 102 ∷ n

prints_laid : (ns : List (List ℕ)) → list_all is_data_name ns ≡ true → AreLines (map print_line ns) (10 ∷ print_lines ns)
prints_laid [] h = refl
prints_laid (n ∷ ns) h =
    (10 ∷ [], 10 ∷ print_lines ns, refl, refl, (omega arith, and_from _ _ refl (name_kept n (and_parts _ _ h).0)), refl, prints_laid ns (and_parts _ _ h).1)

-- and where the last one has no LF
open_laid : (n : List ℕ) (ns : List (List ℕ)) → list_all is_data_name (n ∷ ns) ≡ true → AreLines (map print_line (n ∷ ns)) (10 ∷ open_lines (n ∷ ns))
open_laid n [] h =
    (10 ∷ [], [], ap (λ t. 10 ∷ (102 ∷ t)) (sym (append-nil n)), refl, (omega arith, and_from _ _ refl (name_kept n (and_parts _ _ h).0)), tt, refl)
open_laid n (m ∷ ns) h =
    (10 ∷ [], 10 ∷ open_lines (m ∷ ns), refl, refl, (omega arith, and_from _ _ refl (name_kept n (and_parts _ _ h).0)), refl, open_laid m ns (and_parts _ _ h).1)

last_laid : (over : Bool) (ns : List (List ℕ)) → 1 ≤ length ns → list_all is_data_name ns ≡ true → AreLines (map print_line ns) (10 ∷ last_lines over ns)
last_laid over [] some h = absurd (omega arith)
last_laid false (n ∷ ns) some h = prints_laid (n ∷ ns) h
last_laid true (n ∷ ns) some h = open_laid n ns h

prints_are : (ns : List (List ℕ)) → AreOperands is_print_letter ns (map print_line ns)
prints_are [] = refl
prints_are (n ∷ ns) = ([], 102, map print_line ns, refl, refl, refl, prints_are ns)

pub control_is_read_back : (control : Control) (name : List ℕ) → ControlIsReadBack control name
control_is_read_back control name e k =
    let host : List ℕ = control.host in
    let user : List ℕ = control.user in
    let prints : List (List ℕ) = control.prints in
    let fit : is_print_list prints ≡ true = control.prints_fit in
    let data_names : list_all is_data_name prints ≡ true = (and_parts _ _ fit).1 in
    let few : length prints ≤ MAX_PRINTS = leb-true (length prints) MAX_PRINTS (and_parts _ _ (and_parts _ _ fit).0).1 in
    let some : 1 ≤ length prints = leb-true 1 (length prints) (and_parts _ _ (and_parts _ _ fit).0).0 in
    let h = control.host_fits in
    let u = control.user_fits in
    let lines : List (List ℕ) = (72 ∷ host) ∷ (80 ∷ user) ∷ map print_line prints in
    let last : List ℕ = last_lines (is_over (contents control)) prints in
    let user_line : AreLines ((80 ∷ user) ∷ map print_line prints) (10 ∷ (80 ∷ (user ++ 10 ∷ last))) = (10 ∷ [], 10 ∷ last, refl, refl, (omega arith, and_from _ _ refl (and_parts _ _ u).1), refl, last_laid (is_over (contents control)) prints some data_names) in
    let cut : AreLines lines (control_text (contents control)) =
    ([], 10 ∷ (80 ∷ (user ++ 10 ∷ last)), refl, refl, (omega arith, and_from _ _ refl (and_parts _ _ h).1), refl, user_line) in
    let names : AreOperands is_print_letter prints lines =
    add_before is_print_letter (72 ∷ host) prints ((80 ∷ user) ∷ map print_line prints) refl
    (add_before is_print_letter (80 ∷ user) prints (map print_line prints) refl (prints_are prints)) in
    means_ok name (control_text (contents control)) (contents control)
    (record {
      parts = record {
        lines = lines;
        host = Some host;
        user = Some user;
        names = prints;
        cut = cut;
        first_host = ([], 72, (80 ∷ user) ∷ map print_line prints, refl, refl, refl);
        first_user = ((72 ∷ host) ∷ [], 80, map print_line prints, refl, refl, refl);
        printed = names;
      };
      sent = ((omega arith, k), (and_parts _ _ h).0, (and_parts _ _ u).0);
      some = omega arith;
      few = few;
      data_names = data_names;
      host = refl;
      user = refl;
      number = sym e;
      prints = refl;
    })
