-- Why the words of a job are refused.
use Rattle.std.proofs.Common.{◌≡◌, ◌∙◌, ◌≤◌, ◌*◌, inl, inr, ℕ, Bool, true, false, List, [], ◌∷◌, ◌++◌, length, nat_le, slice_index, refl, sym, ap, subst, arith, length-append}
use Rattle.std.specs.List.{list_all}
use Rattle.std.proofs.lemmas.Bool.{and_parts, and_from, leb-true, le-leb, le-ltb, or_cases, eq-eqb}
use Rattle.std.proofs.lemmas.Bool.Decides.{nat_tests}
use Rattle.control_file.specs.View.{contents}
use Rattle.control_file.specs.Written.{control_text, is_over, last_lines, print_lines, text_with}
use Rattle.control_file.specs.declared.control.Control.{Control}
use Rattle.lpd_values.specs.Kept.{is_line_feed, is_operand, is_print_list}
use Rattle.lpd_values.specs.Kinds.{is_word_octet}
use Rattle.lpd_commands.specs.Written.{command_has_line}
use Rattle.lpd_commands.specs.declared.command.Command.TheVariants.{Receive}
use Rattle.lpd_values.specs.Contents.{Contents}
use Rattle.lpd_values.specs.Name.{IsFileName, is_control_name, is_data_name, number_of}
use Rattle.lpr_client.specs.Sendable.{is_named, is_sendable}
use Rattle.program_words.specs.declared.words.Sending.{Sending}
use Rattle.lpd_values.specs.Pieces.{is_kept}
use Rattle.lpd_values.proofs.NameLemmas.{short_enough}
use Rattle.lpd_values.proofs.PieceLemmas.{list_all-wider}
use Rattle.program_words.specs.Naming.{file_name, said_of}
use Rattle.program_words.specs.Refused.{is_host}

word_in_line : (b : ℕ) → is_word_octet b ≡ true → is_kept is_line_feed b ≡ true
word_in_line b h = grind (arith, nat_tests)

-- a host that fits can stand in a control file
host_in_line : (host : List ℕ) → is_host host ≡ true → is_operand host ≡ true
host_in_line host h =
    let parts = and_parts _ _ h in
    let sizes = and_parts _ _ parts.0 in
    let few : length host ≤ 120 = leb-true (length host) 120 sizes.1 in
    and_from _ _ (and_from _ _ sizes.0 (le-leb (length host) 255 (omega arith)))
    (list_all-wider is_word_octet (is_kept is_line_feed) word_in_line host parts.1)

-- a host that can't stand there doesn't fit
pub no_host : (host : List ℕ) → is_operand host ≡ false → is_host host ≡ false
no_host host h = go (is_host host) refl
  where
    go : (fits : Bool) → is_host host ≡ fits → is_host host ≡ false
    go true e =
        let bad : true ≡ false = sym (host_in_line host e) ∙ h in
        cc
    go false e = e

-- a print line takes at most 128 octets
print_lines_fit : (names : List (List ℕ)) → list_all is_data_name names ≡ true → length (print_lines names) ≤ 128 * length names
print_lines_fit [] h = omega arith
print_lines_fit (name ∷ names) h =
    let parts = and_parts _ _ h in
    let one : length name ≤ 126 = short_enough 100 name parts.0 in
    let rest = print_lines_fit names parts.1 in
    let line = length-append name (10 ∷ print_lines names) in
    omega arith

operand_fits : (operand : List ℕ) → is_operand operand ≡ true → length operand ≤ 255
operand_fits operand h = leb-true (length operand) 255 (and_parts _ _ (and_parts _ _ h).0).1

-- the lengths of what a control file is made of
lengths_fit : (host user : List ℕ) (names : List (List ℕ)) → length host ≤ 255 → length user ≤ 255
    → length (print_lines names) ≤ 128 * length names → length names ≤ 52
    → length (72 ∷ (host ++ 10 ∷ (80 ∷ (user ++ 10 ∷ print_lines names)))) ≤ 8192
lengths_fit host user names h u lines few =
    let last = length-append user (10 ∷ print_lines names) in
    let first = length-append host (10 ∷ (80 ∷ (user ++ 10 ∷ print_lines names))) in
    omega arith

-- the text of a control file of at most 52 print lines isn't too long
pub text_fits : (c : Control) → length c.prints ≤ 52 → nat_le (length (control_text (contents c))) 8192 ≡ true
text_fits c few =
    let fit : is_print_list c.prints ≡ true = c.prints_fit in
    let lines = print_lines_fit c.prints (and_parts _ _ fit).1 in
    let whole : length (text_with (contents c) (print_lines c.prints)) ≤ 8192 = lengths_fit c.host c.user c.prints (operand_fits c.host c.host_fits) (operand_fits c.user c.user_fits) lines few in
    let over : is_over (contents c) ≡ false = le-ltb 8192 (length (text_with (contents c) (print_lines c.prints))) whole in
    le-leb _ 8192 (subst (λ o. length (text_with (contents c) (last_lines o c.prints)) ≤ 8192) (sym over) whole)

-- the number of a name is the one that was written into it
pub number_in_name : (n : ℕ) (host : List ℕ) → n ≤ 999 → number_of (file_name (99 ∷ 102 ∷ 65 ∷ []) n host) ≡ n
number_in_name n host h = omega arith

-- of at most 52 names of data files, only none are no print list
pub no_files : (names : List (List ℕ)) → list_all is_data_name names ≡ true → length names ≤ 52 → is_print_list names ≡ false → length names ≡ 0
no_files [] named few h = refl
no_files (name ∷ names) named few h =
    let list : is_print_list (name ∷ names) ≡ true =
    and_from _ _ (and_from _ _ (le-leb 1 (length (name ∷ names)) (omega arith)) (le-leb (length (name ∷ names)) 99 (omega arith))) named in
    let bad : true ≡ false = sym list ∙ h in
    cc

-- a name that begins with c is none of a data file
control_name : (name : List ℕ) → IsFileName name → slice_index name 0 ≡ 99 → is_control_name name ≡ true
control_name name h begins =
    elim (or_cases (is_control_name name) (is_data_name name) h) [
      | inl control ↦ control
      | inr data_file ↦
          let first : slice_index name 0 ≡ 100 = grind (arith, nat_tests) in
          absurd (omega arith)
    ]

-- a control file's own name
pub control_named : (name : List ℕ) (s : Sending) (c : Control) → name ≡ file_name (99 ∷ 102 ∷ 65 ∷ []) s.number s.host.now → IsFileName name → contents c ≡ said_of s → is_named name c ≡ true
control_named name s c is file said =
    let number : c.number ≡ s.number = ap (λ (said : Contents). said.number) said in
    let few : s.number ≤ 999 = rw number at c.number_fits in
    let in_name : number_of name ≡ c.number = ap number_of is ∙ (number_in_name s.number s.host.now few ∙ sym number) in
    and_from _ _ (control_name name file (ap (λ n. slice_index n 0) is)) (eq-eqb (number_of name) c.number in_name)

-- a job without files that can't be sent, though all but its queue fits
pub bad_queue : (queue name : List ℕ) (c : Control) → is_named name c ≡ true → length c.prints ≤ 52 → is_sendable queue name c [] ≡ false → command_has_line (Receive queue) ≡ false
bad_queue queue name c named few refused = go (command_has_line (Receive queue)) refl
  where
    go : (fits : Bool) → command_has_line (Receive queue) ≡ fits → command_has_line (Receive queue) ≡ false
    go true e =
        let sendable : is_sendable queue name c [] ≡ true =
        and_from _ _ (and_from _ _ e named) (and_from _ _ (and_from _ _ (text_fits c few) refl) refl) in
        let bad : true ≡ false = sym sendable ∙ refused in
        cc
    go false e = e
