-- Lines that are sent have no LF before their end, and are read back.
use Rattle.std.proofs.Common.{◌≡◌, ◌<◌, ◌+◌, ◌^◌, ℕ, true, List, [], ◌∷◌, length, refl, ap, ◌∙◌, sym, subst, Ok, one-add, arith}
use Rattle.std.specs.Prelude.{IsTrue}
use Rattle.std.specs.List.{list_all, prefix_len}
use Rattle.std.proofs.lemmas.Bool.{and_parts, and_from, lt-ltb}
use Rattle.std.proofs.lemmas.Bool.Decides.{nat_tests}
use Rattle.lpd_values.specs.Kinds.{is_text_octet}
use Rattle.lpd_values.specs.Name.{is_control_name, is_data_name}
use Rattle.lpd_values.proofs.PieceLemmas.{prefix_len-yes, list_all-wider}
use Rattle.lpd_commands.specs.Layout.{IsLine as IsLaidOutLine}
use Rattle.lpd_commands.specs.Line.{command_of, sub_of}
use Rattle.lpd_commands.specs.Written.{command_line, command_has_line, sub_line}
use Rattle.lpd_commands.specs.declared.command.Command.TheVariants.{Receive}
use Rattle.lpd_commands.specs.declared.sub.Sub.TheVariants.{ControlFile, DataFile}
use Rattle.lpd_commands.proofs.LayoutLemmas.{line_words}
use Rattle.lpd_commands.proofs.CommandLaws.{command_is_exact}
use Rattle.lpd_commands.proofs.SubLaws.{sub_is_exact}
use Rattle.lpd_commands.proofs.WriteLemmas.{command_is_read_back, sub_is_read_back}
use Rattle.receiver.specs.Reading.{is_inner}
use Rattle.receiver.specs.Blocks.{IsLine}

text_inner : (b : ℕ) → is_text_octet b ≡ true → is_inner b ≡ true
text_inner b h = grind (arith, nat_tests)

all_inner : (s : List ℕ) → list_all is_inner s ≡ true → prefix_len is_inner s ≡ length s
all_inner [] h = refl
all_inner (b ∷ bs) h = prefix_len-yes is_inner b bs (and_parts _ _ h).0 ∙ (ap (λ n. 1 + n) (all_inner bs (and_parts _ _ h).1) ∙ one-add (length bs))

-- a line that is laid out has no LF
laid_out_inner : (code : ℕ) (word : List ℕ) (operands : List (List ℕ)) (line : List ℕ) → is_inner code ≡ true → IsLaidOutLine code word operands line → prefix_len is_inner line ≡ length line
laid_out_inner code word operands line h l =
    let words = line_words code word operands line l in
    all_inner line (subst (λ s. list_all is_inner s ≡ true) (sym words.1) (and_from _ _ h (list_all-wider is_text_octet is_inner text_inner words.0 (and_parts _ _ words.2).1)))

-- a line that is sent: it is one, and this is read back from it
pub receive_line : (queue : List ℕ) → IsTrue (command_has_line (Receive queue)) → IsLine (command_line (Receive queue)) × (command_of (command_line (Receive queue)) ≡ Ok (Receive queue))
receive_line queue h =
    let read = command_is_read_back (Receive queue) h in
    let means = ((command_is_exact (command_line (Receive queue))).0 (Receive queue)).0 read in
    ((laid_out_inner 2 queue means.1.0 _ refl means.1.1, means.0), read)

pub control_line : (n : ℕ) (name : List ℕ) → n < 10 ^ 19 → IsTrue (is_control_name name) → IsLine (sub_line (ControlFile n name)) × (sub_of (sub_line (ControlFile n name)) ≡ Ok (ControlFile n name))
control_line n name h k =
    let read = sub_is_read_back (ControlFile n name) (and_from _ _ (lt-ltb n (10 ^ 19) h) k) in
    let means = ((sub_is_exact (sub_line (ControlFile n name))).0 (ControlFile n name)).0 read in
    ((laid_out_inner 2 means.1 (name ∷ []) _ refl means.2, means.0), read)

pub data_line : (n : ℕ) (name : List ℕ) → 0 < n → n < 10 ^ 19 → IsTrue (is_data_name name) → IsLine (sub_line (DataFile n name)) × (sub_of (sub_line (DataFile n name)) ≡ Ok (DataFile n name))
data_line n name some h k =
    let read = sub_is_read_back (DataFile n name) (and_from _ _ (and_from _ _ (lt-ltb 0 n some) (lt-ltb n (10 ^ 19) h)) k) in
    let means = ((sub_is_exact (sub_line (DataFile n name))).0 (DataFile n name)).0 read in
    ((laid_out_inner 3 means.1 (name ∷ []) _ refl means.2, means.0), read)
