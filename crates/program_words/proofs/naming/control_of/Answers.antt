use Rattle.std.proofs.Common.{rules, ◌≡◌, ◌∙◌, ◌≤◌, false, length, inl, sym}
use Rattle.lpd_values.specs.Kept.{is_operand, is_print_list}
use Rattle.program_words.proofs.EnvelopeLemmas.{no_host, no_files}
use Rattle.program_words.proofs.naming.control_of.Goals as goal

pub returns-then-not-is_operand-clause-fault : goal.returns-then-not-is_operand-clause-fault
returns-then-not-is_operand-clause-fault c =
    let bad : is_operand c.args.sending.now.host.now ≡ false = search rules in
    no_host c.args.sending.now.host.now bad

pub returns-then-not-is_print_list-clause-fault : goal.returns-then-not-is_print_list-clause-fault
returns-then-not-is_print_list-clause-fault c =
    let bad : is_print_list c.in_ok-prints.prints ≡ false = search rules in
    let few : length c.in_ok-prints.prints ≤ 52 = search rules in
    let none : c.len-2.result ≡ 0 = sym c.in_ok-prints.ensures.count ∙ no_files c.in_ok-prints.prints c.in_ok-prints.ensures.named few bad in
    let files : length c.args.sending.now.files.items ≡ 0 = search (rules, none) in
    inl files
