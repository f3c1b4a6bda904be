use Rattle.std.proofs.Common.{ap, map, string_bytes, ◌≡◌, ◌∙◌, [], subst, sym}
use Rattle.clap.specs.Words.{App, HasKind, Kinds, app_of, fault_of, is_simple, is_simple_and_free, kind_of, subcommand_of, subcommand_rows_of}
use Rattle.program_words.specs.CommandLine.{command_line}
use Rattle.program_words.specs.Refused.{AsksNothing}
use Rattle.program_words.proofs.AskedLemmas.{asks_nothing, simple, simple_and_free, unread_by}
use Rattle.program_words.proofs.words.read_words.Goals as goal

pub returns-in-Err-clause-unread : goal.returns-in-Err-clause-unread
returns-in-Err-clause-unread c =
    let same : app_of c.in_ok-command.command ≡ command_line = c.in_ok-command.ensures in
    let words = map string_bytes c.args.words.now in
    let kinds : HasKind (fault_of (app_of c.in_ok-command.command) words) c.in-Err.error = c.in-Err.ensures.kinds (ap is_simple_and_free same ∙ simple_and_free) in
    let faults : fault_of (app_of c.in_ok-command.command) words ≡ fault_of command_line words = ap (λ (a : App). fault_of a words) same in
    let among : HasKind (fault_of command_line words) c.in-Err.error = subst (λ (k : Kinds). HasKind k c.in-Err.error) faults kinds in
    unread_by words (kind_of c.in-Err.error) _ among c.why_unread.ensures

pub returns-in-Ok-asked_of-clause-asked : goal.returns-in-Ok-asked_of-clause-asked
returns-in-Ok-asked_of-clause-asked c =
    let same : app_of c.in_ok-command.command ≡ command_line = c.in_ok-command.ensures in
    let met = c.in-Ok.ensures.ok.2 (ap is_simple same ∙ simple) in
    let rows : subcommand_rows_of c.in-Ok.matches ≡ subcommand_of command_line (map string_bytes c.args.words.now) =
    met.1 ∙ ap (λ (a : App). subcommand_of a (map string_bytes c.args.words.now)) same in
    rw rows at c.in-Ok-asked_of.ensures.asked

pub returns-in-Ok-asked_of-clause-taken : goal.returns-in-Ok-asked_of-clause-taken
returns-in-Ok-asked_of-clause-taken c =
    let same : app_of c.in_ok-command.command ≡ command_line = c.in_ok-command.ensures in
    let words = map string_bytes c.args.words.now in
    let kinds : fault_of (app_of c.in_ok-command.command) words ≡ [] = c.in-Ok.ensures.kinds (ap is_simple_and_free same ∙ simple_and_free) in
    sym (ap (λ (a : App). fault_of a words) same) ∙ kinds

pub returns-clause-unread : goal.returns-clause-unread
returns-clause-unread c =
    let same : app_of c.in_ok-command.command ≡ command_line = c.in_ok-command.ensures in
    let met = c.in-Ok.ensures.ok.2 (ap is_simple same ∙ simple) in
    let rows : subcommand_rows_of c.in-Ok.matches ≡ subcommand_of command_line (map string_bytes c.args.words.now) =
    met.1 ∙ ap (λ (a : App). subcommand_of a (map string_bytes c.args.words.now)) same in
    let words = map string_bytes c.args.words.now in
    let kinds : fault_of (app_of c.in_ok-command.command) words ≡ [] = c.in-Ok.ensures.kinds (ap is_simple_and_free same ∙ simple_and_free) in
    let none : fault_of command_line words ≡ [] = sym (ap (λ (a : App). fault_of a words) same) ∙ kinds in
    let nothing : AsksNothing (subcommand_of command_line (map string_bytes c.args.words.now)) c.in-Err-asked_of.fault = rw rows at c.in-Err-asked_of.ensures.fault in
    asks_nothing words c.in-Err-asked_of.fault _ none nothing c.in_ok-why_nothing-in-Err-asked_of.ensures
