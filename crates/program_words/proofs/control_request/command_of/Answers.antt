use Rattle.std.proofs.Common.{◌≡◌, ◌∙◌, Bor, ℕ, List, map, subst}
use Rattle.std.specs.List.{join_with_byte}
use Rattle.control_lines.specs.Commands.{Means, Refuses}
use Rattle.control_lines.specs.declared.command.CommandFault.TheVariants as line
use Rattle.program_words.proofs.ControlLemmas.{joined}
use Rattle.program_words.proofs.control_request.command_of.Goals as goal

pub returns-in-Ok-clause-command : goal.returns-in-Ok-clause-command
returns-in-Ok-clause-command c =
    let texts = map (λ (word : Bor (List ℕ)). word.now) c.in_ok-words.words.now in
    let same : c.as_bytes.result.now ≡ join_with_byte 32 texts = c.as_bytes.ensures.value ∙ c.in_ok-line.ensures.ok ∙ joined (λ (word : Bor (List ℕ)). word.now) c.in_ok-words.words.now in
    (texts, c.in_ok-words.ensures.texts, subst (λ text. Means text c.in-Ok.command) same c.in-Ok.ensures)

pub returns-in-Err-Unknown-clause-fault : goal.returns-in-Err-Unknown-clause-fault
returns-in-Err-Unknown-clause-fault c =
    let texts = map (λ (word : Bor (List ℕ)). word.now) c.in_ok-words.words.now in
    let same : c.as_bytes.result.now ≡ join_with_byte 32 texts = c.as_bytes.ensures.value ∙ c.in_ok-line.ensures.ok ∙ joined (λ (word : Bor (List ℕ)). word.now) c.in_ok-words.words.now in
    let refuses : Refuses c.as_bytes.result.now line.Unknown = rw c.in-Err-Unknown.field-0-is at c.in-Err-Unknown.ensures in
    (texts, c.in_ok-words.ensures.texts, subst (λ text. Refuses text line.Unknown) same refuses)
