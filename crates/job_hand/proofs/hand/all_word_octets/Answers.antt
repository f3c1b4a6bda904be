use Rattle.std.proofs.Common.{◌&&◌, not, ap, sym, ◌∙◌}
use Rattle.std.specs.List.{list_any}
use Rattle.lpd_values.specs.Kinds.{is_space}
use Rattle.lpr_client.proofs.SendableLemmas.{text_without_space}
use Rattle.job_hand.proofs.hand.all_word_octets.Goals as goal

pub returns-then-all_text : goal.returns-then-all_text
returns-then-all_text c =
    let octets = c.args.octets.now in
    ap not c.has_space.ensures
    ∙ (ap (λ text. text && not (list_any is_space octets)) (sym c.if-all_text.true ∙ c.all_text.ensures) ∙ text_without_space octets)

pub returns-else-all_text : goal.returns-else-all_text
returns-else-all_text c =
    let octets = c.args.octets.now in
    c.if-all_text.false ∙ (ap (λ text. text && not (list_any is_space octets)) (sym c.if-all_text.false ∙ c.all_text.ensures) ∙ text_without_space octets)
