use Rattle.spool_config.proofs.Found.{given_found}
use Rattle.spool_config.proofs.Sound.{given_has_no_fault, one_given}
use Rattle.spool_config.proofs.laws.each_text_is_decided.Goals as goal

pub returns : goal.returns
returns c =
    let text = c.args._text.now in
    record { some = given_found text; one = one_given text; sound = given_has_no_fault text }
