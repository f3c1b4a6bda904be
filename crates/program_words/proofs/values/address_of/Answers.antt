use Rattle.program_words.proofs.values.address_of.Goals as goal

pub returns-in-Err : goal.returns-in-Err
returns-in-Err c = λ address is. c.in-Err.ensures.value address (rw c.text_or.ensures is)
