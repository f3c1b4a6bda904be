use Rattle.segment_text.proofs.HeadsBack.{origin_back, config_back, printer_back, start_back, last_back}
use Rattle.segment_text.proofs.laws.lines_are_read_back.Goals as goal

pub returns-clause-origin : goal.returns-clause-origin
returns-clause-origin c = origin_back

pub returns-clause-config : goal.returns-clause-config
returns-clause-config c = config_back

pub returns-clause-printer : goal.returns-clause-printer
returns-clause-printer c = printer_back

pub returns-clause-start : goal.returns-clause-start
returns-clause-start c = start_back

pub returns-clause-last : goal.returns-clause-last
returns-clause-last c = last_back
