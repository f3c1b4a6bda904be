use Rattle.std.proofs.Common.{◌-◌, true, length, refl, arith}
use Rattle.history_reader.specs.Seen.{file_seen}
use Rattle.history_reader.proofs.Lists.{at_last-set}
use Rattle.history_reader.proofs.jobs.end_last.Goals as goal

pub returns-in-Some : goal.returns-in-Some
returns-in-Some c = at_last-set file_seen (λ f. record f { ended = true }) c.args.files.now (length c.args.files.now - 1) c.in-Some.file.now (record c.in-Some.file.now { ended = true }) (let inside = c.in-Some.ensures.item.3.0 in omega arith) c.in-Some.ensures.item.1 refl
