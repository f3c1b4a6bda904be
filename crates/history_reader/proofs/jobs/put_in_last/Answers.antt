use Rattle.std.proofs.Common.{◌++◌, ◌∷◌, ◌-◌, [], length, ap, arith}
use Rattle.history_reader.specs.Seen.{file_seen}
use Rattle.history_reader.proofs.Lists.{at_last-set}
use Rattle.history_reader.proofs.jobs.put_in_last.Goals as goal

pub returns-in_ok-push : goal.returns-in_ok-push
returns-in_ok-push c = at_last-set file_seen (λ f. record f { pages = f.pages ++ c.args.page ∷ [] }) c.args.files.now (length c.args.files.now - 1) c.in-Some.file.now (record c.in-Some.file.now { pages = c.push.new.self }) (let inside = c.in-Some.ensures.item.3.0 in omega arith) c.in-Some.ensures.item.1 (ap (λ l. record (file_seen c.in-Some.file.now) { pages = l }) c.in_ok-push.ensures.items)
