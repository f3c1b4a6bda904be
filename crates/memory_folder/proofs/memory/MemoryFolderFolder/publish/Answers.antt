use Rattle.std.proofs.Common.{◌∙◌, sym}
use Rattle.memory_folder.proofs.Steps.{crash_at_publish, same_lacks, publish_time, same_time}
use Rattle.memory_folder.proofs.memory.MemoryFolderFolder.publish.Goals as goal

pub returns-in_err-reserve-clause-time : goal.returns-in_err-reserve-clause-time
returns-in_err-reserve-clause-time c = same_time c.args.self.now.gone.items c.reserve.new.self.items c.args.self.now.whole c.reserve.ensures.items

pub returns-in_err-reserve-clause-lacks : goal.returns-in_err-reserve-clause-lacks
returns-in_err-reserve-clause-lacks c = same_lacks c.args.self.now.gone.items c.reserve.new.self.items c.reserve.ensures.items

pub returns-clause-crash : goal.returns-clause-crash
returns-clause-crash c = crash_at_publish c.args.self.now.partial c.take.result c.args.self.now.whole c.take.ensures.value (sym c.is_ready-possible.ensures ∙ c.in_ok-step.ensures.possible)

pub returns-clause-time : goal.returns-clause-time
returns-clause-time c = publish_time c.args.self.now.gone.items c.reserve.new.self.items c.args.self.now.partial c.take.result c.args.self.now.whole c.in_ok-reserve.ensures.items c.take.ensures.value (sym c.is_ready-possible.ensures ∙ c.in_ok-step.ensures.possible)

pub returns-clause-lacks : goal.returns-clause-lacks
returns-clause-lacks c = same_lacks c.args.self.now.gone.items c.reserve.new.self.items c.reserve.ensures.items
