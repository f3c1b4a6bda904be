use Rattle.std.proofs.Common.{refl}
use Rattle.memory_folder.specs.declared.memory.FileEnd.TheVariants.{Discarded}
use Rattle.memory_folder.proofs.Steps.{emptied, end_lacks, end_passed, end_time}
use Rattle.memory_folder.proofs.memory.MemoryFolderFolder.discard.Goals as goal

pub returns-in-Ok-clause-passed : goal.returns-in-Ok-clause-passed
returns-in-Ok-clause-passed c = (_, refl, end_passed c.args.self.now.gone.items c.empty.new.self.gone.items c.args.self.now.whole c.empty.ensures.gone)

pub returns-in-Ok-clause-time : goal.returns-in-Ok-clause-time
returns-in-Ok-clause-time c = end_time Discarded c.args.self.now.gone.items c.empty.new.self.gone.items c.args.self.now.whole c.empty.new.self.whole c.empty.ensures.nothing.1 c.empty.ensures.gone

pub returns-in-Ok-clause-lacks : goal.returns-in-Ok-clause-lacks
returns-in-Ok-clause-lacks c = end_lacks c.args.self.now.gone.items c.empty.new.self.gone.items c.args.self.now.whole c.empty.ensures.gone

pub returns-in-Ok-clause-emptied : goal.returns-in-Ok-clause-emptied
returns-in-Ok-clause-emptied c = λ same. (_, refl, emptied c.args.self.now.gone.items c.empty.new.self.gone.items c.args.self.now.whole c.empty.new.self.partial c.empty.new.self.whole c.empty.ensures.nothing.0 c.empty.ensures.nothing.1 c.empty.ensures.gone)
