use Rattle.std.proofs.Common.{ap, refl, ◌∙◌}
use Rattle.memory_folder.specs.declared.memory.FileEnd.TheVariants.{Discarded}
use Rattle.memory_folder.proofs.Steps.{created, end_lacks, end_passed, end_time}
use Rattle.memory_folder.proofs.memory.MemoryFolderFolder.create.Goals as goal

pub returns-clause-made : goal.returns-clause-made
returns-clause-made c =
    (_, refl, created c.new-2.result.octets.items c.args.self.now.gone.items c.empty.new.self.gone.items c.args.self.now.whole c.empty.new.self.whole (ap (λ v. v.items) c.new-2.ensures.0 ∙ c.new.ensures.items) c.empty.ensures.nothing.1 c.empty.ensures.gone)

pub returns-clause-passed : goal.returns-clause-passed
returns-clause-passed c = (_, refl, end_passed c.args.self.now.gone.items c.empty.new.self.gone.items c.args.self.now.whole c.empty.ensures.gone)

pub returns-clause-time : goal.returns-clause-time
returns-clause-time c = end_time Discarded c.args.self.now.gone.items c.empty.new.self.gone.items c.args.self.now.whole c.empty.new.self.whole c.empty.ensures.nothing.1 c.empty.ensures.gone

pub returns-clause-lacks : goal.returns-clause-lacks
returns-clause-lacks c = end_lacks c.args.self.now.gone.items c.empty.new.self.gone.items c.args.self.now.whole c.empty.ensures.gone
