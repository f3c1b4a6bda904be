use Rattle.std.proofs.Common.{refl}
use Rattle.memory_folder.specs.declared.memory.FileEnd.TheVariants.{Passed}
use Rattle.memory_folder.proofs.Steps.{end_time, out_lacks, out_passed}
use Rattle.memory_folder.proofs.memory.MemoryFolderFolder.pass.Goals as goal

pub returns-clause-passes : goal.returns-clause-passes
returns-clause-passes c = λ octets kept. (_, refl, out_passed (Passed c.args.job) c.args.self.now.gone.items c.empty.new.self.gone.items c.args.self.now.whole octets kept.told c.empty.ensures.gone)

pub returns-clause-time : goal.returns-clause-time
returns-clause-time c = end_time (Passed c.args.job) c.args.self.now.gone.items c.empty.new.self.gone.items c.args.self.now.whole c.empty.new.self.whole c.empty.ensures.nothing.1 c.empty.ensures.gone

pub returns-clause-lacks : goal.returns-clause-lacks
returns-clause-lacks c = λ octets kept. out_lacks (Passed c.args.job) c.args.self.now.gone.items c.empty.new.self.gone.items c.args.self.now.whole octets kept.told kept.durable c.empty.ensures.gone
