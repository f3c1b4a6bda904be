use Rattle.std.proofs.Common.{◌≡◌, ℕ, None, Option, Some, ap, ◌∙◌, arith, rules}
use Rattle.std.specs.Cmp.{nat_eq_equiv}
use Rattle.std.specs.Map.Iter.{deref_pair}
use Rattle.std.proofs.lemmas.Grind.{common_steps}
use Rattle.std.proofs.lemmas.Map.Iter.{hash_map_turn}
use Rattle.job_files.specs.Table.{file_in}
use Rattle.job_files.specs.declared.table.JobEntry.{JobEntry}
use Rattle.job_files.specs.declared.table.JobEntry.TheVariants.{Ended, File}
use Rattle.job_files.proofs.table.JobFiles.job_of.Goals as goal

pub returns-then-eq : goal.returns-then-eq
returns-then-eq c =
    let k = hash_map_turn deref_pair c.loop-job.yielded c.into_iter-job-iterator.result c.loop-job.job-iterator c.next.new.self c.next.result (c.in-Some.job, c.in-Some.entry) c.loop-job.yielded_by c.in-Some.is c.next.ensures.steps nat_eq_equiv c.args.self.now.entries (search rules) (search rules) in
    let is : c.in-Some.entry.now ≡ File c.args.file = search rules in
    ap file_in (k.1 ∙ ap Some is)

pub loop-job-preserved : goal.loop-job-preserved
loop-job-preserved c = λ q has. grind (arith, common_steps, c.loop-job.invariant q has, c.in-Some.ensures, c.if-eq.false, c.eq.ensures)

-- its file is known by no other
files_file : (o : Option JobEntry) (file : ℕ) → file_in o ≡ Some file → o ≡ Some (File file)
files_file None file e = cc
files_file (Some (File other)) file e = cc
files_file (Some (Ended end)) file e = cc

pub returns : goal.returns
returns c = λ job is.
    let left = c.loop-job.invariant job (files_file _ _ is) in
    grind (arith, common_steps, left, c.in-None.ensures)
