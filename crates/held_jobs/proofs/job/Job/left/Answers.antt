use Rattle.std.proofs.Common.{◌≡◌, ◌-◌, ◌<◌, length, ap, ◌∙◌, arith}
use Rattle.std.proofs.lemmas.Bool.Decides.{nat_tests}
use Rattle.held_jobs.specs.declared.file.DataFile.{DataFile}
use Rattle.held_jobs.specs.Jobs.{Facts, last_size}
use Rattle.held_jobs.proofs.Sizes.{last_is}
use Rattle.held_jobs.proofs.job.Job.left.Goals as goal

pub returns : goal.returns
returns c =
    let fs = c.self.inside.files.items in
    let some : 0 < length fs = (let e = c.if-is_empty.ensures in let o = c.self.inside.files.ok in grind (arith, nat_tests)) in
    ap (λ (f : DataFile). f.left) (last_is fs (c.len.result - 1) c.len.result c.index.result.now some (let o = c.self.inside.files.ok in let e = c.len.ensures in omega arith) (let e : c.len.result - 1 ≡ c.len.result - 1 = omega arith in e) c.index.ensures)
    ∙ ap (λ (j : Facts). (last_size j.files).left) c.self.view_is
