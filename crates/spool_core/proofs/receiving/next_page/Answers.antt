use Rattle.std.proofs.Common.{◌-◌, ◌<◌, length, List, ap, subst, sym, ◌∙◌}
use Rattle.held_jobs.specs.declared.file.DataFile.{DataFile}
use Rattle.held_jobs.specs.Jobs.{last_size}
use Rattle.held_jobs.proofs.Sizes.{last_at}
use Rattle.spool_core.proofs.receiving.next_page.Goals as goal

pub returns : goal.returns
returns c =
    let e = c.files-files.ensures in
    let some : 0 < length c.files-files.result.now = subst (λ (fs : List DataFile). 0 < length fs) (sym e) c.requires in (
      ap (λ (fs : List DataFile). length fs - 1) e,
      ap (λ (f : DataFile). f.pages) (last_at c.files-files.result.now c.index-files-last.result some) ∙ ap (λ (fs : List DataFile). (last_size fs).pages) e,
    )
