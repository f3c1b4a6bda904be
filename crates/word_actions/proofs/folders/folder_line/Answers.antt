use Rattle.std.proofs.Common.{◌≡◌, IfOk, append_assoc, string_bytes}
use Rattle.job_disk.specs.declared.looking.FolderState.TheVariants.{Absent, Present}
use Rattle.word_actions.specs.Folders.{folder_line}
use Rattle.word_actions.proofs.folders.folder_line.Goals as goal

pub returns-in-Absent : goal.returns-in-Absent
returns-in-Absent c =
    let line : IfOk c.format.result (λ line. string_bytes line ≡ folder_line c.args.path.now Absent) = simp append_assoc c.format.ensures.ok in
    rw c.in-Absent.is line

pub returns-in-Present : goal.returns-in-Present
returns-in-Present c =
    let line : IfOk c.format-in-Present.result (λ line. string_bytes line ≡ folder_line c.args.path.now (Present c.in-Present.waiting c.in-Present.failed)) = simp append_assoc c.format-in-Present.ensures.ok in
    rw c.in-Present.is line
