use Rattle.std.proofs.lemmas.List.{append_assoc}
use Rattle.told_jobs.proofs.lines.put_removed_line.Goals as goal

pub returns : goal.returns
returns g c =
    rw (c.in_ok-push.ensures.items, c.in_ok-put_word.ensures, c.in_ok-put_job_number.ensures, c.number_of.ensures.value, c.user_of.ensures, c.as_slice.ensures, c.as_slice-2.ensures)
    (simp append_assoc)
