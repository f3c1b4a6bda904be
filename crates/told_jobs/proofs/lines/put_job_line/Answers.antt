use Rattle.std.proofs.lemmas.List.{append_assoc}
use Rattle.told_jobs.proofs.lines.put_job_line.Goals as goal

pub returns : goal.returns
returns g c =
    rw (c.in_ok-push.ensures.items, c.in_ok-put_count.ensures, c.in_ok-put_word-2.ensures, c.in_ok-put_word.ensures, c.in_ok-put_job_number.ensures, c.in_ok-left.ensures, c.number_of.ensures.value, c.user_of.ensures, c.host_of.ensures, c.stage_word.ensures, c.handed.ensures, c.as_slice.ensures, c.as_slice-2.ensures, c.as_slice-3.ensures)
    (simp append_assoc)
