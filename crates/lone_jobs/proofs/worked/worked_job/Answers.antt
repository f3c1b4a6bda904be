use Rattle.std.proofs.Common.{[], refl, inl}
use Rattle.std.specs.Fmt.{digits}
use Rattle.worked_histories.specs.Rows.{small}
use Rattle.worked_traces.specs.Rows.{one_job}
use Rattle.spool_trace.specs.Replies.{IsTrace}
use Rattle.lone_jobs.specs.Lone.{ComesAlone}
use Rattle.lone_jobs.specs.Worked.{lone, steps}
use Rattle.lone_jobs.proofs.SmallRoom.{room}
use Rattle.lone_jobs.proofs.worked.worked_job.Goals as goal

comes : IsTrace small one_job → ComesAlone small [] lone 1 1 steps
unfolding digits
comes r = record {
  room = room;
  right = r.1.1.1.1.1;
  alone = (inl (refl, refl), (inl (refl, refl), (inl (refl, refl), (inl (refl, refl), (inl (refl, refl), (inl (refl, refl), (inl (refl, refl), (inl (refl, refl), (inl (refl, refl), (inl (refl, refl), (inl (refl, refl), (inl (refl, refl), (inl (refl, refl), (inl (refl, refl), (inl (refl, refl), (inl (refl, tt), tt))))))))))))))));
  coming = [];
  beginning = refl;
}

pub returns : goal.returns
unfolding comes
returns c = λ r. (comes r, refl)
