-- A job, as one more entry changes it.
use Rattle.std.proofs.Common.{◌≡◌, List, ◌∷◌, sym, ap, ◌∙◌}
use Rattle.spool_history.specs.Now.{job_of}
use Rattle.spool_history.specs.Steps.{change}
use Rattle.account.specs.declared.entry.Entry.{Entry}
use Rattle.history_reader.specs.declared.state.Opening.{Opening}
use Rattle.history_reader.specs.declared.state.Job.{Job}
use Rattle.account.specs.Seen.{history, event_seen}
use Rattle.history_reader.specs.Seen.{opening_seen, job_seen}
use Rattle.history_reader.proofs.Changes.{job_of-more}

pub changed : (all : List Entry) (e : Entry) (h : List Entry) (o : Opening) (v w : Job) → all ≡ e ∷ h → job_seen v ≡ job_of (history h) (opening_seen o) → job_seen w ≡ change (event_seen e) (job_seen v) → job_seen w ≡ job_of (history all) (opening_seen o)
changed all e h o v w is x y =
    y ∙ (ap (change (event_seen e)) x ∙ (sym (job_of-more (history h) (event_seen e) (opening_seen o)) ∙ sym (ap (λ l. job_of (history l) (opening_seen o)) is)))
