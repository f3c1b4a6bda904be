use Rattle.std.proofs.Common.{◌≡◌, ℕ, Option, ap, refl, sym, subst, ◌∙◌}
use Rattle.page_pool.specs.Page.{Page}
use Rattle.spool_requests.specs.declared.answer.Answer.{Answer}
use Rattle.spool_requests.specs.declared.answer.Answer.TheVariants as answers
use Rattle.spool_requests.specs.declared.answer.RequestKind.{RequestKind}
use Rattle.spool_trace.specs.declared.reply.Deed.TheVariants as deed
use Rattle.spool_trace.specs.Sessions.{job_after}
use Rattle.receiver.specs.Reading.{IsFitting, Kind}
use Rattle.receiver.specs.View.{asked}
use Rattle.spool_trace.specs.Sessions.{reply_of}
use Rattle.request_calls.specs.Carried.{Carries}
use Rattle.request_calls.specs.Pages.{IsLentPage, blank, first_page, page_with}
use Rattle.request_calls.proofs.Requested.{asked_request}
use Rattle.spool_world.proofs.turning.answer.Goals as goal
use Rattle.spool_world.proofs.turning.answer.Goals.{in-Accepted, in_default}

-- the last job is the same where none was accepted
kept_job : (job : ℕ) (answer : Answer) → ((n : ℕ) → answer ≡ answers.Accepted n → ⊥) → job_after job answer ≡ job
kept_job job (answers.Accepted n) other = absurd (other n refl)
kept_job job answers.Yes other = refl
kept_job job (answers.Lent size) other = refl
kept_job job answers.Later other = refl
kept_job job answers.Stored other = refl
kept_job job answers.Received other = refl
kept_job job (answers.Told text) other = refl
kept_job job (answers.Refused n) other = refl

pub reply-requires-clause-fits : goal.reply-requires-clause-fits
reply-requires-clause-fits c =
    let same : c.match-answer.answer ≡ c.carry_out-answer.result.answer = elim c.match-answer.branch [ in-Accepted w ↦ w.answer-is ∙ sym w.in-Accepted.is | in_default w ↦ w.answer-is ] in
    subst (λ (o : Option Kind). IsFitting o (reply_of c.match-answer.answer)) (sym c.requires.owed)
    (subst (λ (a : Answer). IsFitting (asked c.args.request) (reply_of a)) (sym same) c.carry_out-answer.ensures.fits)

pub returns-clause-done : goal.returns-clause-done
returns-clause-done c r e =
    let same : c.match-answer.answer ≡ c.carry_out-answer.result.answer = elim c.match-answer.branch [ in-Accepted w ↦ w.answer-is ∙ sym w.in-Accepted.is | in_default w ↦ w.answer-is ] in
    let last : c.match-answer.job ≡ job_after c.args.job.now c.match-answer.answer = elim c.match-answer.branch [
      | in-Accepted w ↦ w.job-is ∙ sym (ap (job_after c.args.job.now) w.answer-is)
      | in_default w ↦ w.job-is ∙ sym (kept_job c.args.job.now c.match-answer.answer (λ n e. w.in_default.not-Accepted n (sym w.answer-is ∙ e)))
    ] in
    record {
      answer = c.match-answer.answer;
      page = c.carry_out-answer.result.page;
      is = ap (λ (k : RequestKind). deed.Asked k c.match-answer.answer) (c.kind_of-kind.ensures r e);
      carries = subst (λ (a : Answer). Carries c.args.core.now c.args.sender c.args.job.now r a c.carry_out-answer.new.spool) (sym same) (c.carry_out-answer.ensures.carries r e);
      blank' = c.carry_out-answer.ensures.page r e ∙ ap (λ (a : Answer). blank (page_with r a)) (sym same);
      lent = subst (λ (a : Answer). IsLentPage a c.carry_out-answer.result.page) (sym same) c.carry_out-answer.ensures.lent;
      reader' = c.reply.ensures.answered;
      last' = last;
      keeps' = c.keep.ensures ∙ ap (λ (page : Option Page). first_page page c.args.kept.now) c.reply.ensures.page;
    }

pub returns-clause-config : goal.returns-clause-config
returns-clause-config c =
    let r = asked_request c.args.request c.requires.asks in
    (c.carry_out-answer.ensures.carries r.0 r.1).config
