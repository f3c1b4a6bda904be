use Rattle.std.proofs.Common.{◌∙◌, ap, map}
use Rattle.std.specs.List.{concat}
use Rattle.std.proofs.lemmas.Result.{IfOk-weaker}
use Rattle.lpr_client.specs.Shown.{part_octets}
use Rattle.lpr_client.proofs.Granting.{is_acknowledged}
use Rattle.lpr_client.proofs.JobReading.{reads_as_one_job}
use Rattle.lpr_client.proofs.job.job_bytes.Goals as goal

pub returns-clause-granted : goal.returns-clause-granted
returns-clause-granted c =
    IfOk-weaker c.joined.result _ _
    (λ octets e. is_acknowledged c.args.queue.now c.args.name.now c.args.control.now c.args.files.now octets c.requires c.in_ok-parts.ensures.counted (e ∙ (ap (λ parts. concat (map part_octets parts)) c.as_slice.ensures.value ∙ ap concat c.in_ok-parts.ensures.parts)))
    c.joined.ensures

pub returns-clause-one_job : goal.returns-clause-one_job
returns-clause-one_job c =
    IfOk-weaker c.joined.result _ _
    (λ octets e. reads_as_one_job c.args.queue.now c.args.name.now c.args.control.now c.args.files.now octets c.requires c.in_ok-parts.ensures.counted (e ∙ (ap (λ parts. concat (map part_octets parts)) c.as_slice.ensures.value ∙ ap concat c.in_ok-parts.ensures.parts)))
    c.joined.ensures
