use Rattle.std.proofs.Common.{◌≡◌, ◌∷◌, ◌++◌, ◌∙◌, [], List, ℕ, None, Option, Some, inr, subst}
use Rattle.std.proofs.lemmas.Result.{on_ok_weaker}
use Rattle.lpd_commands.specs.Ends.{Writes}
use Rattle.lpd_commands.proofs.Writing.{Writes-append}
use Rattle.program_edge.specs.Told.{IsTold, fault_text}
use Rattle.program_edge.specs.declared.telling.FaultName.TheVariants.{Memory}
use Rattle.program_edge.proofs.telling.tell.Goals as goal

short_told : (output was now : Option (List ℕ)) → Writes was now (fault_text Memory ++ 10 ∷ []) → IsTold output was now
short_told None was now told = tt
short_told (Some text) was now told = inr told

pub returns-in_ok-write_all-in-Err-clause-told : goal.returns-in_ok-write_all-in-Err-clause-told
returns-in_ok-write_all-in-Err-clause-told g c =
    let octets : c.as_bytes-in-Err.result.now ≡ fault_text Memory = c.as_bytes-in-Err.ensures.value ∙ c.text.ensures in
    let words = subst (λ octets. Writes (g.E.OctetWrite.written c.args.faults.now) (g.E.OctetWrite.written c.write_all-in-Err.new.writer) octets) octets c.in_ok-write_all-in-Err.ensures.ok.0 in
    on_ok_weaker c.write_all-in-Err-2.result (λ written. short_told _ _ _ (Writes-append _ _ _ (fault_text Memory) (10 ∷ []) words written.0)) c.write_all-in-Err-2.ensures.ok
