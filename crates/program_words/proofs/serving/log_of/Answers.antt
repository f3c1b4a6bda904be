use Rattle.std.proofs.Common.{◌≡◌, ◌∙◌, ap, sym, subst, Some}
use Rattle.std.specs.String.{string_bytes}
use Rattle.clap.specs.Words.{Text, found_of, rows_of}
use Rattle.program_edge.specs.Forms.{IsFormName}
use Rattle.program_edge.specs.declared.settings.LogForm.{LogForm}
use Rattle.program_words.proofs.ServingLemmas.{no_log}
use Rattle.program_words.proofs.serving.log_of.Goals as goal

pub returns-in_ok-from_str-in-None-clause-fault : goal.returns-in_ok-from_str-in-None-clause-fault
returns-in_ok-from_str-in-None-clause-fault c =
    let same : string_bytes c.in_ok-from_str-in-None.field-0 ≡ c.in-Some.text.now = c.in_ok-from_str-in-None.ensures.ok in
    let given = sym c.in-Some.ensures ∙ ap Some (sym same) in (
      given,
      no_log (rows_of (found_of c.args.matches.now)) _ given
          (subst (λ (t : Text). (form : LogForm) → IsFormName t form → ⊥) (sym same) c.in-None.ensures.none),
    )
