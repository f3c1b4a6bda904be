use Rattle.std.proofs.Common.{◌≡◌, ◌∙◌, ap, sym, subst, Some}
use Rattle.std.specs.String.{string_bytes}
use Rattle.clap.specs.Words.{Text}
use Rattle.program_edge.specs.StatusPlaces.{IsStatusText}
use Rattle.program_edge.specs.declared.status.StatusPlace.{StatusPlace}
use Rattle.program_words.proofs.serving.status_of.Goals as goal

pub returns-in_ok-from_str-in-None-clause-fault : goal.returns-in_ok-from_str-in-None-clause-fault
returns-in_ok-from_str-in-None-clause-fault c =
    let same : string_bytes c.in_ok-from_str-in-None.field-0 ≡ c.in-Some.text.now = c.in_ok-from_str-in-None.ensures.ok in
    let given = sym c.in-Some.ensures ∙ ap Some (sym same) in (
      given,
      subst (λ (t : Text). (place : StatusPlace) → IsStatusText t place → ⊥) (sym same) c.in-None.ensures.none,
    )
