-- From octets to a document.
use Rattle.std.proofs.Common.{◌≡◌, ◌≢◌, ℕ, List, Some, None, IsSome, IsUtf8, Result, Ok, Err, IfOk, IfErr, slice_get, sym, ap, subst, ◌∙◌, inl, inr}
use Rattle.std.proofs.lemmas.Bool.{cases_Bool, false≢true}
use Rattle.std.proofs.lemmas.Option.{same_Some}
use Rattle.std.proofs.lemmas.Result.{IfOk-weaker}
use Rattle.std.proofs.lemmas.Str.{is_utf8-from_IsUtf8, IsUtf8-from_is_utf8}
use Rattle.std.specs.Str.{is_utf8}
use Rattle.toml.specs.Data.{Members, no_members}
use Rattle.toml.specs.Errors.{IsBlank}
use Rattle.toml.specs.Parse.{parse_document, lines}
use Rattle.config_values.specs.Config as C
use Rattle.spool_config.specs.declared.settings.ConfigFault.{ConfigFault}
use Rattle.spool_config.specs.declared.settings.ConfigFault.TheVariants.{Memory, NotToml}
use Rattle.spool_config.specs.declared.settings.Key.TheVariants.{Pages}
use Rattle.spool_config.specs.Keys.{value_at}
use Rattle.spool_config.specs.Told.{TellsConfig}
use Rattle.spool_config.specs.Faults.{faults_of}
use Rattle.spool_config.specs.Answers.{document_of, first_fault, fault_of, GivesConfig}

pub document_there : (text : List ℕ) (d : Members) → IsUtf8 text × (parse_document text ≡ Some d) → document_of text ≡ Some d
document_there text d there = rw (is_utf8-from_IsUtf8 text there.0) there.1

pub no_document : (text : List ℕ) → (IsUtf8 text → parse_document text ≡ None) → fault_of text ≡ Some NotToml
no_document text none =
    elim (cases_Bool (is_utf8 text)) [
      | inl utf8 ↦ rw (utf8, none (IsUtf8-from_is_utf8 text utf8))
      | inr other ↦ rw other
    ]

pub config_given : (text : List ℕ) (d : Members) → document_of text ≡ Some d → (r : Result C.Config ConfigFault) → IfOk r (TellsConfig d) → IfOk r (GivesConfig text)
config_given text d there r tells = IfOk-weaker r (TellsConfig d) (GivesConfig text) (λ c tells. (d, there, tells)) tells

pub fault_given : (text : List ℕ) (d : Members) → document_of text ≡ Some d → (r : Result C.Config ConfigFault)
    → IfErr r (λ fault. fault ≢ Memory → slice_get (faults_of d) 0 ≡ Some fault) → IfErr r (λ fault. fault ≢ Memory → fault_of text ≡ Some fault)
fault_given text d there (Ok c) first = first
fault_given text d there (Err fault) first = λ other. ap first_fault there ∙ first other

-- a blank text is the document without a key
blank_document : (text : List ℕ) → IsBlank text → parse_document text ≡ Some no_members
unfolding parse_document lines
blank_document text blank = rw blank

pub memory_given : (text : List ℕ) (d : Members) → IsUtf8 text × (parse_document text ≡ Some d) → (r : Result C.Config ConfigFault)
    → IfErr r (λ fault. fault ≡ Memory → IsSome (value_at Pages d)) → IfErr r (λ fault. fault ≡ Memory → ¬ IsBlank text)
memory_given text d there (Ok c) some = some
memory_given text d there (Err fault) some = λ memory blank.
    let keyless : no_members ≡ d = same_Some no_members d (sym (blank_document text blank) ∙ there.1) in
    let HasPages : Members → Type 0 = λ e. IsSome (value_at Pages e) in
    absurd (false≢true (subst HasPages (sym keyless) (some memory)))
