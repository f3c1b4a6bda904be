-- What the text of a configuration gives: a configuration, or one fault.
use Rattle.std.specs.Prelude.{◌≡◌, List, ℕ, Option, Some, None, if◌then◌else◌, slice_get}
use Rattle.std.specs.Str.{is_utf8}
use Rattle.toml.specs.Data.{Members}
use Rattle.toml.specs.Parse.{parse_document}
use Rattle.config_values.specs.Config as C
use Rattle.spool_config.specs.declared.settings.ConfigFault.{ConfigFault}
use Rattle.spool_config.specs.declared.settings.ConfigFault.TheVariants.{NotToml}
use Rattle.spool_config.specs.Told.{TellsConfig}
use Rattle.spool_config.specs.Faults.{faults_of}

-- the document that a text is, if it is one
abbrev pub document_of : List ℕ → Option Members
document_of text = if is_utf8 text then parse_document text else None

-- the first fault of a document, or that there is none
abbrev pub first_fault : Option Members → Option ConfigFault
first_fault None = Some NotToml
first_fault (Some document) = slice_get (faults_of document) 0

-- the fault of a text, if it has one
abbrev pub fault_of : List ℕ → Option ConfigFault
fault_of text = first_fault (document_of text)

-- the text is a document that tells this configuration
abbrev pub GivesConfig : List ℕ → C.Config → Type 0
GivesConfig text c = (document : Members) × (document_of text ≡ Some document) × TellsConfig document c
