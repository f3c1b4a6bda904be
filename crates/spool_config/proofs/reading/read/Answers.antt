use Rattle.std.proofs.Common.{◌≡◌, ◌≢◌, Some, Err, IfOk, IfErr, sym, ◌∙◌}
use Rattle.std.proofs.lemmas.Bool.{false≢true}
use Rattle.toml.specs.View.{table_view}
use Rattle.spool_config.specs.declared.settings.ConfigFault.TheVariants.{Memory, NotToml}
use Rattle.spool_config.specs.Answers.{fault_of, GivesConfig}
use Rattle.spool_config.proofs.Exact.{given_exactly, faulty_exactly}
use Rattle.spool_config.proofs.Texts.{document_there, no_document, config_given, fault_given, memory_given}
use Rattle.spool_config.proofs.reading.read.Goals as goal
use Rattle.spool_config.proofs.reading.read.Goals.{After-drop-document}

-- what the document tells is what the text gives
config : (c : After-drop-document) → IfOk c.config.result (GivesConfig c.args.text.now)
config c = config_given _ (table_view c.in-Ok.document) (document_there _ _ c.in-Ok.ensures.ok) c.config.result c.config.ensures.config

fault : (c : After-drop-document) → IfErr c.config.result (λ fault. fault ≢ Memory → fault_of c.args.text.now ≡ Some fault)
fault c = fault_given _ (table_view c.in-Ok.document) (document_there _ _ c.in-Ok.ensures.ok) c.config.result c.config.ensures.fault

pub returns-in-Ok-clause-config : goal.returns-in-Ok-clause-config
returns-in-Ok-clause-config c = config c

pub returns-in-Ok-clause-given : goal.returns-in-Ok-clause-given
returns-in-Ok-clause-given c = given_exactly c.args.text.now c.config.result (config c) (fault c)

pub returns-in-Ok-clause-fault : goal.returns-in-Ok-clause-fault
returns-in-Ok-clause-fault c = fault c

pub returns-in-Ok-clause-faulty : goal.returns-in-Ok-clause-faulty
returns-in-Ok-clause-faulty c = faulty_exactly c.args.text.now c.config.result (config c) (fault c)

pub returns-in-Ok-clause-memory : goal.returns-in-Ok-clause-memory
returns-in-Ok-clause-memory c =
    memory_given c.args.text.now (table_view c.in-Ok.document) c.in-Ok.ensures.ok c.config.result c.config.ensures.memory

not_toml : (c : goal.In-Err-2) → fault_of c.args.text.now ≡ Some NotToml
not_toml c =
    no_document c.args.text.now (c.in-Err.ensures.refused
    (λ memory. false≢true (sym c.if-is_memory.false ∙ c.is_memory.ensures.1 memory)))

pub returns-in-Err-2-clause-given : goal.returns-in-Err-2-clause-given
returns-in-Err-2-clause-given c = given_exactly c.args.text.now (Err NotToml) tt (λ other. not_toml c)

pub returns-in-Err-2-clause-fault : goal.returns-in-Err-2-clause-fault
returns-in-Err-2-clause-fault c = λ other. not_toml c

pub returns-in-Err-2-clause-faulty : goal.returns-in-Err-2-clause-faulty
returns-in-Err-2-clause-faulty c = faulty_exactly c.args.text.now (Err NotToml) tt (λ other. not_toml c)
