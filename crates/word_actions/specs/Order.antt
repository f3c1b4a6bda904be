-- What is done with files, and which fault comes first.
use Rattle.std.specs.Prelude.{◌≡◌, ◌⊎◌, ◌<◌, ℕ, List, Option, Some, Result, Ok, Err, length, map}
use Rattle.config_values.specs.Config as C
use Rattle.lpd_commands.specs.Ends.{Writes, one_more}
use Rattle.lpd_script.specs.Streams.{HasGivenAll}
use Rattle.lpd_script.specs.declared.fault.Fault.TheVariants as script
use Rattle.word_actions.specs.declared.fault.ActionFault.{ActionFault}
use Rattle.word_actions.specs.declared.fault.ActionFault.TheVariants.{Memory, Places, Run}
use Rattle.printer_names.specs.Placing.{ArePlaced}
use Rattle.word_actions.specs.Status.{status_of}
use Rattle.word_actions.specs.Summary.{check_text, out_of}
use Rattle.word_actions.specs.declared.files.ReadSpool.{ReadSpool}
use Rattle.program_edge.specs.declared.places.PlacedPrinter.{PlacedPrinter}
use Rattle.program_words.specs.declared.checking.Checking.{Checking}
use Rattle.spool_config.specs.Places.{places_told, told_view}
use Rattle.spool_config.specs.Answers.{GivesConfig, fault_of}
use Rattle.spool_config.specs.declared.settings.ConfigFault.{ConfigFault}
use Rattle.spool_config.specs.declared.settings.ConfigFault.TheVariants as config

-- all of a text was read, and it gives this configuration
abbrev pub ReadsConfig : (left rest : Option (List ℕ)) → C.Config → Type 0
ReadsConfig left rest due =
    (text : List ℕ) × HasGivenAll left rest text × GivesConfig text due

-- a file can't be read, memory was refused, or all of a text was read and this is its first fault
abbrev pub IsConfigFault : (left rest : Option (List ℕ)) → ActionFault → Type 0
IsConfigFault left rest (Run (script.Config config.Memory)) = Unit {0}
IsConfigFault left rest (Run (script.Config fault)) =
    (text : List ℕ) × HasGivenAll left rest text × (fault_of text ≡ Some fault)
IsConfigFault left rest fault =
    (fault ≡ Run script.ReadFile) ⊎ (fault ≡ Run script.Memory)

-- all of a text was read, and it gives this configuration and says this of its printers
abbrev pub ReadsSpool : (left rest : Option (List ℕ)) → ReadSpool → Type 0
ReadsSpool left rest spool =
    (text : List ℕ) × HasGivenAll left rest text × GivesConfig text spool.config
    × (places_told text ≡ Ok (map told_view spool.told.items))

-- all of a text was read and this is why it doesn't say anything of its printers, or a fault as above
abbrev pub IsSpoolFault : (left rest : Option (List ℕ)) → ActionFault → Type 0
IsSpoolFault left rest (Places fault) =
    (text : List ℕ) × HasGivenAll left rest text × (places_told text ≡ Err fault)
IsSpoolFault left rest Memory = Unit {0}
IsSpoolFault left rest fault = IsConfigFault left rest fault

-- all of a text was read, it gives this spool, and what is said of it and its printers was written
abbrev pub Checked : Checking → (left rest was now : Option (List ℕ)) → ReadSpool → Type 0
Checked checking left rest was now spool =
    ReadsSpool left rest spool
    × ((printers : List PlacedPrinter) × ArePlaced spool.config (map told_view spool.told.items) checking.printers.items printers
    × Writes was now (check_text spool.config checking.sizes (out_of checking.out) printers))

-- words are wrong only where there are some that name printers, and nothing was written then
abbrev pub IsUnchecked : Checking → (was now : Option (List ℕ)) → ActionFault → Type 0
IsUnchecked checking was now fault =
    status_of fault ≡ 1 → (0 < length checking.printers.items) × (now ≡ was)

-- what may be told of a configuration with this first fault: that a file can't be read, the fault, or want of memory
abbrev pub StopsAt : {A : Type 0} → ConfigFault → Result A ActionFault → Type 0
StopsAt due result =
    (result ≡ Err (Run script.ReadFile)) ⊎ (result ≡ Err (Run script.Memory))
    ⊎ (result ≡ Err (Run (script.Config due))) ⊎ (result ≡ Err (Run (script.Config config.Memory)))

-- a writer's faults after a result: one more where writing is what failed
abbrev pub write_faults : {A : Type 0} → ℕ → Result A ActionFault → ℕ
write_faults n (Err (Run script.WriteFile)) = one_more n
write_faults n _ = n
