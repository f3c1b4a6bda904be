-- What a client sends, cut at the acknowledgements (RFC 1179, sections 5.2, 6.2 and 6.3).
use Rattle.std.specs.Prelude.{◌<◌, ◌^◌, ℕ, List, [], ◌∷◌, ◌++◌, length}
use Rattle.std.specs.List.{concat}
use Rattle.lpd_values.specs.declared.limits.TheConstants.{MAX_COUNT_DIGITS}
use Rattle.lpd_commands.specs.declared.command.Command.TheVariants.{Receive}
use Rattle.lpd_commands.specs.declared.sub.Sub.{Sub}
use Rattle.lpd_commands.specs.declared.sub.Sub.TheVariants as sub
use Rattle.lpr_client.specs.declared.file.DataFile.{DataFile}
use Rattle.lpd_commands.specs.Written.{command_line, sub_line}

-- the length of each file has at most MAX_COUNT_DIGITS digits
abbrev pub AreCounted : List DataFile → Type 0
AreCounted [] = Unit {0}
AreCounted (file ∷ files) = (length file.octets < 10 ^ MAX_COUNT_DIGITS) × AreCounted files

-- contents as they are sent
abbrev pub zeroed : List ℕ → List ℕ
zeroed contents = contents ++ 0 ∷ []

-- a subcommand's line as it is sent
abbrev pub sub_sent : Sub → List ℕ
sub_sent subcommand = sub_line subcommand ++ 10 ∷ []

-- a data file: the line of its subcommand, and its contents with an octet 00
abbrev pub file_parts : DataFile → List (List ℕ)
file_parts file =
    sub_sent (sub.DataFile (length file.octets) file.name) ∷ zeroed file.octets ∷ []

-- data files, in order
abbrev pub data_parts : List DataFile → List (List ℕ)
data_parts [] = []
data_parts (file ∷ files) = file_parts file ++ data_parts files

-- the control file of this name and text, in the same way
abbrev pub control_parts : List ℕ → List ℕ → List (List ℕ)
control_parts name text = sub_sent (sub.ControlFile (length text) name) ∷ zeroed text ∷ []

-- a job: the line that asks to send it, its data files, and its control file
abbrev pub job_parts : List ℕ → List ℕ → List ℕ → List DataFile → List (List ℕ)
job_parts queue name text files =
    (command_line (Receive queue) ++ 10 ∷ []) ∷ (data_parts files ++ control_parts name text)

-- all octets of a job
abbrev pub job_octets : List ℕ → List ℕ → List ℕ → List DataFile → List ℕ
job_octets queue name text files = concat (job_parts queue name text files)
