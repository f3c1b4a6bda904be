-- What a job must be to be sent.
use Rattle.std.specs.Prelude.{ℕ, Bool, ◌==◌, ◌&&◌, nat_lt, nat_le, List, length}
use Rattle.std.specs.List.{list_all}
use Rattle.lpd_values.specs.Name.{is_control_name, is_data_name, number_of}
use Rattle.lpd_values.specs.declared.limits.TheConstants.{MAX_CONTROL_TEXT, MAX_FILES}
use Rattle.lpd_commands.specs.Written.{command_has_line}
use Rattle.lpd_commands.specs.declared.command.Command.TheVariants.{Receive}
use Rattle.control_file.specs.Written.{control_text}
use Rattle.control_file.specs.View.{contents}
use Rattle.control_file.specs.declared.control.Control.{Control}
use Rattle.lpr_client.specs.declared.file.DataFile.{DataFile}

-- the name is one of a control file, with this one's number
abbrev pub is_named : List ℕ → Control → Bool
is_named name control = is_control_name name && number_of name == control.number

-- the name is one of a data file, and the file isn't empty
abbrev pub is_sendable_file : DataFile → Bool
is_sendable_file file = is_data_name file.name && nat_lt 0 (length file.octets)

-- The queue is a word of at most 1,022 octets, the name is the control file's, its text isn't too long, there are no
-- more files than a job may have, and each is one that can be sent.
abbrev pub is_sendable : List ℕ → List ℕ → Control → List DataFile → Bool
is_sendable queue name control files =
    command_has_line (Receive queue) && is_named name control
    && (nat_le (length (control_text (contents control))) MAX_CONTROL_TEXT
    && nat_le (length files) MAX_FILES && list_all is_sendable_file files)
