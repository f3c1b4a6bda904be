-- What `check` prints of what a server has in the system's files.
use Rattle.std.specs.Prelude.{◌++◌, ℕ, List, codes}
use Rattle.std.specs.Fmt.{decimal}
use Rattle.account_folder.specs.declared.looking.AccountState.{AccountState}
use Rattle.account_folder.specs.declared.looking.AccountState.TheVariants as account
use Rattle.job_disk.specs.declared.looking.FolderState.{FolderState}
use Rattle.job_disk.specs.declared.looking.FolderState.TheVariants.{Absent, Present}

-- that it would be made, or how many jobs wait in it and how many have failed
abbrev pub folder_line : List ℕ → FolderState → List ℕ
folder_line path Absent = codes "spool " ++ path ++ codes " will be made\n"
folder_line path (Present waiting failed) =
    codes "spool " ++ path ++ codes " waiting " ++ decimal waiting ++ codes " failed "
    ++ decimal failed ++ codes "\n"

-- that a folder of an account would be made, or how many segments are in it
abbrev pub account_line : List ℕ → AccountState → List ℕ
account_line path account.Absent = codes "account " ++ path ++ codes " will be made\n"
account_line path (account.Present segments) =
    codes "account " ++ path ++ codes " segments " ++ decimal segments ++ codes "\n"

-- that the directory of printers' files is there
abbrev pub out_line : List ℕ → List ℕ
out_line path = codes "out " ++ path ++ codes " is there\n"

-- that a control socket could be made
abbrev pub socket_line : List ℕ → List ℕ
socket_line path = codes "control " ++ path ++ codes " will be made\n"
