-- The lines that a script prints.
use Rattle.std.specs.Prelude.{ℕ, List, [], ◌++◌, codes}
use Rattle.std.specs.Fmt.{decimal}
use Rattle.hex.specs.Hex.{encode_lower}
use Rattle.account.specs.declared.entry.Progress.{Progress}
use Rattle.account.specs.declared.entry.Progress.TheVariants.{Going, Done, Ended}
use Rattle.spool_trace.specs.declared.reply.ShownPage.{ShownPage}
use Rattle.spool_trace.specs.declared.reply.Given.{Given}
use Rattle.spool_trace.specs.declared.reply.Given.TheVariants as given
use Rattle.script_lines.specs.declared.texts.Stop.{Stop}
use Rattle.script_lines.specs.declared.texts.Stop.TheVariants as stop

-- session S
abbrev pub session_line : ℕ → List ℕ
session_line session = codes "session " ++ decimal session ++ codes "\n"

-- S: and what is told of the session
abbrev pub of_session : ℕ → List ℕ → List ℕ
of_session session told = decimal session ++ codes ": " ++ told ++ codes "\n"

abbrev pub broken_line : ℕ → List ℕ
broken_line session = of_session session (codes "broken")

abbrev pub gone_line : ℕ → List ℕ
gone_line session = of_session session (codes "gone")

-- what a session wrote, in hexadecimal, or - where it wrote nothing
abbrev pub shown_written : List ℕ → List ℕ
shown_written [] = codes "-"
shown_written octets = encode_lower octets

abbrev pub shown_stop : Stop → List ℕ
shown_stop stop.Waiting = []
shown_stop stop.Later = codes " later"
shown_stop stop.Over = codes " ended"

-- what a session wrote in its turns, and why they stopped
abbrev pub turns_line : ℕ → List ℕ → Stop → List ℕ
turns_line session written stop = of_session session (shown_written written ++ shown_stop stop)

-- printer P: and what is told of the printer
abbrev pub of_printer : ℕ → List ℕ → List ℕ
of_printer printer told = codes "printer " ++ decimal printer ++ codes ": " ++ told ++ codes "\n"

abbrev pub shown_page : ShownPage → List ℕ
shown_page page =
    codes "job " ++ decimal page.job ++ codes " place " ++ decimal page.place ++ codes " "
    ++ encode_lower page.octets

abbrev pub shown_given : Given → List ℕ
shown_given (given.Page page) = shown_page page
shown_given given.Nothing = codes "nothing"
shown_given given.Stopped = codes "stopped"
shown_given given.Busy = codes "busy"
shown_given given.Closed = codes "closed"

abbrev pub given_line : ℕ → Given → List ℕ
given_line printer given = of_printer printer (shown_given given)

abbrev pub shown_progress : Progress → List ℕ
shown_progress Going = codes "going"
shown_progress Done = codes "done"
shown_progress Ended = codes "ended"

abbrev pub progress_line : ℕ → Progress → List ℕ
progress_line printer progress = of_printer printer (shown_progress progress)

abbrev pub no_page_line : ℕ → List ℕ
no_page_line printer = of_printer printer (codes "no page")

abbrev pub free_line : ℕ → List ℕ
free_line free = codes "free " ++ decimal free ++ codes "\n"

abbrev pub closed_line : List ℕ
closed_line = codes "closed\n"
