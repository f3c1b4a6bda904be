-- Why words ask for nothing.
use Rattle.std.specs.Prelude.{◌≡◌, ◌≢◌, ◌⊎◌, ◌<◌, ◌&&◌, ◌++◌, ◌∷◌, ℕ, Bool, false, nat_le, List, []}
use Rattle.std.specs.Prelude.{Option, Some, None, length, codes, string_bytes}
use Rattle.std.specs.List.{AllZip, Any, join_with_byte, list_all}
use Rattle.std.specs.declared.net.ipv4_addr.Ipv4Addr.{Ipv4Addr}
use Rattle.account_text.specs.Reading.{digest_of}
use Rattle.clap.specs.Words.{IsAmong, Kinds, Row, Text, all_of, fault_of, first_of, subcommand_of}
use Rattle.clap.specs.declared.error.kind.ErrorKind.{ErrorKind}
use Rattle.clap.specs.declared.error.kind.ErrorKind.TheVariants.{DisplayHelp, DisplayVersion}
use Rattle.clap.specs.declared.error.kind.ErrorKind.TheVariants.{OutOfMemory}
use Rattle.control_lines.specs.Commands.{Refuses}
use Rattle.control_lines.specs.declared.command.CommandFault.TheVariants as line
use Rattle.lpd_commands.specs.Written.{command_has_line}
use Rattle.lpd_commands.specs.declared.command.Command.{Command}
use Rattle.lpd_commands.specs.declared.command.Command.TheVariants.{Receive}
use Rattle.lpd_values.specs.Kept.{is_operand}
use Rattle.lpd_values.specs.Kinds.{is_word_octet}
use Rattle.lpd_values.specs.declared.limits.TheConstants.{MAX_FILES}
use Rattle.program_words.specs.Asked.{ChecksPrinters, IsAsked}
use Rattle.program_words.specs.Auditing.{grouping_name}
use Rattle.program_words.specs.Checking.{IsChecking}
use Rattle.account_usage.specs.declared.grouping.Grouping.{Grouping}
use Rattle.segment_text.specs.Reading.{is_time}
use Rattle.program_words.specs.declared.checking.Checking.{Checking}
use Rattle.program_words.specs.Serving.{AreLimits, AreNetworks, HaveDifferentNames, ArePrinterLimits, IsLog}
use Rattle.program_edge.specs.declared.settings.TheConstants.{MOST_CONTROL_PATH}
use Rattle.program_words.specs.Values.{HasNoNumber, IsAddress, IsGiven, IsGivenOr, IsLimit}
use Rattle.program_words.specs.Asked.{IsControlRequest, IsSending}
use Rattle.program_words.specs.Questions.{IsQuery, IsQuestion}
use Rattle.program_words.specs.Serving.{IsServing}
use Rattle.program_words.specs.CommandLine.{command_line}
use Rattle.program_words.specs.declared.word_fault.WordFault.{WordFault}
use Rattle.program_words.specs.declared.word_fault.WordFault.TheVariants as faults
use Rattle.program_words.specs.declared.control_request.ControlRequest.{ControlRequest}
use Rattle.program_words.specs.declared.queue_question.QueueQuestion.{QueueQuestion}
use Rattle.program_words.specs.declared.words.Ask.{Ask}
use Rattle.program_words.specs.declared.words.Sending.{Sending}
use Rattle.program_words.specs.declared.words.Unread.{Unread}
use Rattle.program_words.specs.declared.words.Unread.TheVariants.{Shown, Refused, Memory}
use Rattle.program_edge.specs.Networks.{IsNetworkText}
use Rattle.program_edge.specs.declared.networks.Network.{Network}
use Rattle.printer_names.specs.Texts.{IsNamedText}
use Rattle.program_edge.specs.StatusPlaces.{IsHostName, IsStatusText}
use Rattle.printer_names.specs.declared.named.NamedPrinter.{NamedPrinter}
use Rattle.program_edge.specs.declared.settings.Limits.{Limits}
use Rattle.program_edge.specs.declared.settings.LogForm.{LogForm}
use Rattle.program_edge.specs.declared.settings.PrinterLimits.{PrinterLimits}
use Rattle.program_words.specs.declared.serving.ServeRequest.{ServeRequest}
use Rattle.program_edge.specs.declared.status.StatusPlace.{StatusPlace}

-- a host that can stand in the names of files: 1 to 120 octets of words
abbrev pub is_host : List ℕ → Bool
is_host host = nat_le 1 (length host) && nat_le (length host) 120 && list_all is_word_octet host

-- a host doesn't fit, or memory was refused
abbrev pub IsHostFault : List ℕ → WordFault → Type 0
IsHostFault host faults.Host = is_host host ≡ false
IsHostFault host faults.Memory = Unit {0}
IsHostFault host fault = ⊥

-- what is wrong with the words of a job
abbrev pub IsWrong : Sending → WordFault → Type 0
IsWrong s faults.Queue = command_has_line (Receive s.queue.now) ≡ false
IsWrong s faults.Host = is_host s.host.now ≡ false
IsWrong s faults.User = is_operand s.user.now ≡ false
IsWrong s faults.Files =
    (length s.files.items ≡ 0) ⊎ (MAX_FILES < length s.files.items)
IsWrong s faults.Number = 999 < s.number
IsWrong s faults.Address = ⊥
IsWrong s faults.Server = ⊥
IsWrong s faults.Line = ⊥
IsWrong s (faults.Network text) = ⊥
IsWrong s (faults.Control text) = ⊥
IsWrong s (faults.Log text) = ⊥
IsWrong s (faults.Digest text) = ⊥
IsWrong s (faults.Grouping text) = ⊥
IsWrong s (faults.Time text) = ⊥
IsWrong s (faults.Status text) = ⊥
IsWrong s (faults.StatusHost text) = ⊥
IsWrong s faults.NoStatus = ⊥
IsWrong s (faults.Printer text) = ⊥
IsWrong s (faults.PrinterTwice text) = ⊥
IsWrong s faults.Command = ⊥
IsWrong s faults.Missing = ⊥
IsWrong s faults.Memory = Unit {0}

-- no address is given by a text that is one, nor left out
abbrev pub HasNoAddress : Text → List Row → Type 0
HasNoAddress id rows = (address : Ipv4Addr) → IsAddress id rows address → ⊥

-- the port of a server isn't there, or its address is none
abbrev pub LacksServer : List Row → WordFault → Type 0
LacksServer rows faults.Missing = HasNoNumber rows (codes "port")
LacksServer rows faults.Server = HasNoAddress (codes "server") rows
LacksServer rows fault = ⊥

-- the words of a job aren't all there, its server's address is none, or memory was refused
abbrev pub LacksWords : List Row → WordFault → Type 0
LacksWords rows faults.Missing = (s : Sending) → IsSending rows s → ⊥
LacksWords rows faults.Server = LacksServer rows faults.Server
LacksWords rows faults.Memory = Unit {0}
LacksWords rows fault = ⊥

-- a server is asked for something by the command of this name
abbrev pub Asks : Text → List Row → Type 0
Asks name rows = (command : Command) × IsQuery name rows command

-- the words of what a server is asked for aren't all there, or memory was refused
abbrev pub LacksQuery : Text → List Row → WordFault → Type 0
LacksQuery name rows faults.Missing = (command : Command) → IsQuery name rows command → ⊥
LacksQuery name rows faults.Memory = Unit {0}
LacksQuery name rows fault = ⊥

-- what a server is asked for has no line
abbrev pub LacksLine : Text → List Row → Type 0
LacksLine name rows =
    (command : Command) × IsQuery name rows command × (command_has_line command ≡ false)

-- the words of a question aren't all there, or are wrong
abbrev pub LacksQuestion : Text → List Row → WordFault → Type 0
LacksQuestion name rows faults.Missing =
    (question : QueueQuestion) → IsQuestion name rows question → ⊥
LacksQuestion name rows faults.Line = LacksLine name rows
LacksQuestion name rows faults.Server = Asks name rows × HasNoAddress (codes "server") rows
LacksQuestion name rows faults.Memory = Unit {0}
LacksQuestion name rows fault = ⊥

-- an option is there, and no number of 64 bits
abbrev pub HasNoCount : List Row → Text → Type 0
HasNoCount rows id = (count : Option ℕ) → IsGiven 64 rows id count → ⊥

-- an option is there, and no number above 0 of 64 bits
abbrev pub HasNoLimit : List Row → Text → Type 0
HasNoLimit rows id = (limit : Option ℕ) → IsLimit rows id limit → ⊥

-- what a server's peers may do isn't given by numbers above 0
abbrev pub HasNoLimits : List Row → Type 0
HasNoLimits rows = (limits : Limits) → AreLimits rows limits → ⊥

-- a text names no network, and so an option names none; or memory was refused
abbrev pub HasNoNetworks : List Row → Text → WordFault → Type 0
HasNoNetworks rows name (faults.Network text) =
    ((network : Network) → IsNetworkText (string_bytes text) network → ⊥)
    × ((networks : List Network) → AreNetworks rows name networks → ⊥)
HasNoNetworks rows name faults.Memory = Unit {0}
HasNoNetworks rows name fault = ⊥

-- so it is of one of the two options of a server that name networks
abbrev pub HasNoServersNetworks : List Row → WordFault → Type 0
HasNoServersNetworks rows fault =
    HasNoNetworks rows (codes "allow") fault ⊎ HasNoNetworks rows (codes "proxied") fault

-- the path of a control socket that this word gives is this text, which is longer than one may be
abbrev pub IsTooLong : Text → List Row → Text → Type 0
IsTooLong id rows path = (first_of id rows ≡ Some path) × (MOST_CONTROL_PATH < length path)

-- the path of a server's control socket is too long, or memory was refused
abbrev pub HasNoControl : List Row → WordFault → Type 0
HasNoControl rows (faults.Control text) = IsTooLong (codes "control") rows (string_bytes text)
HasNoControl rows faults.Memory = Unit {0}
HasNoControl rows fault = ⊥

-- a text names no form of the log's lines, and so the option names none; or memory was refused
abbrev pub HasNoLog : List Row → WordFault → Type 0
HasNoLog rows (faults.Log text) =
    (first_of (codes "log") rows ≡ Some (string_bytes text)) × ((form : LogForm) → IsLog rows form → ⊥)
HasNoLog rows faults.Memory = Unit {0}
HasNoLog rows fault = ⊥

-- a text names no place for the status, and so the option names none; or memory was refused
abbrev pub HasNoStatus : List Row → WordFault → Type 0
HasNoStatus rows (faults.Status text) =
    (first_of (codes "status") rows ≡ Some (string_bytes text))
    × ((place : StatusPlace) → IsStatusText (string_bytes text) place → ⊥)
HasNoStatus rows faults.Memory = Unit {0}
HasNoStatus rows fault = ⊥

-- the name by which the status may be asked for is none, or it is shown nowhere; or memory was refused
abbrev pub HasNoStatusHost : List Row → WordFault → Type 0
HasNoStatusHost rows (faults.StatusHost text) =
    (first_of (codes "status-host") rows ≡ Some (string_bytes text)) × (IsHostName (string_bytes text) → ⊥)
HasNoStatusHost rows faults.NoStatus =
    (first_of (codes "status-host") rows ≢ None) × (first_of (codes "status") rows ≡ None)
HasNoStatusHost rows faults.Memory = Unit {0}
HasNoStatusHost rows fault = ⊥

-- the option for printers gives this text behind others, which say this of printers, by each name once
abbrev pub IsBehind : List Row → List NamedPrinter → Text → Type 0
IsBehind rows printers text =
    (before : List Text) × (behind : List Text)
    × (all_of (codes "printer") rows ≡ Some (before ++ text ∷ behind))
    × AllZip IsNamedText before printers × HaveDifferentNames printers

-- the first text that says nothing of a printer, or has the name of one before it; or memory was refused
abbrev pub HasNoPrinters : List Row → WordFault → Type 0
HasNoPrinters rows (faults.Printer text) =
    (before : List NamedPrinter) × IsBehind rows before (string_bytes text)
    × ((said : NamedPrinter) → IsNamedText (string_bytes text) said → ⊥)
HasNoPrinters rows (faults.PrinterTwice text) =
    (before : List NamedPrinter) × IsBehind rows before (string_bytes text)
    × ((said : NamedPrinter) × IsNamedText (string_bytes text) said
    × Any (λ (one : NamedPrinter). one.name.now ≡ said.name.now) before)
HasNoPrinters rows faults.Memory = Unit {0}
HasNoPrinters rows fault = ⊥

-- the words of a configuration that is checked aren't all there, or wrong
abbrev pub LacksChecking : List Row → WordFault → Type 0
LacksChecking rows faults.Missing = (checking : Checking) → IsChecking rows checking → ⊥
LacksChecking rows (faults.Control text) = HasNoControl rows (faults.Control text)
LacksChecking rows (faults.Printer text) = HasNoPrinters rows (faults.Printer text)
LacksChecking rows (faults.PrinterTwice text) = HasNoPrinters rows (faults.PrinterTwice text)
LacksChecking rows faults.Memory = Unit {0}
LacksChecking rows fault = ⊥

-- what a printer on the network may do isn't given by numbers above 0
abbrev pub HasNoPrinterLimits : List Row → Type 0
HasNoPrinterLimits rows = (limits : PrinterLimits) → ArePrinterLimits rows limits → ⊥

-- the sessions of a server are there, and no number of 32 bits
abbrev pub HasNoSessions : List Row → Type 0
HasNoSessions rows = (sessions : ℕ) → IsGivenOr 8 rows (codes "sessions") sessions → ⊥

-- the words of a server aren't all there, or its address isn't one
abbrev pub LacksServing : List Row → WordFault → Type 0
LacksServing rows faults.Address = HasNoAddress (codes "bind") rows
LacksServing rows faults.Missing = (request : ServeRequest) → IsServing rows request → ⊥
LacksServing rows (faults.Network text) = HasNoServersNetworks rows (faults.Network text)
LacksServing rows (faults.Control text) = HasNoControl rows (faults.Control text)
LacksServing rows (faults.Log text) = HasNoLog rows (faults.Log text)
LacksServing rows (faults.Status text) = HasNoStatus rows (faults.Status text)
LacksServing rows (faults.StatusHost text) = HasNoStatusHost rows (faults.StatusHost text)
LacksServing rows faults.NoStatus = HasNoStatusHost rows faults.NoStatus
LacksServing rows (faults.Printer text) = HasNoPrinters rows (faults.Printer text)
LacksServing rows (faults.PrinterTwice text) = HasNoPrinters rows (faults.PrinterTwice text)
LacksServing rows faults.Memory = Unit {0}
LacksServing rows fault = ⊥

-- words ask to serve, and give no address
abbrev pub NamesNoAddress : Option (Text × List Row) → Type 0
NamesNoAddress None = ⊥
NamesNoAddress (Some met) = (met.0 ≡ codes "serve") × HasNoAddress (codes "bind") met.1

-- words ask to send a job or ask a server for something, and name no server
abbrev pub NamesNoServer : Option (Text × List Row) → Type 0
NamesNoServer None = ⊥
NamesNoServer (Some met) =
    ((met.0 ≡ codes "send") ⊎ Asks met.0 met.1) × HasNoAddress (codes "server") met.1

-- words ask a server for something that has no line
abbrev pub NamesNoLine : Option (Text × List Row) → Type 0
NamesNoLine None = ⊥
NamesNoLine (Some met) = LacksLine met.0 met.1

-- words ask to serve, and name no networks
abbrev pub NamesNoNetworks : Option (Text × List Row) → WordFault → Type 0
NamesNoNetworks None fault = ⊥
NamesNoNetworks (Some met) fault = (met.0 ≡ codes "serve") × HasNoServersNetworks met.1 fault

-- words ask to serve or to check, and say nothing of a printer, or twice of one
abbrev pub NamesNoPrinters : Option (Text × List Row) → WordFault → Type 0
NamesNoPrinters None fault = ⊥
NamesNoPrinters (Some met) fault =
    ((met.0 ≡ codes "serve") ⊎ (met.0 ≡ codes "check")) × HasNoPrinters met.1 fault

-- the path of the control socket that a command is sent to isn't there or too long, or memory was refused
abbrev pub HasNoPath : List Row → WordFault → Type 0
HasNoPath rows (faults.Control text) = IsTooLong (codes "path") rows (string_bytes text)
HasNoPath rows faults.Missing = first_of (codes "path") rows ≡ None
HasNoPath rows faults.Memory = Unit {0}
HasNoPath rows fault = ⊥

-- the words that are sent aren't there or are no command, or memory was refused
abbrev pub HasNoCommand : List Row → WordFault → Type 0
HasNoCommand rows faults.Command =
    (words : List Text) × (all_of (codes "word") rows ≡ Some words) × Refuses (join_with_byte 32 words) line.Unknown
HasNoCommand rows faults.Missing = all_of (codes "word") rows ≡ None
HasNoCommand rows faults.Memory = Unit {0}
HasNoCommand rows fault = ⊥

-- the words of a command for a server aren't all there, or are wrong
abbrev pub LacksRequest : List Row → WordFault → Type 0
LacksRequest rows faults.Missing = (request : ControlRequest) → IsControlRequest rows request → ⊥
LacksRequest rows (faults.Control text) = HasNoPath rows (faults.Control text)
LacksRequest rows faults.Command = HasNoCommand rows faults.Command
LacksRequest rows faults.Memory = Unit {0}
LacksRequest rows fault = ⊥

-- an option is there, and its text is no digest; or memory was refused
abbrev pub HasNoDigest : Text → List Row → WordFault → Type 0
HasNoDigest id rows (faults.Digest text) =
    (first_of id rows ≡ Some (string_bytes text)) × (digest_of (string_bytes text) ≡ None)
HasNoDigest id rows faults.Memory = Unit {0}
HasNoDigest id rows fault = ⊥

-- an option is there, and its text is no time; or memory was refused
abbrev pub HasNoTime : Text → List Row → WordFault → Type 0
HasNoTime id rows (faults.Time text) =
    (first_of id rows ≡ Some (string_bytes text))
    × (is_time (string_bytes text) ≡ false)
HasNoTime id rows faults.Memory = Unit {0}
HasNoTime id rows fault = ⊥

-- the option for what usage is told by is there, and its text names nothing; or memory was refused
abbrev pub HasNoGrouping : List Row → WordFault → Type 0
HasNoGrouping rows (faults.Grouping text) =
    (first_of (codes "by") rows ≡ Some (string_bytes text))
    × ((by : Grouping) → string_bytes text ≡ grouping_name by → ⊥)
HasNoGrouping rows faults.Memory = Unit {0}
HasNoGrouping rows fault = ⊥

-- the words of an audit aren't all there, or are wrong
abbrev pub LacksAudit : List Row → WordFault → Type 0
LacksAudit rows faults.Missing = all_of (codes "file") rows ≡ None
LacksAudit rows (faults.Digest text) =
    HasNoDigest (codes "after") rows (faults.Digest text) ⊎ HasNoDigest (codes "ends") rows (faults.Digest text)
LacksAudit rows faults.Memory = Unit {0}
LacksAudit rows fault = ⊥

-- the words of what is asked of use aren't all there, or are wrong
abbrev pub LacksUsage : List Row → WordFault → Type 0
LacksUsage rows faults.Missing = all_of (codes "file") rows ≡ None
LacksUsage rows (faults.Grouping text) = HasNoGrouping rows (faults.Grouping text)
LacksUsage rows (faults.Time text) =
    HasNoTime (codes "since") rows (faults.Time text) ⊎ HasNoTime (codes "until") rows (faults.Time text)
LacksUsage rows faults.Memory = Unit {0}
LacksUsage rows fault = ⊥

-- words ask for an audit, and an option of it gives no digest
abbrev pub NamesNoDigest : Option (Text × List Row) → WordFault → Type 0
NamesNoDigest None fault = ⊥
NamesNoDigest (Some met) fault = (met.0 ≡ codes "audit") × LacksAudit met.1 fault

-- words ask what was used, and an option of it names nothing to tell it by, or gives no time
abbrev pub NamesNoUsage : Option (Text × List Row) → WordFault → Type 0
NamesNoUsage None fault = ⊥
NamesNoUsage (Some met) fault = (met.0 ≡ codes "usage") × LacksUsage met.1 fault

-- words ask to serve or to check, and name a control socket that can't be, or to send a command to one that can't be
abbrev pub NamesNoControl : Option (Text × List Row) → WordFault → Type 0
NamesNoControl None fault = ⊥
NamesNoControl (Some met) fault =
    (((met.0 ≡ codes "serve") ⊎ (met.0 ≡ codes "check")) × HasNoControl met.1 fault)
    ⊎ ((met.0 ≡ codes "control") × HasNoPath met.1 fault)

-- words ask to serve, and name no form of the log's lines
abbrev pub NamesNoLog : Option (Text × List Row) → WordFault → Type 0
NamesNoLog None fault = ⊥
NamesNoLog (Some met) fault = (met.0 ≡ codes "serve") × HasNoLog met.1 fault

-- words ask to serve, and name no place for the status
abbrev pub NamesNoStatus : Option (Text × List Row) → WordFault → Type 0
NamesNoStatus None fault = ⊥
NamesNoStatus (Some met) fault = (met.0 ≡ codes "serve") × HasNoStatus met.1 fault

-- words ask to serve, and name no host for the status, or one for none
abbrev pub NamesNoStatusHost : Option (Text × List Row) → WordFault → Type 0
NamesNoStatusHost None fault = ⊥
NamesNoStatusHost (Some met) fault = (met.0 ≡ codes "serve") × HasNoStatusHost met.1 fault

-- words ask to send a command that is none
abbrev pub NamesNoCommand : Option (Text × List Row) → WordFault → Type 0
NamesNoCommand None fault = ⊥
NamesNoCommand (Some met) fault = (met.0 ≡ codes "control") × HasNoCommand met.1 fault

-- words ask to send a job, and this is wrong with its words
abbrev pub NamesNoJob : Option (Text × List Row) → WordFault → Type 0
NamesNoJob None fault = ⊥
NamesNoJob (Some met) fault =
    (met.0 ≡ codes "send") × ((s : Sending) × IsSending met.1 s × IsWrong s fault)

-- why what clap reads of words asks for nothing: a word isn't there, or those of a job, a question, a server, a command
-- for one, an audit or of what is asked of use are wrong
abbrev pub AsksNothing : Option (Text × List Row) → WordFault → Type 0
AsksNothing met faults.Address = NamesNoAddress met
AsksNothing met faults.Server = NamesNoServer met
AsksNothing met faults.Line = NamesNoLine met
AsksNothing met (faults.Network text) = NamesNoNetworks met (faults.Network text)
AsksNothing met (faults.Control text) = NamesNoControl met (faults.Control text)
AsksNothing met (faults.Log text) = NamesNoLog met (faults.Log text)
AsksNothing met (faults.Status text) = NamesNoStatus met (faults.Status text)
AsksNothing met (faults.StatusHost text) = NamesNoStatusHost met (faults.StatusHost text)
AsksNothing met faults.NoStatus = NamesNoStatusHost met faults.NoStatus
AsksNothing met (faults.Printer text) = NamesNoPrinters met (faults.Printer text)
AsksNothing met (faults.PrinterTwice text) = NamesNoPrinters met (faults.PrinterTwice text)
AsksNothing met faults.Command = NamesNoCommand met faults.Command
AsksNothing met (faults.Digest text) = NamesNoDigest met (faults.Digest text)
AsksNothing met (faults.Grouping text) = NamesNoUsage met (faults.Grouping text)
AsksNothing met (faults.Time text) = NamesNoUsage met (faults.Time text)
AsksNothing met faults.Memory = Unit {0}
AsksNothing met faults.Missing = (asked : Ask) → IsAsked met asked → ⊥
AsksNothing met fault = NamesNoJob met fault

-- clap finds a mistake in words: not that they ask for help or the version
abbrev pub IsMistake : Kinds → Type 0
IsMistake kinds =
    (kind : ErrorKind) × IsAmong kind kinds × (kind ≢ DisplayHelp) × (kind ≢ DisplayVersion)

-- words ask for help or the version
abbrev pub IsToShow : Kinds → Type 0
IsToShow kinds = IsAmong DisplayHelp kinds ⊎ IsAmong DisplayVersion kinds

-- clap takes words, or they ask for help or the version
abbrev pub IsTaken : List Text → Type 0
IsTaken words =
    (fault_of command_line words ≡ []) ⊎ IsToShow (fault_of command_line words)

-- words can't be read: clap finds a mistake, or finds none and they ask for nothing
abbrev pub IsRefused : List Text → Type 0
IsRefused words =
    IsMistake (fault_of command_line words)
    ⊎ ((fault_of command_line words ≡ []) × ((fault : WordFault) × (fault ≢ faults.Memory)
    × AsksNothing (subcommand_of command_line words) fault))

-- words ask to check a configuration, and say something of printers
abbrev pub AsksOfPrinters : List Text → Type 0
AsksOfPrinters words =
    (asked : Ask) × IsAsked (subcommand_of command_line words) asked × ChecksPrinters asked

-- what an error of clap comes to, by its kind
abbrev pub IsUnreadBy : ErrorKind → Unread → Type 0
IsUnreadBy kind (Shown text) = (kind ≡ DisplayHelp) ⊎ (kind ≡ DisplayVersion)
IsUnreadBy kind (Refused text) =
    (kind ≢ OutOfMemory) × (kind ≢ DisplayHelp) × (kind ≢ DisplayVersion)
IsUnreadBy kind Memory = Unit {0}

-- what a fault of the words comes to
abbrev pub IsUnreadFor : WordFault → Unread → Type 0
IsUnreadFor fault (Shown text) = ⊥
IsUnreadFor fault (Refused text) = fault ≢ faults.Memory
IsUnreadFor fault Memory = Unit {0}

-- why words aren't read: they ask for a text, can't be read, or memory was refused
abbrev pub IsUnread : List Text → Unread → Type 0
IsUnread words (Shown text) = IsToShow (fault_of command_line words)
IsUnread words (Refused text) = IsRefused words
IsUnread words Memory = Unit {0}

-- the system has no words to read: one isn't text, or memory was refused
abbrev pub HasNoWords : Unread → Type 0
HasNoWords (Shown text) = ⊥
HasNoWords (Refused text) = Unit {0}
HasNoWords Memory = Unit {0}
