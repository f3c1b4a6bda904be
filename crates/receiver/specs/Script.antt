-- What follows each line of a session (RFC 1179, sections 5 and 6).
use Rattle.std.specs.Prelude.{ℕ, Bool, List, [], ◌∷◌, ◌++◌, ◌==◌, ◌||◌, nat_lt, Result, Ok, Err, Option, Some, None, if◌then◌else◌}
use Rattle.lpd_values.specs.declared.limits.TheConstants.{MAX_CONTROL_TEXT}
use Rattle.lpd_commands.specs.Line.{command_of, sub_of}
use Rattle.lpd_values.specs.Refusals.{octet_of}
use Rattle.lpd_values.specs.declared.refusal.Refusal.{Refusal}
use Rattle.lpd_values.specs.declared.refusal.Refusal.TheVariants.{BadLength}
use Rattle.lpd_commands.specs.declared.command.Command.{Command}
use Rattle.lpd_commands.specs.declared.command.Command.TheVariants as command
use Rattle.lpd_commands.specs.declared.sub.Sub.{Sub}
use Rattle.lpd_commands.specs.declared.sub.Sub.TheVariants as sub
use Rattle.lpd_values.specs.Contents.{Contents}
use Rattle.page_pool.specs.Page.{Page}

-- what a session asks of the spool, and is answered
pub data Request : Type 0 where
  -- whether the queue takes jobs
  Queue : List ℕ → Request
  -- a new job for the queue
  Open : List ℕ → Request
  -- a data file of this name, of so many octets
  BeginFile : List ℕ → ℕ → Request
  -- an empty page
  AskPage : Request
  -- to take a page of the open file
  Filled : Page → Request
  EndFile : Request
  -- to take the job's control file
  Control : Contents → Request
  AbortJob : Request
  -- to start the stopped printers of the queue
  StartPrinters : List ℕ → Request
  -- the state of the queue, for these jobs and users, in the long form or not
  QueueState : List ℕ → List (List ℕ) → Bool → Request
  -- to remove jobs of the queue, for this agent, by this list
  RemoveJobs : List ℕ → List ℕ → List (List ℕ) → Request

-- what a session writes by itself
pub data Written : Type 0 where
  -- the octet 00
  Ack : Written
  -- the octet of a refusal
  Fault : Refusal → Written

abbrev pub octet : Written → ℕ
octet Ack = 0
octet (Fault refusal) = octet_of refusal

-- what a session does
pub data Output : Type 0 where
  Wrote : Written → Output
  Asked : Request → Output

-- the octets among what a session does
abbrev pub octets_written : List Output → List ℕ
octets_written [] = []
octets_written (Wrote w ∷ os) = octet w ∷ octets_written os
octets_written (Asked r ∷ os) = octets_written os

-- an answer; of a ticket, how many octets its page takes
pub data Reply : Type 0 where
  Yes : Reply
  Ticket : ℕ → Reply
  Later : Reply
  Stored : Reply
  Received : Reply
  Refused : Refusal → Reply

-- a block is a line and then these, one after another
pub data Item : Type 0 where
  -- a request
  Asks : Request → Item
  -- the octet 00 is written
  Acks : Item
  -- a refusal is written, and the session is over
  Refuses : Refusal → Item
  -- this many octets of a data file, cut into pages
  FileOctets : ℕ → Item
  -- this many octets, which fill a page of this size
  PageOctets : ℕ → ℕ → Item
  -- one octet 00
  ZeroOctet : Item
  -- the text of the control file of this name, this many octets, and one octet 00
  ControlText : List ℕ → ℕ → Item
  -- nothing more is read
  Over : Item

-- a job is opened where none is in hand
abbrev pub opening : Bool → List ℕ → List Item
opening job queue = if job then [] else Asks (Open queue) ∷ []

-- what follows the first acknowledgement of a data file
abbrev pub data_file : ℕ → List Item
data_file count = FileOctets count ∷ ZeroOctet ∷ Asks EndFile ∷ Acks ∷ []

-- what follows a subcommand's line
abbrev pub block : Bool → List ℕ → Result Sub Refusal → List Item
block job queue (Ok sub.Abort) = (if job then Asks AbortJob ∷ [] else []) ++ Acks ∷ []
block job queue (Ok (sub.ControlFile count name)) =
    if count == 0 || nat_lt MAX_CONTROL_TEXT count then Refuses BadLength ∷ []
    else opening job queue ++ Acks ∷ ControlText name count ∷ Acks ∷ []
block job queue (Ok (sub.DataFile count name)) =
    opening job queue ++ Asks (BeginFile name count) ∷ Acks ∷ data_file count
block job queue (Err refusal) = Refuses refusal ∷ []

-- what follows the first line; every command but that to receive jobs is answered once and ends the session
abbrev pub first_block : Result Command Refusal → List Item
first_block (Ok (command.PrintWaiting queue)) = Asks (StartPrinters queue) ∷ Over ∷ []
first_block (Ok (command.Receive queue)) = Asks (Queue queue) ∷ Acks ∷ []
first_block (Ok (command.State queue list long)) = Asks (QueueState queue list long) ∷ Over ∷ []
first_block (Ok (command.Remove queue agent list)) = Asks (RemoveJobs queue agent list) ∷ Over ∷ []
first_block (Err refusal) = Refuses refusal ∷ []

-- what follows a line, by the queue that was admitted
abbrev pub after_line : Option (List ℕ) → Bool → List ℕ → List Item
after_line None job line = first_block (command_of line)
after_line (Some queue) job line = block job queue (sub_of line)
