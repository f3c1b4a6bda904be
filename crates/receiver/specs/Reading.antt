-- The session reading: what a text and answers decide, on whole texts.
use Rattle.std.specs.Prelude.{◌≡◌, ℕ, zero, suc, Bool, true, false, List, [], ◌∷◌, ◌==◌, nat_lt, nat_le, min, ◌+◌, ◌-◌, Option, Some, None, Result, Ok, Err, if◌then◌else◌, not, length, take, drop, slice_index}
use Rattle.lpd_values.specs.declared.limits.TheConstants.{MAX_LINE}
use Rattle.std.specs.List.{prefix_len}
use Rattle.lpd_values.specs.declared.refusal.Refusal.{Refusal}
use Rattle.lpd_values.specs.declared.refusal.Refusal.TheVariants.{LineTooLong, NoZero}
use Rattle.lpd_values.specs.Contents.{Contents}
use Rattle.control_file.specs.Text.{control_of}
use Rattle.receiver.specs.Script.{Request, Queue, Open, BeginFile, AskPage, Filled, EndFile, Control, AbortJob, StartPrinters, QueueState, RemoveJobs, Written, Ack, Fault, Reply, Yes, Ticket, Later, Stored, Received, Refused, Item, Asks, Acks, Refuses, FileOctets, PageOctets, ZeroOctet, ControlText, Over, after_line}

-- what kind of request waits for its answer
pub data Kind : Type 0 where
  Admission : List ℕ → Kind
  Opening : Kind
  Lending : Kind
  Ending : Kind
  Aborting : Kind
  Plain : Kind

abbrev pub kind_of : Request → Kind
kind_of (Queue queue) = Admission queue
kind_of (Open queue) = Opening
kind_of AskPage = Lending
kind_of EndFile = Ending
kind_of (Control contents) = Ending
kind_of AbortJob = Aborting
kind_of (BeginFile name count) = Plain
kind_of (Filled page) = Plain
kind_of (StartPrinters queue) = Plain
kind_of (QueueState queue list long) = Plain
kind_of (RemoveJobs queue agent list) = Plain

-- how far a session was read
pub record Progress : Type 0 where
  -- the queue that was admitted
  pub queue : Option (List ℕ)
  -- whether a job is in hand
  pub job : Bool
  -- what is left of the block
  pub items : List Item
  -- the kind of the request that waits for its answer
  pub owed : Option Kind
  -- the octets that were consumed of what is read next
  pub tail : List ℕ

-- What is due where a text is unread: nothing before more of it has come, or something, after which
-- these items and this text are left. The answer to a request may change the items.
pub data Due : Type 0 where
  Waits : Due
  Ends : Due
  Writes : Written → List Item → List ℕ → Due
  Requests : Request → List Item → List ℕ → Due

-- whether an octet is none that ends a line
abbrev pub is_inner : ℕ → Bool
is_inner b = not (b == 10)

-- a line is the text up to its first LF; next says what is due after it
abbrev pub at_line : (List ℕ → List ℕ → Due) → List ℕ → Due
at_line next t =
    if nat_lt MAX_LINE (prefix_len is_inner t)
    then Writes (Fault LineTooLong) (Over ∷ []) (drop (MAX_LINE + 1) t)
    else if nat_lt (prefix_len is_inner t) (length t)
    then next (take (prefix_len is_inner t) t) (drop (prefix_len is_inner t + 1) t)
    else Waits

-- what a control text that is whole leads to
abbrev pub after_text : Result Contents Refusal → List Item → List ℕ → Due
after_text (Ok contents) items t = Requests (Control contents) items t
after_text (Err refusal) items t = Writes (Fault refusal) (Over ∷ []) t

abbrev pub at_text : List ℕ → ℕ → List Item → List ℕ → Due
at_text name n items t =
    if nat_lt n (length t)
    then (if slice_index t n == 0
    then after_text (control_of name (take n t)) items (drop (n + 1) t)
    else Writes (Fault NoZero) (Over ∷ []) (drop (n + 1) t))
    else Waits

abbrev pub at_page : ℕ → ℕ → List Item → List ℕ → Due
at_page n size items t =
    if nat_le n (length t)
    then Requests (Filled (record { octets = take n t; page_size = size })) items (drop n t)
    else Waits

-- what is due at these items; where they are done, what next says
abbrev pub due_at : (List ℕ → Due) → List Item → List ℕ → Due
due_at next [] t = next t
due_at next (Asks r ∷ items) t = Requests r items t
due_at next (Acks ∷ items) t = Writes Ack items t
due_at next (Refuses n ∷ items) t = Writes (Fault n) (Over ∷ []) t
due_at next (FileOctets zero ∷ items) t = due_at next items t
due_at next (FileOctets (suc n) ∷ items) [] = Waits
due_at next (FileOctets (suc n) ∷ items) (b ∷ t) =
    Requests AskPage (FileOctets (suc n) ∷ items) (b ∷ t)
due_at next (PageOctets n size ∷ items) t = at_page n size items t
due_at next (ZeroOctet ∷ items) [] = Waits
due_at next (ZeroOctet ∷ items) (b ∷ t) =
    if b == 0 then due_at next items t else Writes (Fault NoZero) (Over ∷ []) t
due_at next (ControlText name n ∷ items) t = at_text name n items t
due_at next (Over ∷ items) t = Ends

-- What is due; what follows a line begins with something that is due at once. Whether this is the protocol is to be seen
-- from whole blocks: the laws data_block, control_block and abort_block (`Blocks.antt`) say, from a block's first octet to
-- its last acknowledgement, what is read of a data file, of a control file and of an abort.
abbrev pub due : Progress → List ℕ → Due
due s t =
    due_at (at_line (λ line rest. due_at (λ _. Waits) (after_line s.queue s.job line) rest))
    s.items t

-- a ticket takes the next piece of the contents
abbrev pub with_ticket : ℕ → List Item → List Item
with_ticket size (FileOctets n ∷ items) =
    PageOctets (min size n) size ∷ FileOctets (n - min size n) ∷ items
with_ticket size items = items

abbrev pub with_yes : Kind → Progress → Progress
with_yes (Admission queue) s = record s { queue = Some queue }
with_yes Opening s = record s { job = true }
with_yes Aborting s = record s { job = false }
with_yes Lending s = s
with_yes Ending s = s
with_yes Plain s = s

abbrev pub changed : Kind → Reply → Progress → Progress
changed kind Yes s = with_yes kind s
changed kind (Ticket size) s = record s { items = with_ticket size s.items }
changed kind Later s = s
changed kind Stored s = s
changed kind Received s = record s { job = false }
changed kind (Refused n) s = record s { items = Refuses n ∷ [] }

-- what an answer leaves
abbrev pub answered : Kind → Reply → Progress → Progress
answered kind x s = changed kind x (record s { owed = None })

-- which answers fit
abbrev pub fits : Kind → Reply → Bool
fits kind (Refused n) = true
fits Lending (Ticket size) = true
fits Lending Later = true
fits Ending Stored = true
fits Ending Received = true
fits (Admission queue) Yes = true
fits Opening Yes = true
fits Aborting Yes = true
fits Plain Yes = true
fits _ _ = false

abbrev pub IsFitting : Option Kind → Reply → Type 0
IsFitting None x = ⊥
IsFitting (Some kind) x = fits kind x ≡ true

abbrev pub answered_owed : Option Kind → Reply → Progress → Progress
answered_owed None x s = s
answered_owed (Some kind) x s = answered kind x s

-- what an answer to the request that waits leaves
abbrev pub after_reply : Progress → Reply → Progress
after_reply s x = answered_owed s.owed x s

-- where a session begins
abbrev pub start : Progress
start = record { queue = None; job = false; items = []; owed = None; tail = [] }
