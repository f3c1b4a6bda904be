-- How far a session can be between its turns, and what is due there.
use Rattle.std.proofs.Common.{◌≡◌, ◌==◌, ℕ, zero, suc, ◌+◌, Bool, true, false, nat_le, nat_lt, List, [], ◌∷◌, ◌++◌, length, take, drop, Option, Some, None, Result, Ok, Err, cond, get_or, refl, sym, subst}
use Rattle.std.specs.Prelude.{◌||◌}
use Rattle.std.specs.List.{prefix_len}
use Rattle.std.proofs.lemmas.List.{take-append-drop}
use Rattle.lpd_values.specs.declared.limits.TheConstants.{MAX_CONTROL_TEXT}
use Rattle.lpd_values.specs.declared.refusal.Refusal.{Refusal}
use Rattle.lpd_values.specs.declared.refusal.Refusal.TheVariants.{BadLength}
use Rattle.lpd_values.specs.Contents.{Contents}
use Rattle.lpd_commands.specs.Line.{command_of, sub_of}
use Rattle.lpd_commands.specs.declared.command.Command.{Command}
use Rattle.lpd_commands.specs.declared.command.Command.TheVariants as command
use Rattle.lpd_commands.specs.declared.sub.Sub.{Sub}
use Rattle.lpd_commands.specs.declared.sub.Sub.TheVariants as sub
use Rattle.control_file.specs.Text.{control_of}
use Rattle.receiver.specs.Script.{Queue, Open, BeginFile, AskPage, Filled, EndFile, Control, AbortJob, StartPrinters, QueueState, RemoveJobs, Ack, Fault, Output, Item, Asks, Acks, Refuses, PageOctets, ControlText, Over, after_line, block, first_block, opening, data_file}
use Rattle.receiver.specs.Reading.{Progress, Due, Waits, Ends, Writes, Requests, due, due_at, at_line, at_text, at_page, after_text, is_inner}
use Rattle.spool_trace.specs.Hands.{page_in}

-- between blocks; before a file is begun; before its line is acknowledged; in its octets; while a page is filled; before a
-- control file's line is acknowledged; in its text; before the last acknowledgement; refused; at the end
pub data Stage : Type 0 where
  Between : Stage
  Begins : List ℕ → ℕ → Stage
  Begun : ℕ → Stage
  Inside : ℕ → Stage
  Fills : ℕ → ℕ → ℕ → Stage
  ControlDue : List ℕ → ℕ → Stage
  InControl : List ℕ → ℕ → Stage
  AcksLast : Stage
  Refusing : Refusal → Stage
  Ended : Stage

abbrev pub items_at : Stage → List Item
items_at Between = []
items_at (Begins name count) = Asks (BeginFile name count) ∷ Acks ∷ data_file count
items_at (Begun count) = Acks ∷ data_file count
items_at (Inside left) = data_file left
items_at (Fills piece size left) = PageOctets piece size ∷ data_file left
items_at (ControlDue name count) = Acks ∷ ControlText name count ∷ Acks ∷ []
items_at (InControl name count) = ControlText name count ∷ Acks ∷ []
items_at AcksLast = Acks ∷ []
items_at (Refusing n) = Refuses n ∷ []
items_at Ended = Over ∷ []

-- a job is in hand in a file
abbrev pub NeedsJob : Stage → Bool → Type 0
NeedsJob (Begins name count) job = job ≡ true
NeedsJob (Begun count) job = job ≡ true
NeedsJob (Inside left) job = job ≡ true
NeedsJob (Fills piece size left) job = job ≡ true
NeedsJob (ControlDue name count) job = job ≡ true
NeedsJob (InControl name count) job = job ≡ true
NeedsJob _ job = Unit {0}

-- a data file was begun
abbrev pub InFile : Stage → Type 0
InFile (Begun count) = Unit {0}
InFile (Inside left) = Unit {0}
InFile (Fills piece size left) = Unit {0}
InFile _ = ⊥

-- whether a page is in hand
abbrev pub Quiet : Stage → Type 0
Quiet g = (os : List Output) → page_in (items_at g) os ≡ false

abbrev pub Filling : Stage → Type 0
Filling g = (os : List Output) → page_in (items_at g) os ≡ true

abbrev pub IsEnd : List ℕ → List ℕ → Type 0
IsEnd u t = (x : List ℕ) × (u ≡ x ++ t)

-- what may be due at a stage, with what is unread, and what follows it
abbrev pub Fine : Bool → Stage → List ℕ → Due → Type 0
Fine job g u Waits = Unit {0}
Fine job g u Ends = Unit {0}
Fine job g u (Writes Ack items t) =
    (n : Stage) × (items ≡ items_at n) × NeedsJob n job × (InFile n → InFile g × (t ≡ u)) × Quiet n × Quiet g
Fine job g u (Writes (Fault m) items t) = items ≡ items_at Ended
Fine job g u (Requests (Queue name) items t) = (items ≡ items_at AcksLast) × Quiet g
Fine job g u (Requests (Open name) items t) = (n : Stage) × (items ≡ items_at n) × NeedsJob n true × (InFile n → ⊥) × Quiet n × Quiet g
Fine job g u (Requests (BeginFile name count) items t) = (items ≡ items_at (Begun count)) × (job ≡ true) × IsEnd u t × Quiet g
Fine job g u (Requests AskPage items t) = (left : ℕ) × (items ≡ items_at (Inside left)) × (job ≡ true) × InFile g × (t ≡ u) × Quiet g
Fine job g u (Requests (Filled page) items t) =
    (left : ℕ) × (items ≡ items_at (Inside left)) × (job ≡ true) × InFile g × (u ≡ page.octets ++ t) × Filling g
Fine job g u (Requests EndFile items t) = (items ≡ items_at AcksLast) × (job ≡ true) × Quiet g
Fine job g u (Requests (Control control) items t) = (items ≡ items_at AcksLast) × (job ≡ true) × Quiet g
Fine job g u (Requests AbortJob items t) = (items ≡ items_at AcksLast) × (job ≡ true) × Quiet g
Fine job g u (Requests (StartPrinters name) items t) = (items ≡ items_at Ended) × Quiet g
Fine job g u (Requests (QueueState name list long) items t) = (items ≡ items_at Ended) × Quiet g
Fine job g u (Requests (RemoveJobs name agent list) items t) = (items ≡ items_at Ended) × Quiet g

either : (job : Bool) (g : Stage) (u : List ℕ) (b : Bool) (x y : Due) → Fine job g u x → Fine job g u y → Fine job g u (cond b x y)
either job g u true x y h k = h
either job g u false x y h k = k

-- what follows a line

abbrev after : List Item → List ℕ → Due
after items rest = due_at (λ _. Waits) items rest

first_fine : (job : Bool) (u rest : List ℕ) (r : Result Command Refusal) → Fine job Between u (after (first_block r) rest)
first_fine job u rest (Ok (command.PrintWaiting queue)) = (refl, λ os. refl)
first_fine job u rest (Ok (command.Receive queue)) = (refl, λ os. refl)
first_fine job u rest (Ok (command.State queue list long)) = (refl, λ os. refl)
first_fine job u rest (Ok (command.Remove queue agent list)) = (refl, λ os. refl)
first_fine job u rest (Err refusal) = refl

control_fine : (job b : Bool) (queue name : List ℕ) (count : ℕ) (u rest : List ℕ) → Fine job Between u (after (cond b (Refuses BadLength ∷ []) (opening job queue ++ Acks ∷ ControlText name count ∷ Acks ∷ [])) rest)
control_fine job true queue name count u rest = refl
control_fine true false queue name count u rest = (InControl name count, refl, refl, λ i. absurd i, λ os. refl, λ os. refl)
control_fine false false queue name count u rest = (ControlDue name count, refl, refl, λ i. i, λ os. refl, λ os. refl)

block_fine : (job : Bool) (queue u rest : List ℕ) (r : Result Sub Refusal) → IsEnd u rest → Fine job Between u (after (block job queue r) rest)
block_fine true queue u rest (Ok sub.Abort) e = (refl, refl, λ os. refl)
block_fine false queue u rest (Ok sub.Abort) e = (Between, refl, tt, λ i. absurd i, λ os. refl, λ os. refl)
block_fine job queue u rest (Ok (sub.ControlFile count name)) e = control_fine job (count == 0 || nat_lt MAX_CONTROL_TEXT count) queue name count u rest
block_fine true queue u rest (Ok (sub.DataFile count name)) e = (refl, refl, e, λ os. refl)
block_fine false queue u rest (Ok (sub.DataFile count name)) e = (Begins name count, refl, refl, λ i. i, λ os. refl, λ os. refl)
block_fine job queue u rest (Err refusal) e = refl

line_fine : (queue : Option (List ℕ)) (job : Bool) (line u rest : List ℕ) → IsEnd u rest → Fine job Between u (after (after_line queue job line) rest)
line_fine None job line u rest e = first_fine job u rest (command_of line)
line_fine (Some queue) job line u rest e = block_fine job queue u rest (sub_of line) e

between_fine : (queue : Option (List ℕ)) (job : Bool) (u : List ℕ) → Fine job Between u (at_line (λ line rest. after (after_line queue job line) rest) u)
between_fine queue job u =
    let k = prefix_len is_inner u in
    either job Between u (nat_lt 1023 k) _ _ refl
    (either job Between u (nat_lt k (length u)) (after (after_line queue job (take k u)) (drop (k + 1) u)) Waits
    (line_fine queue job (take k u) u (drop (k + 1) u) (take (k + 1) u, sym (take-append-drop (k + 1) u))) tt)

inside_fine : (next : List ℕ → Due) (job : Bool) (left : ℕ) (u : List ℕ) → job ≡ true → Fine job (Inside left) u (due_at next (data_file left) u)
inside_fine next job zero [] e = tt
inside_fine next job zero (b ∷ t) e = either job (Inside zero) (b ∷ t) (b == 0) (due_at next (Asks EndFile ∷ Acks ∷ []) t) _ (refl, e, λ os. refl) refl
inside_fine next job (suc n) [] e = tt
inside_fine next job (suc n) (b ∷ t) e = (suc n, refl, e, tt, refl, λ os. refl)

text_fine : (job : Bool) (name : List ℕ) (count : ℕ) (u t : List ℕ) (r : Result Contents Refusal) → job ≡ true → Fine job (InControl name count) u (after_text r (Acks ∷ []) t)
text_fine job name count u t (Ok contents) e = (refl, e, λ os. refl)
text_fine job name count u t (Err refusal) e = refl

control_text_fine : (job : Bool) (name : List ℕ) (count : ℕ) (u : List ℕ) → job ≡ true → Fine job (InControl name count) u (at_text name count (Acks ∷ []) u)
control_text_fine job name count u e =
    let g : Stage = InControl name count in
    either job g u (nat_lt count (length u)) _ Waits
    (either job g u (get_or u count 0 == 0) (after_text (control_of name (take count u)) (Acks ∷ []) (drop (count + 1) u)) _
    (text_fine job name count u (drop (count + 1) u) (control_of name (take count u)) e) refl) tt

page_fine : (job : Bool) (piece size left : ℕ) (u : List ℕ) → job ≡ true → Fine job (Fills piece size left) u (at_page piece size (data_file left) u)
page_fine job piece size left u e =
    let g : Stage = Fills piece size left in
    either job g u (nat_le piece (length u)) (Requests (Filled (record { octets = take piece u; page_size = size })) (data_file left) (drop piece u)) Waits
    (left, refl, e, tt, sym (take-append-drop piece u), λ os. refl) tt

abbrev next_of : Option (List ℕ) → Bool → List ℕ → Due
next_of queue job = at_line (λ line rest. after (after_line queue job line) rest)

stage_fine : (queue : Option (List ℕ)) (job : Bool) (g : Stage) (u : List ℕ) → NeedsJob g job → Fine job g u (due_at (next_of queue job) (items_at g) u)
stage_fine queue job Between u e = between_fine queue job u
stage_fine queue job (Begins name count) u e = (refl, e, ([], refl), λ os. refl)
stage_fine queue job (Begun count) u e = (Inside count, refl, e, λ i. (tt, refl), λ os. refl, λ os. refl)
stage_fine queue job (Inside left) u e = inside_fine (next_of queue job) job left u e
stage_fine queue job (Fills piece size left) u e = page_fine job piece size left u e
stage_fine queue job (ControlDue name count) u e = (InControl name count, refl, e, λ i. absurd i, λ os. refl, λ os. refl)
stage_fine queue job (InControl name count) u e = control_text_fine job name count u e
stage_fine queue job AcksLast u e = (Between, refl, tt, λ i. absurd i, λ os. refl, λ os. refl)
stage_fine queue job (Refusing n) u e = refl
stage_fine queue job Ended u e = tt

-- what is due where a session is
pub due_fine : (p : Progress) (g : Stage) (u : List ℕ) → p.items ≡ items_at g → NeedsJob g p.job → Fine p.job g u (due p u)
due_fine p g u e j = subst (λ (items : List Item). Fine p.job g u (due_at (next_of p.queue p.job) items u)) (sym e) (stage_fine p.queue p.job g u j)
