-- Each octet that is written for a job is 00 while nothing is refused.
use Rattle.std.proofs.Common.{◌≡◌, ◌≤◌, ℕ, true, false, List, [], ◌∷◌, ◌++◌, length, Some, None, Ok, refl, ap, sym, ◌∙◌, subst, inl, inr, arith, append_assoc}
use Rattle.std.specs.Prelude.{All, IsTrue}
use Rattle.std.specs.List.{concat}
use Rattle.std.proofs.lemmas.List.Elements.{All-nil, All-cons}
use Rattle.lpd_values.specs.Contents.{Contents}
use Rattle.lpd_values.specs.Name.{is_control_name}
use Rattle.lpd_values.specs.declared.limits.TheConstants.{MAX_CONTROL_TEXT}
use Rattle.lpd_commands.specs.Line.{command_of}
use Rattle.lpd_commands.specs.Written.{command_line, sub_line}
use Rattle.lpd_commands.specs.declared.command.Command.TheVariants.{Receive}
use Rattle.lpd_commands.specs.declared.sub.Sub.TheVariants as sub
use Rattle.control_file.specs.Text.{control_of}
use Rattle.control_file.specs.Written.{control_text}
use Rattle.control_file.specs.View.{contents}
use Rattle.control_file.specs.declared.control.Control.{Control}
use Rattle.control_file.proofs.WriteLemmas.{control_is_read_back}
use Rattle.receiver.specs.Script.{Request, Queue, Output, Wrote, Asked, Acks, Reply, Yes, Ticket, Later, Stored, Received, Refused, octet, octets_written, first_block, after_line}
use Rattle.receiver.specs.Reading.{Progress, Due, Waits, Ends, Writes, Requests, Admission, due, due_at, fits, kind_of, answered, start}
use Rattle.receiver.specs.Reads.{GoesOn, Reads}
use Rattle.receiver.specs.Blocks.{IsLine}
use Rattle.lpr_client.specs.declared.file.DataFile.{DataFile}
use Rattle.lpr_client.specs.Granted.{AreGranted, IsAcknowledged}
use Rattle.lpr_client.specs.Sendable.{is_sendable}
use Rattle.lpr_client.specs.Parts.{AreCounted, zeroed, data_parts, control_parts, job_octets}
use Rattle.lpr_client.proofs.Clear.{Block, AreBlocks, IsClear, IsClearDue, IsReading, reading_due, granted_reading}
use Rattle.receiver.proofs.BlockLaws.{due_line}
use Rattle.lpr_client.proofs.JobReading.{AreFiles, sendable}
use Rattle.lpr_client.proofs.LineLemmas.{receive_line, control_line, data_line}

abbrev AreZero : List ℕ → Type 0
AreZero = All (λ b. b ≡ 0)

-- the outputs after one step
step_zero : (os : List Output) → ((s : Progress) (t : List ℕ) (a : List Reply) → IsReading s t → Reads false os s t a → AreGranted os a → AreZero (octets_written os)) →
    (o : Output) (s : Progress) (a : List Reply) (d : Due) (queue : List ℕ) → s.queue ≡ Some queue → IsClearDue d → GoesOn (Reads false os) (os ≡ []) s o a d → AreGranted (o ∷ os) a → AreZero (octets_written (o ∷ os))
step_zero os f o s a Waits queue q c g r = absurd g
step_zero os f o s a Ends queue q c g r = absurd g
step_zero os f (Wrote w) s a (Writes v items t) queue q c g r =
    let same : w ≡ v = cc (g.0) in
    All-cons (λ b. b ≡ 0) (octet w) (octets_written os) (ap octet (same ∙ c.0))
    (f (record s { items = items; tail = [] }) t a (record { queue = queue; admitted = q; clear = c.1 }) g.1 r)
step_zero os f (Asked p) s a (Writes v items t) queue q c g r = let wrong : ⊥ = cc (g.0) in absurd wrong
step_zero os f (Wrote w) s [] (Requests p items t) queue q c g r = let wrong : ⊥ = cc (g.0) in absurd wrong
step_zero os f (Wrote w) s (x ∷ a) (Requests p items t) queue q c g r = let wrong : ⊥ = cc (g.0) in absurd wrong
step_zero os f (Asked p) s [] (Requests v items t) queue q c g r = subst (λ others. AreZero (octets_written others)) (sym g.1) (All-nil (λ b. b ≡ 0))
step_zero os f (Asked p) s (x ∷ a) (Requests v items t) queue q c g r =
    f (answered (kind_of v) x (record s { items = items; tail = [] })) t a
    (granted_reading (kind_of v) x (record s { items = items; tail = [] }) t r.1 (record { queue = queue; admitted = q; clear = c })) g.1 r.2

false_not_true : false ≡ true → ⊥
false_not_true e = cc

pub reading_zero : (os : List Output) (s : Progress) (t : List ℕ) (a : List Reply) → IsReading s t → Reads false os s t a → AreGranted os a → AreZero (octets_written os)
reading_zero [] s t a h r g = All-nil (λ b. b ≡ 0)
reading_zero (o ∷ os) s t a h r g =
    elim r [
      | inl step ↦ step_zero os (reading_zero os) o (record s { tail = [] }) a (due s t) h.queue h.admitted (reading_due s t h) step g
      | inr memory ↦ absurd (false_not_true memory.0)
    ]

-- what a file and what follows it are together
sent : (line octets : List ℕ) (parts : List (List ℕ)) → concat ((line ++ 10 ∷ []) ∷ zeroed octets ∷ parts) ≡ line ++ 10 ∷ (octets ++ 0 ∷ concat parts)
sent line octets parts = simp append_assoc

-- data files and then the control file are whole files
job_blocks : (name text : List ℕ) (said : Contents) (files : List DataFile) → AreFiles files → IsTrue (is_control_name name) → 1 ≤ length text → length text ≤ MAX_CONTROL_TEXT → control_of name text ≡ Ok said →
    (blocks : List Block) × AreBlocks blocks (concat (data_parts files ++ control_parts name text))
job_blocks name text said [] h n some few c =
    let line = control_line (length text) name (omega arith) n in (
      record { sub = sub.ControlFile (length text) name; contents = text } ∷ [],
      (record { line = line.0; read = line.1; contents = (refl, some, few, said, c) }, [], sent (sub_line (sub.ControlFile (length text) name)) text [], refl),
    )
job_blocks name text said (file ∷ files) h n some few c =
    let line = data_line (length file.octets) file.name h.0.some h.0.counted h.0.named in
    let more = job_blocks name text said files h.1 n some few c in (
      record { sub = sub.DataFile (length file.octets) file.name; contents = file.octets } ∷ more.0,
      (
        record { line = line.0; read = line.1; contents = refl },
        concat (data_parts files ++ control_parts name text),
        sent (sub_line (sub.DataFile (length file.octets) file.name)) file.octets (data_parts files ++ control_parts name text),
        more.1,
      ),
    )

-- what is due at the first line
pub due_first : (queue line rest : List ℕ) → IsLine line → command_of line ≡ Ok (Receive queue) → due start (line ++ 10 ∷ rest) ≡ Requests (Queue queue) (Acks ∷ []) rest
due_first queue line rest l e =
    due_line (λ x. due_at (λ _. Waits) (after_line None false x)) line rest l ∙ ap (λ m. due_at (λ _. Waits) (first_block m) rest) e

first_sent : (line : List ℕ) (parts : List (List ℕ)) → concat ((line ++ 10 ∷ []) ∷ parts) ≡ line ++ 10 ∷ concat parts
first_sent line parts = simp append_assoc

-- a queue that is asked about isn't answered so
unfit : (p : Request) (queue : List ℕ) (x : Reply) → ◌≡◌ {A = Output} (Asked p) (Asked (Queue queue)) → fits (Admission queue) x ≡ false → fits (kind_of p) x ≡ true → ⊥
unfit p queue x e f g =
    let same : p ≡ Queue queue = cc (e) in
    false_not_true (sym f ∙ (ap (λ r. fits (kind_of r) x) (sym same) ∙ g))

-- the first request, and what follows its answer
first_zero : (os : List Output) (o : Output) (queue t : List ℕ) (a : List Reply) → IsClear [] t → GoesOn (Reads false os) (os ≡ []) (record start { tail = [] }) o a (Requests (Queue queue) (Acks ∷ []) t) → AreGranted (o ∷ os) a → AreZero (octets_written (o ∷ os))
first_zero os (Wrote w) queue t [] c g r = let wrong : ⊥ = cc (g.0) in absurd wrong
first_zero os (Wrote w) queue t (x ∷ a) c g r = let wrong : ⊥ = cc (g.0) in absurd wrong
first_zero os (Asked p) queue t [] c g r = subst (λ others. AreZero (octets_written others)) (sym g.1) (All-nil (λ b. b ≡ 0))
first_zero os (Asked p) queue t (Yes ∷ a) c g r =
    reading_zero os (answered (kind_of (Queue queue)) Yes (record start { items = Acks ∷ []; tail = [] })) t a (record { queue = queue; admitted = refl; clear = c }) g.1 r.2
first_zero os (Asked p) queue t (Ticket size ∷ a) c g r = absurd (unfit p queue (Ticket size) g.0 refl r.0)
first_zero os (Asked p) queue t (Later ∷ a) c g r = absurd (unfit p queue Later g.0 refl r.0)
first_zero os (Asked p) queue t (Stored ∷ a) c g r = absurd (unfit p queue Stored g.0 refl r.0)
first_zero os (Asked p) queue t (Received ∷ a) c g r = absurd (unfit p queue Received g.0 refl r.0)
first_zero os (Asked p) queue t (Refused n ∷ a) c g r = absurd r.1

pub start_zero : (queue line t : List ℕ) → IsLine line → command_of line ≡ Ok (Receive queue) → IsClear [] t → IsAcknowledged (line ++ 10 ∷ t)
start_zero queue line t l e c [] a r g = All-nil (λ b. b ≡ 0)
start_zero queue line t l e c (o ∷ os) a r g =
    elim r [
      | inl step ↦ first_zero os o queue t a c (subst (GoesOn (Reads false os) (os ≡ []) (record start { tail = [] }) o a) (due_first queue line t l e) step) g
      | inr memory ↦ absurd (false_not_true memory.0)
    ]

-- each octet that is written for a job is 00 while nothing is refused
pub is_acknowledged : (queue name : List ℕ) (control : Control) (files : List DataFile) (octets : List ℕ) → IsTrue (is_sendable queue name control files) → AreCounted files →
    octets ≡ job_octets queue name (control_text (contents control)) files → IsAcknowledged octets
is_acknowledged queue name control files octets sent_so counted e =
    let h = sendable queue name control files sent_so counted in
    let line = receive_line queue h.queue_word in
    let text = control_text (contents control) in
    let blocks = job_blocks name text (contents control) files h.data_files h.control_name (omega arith) h.text (control_is_read_back control name h.number h.text) in
    subst IsAcknowledged (sym (e ∙ first_sent (command_line (Receive queue)) (data_parts files ++ control_parts name text)))
    (start_zero queue (command_line (Receive queue)) (concat (data_parts files ++ control_parts name text)) line.0 line.1 blocks)
