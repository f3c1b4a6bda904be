-- A job that is sent is read as one job.
use Rattle.std.proofs.Common.{◌≡◌, ◌<◌, ◌≤◌, ◌+◌, ◌*◌, ◌^◌, ℕ, suc, Bool, true, false, not, List, [], ◌∷◌, ◌++◌, length, replicate, refl, ap, ◌∙◌, sym, subst, Ok, append_assoc, arith}
use Rattle.std.specs.Prelude.{IsTrue}
use Rattle.std.specs.List.{concat, list_all}
use Rattle.std.proofs.lemmas.Bool.{and_parts, eqb-true, leb-true, ltb-true}
use Rattle.lpd_values.specs.Name.{is_data_name, is_control_name, number_of}
use Rattle.lpd_values.specs.Contents.{Contents}
use Rattle.lpd_values.specs.declared.limits.TheConstants.{MAX_CONTROL_TEXT}
use Rattle.lpd_commands.specs.Written.{command_line, command_has_line, sub_line}
use Rattle.lpd_commands.specs.declared.command.Command.TheVariants.{Receive}
use Rattle.lpd_commands.specs.declared.sub.Sub.TheVariants as sub
use Rattle.control_file.specs.Text.{control_of}
use Rattle.control_file.specs.Written.{control_text}
use Rattle.control_file.specs.View.{contents}
use Rattle.control_file.specs.declared.control.Control.{Control}
use Rattle.control_file.proofs.WriteLemmas.{control_is_read_back}
use Rattle.receiver.specs.Script.{BeginFile, EndFile, Ack, Output, Wrote, Asked, Reply, Yes, Stored, octet, octets_written}
use Rattle.receiver.specs.Reading.{Progress, start}
use Rattle.receiver.specs.Reads.{Reads}
use Rattle.receiver.specs.Blocks.{between, opened, opened_told, asked_for, told_for}
use Rattle.receiver.proofs.BlockLaws.{first_line_read, data_block_read, control_block_read}
use Rattle.lpr_client.specs.declared.file.DataFile.{DataFile}
use Rattle.lpr_client.specs.Parts.{AreCounted, zeroed, data_parts, control_parts, job_octets}
use Rattle.lpr_client.specs.OneJob.{pages_of, files_outputs, files_told, job_outputs, job_told, ReadsAsOneJob}
use Rattle.lpr_client.specs.Sendable.{is_sendable, is_sendable_file}
use Rattle.lpr_client.proofs.LineLemmas.{receive_line, control_line, data_line}
use Rattle.lpr_client.proofs.PageLemmas.{concat-pieces, are_cut}

-- a data file that can be sent
pub record IsFile (file : DataFile) : Type 0 where
  pub named : IsTrue (is_data_name file.name)
  pub some : 0 < length file.octets
  pub counted : length file.octets < 10 ^ 19

abbrev pub AreFiles : List DataFile → Type 0
AreFiles [] = Unit {0}
AreFiles (file ∷ files) = IsFile file × AreFiles files

pub are_files : (files : List DataFile) → list_all is_sendable_file files ≡ true → AreCounted files → AreFiles files
are_files [] h k = tt
are_files (file ∷ files) h k =
    let all = and_parts _ _ h in
    let sent = and_parts _ _ all.0 in
    (record { named = sent.0; some = ltb-true 0 (length file.octets) sent.1; counted = k.0 }, are_files files all.1 k.1)

-- what a job that can be sent is, in parts
pub record IsSendable (queue name : List ℕ) (control : Control) (files : List DataFile) : Type 0 where
  pub queue_word : IsTrue (command_has_line (Receive queue))
  pub control_name : IsTrue (is_control_name name)
  pub number : number_of name ≡ control.number
  pub text : length (control_text (contents control)) ≤ MAX_CONTROL_TEXT
  pub data_files : AreFiles files

pub sendable : (queue name : List ℕ) (control : Control) (files : List DataFile) → IsTrue (is_sendable queue name control files) → AreCounted files → IsSendable queue name control files
sendable queue name control files h counted =
    let all = and_parts _ _ h in
    let named = and_parts _ _ (and_parts _ _ all.0).1 in
    record {
      queue_word = (and_parts _ _ all.0).0;
      control_name = named.0;
      number = eqb-true (number_of name) control.number named.1;
      text = leb-true (length (control_text (contents control))) MAX_CONTROL_TEXT (and_parts _ _ (and_parts _ _ all.1).0).0;
      data_files = are_files files (and_parts _ _ all.1).1 counted;
    }

-- the same reading of equal octets, answers and outputs
along : (short : Bool) (s : Progress) (os others : List Output) (t u : List ℕ) (a b : List Reply) → os ≡ others → t ≡ u → a ≡ b → Reads short os s t a → Reads short others s u b
along short s os others t u a b e f g h =
    subst (λ x. Reads short others s u x) g (subst (λ x. Reads short others s x a) f (subst (λ x. Reads short x s t a) e h))

-- one data file, by its octets
file_read : (short : Bool) (queue : List ℕ) (job : Bool) (z : ℕ) (file : DataFile) (rest : List ℕ) (a : List Reply) (os : List Output) → 0 < z → IsFile file →
    Reads short os (between queue true) rest a →
    Reads short (opened job queue ++ Asked (BeginFile file.name (length file.octets)) ∷ Wrote Ack ∷ (asked_for z (pages_of z file.octets) ++ Asked EndFile ∷ Wrote Ack ∷ os)) (between queue job)
    (sub_line (sub.DataFile (length file.octets) file.name) ++ 10 ∷ (file.octets ++ 0 ∷ rest)) (opened_told job ++ Yes ∷ (told_for z (pages_of z file.octets) ++ Stored ∷ a))
file_read short queue job z file rest a os h i g =
    let line = data_line (length file.octets) file.name i.some i.counted i.named in
    let pages = pages_of z file.octets in
    let whole : concat pages ≡ file.octets = concat-pieces (length file.octets) z file.octets h (omega arith) in
    subst (λ octets. Reads short (opened job queue ++ Asked (BeginFile file.name (length octets)) ∷ Wrote Ack ∷ (asked_for z pages ++ Asked EndFile ∷ Wrote Ack ∷ os)) (between queue job)
    (sub_line (sub.DataFile (length file.octets) file.name) ++ 10 ∷ (octets ++ 0 ∷ rest)) (opened_told job ++ Yes ∷ (told_for z pages ++ Stored ∷ a)))
    whole (data_block_read queue job false (sub_line (sub.DataFile (length file.octets) file.name)) file.name z pages short rest a os line.0 (are_cut (length file.octets) z file.octets h (omega arith))
    (line.1 ∙ ap (λ octets. Ok (sub.DataFile (length octets) file.name)) (sym whole)) g)

-- what a part and what follows it are together
sent_line : (line contents rest : List ℕ) (parts : List (List ℕ)) → line ++ 10 ∷ (contents ++ 0 ∷ (concat parts ++ rest)) ≡ concat ((line ++ 10 ∷ []) ∷ zeroed contents ∷ parts) ++ rest
sent_line line contents rest parts = sym (simp append_assoc)

-- the first line and what follows it
first_sent : (line rest : List ℕ) (parts : List (List ℕ)) → line ++ 10 ∷ (concat parts ++ rest) ≡ concat ((line ++ 10 ∷ []) ∷ parts) ++ rest
first_sent line rest parts = sym (simp append_assoc)

-- data files and then the control file
files_read : (short : Bool) (queue : List ℕ) (job : Bool) (z : ℕ) (name text : List ℕ) (said : Contents) (whole : Bool) (files : List DataFile) (rest : List ℕ) (a : List Reply) (os : List Output) →
    0 < z → AreFiles files → IsTrue (is_control_name name) → 1 ≤ length text → length text ≤ MAX_CONTROL_TEXT → control_of name text ≡ Ok said →
    Reads short os (between queue (not whole)) rest a →
    Reads short (files_outputs z queue job said files ++ os) (between queue job) (concat (data_parts files ++ control_parts name text) ++ rest) (files_told z job whole files ++ a)
files_read short queue job z name text said whole [] rest a os h i n some few c g =
    let line = control_line (length text) name (omega arith) n in
    along short (between queue job) _ _ _ _ _ _ (sym (append_assoc (opened job queue) _ os)) (sent_line (sub_line (sub.ControlFile (length text) name)) text rest [])
    (sym (append_assoc (opened_told job) _ a))
    (control_block_read queue job whole (sub_line (sub.ControlFile (length text) name)) name text said short rest a os line.0 some few line.1 c g)
files_read short queue job z name text said whole (file ∷ files) rest a os h i n some few c g =
    let more = concat (data_parts files ++ control_parts name text) in
    let ih = files_read short queue true z name text said whole files rest a os h i.1 n some few c g in
    along short (between queue job) _ _ _ _ _ _ (sym (simp append_assoc))
    (sent_line (sub_line (sub.DataFile (length file.octets) file.name)) file.octets rest (data_parts files ++ control_parts name text)) (sym (simp append_assoc))
    (file_read short queue job z file (more ++ rest) (files_told z true whole files ++ a) (files_outputs z queue true said files ++ os) h i.0 ih)

-- the job
pub job_read : (queue name : List ℕ) (control : Control) (files : List DataFile) → IsSendable queue name control files →
    (z : ℕ) (whole short : Bool) (rest : List ℕ) (a : List Reply) (os : List Output) → 0 < z → Reads short os (between queue (not whole)) rest a →
    Reads short (job_outputs z queue (contents control) files ++ os) start (job_octets queue name (control_text (contents control)) files ++ rest) (job_told z whole files ++ a)
job_read queue name control files h z whole short rest a os k g =
    let line = receive_line queue h.queue_word in
    let text = control_text (contents control) in
    let inner = files_read short queue false z name text (contents control) whole files rest a os k h.data_files h.control_name (omega arith) h.text (control_is_read_back control name h.number h.text) g in
    subst (λ t. Reads short (job_outputs z queue (contents control) files ++ os) start t (job_told z whole files ++ a)) (first_sent (command_line (Receive queue)) rest (data_parts files ++ control_parts name text))
    (first_line_read queue (command_line (Receive queue)) short (concat (data_parts files ++ control_parts name text) ++ rest) (files_told z false whole files ++ a) (files_outputs z queue false (contents control) files ++ os) line.0 line.1 inner)

opened_silent : (job : Bool) (queue : List ℕ) (os : List Output) → octets_written (opened job queue ++ os) ≡ octets_written os
opened_silent true queue os = refl
opened_silent false queue os = refl

pages_silent : (z : ℕ) (pages : List (List ℕ)) (os : List Output) → octets_written (asked_for z pages ++ os) ≡ octets_written os
pages_silent z [] os = refl
pages_silent z (page ∷ pages) os = pages_silent z pages os

files_acknowledged : (z : ℕ) (queue : List ℕ) (job : Bool) (said : Contents) (files : List DataFile) → octets_written (files_outputs z queue job said files) ≡ replicate (2 * length files + 2) 0
files_acknowledged z queue job said [] = opened_silent job queue _
files_acknowledged z queue job said (file ∷ files) =
    opened_silent job queue _ ∙ (ap (λ t. 0 ∷ t) (pages_silent z (pages_of z file.octets) _ ∙ ap (λ t. 0 ∷ t) (files_acknowledged z queue true said files))
    ∙ ap (λ n. replicate n 0) two_more)
  where
    two_more : suc (suc (2 * length files + 2)) ≡ 2 * suc (length files) + 2
    two_more = omega arith

pub job_acknowledged : (z : ℕ) (queue : List ℕ) (said : Contents) (files : List DataFile) → octets_written (job_outputs z queue said files) ≡ replicate (2 * length files + 3) 0
job_acknowledged z queue said files = ap (λ t. 0 ∷ t) (files_acknowledged z queue false said files) ∙ ap (λ n. replicate n 0) one_more
  where
    one_more : suc (2 * length files + 2) ≡ 2 * length files + 3
    one_more = omega arith

-- what a client sends is read as one job
pub reads_as_one_job : (queue name : List ℕ) (control : Control) (files : List DataFile) (octets : List ℕ) → IsTrue (is_sendable queue name control files) → AreCounted files →
    octets ≡ job_octets queue name (control_text (contents control)) files → ReadsAsOneJob queue (contents control) files octets
reads_as_one_job queue name control files octets h counted e = record {
  reading = λ z whole short rest a os k g. subst (λ t. Reads short (job_outputs z queue (contents control) files ++ os) start (t ++ rest) (job_told z whole files ++ a)) (sym e) (job_read queue name control files (sendable queue name control files h counted) z whole short rest a os k g);
  acknowledged = λ z. job_acknowledged z queue (contents control) files;
}
