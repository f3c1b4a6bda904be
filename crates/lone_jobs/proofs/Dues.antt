-- What is due at each place of a job's octets.
use Rattle.std.proofs.Common.{◌≡◌, ◌==◌, ◌≤◌, ◌-◌, ℕ, Bool, true, false, min, List, [], ◌∷◌, ◌++◌, length, take, drop, get_or, Some, None, Ok, refl, ap, sym, ◌∙◌, arith, add-zero, append_assoc, length-drop}
use Rattle.std.specs.List.{concat}
use Rattle.std.proofs.lemmas.Bool.{le-leb, le-ltb, lt-ltb, ne_eqb}
use Rattle.std.proofs.Math.Seq.{take-append_seam, drop-append-add}
use Rattle.std.proofs.lemmas.List.{length-append, get_or-append-add, take-append-le, drop-append-le}
use Rattle.lpd_values.specs.declared.limits.TheConstants.{MAX_CONTROL_TEXT}
use Rattle.lpd_values.specs.Contents.{Contents}
use Rattle.lpd_commands.specs.Line.{command_of, sub_of}
use Rattle.lpd_commands.specs.Written.{sub_line}
use Rattle.lpd_commands.specs.declared.command.Command.TheVariants.{Receive}
use Rattle.lpd_commands.specs.declared.sub.Sub.{Sub}
use Rattle.lpd_commands.specs.declared.sub.Sub.TheVariants as sub
use Rattle.control_file.specs.Text.{control_of}
use Rattle.lpr_client.specs.declared.file.DataFile.{DataFile}
use Rattle.lpr_client.specs.Parts.{zeroed, data_parts, control_parts}
use Rattle.receiver.proofs.BlockLaws.{due_line}
use Rattle.receiver.specs.Blocks.{IsLine, between}
use Rattle.receiver.specs.Script.{Request, Queue, Open, BeginFile, AskPage, Filled, EndFile, Control, Ack, Item, Asks, Acks, FileOctets, PageOctets, ZeroOctet, ControlText, block, first_block, after_line}
use Rattle.receiver.specs.Reading.{Progress, Waits, Writes, Requests, due, due_at, start}
use Rattle.lpr_client.proofs.Granting.{due_first as first_due}

-- the files and the control file that are left of a job
abbrev pub body : (name text : List ℕ) → List DataFile → List ℕ
body name text files = concat (data_parts files ++ control_parts name text)

-- what comes after the line of a control file
abbrev pub control_left : List ℕ → List ℕ
control_left text = text ++ 0 ∷ []

sent : (line octets : List ℕ) (parts : List (List ℕ)) → concat ((line ++ 10 ∷ []) ∷ zeroed octets ∷ parts) ≡ line ++ 10 ∷ (octets ++ 0 ∷ concat parts)
sent line octets parts = simp append_assoc

-- the items of a data file once it has begun
abbrev pub file_end : List Item
file_end = ZeroOctet ∷ Asks EndFile ∷ Acks ∷ []

abbrev pub file_begun : ℕ → List Item
file_begun count = Acks ∷ FileOctets count ∷ file_end

abbrev pub control_begun : List ℕ → List ℕ → List Item
control_begun name text = Acks ∷ ControlText name (length text) ∷ Acks ∷ []

sub_due : (queue : List ℕ) (job : Bool) (line rest : List ℕ) (of : Sub) → IsLine line → sub_of line ≡ Ok of → due (between queue job) (line ++ 10 ∷ rest) ≡ due_at (λ _. Waits) (block job queue (Ok of)) rest
sub_due queue job line rest of l e =
    due_line (λ x. due_at (λ _. Waits) (after_line (Some queue) job x)) line rest l ∙ ap (λ m. due_at (λ _. Waits) (block job queue m) rest) e

-- where a job is in hand, at these items
abbrev pub in_hand : List ℕ → List Item → Progress
in_hand queue items = record { queue = Some queue; job = true; items = items; owed = None; tail = [] }

module _ (queue name text : List ℕ) where
  -- before a data file
  pub file_opens : (file : DataFile) (files : List DataFile) → IsLine (sub_line (sub.DataFile (length file.octets) file.name)) → sub_of (sub_line (sub.DataFile (length file.octets) file.name)) ≡ Ok (sub.DataFile (length file.octets) file.name)
      → due (between queue false) (body name text (file ∷ files)) ≡ Requests (Open queue) (Asks (BeginFile file.name (length file.octets)) ∷ file_begun (length file.octets)) (file.octets ++ 0 ∷ body name text files)
  file_opens file files l e =
      let line = sub_line (sub.DataFile (length file.octets) file.name) in
      ap (due (between queue false)) (sent line file.octets (data_parts files ++ control_parts name text))
      ∙ sub_due queue false line (file.octets ++ 0 ∷ body name text files) (sub.DataFile (length file.octets) file.name) l e

  pub file_begins : (file : DataFile) (files : List DataFile) → IsLine (sub_line (sub.DataFile (length file.octets) file.name)) → sub_of (sub_line (sub.DataFile (length file.octets) file.name)) ≡ Ok (sub.DataFile (length file.octets) file.name)
      → due (between queue true) (body name text (file ∷ files)) ≡ Requests (BeginFile file.name (length file.octets)) (file_begun (length file.octets)) (file.octets ++ 0 ∷ body name text files)
  file_begins file files l e =
      let line = sub_line (sub.DataFile (length file.octets) file.name) in
      ap (due (between queue true)) (sent line file.octets (data_parts files ++ control_parts name text))
      ∙ sub_due queue true line (file.octets ++ 0 ∷ body name text files) (sub.DataFile (length file.octets) file.name) l e

  -- before the control file
  control_block_of : (job : Bool) → 1 ≤ length text → length text ≤ MAX_CONTROL_TEXT → due_at (λ _. Waits) (block job queue (Ok (sub.ControlFile (length text) name))) (control_left text)
      ≡ due_at (λ _. Waits) (Rattle.receiver.specs.Script.opening job queue ++ control_begun name text) (control_left text)
  control_block_of job some few =
      let nonzero : (length text == 0) ≡ false = ne_eqb (length text) 0 (λ e. omega (arith, e)) in
      rw (nonzero, le-ltb MAX_CONTROL_TEXT (length text) few) refl

  control_due : (job : Bool) → IsLine (sub_line (sub.ControlFile (length text) name)) → sub_of (sub_line (sub.ControlFile (length text) name)) ≡ Ok (sub.ControlFile (length text) name) → 1 ≤ length text → length text ≤ MAX_CONTROL_TEXT
      → due (between queue job) (body name text []) ≡ due_at (λ _. Waits) (Rattle.receiver.specs.Script.opening job queue ++ control_begun name text) (control_left text)
  control_due job l e some few =
      let line = sub_line (sub.ControlFile (length text) name) in
      ap (due (between queue job)) (sent line text [])
      ∙ (sub_due queue job line (control_left text) (sub.ControlFile (length text) name) l e ∙ control_block_of job some few)

  pub control_opens : IsLine (sub_line (sub.ControlFile (length text) name)) → sub_of (sub_line (sub.ControlFile (length text) name)) ≡ Ok (sub.ControlFile (length text) name) → 1 ≤ length text → length text ≤ MAX_CONTROL_TEXT
      → due (between queue false) (body name text []) ≡ Requests (Open queue) (control_begun name text) (control_left text)
  control_opens l e some few = control_due false l e some few

  pub control_begins : IsLine (sub_line (sub.ControlFile (length text) name)) → sub_of (sub_line (sub.ControlFile (length text) name)) ≡ Ok (sub.ControlFile (length text) name) → 1 ≤ length text → length text ≤ MAX_CONTROL_TEXT
      → due (between queue true) (body name text []) ≡ Writes Ack (ControlText name (length text) ∷ Acks ∷ []) (control_left text)
  control_begins l e some few = control_due true l e some few

  pub text_due : (said : Contents) → control_of name text ≡ Ok said → due (in_hand queue (ControlText name (length text) ∷ Acks ∷ [])) (control_left text) ≡ Requests (Control said) (Acks ∷ []) []
  text_due said e =
      let k = length-append text (0 ∷ []) in
      let g : get_or (text ++ 0 ∷ []) (length text) 0 ≡ 0 = ap (λ n. get_or (text ++ 0 ∷ []) n 0) (sym (add-zero (length text))) ∙ get_or-append-add text (0 ∷ []) 0 0 in
      rw (lt-ltb (length text) (length (text ++ 0 ∷ [])) (omega arith), g, take-append_seam text (0 ∷ []), drop-append-add text (0 ∷ []) 1, e) refl

-- a file that is open: the octets that are left of it
pub octets_due : (queue : List ℕ) (b : ℕ) (octets rest : List ℕ) → due (in_hand queue (FileOctets (length (b ∷ octets)) ∷ file_end)) (b ∷ octets ++ 0 ∷ rest) ≡ Requests AskPage (FileOctets (length (b ∷ octets)) ∷ file_end) (b ∷ octets ++ 0 ∷ rest)
octets_due queue b octets rest = refl

pub end_due : (queue rest : List ℕ) → due (in_hand queue (FileOctets 0 ∷ file_end)) (0 ∷ rest) ≡ Requests EndFile (Acks ∷ []) rest
end_due queue rest = refl

-- the items once a page of z octets was lent
abbrev pub paged : ℕ → List ℕ → List Item
paged z octets = PageOctets (min z (length octets)) z ∷ FileOctets (length octets - min z (length octets)) ∷ file_end

pub page_due : (queue : List ℕ) (z : ℕ) (octets rest : List ℕ) → due (in_hand queue (paged z octets)) (octets ++ 0 ∷ rest)
    ≡ Requests (Filled (record { octets = take (min z (length octets)) octets; page_size = z })) (FileOctets (length (drop (min z (length octets)) octets)) ∷ file_end) (drop (min z (length octets)) octets ++ 0 ∷ rest)
page_due queue z octets rest =
    let m = min z (length octets) in
    let k = length-append octets (0 ∷ rest) in
    let d : length (drop m octets) ≡ length octets - m = length-drop m octets in
    rw (le-leb m (length (octets ++ 0 ∷ rest)) (omega arith), take-append-le m octets (0 ∷ rest) (omega arith), drop-append-le m octets (0 ∷ rest) (omega arith), d) refl
