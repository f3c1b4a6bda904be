-- Texts that a session reads with no fault, while nothing is refused.
use Rattle.std.proofs.Common.{◌≡◌, ◌≤◌, ◌==◌, ◌||◌, nat_lt, ℕ, zero, suc, Bool, true, false, List, [], ◌∷◌, ◌++◌, length, take, drop, min, get_or, Some, Ok, refl, ap, sym, ◌∙◌, subst, arith, append_assoc, add-zero, length-take, length-drop}
use Rattle.std.specs.List.{prefix_len}
use Rattle.std.proofs.lemmas.Bool.{le-leb, le-ltb, lt-ltb, eq-eqb, ne_eqb}
use Rattle.std.proofs.Math.Seq.{take-append_seam, drop-append_seam, drop-append-add}
use Rattle.std.proofs.lemmas.List.{length-append, get_or-append-add, take-append-drop}
use Rattle.std.proofs.lemmas.List.Folds.{prefix_len-append}
use Rattle.lpd_values.specs.declared.limits.TheConstants.{MAX_LINE, MAX_CONTROL_TEXT}
use Rattle.lpd_values.specs.Contents.{Contents}
use Rattle.lpd_commands.specs.Line.{sub_of}
use Rattle.lpd_commands.specs.Written.{sub_line}
use Rattle.lpd_commands.specs.declared.sub.Sub.{Sub}
use Rattle.lpd_commands.specs.declared.sub.Sub.TheVariants.{Abort, ControlFile, DataFile}
use Rattle.control_file.specs.Text.{control_of}
use Rattle.receiver.specs.Script.{Ack, Item, Asks, Acks, Refuses, FileOctets, PageOctets, ZeroOctet, ControlText, Over, block, after_line, Reply, Yes, Ticket, Later, Stored, Received, Refused}
use Rattle.receiver.specs.Reading.{Progress, Kind, Admission, Opening, Lending, Ending, Aborting, Plain, Due, Waits, Ends, Writes, Requests, due, due_at, at_line, at_page, at_text, after_text, answered, is_inner, with_ticket}
use Rattle.receiver.specs.Blocks.{IsLine}
use Rattle.lpr_client.specs.Granted.{IsGrant}
use Rattle.receiver.proofs.BlockLaws.{due_line, taken_len, text_whole as due_text}

-- a file as it is sent: its subcommand and its contents
pub record Block : Type 0 where
  pub sub : Sub
  pub contents : List ℕ

abbrev pub AreContents : Sub → List ℕ → Type 0
AreContents Abort contents = ⊥
AreContents (ControlFile n name) contents = (length contents ≡ n) × (1 ≤ n) × (n ≤ MAX_CONTROL_TEXT) × (said : Contents) × (control_of name contents ≡ Ok said)
AreContents (DataFile n name) contents = length contents ≡ n

pub record IsBlock (file : Block) : Type 0 where
  pub line : IsLine (sub_line file.sub)
  pub read : sub_of (sub_line file.sub) ≡ Ok file.sub
  pub contents : AreContents file.sub file.contents

-- a text is these files, one after another
abbrev pub AreBlocks : List Block → List ℕ → Type 0
AreBlocks [] t = t ≡ []
AreBlocks (file ∷ files) t = IsBlock file × (rest : List ℕ) × (t ≡ sub_line file.sub ++ 10 ∷ (file.contents ++ 0 ∷ rest)) × AreBlocks files rest

-- these items, and then whole files, read this text with no fault
abbrev pub IsClear : List Item → List ℕ → Type 0
IsClear [] t = (files : List Block) × AreBlocks files t
IsClear (Asks r ∷ items) t = IsClear items t
IsClear (Acks ∷ items) t = IsClear items t
IsClear (Refuses n ∷ items) t = ⊥
IsClear (FileOctets n ∷ items) t = (octets : List ℕ) × (rest : List ℕ) × (t ≡ octets ++ rest) × (length octets ≡ n) × IsClear items rest
IsClear (PageOctets n size ∷ items) t = (octets : List ℕ) × (rest : List ℕ) × (t ≡ octets ++ rest) × (length octets ≡ n) × IsClear items rest
IsClear (ZeroOctet ∷ items) t = (rest : List ℕ) × (t ≡ 0 ∷ rest) × IsClear items rest
IsClear (ControlText name n ∷ items) t =
    (text : List ℕ) × (rest : List ℕ) × (t ≡ text ++ 0 ∷ rest) × (length text ≡ n) × (said : Contents) × (control_of name text ≡ Ok said) × IsClear items rest
IsClear (Over ∷ items) t = ⊥

-- what is due is no fault, and what follows it is clear
abbrev pub IsClearDue : Due → Type 0
IsClearDue Waits = Unit {0}
IsClearDue Ends = Unit {0}
IsClearDue (Writes w items t) = (w ≡ Ack) × IsClear items t
IsClearDue (Requests r items t) = IsClear items t

-- a page's octets
due_page : (size : ℕ) (items : List Item) (octets rest : List ℕ) → IsClear items rest → IsClearDue (at_page (length octets) size items (octets ++ rest))
due_page size items octets rest h =
    let k = length-append octets rest in
    rw (le-leb (length octets) (length (octets ++ rest)) (omega arith)) (subst (IsClear items) (sym (drop-append_seam octets rest)) h)

no_octets : (octets : List ℕ) → length octets ≡ 0 → octets ≡ []
no_octets [] h = refl
no_octets (b ∷ bs) h = absurd (omega arith)

-- what is due at clear items is clear
due_clear : (next : List ℕ → Due) → ((t : List ℕ) → IsClear [] t → IsClearDue (next t)) → (items : List Item) (t : List ℕ) → IsClear items t → IsClearDue (due_at next items t)
due_clear next f [] t h = f t h
due_clear next f (Asks r ∷ items) t h = h
due_clear next f (Acks ∷ items) t h = (refl, h)
due_clear next f (Refuses n ∷ items) t h = absurd h
due_clear next f (FileOctets zero ∷ items) t h =
    due_clear next f items t (subst (IsClear items) (sym (h.2 ∙ ap (λ octets. octets ++ h.1) (no_octets h.0 h.3))) h.4)
due_clear next f (FileOctets (suc n) ∷ items) [] h = tt
due_clear next f (FileOctets (suc n) ∷ items) (b ∷ t) h = h
due_clear next f (PageOctets n size ∷ items) t h =
    subst (λ u. IsClearDue (at_page n size items u)) (sym h.2) (subst (λ m. IsClearDue (at_page m size items (h.0 ++ h.1))) h.3 (due_page size items h.0 h.1 h.4))
due_clear next f (ZeroOctet ∷ items) [] h = tt
due_clear next f (ZeroOctet ∷ items) (b ∷ t) h =
    let zero_first : b ≡ 0 = cc (h.1) in
    let same : t ≡ h.0 = cc (h.1) in
    rw (eq-eqb b 0 zero_first) (due_clear next f items t (subst (IsClear items) (sym same) h.2))
due_clear next f (ControlText name n ∷ items) t h =
    subst (λ u. IsClearDue (at_text name n items u)) (sym h.2)
    (subst (λ m. IsClearDue (at_text name m items (h.0 ++ 0 ∷ h.1))) h.3
    (subst IsClearDue (sym (due_text name items h.0 h.1 ∙ ap (λ r. after_text r items h.1) h.5)) h.6))
due_clear next f (Over ∷ items) t h = absurd h

-- what follows a file's line is clear
block_clear : (job : Bool) (queue : List ℕ) (sub : Sub) (contents rest : List ℕ) (files : List Block) → AreContents sub contents → AreBlocks files rest → IsClear (block job queue (Ok sub)) (contents ++ 0 ∷ rest)
block_clear job queue Abort contents rest files h k = absurd h
block_clear true queue (ControlFile n name) contents rest files h k = rw (taken_len n h.1 h.2) (contents, rest, refl, h.0, h.3, h.4, (files, k))
block_clear false queue (ControlFile n name) contents rest files h k = rw (taken_len n h.1 h.2) (contents, rest, refl, h.0, h.3, h.4, (files, k))
block_clear true queue (DataFile n name) contents rest files h k = (contents, 0 ∷ rest, refl, h, (rest, refl, (files, k)))
block_clear false queue (DataFile n name) contents rest files h k = (contents, 0 ∷ rest, refl, h, (rest, refl, (files, k)))

-- what is due where whole files are read
files_clear : (queue : List ℕ) (job : Bool) (t : List ℕ) → IsClear [] t → IsClearDue (at_line (λ line rest. due_at (λ _. Waits) (after_line (Some queue) job line) rest) t)
files_clear queue job t h = by_files h.0 h.1
  where
    by_files : (files : List Block) → AreBlocks files t → IsClearDue (at_line (λ line rest. due_at (λ _. Waits) (after_line (Some queue) job line) rest) t)
    by_files [] k = subst (λ u. IsClearDue (at_line (λ line rest. due_at (λ _. Waits) (after_line (Some queue) job line) rest) u)) (sym k) tt
    by_files (file ∷ files) k =
        let line = sub_line file.sub in
        let rest = file.contents ++ 0 ∷ k.1 in
        let read : IsClearDue (due_at (λ _. Waits) (block job queue (sub_of line)) rest) =
        subst (λ m. IsClearDue (due_at (λ _. Waits) (block job queue m) rest)) (sym k.0.read)
        (due_clear (λ _. Waits) (λ _ _. tt) (block job queue (Ok file.sub)) rest (block_clear job queue file.sub file.contents k.1 files k.0.contents k.3)) in
        subst (λ u. IsClearDue (at_line (λ l r. due_at (λ _. Waits) (after_line (Some queue) job l) r) u)) (sym k.2)
        (subst IsClearDue (sym (due_line (λ l r. due_at (λ _. Waits) (after_line (Some queue) job l) r) line rest k.0.line)) read)

-- a session between two octets of files that are read with no fault
pub record IsReading (s : Progress) (t : List ℕ) : Type 0 where
  pub queue : List ℕ
  pub admitted : s.queue ≡ Some queue
  pub clear : IsClear s.items t

pub reading_due : (s : Progress) (t : List ℕ) → IsReading s t → IsClearDue (due s t)
reading_due s t h =
    due_clear (at_line (λ line rest. due_at (λ _. Waits) (after_line s.queue s.job line) rest))
    (λ u k. subst (λ q. IsClearDue (at_line (λ line rest. due_at (λ _. Waits) (after_line q s.job line) rest) u)) (sym h.admitted) (files_clear h.queue s.job u k))
    s.items t h.clear

-- a ticket takes a part of a file's octets
ticket_clear : (size : ℕ) (items : List Item) (t : List ℕ) → IsClear items t → IsClear (with_ticket size items) t
ticket_clear size [] t h = h
ticket_clear size (Asks r ∷ items) t h = h
ticket_clear size (Acks ∷ items) t h = h
ticket_clear size (Refuses n ∷ items) t h = h
ticket_clear size (FileOctets n ∷ items) t h =
    let m = min size n in
    let e = length-take m h.0 in
    let d = length-drop m h.0 in
    let len = h.3 in (
      take m h.0,
      drop m h.0 ++ h.1,
      h.2 ∙ (ap (λ octets. octets ++ h.1) (sym (take-append-drop m h.0)) ∙ append_assoc (take m h.0) (drop m h.0) h.1),
      omega arith,
      (drop m h.0, h.1, refl, omega arith, h.4),
    )
ticket_clear size (PageOctets n z ∷ items) t h = h
ticket_clear size (ZeroOctet ∷ items) t h = h
ticket_clear size (ControlText name n ∷ items) t h = h
ticket_clear size (Over ∷ items) t h = h

-- an answer that refuses nothing leaves the session so
pub granted_reading : (kind : Kind) (x : Reply) (s : Progress) (t : List ℕ) → IsGrant x → IsReading s t → IsReading (answered kind x s) t
granted_reading (Admission queue) Yes s t g h = record { queue = queue; admitted = refl; clear = h.clear }
granted_reading Opening Yes s t g h = record { queue = h.queue; admitted = h.admitted; clear = h.clear }
granted_reading Lending Yes s t g h = record { queue = h.queue; admitted = h.admitted; clear = h.clear }
granted_reading Ending Yes s t g h = record { queue = h.queue; admitted = h.admitted; clear = h.clear }
granted_reading Aborting Yes s t g h = record { queue = h.queue; admitted = h.admitted; clear = h.clear }
granted_reading Plain Yes s t g h = record { queue = h.queue; admitted = h.admitted; clear = h.clear }
granted_reading kind (Ticket size) s t g h = record { queue = h.queue; admitted = h.admitted; clear = ticket_clear size s.items t h.clear }
granted_reading kind Later s t g h = record { queue = h.queue; admitted = h.admitted; clear = h.clear }
granted_reading kind Stored s t g h = record { queue = h.queue; admitted = h.admitted; clear = h.clear }
granted_reading kind Received s t g h = record { queue = h.queue; admitted = h.admitted; clear = h.clear }
granted_reading kind (Refused n) s t g h = absurd g
