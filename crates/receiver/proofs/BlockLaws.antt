-- Whole blocks are read as the laws say.
use Rattle.std.proofs.Common.{◌≡◌, ℕ, zero, suc, Bool, true, false, not, inr, Ok, ◌==◌, ◌||◌, nat_lt, get_or, ◌-◌, ◌<◌, ◌≤◌, List, [], ◌∷◌, ◌++◌, length, min, Some, None, refl, sym, ap, ◌∙◌, subst, arith, inl, append_assoc, add-zero}
use Rattle.lpd_values.specs.declared.limits.TheConstants.{MAX_LINE, MAX_CONTROL_TEXT}
use Rattle.std.specs.List.{concat, prefix_len}
use Rattle.std.proofs.lemmas.Bool.{le-leb, le-ltb, lt-ltb, eq-eqb, ne_eqb}
use Rattle.std.proofs.Math.Seq.{take-append_seam, drop-append_seam, drop-append-add}
use Rattle.std.proofs.lemmas.List.{length-append, get_or-append-add}
use Rattle.std.proofs.lemmas.List.Folds.{prefix_len-append}
use Rattle.lpd_commands.specs.Line.{command_of}
use Rattle.lpd_commands.specs.declared.sub.Sub.TheVariants as sub
use Rattle.lpd_values.specs.Contents.{Contents}
use Rattle.control_file.specs.Text.{control_of}
use Rattle.receiver.specs.Script.{AskPage, Filled, EndFile, Control, Ack, Output, Wrote, Asked, Reply, Yes, Ticket, Item, Acks, PageOctets, ControlText, data_file, opening, block, first_block, after_line}
use Rattle.receiver.specs.Reading.{Progress, Due, Waits, Requests, due, due_at, at_line, at_page, at_text, after_text, is_inner, start}
use Rattle.receiver.specs.Reads.{GoesOn, Reads}
use Rattle.receiver.specs.Blocks.{AreCut, asked_for, told_for, ended, between, IsLine, ReadsFirstLine, ReadsDataBlock, ReadsControlBlock, ReadsAbortBlock, LaterAgain}

abbrev at : List ℕ → Bool → List Item → Progress
at queue job items = record { queue = Some queue; job = job; items = items; owed = None; tail = [] }

go : (short : Bool) (o : Output) (os : List Output) (s : Progress) (t : List ℕ) (a : List Reply) (d : Due) → due s t ≡ d → GoesOn (Reads short os) (os ≡ []) (record s { tail = [] }) o a d → Reads short (o ∷ os) s t a
go short o os s t a d e g = inl (subst (λ x. GoesOn (Reads short os) (os ≡ []) (record s { tail = [] }) o a x) (sym e) g)

due_contents : (queue : List ℕ) (job : Bool) (m b : ℕ) (t : List ℕ) → 0 < m → due (at queue job (data_file m)) (b ∷ t) ≡ Requests AskPage (data_file m) (b ∷ t)
due_contents queue job zero b t h = absurd (omega arith)
due_contents queue job (suc m) b t h = refl

due_piece : (items : List Item) (size n : ℕ) (p r : List ℕ) → n ≡ length p → at_page n size items (p ++ r) ≡ Requests (Filled (record { octets = p; page_size = size })) items r
due_piece items size n p r e =
    let k = length-append p r in
    rw (e, le-leb (length p) (length (p ++ r)) (omega arith), take-append_seam p r, drop-append_seam p r) refl

-- one page of a file
page_read : (short : Bool) (queue : List ℕ) (job : Bool) (p r : List ℕ) (z m n : ℕ) (a : List Reply) (os : List Output) → 0 < length p → min z m ≡ length p → m - min z m ≡ n →
    Reads short os (at queue job (data_file n)) r a →
    Reads short (Asked AskPage ∷ Asked (Filled (record { octets = p; page_size = z })) ∷ os) (at queue job (data_file m)) (p ++ r) (Ticket z ∷ Yes ∷ a)
page_read short queue job [] r z m n a os h k l g = absurd (omega arith)
page_read short queue job (b ∷ p) r z m n a os h k l g =
    go short (Asked AskPage) (Asked (Filled (record { octets = b ∷ p; page_size = z })) ∷ os) (at queue job (data_file m)) (b ∷ p ++ r) (Ticket z ∷ Yes ∷ a) (Requests AskPage (data_file m) (b ∷ p ++ r))
    (due_contents queue job m b (p ++ r) (omega arith)) (
      refl,
      go short (Asked (Filled (record { octets = b ∷ p; page_size = z }))) os (at queue job (PageOctets (min z m) z ∷ data_file (m - min z m))) (b ∷ p ++ r) (Yes ∷ a) (Requests (Filled (record { octets = b ∷ p; page_size = z })) (data_file (m - min z m)) r)
          (due_piece (data_file (m - min z m)) z (min z m) (b ∷ p) r k)
          (refl, subst (λ x. Reads short os (at queue job (data_file x)) r a) (sym l) g),
    )

file_end : (short : Bool) (queue : List ℕ) (whole : Bool) (rest : List ℕ) (a : List Reply) (os : List Output) →
    Reads short os (between queue (not whole)) rest a → Reads short (Asked EndFile ∷ Wrote Ack ∷ os) (at queue true (data_file 0)) (0 ∷ rest) (ended whole ∷ a)
file_end short queue true rest a os g = inl (refl, inl (refl, g))
file_end short queue false rest a os g = inl (refl, inl (refl, g))

file_read : (short : Bool) (queue : List ℕ) (whole : Bool) (z : ℕ) (ps : List (List ℕ)) (rest : List ℕ) (a : List Reply) (os : List Output) → AreCut z ps →
    Reads short os (between queue (not whole)) rest a →
    Reads short (asked_for z ps ++ Asked EndFile ∷ Wrote Ack ∷ os) (at queue true (data_file (length (concat ps)))) (concat ps ++ 0 ∷ rest) (told_for z ps ++ ended whole ∷ a)
file_read short queue whole z [] rest a os c g = file_end short queue whole rest a os g
file_read short queue whole z (p ∷ []) rest a os c g =
    let e = length-append p [] in
    rw append_assoc (page_read short queue true p (0 ∷ rest) z (length (p ++ [])) 0 (ended whole ∷ a) (Asked EndFile ∷ Wrote Ack ∷ os) c.0 (omega arith) (omega arith) (file_read short queue whole z [] rest a os tt g))
file_read short queue whole z (p ∷ q ∷ ps) rest a os c g =
    let e = length-append p (concat (q ∷ ps)) in
    rw append_assoc (page_read short queue true p (concat (q ∷ ps) ++ 0 ∷ rest) z (length (p ++ concat (q ∷ ps))) (length (concat (q ∷ ps))) (told_for z (q ∷ ps) ++ ended whole ∷ a) (asked_for z (q ∷ ps) ++ Asked EndFile ∷ Wrote Ack ∷ os) (omega arith) (omega arith) (omega arith) (file_read short queue whole z (q ∷ ps) rest a os c.2 g))

-- a whole line
pub due_line : (next : List ℕ → List ℕ → Due) (line r : List ℕ) → IsLine line → at_line next (line ++ 10 ∷ r) ≡ next line r
due_line next line r h =
    let n : prefix_len is_inner (line ++ 10 ∷ r) ≡ length line = prefix_len-append is_inner line (10 ∷ r) ∙ rw (eq-eqb _ _ h.0) (add-zero (length line)) in
    let k = length-append line (10 ∷ r) in
    rw (n, le-ltb MAX_LINE (length line) h.1, lt-ltb (length line) (length (line ++ 10 ∷ r)) (omega arith), take-append_seam line (10 ∷ r), drop-append-add line (10 ∷ r) 1) refl

-- what is due where a line is whole
due_whole : (queue : List ℕ) (job : Bool) (line r : List ℕ) → IsLine line → due (between queue job) (line ++ 10 ∷ r) ≡ due_at (λ _. Waits) (after_line (Some queue) job line) r
due_whole queue job line r h = due_line (λ x. due_at (λ _. Waits) (after_line (Some queue) job x)) line r h

pub first_line_read : ReadsFirstLine
first_line_read queue line short rest a os l e g =
    let d : due start (line ++ 10 ∷ rest) ≡ due_at (λ _. Waits) (first_block (command_of line)) rest = due_line (λ x. due_at (λ _. Waits) (after_line None false x)) line rest l in
    go short _ _ start (line ++ 10 ∷ rest) (Yes ∷ a) _ (d ∙ ap (λ m. due_at (λ _. Waits) (first_block m) rest) e) (refl, inl (refl, g))

pub data_block_read : ReadsDataBlock
data_block_read queue false whole line name z ps short rest a os l c e g =
    let text = concat ps ++ 0 ∷ rest in
    go short _ _ (between queue false) (line ++ 10 ∷ text) _ _ (due_whole queue false line text l ∙ ap (λ m. due_at (λ _. Waits) (block false queue m) text) e)
    (refl, inl (refl, inl (refl, file_read short queue whole z ps rest a os c g)))
data_block_read queue true whole line name z ps short rest a os l c e g =
    let text = concat ps ++ 0 ∷ rest in
    go short _ _ (between queue true) (line ++ 10 ∷ text) _ _ (due_whole queue true line text l ∙ ap (λ m. due_at (λ _. Waits) (block true queue m) text) e)
    (refl, inl (refl, file_read short queue whole z ps rest a os c g))

-- a control text and its octet 00
pub text_whole : (name : List ℕ) (items : List Item) (text rest : List ℕ) → at_text name (length text) items (text ++ 0 ∷ rest) ≡ after_text (control_of name text) items rest
text_whole name items text rest =
    let k = length-append text (0 ∷ rest) in
    let g : get_or (text ++ 0 ∷ rest) (length text) 0 ≡ 0 = ap (λ n. get_or (text ++ 0 ∷ rest) n 0) (sym (add-zero (length text))) ∙ get_or-append-add text (0 ∷ rest) 0 0 in
    rw (lt-ltb (length text) (length (text ++ 0 ∷ rest)) (omega arith), g, take-append_seam text (0 ∷ rest), drop-append-add text (0 ∷ rest) 1) refl

control_end : (short : Bool) (queue : List ℕ) (whole : Bool) (name text : List ℕ) (contents : Contents) (rest : List ℕ) (a : List Reply) (os : List Output) → control_of name text ≡ Ok contents →
    Reads short os (between queue (not whole)) rest a → Reads short (Asked (Control contents) ∷ Wrote Ack ∷ os) (at queue true (ControlText name (length text) ∷ Acks ∷ [])) (text ++ 0 ∷ rest) (ended whole ∷ a)
control_end short queue true name text contents rest a os e g =
    go short _ _ (at queue true (ControlText name (length text) ∷ Acks ∷ [])) (text ++ 0 ∷ rest) _ _ (text_whole name (Acks ∷ []) text rest ∙ ap (λ r. after_text r (Acks ∷ []) rest) e) (refl, inl (refl, g))
control_end short queue false name text contents rest a os e g =
    go short _ _ (at queue true (ControlText name (length text) ∷ Acks ∷ [])) (text ++ 0 ∷ rest) _ _ (text_whole name (Acks ∷ []) text rest ∙ ap (λ r. after_text r (Acks ∷ []) rest) e) (refl, inl (refl, g))

-- a control file's length that is taken
pub taken_len : (n : ℕ) → 1 ≤ n → n ≤ MAX_CONTROL_TEXT → (n == 0 || nat_lt MAX_CONTROL_TEXT n) ≡ false
taken_len n h k = rw (ne_eqb n 0 (λ e. omega arith), le-ltb MAX_CONTROL_TEXT n k) refl

control_items : (job : Bool) (queue name : List ℕ) (n : ℕ) → 1 ≤ n → n ≤ MAX_CONTROL_TEXT → block job queue (Ok (sub.ControlFile n name)) ≡ opening job queue ++ Acks ∷ ControlText name n ∷ Acks ∷ []
control_items job queue name n h k = rw (taken_len n h k) refl

pub control_block_read : ReadsControlBlock
control_block_read queue false whole line name text contents short rest a os l h k e c g =
    let all = text ++ 0 ∷ rest in
    go short _ _ (between queue false) (line ++ 10 ∷ all) _ _ (due_whole queue false line all l ∙ ap (λ m. due_at (λ _. Waits) m all) (ap (block false queue) e ∙ control_items false queue name (length text) h k))
    (refl, inl (refl, control_end short queue whole name text contents rest a os c g))
control_block_read queue true whole line name text contents short rest a os l h k e c g =
    let all = text ++ 0 ∷ rest in
    go short _ _ (between queue true) (line ++ 10 ∷ all) _ _ (due_whole queue true line all l ∙ ap (λ m. due_at (λ _. Waits) m all) (ap (block true queue) e ∙ control_items true queue name (length text) h k))
    (refl, control_end short queue whole name text contents rest a os c g)

pub abort_block_read : ReadsAbortBlock
abort_block_read queue true line short rest a os l e g =
    go short _ _ (between queue true) (line ++ 10 ∷ rest) _ _ (due_whole queue true line rest l ∙ ap (λ m. due_at (λ _. Waits) (block true queue m) rest) e) (refl, inl (refl, g))
abort_block_read queue false line short rest a os l e g =
    go short _ _ (between queue false) (line ++ 10 ∷ rest) _ _ (due_whole queue false line rest l ∙ ap (λ m. due_at (λ _. Waits) (block false queue m) rest) e) (refl, g)

false_not_true : false ≡ true → ⊥
false_not_true e = cc

pub later_again_read : LaterAgain
later_again_read short queue job n b items t a os = (λ h. elim h [ inl g ↦ g.1 | inr r ↦ absurd (false_not_true r.3) ], λ h. inl (refl, h))
