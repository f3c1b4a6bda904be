-- What is due where a beginning of a text has come.
use Rattle.std.proofs.Common.{◌≡◌, ◌⊎◌, ◌==◌, ◌||◌, ◌+◌, ℕ, zero, suc, Bool, true, false, cond, nat_lt, nat_le, List, [], ◌∷◌, ◌++◌, length, take, drop, get_or, Option, Some, None, Result, Ok, Err, refl, ap, sym, ◌∙◌, subst, inl, inr}
use Rattle.std.specs.List.{prefix_len}
use Rattle.lpd_values.specs.declared.limits.TheConstants.{MAX_LINE, MAX_CONTROL_TEXT}
use Rattle.lpd_values.specs.Contents.{Contents}
use Rattle.lpd_values.specs.declared.refusal.Refusal.{Refusal}
use Rattle.lpd_values.specs.declared.refusal.Refusal.TheVariants.{NoZero}
use Rattle.lpd_commands.specs.Line.{command_of, sub_of}
use Rattle.lpd_commands.specs.declared.command.Command.{Command}
use Rattle.lpd_commands.specs.declared.command.Command.TheVariants as command
use Rattle.lpd_commands.specs.declared.sub.Sub.{Sub}
use Rattle.lpd_commands.specs.declared.sub.Sub.TheVariants as sub
use Rattle.control_file.specs.Text.{control_of}
use Rattle.receiver.specs.Script.{Request, Written, Fault, Item, Asks, Acks, Refuses, FileOctets, PageOctets, ZeroOctet, ControlText, Over, opening, block, first_block, after_line}
use Rattle.receiver.specs.Reading.{Progress, Due, Waits, Ends, Writes, Requests, due, due_at, at_line, after_text, is_inner}
use Rattle.receiver.proofs.Laws.{HasCome, extended, due_stable}

-- the session doesn't end
abbrev pub GoesOn : Due → Type 0
GoesOn Ends = ⊥
GoesOn _ = Unit {0}

goes_cond : (b : Bool) (x y : Due) → GoesOn x → GoesOn y → GoesOn (cond b x y)
goes_cond true x y h k = h
goes_cond false x y h k = k

-- nothing of these items ends it
abbrev pub HasNoEnd : List Item → Type 0
HasNoEnd [] = Unit {0}
HasNoEnd (Over ∷ items) = ⊥
HasNoEnd (_ ∷ items) = HasNoEnd items

text_goes : (r : Result Contents Refusal) (items : List Item) (t : List ℕ) → GoesOn (after_text r items t)
text_goes (Ok contents) items t = tt
text_goes (Err refusal) items t = tt

items_go : (next : List ℕ → Due) → ((t : List ℕ) → GoesOn (next t)) → (items : List Item) (t : List ℕ) → HasNoEnd items → GoesOn (due_at next items t)
items_go next f [] t h = f t
items_go next f (Asks r ∷ items) t h = tt
items_go next f (Acks ∷ items) t h = tt
items_go next f (Refuses n ∷ items) t h = tt
items_go next f (FileOctets zero ∷ items) t h = items_go next f items t h
items_go next f (FileOctets (suc n) ∷ items) [] h = tt
items_go next f (FileOctets (suc n) ∷ items) (b ∷ t) h = tt
items_go next f (PageOctets n size ∷ items) t h = goes_cond (nat_le n (length t)) _ Waits tt tt
items_go next f (ZeroOctet ∷ items) [] h = tt
items_go next f (ZeroOctet ∷ items) (b ∷ t) h = goes_cond (b == 0) (due_at next items t) _ (items_go next f items t h) tt
items_go next f (ControlText name n ∷ items) t h =
    goes_cond (nat_lt n (length t)) _ Waits
    (goes_cond (get_or t n 0 == 0) (after_text (control_of name (take n t)) items (drop (n + 1) t)) (Writes (Fault NoZero) (Over ∷ []) (drop (n + 1) t)) (text_goes (control_of name (take n t)) items (drop (n + 1) t)) tt) tt
items_go next f (Over ∷ items) t h = absurd h

-- what follows a line begins with what is due at once
first_goes : (r : Result Command Refusal) (t : List ℕ) → GoesOn (due_at (λ _. Waits) (first_block r) t)
first_goes (Ok (command.PrintWaiting queue)) t = tt
first_goes (Ok (command.Receive queue)) t = tt
first_goes (Ok (command.State queue list long)) t = tt
first_goes (Ok (command.Remove queue agent list)) t = tt
first_goes (Err refusal) t = tt

control_goes : (b job : Bool) (queue name : List ℕ) (count : ℕ) (t : List ℕ) (n : Refusal) →
    GoesOn (due_at (λ _. Waits) (cond b (Refuses n ∷ []) (opening job queue ++ Acks ∷ ControlText name count ∷ Acks ∷ [])) t)
control_goes true job queue name count t n = tt
control_goes false true queue name count t n = tt
control_goes false false queue name count t n = tt

block_goes : (job : Bool) (queue : List ℕ) (r : Result Sub Refusal) (t : List ℕ) → GoesOn (due_at (λ _. Waits) (block job queue r) t)
block_goes true queue (Ok sub.Abort) t = tt
block_goes false queue (Ok sub.Abort) t = tt
block_goes job queue (Ok (sub.ControlFile count name)) t = control_goes (count == 0 || nat_lt MAX_CONTROL_TEXT count) job queue name count t _
block_goes true queue (Ok (sub.DataFile count name)) t = tt
block_goes false queue (Ok (sub.DataFile count name)) t = tt
block_goes job queue (Err refusal) t = tt

after_goes : (queue : Option (List ℕ)) (job : Bool) (line t : List ℕ) → GoesOn (due_at (λ _. Waits) (after_line queue job line) t)
after_goes None job line t = first_goes (command_of line) t
after_goes (Some queue) job line t = block_goes job queue (sub_of line) t

line_goes : (queue : Option (List ℕ)) (job : Bool) (t : List ℕ) → GoesOn (at_line (λ line rest. due_at (λ _. Waits) (after_line queue job line) rest) t)
line_goes queue job t =
    goes_cond (nat_lt MAX_LINE (prefix_len is_inner t)) (Writes _ (Over ∷ []) (drop (MAX_LINE + 1) t)) _ tt
    (goes_cond (nat_lt (prefix_len is_inner t) (length t)) _ Waits (after_goes queue job (take (prefix_len is_inner t) t) (drop (prefix_len is_inner t + 1) t)) tt)

pub due_goes : (s : Progress) (t : List ℕ) → HasNoEnd s.items → GoesOn (due s t)
due_goes s t h = items_go _ (line_goes s.queue s.job) s.items t h

-- where this will be due, it is due now, or more has to come
seen_by : (s : Progress) (t u : List ℕ) (d e : Due) → due s t ≡ d → GoesOn d → due s (t ++ u) ≡ e → (HasCome d → extended u d ≡ e)
seen_by s t u d e now g then h = ap (extended u) (sym now) ∙ (sym (due_stable s t u (subst HasCome (sym now) h)) ∙ then)

abbrev pub AsRequested : Due → Request → List Item → List ℕ → List ℕ → Type 0
AsRequested d r items text coming = (d ≡ Waits) ⊎ ((x : List ℕ) × (d ≡ Requests r items x) × (x ++ coming ≡ text))

by_request : (d : Due) (coming : List ℕ) (r : Request) (items : List Item) (text : List ℕ) → GoesOn d → (HasCome d → extended coming d ≡ Requests r items text) → AsRequested d r items text coming
by_request Waits coming r items text g h = inl refl
by_request Ends coming r items text g h = absurd g
by_request (Writes w i t) coming r items text g h = absurd (let e = h tt in cc)
by_request (Requests p i t) coming r items text g h = inr (t, (let e = h tt in cc), (let e = h tt in cc))

pub request_seen : (s : Progress) (t coming : List ℕ) (r : Request) (items : List Item) (text : List ℕ) → HasNoEnd s.items → due s (t ++ coming) ≡ Requests r items text → AsRequested (due s t) r items text coming
request_seen s t coming r items text n e = by_request (due s t) coming r items text (due_goes s t n) (seen_by s t coming (due s t) (Requests r items text) refl (due_goes s t n) e)

abbrev pub AsWritten : Due → Written → List Item → List ℕ → List ℕ → Type 0
AsWritten d w items text coming = (d ≡ Waits) ⊎ ((x : List ℕ) × (d ≡ Writes w items x) × (x ++ coming ≡ text))

by_write : (d : Due) (coming : List ℕ) (w : Written) (items : List Item) (text : List ℕ) → GoesOn d → (HasCome d → extended coming d ≡ Writes w items text) → AsWritten d w items text coming
by_write Waits coming w items text g h = inl refl
by_write Ends coming w items text g h = absurd g
by_write (Requests p i t) coming w items text g h = absurd (let e = h tt in cc)
by_write (Writes v i t) coming w items text g h = inr (t, (let e = h tt in cc), (let e = h tt in cc))

pub write_seen : (s : Progress) (t coming : List ℕ) (w : Written) (items : List Item) (text : List ℕ) → HasNoEnd s.items → due s (t ++ coming) ≡ Writes w items text → AsWritten (due s t) w items text coming
write_seen s t coming w items text n e = by_write (due s t) coming w items text (due_goes s t n) (seen_by s t coming (due s t) (Writes w items text) refl (due_goes s t n) e)

-- where more has to come then, it has to now
by_wait : (d : Due) (coming : List ℕ) → GoesOn d → (HasCome d → extended coming d ≡ Waits) → d ≡ Waits
by_wait Waits coming g h = refl
by_wait Ends coming g h = absurd g
by_wait (Requests p i t) coming g h = absurd (let e = h tt in cc)
by_wait (Writes v i t) coming g h = absurd (let e = h tt in cc)

pub wait_seen : (s : Progress) (t coming : List ℕ) → HasNoEnd s.items → due s (t ++ coming) ≡ Waits → due s t ≡ Waits
wait_seen s t coming n e = by_wait (due s t) coming (due_goes s t n) (seen_by s t coming (due s t) Waits refl (due_goes s t n) e)
