-- One move of the machine.
use Rattle.std.proofs.Common.{◌≡◌, ◌⊎◌, inr, Result, Ok, Err, IsOk, slice_index, ℕ, ◌+◌, ◌≤◌, ◌<◌, List, [], ◌∷◌, ◌++◌, length, take, Some, None, refl, sym, ap, ◌∙◌, arith, inl, slice_index_or, Vec, if◌then◌else◌, vec_capacity, false, ◌≢◌, drop, ◌==◌, true}
use Rattle.lpd_values.specs.declared.limits.TheConstants.{MAX_LINE}
use Rattle.std.proofs.lemmas.Bool.{ne_eqb}
use Rattle.std.proofs.lemmas.List.{take_all, length-append}
use Rattle.lpd_values.specs.declared.refusal.Refusal.{Refusal}
use Rattle.lpd_values.specs.declared.refusal.Refusal.TheVariants.{LineTooLong, NoZero, Memory}
use Rattle.lpd_commands.specs.declared.command.Command.{Command}
use Rattle.lpd_commands.specs.declared.command.Command.TheVariants as command
use Rattle.lpd_commands.specs.Layout.{MeansSub}
use Rattle.lpd_commands.specs.declared.sub.Sub.{Sub}
use Rattle.lpd_commands.specs.declared.sub.Sub.TheVariants as sub
use Rattle.lpd_values.specs.Contents.{Contents}
use Rattle.page_pool.specs.Page.{Page}
use Rattle.control_file.specs.Text.{control_of}
use Rattle.control_file.specs.View.{contents}
use Rattle.control_file.specs.declared.control.Control.{Control}
use Rattle.receiver.specs.Script.{Item, Acks, data_file, after_line, first_block}
use Rattle.receiver.specs.Reading.{Waits, due, due_at, after_text, is_inner}
use Rattle.receiver.specs.Reads.{TakesMemory}
use Rattle.receiver.specs.View.{StepsAt, EndsLine}
use Rattle.receiver.specs.Sound.{state_of, owed_of, HasCount, IsSound}
use Rattle.receiver.specs.declared.machine.Machine.{Machine}
use Rattle.receiver.specs.declared.machine.Phase.TheVariants as phase
use Rattle.receiver.specs.declared.machine.Owed.TheVariants as owed
use Rattle.receiver.specs.declared.need.Need.{Need}
use Rattle.receiver.specs.declared.need.Need.TheVariants as need
use Rattle.std.specs.List.{prefix_len}
use Rattle.std.specs.declared.alloc.Global.{Global}
use Rattle.receiver.proofs.Cuts.{piece_done, piece_waits, text_done, line_too_long, line_waits, line_done, inner_more}

false_not_true : false ≡ true → ⊥
false_not_true e = cc

-- a page that isn't full keeps all of the input
pub page_more : (old : Machine) (piece left n : ℕ) (ticket : Page) (input : List ℕ) → old.phase ≡ phase.Page piece left → Some ticket ≡ old.ticket → length ticket.octets + length input < piece → n ≡ length input →
    StepsAt (state_of old) input n need.More (state_of (record old { ticket = Some (record ticket { octets = ticket.octets ++ take n input }) })) (due (state_of old) ((state_of old).tail ++ input))
page_more old piece left n ticket input p t h e =
    rw (p, ← t, piece_waits (data_file left) ticket.page_size piece ticket.octets input h)
    (inl (refl, e, rw (take_all n input (omega arith)) refl))

-- a page that is full is handed out
pub page_full : (old : Machine) (piece left n : ℕ) (ticket : Page) (input : List ℕ) → old.phase ≡ phase.Page piece left → Some ticket ≡ old.ticket → length ticket.octets + n ≡ piece → n ≤ length input →
    StepsAt (state_of old) input n (need.Filled (record ticket { octets = ticket.octets ++ take n input })) (state_of (record old { phase = phase.Contents left; owed = owed.Plain; ticket = None })) (due (state_of old) ((state_of old).tail ++ input))
page_full old piece left n ticket input p t e h =
    rw (p, ← t, ← e, piece_done (data_file left) ticket.page_size n ticket.octets input h) (inl (refl, h, refl, refl))

-- a line
pub line_over : (old : Machine) (room : ℕ) (input : List ℕ) → old.phase ≡ phase.Line → prefix_len is_inner old.line.items ≡ length old.line.items → length old.line.items + room ≡ 1024 → room ≤ prefix_len is_inner input → room ≤ length input →
    StepsAt (state_of old) input room (need.Fault LineTooLong) (state_of (record old { phase = phase.Over })) (due (state_of old) ((state_of old).tail ++ input))
line_over old room input p h e l w =
    rw (p, line_too_long _ old.line.items input room h e l) (inl (refl, w, refl, refl))

pub line_more : (old : Machine) (line : Vec ℕ Global) (n : ℕ) (input : List ℕ) → old.phase ≡ phase.Line → prefix_len is_inner old.line.items ≡ length old.line.items → n ≡ prefix_len is_inner input → n ≡ length input → length old.line.items + n ≤ MAX_LINE → line.items ≡ old.line.items ++ input →
    StepsAt (state_of old) input n need.More (state_of (record old { line = line })) (due (state_of old) ((state_of old).tail ++ input))
line_more old line n input p h e f l i =
    rw (p, line_waits _ old.line.items input h (sym e ∙ f) (omega arith)) (inl (refl, f, ap (λ x. record { queue = if old.admitted then Some old.queue else None; job = old.job; items = []; owed = owed_of old.queue old.owed; tail = x }) i))

pub line_ends : (old : Machine) (line : Vec ℕ Global) (n : ℕ) (input : List ℕ) (want : Need) (new : Machine) → old.phase ≡ phase.Line → prefix_len is_inner old.line.items ≡ length old.line.items → n ≡ prefix_len is_inner input → n < length input → length old.line.items + n ≤ MAX_LINE → line.items ≡ old.line.items ++ take n input →
    EndsLine (state_of (record old { line = line })) (after_line (state_of old).queue old.job line.items) want (state_of new) →
    StepsAt (state_of old) input (n + 1) want (state_of new) (due (state_of old) ((state_of old).tail ++ input))
line_ends old line n input want new p h e k l i s =
    let r = s old.line.items input (n + 1) (omega arith) in
    rw (p, line_done _ old.line.items input n h e k l, ← i) (rw p at r)

-- the page in hand lacks octets, and has room for them
pub page_lacks : (old : Machine) (piece left : ℕ) (ticket : Page) → IsSound old → old.phase ≡ phase.Page piece left → Some ticket ≡ old.ticket → (length ticket.octets < piece) × (piece ≤ ticket.page_size)
page_lacks old piece left ticket s p t =
    let h = rw (p, ← t) at s.phase in
    let e : ticket ≡ h.page = cc (h.held) in
    (rw e h.lacks, rw e h.fits)

pub line_sound : (old : Machine) (line : Vec ℕ Global) (n : ℕ) (input : List ℕ) → IsSound old → old.phase ≡ phase.Line → 1024 ≤ vec_capacity line → line.items ≡ old.line.items ++ input → n ≡ prefix_len is_inner input → n ≡ length input → length old.line.items + n ≤ MAX_LINE → IsSound (record old { line = line })
line_sound old line n input s p room i e f l =
    let h = rw p at s.phase in
    let k : length (old.line.items ++ input) ≡ length old.line.items + length input = length-append old.line.items input in
    record {
      line_room = room;
      text_room = s.text_room;
      phase = rw (p, i) (inner_more old.line.items input n h.0 e f, omega arith, h.2);
      owing = s.owing;
    }

-- a data file that isn't followed by its octet 00
pub no_zero : (old : Machine) (left : ℕ) (input : List ℕ) → old.phase ≡ phase.Contents left → left ≤ 0 → (length input == 0) ≡ false → slice_index input 0 ≢ 0 →
    StepsAt (state_of old) input 1 (need.Fault NoZero) (state_of (record old { phase = phase.Over })) (due (state_of old) input)
no_zero old left [] p z h k = absurd (false_not_true (sym h))
no_zero old left (b ∷ t) p z h k =
    let e : left ≡ 0 = omega arith in
    let f : (b == 0) ≡ false = ne_eqb b 0 k in
    rw (p, e, f) (inl (refl, omega arith, refl, refl))

pub text_no_zero : (old : Machine) (name : List ℕ) (count n : ℕ) (text : Vec ℕ Global) (input : List ℕ) → old.phase ≡ phase.Text name count → length old.text.items + n ≡ count → n < length input → slice_index_or input n 0 ≢ 0 →
    StepsAt (state_of old) input (n + 1) (need.Fault NoZero) (state_of (record old { phase = phase.Over; text = text })) (due (state_of old) ((state_of old).tail ++ input))
text_no_zero old name count n text input p e h z =
    let f : (slice_index_or input n 0 == 0) ≡ false = ne_eqb (slice_index_or input n 0) 0 z in
    rw (p, ← e, text_done name (Acks ∷ []) n old.text.items input h, f) (inl (refl, omega arith, refl, refl))

-- a control text that is whole
pub control_read : (old : Machine) (name : List ℕ) (count n : ℕ) (text : Vec ℕ Global) (input : List ℕ) (control : Control) → old.phase ≡ phase.Text name count → length old.text.items + n ≡ count → n < length input → slice_index_or input n 0 ≡ 0 → control_of name (old.text.items ++ take n input) ≡ Ok (contents control) →
    StepsAt (state_of old) input (n + 1) (need.Control control) (state_of (record old { phase = phase.AckLast; owed = owed.Ending; text = text })) (due (state_of old) ((state_of old).tail ++ input))
control_read old name count n text input control p e h z r =
    rw (p, ← e, text_done name (Acks ∷ []) n old.text.items input h, z, r) (inl (refl, omega arith, refl, refl))

no_text_memory : (r : Result Contents Refusal) (items : List Item) (t : List ℕ) → IsOk r → TakesMemory (after_text r items t)
no_text_memory (Ok c) items t h = refl
no_text_memory (Err e) items t h = absurd (false_not_true h)

pub control_refused : (old : Machine) (name : List ℕ) (count n : ℕ) (text : Vec ℕ Global) (input : List ℕ) (refusal : Refusal) → old.phase ≡ phase.Text name count → length old.text.items + n ≡ count → n < length input → slice_index_or input n 0 ≡ 0 →
    (control_of name (old.text.items ++ take n input) ≡ Err refusal) ⊎ ((refusal ≡ Memory) × IsOk (control_of name (old.text.items ++ take n input))) →
    StepsAt (state_of old) input (n + 1) (need.Fault refusal) (state_of (record old { phase = phase.Over; text = text })) (due (state_of old) ((state_of old).tail ++ input))
control_refused old name count n text input refusal p e h z s =
    elim s [
      | inl r ↦ rw (p, ← e, text_done name (Acks ∷ []) n old.text.items input h, z, r) (inl (refl, omega arith, refl, refl))
      | inr m ↦ rw (p, ← e, text_done name (Acks ∷ []) n old.text.items input h, z, m.0)
          (inr (record { memory = refl; come = no_text_memory (control_of name (old.text.items ++ take n input)) (Acks ∷ []) (drop (n + 1) input) m.1; within = omega arith; over = refl }))
    ]

-- want of memory where a first line has ended
first_takes_memory : (r : Result Command Refusal) (t : List ℕ) → IsOk r → TakesMemory (due_at (λ _. Waits) (first_block r) t)
first_takes_memory (Ok (command.PrintWaiting queue)) t h = refl
first_takes_memory (Ok (command.Receive queue)) t h = refl
first_takes_memory (Ok (command.State queue list long)) t h = refl
first_takes_memory (Ok (command.Remove queue agent list)) t h = refl
first_takes_memory (Err e) t h = absurd (false_not_true h)

pub first_refused : (old : Machine) (r : Result Command Refusal) (refusal : Refusal) → old.phase ≡ phase.Line → (r ≡ Err refusal) ⊎ ((refusal ≡ Memory) × IsOk r) →
    EndsLine (state_of old) (first_block r) (need.Fault refusal) (state_of (record old { phase = phase.Over }))
first_refused old r refusal p s =
    elim s [
      | inl e ↦ λ tail input n h. rw (p, e) (inl (refl, h, refl, refl))
      | inr m ↦ λ tail input n h. rw (p, m.0) (inr (record { memory = refl; come = first_takes_memory r (drop n input) m.1; within = h; over = refl }))
    ]

pub refusing : (old : Machine) (refusal : Refusal) (input : List ℕ) → old.phase ≡ phase.Refusing refusal →
    StepsAt (state_of old) input 0 (need.Fault refusal) (state_of (record old { phase = phase.Over })) (due (state_of old) ((state_of old).tail ++ input))
refusing old refusal input p = rw p (inl (refl, omega arith, refl, refl))

-- a data file that a line means has octets
pub means_count : (line : List ℕ) (s : Sub) → MeansSub line s → HasCount s
means_count line sub.Abort m = tt
means_count line (sub.ControlFile count name) m = tt
means_count line (sub.DataFile count name) m = m.5
