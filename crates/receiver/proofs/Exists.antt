-- Each text and each list of answers has a reading.
use Rattle.std.proofs.Common.{◌≡◌, ◌⊎◌, ℕ, zero, suc, Bool, true, false, ◌+◌, ◌≤◌, ◌<◌, List, [], ◌∷◌, length, take, drop, Option, Result, Ok, Err, refl, arith, inl, inr, cond, nat_le, nat_lt, ◌==◌, get_or}
use Rattle.lpd_values.specs.declared.limits.TheConstants.{MAX_LINE}
use Rattle.std.specs.List.{prefix_len}
use Rattle.std.proofs.lemmas.Bool.{ltb-true}
use Rattle.std.proofs.lemmas.List.{length-drop}
use Rattle.lpd_values.specs.declared.refusal.Refusal.{Refusal}
use Rattle.lpd_values.specs.declared.refusal.Refusal.TheVariants.{NoZero, LineTooLong}
use Rattle.lpd_values.specs.Contents.{Contents}
use Rattle.control_file.specs.Text.{control_of}
use Rattle.receiver.specs.Script.{Filled, Written, Fault, Output, Wrote, Asked, Reply, Item, Asks, Acks, Refuses, FileOctets, PageOctets, ZeroOctet, ControlText, Over, after_line}
use Rattle.receiver.specs.Reading.{Progress, Due, Waits, Ends, Writes, Requests, due, due_at, at_line, after_text, is_inner, answered, kind_of}
use Rattle.receiver.specs.Reads.{Reads}
use Rattle.receiver.specs.Blocks.{SomeReading}

-- the text that is left has at most l octets
abbrev Shrinks : ℕ → Due → Type 0
Shrinks l Waits = Unit {0}
Shrinks l Ends = Unit {0}
Shrinks l (Writes w items t) = length t ≤ l
Shrinks l (Requests r items t) = length t ≤ l

-- the same, and after what is written less text is left, or fewer items, or nothing is read
abbrev Falls : ℕ → ℕ → Due → Type 0
Falls m l Waits = Unit {0}
Falls m l Ends = Unit {0}
Falls m l (Writes w items t) = (length t ≤ l) × ((length t < l) ⊎ ((length items < m) ⊎ (items ≡ Over ∷ [])))
Falls m l (Requests r items t) = length t ≤ l

shrinks_cond : (b : Bool) (l : ℕ) (x y : Due) → Shrinks l x → Shrinks l y → Shrinks l (cond b x y)
shrinks_cond true l x y h k = h
shrinks_cond false l x y h k = k

falls_cond : (b : Bool) (m l : ℕ) (x y : Due) → (b ≡ true → Falls m l x) → (b ≡ false → Falls m l y) → Falls m l (cond b x y)
falls_cond true m l x y h k = h refl
falls_cond false m l x y h k = k refl

dropped : (n l : ℕ) (t : List ℕ) → length t ≤ l → length (drop n t) ≤ l
dropped n l t h = let e = length-drop n t in omega arith

shrinks_text : (r : Result Contents Refusal) (items : List Item) (l : ℕ) (t : List ℕ) → length t ≤ l → Shrinks l (after_text r items t)
shrinks_text (Ok c) items l t h = h
shrinks_text (Err e) items l t h = h

shrinks_at : (next : List ℕ → Due) → ((l : ℕ) (t : List ℕ) → length t ≤ l → Shrinks l (next t)) → (items : List Item) (l : ℕ) (t : List ℕ) → length t ≤ l → Shrinks l (due_at next items t)
shrinks_at next s [] l t h = s l t h
shrinks_at next s (Asks r ∷ items) l t h = h
shrinks_at next s (Acks ∷ items) l t h = h
shrinks_at next s (Refuses e ∷ items) l t h = h
shrinks_at next s (FileOctets zero ∷ items) l t h = shrinks_at next s items l t h
shrinks_at next s (FileOctets (suc n) ∷ items) l [] h = tt
shrinks_at next s (FileOctets (suc n) ∷ items) l (b ∷ t) h = h
shrinks_at next s (PageOctets n size ∷ items) l t h = shrinks_cond (nat_le n (length t)) l (Requests (Filled (record { octets = take n t; page_size = size })) items (drop n t)) Waits (dropped n l t h) tt
shrinks_at next s (ZeroOctet ∷ items) l [] h = tt
shrinks_at next s (ZeroOctet ∷ items) l (b ∷ t) h = shrinks_cond (b == 0) l (due_at next items t) (Writes (Fault NoZero) (Over ∷ []) t) (shrinks_at next s items l t (omega arith)) (omega arith)
shrinks_at next s (ControlText name n ∷ items) l t h =
    shrinks_cond (nat_lt n (length t)) l (cond (get_or t n 0 == 0) (after_text (control_of name (take n t)) items (drop (n + 1) t)) (Writes (Fault NoZero) (Over ∷ []) (drop (n + 1) t))) Waits
    (shrinks_cond (get_or t n 0 == 0) l (after_text (control_of name (take n t)) items (drop (n + 1) t)) (Writes (Fault NoZero) (Over ∷ []) (drop (n + 1) t)) (shrinks_text (control_of name (take n t)) items l (drop (n + 1) t) (dropped (n + 1) l t h)) (dropped (n + 1) l t h))
    tt
shrinks_at next s (Over ∷ items) l t h = tt

-- less text is left after a line
strictly : (m l k : ℕ) (d : Due) → k < l → Shrinks k d → Falls m l d
strictly m l k Waits h s = tt
strictly m l k Ends h s = tt
strictly m l k (Writes w items t) h s = (omega (arith, s), inl (omega (arith, s)))
strictly m l k (Requests r items t) h s = omega (arith, s)

falls_line : (queue : Option (List ℕ)) (job : Bool) (m l : ℕ) (t : List ℕ) → length t ≤ l → Falls m l (at_line (λ line rest. due_at (λ _. Waits) (after_line queue job line) rest) t)
falls_line queue job m l t h =
    let n = prefix_len is_inner t in
    let rest = drop (n + 1) t in
    let next = λ (line rest : List ℕ). due_at (λ _. Waits) (after_line queue job line) rest in
    falls_cond (nat_lt MAX_LINE n) m l (Writes (Fault LineTooLong) (Over ∷ []) (drop 1024 t)) (cond (nat_lt n (length t)) (next (take n t) rest) Waits)
    (λ e. (dropped 1024 l t h, inr (inr refl)))
    (λ e. falls_cond (nat_lt n (length t)) m l (next (take n t) rest) Waits
    (λ f.
    let k : n < length t = ltb-true n (length t) f in
    let d = length-drop (n + 1) t in
    strictly m l (length rest) (next (take n t) rest) (omega arith) (shrinks_at (λ _. Waits) (λ l t h. tt) (after_line queue job (take n t)) (length rest) rest (omega arith)))
    (λ f. tt))

falls_text : (r : Result Contents Refusal) (items : List Item) (m l : ℕ) (t : List ℕ) → length t ≤ l → Falls m l (after_text r items t)
falls_text (Ok c) items m l t h = h
falls_text (Err e) items m l t h = (h, inr (inr refl))

falls_at : (next : List ℕ → Due) (m : ℕ) → ((l : ℕ) (t : List ℕ) → length t ≤ l → Falls m l (next t)) → (items : List Item) (l : ℕ) (t : List ℕ) → length items ≤ m → length t ≤ l → Falls m l (due_at next items t)
falls_at next m s [] l t g h = s l t h
falls_at next m s (Asks r ∷ items) l t g h = h
falls_at next m s (Acks ∷ items) l t g h = (h, inr (inl (omega arith)))
falls_at next m s (Refuses e ∷ items) l t g h = (h, inr (inr refl))
falls_at next m s (FileOctets zero ∷ items) l t g h = falls_at next m s items l t (omega arith) h
falls_at next m s (FileOctets (suc n) ∷ items) l [] g h = tt
falls_at next m s (FileOctets (suc n) ∷ items) l (b ∷ t) g h = h
falls_at next m s (PageOctets n size ∷ items) l t g h = falls_cond (nat_le n (length t)) m l (Requests (Filled (record { octets = take n t; page_size = size })) items (drop n t)) Waits (λ e. dropped n l t h) (λ e. tt)
falls_at next m s (ZeroOctet ∷ items) l [] g h = tt
falls_at next m s (ZeroOctet ∷ items) l (b ∷ t) g h = falls_cond (b == 0) m l (due_at next items t) (Writes (Fault NoZero) (Over ∷ []) t) (λ e. falls_at next m s items l t (omega arith) (omega arith)) (λ e. (omega arith, inr (inr refl)))
falls_at next m s (ControlText name n ∷ items) l t g h =
    falls_cond (nat_lt n (length t)) m l (cond (get_or t n 0 == 0) (after_text (control_of name (take n t)) items (drop (n + 1) t)) (Writes (Fault NoZero) (Over ∷ []) (drop (n + 1) t))) Waits
    (λ e. falls_cond (get_or t n 0 == 0) m l (after_text (control_of name (take n t)) items (drop (n + 1) t)) (Writes (Fault NoZero) (Over ∷ []) (drop (n + 1) t))
    (λ f. falls_text (control_of name (take n t)) items m l (drop (n + 1) t) (dropped (n + 1) l t h)) (λ f. (dropped (n + 1) l t h, inr (inr refl))))
    (λ e. tt)
falls_at next m s (Over ∷ items) l t g h = tt

falls_due : (s : Progress) (t : List ℕ) → Falls (length s.items) (length t) (due s t)
falls_due s t = falls_at _ (length s.items) (λ l t h. falls_line s.queue s.job (length s.items) l t h) s.items (length t) t (omega arith) (omega arith)

abbrev Some : Progress → List ℕ → List Reply → Type 0
Some s t a = (os : List Output) × Reads false os s t a

over_read : (s : Progress) (t : List ℕ) (a : List Reply) → s.items ≡ Over ∷ [] → Reads false [] s t a
over_read s t a e = rw e tt

-- one thing that is written, and then the rest
after_write : (m n : ℕ) (s : Progress) (t : List ℕ) (a : List Reply) →
    ((u : Progress) (x : List ℕ) (b : List Reply) → length b + length x < n → Some u x b) →
    ((u : Progress) (x : List ℕ) (b : List Reply) → length b + length x ≤ n → length u.items < m → Some u x b) →
    length a + length t ≤ n → (w : Written) (items : List Item) (rest : List ℕ) → (length rest ≤ length t) × ((length rest < length t) ⊎ ((length items < m) ⊎ (items ≡ Over ∷ []))) →
    Some (record s { items = items; tail = [] }) rest a
after_write m n s t a less fewer h w items rest f =
    elim f.1 [
      | inl g ↦ less (record s { items = items; tail = [] }) rest a (omega arith)
      | inr g ↦ elim g [
        | inl k ↦ fewer (record s { items = items; tail = [] }) rest a (omega (arith, f.0)) k
        | inr e ↦ ([], over_read (record s { items = items; tail = [] }) rest a e)
      ]
    ]

step_read : (n : ℕ) (s : Progress) (t : List ℕ) (a : List Reply) →
    ((u : Progress) (x : List ℕ) (b : List Reply) → length b + length x < n → Some u x b) →
    ((u : Progress) (x : List ℕ) (b : List Reply) → length b + length x ≤ n → length u.items < length s.items → Some u x b) →
    length a + length t ≤ n → (d : Due) → due s t ≡ d → Falls (length s.items) (length t) d → Some s t a
step_read n s t a less fewer h Waits e f = ([], rw e tt)
step_read n s t a less fewer h Ends e f = ([], rw e tt)
step_read n s t a less fewer h (Writes w items rest) e f =
    let r = after_write (length s.items) n s t a less fewer h w items rest f in
    (Wrote w ∷ r.0, rw e (inl (refl, r.1)))
step_read n s t [] less fewer h (Requests q items rest) e f = (Asked q ∷ [], rw e (inl (refl, refl)))
step_read n s t (x ∷ a) less fewer h (Requests q items rest) e f =
    let r = less (answered (kind_of q) x (record s { items = items; tail = [] })) rest a (omega (arith, f)) in
    (Asked q ∷ r.0, rw e (inl (refl, r.1)))

by_items : (n k : ℕ) → ((u : Progress) (x : List ℕ) (b : List Reply) → length b + length x < n → Some u x b) →
    (s : Progress) (t : List ℕ) (a : List Reply) → length a + length t ≤ n → length s.items < k → Some s t a
by_items n zero less s t a h g = absurd (omega arith)
by_items n (suc k) less s t a h g =
    step_read n s t a less (λ u x b h2 g2. by_items n k less u x b h2 (omega arith)) h (due s t) refl (falls_due s t)

by_text : (n : ℕ) (s : Progress) (t : List ℕ) (a : List Reply) → length a + length t < n → Some s t a
by_text zero s t a h = absurd (omega arith)
by_text (suc n) s t a h = by_items n (length s.items + 1) (λ u x b k. by_text n u x b k) s t a (omega arith) (omega arith)

pub some_reading : SomeReading
some_reading s t a = by_text (length a + length t + 1) s t a (omega arith)
