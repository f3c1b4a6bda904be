-- Readings of a text and of more of it.
use Rattle.std.proofs.Common.{◌≡◌, ℕ, zero, suc, Bool, true, false, ◌+◌, ◌≤◌, ◌<◌, List, [], ◌∷◌, ◌++◌, length, take, drop, Some, None, Result, Ok, Err, refl, sym, ap, ◌∙◌, subst, arith, inl, inr, ◌==◌, append_assoc, append-nil, cond, nat_le, nat_lt, nat_eq, get_or}
use Rattle.lpd_values.specs.declared.limits.TheConstants.{MAX_LINE}
use Rattle.std.specs.List.{prefix_len}
use Rattle.std.proofs.lemmas.Bool.{le-leb, lt-ltb, leb-true, ltb-true, eqb-true}
use Rattle.std.proofs.lemmas.List.{take-append-le, drop-append-le, length-append, get_or_append_left, drop_all}
use Rattle.std.proofs.lemmas.List.Folds.{prefix_len-append}
use Rattle.std.proofs.lemmas.List.Sums.{prefix_len-le-length}
use Rattle.lpd_values.specs.declared.refusal.Refusal.{Refusal}
use Rattle.lpd_values.specs.declared.refusal.Refusal.TheVariants.{NoZero, Memory}
use Rattle.lpd_values.specs.Contents.{Contents}
use Rattle.control_file.specs.Text.{control_of}
use Rattle.receiver.specs.Script.{Fault, Output, Wrote, Asked, Reply, Yes, Ticket, Later, Stored, Received, Refused, Item, Asks, Acks, Refuses, FileOctets, PageOctets, ZeroOctet, ControlText, Over, after_line}
use Rattle.receiver.specs.Reading.{Progress, Kind, Admission, Opening, Lending, Ending, Aborting, Plain, Due, Waits, Ends, Writes, Requests, due, due_at, at_line, at_page, at_text, after_text, is_inner, answered, answered_owed, after_reply, IsFitting}
use Rattle.receiver.specs.Reads.{Rests, GoesOn, Reads, ReadsFrom, ReadsOwed, TakesMemory}
use Rattle.receiver.specs.View.{outputs, Gives, StepsAt, RunsOut, Leaves, Rested}
use Rattle.receiver.specs.declared.need.Need.TheVariants as need
use Rattle.receiver.specs.declared.need.Need.{Need}

-- something is due
abbrev pub HasCome : Due → Type 0
HasCome Waits = ⊥
HasCome Ends = ⊥
HasCome (Writes w items t) = Unit {0}
HasCome (Requests r items t) = Unit {0}

-- a due with more text behind it
abbrev pub extended : List ℕ → Due → Due
extended u Waits = Waits
extended u Ends = Ends
extended u (Writes o items t) = Writes o items (t ++ u)
extended u (Requests o items t) = Requests o items (t ++ u)

-- what is due stays due when more comes
abbrev pub IsStable : (List ℕ → Due) → Type 0
IsStable next = (t u : List ℕ) → HasCome (next t) → next (t ++ u) ≡ extended u (next t)

true_not_false : true ≡ false → ⊥
true_not_false e = cc

by_test : (b : Bool) (P : Type 0) → (b ≡ true → P) → (b ≡ false → P) → P
by_test b P f g = elim b as (λ v. (v ≡ true → P) → (v ≡ false → P) → P) [ true ↦ λ f g. f refl | false ↦ λ f g. g refl ] f g

came : (b : Bool) (x : Due) → HasCome (cond b x Waits) → b ≡ true
came true x h = refl
came false x h = absurd h

extended_cond : (b : Bool) (u : List ℕ) (x y : Due) → cond b (extended u x) (extended u y) ≡ extended u (cond b x y)
extended_cond true u x y = refl
extended_cond false u x y = refl

at_page_stable : (n size : ℕ) (items : List Item) → IsStable (at_page n size items)
at_page_stable n size items t u h =
    let e = came (nat_le n (length t)) _ h in
    let l : n ≤ length t = leb-true n (length t) e in
    let k = length-append t u in
    rw (e, le-leb n (length (t ++ u)) (omega arith), take-append-le n t u l, drop-append-le n t u l) refl

after_text_stable : (r : Result Contents Refusal) (items : List Item) (t u : List ℕ) → after_text r items (t ++ u) ≡ extended u (after_text r items t)
after_text_stable (Ok contents) items t u = refl
after_text_stable (Err refusal) items t u = refl

at_text_stable : (name : List ℕ) (n : ℕ) (items : List Item) → IsStable (at_text name n items)
at_text_stable name n items t u h =
    let e = came (nat_lt n (length t)) _ h in
    let l : n < length t = ltb-true n (length t) e in
    let k = length-append t u in
    rw (e, lt-ltb n (length (t ++ u)) (omega arith), get_or_append_left t u 0 n l, take-append-le n t u (omega arith), drop-append-le (n + 1) t u (omega arith), after_text_stable (control_of name (take n t)) items (drop (n + 1) t) u)
    (extended_cond (get_or t n 0 == 0) u (after_text (control_of name (take n t)) items (drop (n + 1) t)) (Writes (Fault NoZero) (Over ∷ []) (drop (n + 1) t)))

due_at_stable : (next : List ℕ → Due) → IsStable next → (items : List Item) → IsStable (due_at next items)
due_at_stable next s [] t u h = s t u h
due_at_stable next s (Asks r ∷ items) t u h = refl
due_at_stable next s (Acks ∷ items) t u h = refl
due_at_stable next s (Refuses n ∷ items) t u h = refl
due_at_stable next s (FileOctets zero ∷ items) t u h = due_at_stable next s items t u h
due_at_stable next s (FileOctets (suc n) ∷ items) [] u h = absurd h
due_at_stable next s (FileOctets (suc n) ∷ items) (b ∷ t) u h = refl
due_at_stable next s (PageOctets n size ∷ items) t u h = at_page_stable n size items t u h
due_at_stable next s (ZeroOctet ∷ items) [] u h = absurd h
due_at_stable next s (ZeroOctet ∷ items) (b ∷ t) u h =
    elim (b == 0) as (λ v. HasCome (cond v (due_at next items t) (Writes (Fault NoZero) (Over ∷ []) t)) → cond v (due_at next items (t ++ u)) (Writes (Fault NoZero) (Over ∷ []) (t ++ u)) ≡ extended u (cond v (due_at next items t) (Writes (Fault NoZero) (Over ∷ []) t)))
    [ true ↦ λ k. due_at_stable next s items t u k | false ↦ λ k. refl ] h
due_at_stable next s (ControlText name n ∷ items) t u h = at_text_stable name n items t u h
due_at_stable next s (Over ∷ items) t u h = absurd h

below_cond : (b : Bool) (n x y : ℕ) → n ≤ x → n ≤ y → n ≤ cond b x y
below_cond true n x y h k = h
below_cond false n x y h k = k

-- more text doesn't shorten what stands before the first LF, and changes it only where there was none
longer : (t u : List ℕ) → prefix_len is_inner t ≤ prefix_len is_inner (t ++ u)
longer t u =
    let q = prefix_len-le-length is_inner t in
    rw (prefix_len-append is_inner t u) (below_cond (nat_eq (prefix_len is_inner t) (length t)) (prefix_len is_inner t) (length t + prefix_len is_inner u) (prefix_len is_inner t) (omega arith) (omega arith))

same_line : (t u : List ℕ) → prefix_len is_inner t < length t → prefix_len is_inner (t ++ u) ≡ prefix_len is_inner t
same_line t u h =
    by_test (nat_eq (prefix_len is_inner t) (length t)) _
    (λ e. let f = eqb-true (prefix_len is_inner t) (length t) e in absurd (omega arith))
    (λ e. prefix_len-append is_inner t u ∙ rw e refl)

at_line_stable : (next : List ℕ → List ℕ → Due) → ((line : List ℕ) → IsStable (next line)) → IsStable (at_line next)
at_line_stable next s t u h =
    let k = length-append t u in
    let q = prefix_len-le-length is_inner t in
    let g = longer t u in
    by_test (nat_lt MAX_LINE (prefix_len is_inner t)) _
    (λ e.
    let l : MAX_LINE < prefix_len is_inner t = ltb-true MAX_LINE (prefix_len is_inner t) e in
    rw (e, lt-ltb MAX_LINE (prefix_len is_inner (t ++ u)) (omega arith), drop-append-le 1024 t u (omega arith)) refl)
    (λ e.
    let h2 = rw e at h in
    let f = came (nat_lt (prefix_len is_inner t) (length t)) _ h2 in
    let l : prefix_len is_inner t < length t = ltb-true (prefix_len is_inner t) (length t) f in
    let h3 = rw f at h2 in
    rw (same_line t u l, e, f, lt-ltb (prefix_len is_inner t) (length (t ++ u)) (omega arith), take-append-le (prefix_len is_inner t) t u (omega arith), drop-append-le (prefix_len is_inner t + 1) t u (omega arith))
    (s (take (prefix_len is_inner t) t) (drop (prefix_len is_inner t + 1) t) u h3))

-- what is due in a state stays due when more comes
pub due_stable : (s : Progress) → IsStable (due s)
due_stable s = due_at_stable _ (at_line_stable _ (λ line. due_at_stable (λ _. Waits) (λ t u h. absurd h) (after_line s.queue s.job line))) s.items

-- the tail that a state has consumed plays no part
reads_tail : (short : Bool) (os : List Output) (s : Progress) (x t : List ℕ) (a : List Reply) → Reads short os (record s { tail = x }) t a → Reads short os s t a
reads_tail short [] s x t a h = h
reads_tail short (o ∷ os) s x t a h = h

-- nothing comes after the end
nothing_over : (os : List Output) (s : Progress) (t : List ℕ) (a : List Reply) → s.items ≡ Over ∷ [] → Reads true os s t a → os ≡ []
nothing_over [] s t a e h = refl
nothing_over (o ∷ os) s t a e h =
    elim (rw e at h) [ inl g ↦ absurd g | inr r ↦ absurd r.3 ]

has_come : (d : Due) → TakesMemory d → HasCome d
has_come Waits h = absurd h
has_come Ends h = absurd h
has_come (Writes o items t) h = absurd h
has_come (Requests o items t) h = tt

takes_more : (d : Due) (u : List ℕ) → TakesMemory d → TakesMemory (extended u d)
takes_more Waits u h = absurd h
takes_more Ends u h = absurd h
takes_more (Writes o items t) u h = absurd h
takes_more (Requests o items t) u h = h

more_not_ended : ◌≡◌ {A = Need} need.More need.Ended → ⊥
more_not_ended e = cc

more_not_fault : ◌≡◌ {A = Need} need.More (need.Fault Memory) → ⊥
more_not_fault e = cc

nothing_not_one : (o : Output) → ◌≡◌ {A = List Output} [] (o ∷ []) → ⊥
nothing_not_one o e = cc

from_none : (os : List Output) (s : Progress) (t : List ℕ) (a : List Reply) → s.owed ≡ None → ReadsFrom true os s t a → Reads true os s (s.tail ++ t) a
from_none os s t a e h = subst (λ o. ReadsOwed true os s (s.tail ++ t) a o) e h

to_none : (os : List Output) (s : Progress) (t : List ℕ) (a : List Reply) → s.owed ≡ None → Reads true os s (s.tail ++ t) a → ReadsFrom true os s t a
to_none os s t a e h = subst (λ o. ReadsOwed true os s (s.tail ++ t) a o) (sym e) h

-- a call consumes no more than it is given
pub steps_within : (old : Progress) (input : List ℕ) (n : ℕ) (want : Need) (new : Progress) (d : Due) → StepsAt old input n want new d → n ≤ length input
steps_within old input n want new Waits s = elim s [ inl g ↦ omega (arith, g.1) | inr r ↦ r.within ]
steps_within old input n want new Ends s = elim s [ inl g ↦ omega (arith, g.1) | inr r ↦ r.within ]
steps_within old input n want new (Writes w items t) s = elim s [ inl g ↦ g.1 | inr r ↦ r.within ]
steps_within old input n want new (Requests q items t) s = elim s [ inl g ↦ g.1 | inr r ↦ r.within ]

-- after the end nothing is due
pub steps_over : (old : Progress) (input : List ℕ) (n : ℕ) (want : Need) (new : Progress) → StepsAt old input n want new (due old (old.tail ++ input)) → old.items ≡ Over ∷ [] → (n ≡ 0) × (want ≡ need.Ended) × (new ≡ old)
steps_over old input n want new s e =
    let r = subst (λ items. StepsAt old input n want new (due (record old { items = items }) (old.tail ++ input))) e s in
    elim r [ inl g ↦ (g.1, g.0, g.2) | inr m ↦ absurd m.come ]

-- what is due goes on to be due
due_more : (old : Progress) (input t : List ℕ) (d : Due) → due old (old.tail ++ input) ≡ d → HasCome d → due old (old.tail ++ (input ++ t)) ≡ extended t d
due_more old input t d f c =
    rw (← append_assoc old.tail input t) (due_stable old (old.tail ++ input) t (rw f c) ∙ ap (extended t) f)

-- What comes after a call of advance is the rest of what comes from before it.
gives_read : (old : Progress) (input t : List ℕ) (n : ℕ) (want : Need) (new : Progress) (a : List Reply) (os : List Output) → old.owed ≡ None →
    (d : Due) → due old (old.tail ++ input) ≡ d → Gives old input n want new d → ReadsFrom true os new (drop n input ++ t) a → Reads true (outputs want ++ os) old (old.tail ++ (input ++ t)) a
gives_read old input t n want new a os e Waits f g h =
    let k = from_none os (record old { tail = old.tail ++ input }) (drop n input ++ t) a e (rw g.2 at h) in
    let l = rw (drop_all n input (omega (arith, g.1)), append_assoc) at k in
    rw g.0 (reads_tail true os old (old.tail ++ input) (old.tail ++ (input ++ t)) a l)
gives_read old input t n want new a os e Ends f g h =
    let k = from_none os old (drop n input ++ t) a e (rw g.2 at h) in
    let l = rw g.1 at k in
    rw g.0 l
gives_read old input t n want new a os e (Writes o items rest) f g h =
    let k = from_none os (record old { items = items; tail = [] }) (drop n input ++ t) a e (rw g.3 at h) in
    let l = rw g.2 at k in
    rw (g.0, due_more old input t (Writes o items rest) f tt) (inl (refl, l))
gives_read old input t n want new [] os e (Requests o items rest) f g h =
    let k = rw g.3 at h in
    rw (g.0, due_more old input t (Requests o items rest) f tt) (inl (refl, k))
gives_read old input t n want new (x ∷ a) os e (Requests o items rest) f g h =
    let k = rw (g.3, g.2) at h in
    rw (g.0, due_more old input t (Requests o items rest) f tt) (inl (refl, k))

runs_out_read : (old : Progress) (input t : List ℕ) (n : ℕ) (want : Need) (new : Progress) (a : List Reply) (os : List Output) → old.owed ≡ None →
    RunsOut old input n want new (due old (old.tail ++ input)) → ReadsFrom true os new (drop n input ++ t) a → Reads true (outputs want ++ os) old (old.tail ++ (input ++ t)) a
runs_out_read old input t n want new a os e r h =
    let k = from_none os (record old { items = Over ∷ []; tail = [] }) (drop n input ++ t) a e (rw r.over at h) in
    let z = nothing_over os (record old { items = Over ∷ []; tail = [] }) (drop n input ++ t) a refl k in
    let d = due old (old.tail ++ input) in
    rw (r.memory, z) (inr (refl, refl, refl, rw (due_more old input t d refl (has_come d r.come)) (takes_more d t r.come)))

pub steps_read : (old : Progress) (input t : List ℕ) (n : ℕ) (want : Need) (new : Progress) (a : List Reply) (os : List Output) → old.owed ≡ None →
    StepsAt old input n want new (due old (old.tail ++ input)) → ReadsFrom true os new (drop n input ++ t) a → ReadsFrom true (outputs want ++ os) old (input ++ t) a
steps_read old input t n want new a os e s h =
    to_none (outputs want ++ os) old (input ++ t) a e
    (elim s [ inl g ↦ gives_read old input t n want new a os e (due old (old.tail ++ input)) refl g h | inr r ↦ runs_out_read old input t n want new a os e r h ])

-- what an answer leaves reads no tail, and owes none
pub answered_keeps : (kind : Kind) (x : Reply) (s : Progress) → ((answered kind x s).owed ≡ None) × ((answered kind x s).tail ≡ s.tail)
answered_keeps kind (Ticket size) s = (refl, refl)
answered_keeps kind Later s = (refl, refl)
answered_keeps kind Stored s = (refl, refl)
answered_keeps kind Received s = (refl, refl)
answered_keeps kind (Refused n) s = (refl, refl)
answered_keeps (Admission queue) Yes s = (refl, refl)
answered_keeps Opening Yes s = (refl, refl)
answered_keeps Lending Yes s = (refl, refl)
answered_keeps Ending Yes s = (refl, refl)
answered_keeps Aborting Yes s = (refl, refl)
answered_keeps Plain Yes s = (refl, refl)

pub reply_read : (s : Progress) (x : Reply) (t : List ℕ) (a : List Reply) (os : List Output) → IsFitting s.owed x → ReadsFrom true os (after_reply s x) t a → ReadsFrom true os s t (x ∷ a)
reply_read s x t a os f h =
    elim s.owed as (λ o. IsFitting o x → ReadsFrom true os (answered_owed o x s) t a → ReadsOwed true os s (s.tail ++ t) (x ∷ a) o) [
      | None ↦ λ f h. absurd f
      | Some kind ↦ λ f h. let k = answered_keeps kind x s in rw (k.0, k.1) at h
    ] f h

same_outputs : (o p : Output) (os ps : List Output) → o ≡ p → os ≡ ps → ◌≡◌ {A = List Output} (o ∷ os) (p ∷ ps)
same_outputs o p os ps e f = cc

-- where memory is ample there is one reading
same_step : (os ps : List Output) (s : Progress) (o p : Output) (a : List Reply) → ((s : Progress) (t : List ℕ) (a : List Reply) → Reads false os s t a → Reads false ps s t a → os ≡ ps) →
    (d : Due) → GoesOn (Reads false os) (os ≡ []) s o a d → GoesOn (Reads false ps) (ps ≡ []) s p a d → ◌≡◌ {A = List Output} (o ∷ os) (p ∷ ps)
same_step os ps s o p a f Waits h k = absurd h
same_step os ps s o p a f Ends h k = absurd h
same_step os ps s o p a f (Writes due items t) h k = same_outputs o p os ps (h.0 ∙ sym k.0) (f _ t a h.1 k.1)
same_step os ps s o p [] f (Requests due items t) h k = same_outputs o p os ps (h.0 ∙ sym k.0) (h.1 ∙ sym k.1)
same_step os ps s o p (x ∷ a) f (Requests due items t) h k = same_outputs o p os ps (h.0 ∙ sym k.0) (f _ t a h.1 k.1)

rest_or_go : (next : Progress → List ℕ → List Reply → Type 0) (last : Type 0) (s : Progress) (o : Output) (a : List Reply) (d : Due) → Rests d → GoesOn next last s o a d → ⊥
rest_or_go next last s o a Waits h k = k
rest_or_go next last s o a Ends h k = k
rest_or_go next last s o a (Writes due items t) h k = h
rest_or_go next last s o a (Requests due items t) h k = h

pub one_reading : (os ps : List Output) (s : Progress) (t : List ℕ) (a : List Reply) → Reads false os s t a → Reads false ps s t a → os ≡ ps
one_reading [] [] s t a h k = refl
one_reading [] (p ∷ ps) s t a h k = elim k [ inl g ↦ absurd (rest_or_go (Reads false ps) (ps ≡ []) (record s { tail = [] }) p a (due s t) h g) | inr r ↦ absurd (true_not_false (sym r.0)) ]
one_reading (o ∷ os) [] s t a h k = elim h [ inl g ↦ absurd (rest_or_go (Reads false os) (os ≡ []) (record s { tail = [] }) o a (due s t) k g) | inr r ↦ absurd (true_not_false (sym r.0)) ]
one_reading (o ∷ os) (p ∷ ps) s t a h k =
    elim h [
      | inr r ↦ absurd (true_not_false (sym r.0))
      | inl g ↦ elim k [ inr r ↦ absurd (true_not_false (sym r.0)) | inl l ↦ same_step os ps (record s { tail = [] }) o p a (λ s t a. one_reading os ps s t a) (due s t) g l ]
    ]

rests_more : (old : Progress) (input : List ℕ) (n : ℕ) (new : Progress) (a : List Reply) → old.owed ≡ None → (d : Due) → due old (old.tail ++ input) ≡ d → Gives old input n need.More new d → (n ≡ length input) × ReadsFrom true [] new [] a
rests_more old input n new a e Waits f g =
    (g.1, rw g.2 (to_none [] (record old { tail = old.tail ++ input }) [] a e (rw (append-nil, f) tt)))
rests_more old input n new a e Ends f g = absurd (more_not_ended g.0)
rests_more old input n new a e (Writes w items rest) f g = absurd (nothing_not_one (Wrote w) g.0)
rests_more old input n new a e (Requests r items rest) f g = absurd (nothing_not_one (Asked r) g.0)

over_rests : (new : Progress) (t : List ℕ) (a : List Reply) → new.owed ≡ None → new.items ≡ Over ∷ [] → ReadsFrom true [] new t a
over_rests new t a e f = to_none [] new t a e (rw f tt)

asks_rest : (new : Progress) (kind : Kind) (t : List ℕ) → new.owed ≡ Some kind → ReadsFrom true [] new t []
asks_rest new kind t e = subst (λ o. ReadsOwed true [] new (new.tail ++ t) [] o) (sym e) refl

pub rested : (old : Progress) (input : List ℕ) (n : ℕ) (want : Need) (new : Progress) → old.owed ≡ None → StepsAt old input n want new (due old (old.tail ++ input)) → Leaves want new → Rested want n input new
rested old input n need.More new e s l =
    elim s [
      | inl g ↦ ((rests_more old input n new [] e (due old (old.tail ++ input)) refl g).0, λ a. (rests_more old input n new a e (due old (old.tail ++ input)) refl g).1)
      | inr r ↦ absurd (more_not_fault r.memory)
    ]
rested old input n need.Ack new e s l = tt
rested old input n (need.Fault k) new e s l = λ t a. over_rests new t a l.owed (l.over refl)
rested old input n need.Ended new e s l = λ t a. over_rests new t a l.owed (l.over refl)
rested old input n (need.Queue queue) new e s l = λ t. asks_rest new _ t l.owed
rested old input n (need.Open queue) new e s l = λ t. asks_rest new _ t l.owed
rested old input n (need.BeginFile name count) new e s l = λ t. asks_rest new _ t l.owed
rested old input n need.Page new e s l = λ t. asks_rest new _ t l.owed
rested old input n (need.Filled page) new e s l = λ t. asks_rest new _ t l.owed
rested old input n need.EndFile new e s l = λ t. asks_rest new _ t l.owed
rested old input n (need.Control control) new e s l = λ t. asks_rest new _ t l.owed
rested old input n (need.Start queue) new e s l = λ t. asks_rest new _ t l.owed
rested old input n (need.State queue list long) new e s l = λ t. asks_rest new _ t l.owed
rested old input n (need.Remove queue agent list) new e s l = λ t. asks_rest new _ t l.owed
rested old input n need.Abort new e s l = λ t. asks_rest new _ t l.owed
