-- What a session has not read yet is the end of what arrived.
use Rattle.std.proofs.Common.{◌≡◌, ◌==◌, ℕ, zero, suc, ◌+◌, ◌-◌, Bool, true, false, nat_le, nat_lt, List, [], ◌∷◌, ◌++◌, length, take, drop, Result, Ok, Err, cond, get_or, refl, sym, ap, ◌∙◌, append_assoc, slice_index_or}
use Rattle.std.specs.List.{prefix_len}
use Rattle.std.proofs.lemmas.List.{take-append-drop}
use Rattle.lpd_values.specs.declared.refusal.Refusal.{Refusal}
use Rattle.control_file.specs.Text.{control_of}
use Rattle.lpd_values.specs.Contents.{Contents}
use Rattle.receiver.specs.Script.{Item, Asks, Acks, Refuses, FileOctets, PageOctets, ZeroOctet, ControlText, Over, after_line}
use Rattle.receiver.specs.Reading.{Progress, Due, Waits, Ends, Writes, Requests, due, due_at, at_line, after_text, is_inner}
use Rattle.spool_trace.specs.declared.step.Step.{Step}
use Rattle.spool_trace.specs.declared.step.Step.TheVariants as step
use Rattle.spool_trace.specs.declared.reply.Deed.{Deed}
use Rattle.spool_trace.specs.declared.reply.Deed.TheVariants as deed
use Rattle.spool_trace.specs.declared.reply.Reply.{Reply}
use Rattle.spool_trace.specs.declared.reply.Reply.TheVariants as reply
use Rattle.spool_trace.specs.Trace.{Trace}
use Rattle.spool_trace.specs.Sessions.{Session, new_session, session_at, due_in, takes, turned, turns, ends, moved, sessions}
use Rattle.spool_trace.specs.Reading.{UnreadIsTheEnd}
use Rattle.spool_trace.proofs.Read.{set_at, one_more}

abbrev IsEnd : List ℕ → List ℕ → Type 0
IsEnd u t = (x : List ℕ) × (u ≡ x ++ t)

-- the text that is left is the end of the text
abbrev Left : List ℕ → Due → Type 0
Left u Waits = Unit {0}
Left u Ends = Unit {0}
Left u (Writes w items t) = IsEnd u t
Left u (Requests r items t) = IsEnd u t

dropped : (k : ℕ) (t : List ℕ) → IsEnd t (drop k t)
dropped k t = (take k t, sym (take-append-drop k t))

joined : (u v t : List ℕ) → IsEnd u v → IsEnd v t → IsEnd u t
joined u v t a b = (a.0 ++ b.0, a.1 ∙ ap (λ z. a.0 ++ z) b.1 ∙ sym (append_assoc a.0 b.0 t))

further : (u v : List ℕ) → IsEnd u v → (d : Due) → Left v d → Left u d
further u v e Waits h = tt
further u v e Ends h = tt
further u v e (Writes w items t) h = joined u v t e h
further u v e (Requests r items t) h = joined u v t e h

either : (b : Bool) (u : List ℕ) (x y : Due) → Left u x → Left u y → Left u (cond b x y)
either true u x y h k = h
either false u x y h k = k

left_text : (r : Result Contents Refusal) (items : List Item) (u t : List ℕ) → IsEnd u t → Left u (after_text r items t)
left_text (Ok contents) items u t e = e
left_text (Err refusal) items u t e = e

left_at : (next : List ℕ → Due) → ((t : List ℕ) → Left t (next t)) → (items : List Item) (t : List ℕ) → Left t (due_at next items t)
left_at next f [] t = f t
left_at next f (Asks r ∷ items) t = ([], refl)
left_at next f (Acks ∷ items) t = ([], refl)
left_at next f (Refuses n ∷ items) t = ([], refl)
left_at next f (FileOctets zero ∷ items) t = left_at next f items t
left_at next f (FileOctets (suc n) ∷ items) [] = tt
left_at next f (FileOctets (suc n) ∷ items) (b ∷ t) = ([], refl)
left_at next f (PageOctets n size ∷ items) t = either (nat_le n (length t)) t _ Waits (dropped n t) tt
left_at next f (ZeroOctet ∷ items) [] = tt
left_at next f (ZeroOctet ∷ items) (b ∷ t) = either (b == 0) (b ∷ t) (due_at next items t) _ (further (b ∷ t) t (b ∷ [], refl) (due_at next items t) (left_at next f items t)) (b ∷ [], refl)
left_at next f (ControlText name n ∷ items) t =
    either (nat_lt n (length t)) t _ Waits (either (get_or t n 0 == 0) t (after_text (control_of name (take n t)) items (drop (n + 1) t)) _ (left_text (control_of name (take n t)) items t (drop (n + 1) t) (dropped (n + 1) t)) (dropped (n + 1) t)) tt
left_at next f (Over ∷ items) t = tt

left_line : (next : List ℕ → List ℕ → Due) → ((line t : List ℕ) → Left t (next line t)) → (t : List ℕ) → Left t (at_line next t)
left_line next f t =
    let k = prefix_len is_inner t in
    either (nat_lt 1023 k) t _ _ (dropped 1024 t)
    (either (nat_lt k (length t)) t (next (take k t) (drop (k + 1) t)) Waits (further t (drop (k + 1) t) (dropped (k + 1) t) (next (take k t) (drop (k + 1) t)) (f (take k t) (drop (k + 1) t))) tt)

left : (p : Progress) (t : List ℕ) → Left t (due p t)
left p t = left_at _ (left_line _ (λ line rest. left_at (λ _. Waits) (λ u. tt) (after_line p.queue p.job line) rest)) p.items t

abbrev HasRead : Session → Type 0
HasRead s = IsEnd s.arrived s.unread

turned_end : (s : Session) (d : Due) (done : Deed) → Left s.unread d → HasRead s → HasRead (turned d done s)
turned_end s (Requests r items text) (deed.Asked kind answer) e h = joined s.arrived s.unread text h e
turned_end s (Requests r items text) (deed.Refused n) e h = joined s.arrived s.unread text h e
turned_end s (Writes w items text) deed.Acked e h = joined s.arrived s.unread text h e
turned_end s (Writes w items text) (deed.Refused n) e h = joined s.arrived s.unread text h e
turned_end s _ deed.Ended e h = h
turned_end s _ _ e h = h

moved_end : (ss : List Session) (st : Step) (re : Reply) → ((k : ℕ) → HasRead (slice_index_or ss k (new_session 0))) → (n : ℕ) → HasRead (slice_index_or (moved st re ss) n (new_session 0))
moved_end ss (step.Connect sender) (reply.Connected k) h n = one_more HasRead (new_session sender) (new_session 0) ss n ([], refl) ([], refl) h
moved_end ss (step.Arrive k octets) reply.Taken h n =
    let s = session_at ss k in
    let g = h (k - 1) in
    set_at HasRead (takes octets s) (new_session 0) ss (k - 1) n (g.0, ap (λ z. z ++ octets) g.1 ∙ append_assoc g.0 s.unread octets) h
moved_end ss (step.Turn k) (reply.Turned done) h n =
    let s = session_at ss k in
    set_at HasRead (turns done s) (new_session 0) ss (k - 1) n (turned_end s (due_in s) done (left s.progress s.unread) (h (k - 1))) h
moved_end ss (step.Break k) reply.Broken h n = set_at HasRead (ends (session_at ss k)) (new_session 0) ss (k - 1) n (h (k - 1)) h
moved_end ss _ _ h n = h n

end_at : (t : Trace) (n : ℕ) → HasRead (slice_index_or (sessions t) n (new_session 0))
end_at [] n = ([], refl)
end_at (e ∷ t) n = moved_end (sessions t) e.step e.reply (end_at t) n

pub unread_end : UnreadIsTheEnd
unread_end t n = end_at t (n - 1)
