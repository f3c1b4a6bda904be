-- What a reader needs is what is due to its session.
use Rattle.std.proofs.Common.{◌≡◌, ℕ, List, [], ◌∷◌, ◌++◌, drop, refl, sym, ap, subst, ◌∙◌}
use Rattle.receiver.specs.Script.{Request, Item, Output, Written, Ack, Fault, Wrote, Asked}
use Rattle.receiver.specs.Reading.{Progress, Due, Waits, Ends, Writes, Requests, answered, kind_of}
use Rattle.receiver.specs.Reads.{TakesMemory}
use Rattle.receiver.specs.View.{outputs}
use Rattle.receiver.specs.declared.need.Need.{Need}
use Rattle.receiver.specs.declared.need.Need.TheVariants as need
use Rattle.spool_requests.specs.declared.answer.Answer.{Answer}
use Rattle.spool_requests.specs.Kinds.{request_kind}
use Rattle.spool_trace.specs.declared.reply.Deed.{Deed}
use Rattle.spool_trace.specs.declared.reply.Deed.TheVariants as deed
use Rattle.spool_trace.specs.Trace.{written_by}
use Rattle.spool_trace.specs.Sessions.{Session, acks, due_in, goes_on, reply_of, turned, turns}
use Rattle.spool_trace.specs.Reading.{Stands, Follows}
use Rattle.spool_trace.specs.Needs.{AskIsDue, AckIsDue, MoreIsDue, RefusalIsDue, EndIsDue, ShortIsDue}
use Rattle.spool_trace.proofs.Reader.{advances, at_due}

-- a reader stands by the progress and the unread octets of its session alone
stands_so : (p : Progress) (left : List ℕ) (s r : Session) → r.progress ≡ s.progress → r.unread ≡ s.unread → Stands p left s → Stands p left r
stands_so p left s r e f h = record { owed = h.owed; progress = h.progress ∙ sym e; unread = h.unread ∙ sym f }

-- where this is due, a turn leads so
turn_leads : (p : Progress) (left : List ℕ) (s : Session) (d : Due) (done : Deed) → due_in s ≡ d → Stands p left (turned d done s) → Stands p left (turns done s)
turn_leads p left s d done e h =
    subst (λ (x : Due). Stands p left (record (turned x done s) { written = s.written ++ written_by done })) (sym e)
    (stands_so p left (turned d done s) (record (turned d done s) { written = s.written ++ written_by done }) refl refl h)

asked_of : Request → List Output → Request
asked_of r [] = r
asked_of r (Asked q ∷ os) = q
asked_of r (Wrote w ∷ os) = r

written_of : Written → List Output → Written
written_of w [] = w
written_of w (Asked q ∷ os) = w
written_of w (Wrote u ∷ os) = u

nothing_asked : (os : List Output) (o : Output) (rest : List Output) → os ≡ o ∷ rest → os ≡ [] → ⊥
nothing_asked os o rest e f = (let bad : o ∷ rest ≡ [] = sym e ∙ f in absurd cc)

not_both : (os : List Output) (r : Request) (w : Written) → os ≡ Asked r ∷ [] → os ≡ Wrote w ∷ [] → ⊥
not_both os r w e f = (let bad : Asked r ∷ [] ≡ Wrote w ∷ [] = sym e ∙ f in absurd cc)

one_request : (os : List Output) (r q : Request) → os ≡ Asked r ∷ [] → os ≡ Asked q ∷ [] → r ≡ q
unfolding asked_of
one_request os r q e f = ap (asked_of r) (sym e ∙ f)

one_written : (os : List Output) (w u : Written) → os ≡ Wrote w ∷ [] → os ≡ Wrote u ∷ [] → w ≡ u
unfolding written_of
one_written os w u e f = ap (written_of w) (sym e ∙ f)

abbrev Asks : Due → Progress → List ℕ → Session → Request → Type 0
Asks d new left s r =
    (items : List Item) × (text : List ℕ) × (d ≡ Requests r items text)
    × ((answer : Answer) → Stands (answered (kind_of r) (reply_of answer) new) left (turned d (deed.Asked (request_kind r) answer) s))

asks_so : (d : Due) (new : Progress) (left : List ℕ) (want : Need) (s : Session) (r : Request) → Follows d new left want s → outputs want ≡ Asked r ∷ [] → Asks d new left s r
asks_so Waits new left want s r f e = absurd (nothing_asked (outputs want) (Asked r) [] e (ap outputs f.0))
asks_so Ends new left want s r f e = absurd (nothing_asked (outputs want) (Asked r) [] e (ap outputs f.0))
asks_so (Writes w items text) new left want s r f e = absurd (not_both (outputs want) r w e f.0)
asks_so (Requests q items text) new left want s r f e =
    let same : q ≡ r = one_request (outputs want) q r f.0 e in
    subst (λ (x : Request). Asks (Requests q items text) new left s x) same (items, text, refl, f.1)

pub ask_is_due : AskIsDue
ask_is_due p new waiting n want s a r e =
    let f = advances p new waiting n want s a.stood a.gives in
    let x = asks_so (due_in s) new (drop n waiting) want s r f e in
    (x.0, x.1, x.2, λ answer. turn_leads (answered (kind_of r) (reply_of answer) new) (drop n waiting) s (due_in s) (deed.Asked (request_kind r) answer) refl (x.3 answer))

abbrev Writes' : Due → Progress → List ℕ → Session → Written → Type 0
Writes' d new left s w = (items : List Item) × (text : List ℕ) × (d ≡ Writes w items text) × Stands new left (goes_on items text s)

writes_so : (d : Due) (new : Progress) (left : List ℕ) (want : Need) (s : Session) (w : Written) → Follows d new left want s → outputs want ≡ Wrote w ∷ [] → Writes' d new left s w
writes_so Waits new left want s w f e = absurd (nothing_asked (outputs want) (Wrote w) [] e (ap outputs f.0))
writes_so Ends new left want s w f e = absurd (nothing_asked (outputs want) (Wrote w) [] e (ap outputs f.0))
writes_so (Requests q items text) new left want s w f e = absurd (not_both (outputs want) q w f.0 e)
writes_so (Writes u items text) new left want s w f e =
    subst (λ (x : Written). Writes' (Writes u items text) new left s x) (one_written (outputs want) u w f.0 e) (items, text, refl, f.1)

pub ack_is_due : AckIsDue
ack_is_due p new waiting n want s a e =
    let f = advances p new waiting n want s a.stood a.gives in
    let x = writes_so (due_in s) new (drop n waiting) want s Ack f (ap outputs e) in
    (x.0, x.1, x.2, turn_leads new (drop n waiting) s (Writes Ack x.0 x.1) deed.Acked x.2 (stands_so new (drop n waiting) (goes_on x.0 x.1 s) (acks (goes_on x.0 x.1 s)) refl refl x.3))

pub refusal_is_due : RefusalIsDue
refusal_is_due p new waiting n want s a refusal e =
    let f = advances p new waiting n want s a.stood a.gives in
    let x = writes_so (due_in s) new (drop n waiting) want s (Fault refusal) f (ap outputs e) in
    (x.0, x.1, x.2)

-- the two needs that write and ask nothing are told apart by a test
more_not_ended : need.More ≡ need.Ended → ⊥
more_not_ended e = absurd cc

waits_so : (d : Due) (new : Progress) (left : List ℕ) (want : Need) (s : Session) → Follows d new left want s → want ≡ need.More → (d ≡ Waits) × Stands new left s
waits_so Waits new left want s f e = (refl, f.1)
waits_so Ends new left want s f e = absurd (more_not_ended (sym e ∙ f.0))
waits_so (Writes w items text) new left want s f e = absurd (nothing_asked (outputs want) (Wrote w) [] f.0 (ap outputs e))
waits_so (Requests q items text) new left want s f e = absurd (nothing_asked (outputs want) (Asked q) [] f.0 (ap outputs e))

pub more_is_due : MoreIsDue
more_is_due p new waiting n want s a e =
    let f = advances p new waiting n want s a.stood a.gives in
    let x = waits_so (due_in s) new (drop n waiting) want s f e in
    (x.0, turn_leads new (drop n waiting) s Waits deed.Waited x.0 x.1)

ends_so : (d : Due) (new : Progress) (left : List ℕ) (want : Need) (s : Session) → Follows d new left want s → want ≡ need.Ended → d ≡ Ends
ends_so Waits new left want s f e = absurd (more_not_ended (sym f.0 ∙ e))
ends_so Ends new left want s f e = refl
ends_so (Writes w items text) new left want s f e = absurd (nothing_asked (outputs want) (Wrote w) [] f.0 (ap outputs e))
ends_so (Requests q items text) new left want s f e = absurd (nothing_asked (outputs want) (Asked q) [] f.0 (ap outputs e))

pub end_is_due : EndIsDue
end_is_due p new waiting n want s a e = ends_so (due_in s) new (drop n waiting) want s (advances p new waiting n want s a.stood a.gives) e

takes_so : (d : Due) → TakesMemory d → (r : Request) × (items : List Item) × (text : List ℕ) × (d ≡ Requests r items text) × TakesMemory (Requests r items text)
takes_so Waits m = absurd m
takes_so Ends m = absurd m
takes_so (Writes w items text) m = absurd m
takes_so (Requests r items text) m = (r, items, text, refl, m)

pub short_is_due : ShortIsDue
short_is_due p new waiting n want s h r = takes_so (due_in s) (subst TakesMemory (at_due p waiting s h) r.come)
