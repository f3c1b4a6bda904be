-- Entries that are read in order of writing, as a history, which has the newest first.
use Rattle.std.proofs.Common.{◌≡◌, ℕ, ◌+◌, ◌<◌, ◌≤◌, List, [], ◌∷◌, ◌++◌, length, take, drop, get_or, refl, sym, ◌∙◌, ap, arith}
use Rattle.std.specs.Prelude.{reverse}
use Rattle.std.proofs.lemmas.List.{length-append, map-append, reverse-append, take-append-drop, take_all, take_more}
use Rattle.spool_history.specs.Base.{Base}
use Rattle.spool_history.specs.Events.{Event}
use Rattle.spool_history.specs.Events.Event.{Opened, OfJob, AtPrinter, Removed, Started, Closed}
use Rattle.spool_history.specs.Said.{is_closed, openings}
use Rattle.spool_history.specs.Steps.{accepted_by, closed_after}
use Rattle.account.specs.declared.entry.Entry.{Entry}
use Rattle.account.specs.declared.entry.Outline.{Outline}
use Rattle.account.specs.Seen.{event_seen, history}

-- what the first entries tell, so many
abbrev pub told : List Entry → ℕ → List (Event Outline)
told entries n = history (reverse (take n entries))

pub told_more : (entries : List Entry) (i : ℕ) (x : Entry) → i < length entries → x ≡ get_or entries i x → told entries (i + 1) ≡ event_seen x ∷ told entries i
told_more entries i x lt is =
    ap (λ (l : List Entry). history (reverse l)) (take_more entries i x lt)
    ∙ (ap history (reverse-append (take i entries) (get_or entries i x ∷ []))
    ∙ ap (λ (y : Entry). event_seen y ∷ told entries i) (sym is))

pub told_all : (entries : List Entry) (n : ℕ) → length entries ≤ n → told entries n ≡ history (reverse entries)
told_all entries n le = ap (λ (l : List Entry). history (reverse l)) (take_all n entries le)

-- what all entries tell begins with what later ones tell
told_split : (entries : List Entry) (n : ℕ) → history (reverse entries) ≡ history (reverse (drop n entries)) ++ told entries n
told_split entries n =
    ap (λ (l : List Entry). history (reverse l)) (sym (take-append-drop n entries))
    ∙ (ap history (reverse-append (take n entries) (drop n entries))
    ∙ map-append event_seen (reverse (drop n entries)) (reverse (take n entries)))

-- one more event

pub openings_more : (e : Event Outline) (h : List (Event Outline)) → length (openings (e ∷ h)) ≡ length (openings h) + length (accepted_by e)
openings_more (Opened j s q) h = length-append (openings h) _
openings_more (OfJob j act) h = omega arith
openings_more (AtPrinter p sheet turn) h = omega arith
openings_more (Removed q jobs) h = omega arith
openings_more (Started q) h = omega arith
openings_more Closed h = omega arith

pub closed_more : (b : Base) (e : Event Outline) (h : List (Event Outline)) → is_closed b (e ∷ h) ≡ closed_after e (is_closed b h)
closed_more b (Opened j s q) h = refl
closed_more b (OfJob j act) h = refl
closed_more b (AtPrinter p sheet turn) h = refl
closed_more b (Removed q jobs) h = refl
closed_more b (Started q) h = refl
closed_more b Closed h = refl

openings_fewer : (g h : List (Event Outline)) → length (openings h) ≤ length (openings (g ++ h))
openings_fewer [] h = omega arith
openings_fewer (e ∷ g) h = omega (arith, openings_fewer g h, openings_more e (g ++ h))

-- no part of what entries tell has more openings than all of it
pub openings_within : (entries : List Entry) (n : ℕ) → length (openings (told entries n)) ≤ length (openings (history (reverse entries)))
openings_within entries n =
    omega (arith, openings_fewer (history (reverse (drop n entries))) (told entries n), ap (λ (h : List (Event Outline)). length (openings h)) (told_split entries n))
