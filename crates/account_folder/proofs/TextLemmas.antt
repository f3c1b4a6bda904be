-- A segment's text that is written a piece at a time.
use Rattle.std.proofs.Common.{◌≡◌, ◌<◌, ◌≤◌, ◌+◌, ◌++◌, ◌∙◌, ℕ, List, [], ◌∷◌, Option, Some, None, get_or, length, map, take, refl, sym, ap, subst, append_assoc, arith, suc}
use Rattle.std.proofs.lemmas.List.{append-nil, map-append, take_all, take_more}
use Rattle.spool_history.specs.Events.{Event}
use Rattle.account.specs.declared.entry.Entry.{Entry}
use Rattle.account.specs.declared.entry.Outline.{Outline}
use Rattle.account.specs.Seen.{event_seen}
use Rattle.lpd_commands.specs.Ends.{Writes}
use Rattle.sha2.specs.Sha256.{sha256}
use Rattle.segment_text.specs.Heads.{Head, last_line}
use Rattle.segment_text.specs.Items.{Item, body_items, digest_of, entries_of, head_items, segment_items, text_of, with_events, with_feed}
use Rattle.segment_text.specs.Items.Item.{OfEvent}
use Rattle.segment_text.proofs.InTurn.{head_entries}
use Rattle.account_folder.specs.Texts.{IsOnItsWay}

-- nothing was written yet
pub begins : (o : Option (List ℕ)) → Writes o o []
begins None = refl
begins (Some xs) = ap Some (sym (append-nil xs))

-- one piece behind another
pub one_more_piece : (was mid now : Option (List ℕ)) (a b : List ℕ) → Writes was mid a → Writes mid now b → Writes was now (a ++ b)
one_more_piece None mid now a b h k = subst (λ (m : Option (List ℕ)). Writes m now b) h k
one_more_piece (Some xs) mid now a b h k =
    let w : now ≡ Some ((xs ++ a) ++ b) = subst (λ (m : Option (List ℕ)). Writes m now b) h k in
    w ∙ ap Some (append_assoc xs a b)

-- all of it is written
pub passes : (was mid now : Option (List ℕ)) (text all : List ℕ) → IsOnItsWay was mid text all → Writes mid now text → IsOnItsWay was now [] all
passes was mid now text all way writes = record {
  written = way.written ++ text;
  writes = one_more_piece was mid now way.written text way.writes writes;
  whole = way.whole ∙ sym (append-nil (way.written ++ text));
}

-- and then it is written whole
pub ends : (was mid now : Option (List ℕ)) (text all : List ℕ) → IsOnItsWay was mid text all → Writes mid now text → Writes was now all
ends was mid now text all way writes =
    subst (λ (l : List ℕ). Writes was now l) (sym way.whole) (one_more_piece was mid now way.written text way.writes writes)

-- something more is to be written
pub grows : (was now : Option (List ℕ)) (rest all more : List ℕ) → IsOnItsWay was now rest all → IsOnItsWay was now (rest ++ more) (all ++ more)
grows was now rest all more way = record {
  written = way.written;
  writes = way.writes;
  whole = ap (λ (l : List ℕ). l ++ more) way.whole ∙ append_assoc way.written rest more;
}

-- the items of a head and of the first entries, so many
abbrev pub first_items : Head → List Entry → ℕ → List Item
first_items h entries n = body_items h (map event_seen (take n entries))

events_more : (is : List Item) (es : List (Event Outline)) (e : Event Outline) → with_events is (es ++ e ∷ []) ≡ OfEvent e ∷ with_events is es
events_more is [] e = refl
events_more is (x ∷ es) e = events_more (OfEvent x ∷ is) es e

pub first_more : (h : Head) (entries : List Entry) (i : ℕ) (x : Entry) → i < length entries → x ≡ get_or entries i x → first_items h entries (i + 1) ≡ OfEvent (event_seen x) ∷ first_items h entries i
first_more h entries i x lt is =
    ap (λ (l : List Entry). body_items h (map event_seen l)) (take_more entries i x lt)
    ∙ (ap (body_items h) (map-append event_seen (take i entries) (get_or entries i x ∷ []))
    ∙ (events_more (head_items h) (map event_seen (take i entries)) (event_seen (get_or entries i x))
    ∙ ap (λ (y : Entry). OfEvent (event_seen y) ∷ first_items h entries i) (sym is)))

pub first_all : (h : Head) (entries : List Entry) (n : ℕ) → length entries ≤ n → first_items h entries n ≡ body_items h (map event_seen entries)
first_all h entries n le = ap (λ (l : List Entry). body_items h (map event_seen l)) (take_all n entries le)

events_entries : (is : List Item) (es : List (Event Outline)) → entries_of (with_events is es) ≡ entries_of is + length es
events_entries is [] = omega arith
events_entries is (x ∷ es) =
    let e = events_entries (OfEvent x ∷ is) es in
    let d : entries_of (OfEvent x ∷ is) + length es ≡ entries_of is + suc (length es) = omega arith in
    e ∙ d

-- the last line behind all others makes the whole text
pub last_more : (h : Head) (es : List (Event Outline)) → text_of (body_items h es) ++ with_feed (last_line (record { entries = entries_of (body_items h es); digest = sha256 (text_of (body_items h es)) })) ≡ text_of (segment_items h es)
last_more h es =
    let count : entries_of (body_items h es) ≡ length es = (let e = events_entries (head_items h) es in let none = head_entries h in omega arith) in
    ap (λ (n : ℕ). text_of (body_items h es) ++ with_feed (last_line (record { entries = n; digest = digest_of h es }))) count
