-- What holds of the account.
use Rattle.std.proofs.Common.{◌≡◌, ℕ, ◌+◌, Bool, List, ◌++◌, length, sym, ◌∙◌, ap, subst, arith}
use Rattle.std.specs.Prelude.{reverse}
use Rattle.std.proofs.lemmas.List.{length-map, length-reverse}
use Rattle.account.specs.Seen.{base_seen, event_seen, history, octets}
use Rattle.account.specs.declared.entry.Entry.{Entry}
use Rattle.account.specs.declared.entry.Outline.{Outline}
use Rattle.config_values.specs.Config.{Config}
use Rattle.spool_history.specs.Base.{Base}
use Rattle.spool_history.specs.Events.{Event}
use Rattle.spool_history.specs.Legal.{IsLegal}
use Rattle.spool_calls.specs.Looks.Detail.{Outlines}
use Rattle.account.specs.Kinds.{handed_in, kinds_in}
use Rattle.account.specs.declared.segment.Segment.{Segment}
use Rattle.spool_laws.specs.Freeing.{wider}
use Rattle.spool_core.specs.Headline.{Headline}
use Rattle.spool_core.proofs.Standing.{stands}
use Rattle.spool_ledgers.specs.Sums.{Sums}
use Rattle.locked_spool.specs.Held.{Held, IsHeld}
use Rattle.locked_spool.specs.Rotation.{AreRest, IsSegmentOf}
use Rattle.locked_spool.specs.Segments.{HasHeadline, IsLegalSegment, WithPast}
use Rattle.locked_spool.proofs.Written.{in_ranges}

-- so many entries tell so many events
pub as_many : (entries : List Entry) → length (history (reverse entries)) ≡ length entries
as_many entries = length-map (reverse entries) event_seen ∙ length-reverse entries

module _ {config : Config} {h : Held} {kept : List (Event Outline)} {room : ℕ} {totals : Sums} {marked : Bool} (is : IsHeld config h kept room totals marked) where
  -- the entries that are there are the rest of the account
  pub rest : (events : List (Event Outline)) → events ≡ kept → AreRest h events
  rest events e =
      let k = is.kept_is in
      subst (λ (es : List (Event Outline)). AreRest h es) (sym e) (record { past = k.past; all = k.all; since = k.since })

  -- so a segment with them is one of it
  pub of_rest : (s : Segment) → s.number ≡ h.number → s.before ≡ h.before → s.kinds_before ≡ h.kinds_before → s.handed_before ≡ h.handed_before → base_seen s.base ≡ h.base → s.since ≡ h.since → s.freed ≡ h.freed → history (reverse s.entries.items) ≡ kept
      → IsSegmentOf h s
  of_rest s n a b d e f g x = record { number = n; before = a; kinds_before = b; handed_before = d; base = e; since = f; freed = g; entries = rest (history (reverse s.entries.items)) x }

  with_past : (P : List (Event Outline) → Type 0) (s : Segment) → IsSegmentOf h s → P h.events → WithPast s P
  with_past P s of p =
      let r = of.entries in
      (r.past, r.since ∙ sym of.since, subst P (sym r.all) p)

  -- it is a legal history
  pub legal : (s : Segment) → IsSegmentOf h s → IsLegalSegment config s
  legal s of =
      let L : Config → Base → List (Event Outline) → Type 0 = λ c b es. IsLegal octets c b es in
      subst (λ (n : ℕ). WithPast s (L (wider n config) (base_seen s.base))) (sym of.freed)
      (subst (λ (b : Base). WithPast s (L (wider h.freed config) b)) (sym of.base)
      (with_past (L (wider h.freed config) h.base) s of (subst (λ (c : Config). L c h.base h.events) is.config_is is.left.legal)))

  -- of which the headline holds
  pub headline : (s : Segment) → IsSegmentOf h s → HasHeadline config s
  headline s of =
      subst (λ (n : ℕ). WithPast s (Headline (wider n config) (base_seen s.base))) (sym of.freed)
      (subst (λ (b : Base). WithPast s (Headline (wider h.freed config) b)) (sym of.base)
      (with_past (Headline (wider h.freed config) h.base) s of
      (subst (λ (c : Config). Headline c h.base h.events) is.config_is (stands Outlines h.base h.events h.core (in_ranges is) is.left))))

  -- the same of the parts of a segment
  pub legal_parts : (base : Base) (events : List (Event Outline)) (since freed : ℕ) → base ≡ h.base → events ≡ kept → since ≡ h.since → freed ≡ h.freed
      → (past : List (Event Outline)) × (length past ≡ since) × IsLegal octets (wider freed config) base (events ++ past)
  legal_parts base events since freed b e s f =
      let r = rest events e in (
        r.past,
        r.since ∙ sym s,
        subst (λ (x : List (Event Outline)). IsLegal octets (wider freed config) base x) (sym r.all)
            (subst (λ (x : Base). IsLegal octets (wider freed config) x h.events) (sym b)
            (subst (λ (n : ℕ). IsLegal octets (wider n config) h.base h.events) (sym f)
            (subst (λ (c : Config). IsLegal octets c h.base h.events) is.config_is is.left.legal))),
      )

  pub headline_parts : (base : Base) (events : List (Event Outline)) (since freed : ℕ) → base ≡ h.base → events ≡ kept → since ≡ h.since → freed ≡ h.freed
      → (past : List (Event Outline)) × (length past ≡ since) × Headline (wider freed config) base (events ++ past)
  headline_parts base events since freed b e s f =
      let r = rest events e in (
        r.past,
        r.since ∙ sym s,
        subst (λ (x : List (Event Outline)). Headline (wider freed config) base x) (sym r.all)
            (subst (λ (x : Base). Headline (wider freed config) x h.events) (sym b)
            (subst (λ (n : ℕ). Headline (wider n config) h.base h.events) (sym f)
            (subst (λ (c : Config). Headline c h.base h.events) is.config_is (stands Outlines h.base h.events h.core (in_ranges is) is.left)))),
      )

  -- all segments together have as many entries as the ledger says
  pub in_all : (entries : List Entry) (all : ℕ) → history (reverse entries) ≡ kept → all ≡ totals.entries → h.before + length entries ≡ all
  in_all entries all e whole =
      let n = as_many entries in
      let m : length (history (reverse entries)) ≡ length kept = ap length e in
      let o = is.entries in
      omega (arith, n, m, o, whole)

  pub kinds_all : (entries : List Entry) (all : ℕ) → history (reverse entries) ≡ kept → all ≡ totals.kinds → h.kinds_before + kinds_in (history (reverse entries)) ≡ all
  kinds_all entries all e whole = (let m : kinds_in (history (reverse entries)) ≡ kinds_in kept = ap kinds_in e in let o = is.kinds in omega (arith, m, o, whole))

  pub handed_all : (entries : List Entry) (all : ℕ) → history (reverse entries) ≡ kept → all ≡ totals.handed → h.handed_before + handed_in (history (reverse entries)) ≡ all
  handed_all entries all e whole = (let m : handed_in (history (reverse entries)) ≡ handed_in kept = ap handed_in e in let o = is.handed in omega (arith, m, o, whole))
