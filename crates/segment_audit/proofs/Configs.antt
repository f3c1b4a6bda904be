-- Which configuration was read last.
use Rattle.std.proofs.Common.{◌≡◌, ℕ, List, [], ◌∷◌, refl, sym, ◌∙◌, subst, ap}
use Rattle.std.specs.Prelude.{Option, Some}
use Rattle.config_values.specs.Config.{Config}
use Rattle.segment_text.specs.declared.items.Stage.{Stage}
use Rattle.segment_text.specs.declared.items.Stage.TheVariants as stage
use Rattle.segment_text.specs.Heads as H
use Rattle.segment_text.specs.Items.{Item, Suits, stage_after, stage_of}
use Rattle.segment_text.specs.Items.Item.{OfOrigin, OfConfig, OfPrinter, OfStart, OfEvent, OfLast}
use Rattle.segment_audit.specs.declared.part.Part.{Part}
use Rattle.segment_audit.specs.declared.part.Part.TheVariants as part
use Rattle.segment_audit.specs.Audited.{AreAudited, Past, present, past_of, head_of, last_config, last_digest, past_config, past_digest, with_line}
use Rattle.segment_audit.specs.Read.{IsAtPrinters, IsBegun, IsHeaded, HasEntries, IsPart}

-- before its line it is that of the segment before, and behind it that of its own
abbrev Known : Stage → H.Head → Option Past → Option Config → Type 0
Known stage.Origin h p c = c ≡ past_config p
Known stage.Config h p c = c ≡ past_config p
Known _ h p c = c ≡ Some h.config

at_origin : (o : _) (s : Stage) (h : H.Head) (p : Option Past) (c : Option Config) → Suits s (OfOrigin o) → Known s h p c → c ≡ past_config p
at_origin o stage.Origin h p c u k = k
at_origin o stage.Config h p c u k = absurd u
at_origin o (stage.Printers n) h p c u k = absurd u
at_origin o stage.Entries h p c u k = absurd u
at_origin o stage.Over h p c u k = absurd u

at_printer : (q : _) (s : Stage) (h : H.Head) (p : Option Past) (c : Option Config) → Suits s (OfPrinter q) → Known s h p c → Known (stage_after s (OfPrinter q)) (with_line (OfPrinter q) h) p c
at_printer q stage.Origin h p c u k = absurd u
at_printer q stage.Config h p c u k = absurd u
at_printer q (stage.Printers n) h p c u k = k
at_printer q stage.Entries h p c u k = absurd u
at_printer q stage.Over h p c u k = absurd u

at_start : (b : _) (s : Stage) (h : H.Head) (p : Option Past) (c : Option Config) → Suits s (OfStart b) → Known s h p c → c ≡ Some h.config
at_start b stage.Origin h p c u k = absurd u
at_start b stage.Config h p c u k = absurd u
at_start b (stage.Printers n) h p c u k = k
at_start b stage.Entries h p c u k = absurd u
at_start b stage.Over h p c u k = absurd u

at_event : (e : _) (s : Stage) (h : H.Head) (p : Option Past) (c : Option Config) → Suits s (OfEvent e) → Known s h p c → c ≡ Some h.config
at_event e stage.Origin h p c u k = absurd u
at_event e stage.Config h p c u k = absurd u
at_event e (stage.Printers n) h p c u k = absurd u
at_event e stage.Entries h p c u k = k
at_event e stage.Over h p c u k = absurd u

at_last : (l : _) (s : Stage) (h : H.Head) (p : Option Past) (c : Option Config) → Suits s (OfLast l) → Known s h p c → c ≡ Some h.config
at_last l stage.Origin h p c u k = absurd u
at_last l stage.Config h p c u k = absurd u
at_last l (stage.Printers n) h p c u k = absurd u
at_last l stage.Entries h p c u k = k
at_last l stage.Over h p c u k = absurd u

known : (after : Option (List ℕ)) (is : List Item) → AreAudited after is → Known (stage_of (present is)) (head_of (present is)) (past_of is) (last_config is)
known after [] a = refl
known after (OfOrigin o ∷ is) a = at_origin o (stage_of (present is)) (head_of (present is)) (past_of is) (last_config is) a.0.0.0 (known after is a.1)
known after (OfConfig c ∷ is) a = refl
known after (OfPrinter q ∷ is) a = at_printer q (stage_of (present is)) (head_of (present is)) (past_of is) (last_config is) a.0.0.0 (known after is a.1)
known after (OfStart b ∷ is) a = at_start b (stage_of (present is)) (head_of (present is)) (past_of is) (last_config is) a.0.0.0 (known after is a.1)
known after (OfEvent e ∷ is) a = at_event e (stage_of (present is)) (head_of (present is)) (past_of is) (last_config is) a.0.0.0 (known after is a.1)
known after (OfLast l ∷ is) a = at_last l (stage_of (present is)) (head_of (present is)) (past_of is) (last_config is) a.0.0.0 (known after is a.1)

of_printers : (s : Stage) (h : H.Head) (p : Option Past) (c : Option Config) → IsAtPrinters s → Known s h p c → c ≡ Some h.config
of_printers stage.Origin h p c a k = absurd a
of_printers stage.Config h p c a k = absurd a
of_printers (stage.Printers n) h p c a k = k
of_printers stage.Entries h p c a k = absurd a
of_printers stage.Over h p c a k = absurd a

-- at each part
pub of_headed : (p : Part) (after : Option (List ℕ)) (is : List Item) (b : _) (o : _) (c : Config) (ps : _) → AreAudited after is → IsPart p is → p ≡ part.Headed b o c ps → last_config is ≡ Some c
of_headed p after is b o c ps a w e =
    let h : IsHeaded o c ps.items (present is) = (subst (λ (t : Part). IsPart t is) e w).0 in
    of_printers (stage_of (present is)) (head_of (present is)) (past_of is) (last_config is) h.stage (known after is a) ∙ ap Some (sym h.config)

pub of_entries : (p : Part) (after : Option (List ℕ)) (is : List Item) (g : _) (d : _) (k : _) → AreAudited after is → IsPart p is → p ≡ part.Entries g d k → last_config is ≡ Some d.config
of_entries p after is g d k a w e =
    let h : HasEntries d (present is) = (subst (λ (t : Part). IsPart t is) e w).0 in
    let s : last_config is ≡ Some (head_of (present is)).config =
    subst (λ (s : Stage). Known s (head_of (present is)) (past_of is) (last_config is)) h.stage (known after is a) in
    s ∙ ap (λ (x : H.Head). Some x.config) (sym h.head)

pub of_between : (p : Part) (after : Option (List ℕ)) (is : List Item) (b : _) → AreAudited after is → IsPart p is → p ≡ part.Between b → last_config is ≡ past_config (past_of is)
of_between p after is b a w e =
    let z : present is ≡ [] = (subst (λ (t : Part). IsPart t is) e w).0 in
    subst (λ (s : Stage). Known s (head_of (present is)) (past_of is) (last_config is)) (ap stage_of z) (known after is a)

pub of_begun : (p : Part) (after : Option (List ℕ)) (is : List Item) (b : _) (o : _) → AreAudited after is → IsPart p is → p ≡ part.Begun b o → last_config is ≡ past_config (past_of is)
of_begun p after is b o a w e =
    let h : IsBegun o (present is) = (subst (λ (t : Part). IsPart t is) e w).0 in
    subst (λ (s : Stage). Known s (head_of (present is)) (past_of is) (last_config is)) h.stage (known after is a)

-- what is told of the segment that was over last
pub digest_known : (is : List Item) → last_digest is ≡ past_digest (past_of is)
digest_known [] = refl
digest_known (OfOrigin o ∷ is) = digest_known is
digest_known (OfConfig c ∷ is) = digest_known is
digest_known (OfPrinter p ∷ is) = digest_known is
digest_known (OfStart s ∷ is) = digest_known is
digest_known (OfEvent e ∷ is) = digest_known is
digest_known (OfLast l ∷ is) = refl
