use Rattle.std.proofs.Common.{◌≡◌, ℕ, Bool, List, ◌∷◌, refl, sym, ◌∙◌, subst}
use Rattle.std.specs.Prelude.{Ok}
use Rattle.lpd_values.specs.Contents.{Contents}
use Rattle.control_file.specs.View.{contents}
use Rattle.account.specs.Seen.{base_seen}
use Rattle.account.specs.declared.entry.Outline.{Outline}
use Rattle.spool_history.specs.Base.{Base}
use Rattle.spool_history.specs.Events.{Event}
use Rattle.spool_history.specs.Events.Act.{Controlled}
use Rattle.spool_history.specs.Events.Event.{OfJob}
use Rattle.spool_calls.specs.declared.answers.Receipt.{Receipt}
use Rattle.spool_calls.specs.Looks.Detail.{Outlines}
use Rattle.spool_calls.specs.Kept.{Kept, Leaves}
use Rattle.spool_calls.specs.Calls.{Controls, is_whole}
use Rattle.locked_spool.proofs.Written.{room_here, unchanged, whole_is, written_here}
use Rattle.locked_spool.proofs.locked.Locked.control.Goals as goal

-- the control file is there
there : (b : Base) (h : List (Event Outline)) (old new : Kept) (job : ℕ) (control copy : Contents) (got : Receipt) (whole : Bool) → copy ≡ control → whole ≡ is_whole got
    → Controls Outlines b h old job control new (Ok got) → Leaves Outlines b (OfJob job (Controlled copy whole) ∷ h) new
there b h old new job control copy got whole same said a =
    subst (λ (v : Contents). Leaves Outlines b (OfJob job (Controlled v whole) ∷ h) new) (sym same)
    (subst (λ (v : Bool). Leaves Outlines b (OfJob job (Controlled control v) ∷ h) new) (sym said) a.1)

pub invariant_of-self : goal.invariant_of-self
invariant_of-self g c =
    let i = c.self.invariant in
    let a = c.self.inside in
    unchanged i _ (c.in_err-receipt.ensures.answer _ _ _ i.left).1

pub write-requires-clause-room : goal.write-requires-clause-room
write-requires-clause-room g c =
    let i = c.self.invariant in
    let a = c.self.inside in
    let s = c.in_ok-receipt.ensures in
    let b = base_seen a.base in
    let h = a.account.events in
    let got = c.in_ok-receipt.receipt in
    room_here i (there b h a.core c.control.new.self c.args.job (contents c.args.control) (contents c.in-Ok.copy) got c.eq-is_whole.result c.in-Ok.ensures
    (c.eq-is_whole.ensures ∙ whole_is got) (s.answer _ _ _ i.left)) s.config refl

pub invariant_of-self-2 : goal.invariant_of-self-2
invariant_of-self-2 g c =
    let i = c.self.invariant in
    let a = c.self.inside in
    let s = c.in_ok-receipt.ensures in
    let w = c.write.ensures in
    let b = base_seen a.base in
    let h = a.account.events in
    let got = c.in_ok-receipt.receipt in
    written_here i c.write.new.account.events c.write.new.account.kept c.write.new.account.room c.write.new.books
    (there b h a.core c.control.new.self c.args.job (contents c.args.control) (contents c.in-Ok.copy) got c.eq-is_whole.result c.in-Ok.ensures
    (c.eq-is_whole.ensures ∙ whole_is got) (s.answer _ _ _ i.left)) s.config refl refl w.events w.kept w.room w.books
