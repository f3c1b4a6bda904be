-- Lines of rotations, one after another.
use Rattle.std.proofs.Common.{◌≡◌, ◌++◌, ◌∷◌, ◌∙◌, ℕ, List, [], Ok, OnOk, IfErr, Err, Option, Result, refl, ap, sym, subst, append_assoc}
use Rattle.std.proofs.lemmas.List.{append-nil}
use Rattle.lpd_commands.specs.Ends.{Writes}
use Rattle.lpd_commands.proofs.Writing.{Writes-append, Writes-none}
use Rattle.server_house.specs.Faults.{IsRunningFault, write_faults}
use Rattle.server_house.specs.Lines.{TellsRotations, WritesAll, WritesRotations, line_octets, rotation_octets}
use Rattle.server_house.specs.declared.faults.ServerFault.{ServerFault}
use Rattle.server_house.specs.declared.lines.PrintedLine.TheVariants.{Closed, Listening, Rotated}

pub rotation_octets-append : (a b : List (ℕ × ℕ)) → rotation_octets (a ++ b) ≡ rotation_octets a ++ rotation_octets b
rotation_octets-append [] b = refl
rotation_octets-append (s ∷ a) b =
    ap (λ t. line_octets (Rotated s.0 s.1) ++ t) (rotation_octets-append a b)
    ∙ sym (append_assoc (line_octets (Rotated s.0 s.1)) (rotation_octets a) (rotation_octets b))

-- no rotation
pub WritesRotations-none : (was : Option (List ℕ)) → WritesRotations was was
WritesRotations-none was = ([], Writes-none was)

-- one rotation
pub WritesRotations-one : (was now : Option (List ℕ)) (number entries : ℕ) → Writes was now (line_octets (Rotated number entries)) → WritesRotations was now
WritesRotations-one was now number entries w =
    ((number, entries) ∷ [], subst (λ t. Writes was now t) (sym (append-nil (line_octets (Rotated number entries)))) w)

-- rotations after rotations
pub WritesRotations-append : (was then_ now : Option (List ℕ)) → WritesRotations was then_ → WritesRotations then_ now → WritesRotations was now
WritesRotations-append was then_ now a b = (
  a.0 ++ b.0,
  subst (λ t. Writes was now t) (sym (rotation_octets-append a.0 b.0))
      (Writes-append was then_ now (rotation_octets a.0) (rotation_octets b.0) a.1 b.1),
)

-- nothing is told yet
pub TellsRotations-none : (was : Option (List ℕ)) (faults : ℕ) → TellsRotations was faults was faults (Ok tt)
unfolding TellsRotations
TellsRotations-none was faults = (WritesRotations-none was, refl, tt)

-- what was written, and how often writing failed
pub TellsRotations-written : (was : Option (List ℕ)) (faults : ℕ) (now : Option (List ℕ)) (now_faults : ℕ) (told : Result (Unit {0}) ServerFault) → TellsRotations was faults now now_faults told → OnOk told (WritesRotations was now)
unfolding TellsRotations
TellsRotations-written was faults now now_faults told tells = tells.0

pub TellsRotations-counts : (was : Option (List ℕ)) (faults : ℕ) (now : Option (List ℕ)) (now_faults : ℕ) (told : Result (Unit {0}) ServerFault) → TellsRotations was faults now now_faults told → now_faults ≡ write_faults faults told
unfolding TellsRotations
TellsRotations-counts was faults now now_faults told tells = tells.1

pub TellsRotations-fault : (was : Option (List ℕ)) (faults : ℕ) (now : Option (List ℕ)) (now_faults : ℕ) (told : Result (Unit {0}) ServerFault) → TellsRotations was faults now now_faults told → IfErr told IsRunningFault
unfolding TellsRotations
TellsRotations-fault was faults now now_faults told tells = tells.2

-- one rotation more, where all was printed until now
TellsRotations-more : (printed : Result (Unit {0}) ServerFault) (was then_ : Option (List ℕ)) (faults then_faults : ℕ) (now : Option (List ℕ)) (now_faults : ℕ) (number entries : ℕ) → WritesRotations was then_ → then_faults ≡ faults → OnOk printed (Writes then_ now (line_octets (Rotated number entries))) → now_faults ≡ write_faults then_faults printed → IfErr printed IsRunningFault → TellsRotations was faults now now_faults printed
unfolding TellsRotations
TellsRotations-more (Ok v) was then_ faults then_faults now now_faults number entries all same w c f =
    (WritesRotations-append was then_ now all (WritesRotations-one then_ now number entries w), c ∙ same, f)
TellsRotations-more (Err e) was then_ faults then_faults now now_faults number entries all same w c f =
    (tt, c ∙ ap (λ n. write_faults {A = Unit {0}} n (Err e)) same, f)

pub TellsRotations-then : (told printed : Result (Unit {0}) ServerFault) (was then_ : Option (List ℕ)) (faults then_faults : ℕ) (now : Option (List ℕ)) (now_faults : ℕ) (number entries : ℕ) → TellsRotations was faults then_ then_faults told → told ≡ Ok tt → OnOk printed (Writes then_ now (line_octets (Rotated number entries))) → now_faults ≡ write_faults then_faults printed → IfErr printed IsRunningFault → TellsRotations was faults now now_faults printed
unfolding TellsRotations
TellsRotations-then told printed was then_ faults then_faults now now_faults number entries before is w c f =
    let all : TellsRotations was faults then_ then_faults (Ok tt) = subst (λ t. TellsRotations was faults then_ then_faults t) is before in
    TellsRotations-more printed was then_ faults then_faults now now_faults number entries all.0 all.1 w c f

-- rotations between the first line and the last one
pub WritesAll-of : (was listening rotated now : Option (List ℕ)) (port entries : ℕ) → Writes was listening (line_octets (Listening port)) → WritesRotations listening rotated → Writes rotated now (line_octets (Closed entries)) → WritesAll was now
WritesAll-of was listening rotated now port entries first between last = (
  port,
  between.0,
  entries,
  Writes-append was listening now (line_octets (Listening port)) (rotation_octets between.0 ++ line_octets (Closed entries)) first
      (Writes-append listening rotated now (rotation_octets between.0) (line_octets (Closed entries)) between.1 last),
)

-- where all went well
pub WritesAll-ok : {A B E : Type 0} (told : Result (Unit {0}) B) (result : Result A E) (was listening rotated now : Option (List ℕ)) (port : ℕ) → Writes was listening (line_octets (Listening port)) → OnOk told (WritesRotations listening rotated) → OnOk result (told ≡ Ok tt) → OnOk result ((entries : ℕ) × Writes rotated now (line_octets (Closed entries))) → OnOk result (WritesAll was now)
WritesAll-ok {A} {B} told (Ok v) was listening rotated now port first between is last =
    WritesAll-of was listening rotated now port last.0 first
    (subst (λ (t : Result (Unit {0}) B). OnOk t (WritesRotations listening rotated)) is between) last.1
WritesAll-ok told (Err e) was listening rotated now port first between is last = tt
