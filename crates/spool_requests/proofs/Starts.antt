-- A printer is stopped where a start may come for it.
use Rattle.std.proofs.Common.{◌≡◌, ◌==◌, ℕ, zero, suc, ◌<◌, Bool, true, false, List, [], ◌∷◌, length, get_or, refl, sym, ◌∙◌, subst, arith}
use Rattle.std.specs.Prelude.{◌&&◌}
use Rattle.std.proofs.lemmas.Bool.{eqb-true, eq-eqb}
use Rattle.std.proofs.lemmas.List.Folds.{Any-from_list_any, list_any-from_Any}
use Rattle.config_values.specs.Config.{Config, IsPrinter, printer_count}
use Rattle.spool_history.specs.Base.{Base}
use Rattle.spool_history.specs.Events.{Event}
use Rattle.spool_history.specs.Now.{Printer, now, printer_of}
use Rattle.spool_history.specs.Next.{no_printer, printer_at}
use Rattle.spool_history.specs.Legal.{IsStoppedFor}
use Rattle.spool_laws.proofs.Known.{clash}
use Rattle.spool_laws.proofs.Adding.{length_up_to}
use Rattle.spool_requests.specs.Shows.{has_stopped}
use Rattle.spool_requests.specs.Decided.{StartIsDecided}

pub other_default : {X : Type 0} (xs : List X) (k : ℕ) (d e : X) → k < length xs → get_or xs k d ≡ get_or xs k e
other_default [] k d e lt = absurd (omega (arith, lt))
other_default (x ∷ xs) zero d e lt = refl
other_default (x ∷ xs) (suc k) d e lt = other_default xs k d e (omega (arith, lt))

pub both : (a b : Bool) → a ≡ true → b ≡ true → (a && b) ≡ true
both a b e f = rw (e, f) refl

pub each : (a b : Bool) → (a && b) ≡ true → (a ≡ true) × (b ≡ true)
each true b e = (refl, e)
each false b e = absurd (clash false e refl)

abbrev test : {C : Type 0} → ℕ → Printer C → Bool
test q p = (p.queue == q) && p.stopped

module _ {C : Type 0} (c : Config) (b : Base) (h : List (Event C)) (q : ℕ) where
  many : length (now c b h).printers ≡ printer_count c
  many = length_up_to (printer_of c b h) (printer_count c)

  there : has_stopped (now c b h) q ≡ true → (p : ℕ) × IsPrinter c p × IsStoppedFor q (printer_at (now c b h) p)
  there e =
      let ps : List (Printer C) = (now c b h).printers in
      let a = Any-from_list_any (test q) ps e in
      let lt = a.2 in
      let m = many in
      let same : get_or ps a.0 no_printer ≡ a.1 = other_default ps a.0 no_printer a.1 a.2 ∙ a.3 in
      let t = each (a.1.queue == q) a.1.stopped a.4 in
      (suc a.0, (omega arith, omega (arith, m, lt)), subst (λ (x : Printer C). IsStoppedFor q x) (sym same) (eqb-true a.1.queue q t.0, t.1))

  back : (p : ℕ) → IsPrinter c p → IsStoppedFor q (printer_at (now c b h) p) → has_stopped (now c b h) q ≡ true
  back zero is s = absurd (let one = is.0 in omega (arith, one))
  back (suc i) is s =
      let ps : List (Printer C) = (now c b h).printers in
      let x : Printer C = get_or ps i no_printer in
      let m = many in
      let le = is.1 in
      let lt : i < length ps = omega (arith, m, le) in
      list_any-from_Any (test q) ps (i, x, lt, other_default ps i x no_printer lt, both (x.queue == q) x.stopped (eq-eqb x.queue q s.0) s.1)

pub start_decided : {C : Type 0} → StartIsDecided C
start_decided c b h q = (there c b h q, λ s. back c b h q s.0 s.1 s.2)
