-- What is said of a job when a page of it was printed.
use Rattle.std.proofs.Common.{◌≡◌, ◌==◌, ℕ, ◌+◌, Bool, true, false, List, [], ◌∷◌, length, refl, sym, ◌∙◌, subst, arith}
use Rattle.std.specs.Prelude.{◌↔◌, cond}
use Rattle.std.proofs.lemmas.Bool.Decides.{nat_tests}
use Rattle.spool_history.specs.Base.{Base}
use Rattle.spool_history.specs.Events.{Event, Sheet, Progress}
use Rattle.spool_history.specs.Events.Progress.{Going, Done, Ended}
use Rattle.spool_history.specs.Events.Turn.{Printed}
use Rattle.spool_history.specs.Events.Event.{AtPrinter}
use Rattle.config_values.specs.Config.{Config}
use Rattle.spool_history.specs.Said.{back_of, has_ended}
use Rattle.spool_history.specs.Now.{Job, now}
use Rattle.spool_history.specs.Legal.{IsLegal, May, progress_of}
use Rattle.spool_laws.specs.Leaving.{EachPrinted, SaysWhatIs, places_of}
use Rattle.spool_laws.proofs.Known.{At, has_at}
use Rattle.spool_laws.proofs.Facts.{facts, is_out}

done_by : (e b : Bool) (n m : ℕ) (x : Progress) → (n + 1 == m) ≡ b → x ≡ cond e Ended (cond b Done Going) → (x ≡ Done) ↔ ((e ≡ false) × (n + 1 ≡ m))
done_by true b n m x is e = (λ d. absurd (cc (sym e ∙ d)), λ d. absurd cc)
done_by false true n m x is e = (λ d. (refl, grind (arith, nat_tests)), λ d. e)
done_by false false n m x is e = (λ d. absurd (cc (sym e ∙ d)), λ d. (let z = d.1 in absurd (grind (arith, nat_tests))))

ended_by : (e b : Bool) (x : Progress) → x ≡ cond e Ended (cond b Done Going) → (x ≡ Ended) ↔ (e ≡ true)
ended_by true b x e = (λ d. refl, λ d. e)
ended_by false true x e = (λ d. absurd (cc (sym e ∙ d)), λ d. absurd cc)
ended_by false false x e = (λ d. absurd (cc (sym e ∙ d)), λ d. absurd cc)

pub says : {C : Type 0} (size : C → ℕ) (c : Config) (base : Base) (h : List (Event C)) (p : ℕ) (sheet : Sheet C) (x : Progress) → IsLegal size c base h → May size (now c base h) (AtPrinter p sheet (Printed x)) → SaysWhatIs h sheet x
says {C} size c base h p sheet x l m =
    let a : At h sheet.job (λ (v : Job C). x ≡ progress_of v) = has_at c base h sheet.job (λ v. x ≡ progress_of v) m.1.1 in
    let place : sheet.place ≡ back_of h sheet.job = ((facts size c base h l).out p sheet (is_out c base h p sheet m.0 m.1.0)).2 in
    let is : x ≡ cond (has_ended h sheet.job) Ended (cond (sheet.place + 1 == length (places_of h sheet.job)) Done Going) =
    subst (λ (n : ℕ). x ≡ cond (has_ended h sheet.job) Ended (cond (n + 1 == length (places_of h sheet.job)) Done Going)) (sym place) a.is in
    record {
      done = done_by (has_ended h sheet.job) (sheet.place + 1 == length (places_of h sheet.job)) sheet.place (length (places_of h sheet.job)) x refl is;
      ended = ended_by (has_ended h sheet.job) (sheet.place + 1 == length (places_of h sheet.job)) x is;
    }

pub each_says : {C : Type 0} (size : C → ℕ) (c : Config) (base : Base) (h : List (Event C)) → IsLegal size c base h → EachPrinted SaysWhatIs h
each_says size c base [] l = tt
each_says size c base (AtPrinter p sheet (Printed x) ∷ h) l = (says size c base h p sheet x l.1 l.0, each_says size c base h l.1)
each_says size c base (_ ∷ h) l = each_says size c base h l.1
