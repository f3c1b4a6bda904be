-- Steps one after another.
use Rattle.std.proofs.Common.{◌≡◌, ℕ, suc, ◌+◌, ◌<◌, List, [], ◌∷◌, ◌++◌, length, get_or, take, arith, refl, sym, subst, ap, ◌∙◌}
use Rattle.std.proofs.Math.Seq.{take-suc}
use Rattle.std.proofs.lemmas.List.{length-take-le}
use Rattle.spool_trace.specs.declared.reply.Reply.{Reply}
use Rattle.spool_trace.specs.declared.step.Step.{Step}
use Rattle.spool_trace.specs.Trace.{Trace}
use Rattle.spool_trace.specs.Headline.{Headline}
use Rattle.spool_trace.proofs.Whole.{holds}
use Rattle.spool_world.specs.Worlds.{Leads, Steps, Worlds, entry}
use Rattle.spool_world.specs.Runs.{Runs, told}

told_last : (ss : List Step) (rs : List Reply) (s : Step) (r : Reply) (t : Trace) → length ss ≡ length rs → told (ss ++ s ∷ []) (rs ++ r ∷ []) t ≡ entry s r ∷ told ss rs t
told_last [] [] s r t e = refl
told_last [] (y ∷ ys) s r t e = absurd (omega (arith, e))
told_last (x ∷ xs) [] s r t e = absurd (omega (arith, e))
told_last (x ∷ xs) (y ∷ ys) s r t e = told_last xs ys s r (entry x y ∷ t) (omega (arith, e))

plus_one : (i : ℕ) → i + 1 ≡ suc i
plus_one i = omega (arith)

-- one more step
pub runs_on : (old mid new : Worlds) (steps : List Step) (replies more : List Reply) (i : ℕ) (s : Step) (r : Reply) → Runs old (take i steps) replies mid → Steps mid s r new → i < length steps → s ≡ get_or steps i s → length replies ≡ i → more ≡ replies ++ r ∷ []
    → Runs old (take (i + 1) steps) more new
runs_on old mid new steps replies more i s r runs step lt is count m t l =
    let taken : take (i + 1) steps ≡ take i steps ++ s ∷ [] = ap (λ (n : ℕ). take n steps) (plus_one i) ∙ take-suc steps i s lt ∙ ap (λ (x : Step). take i steps ++ x ∷ []) (sym is) in
    let same : length (take i steps) ≡ length replies = length-take-le i steps (omega (arith, lt)) ∙ sym count in
    let all : told (take (i + 1) steps) more t ≡ entry s r ∷ told (take i steps) replies t =
    ap (λ (x : List Step). told x more t) taken ∙ ap (λ (x : List Reply). told (take i steps ++ s ∷ []) x t) m ∙ told_last (take i steps) replies s r t same in
    subst (λ (x : Trace). Leads x new) (sym all) (step (told (take i steps) replies t) (runs t l)).1

-- the headline holds of each trace that leads somewhere
pub headline_of : (w : Worlds) (t : Trace) → Leads t w → Headline w.core.config t
headline_of w t l = holds w.core.config t l.ranges l.right
