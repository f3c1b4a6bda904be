use Rattle.std.proofs.Common.{◌≡◌, ◌≢◌, ◌==◌, ℕ, Bool, true, false, List, [], ◌∷◌, length, refl, ap, subst, sym, inl, inr, arith}
use Rattle.std.proofs.lemmas.Bool.Decides.{nat_tests}
use Rattle.spool_history.specs.Base.{Base}
use Rattle.spool_history.specs.Events.{Event}
use Rattle.spool_history.specs.Events.Event.{Removed}
use Rattle.spool_calls.specs.Looks.{Detail, What}
use Rattle.spool_calls.specs.Looks.Detail.{Outlines}
use Rattle.spool_calls.specs.Kept.{Kept, Leaves}
use Rattle.spool_calls.specs.Calls.{IsRight}
use Rattle.spool_calls.specs.Stocks.{EndsTo, listed, stock}
use Rattle.step_lemmas.proofs.Cores.EndingMany.{stocked}
use Rattle.step_lemmas.proofs.Cores.Closing.{removed_leaves}
use Rattle.spool_core.specs.Halves.{MayRemove, RemovesJobs}
use Rattle.spool_core.specs.Inside.{core_view}
use Rattle.spool_core.proofs.Cores.{still}
use Rattle.spool_core.proofs.core_state.Core.remove_chosen.Goals.{After-end_listed}
use Rattle.spool_core.proofs.core_state.Core.remove_chosen.Goals as goal

abbrev Answer : ℕ → List ℕ → Kept → Kept → (d : Detail) → Base → List (Event (What d)) → Type 0
Answer q numbers new k d b h = RemovesJobs d b h k q numbers new

pub end_listed-requires : goal.end_listed-requires
end_listed-requires c =
    let a = c.self.inside in
    let r = c.self.invariant.reached in
    stocked Outlines r.0 r.1 (core_view a) r.2

-- whether there is a number
empty : (n : ℕ) (numbers : List ℕ) (t : Bool) → t ≡ (n == 0) → t ≡ true → n ≡ length numbers → numbers ≡ []
empty n [] t e is l = refl
empty n (k ∷ ks) t e is l = absurd (grind (arith, nat_tests))

some' : (n : ℕ) (numbers : List ℕ) (t : Bool) → t ≡ (n == 0) → t ≡ false → n ≡ length numbers → numbers ≢ []
some' n numbers t e is l z = absurd (let m : length numbers ≡ 0 = ap length z in grind (arith, nat_tests))

pub returns-then-is_empty-clause-answer : goal.returns-then-is_empty-clause-answer
returns-then-is_empty-clause-answer c d b h l =
    let numbers = c.args.numbers.now in
    inl (empty (length numbers) numbers c.is_empty.result c.is_empty.ensures c.if-is_empty.true refl, refl)

-- the core without the jobs of these numbers
module _ (c : After-end_listed) where
  abbrev k : Kept
  k = core_view c.self.inside

  abbrev q : ℕ
  q = c.args.queue

  abbrev numbers : List ℕ
  numbers = c.args.numbers.now

  some_chosen : numbers ≢ []
  some_chosen = some' (length numbers) numbers c.is_empty.result c.is_empty.ensures c.if-is_empty.false refl

  ends : EndsTo (listed numbers) (stock k.book k.pool k.table) (stock c.end_listed.new.book c.end_listed.new.pool c.end_listed.new.table)
  ends = c.end_listed.ensures

  abbrev new : Kept
  new = record k { pool = c.end_listed.new.pool; book = c.end_listed.new.book; table = c.end_listed.new.table }

  gone : (d : Detail) (b : Base) (h : List (Event (What d))) → Leaves d b h k → Leaves d b (Removed q numbers ∷ h) new
  gone d b h l =
      let may = subst (λ (z : Kept). IsRight z (λ d b h. MayRemove d b h z q numbers)) (sym c.self.view_is) c.requires in
      removed_leaves d b h k l q numbers (stock c.end_listed.new.book c.end_listed.new.pool c.end_listed.new.table) (may d b h l some_chosen) ends

pub invariant_of-self : goal.invariant_of-self
invariant_of-self c =
    let x = (goal.at.invariant_of-self c).After-end_listed in
    let r = c.self.invariant.reached in
    still c.self.inside _ c.self.invariant refl refl refl (r.0, Removed (q x) (numbers x) ∷ r.1, gone x Outlines r.0 r.1 r.2)

pub returns-clause-answer : goal.returns-clause-answer
returns-clause-answer c =
    let x = (goal.at.returns-clause-answer c).After-end_listed in
    subst (λ (z : Kept). IsRight z (Answer (q x) (numbers x) (new x) z)) c.self.view_is (λ d b h l. inr (some_chosen x, gone x d b h l))
