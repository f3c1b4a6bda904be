use Rattle.std.proofs.Common.{◌≡◌, ◌↔◌, ℕ, zero, suc, ◌+◌, ◌<◌, ◌≤◌, true, false, IsTrue, length, refl, ◌∙◌, ap, subst, add-one, arith, below_more}
use Rattle.config_values.specs.Config.{Config, Queue}
use Rattle.spool_history.specs.Base.{Base}
use Rattle.spool_history.specs.Events.{Event}
use Rattle.spool_calls.specs.Looks.{Detail, What}
use Rattle.spool_calls.specs.Kept.{Kept}
use Rattle.spool_calls.specs.Calls.{IsRight}
use Rattle.spool_calls.specs.Readers.{stopped_for}
use Rattle.std.specs.Prelude.{List}
use Rattle.locked_spool.specs.Held.{Held}
use Rattle.locked_spool.specs.Waiting.{HasStopped}
use Rattle.locked_spool.proofs.locked.Locked.finds_stopped.Goals as goal

module _ (old now : Kept) (e : old ≡ now) where
  -- a printer of this queue is stopped
  one : (n before : ℕ) (c : Config) (queues : List Queue) → before < length queues → queues ≡ c.queues → c ≡ old.config → 0 < n → IsRight old (λ d b h. n ≡ stopped_for d b h old (before + 1)) → IsRight now (λ d b h. IsTrue true ↔ HasStopped d b h now)
  one n before c queues lt all seen some a =
      subst (λ (z : Kept). IsRight z (λ d b h. IsTrue true ↔ HasStopped d b h z)) e
      (λ d b h l. (
        λ t. (
          before + 1,
          (omega arith, let m : length queues ≡ length old.config.queues = ap length all ∙ ap (λ (x : Config). length x.queues) seen in omega (arith, m, lt)),
          subst (λ (m : ℕ). 0 < m) (a d b h l) some,
        ),
        λ has. refl,
      ))

  -- of so many queues none has a stopped printer
  more : (n before : ℕ) → n ≤ 0 → IsRight old (λ d b h. n ≡ stopped_for d b h old (before + 1)) → IsRight now (λ d b h. (i : ℕ) → i < before → stopped_for d b h now (i + 1) ≡ 0)
      → IsRight now (λ d b h. (i : ℕ) → i < before + 1 → stopped_for d b h now (i + 1) ≡ 0)
  more n before le a below =
      let here = subst (λ (z : Kept). IsRight z (λ d b h. n ≡ stopped_for d b h z (before + 1))) e a in
      λ d b h l. below_more (λ i. stopped_for d b h now (i + 1) ≡ 0) before (below d b h l) (let m = here d b h l in omega (arith, m, le))

  -- so none has
  none : (before : ℕ) (c : Config) (queues : List Queue) → length queues ≤ before → queues ≡ c.queues → c ≡ old.config → IsRight now (λ d b h. (i : ℕ) → i < before → stopped_for d b h now (i + 1) ≡ 0) → IsRight now (λ d b h. IsTrue false ↔ HasStopped d b h now)
  none before c queues le all seen below =
      let m : length queues ≡ length now.config.queues = ap length all ∙ ap (λ (x : Config). length x.queues) (seen ∙ ap (λ (k : Kept). k.config) e) in
      λ d b h l. (λ t. absurd (cc), λ has. absurd (no_such d b h has.0 (below d b h l) has.1.0 (let high = has.1.1 in omega (arith, m, high, le)) has.2))
    where
      no_such : (d : Detail) (b : Base) (h : List (Event (What d))) (q : ℕ) → ((i : ℕ) → i < before → stopped_for d b h now (i + 1) ≡ 0) → 1 ≤ q → q ≤ before → 0 < stopped_for d b h now q → ⊥
      no_such d b h zero below low high some = omega (arith, low)
      no_such d b h (suc i) below low high some =
          let n = subst (λ (m : ℕ). stopped_for d b h now m ≡ 0) (add-one i) (below i (omega (arith, high))) in
          omega (arith, n, some)

pub returns-then-stopped_in-gt0 : goal.returns-then-stopped_in-gt0
returns-then-stopped_in-gt0 g c =
    one c.self.inside.core c.args.self.now.core (ap (λ (z : Held). z.core) c.self.view_is) c.stopped_in.result c.loop-before.before c.config.result.now c.queues.result.now c.loop-before-test.true c.queues.ensures.value c.config.ensures c.if-stopped_in-gt0.true c.stopped_in.ensures

pub loop-before-preserved : goal.loop-before-preserved
loop-before-preserved g c =
    more c.self.inside.core c.args.self.now.core (ap (λ (z : Held). z.core) c.self.view_is) c.stopped_in.result c.loop-before.before c.if-stopped_in-gt0.false c.stopped_in.ensures c.loop-before.invariant

pub returns : goal.returns
returns g c =
    none c.self.inside.core c.args.self.now.core (ap (λ (z : Held). z.core) c.self.view_is) c.loop-before.before c.config.result.now c.queues.result.now c.loop-before-test.false c.queues.ensures.value c.config.ensures c.loop-before.invariant
