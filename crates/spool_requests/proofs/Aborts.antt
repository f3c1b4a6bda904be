-- The end of a session aborts its job exactly where that may be aborted.
use Rattle.std.proofs.Common.{◌≡◌, ◌==◌, ◌⊎◌, ℕ, Bool, true, false, refl, inl, inr}
use Rattle.std.specs.Prelude.{◌&&◌, not, if◌then◌else◌}
use Rattle.std.proofs.lemmas.Bool.{eqb-true, eq-eqb}
use Rattle.std.proofs.lemmas.List.Folds.{Any-from_list_any, list_any-from_Any}
use Rattle.spool_history.specs.Events.Act.{Aborted}
use Rattle.spool_history.specs.Now.{Job, State, is_received}
use Rattle.spool_history.specs.Legal.{IsReceiving, MayAct}
use Rattle.spool_laws.proofs.Known.{clash}
use Rattle.spool_requests.proofs.Starts.{both, each}
use Rattle.spool_requests.specs.Shows.{is_abortable, may_abort}
use Rattle.spool_requests.specs.Decided.{AbortIsDecided}

abbrev test : {C : Type 0} → ℕ → Job C → Bool
test j w = (w.number == j) && is_abortable w

abbrev Takes : {C : Type 0} → Job C → Type 0
Takes w = IsReceiving w ⊎ ((w.ended ≡ true) × (w.lent ≡ true))

not_true : (b : Bool) → not b ≡ true → b ≡ false
not_true true e = absurd (clash false e refl)
not_true false e = refl

which : {C : Type 0} (w : Job C) (b : Bool) → w.ended ≡ b → (if b then w.lent else not (is_received w)) ≡ true → Takes w
which w true e p = inr (e, p)
which w false e p = inl (e, not_true (is_received w) p)

there : {C : Type 0} (size : C → ℕ) (v : State C) (j : ℕ) → may_abort v j ≡ true → MayAct size v j Aborted
there size v j e =
    let a = Any-from_list_any (test j) v.jobs e in
    let p = each (a.1.number == j) (is_abortable a.1) a.4 in
    (record { job = a.1; there = (a.0, a.2, a.3); number = eqb-true a.1.number j p.0; is = which a.1 a.1.ended refl p.1 }, tt)

back_by : {C : Type 0} (w : Job C) → Takes w → is_abortable w ≡ true
back_by w h = elim h [ inl r ↦ rw (r.0, r.1) refl | inr r ↦ rw (r.0, r.1) refl ]

back : {C : Type 0} (size : C → ℕ) (v : State C) (j : ℕ) → MayAct size v j Aborted → may_abort v j ≡ true
back size v j a =
    let m = a.0 in
    list_any-from_Any (test j) v.jobs (m.there.0, m.job, m.there.1, m.there.2, both (m.job.number == j) (is_abortable m.job) (eq-eqb m.job.number j m.number) (back_by m.job m.is))

pub abort_decided : {C : Type 0} → AbortIsDecided C
abort_decided size v j = (there size v j, back size v j)
