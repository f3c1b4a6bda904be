-- Where an entry leaves a spool, from what it makes of the jobs and of the printers.
use Rattle.std.proofs.Common.{◌≡◌, ◌+◌, ◌-◌, ◌≤◌, ℕ, zero, suc, List, [], ◌∷◌, ◌++◌, sym, ◌∙◌, ap, map, filter, slice_index_or, refl, arith}
use Rattle.std.proofs.lemmas.List.{append-nil}
use Rattle.spool_history.specs.Events.{Sheet, Turn}
use Rattle.spool_history.specs.Events.Event.{AtPrinter, OfJob, Started}
use Rattle.spool_history.specs.Events.Act.{Granted}
use Rattle.spool_history.specs.Now.{Job, Printer, State, is_held}
use Rattle.spool_history.specs.Steps.{after, change, printers_after}

-- the element before which one more stands
pub after_first : {A : Type 0} (x : A) (xs : List A) (d : A) (n : ℕ) → 1 ≤ n → slice_index_or (x ∷ xs) n d ≡ slice_index_or xs (n - 1) d
after_first x xs d zero le = absurd (omega arith)
after_first {A} x xs d (suc n) le = let e : n ≡ suc n - 1 = omega arith in ap (λ (i : ℕ). slice_index_or xs i d) e

plus_none : (n : ℕ) → n ≡ n + 0
plus_none n = omega arith

-- a spool with other jobs and printers, where none was accepted
with_parts : {C : Type 0} (v : State C) (jobs jobs' : List (Job C)) (printers printers' : List (Printer C)) → jobs ≡ jobs' → printers ≡ printers' → record v { jobs = jobs; printers = printers } ≡ record v { jobs = jobs' ++ []; accepted = v.accepted + 0; reserved = v.reserved + 0; printers = printers' }
with_parts {C} v jobs jobs' printers printers' a b =
    ap (λ (l : List (Job C)). record v { jobs = l; printers = printers }) (a ∙ sym (append-nil jobs'))
    ∙ (ap (λ (l : List (Printer C)). record v { jobs = jobs' ++ []; printers = l }) b
    ∙ (ap (λ (n : ℕ). record v { jobs = jobs' ++ []; accepted = n; printers = printers' }) (plus_none v.accepted)
    ∙ ap (λ (n : ℕ). record v { jobs = jobs' ++ []; accepted = v.accepted + 0; reserved = n; printers = printers' }) (plus_none v.reserved)))

pub turned_state : {C : Type 0} (v : State C) (p : ℕ) (sheet : Sheet C) (turn : Turn) (jobs : List (Job C)) (printers : List (Printer C)) → jobs ≡ filter is_held (map (change (AtPrinter p sheet turn)) v.jobs) → printers ≡ printers_after (AtPrinter p sheet turn) v → record v { jobs = jobs; printers = printers } ≡ after (AtPrinter p sheet turn) v
turned_state v p sheet turn jobs printers a b =
    with_parts v jobs (filter is_held (map (change (AtPrinter p sheet turn)) v.jobs)) printers (printers_after (AtPrinter p sheet turn) v) a b

pub started_state : {C : Type 0} (v : State C) (q : ℕ) (jobs : List (Job C)) (printers : List (Printer C)) → jobs ≡ filter is_held (map (change (Started q)) v.jobs) → printers ≡ printers_after (Started q) v → record v { jobs = jobs; printers = printers } ≡ after (Started q) v
started_state v q jobs printers a b =
    with_parts v jobs (filter is_held (map (change (Started q)) v.jobs)) printers (printers_after (Started q) v) a b

pub lent_state : {C : Type 0} (v : State C) (j : ℕ) (jobs : List (Job C)) → jobs ≡ filter is_held (map (change (OfJob j Granted)) v.jobs) → record v { jobs = jobs } ≡ after (OfJob j Granted) v
lent_state v j jobs a = with_parts v jobs (filter is_held (map (change (OfJob j Granted)) v.jobs)) v.printers v.printers a refl
