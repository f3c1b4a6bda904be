use Rattle.std.proofs.Common.{◌≡◌, ℕ, zero, suc, ◌+◌, ◌<◌, List, [], ◌∷◌, length, get_or, map, ap, subst, sym, ◌∙◌, arith}
use Rattle.std.proofs.lemmas.List.{length-map}
use Rattle.config_values.specs.Config.{Queue}
use Rattle.audit_grants.proofs.Made.{UpTo, up_more, up_all}
use Rattle.audit_grants.proofs.amounts.capacity.Goals as goal

printers_at : (qs : List Queue) (x : Queue) (i : ℕ) → i < length qs → x ≡ get_or qs i x → x.printers ≡ get_or (map (λ (q : Queue). q.printers) qs) i 0
printers_at [] x i lt e = absurd (omega arith)
printers_at (q ∷ qs) x zero lt e = ap (λ (y : Queue). y.printers) e
printers_at (q ∷ qs) x (suc i) lt e = printers_at qs x i (omega arith) e

abbrev rest : List Queue → List ℕ
rest qs = map (λ (q : Queue). q.printers) qs

pub loop-i-preserved : goal.loop-i-preserved
loop-i-preserved c =
    let qs = c.args.config.now.queues in
    let seen : c.queues-queues.result.now ≡ qs = c.queues-queues.ensures.value in
    let n = ap length seen in
    let t = c.loop-i-test.true in
    let m = c.loop-i.auto.i-end in
    let lt : c.loop-i.i < length qs = omega arith in
    let is : c.index-queues-i.result ≡ get_or qs c.loop-i.i c.index-queues-i.result = c.index-queues-i.is ∙ ap (λ (l : List Queue). get_or l c.loop-i.i c.index-queues-i.result) seen in
    let p : c.printers.result ≡ get_or (rest qs) c.loop-i.i 0 = c.printers.ensures ∙ printers_at qs c.index-queues-i.result c.loop-i.i lt is in
    let lt' : c.loop-i.i < length (rest qs) = (let a = length-map qs (λ (q : Queue). q.printers) in omega arith) in
    subst (λ (l : List ℕ). UpTo l c.args.config.now.pages (rest qs) (c.loop-i.i + 1)) (sym c.set-in-loop-i.ensures)
    (up_more c.loop-i.all c.args.config.now.pages (rest qs) c.loop-i.i (c.loop-i.i + 1) c.printers.result c.loop-i.invariant lt' (omega arith) p)

pub returns : goal.returns
returns c =
    let qs = c.args.config.now.queues in
    let n = ap length c.queues-queues.ensures.value in
    let t = c.loop-i-test.false in
    let m = c.loop-i.auto.i-end in
    let a = length-map qs (λ (q : Queue). q.printers) in
    let all : c.loop-i.i ≡ length (rest qs) = omega arith in
    up_all c.loop-i.all c.args.config.now.pages (rest qs) (subst (λ (k : ℕ). UpTo c.loop-i.all c.args.config.now.pages (rest qs) k) all c.loop-i.invariant)
