use Rattle.std.proofs.Common.{ap, arith}
use Rattle.page_pool.specs.Page.{Pages}
use Rattle.spool_core.proofs.receiving.receive.Goals as goal

pub overflow_cast-free : goal.overflow_cast-free
overflow_cast-free c =
    let n = c.free-before.ensures.free in
    let m = c.free.ensures.free in
    let p = ap (λ (p : Pages). p.free) c.receive.ensures.pool in
    let h = c.requires.few in
    omega (arith, n, m, p, h)
