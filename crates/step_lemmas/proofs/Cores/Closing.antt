-- The spool is closed, jobs are removed, and a history is put away.
use Rattle.std.proofs.Common.{inl, ◌≡◌, ℕ, true, false, cond, List, [], ◌∷◌, length, map, refl, sym, ◌∙◌, ap, subst, arith}
use Rattle.std.specs.Prelude.{None}
use Rattle.std.proofs.lemmas.List.{nil_from_length}
use Rattle.std.proofs.lemmas.Simd.{map-map}
use Rattle.spool_history.specs.Base.{Base}
use Rattle.spool_history.specs.Events.{Event}
use Rattle.spool_history.specs.Events.Event.{Removed, Closed}
use Rattle.spool_history.specs.Legal.{May}
use Rattle.spool_history.specs.Now as N
use Rattle.spool_history.specs.Now.{State, now}
use Rattle.spool_history.specs.Rotated.{rotated}
use Rattle.spool_laws.specs.Rotating.{recounted}
use Rattle.spool_laws.proofs.Adding.{sum_map}
use Rattle.spool_laws.proofs.Rotated.{keeps}
use Rattle.spool_calls.specs.declared.printer.Printer.{Printer}
use Rattle.spool_calls.specs.Looks.{Detail, What, size}
use Rattle.spool_calls.specs.Kept.{Kept, IsKeptOf, Leaves, left_by, kept_printer}
use Rattle.spool_calls.specs.Calls.{Closes, Rotates}
use Rattle.spool_calls.specs.Printers.{stopped_among, with_none}
use Rattle.step_lemmas.proofs.Cores.Leaving.{jobs_len, stock_left, stock_of}
use Rattle.spool_calls.specs.Stocks.{all_end, EndsTo, listed, Stock}
use Rattle.step_lemmas.proofs.Cores.Stocks.{stock_of_other}
use Rattle.step_lemmas.proofs.Cores.EndingMany.{leaves_ended}

-- what is kept with another stock
abbrev pub with_stock : Kept → Stock → Kept
with_stock k t = record k { pool = t.pool; book = t.book; table = t.table }

module _ (d : Detail) (b : Base) (h : List (Event (What d))) (k : Kept) (l : Leaves d b h k) where
  pub close_leaves : (t : Stock) → k.closed ≡ false → EndsTo all_end (stock_of k) t → Leaves d b (Closed ∷ h) (record (with_stock k t) { closed = true })
  close_leaves t e to = leaves_ended d b h k Closed all_end t k.printers true l (sym l.kept.closed ∙ e) refl (λ x. refl) l.kept.printers refl to

  pub close_done : (t : Stock) → k.closed ≡ false → EndsTo all_end (stock_of k) t → Closes d b h k (record (with_stock k t) { closed = true })
  close_done t e to = inl (sym l.kept.closed ∙ e, close_leaves t e to)

  -- where jobs of a queue may be removed, that leaves the core with these ended
  pub removed_leaves : (q : ℕ) (numbers : List ℕ) (t : Stock) → May (size d) (left_by d b h k) (Removed q numbers) → EndsTo (listed numbers) (stock_of k) t → Leaves d b (Removed q numbers ∷ h) (with_stock k t)
  removed_leaves q numbers t may to = leaves_ended d b h k (Removed q numbers) (listed numbers) t k.printers k.closed l may refl (λ x. refl) l.kept.printers l.kept.closed to

-- what is kept once the history is put away
abbrev pub rotated_core : Kept → Kept
rotated_core k = record k { reserved = stopped_among k.printers; printers = map with_none k.printers }

pub rotate_done : (d : Detail) (b : Base) (h : List (Event (What d))) (k : Kept) → Leaves d b h k → k.book.jobs ≡ [] → Rotates d b h k (rotated_core k)
rotate_done d b h k l none =
    let c = k.config in
    let v = left_by d b h k in
    let jobs : v.jobs ≡ [] = nil_from_length v.jobs (omega (arith, jobs_len d b h k l, ap length none)) in
    let same : now c (rotated v) [] ≡ recounted v = keeps (size d) c b h l.legal jobs in
    let is = l.kept in
    let of = stock_of_other d v (recounted v) (stock_of k) (stock_left d b h k l) in
    let forget : N.Printer (What d) → N.Printer (What d) = λ p. record p { began = None } in
    let count : stopped_among k.printers ≡ (recounted v).reserved =
    ap stopped_among is.printers ∙ sum_map (λ (p : Printer). cond p.stopped 1 0) (kept_printer d) v.printers in
    let printers : map with_none k.printers ≡ map (kept_printer d) (map forget v.printers) =
    ap (map with_none) is.printers ∙ (map-map with_none (kept_printer d) v.printers ∙ sym (map-map (kept_printer d) forget v.printers)) in
    let kept : IsKeptOf d (recounted v) (rotated_core k) = record {
      book = of.book;
      table = of.table;
      pool = of.pool;
      accepted = is.accepted;
      reserved = count;
      printers = printers;
      closed = is.closed;
    } in
    record { legal = tt; kept = subst (λ (u : State (What d)). IsKeptOf d u (rotated_core k)) (sym same) kept }
