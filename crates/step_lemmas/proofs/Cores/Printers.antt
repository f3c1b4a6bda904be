-- What a core keeps of its printers.
use Rattle.std.proofs.Common.{◌≡◌, ℕ, zero, suc, ◌-◌, ◌<◌, ◌≤◌, Bool, true, false, List, ◌∷◌, length, get_or, set, map, refl, sym, ◌∙◌, ap, arith}
use Rattle.std.specs.Prelude.{Option, Some, None, is_some}
use Rattle.std.proofs.lemmas.List.{length-map, get_or-map, map-set}
use Rattle.config_values.specs.Config.{IsPrinter, printer_count}
use Rattle.spool_history.specs.Base.{Base}
use Rattle.spool_history.specs.Events.{Event, Sheet}
use Rattle.spool_history.specs.Now as N
use Rattle.spool_history.specs.Now.{Job, State}
use Rattle.spool_history.specs.Next.{next_page, printer_at, turn_of, hand_of, with_out, no_printer}
use Rattle.spool_history.specs.Next.Next.{Stops, Busy}
use Rattle.spool_laws.proofs.Known.{clash}
use Rattle.spool_laws.proofs.Adding.{length_up_to}
use Rattle.spool_calls.specs.declared.printer.Printer.{Printer}
use Rattle.spool_calls.specs.Looks.{Detail, What}
use Rattle.spool_calls.specs.Kept.{Kept, Leaves, left_by, kept_printer, kept_out}

-- a list behind one more element
pub behind : {X : Type 0} (xs : List X) (d : X) (n : ℕ) → 1 ≤ n → get_or (d ∷ xs) n d ≡ get_or xs (n - 1) d
behind xs d zero le = absurd (omega arith)
behind xs d (suc n) le = (let e : suc n - 1 ≡ n = omega arith in ap (λ (m : ℕ). get_or xs m d) (sym e))

module _ (d : Detail) (b : Base) (h : List (Event (What d))) (k : Kept) (l : Leaves d b h k) where
  -- as many as in the history
  pub printers_many : length k.printers ≡ length (left_by d b h k).printers
  printers_many = ap length l.kept.printers ∙ length-map (left_by d b h k).printers (kept_printer d)

  pub printers_len : length k.printers ≡ printer_count k.config
  printers_len = printers_many ∙ length_up_to (N.printer_of k.config b h) (printer_count k.config)

  pub printer_there : (p : ℕ) → IsPrinter k.config p → p - 1 < length k.printers
  printer_there p is = (let n = printers_len in let a = is.0 in let e = is.1 in omega (arith, n, a, e))

  -- what is kept of the printer of a number
  pub printer_seen : (p : ℕ) (at : Printer) → IsPrinter k.config p → at ≡ get_or k.printers (p - 1) at → at ≡ kept_printer d (printer_at (left_by d b h k) p)
  printer_seen p at is e =
      let v = left_by d b h k in
      let n = printer_there p is in
      let m = printers_many in
      e ∙ (ap (λ (ps : List Printer). get_or ps (p - 1) at) l.kept.printers
      ∙ (get_or-map (kept_printer d) v.printers (p - 1) no_printer at (omega (arith, n, m)) ∙ ap (kept_printer d) (sym (behind v.printers no_printer p is.0))))

  -- one printer changed in the history is one changed in what is kept
  pub printers_set : (p : ℕ) (x : N.Printer (What d)) → set k.printers (p - 1) (kept_printer d x) ≡ map (kept_printer d) (set (left_by d b h k).printers (p - 1) x)
  printers_set p x =
      ap (λ (ps : List Printer). set ps (p - 1) (kept_printer d x)) l.kept.printers ∙ sym (map-set (kept_printer d) (left_by d b h k).printers (p - 1) x)

-- what is next, case by case

module _ (d : Detail) (v : State (What d)) (p : ℕ) (at : Printer) (c : v.closed ≡ false) (e : at ≡ kept_printer d (printer_at v p)) where
  stopped : (b : Bool) → at.stopped ≡ b → (printer_at v p).stopped ≡ b
  stopped b s = ap (λ (x : Printer). x.stopped) (sym e) ∙ s

  out : (b : Bool) → is_some at.out ≡ b → is_some (kept_out d (printer_at v p).out) ≡ b
  out b o = ap (λ (x : Printer). is_some x.out) (sym e) ∙ o

  pub next_stopped : at.stopped ≡ true → next_page v p ≡ Stops
  next_stopped s = rw (c, stopped true s) refl

  busy_by : (q : N.Printer (What d)) (o : Option (Sheet (What d))) → is_some (kept_out d o) ≡ true → with_out v.jobs q o ≡ Busy
  busy_by q None e = absurd (clash false e refl)
  busy_by q (Some s) e = refl

  idle_by : (o : Option (Sheet (What d))) → is_some (kept_out d o) ≡ false → o ≡ None
  idle_by None e = refl
  idle_by (Some s) e = absurd (clash true refl e)

  pub next_busy : at.stopped ≡ false → is_some at.out ≡ true → next_page v p ≡ Busy
  next_busy s o = rw (c, stopped false s) (busy_by (printer_at v p) (printer_at v p).out (out true o))

  pub next_turn : at.stopped ≡ false → is_some at.out ≡ false → next_page v p ≡ hand_of (turn_of v.jobs at.queue at.began)
  next_turn s o = rw (c, stopped false s, idle_by (printer_at v p).out (out false o)) (ap (λ (x : Printer). hand_of (turn_of v.jobs x.queue x.began)) (sym e))
