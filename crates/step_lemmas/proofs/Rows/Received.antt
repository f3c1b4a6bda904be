-- A job becomes received: it keeps the pages of the files that it prints, and needs no more.
use Rattle.std.proofs.Common.{◌≡◌, ℕ, ◌+◌, ◌-◌, ◌≤◌, Bool, true, false, length, refl, sym, ◌∙◌, ap, arith}
use Rattle.lpd_values.specs.Contents.{Contents}
use Rattle.counts.specs.Amounts.{amount}
use Rattle.claims.specs.Claims.{Claims}
use Rattle.claims.specs.Changes.{given_back, need_ended}
use Rattle.config_values.specs.Config.{Config, limit_of}
use Rattle.spool_history.specs.Events.Act.{FileEnded, Controlled}
use Rattle.spool_history.specs.Now.{Job, is_received, pages_held, pages_needed, pages_kept, row_of}
use Rattle.spool_history.specs.Steps.{acted}
use Rattle.spool_history.specs.Legal.{IsReceiving}
use Rattle.spool_laws.specs.Sums.{chained_of}
use Rattle.spool_laws.proofs.Copies.{kept_within}
use Rattle.spool_laws.proofs.Held.{pages_ended}
use Rattle.spool_laws.proofs.Apart.{pages_sum}
use Rattle.step_lemmas.proofs.HeldJobs.Holding.{file_pages}
use Rattle.step_lemmas.proofs.Rows.Tables.{Here, WithRow, given_row, ended_row, given_leaves, ended_here, after_ended}
use Rattle.step_lemmas.proofs.Rows.Amounts.{row_with_amounts, row_is}
use Rattle.step_lemmas.proofs.Rows.Receiving.{held_receiving, needed_receiving, chained_receiving}

-- what a received job holds: the pages of which some place hasn't come back
pub held_received : {C : Type 0} (x : Job C) → x.ended ≡ false → is_received x ≡ true → pages_held x ≡ length (pages_kept x)
held_received x e r = rw (e, r) refl

-- it needs no more pages
pub needed_received : {C : Type 0} (c : Config) (x : Job C) → x.ended ≡ false → is_received x ≡ true → pages_needed c x ≡ 0
needed_received c x e r = rw (e, r) refl

-- what it has in its chain: what it holds, without the page that is at a printer
pub chained_received : {C : Type 0} (x : Job C) → x.ended ≡ false → is_received x ≡ true → chained_of x ≡ length (pages_kept x) - (x.handed - x.back)
chained_received x e r = rw (e, r) refl

-- a job that is being received, and what the act makes of it by which it is received
pub record Becomes {C : Type 0} (x y : Job C) : Type 0 where
  pub receiving : IsReceiving x
  pub filed : x.granted ≡ file_pages x
  pub unhanded : x.handed ≡ 0
  pub received : is_received y ≡ true
  pub pages : file_pages y ≡ file_pages x
  pub same : y ≡ record x { files = y.files; control = y.control }

-- by the end of a file
pub by_file : {C : Type 0} (file : ℕ) (whole : Bool) (x : Job C) → IsReceiving x → x.granted ≡ file_pages x → x.handed ≡ 0 → is_received (acted (FileEnded file whole) x) ≡ true → Becomes x (acted (FileEnded file whole) x)
by_file {C} file whole x r g h is = record {
  receiving = r;
  filed = g;
  unhanded = h;
  received = is;
  pages = (let y : Job C = acted (FileEnded file whole) x in pages_sum y.files ∙ (pages_ended x.files ∙ sym (pages_sum x.files)));
  same = refl;
}

-- by its control file
pub by_control : {C : Type 0} (control : Contents) (whole : Bool) (x : Job C) → IsReceiving x → x.granted ≡ file_pages x → x.handed ≡ 0 → is_received (acted (Controlled control whole) x) ≡ true → Becomes x (acted (Controlled control whole) x)
by_control control whole x r g h is = record {
  receiving = r;
  filed = g;
  unhanded = h;
  received = is;
  pages = refl;
  same = refl;
}

-- how many pages it gives back: those of its files of which it has no place
abbrev pub unprinted : {C : Type 0} → (x y : Job C) → ℕ
unprinted x y = x.granted - length (pages_kept y)

-- it keeps no more than was lent to it
pub kept_of_granted : {C : Type 0} (x y : Job C) → Becomes x y → length (pages_kept y) ≤ x.granted
kept_of_granted x y b = omega (arith, kept_within y, pages_sum y.files, b.pages, b.filed)

-- it goes on, and nothing of it was handed out
goes_after : {C : Type 0} (x y : Job C) → Becomes x y → (y.ended ≡ false) × (y.handed ≡ 0)
goes_after {C} x y b = (ap (λ (z : Job C). z.ended) b.same ∙ b.receiving.0, ap (λ (z : Job C). z.handed) b.same ∙ b.unhanded)

-- the row of the job before, in amounts
row_before : {C : Type 0} (c : Config) (x y : Job C) → Becomes x y → row_of c x ≡ row_with_amounts c x x.granted 0 (limit_of c x.queue - x.granted) 1
row_before c x y b =
    let e = b.receiving.0 in
    let h = b.unhanded in
    row_is c x x.granted 0 (limit_of c x.queue - x.granted) 1 (held_receiving x b.receiving) (rw h refl) (needed_receiving c x b.receiving) (rw (e, h) refl)

-- and after
row_after : {C : Type 0} (c : Config) (x y : Job C) → Becomes x y → row_of c y ≡ row_with_amounts c y (length (pages_kept y)) 0 0 1
row_after c x y b =
    let g = goes_after x y b in
    row_is c y (length (pages_kept y)) 0 0 1 (held_received y g.0 b.received) (rw g.1 refl) (needed_received c y g.0 b.received) (rw (g.0, g.1) refl)

-- the row that needs no more pages and gave those back is the row of the job after
pub received_row : {C : Type 0} (c : Config) (x y : Job C) → Becomes x y → given_row 0 (unprinted x y) (ended_row 0 (row_of c x)) ≡ row_of c y
received_row {C} c x y b =
    let left : x.granted - (x.granted - length (pages_kept y)) ≡ length (pages_kept y) = omega (arith, kept_of_granted x y b) in
    ap (λ r. given_row 0 (unprinted x y) (ended_row 0 r)) (row_before c x y b)
    ∙ (ap (λ (n : ℕ). row_with_amounts c x n 0 0 1) left
    ∙ (sym (ap (λ (z : Job C). row_with_amounts c z (length (pages_kept y)) 0 0 1) b.same) ∙ sym (row_after c x y b)))

-- those pages are among what its row holds
pub unprinted_held : {C : Type 0} (c : Config) (x y : Job C) → Becomes x y → unprinted x y ≤ amount (ended_row 0 (row_of c x)).held 0
unprinted_held c x y b = (let h = held_receiving x b.receiving in omega arith)

-- the table after the need of pages ended and those pages were given back: the row is that of the job after, and they are free
pub received_leaves : {C : Type 0} (c : Config) (t : Claims) (i : ℕ) (x y : Job C) → Here t i (row_of c x) → Becomes x y → WithRow t (given_back (need_ended t i 0) i 0 (unprinted x y)) i (row_of c y) (amount t.free 0 + unprinted x y)
received_leaves c t i x y h b =
    after_ended t (given_back (need_ended t i 0) i 0 (unprinted x y)) i 0 (amount t.free 0 + unprinted x y) (row_of c y)
    (given_leaves (need_ended t i 0) i (unprinted x y) (ended_row 0 (row_of c x)) (row_of c y) (ended_here t i 0 (row_of c x) h h.pages) (unprinted_held c x y b) (received_row c x y b))

-- so many pages less are in its chain
pub received_chain : {C : Type 0} (x y : Job C) → Becomes x y → chained_of y + unprinted x y ≡ chained_of x
received_chain x y b =
    let g = goes_after x y b in
    omega (arith, kept_of_granted x y b, g.1, chained_received y g.0 b.received, chained_receiving x b.receiving, b.filed)
