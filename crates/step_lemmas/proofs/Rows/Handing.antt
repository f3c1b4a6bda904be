-- A page is handed to a printer: with its first page a job gets a printer of its queue, and with each the chain has one page less.
use Rattle.std.proofs.Common.{inl, inr, ◌≡◌, ◌==◌, ℕ, ◌+◌, ◌-◌, ◌<◌, ◌≤◌, Bool, true, false, List, ◌∷◌, length, get_or, set, map, refl, sym, ◌∙◌, ap, subst, arith}
use Rattle.std.specs.Prelude.{cond}
use Rattle.std.proofs.lemmas.List.{length-map, get_or-map, map-set}
use Rattle.std.proofs.lemmas.List.Sums.{sum_by-set}
use Rattle.std.proofs.lemmas.Bool.Decides.{nat_tests}
use Rattle.counts.specs.Amounts.{amount}
use Rattle.claims.specs.declared.row.Row.{Row}
use Rattle.claims.specs.Claims.{Claims, no_row, held_of}
use Rattle.claims.specs.Changes.{granted_row, granted, row_with}
use Rattle.config_values.specs.Config.{Config, IsQueue, IsPrinter}
use Rattle.spool_history.specs.Base.{Base}
use Rattle.spool_history.specs.Events.{Event, Sheet}
use Rattle.spool_history.specs.Events.Turn.{Handed}
use Rattle.spool_history.specs.Events.Event.{AtPrinter}
use Rattle.spool_history.specs.Said.{Opening}
use Rattle.spool_history.specs.Now.{Job, State, now, job_of, is_held, is_received, places, pages_kept, pages_held, pages_needed, printers_held, printers_needed, row_of, amounts, capacity}
use Rattle.spool_history.specs.Next.{next_page}
use Rattle.spool_history.specs.Next.Next.{Hands}
use Rattle.spool_history.specs.Steps.{turned}
use Rattle.spool_history.specs.Legal.{IsLegal}
use Rattle.spool_laws.specs.Sums.{chained_of}
use Rattle.spool_laws.proofs.Known.{known}
use Rattle.spool_laws.proofs.Facts.{facts, turn_of_page, handed_now}
use Rattle.spool_laws.proofs.Turns.{Gets}
use Rattle.spool_laws.proofs.Busy.{received_if}
use Rattle.spool_laws.proofs.Copies.{kept_some}
use Rattle.spool_laws.proofs.Enough.{no_kind_runs_over}
use Rattle.step_lemmas.specs.Standing.{no_job}
use Rattle.spool_history.specs.Claimed.{IsTableOf}
use Rattle.step_lemmas.proofs.HeldJobs.Standing.{Stands, has_get}
use Rattle.step_lemmas.proofs.HeldJobs.Moving.{turned_jobs}
use Rattle.step_lemmas.proofs.HeldJobs.Claimed.{row_here, rows_len}
use Rattle.step_lemmas.proofs.HeldJobs.Queued.{job_queued}
use Rattle.step_lemmas.proofs.HeldJobs.Out.{drop_first}
use Rattle.step_lemmas.proofs.Rows.Tables.{Here, WithRow, same_leaves, other_leaves}
use Rattle.step_lemmas.proofs.Rows.Amounts.{row_with_amounts, row_is, set_kind, kind_of, pages_kind, queue_kind, queue_later}
use Rattle.step_lemmas.proofs.Rows.Received.{held_received, needed_received, chained_received}

-- the row of a held job stands at its place in the table
pub row_stands : {C : Type 0} (t : Claims) (v : State C) (i : ℕ) → IsTableOf t v → i < length v.jobs → Here t i (row_of v.config (get_or v.jobs i no_job))
row_stands t v i b lt =
    let n = rows_len t v b in
    let e = ap length b.capacity in
    let k = pages_kind v.config in
    record { table = b.table; there = omega arith; pages = omega arith; is = row_here t v i b lt }

-- received and not ended: the state of a job of which pages are handed
abbrev pub Goes : {C : Type 0} → Job C → Type 0
Goes x = (is_received x ≡ true) × (x.ended ≡ false)

-- of the job a printer of its queue is needed until its first page is handed
pub printer_needed : {C : Type 0} (c : Config) (x : Job C) → IsQueue c x.queue → x.ended ≡ false → x.handed ≡ 0 → amount (row_of c x).need x.queue ≡ 1
printer_needed c x is e h =
    let one : printers_needed x ≡ 1 = rw (e, h) refl in
    kind_of c (pages_needed c x) x.queue (printers_needed x) is ∙ one

-- before that it holds none
pub printer_unheld : {C : Type 0} (c : Config) (x : Job C) → IsQueue c x.queue → x.handed ≡ 0 → amount (row_of c x).held x.queue ≡ 0
printer_unheld c x is h =
    let none : printers_held x ≡ 0 = rw h refl in
    kind_of c (pages_held x) x.queue (printers_held x) is ∙ none

-- one more than a number is not 0
pub one_more : (n : ℕ) → (n + 1 == 0) ≡ false
one_more n = grind (arith, nat_tests)

-- and from then on one
pub printer_held : {C : Type 0} (c : Config) (x : Job C) → IsQueue c x.queue → amount (row_of c (turned Handed x)).held x.queue ≡ 1
printer_held {C} c x is =
    let y : Job C = turned Handed x in
    kind_of c (pages_held y) x.queue (printers_held y) is ∙ ap (λ (b : Bool). cond b 0 1) (one_more x.handed)

-- the row of a job that prints, by its printers
row_goes : {C : Type 0} (c : Config) (x : Job C) (p p' : ℕ) → Goes x → printers_held x ≡ p → printers_needed x ≡ p' → row_of c x ≡ row_with_amounts c x (length (pages_kept x)) p 0 p'
row_goes c x p p' g held need = row_is c x (length (pages_kept x)) p 0 p' (held_received x g.1 g.0) held (needed_received c x g.1 g.0) need

-- and of one of which a page was handed
pub row_begun : {C : Type 0} (c : Config) (x : Job C) → Goes x → (x.handed == 0) ≡ false → row_of c x ≡ row_with_amounts c x (length (pages_kept x)) 1 0 0
row_begun c x g h = (let e = g.1 in row_goes c x 1 0 g (rw h refl) (rw (e, h) refl))

-- the first page: the row holds a printer of the queue, and needs none
pub first_row : {C : Type 0} (c : Config) (x : Job C) → IsQueue c x.queue → Goes x → x.handed ≡ 0 → granted_row x.queue (row_of c x) ≡ row_of c (turned Handed x)
first_row {C} c x is g h =
    let q = x.queue in
    let p = length (pages_kept x) in
    let y : Job C = turned Handed x in
    let held : set (amounts c p q 0) q (amount (amounts c p q 0) q + 1) ≡ amounts c p q 1 = ap (λ (n : ℕ). set (amounts c p q 0) q (n + 1)) (kind_of c p q 0 is) ∙ set_kind c p q 0 1 is in
    let need : set (amounts c 0 q 1) q (amount (amounts c 0 q 1) q - 1) ≡ amounts c 0 q 0 = ap (λ (n : ℕ). set (amounts c 0 q 1) q (n - 1)) (kind_of c 0 q 1 is) ∙ set_kind c 0 q 1 0 is in
    ap (granted_row q) (row_goes c x 0 1 g (rw h refl) (rw (g.1, h) refl))
    ∙ (ap (λ (l : List ℕ). row_with l (set (amounts c 0 q 1) q (amount (amounts c 0 q 1) q - 1)) (row_with_amounts c x p 0 0 1)) held
    ∙ (ap (λ (l : List ℕ). row_with (amounts c p q 1) l (row_with_amounts c x p 0 0 1)) need ∙ sym (row_begun c y g (one_more x.handed))))

-- the table after the first page
pub first_leaves : {C : Type 0} (c : Config) (t : Claims) (i : ℕ) (x : Job C) → Here t i (row_of c x) → t.capacity ≡ capacity c → IsQueue c x.queue → Goes x → x.handed ≡ 0 → 0 < amount t.free x.queue
    → WithRow t (granted t i x.queue) i (row_of c (turned Handed x)) (amount t.free 0)
first_leaves c t i x h cap is g none some =
    let k = queue_kind c x.queue is in
    let e = ap length cap in
    other_leaves t i x.queue (row_of c x) (row_of c (turned Handed x)) h (queue_later c x.queue is) (omega arith) some (first_row c x is g none)

-- a later page: the row is as it was
pub later_row : {C : Type 0} (c : Config) (x : Job C) → Goes x → 0 < x.handed → row_of c (turned Handed x) ≡ row_of c x
later_row {C} c x g pos =
    let y : Job C = turned Handed x in
    let b : (x.handed == 0) ≡ false = grind (arith, nat_tests) in
    row_begun c y g (one_more x.handed) ∙ sym (row_begun c x g b)

-- the table after a later page
pub later_leaves : {C : Type 0} (c : Config) (t : Claims) (i : ℕ) (x : Job C) → Here t i (row_of c x) → Goes x → 0 < x.handed → WithRow t t i (row_of c (turned Handed x)) (amount t.free 0)
later_leaves c t i x h g pos = same_leaves t i (row_of c x) (row_of c (turned Handed x)) h (later_row c x g pos)

-- a page handed leaves one less in the chain
pub handed_chain : {C : Type 0} (x : Job C) → Goes x → x.handed ≡ x.back → x.handed < length (places x) → chained_of (turned Handed x) + 1 ≡ chained_of x
handed_chain {C} x g even lt =
    let y : Job C = turned Handed x in
    omega (arith, kept_some x (omega arith), chained_received x g.1 g.0, chained_received y g.1 g.0)

-- the job is held after that
pub handed_held : {C : Type 0} (x : Job C) → Goes x → is_held (turned Handed x) ≡ true
handed_held x g = (let e = g.1 in rw e refl)

-- what is known of a job whose next place is this page
pub record Takes {C : Type 0} (c : Config) (sheet : Sheet C) (x : Job C) : Type 0 where
  pub goes : Goes x
  pub even : x.handed ≡ x.back
  pub queue : IsQueue c x.queue
  pub within : x.handed < length (places x)
  pub gets : Gets sheet x

-- the job whose page a printer gets next is received and goes on, and none of its pages is out
pub hands_job : {C : Type 0} (size : C → ℕ) (c : Config) (b : Base) (h : List (Event C)) (p i : ℕ) (sheet : Sheet C) → IsLegal size c b h → IsPrinter c p → next_page (now c b h) p ≡ Hands sheet → Stands (now c b h).jobs i sheet.job
    → Takes c sheet (get_or (now c b h).jobs i no_job)
hands_job {C} size c b h p i sheet l ip next s =
    let jobs = (now c b h).jobs in
    let x = get_or jobs i no_job in
    let has = has_get jobs i no_job s.there in
    let f = facts size c b h l in
    let t = turn_of_page c b h p sheet ip.0 ip.1 next in
    let k = known c b h x has in
    let j : sheet.job ≡ k.opening.job = sym s.number' ∙ ap (λ (u : Job C). u.number) k.is in
    let o : Opening = record { job = sheet.job; sender = t.at.sender; queue = t.at.queue } in
    let same : o ≡ k.opening = f.once o k.opening t.at.there k.there j in
    let is : job_of h o ≡ x = ap (job_of h) same ∙ sym k.is in
    let gets : Gets sheet x = subst (Gets sheet) is t.at.is in
    let even : x.handed ≡ x.back = subst (λ (u : Job C). u.handed ≡ u.back) is (handed_now h p sheet f t) in
    let received : is_received x ≡ true = subst (λ (u : Job C). is_received u ≡ true) is (elim t.why [ inl a ↦ received_if h sheet.job f (f.began p sheet.job a) | inr a ↦ a.1 ]) in
    record {
      goes = (received, gets.goes_on);
      even = even;
      queue = job_queued size c b h x l has;
      within = (drop_first (places x) x.handed gets.page gets.later gets.page gets.left).0;
      gets = gets;
    }

-- and where it is its first page, a printer of its queue is free
pub printer_free : {C : Type 0} (size : C → ℕ) (c : Config) (b : Base) (h : List (Event C)) (t : Claims) (p i : ℕ) (sheet : Sheet C) → IsLegal size c b h → IsTableOf t (now c b h) → IsPrinter c p → next_page (now c b h) p ≡ Hands sheet → Stands (now c b h).jobs i sheet.job
    → (get_or (now c b h).jobs i no_job).handed ≡ 0 → 0 < amount t.free (get_or (now c b h).jobs i no_job).queue
printer_free {C} size c b h t p i sheet l table ip next s none =
    let v = now c b h in
    let x = get_or v.jobs i no_job in
    let q = x.queue in
    let k = hands_job size c b h p i sheet l ip next s in
    let e : Event C = AtPrinter p sheet Handed in
    let y : Job C = turned Handed x in
    let most : held_of q (map (row_of c) (now c b (e ∷ h)).jobs) ≤ amount (capacity c) q = (no_kind_runs_over size c b (e ∷ h) ((ip, next), l)).kinds q in
    let jobs : (now c b (e ∷ h)).jobs ≡ set v.jobs i y = turned_jobs size c b h i p sheet Handed l (ip, next) s (handed_held x k.goes) in
    let rows : map (row_of c) (now c b (e ∷ h)).jobs ≡ set (map (row_of c) v.jobs) i (row_of c y) = ap (map (row_of c)) jobs ∙ map-set (row_of c) v.jobs i y in
    let held : held_of q (map (row_of c) (now c b (e ∷ h)).jobs) ≡ held_of q (set (map (row_of c) v.jobs) i (row_of c y)) = ap (held_of q) rows in
    let lm = length-map v.jobs (row_of c) in
    let one = sum_by-set (λ (r : Row). amount r.held q) (map (row_of c) v.jobs) i (row_of c y) no_row (omega arith) in
    let at : get_or (map (row_of c) v.jobs) i no_row ≡ row_of c x = get_or-map (row_of c) v.jobs i no_job no_row s.there in
    let at' : amount (get_or (map (row_of c) v.jobs) i no_row).held q ≡ amount (row_of c x).held q = ap (λ (r : Row). amount r.held q) at in
    let rs : held_of q t.rows ≡ held_of q (map (row_of c) v.jobs) = ap (held_of q) table.rows in
    let cap : amount t.capacity q ≡ amount (capacity c) q = ap (λ (m : List ℕ). amount m q) table.capacity in
    omega (arith, printer_unheld c x k.queue none, printer_held c x k.queue, table.table.adds_up q)
