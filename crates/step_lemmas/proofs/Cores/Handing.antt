-- A printer gets a page.
use Rattle.std.proofs.Common.{inl, inr, ◌≡◌, ◌==◌, ℕ, suc, ◌+◌, ◌-◌, ◌*◌, ◌<◌, ◌≤◌, ◌^◌, Bool, true, false, List, [], ◌∷◌, length, drop, get_or, set, map, refl, sym, ◌∙◌, ap, subst, arith}
use Rattle.std.specs.Prelude.{cond, Option, Some, None, is_some, slice_get}
use Rattle.std.proofs.lemmas.Bool.{cases_lt}
use Rattle.std.proofs.lemmas.List.{drop_all}
use Rattle.std.proofs.lemmas.Bool.Decides.{nat_tests}
use Rattle.counts.specs.Amounts.{amount}
use Rattle.claims.specs.declared.row.Row.{Row}
use Rattle.claims.specs.Claims.{row_at}
use Rattle.claims.specs.Changes.{granted}
use Rattle.page_chain.specs.declared.place.Place.{Place}
use Rattle.page_chain.specs.Files.{no_place, page_at}
use Rattle.page_chain.specs.Changes.{IsReady, next_place}
use Rattle.held_jobs.specs.Jobs.{Facts}
use Rattle.held_jobs.specs.Moves.{handed_job}
use Rattle.held_jobs.specs.Books.{job_at, with_job}
use Rattle.held_jobs.specs.Turns.{TurnAt, facts_in}
use Rattle.held_jobs.specs.Shown.{see_job}
use Rattle.config_values.specs.Config.{IsPrinter}
use Rattle.config_values.specs.Ranges.{IsConfig}
use Rattle.spool_history.specs.Base.{Base}
use Rattle.spool_history.specs.Events.{Event, Sheet}
use Rattle.spool_history.specs.Events.Turn.{Handed}
use Rattle.spool_history.specs.Events.Event.{AtPrinter}
use Rattle.spool_history.specs.Now.{Job, State, is_received, places, row_of}
use Rattle.spool_history.specs.Next.{Next, hand_first, hand_of, next_page, printer_at}
use Rattle.spool_history.specs.Next.Next.{Hands as HandsOut}
use Rattle.spool_history.specs.Steps.{printer_turned, turned}
use Rattle.spool_laws.proofs.Known.{Has}
use Rattle.step_lemmas.specs.Standing.{no_job}
use Rattle.step_lemmas.proofs.HeldJobs.Standing.{Stands, has_get}
use Rattle.step_lemmas.proofs.HeldJobs.Moving.{turn_set}
use Rattle.step_lemmas.proofs.HeldJobs.Holding.{granted_within, job_sound}
use Rattle.step_lemmas.proofs.HeldJobs.Claimed.{row_here}
use Rattle.step_lemmas.proofs.OneJob.Ties.{prints}
use Rattle.step_lemmas.proofs.OneJob.Spots.{PlaceAt, length-spots, place_at}
use Rattle.step_lemmas.proofs.OneJob.Printing.{CanHand, can_hand, ties_handed}
use Rattle.step_lemmas.proofs.OneJob.Printing as J
use Rattle.step_lemmas.proofs.Rows.Tables.{WithRow}
use Rattle.step_lemmas.proofs.Rows.Amounts.{queue_kind}
use Rattle.step_lemmas.proofs.Rows.Handing.{first_leaves, handed_chain, handed_held, hands_job, later_leaves, printer_free, printer_needed}
use Rattle.spool_calls.specs.declared.printer.Printer.{Printer}
use Rattle.spool_calls.specs.declared.handed.HandedPage.{HandedPage}
use Rattle.spool_calls.specs.declared.answers.Next.TheVariants as next
use Rattle.spool_calls.specs.Looks.{Detail, What, outline_in, outline_of, see, size}
use Rattle.spool_calls.specs.Looks.Detail.{Octets, Outlines}
use Rattle.spool_calls.specs.Kept.{Kept, Leaves, facts_of, kept_printer, left_by, look, place_of, sheet_out, shown_job, spots}
use Rattle.spool_calls.specs.Calls.{Hands, sheet_of}
use Rattle.step_lemmas.proofs.Cores.Leaving.{is_open, jobs_len, leaves_row, one_stored, pool_even, row_stands, tie, look_at}
use Rattle.step_lemmas.proofs.Cores.Phases.{facts_tie}
use Rattle.step_lemmas.proofs.Cores.Printers.{next_busy, next_stopped, next_turn, printer_seen, printers_set}
use Rattle.step_lemmas.proofs.Cores.Ranges.{limit_within}
use Rattle.step_lemmas.proofs.Cores.Turning.{Turns, at_place, turn_here, turns}

outline_see : (d : Detail) (octets : List ℕ) → outline_in d (see d octets) ≡ outline_of octets
outline_see Octets octets = refl
outline_see Outlines octets = refl

-- the first of the places that are left

none_left : {X : Type 0} (xs : List X) → slice_get xs 0 ≡ None → xs ≡ []
none_left [] e = refl
none_left (x ∷ xs) e = absurd cc

first_left : {X : Type 0} (xs : List X) (x d : X) → slice_get xs 0 ≡ Some x → (0 < length xs) × (get_or xs 0 d ≡ x)
first_left [] x d e = absurd cc
first_left (y ∷ xs) x d e = (omega arith, cc)

same_sheet : {C : Type 0} (a b : Sheet C) → a.job ≡ b.job → a.place ≡ b.place → a.file ≡ b.file → a.number ≡ b.number → a.page ≡ b.page → a ≡ b
same_sheet a b job place file number page i = record { job = job i; place = place i; file = file i; number = number i; page = page i }

-- what is kept once the next page of the job at a place went to a printer
abbrev pub handed_core : Kept → (p i : ℕ) → Printer → HandedPage → Kept
handed_core k p i at page = record k {
  book = record (with_job k.book i (handed_job (job_at k.book i))) { stored = k.book.stored - 1 };
  table = cond ((job_at k.book i).facts.handed == 0) (granted k.table i (job_at k.book i).facts.queue) k.table;
  printers = set k.printers (p - 1) (record { queue = at.queue; out = Some (sheet_out page); began = Some page.job; stopped = false });
}

-- the place of a page that is next, and 0 where none is
abbrev place_next : {C : Type 0} → Next C → ℕ
place_next (HandsOut sheet) = sheet.place
place_next _ = 0

-- the printer may get a page
pub record Waits (k : Kept) (at : Printer) : Type 0 where
  pub open' : k.closed ≡ false
  pub runs : at.stopped ≡ false
  pub idle : is_some at.out ≡ false

-- how many places are handed out of a job is a number that fits
pub handed_few : (d : Detail) (b : Base) (h : List (Event (What d))) (k : Kept) (x : Job (What d)) → IsConfig k.config → Leaves d b h k → Has x (left_by d b h k).jobs → x.handed + 1 < 2 ^ 64
handed_few d b h k x ranges l has =
    let s = job_sound (size d) k.config b h x l.legal has in
    omega (arith, s.handed, s.many, granted_within (size d) k.config b h x l.legal has, limit_within k.config x.queue ranges)

module _ (d : Detail) (b : Base) (h : List (Event (What d))) (k : Kept) (l : Leaves d b h k) (p : ℕ) (ip : IsPrinter k.config p) (at : Printer) (ia : at ≡ get_or k.printers (p - 1) at) where
  abbrev v : State (What d)
  v = left_by d b h k

  seen : at ≡ kept_printer d (printer_at v p)
  seen = printer_seen d b h k l p at ip ia

  pub hands_stopped : k.closed ≡ false → at.stopped ≡ true → Hands d b h k p k next.Stopped
  hands_stopped e s = (next_stopped d v p at (is_open d b h k l e) seen s, refl)

  pub hands_busy : k.closed ≡ false → at.stopped ≡ false → is_some at.out ≡ true → Hands d b h k p k next.Busy
  hands_busy e s o = (next_busy d v p at (is_open d b h k l e) seen s o, refl)

  turn : Waits k at → (r : Option ℕ) → TurnAt (facts_in k.book.jobs) at.queue at.began r → next_page v p ≡ hand_of (at_place k.config v.jobs r)
  turn w r t = next_turn d v p at (is_open d b h k l w.open') seen w.runs w.idle ∙ ap hand_of (turn_here d b h k l at.queue at.began r t)

  pub hands_none : Waits k at → TurnAt (facts_in k.book.jobs) at.queue at.began None → Hands d b h k p k next.Nothing
  hands_none w t = (turn w None t, refl)

  module _ (w : Waits k at) (i : ℕ) (t : TurnAt (facts_in k.book.jobs) at.queue at.began (Some i)) where
    open look_at d b h k i use {x, j}

    ts : Turns d b h k l i
    ts = turns d b h k l p i at.queue at.began ip (sym (ap (λ (a : Printer). a.began) seen)) t

    pub held : i < length k.book.jobs
    held = (let n = jobs_len d b h k l in let lt = ts.there in omega (arith, n, lt))

    ties : see_job (look d) j ≡ shown_job k.config x
    ties = tie d b h k i l held

    facts' : j.facts ≡ facts_of k.config x
    facts' = facts_tie (look d) k.config j x ties

    spots_left : j.chain.places ≡ drop x.handed (spots x)
    spots_left = (prints (look d) k.config j x ts.goes.0 ts.goes.1 ties).places

    pub hands_empty : slice_get j.chain.places 0 ≡ None → Hands d b h k p k next.Nothing
    hands_empty e =
        let none : drop x.handed (spots x) ≡ [] = none_left (drop x.handed (spots x)) (ap (λ (l : List Place). slice_get l 0) (sym spots_left) ∙ e) in
        let gone : drop x.handed (places x) ≡ [] = elim (cases_lt x.handed (length (places x))) [
          | inl lt ↦
              absurd (omega (arith, ap length (sym ((place_at x x.handed lt).spots_left) ∙ none)))
          | inr le ↦ drop_all x.handed (places x) le
        ] in
        (turn w (Some i) t ∙ ap (hand_first x.number x.handed) gone, refl)

    module _ (place : Place) (first : slice_get j.chain.places 0 ≡ Some place) where
      some : x.handed < length (places x)
      some =
          let r = Rattle.std.proofs.Common.length-drop x.handed (spots x) in
          omega (arith, (first_left j.chain.places place no_place first).0, ap length spots_left, length-spots x, r)

      stands' : Stands v.jobs i x.number
      stands' = record { there = ts.there; number' = refl }

      at' : PlaceAt x x.handed
      at' = place_at x x.handed some

      abbrev next' : Sheet (What d)
      next' = record { job = x.number; place = x.handed; file = at'.page.file; number = at'.page.number; page = at'.page.page }

      next_is : next_page v p ≡ HandsOut next'
      next_is = turn w (Some i) t ∙ ap (hand_first x.number x.handed) at'.left

      can : CanHand x
      can = record { goes = ts.goes; even = (hands_job (size d) k.config b h p i next' l.legal ip next_is stands').even; some = some }

      -- so a page is next for the printer
      pub hands_some : (sheet : Sheet (What d)) × (next_page v p ≡ HandsOut sheet)
      hands_some = (next', next_is)

      pub hand_ready : IsReady j.chain
      hand_ready = can_hand (look d) k.config j x can ties

      handed_same : j.facts.handed ≡ x.handed
      handed_same = ap (λ (g : Facts). g.handed) facts'

      abbrev Begins : Type 0
      Begins = (sheet : Sheet (What d)) × (next_page v p ≡ HandsOut sheet) × (sheet.place ≡ 0)

      -- it is the first of the job exactly where none was handed out before
      pub hands_first : (j.facts.handed ≡ 0 → Begins) × (Begins → j.facts.handed ≡ 0)
      hands_first = (λ z. (next', next_is, sym handed_same ∙ z), λ b. handed_same ∙ (ap place_next (sym next_is ∙ b.1) ∙ b.2))

      pub hand_few : IsConfig k.config → j.facts.handed + 1 < 2 ^ 64
      hand_few ranges = (let n = handed_few d b h k x ranges l (has_get v.jobs i no_job ts.there) in let e = handed_same in omega (arith, n, e))

      queue_same : j.facts.queue ≡ x.queue
      queue_same = ap (λ (g : Facts). g.queue) facts'

      pub kind_there : j.facts.queue < length k.table.capacity
      kind_there = omega (arith, queue_kind k.config x.queue ts.queue, ap length l.kept.table.capacity, queue_same)

      pub need_here : j.facts.handed ≡ 0 → 0 < amount (row_at k.table.rows i).need j.facts.queue
      need_here z =
          let n = printer_needed k.config x ts.queue ts.goes.0 (sym handed_same ∙ z) in
          let e : amount (row_at k.table.rows i).need x.queue ≡ amount (row_of k.config x).need x.queue = ap (λ (row : Row). amount row.need x.queue) (row_here k.table v i l.kept.table ts.there) in
          subst (λ (q : ℕ). 0 < amount (row_at k.table.rows i).need q) (sym queue_same) (omega (arith, n, e))

      free_by : x.handed ≡ 0 → 0 < amount k.table.free x.queue
      free_by z = printer_free (size d) k.config b h k.table p i next' l.legal l.kept.table ip next_is stands' z

      pub free_here : j.facts.handed ≡ 0 → 0 < amount k.table.free j.facts.queue
      free_here z = subst (λ (q : ℕ). 0 < amount k.table.free q) (sym queue_same) (free_by (sym handed_same ∙ z))

      -- the row of the job, with its printer
      with_row_by : (first' : Bool) → (x.handed == 0) ≡ first' → WithRow k.table (cond first' (granted k.table i x.queue) k.table) i (row_of k.config (turned Handed x)) (amount k.table.free 0)
      with_row_by true e =
          let z : x.handed ≡ 0 = grind (arith, nat_tests) in
          first_leaves k.config k.table i x (row_stands d b h k i l ts.there) l.kept.table.capacity ts.queue (ts.goes.1, ts.goes.0) z (free_by z)
      with_row_by false e =
          let z : 0 < x.handed = grind (arith, nat_tests) in
          later_leaves k.config k.table i x (row_stands d b h k i l ts.there) (ts.goes.1, ts.goes.0) z

      with_row : WithRow k.table (cond (j.facts.handed == 0) (granted k.table i j.facts.queue) k.table) i (row_of k.config (turned Handed x)) (amount k.table.free 0)
      with_row =
          subst (λ (g : Facts). WithRow k.table (cond (g.handed == 0) (granted k.table i g.queue) k.table) i (row_of k.config (turned Handed x)) (amount k.table.free 0)) (sym facts')
          (with_row_by (x.handed == 0) refl)

      -- the page is that of the next place
      pub record Taken (page : HandedPage) : Type 0 where
        pub job : page.job ≡ j.facts.number
        pub place' : page.place ≡ j.facts.handed
        pub file : page.file ≡ place.file
        pub number : page.number ≡ place.number
        pub whole : page_at j.chain.files (next_place j.chain) ≡ Some page.page
        pub size' : page.page.page_size ≡ k.book.page_size

      number_same : (page : HandedPage) → Taken page → x.number ≡ page.job
      number_same page tk = sym (tk.job ∙ ap (λ (g : Facts). g.number) facts')

      hands : (page : HandedPage) → Taken page → next_page v p ≡ HandsOut (sheet_of d b h k page)
      hands page tk =
          let n = J.next_page (look d) k.config j x page.page can tk.whole ties in
          let here : place ≡ place_of n.next = sym (first_left j.chain.places place no_place first).1 ∙ n.place in
          turn w (Some i) t
          ∙ (ap (hand_first x.number x.handed) n.left
          ∙ ap (λ (s : Sheet (What d)). HandsOut s) (same_sheet (record { job = x.number; place = x.handed; file = n.next.file; number = n.next.number; page = n.next.page }) (sheet_of d b h k page)
          (number_same page tk) (sym (tk.place' ∙ handed_same)) (sym (tk.file ∙ ap (λ (q : Place). q.file) here)) (sym (tk.number ∙ ap (λ (q : Place). q.number) here)) (sym n.page')))

      printer_is : (page : HandedPage) → record { queue = at.queue; out = Some (sheet_out page); began = Some page.job; stopped = false } ≡ kept_printer d (printer_turned (sheet_of d b h k page) Handed (printer_at v p))
      printer_is page i = record {
        queue = (seen i).queue;
        out = Some (record (sheet_out page) { page = sym (outline_see d page.page.octets) i });
        began = Some page.job;
        stopped = (sym w.runs ∙ ap (λ (a : Printer). a.stopped) seen) i;
      }

      leaves : (page : HandedPage) → Taken page → Leaves d b (AtPrinter p (sheet_of d b h k page) Handed ∷ h) (handed_core k p i at page)
      leaves page tk =
          let sheet : Sheet (What d) = sheet_of d b h k page in
          let s : Stands v.jobs i sheet.job = record { there = ts.there; number' = number_same page tk } in
          let g : (is_received x ≡ true) × (x.ended ≡ false) = (ts.goes.1, ts.goes.0) in
          let chain = handed_chain x g can.even some in
          let within = one_stored d b h k i l ts.there in
          let table = cond (j.facts.handed == 0) (granted k.table i j.facts.queue) k.table in
          leaves_row d b h k (AtPrinter p sheet Handed) i (k.book.stored - 1) k.pool.free (turned Handed x) (handed_job j) table
          (set k.printers (p - 1) (record { queue = at.queue; out = Some (sheet_out page); began = Some page.job; stopped = false })) l (ip, hands page tk)
          (turn_set (size d) k.config b h i p sheet Handed l.legal s (handed_held x g)) ts.there refl refl
          (ties_handed (look d) k.config j x can ties) (omega (arith, chain, within))
          (subst (λ (n : ℕ). WithRow k.table table i (row_of k.config (turned Handed x)) n) (sym (pool_even d b h k l)) with_row)
          (ap (set k.printers (p - 1)) (printer_is page) ∙ printers_set d b h k l p (printer_turned sheet Handed (printer_at v p)))

      pub hands_page : (page : HandedPage) → Taken page → Hands d b h k p (handed_core k p i at page) (next.Handed page)
      hands_page page tk = (hands page tk, leaves page tk, tk.size' ∙ l.kept.book.page_size)
