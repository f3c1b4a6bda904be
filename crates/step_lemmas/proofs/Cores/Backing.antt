-- A page comes back from a printer.
use Rattle.std.proofs.Common.{◌≡◌, ◌==◌, ◌≢◌, ℕ, suc, ◌+◌, ◌-◌, ◌<◌, ◌≤◌, ◌^◌, Bool, true, false, List, ◌∷◌, length, drop, get_or, set, map, refl, sym, ◌∙◌, ap, subst, arith}
use Rattle.std.specs.Prelude.{All, Option, Some, None, Ok, cond, is_some, remove, slice_get}
use Rattle.counts.specs.Amounts.{amount}
use Rattle.claims.specs.declared.row.Row.{Row}
use Rattle.claims.specs.Claims.{row_at}
use Rattle.claims.specs.Changes.{closed, given_back}
use Rattle.page_pool.specs.Page.{Pages}
use Rattle.page_chain.specs.declared.place.Place.{Place}
use Rattle.page_chain.specs.Files.{every_page}
use Rattle.page_chain.specs.Changes.{AwaitsLast, comes_again}
use Rattle.held_jobs.specs.Jobs.{Facts, HeldJob}
use Rattle.held_jobs.specs.Moves.{again_job, back_facts, told}
use Rattle.held_jobs.specs.Books.{job_at, with_job}
use Rattle.held_jobs.specs.Turns.{is_ended}
use Rattle.held_jobs.specs.Shown.{see_job}
use Rattle.account.specs.declared.entry.Progress.{Progress}
use Rattle.account.specs.declared.entry.Progress.TheVariants.{Going, Done, Ended}
use Rattle.account.specs.declared.entry.Sheet.{Sheet as SheetOut}
use Rattle.account.specs.Seen.{progress_seen}
use Rattle.config_values.specs.Config.{IsPrinter, queue_of}
use Rattle.config_values.specs.Ranges.{IsConfig}
use Rattle.spool_history.specs.Base.{Base}
use Rattle.spool_history.specs.Events as E
use Rattle.spool_history.specs.Events.{Event, Sheet, Turn}
use Rattle.spool_history.specs.Events.Turn.{Failed, Printed}
use Rattle.spool_history.specs.Events.Event.{AtPrinter}
use Rattle.spool_history.specs.Now as N
use Rattle.spool_history.specs.Now.{Job, State, is_held, is_received, pages_held, places, row_of}
use Rattle.spool_history.specs.Next.{no_printer, printer_at}
use Rattle.spool_history.specs.Steps.{printer_turned, printers_after, turned}
use Rattle.spool_history.specs.Legal.{HasJob, May, progress_of}
use Rattle.spool_laws.specs.Sums.{chained_of}
use Rattle.spool_laws.proofs.Apart.{each_has_a_place}
use Rattle.step_lemmas.proofs.HeldJobs.Standing.{Stands, has_job}
use Rattle.step_lemmas.proofs.HeldJobs.Moving.{turn_gone, turn_set}
use Rattle.step_lemmas.proofs.HeldJobs.Holding.{handed_within, held_counts, received_unlent}
use Rattle.step_lemmas.proofs.HeldJobs.Files.{job_names_differ}
use Rattle.step_lemmas.proofs.HeldJobs.Claimed.{row_here}
use Rattle.step_lemmas.proofs.HeldJobs.Out.{OutOf, out_here, out_job}
use Rattle.step_lemmas.proofs.OneJob.Ties.{prints}
use Rattle.step_lemmas.proofs.OneJob.Awaiting.{awaits_last}
use Rattle.step_lemmas.proofs.OneJob.Printing.{is_done, ties_again, ties_back}
use Rattle.claims.specs.Claims.{Claims}
use Rattle.step_lemmas.proofs.Rows.Tables.{WithRow, WithoutRow}
use Rattle.step_lemmas.proofs.Rows.Printing.{again, again_chain, again_leaves, going_held, is_out_of, last_chain, last_leaves, out_holds}
use Rattle.step_lemmas.proofs.HeldJobs.EachPage.{nth}
use Rattle.step_lemmas.proofs.Rows.Printing as R
use Rattle.step_lemmas.proofs.Rows.Ending.{back_ended_gone, back_gone}
use Rattle.spool_calls.specs.declared.printer.Printer.{Printer}
use Rattle.spool_calls.specs.declared.handed.HandedPage.{HandedPage}
use Rattle.spool_calls.specs.Looks.{Detail, What, outline_of, size}
use Rattle.spool_calls.specs.Kept.{Kept, Leaves, kept_out, kept_printer, last_of, left_by, look, shown_job, spots}
use Rattle.spool_calls.specs.Calls.{Fails, IsOut, Prints}
use Rattle.spool_calls.specs.Printers.{said_of}
use Rattle.step_lemmas.proofs.Cores.Leaving.{Found, closed_free, every_counted, leaves_out, leaves_row, none_has, one_stored, pool_even, row_stands, sees, look_at}
use Rattle.step_lemmas.proofs.Cores.Phases.{ended_is, phase_tie}
use Rattle.step_lemmas.proofs.Cores.Printers.{behind, printer_seen, printer_there, printers_many, printers_set}
use Rattle.step_lemmas.proofs.Cores.Ranges.{some_counted}
use Rattle.step_lemmas.proofs.Cores.Handing.{handed_few}

-- the page is the one that is out
abbrev pub IsOutOf : Option SheetOut → HandedPage → ℕ → Type 0
IsOutOf None page page_size = ⊥
IsOutOf (Some s) page page_size =
    (page.job ≡ s.job) × (page.place ≡ s.place) × (outline_of page.page.octets ≡ s.page) × (page.page.page_size ≡ page_size)

-- the printer once its page came back
abbrev pub idle_printer : Printer → Printer
idle_printer at = record { queue = at.queue; out = None; began = at.began; stopped = at.stopped }

-- what is kept once a page came back that comes no more
abbrev pub back_core : Kept → (p i : ℕ) → Printer → Kept
back_core k p i at = record k {
  pool = record k.pool { free = k.pool.free + 1 };
  book = with_job k.book i (told back_facts (job_at k.book i));
  table = given_back k.table i 0 1;
  printers = set k.printers (p - 1) (idle_printer at);
}

-- and where it comes again
abbrev pub again_core : Kept → (p i : ℕ) → Printer → HandedPage → Kept
again_core k p i at page = record k {
  book = record (with_job k.book i (again_job page.page (job_at k.book i))) { stored = k.book.stored + 1 };
  printers = set k.printers (p - 1) (idle_printer at);
}

-- and where its job is held no more
abbrev pub gone_core : Kept → ℕ → List Printer → Kept
gone_core k i printers = record k {
  pool = record k.pool { free = k.pool.free + length (every_page (job_at k.book i).chain.files) + 1 };
  book = record k.book { jobs = remove k.book.jobs i; stored = k.book.stored - length (every_page (job_at k.book i).chain.files) };
  table = closed k.table i;
  printers = printers;
}

said_by : (e d d' : Bool) → (e ≡ false → d' ≡ d) → progress_seen (cond e Ended (cond d Done Going)) ≡ cond e E.Progress.Ended (cond d' E.Progress.Done E.Progress.Going)
said_by true d d' same = refl
said_by false true d' same = (let s : d' ≡ true = same refl in sym (ap (λ (b : Bool). cond b E.Progress.Done E.Progress.Going) s))
said_by false false d' same = (let s : d' ≡ false = same refl in sym (ap (λ (b : Bool). cond b E.Progress.Done E.Progress.Going) s))

going_by : (e d : Bool) → cond e Ended (cond d Done Going) ≡ Going → e ≡ false
going_by true d s = absurd cc
going_by false d s = refl

module _ (d : Detail) (b : Base) (h : List (Event (What d))) (k : Kept) (l : Leaves d b h k) (p : ℕ) (ip : IsPrinter k.config p) (at : Printer) (ia : at ≡ get_or k.printers (p - 1) at) (page : HandedPage) where
  abbrev v : State (What d)
  v = left_by d b h k

  seen : at ≡ kept_printer d (printer_at v p)
  seen = printer_seen d b h k l p at ip ia

  -- the sheet that is out
  pub record OutSheet : Type 0 where
    pub sheet : Sheet (What d)
    pub is : IsOut d b h k p page sheet

  out_by : (o : Option (Sheet (What d))) → (printer_at v p).out ≡ o → IsOutOf (kept_out d o) page k.config.page_size → OutSheet
  out_by None e i = absurd i
  out_by (Some s) e i = record { sheet = s; is = (e, i.0, i.1, i.2, i.3) }

  pub out_sheet : IsOutOf at.out page k.config.page_size → OutSheet
  out_sheet i = out_by (printer_at v p).out refl (subst (λ (a : Printer). IsOutOf a.out page k.config.page_size) seen i)

  -- where it isn't the one that is out, no sheet is
  pub foreign : (IsOutOf at.out page k.config.page_size → ⊥) → (sheet : Sheet (What d)) → IsOut d b h k p page sheet → ⊥
  foreign never sheet i =
      never (subst (λ (a : Printer). IsOutOf a.out page k.config.page_size) (sym seen)
      (subst (λ (o : Option (Sheet (What d))). IsOutOf (kept_out d o) page k.config.page_size) (sym i.0) (i.1, i.2, i.3, i.4)))

  -- the job of the page that is out is held
  pub job_there : IsOutOf at.out page k.config.page_size → All (λ (j : HeldJob). j.facts.number ≢ page.job) k.book.jobs → ⊥
  job_there i none =
      let o = out_sheet i in
      let P : Job (What d) → Type 0 = OutOf (queue_of k.config p) o.sheet in
      none_has d b h k page.job P l none (subst (λ (n : ℕ). HasJob v.jobs n P) (sym o.is.1) (out_job (size d) k.config b h p o.sheet l.legal ip o.is.0))

  -- the printer that its page left
  pub printer_back : (sheet : Sheet (What d)) (progress : E.Progress) → set k.printers (p - 1) (idle_printer at) ≡ map (kept_printer d) (printers_after (AtPrinter p sheet (Printed progress)) v)
  printer_back sheet progress =
      ap (λ (a : Printer). set k.printers (p - 1) (idle_printer a)) seen ∙ printers_set d b h k l p (printer_turned sheet (Printed progress) (printer_at v p))

  module _ (out : IsOutOf at.out page k.config.page_size) (i : ℕ) (f : Found k page.job i) where
    o : OutSheet
    o = out_sheet out

    open look_at d b h k i use {x, j}
    open sees d b h k page.job i l f use {stands as t, has, ties, facts as ft}

    s : Stands v.jobs i o.sheet.job
    s = record { there = t.there; number' = t.number' ∙ o.is.1 }

    of : OutOf (queue_of k.config p) o.sheet x
    of = out_here (size d) k.config b h i p o.sheet l.legal ip o.is.0 s

    unlent : x.lent ≡ false
    unlent = received_unlent (size d) k.config b h x l.legal has of.received

    -- so many pages are in its chain
    pub out_chain : length (every_page j.chain.files) ≡ chained_of x
    out_chain = every_counted d b h k i l f.there

    -- and it holds one more
    pub out_held : pages_held x ≡ chained_of x + 1
    out_held =
        let count : Bool → ℕ = (λ q. cond q 1 0) in
        let u : count x.lent ≡ 0 = ap count unlent in
        omega (arith, held_counts (size d) k.config b h x l.legal has, u, of.handed)

    -- a printer has a page
    one_out : 0 < Rattle.spool_laws.specs.Sums.at_printers v
    one_out =
        let m = printers_many d b h k l in
        let e : is_some (get_or v.printers (p - 1) no_printer).out ≡ true =
        ap (λ (q : N.Printer (What d)). is_some q.out) (sym (behind v.printers no_printer p ip.0)) ∙ ap (λ (q : Option (Sheet (What d))). is_some q) o.is.0 in
        some_counted (λ (q : N.Printer (What d)). is_some q.out) v.printers (p - 1) no_printer (omega (arith, printer_there d b h k l p ip, m)) e

    -- there is room in the book for it
    pub room_stored : k.book.stored < k.book.pages
    room_stored = omega (arith, each_has_a_place (size d) k.config b h l.legal, one_out, l.kept.book.stored, l.kept.book.pages)

    -- and in the pool, with those of its chain
    pub room_free : k.pool.free + length (every_page j.chain.files) + 1 ≤ k.pool.pages
    room_free =
        let n : k.pool.free ≡ N.free_pages v = ap (λ (q : Pages). q.free) l.kept.pool in
        let m : k.pool.pages ≡ k.config.pages = ap (λ (q : Pages). q.pages) l.kept.pool in
        omega (arith, each_has_a_place (size d) k.config b h l.legal, one_out, one_stored d b h k i l s.there, out_chain, l.kept.book.stored, n, m)

    pub back_few : IsConfig k.config → j.facts.back + 1 < 2 ^ 64
    back_few ranges = (let n = handed_few d b h k x ranges l has in let e = ap (λ (g : Facts). g.back) ft in let m = of.handed in omega (arith, n, e, m))

    -- what is said of it

    within : x.handed ≤ length (places x)
    within = handed_within (size d) k.config b h x l.legal has

    ended_same : is_ended j.facts.phase ≡ x.ended
    ended_same = ap is_ended (phase_tie (look d) k.config j x ties) ∙ ended_is x.ended (is_received x)

    pub said_is : progress_seen (said_of j) ≡ progress_of x
    said_is =
        ap (λ (e : Bool). progress_seen (cond e Ended (cond (length j.chain.places == 0) Done Going))) ended_same
        ∙ said_by x.ended (length j.chain.places == 0) (x.back + 1 == length (places x)) (λ e. is_done (look d) k.config j x (e, of.received) of.handed within ties)

    goes_on : said_of j ≡ Going → x.ended ≡ false
    goes_on e = sym ended_same ∙ going_by (is_ended j.facts.phase) (length j.chain.places == 0) e

    has_said : (said : Progress) → said_of j ≡ said → HasJob v.jobs o.sheet.job (λ (job : Job (What d)). progress_seen said ≡ progress_of job)
    has_said said e = has_job v i o.sheet.job (λ (job : Job (What d)). progress_seen said ≡ progress_of job) s (ap progress_seen (sym e) ∙ said_is)

    -- whether the page comes again
    again_same : (g : x.ended ≡ false) → comes_again j.chain.places j.chain.last ≡ again x
    again_same g =
        let a = prints (look d) k.config j x g of.received ties in
        let one : x.handed ≡ suc x.back = (let e = of.handed in omega (arith, e)) in
        let last : j.chain.last ≡ slice_get (spots x) x.back = a.last ∙ ap (last_of (spots x)) one in
        ap (λ (ps : List Place). comes_again ps j.chain.last) a.places ∙ ap (comes_again (drop x.handed (spots x))) last

    pub back_awaited : said_of j ≡ Going → comes_again j.chain.places j.chain.last ≡ true → AwaitsLast j.chain
    back_awaited e g = awaits_last (look d) k.config j x (goes_on e, of.received) of.handed (job_names_differ (size d) k.config b h x l.legal has) g ties

    pub back_held : said_of j ≡ Going → 1 ≤ amount (row_at k.table.rows i).held 0
    back_held e =
        let m : amount (row_at k.table.rows i).held 0 ≡ amount (row_of k.config x).held 0 = ap (λ (row : Row). amount row.held 0) (row_here k.table v i l.kept.table s.there) in
        omega (arith, out_holds k.config x (is_out_of (queue_of k.config p) o.sheet x of (goes_on e)), m)

    -- where it leaves the core

    may : (said : Progress) → said_of j ≡ said → May (size d) v (AtPrinter p o.sheet (Printed (progress_seen said)))
    may said e = (ip, (o.is.0, has_said said e))

    module _ (said : said_of j ≡ Going) where
      abbrev y : Job (What d)
      y = turned (Printed E.Progress.Going) x

      g : x.ended ≡ false
      g = goes_on said

      out' : R.IsOut x
      out' = is_out_of (queue_of k.config p) o.sheet x of g

      -- what changes is the job with its row
      leaves_going : (n pages : ℕ) (new : HeldJob) (u : Claims) → see_job (look d) new ≡ shown_job k.config y → n + chained_of x ≡ k.book.stored + chained_of y
          → WithRow k.table u i (row_of k.config y) pages
          → Leaves d b (AtPrinter p o.sheet (Printed E.Progress.Going) ∷ h)
          (record k { pool = record k.pool { free = pages }; book = record (with_job k.book i new) { stored = n }; table = u; printers = set k.printers (p - 1) (idle_printer at) })
      leaves_going n pages new u tie many w =
          leaves_row d b h k (AtPrinter p o.sheet (Printed E.Progress.Going)) i n pages y new u (set k.printers (p - 1) (idle_printer at)) l (may Going said)
          (turn_set (size d) k.config b h i p o.sheet (Printed E.Progress.Going) l.legal s (going_held x (of.received, g))) s.there refl refl tie many w (printer_back o.sheet E.Progress.Going)

      -- its page is taken back, and comes no more
      pub prints_last : comes_again j.chain.places j.chain.last ≡ false → Prints d b h k p page (back_core k p i at) (Ok Going)
      prints_last none =
          let a : again x ≡ false = sym (again_same g) ∙ none in
          let c = last_chain x out' a in
          let w = last_leaves k.config k.table i x (row_stands d b h k i l s.there) out' a in (
            o.sheet,
            o.is,
            has_said Going said,
            λ came.
                leaves_going k.book.stored (k.pool.free + 1) (told back_facts j) (given_back k.table i 0 1) (ties_back (look d) k.config j x (g, of.received) of.handed none ties) (omega (arith, c))
                (subst (λ (n : ℕ). WithRow k.table (given_back k.table i 0 1) i (row_of k.config y) (n + 1)) (sym (pool_even d b h k l)) w),
          )

      -- it comes again: its chain has it back
      pub prints_again : comes_again j.chain.places j.chain.last ≡ true → Prints d b h k p page (again_core k p i at page) (Ok Going)
      prints_again comes =
          let a : again x ≡ true = sym (again_same g) ∙ comes in
          let c = again_chain x out' a in
          let w = again_leaves k.config k.table i x (row_stands d b h k i l s.there) out' a in
          let n = nth (places x) x.back out'.within in
          let both : n.here ∷ drop (x.back + 1) (places x) ≡ of.page ∷ of.later = sym n.left ∙ of.left in
          let is = n.is in
          let first : slice_get (places x) x.back ≡ Some of.page = cc in
          let sheet_page : o.sheet.page ≡ of.page.page = ap (λ (z : Sheet (What d)). z.page) of.is in (
            o.sheet,
            o.is,
            has_said Going said,
            λ came.
                leaves_going (k.book.stored + 1) k.pool.free (again_job page.page j) k.table
                (ties_again (look d) k.config j x page.page of.page (g, of.received) of.handed comes first (came ∙ sheet_page) ties) (omega (arith, c))
                (subst (λ (n : ℕ). WithRow k.table k.table i (row_of k.config y) n) (sym (pool_even d b h k l)) w),
          )

    -- its job is held no more
    gone_leaves : (turn : Turn) (printers : List Printer) → is_held (turned turn x) ≡ false → May (size d) v (AtPrinter p o.sheet turn) → printers ≡ map (kept_printer d) (printers_after (AtPrinter p o.sheet turn) v)
        → Leaves d b (AtPrinter p o.sheet turn ∷ h) (gone_core k i printers)
    gone_leaves turn printers gone m ps =
        let e : Event (What d) = AtPrinter p o.sheet turn in
        let n : ℕ = length (every_page j.chain.files) in
        let c = out_chain in
        let within = one_stored d b h k i l s.there in
        let free : k.pool.free + pages_held x ≡ k.pool.free + n + 1 = omega (arith, c, out_held) in
        leaves_out d b h k e i (k.book.stored - n) (k.pool.free + n + 1) (closed k.table i) printers l m
        (turn_gone (size d) k.config b h i p o.sheet turn l.legal s gone) s.there refl refl
        (omega (arith, within, c)) (subst (λ (q : ℕ). WithoutRow k.table (closed k.table i) i q) free (closed_free d b h k i l s.there)) ps

    done_ended : (e t : Bool) → cond e Ended (cond t Done Going) ≡ Ended → e ≡ true
    done_ended true t q = refl
    done_ended false true q = absurd cc
    done_ended false false q = absurd cc

    gone_by : (said : Progress) → said_of j ≡ said → (said ≡ Going → ⊥) → is_held (turned (Printed (progress_seen said)) x) ≡ false
    gone_by Going e never = absurd (never refl)
    gone_by Done e never = back_gone x unlent of.handed
    gone_by Ended e never =
        back_ended_gone x (sym ended_same ∙ done_ended (is_ended j.facts.phase) (length j.chain.places == 0) e) unlent of.handed

    pub prints_gone : (said : Progress) → said_of j ≡ said → (said ≡ Going → ⊥) → Prints d b h k p page (gone_core k i (set k.printers (p - 1) (idle_printer at))) (Ok said)
    prints_gone said e never =
        (o.sheet, o.is, has_said said e, λ came. gone_leaves (Printed (progress_seen said)) (set k.printers (p - 1) (idle_printer at)) (gone_by said e never) (may said e) (printer_back o.sheet (progress_seen said)))

    -- it failed: its job ends, and the printer stops
    pub fails_gone : Fails d b h k p page (gone_core k i (set k.printers (p - 1) (record { queue = at.queue; out = None; began = at.began; stopped = true }))) (Ok tt)
    fails_gone = (
      o.sheet,
      o.is,
      gone_leaves Failed (set k.printers (p - 1) (record { queue = at.queue; out = None; began = at.began; stopped = true })) (back_gone x unlent of.handed) (ip, o.is.0)
          (ap (λ (a : Printer). set k.printers (p - 1) (record { queue = a.queue; out = None; began = a.began; stopped = true })) seen ∙ printers_set d b h k l p (printer_turned o.sheet Failed (printer_at v p))),
    )
