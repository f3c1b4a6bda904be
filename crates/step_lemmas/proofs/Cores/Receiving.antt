-- A data file of a job ends, and its control file comes: with the last of these it is received.
use Rattle.std.proofs.Common.{◌≡◌, ◌≢◌, ℕ, ◌+◌, ◌-◌, ◌≤◌, Bool, true, false, List, ◌∷◌, length, refl, sym, ◌∙◌, ap, subst, arith}
use Rattle.std.specs.Prelude.{All, Ok, Err, Option, Some, None, ◌&&◌, not, is_some}
use Rattle.std.specs.List.{list_all}
use Rattle.std.proofs.lemmas.Simd.{map-map}
use Rattle.counts.specs.Amounts.{amount}
use Rattle.claims.specs.declared.row.Row.{Row}
use Rattle.claims.specs.Claims.{row_at}
use Rattle.claims.specs.Changes.{given_back, need_ended}
use Rattle.page_pool.specs.Page.{Pages}
use Rattle.page_chain.specs.Changes.{unnamed_pages}
use Rattle.lpd_values.specs.Contents.{Contents}
use Rattle.lpd_values.specs.Kept.{is_among}
use Rattle.lpd_values.specs.declared.refusal.Refusal.TheVariants.{NotOpen}
use Rattle.held_jobs.specs.declared.file.DataFile.{DataFile}
use Rattle.held_jobs.specs.declared.phase.Phase.TheVariants.{Receiving}
use Rattle.held_jobs.specs.Jobs.{HeldJob, Facts, file_names, has_all, has_prints}
use Rattle.held_jobs.specs.Moves.{CanEnd, closed_file, controlled_facts, received_job, told}
use Rattle.held_jobs.specs.Books.{IsIdle, prints_of, with_job}
use Rattle.held_jobs.specs.Shown.{see_job}
use Rattle.config_values.specs.Ranges.{IsConfig}
use Rattle.spool_history.specs.Base.{Base}
use Rattle.spool_history.specs.Events.{Act, Event}
use Rattle.spool_history.specs.Events.Act.{FileEnded, Controlled}
use Rattle.spool_history.specs.Events.Event.{OfJob}
use Rattle.lpd_values.specs.Told.{prints_in}
use Rattle.spool_history.specs.Acts.{File, at_last, is_open_in, is_whole, names_in}
use Rattle.spool_history.specs.Now.{Job, is_received, pages_kept, row_of}
use Rattle.spool_history.specs.Steps.{acted}
use Rattle.spool_history.specs.Legal.{HasJob, HasOpen, HasPages, IsControl, IsReceiving, JobMay, pages_for}
use Rattle.spool_laws.proofs.Apart.{each_has_a_place}
use Rattle.step_lemmas.proofs.HeldJobs.Standing.{has_here, has_job}
use Rattle.step_lemmas.proofs.HeldJobs.Moving.{act_set}
use Rattle.step_lemmas.proofs.HeldJobs.Opens.{LastOpen, job_opens}
use Rattle.step_lemmas.proofs.HeldJobs.Files.{Differ, job_names_differ, job_pages_needed, needed_of_last, none_left_is_all, all_is_none_left}
use Rattle.step_lemmas.proofs.HeldJobs.Holding.{closed_unlent, file_pages, granted_filed, granted_within, unreceived_unhanded}
use Rattle.step_lemmas.proofs.OneJob.Ties.{fills}
use Rattle.step_lemmas.proofs.OneJob.Received.{names_ended, received_by_control, received_by_file}
use Rattle.step_lemmas.proofs.OneJob.Receiving.{closed_ended, ties_closed, ties_controlled}
use Rattle.step_lemmas.proofs.OneJob.Counting.{counts_by_control, counts_by_file}
use Rattle.step_lemmas.proofs.Rows.Tables.{WithRow}
use Rattle.step_lemmas.proofs.Rows.Receiving.{chained_receiving, controlled_chain, controlled_row, file_ended_chain, file_ended_row, held_in_row, held_receiving}
use Rattle.step_lemmas.proofs.HeldJobs.Receiving.{open_unreceived}
use Rattle.step_lemmas.proofs.Rows.Received.{Becomes, by_control, by_file, received_chain, unprinted}
use Rattle.spool_calls.specs.declared.answers.Receipt.TheVariants.{Stored, Received}
use Rattle.spool_calls.specs.Looks.{Detail, What, size}
use Rattle.spool_calls.specs.Kept.{Kept, Leaves, look, shown_job, size_of}
use Rattle.spool_calls.specs.Calls.{Ends, EndsFile, Controls}
use Rattle.step_lemmas.proofs.Cores.Leaving.{Found, held_unended, leaves_act, leaves_row, none_has, one_stored, pool_even, row_stands, sees, look_at}
use Rattle.step_lemmas.proofs.Cores.Ranges.{limit_within}
use Rattle.step_lemmas.proofs.Cores.Phases.{phase_tie, phase_receiving, open_tie}
use Rattle.step_lemmas.proofs.Cores.Filing.{idle, is_receiving, last_is, left_of, no_open, open_is, open_last}

-- whether all that is awaited is there

has_all_is : (names : List (List ℕ)) (control : Option Contents) → has_all names control ≡ (is_some control && list_all (λ name. is_among name names) (prints_in control))
has_all_is names None = refl
has_all_is names (Some control) = refl

whole_closed : {C : Type 0} (control : Option Contents) (fs : List (File C)) → is_open_in fs ≡ false → is_whole control fs ≡ has_all (names_in fs) control
whole_closed control fs e =
    ap (λ (o : Bool). is_some control && (not o && list_all (λ name. is_among name (names_in fs)) (prints_in control))) e ∙ sym (has_all_is (names_in fs) control)

pub end_none : (d : Detail) (b : Base) (h : List (Event (What d))) (k : Kept) (job : ℕ) → Leaves d b h k → All (λ (j : HeldJob). j.facts.number ≢ job) k.book.jobs → Ends d b h k job k (Err NotOpen)
end_none d b h k job l none = ((λ m. none_has d b h k job (JobMay (size d) k.config (FileEnded m.0 m.1)) l none m.2), refl)

-- so many pages fit into the pool beside those that are free, if they are stored
pub pool_room : (d : Detail) (b : Base) (h : List (Event (What d))) (k : Kept) → Leaves d b h k → (n : ℕ) → n ≤ k.book.stored → k.pool.free + n ≤ k.pool.pages
pool_room d b h k l n le =
    let f = ap (λ (p : Pages). p.free) l.kept.pool in
    omega (arith, each_has_a_place (size d) k.config b h l.legal, l.kept.book.stored, f, ap (λ (p : Pages). p.pages) l.kept.pool, le)

-- what is kept once the job at a place is received, where so many pages went back to the pool
abbrev pub received_core : Kept → ℕ → HeldJob → ℕ → Kept
received_core k i j n = record k {
  pool = record k.pool { free = k.pool.free + n };
  book = record (with_job k.book i j) { stored = k.book.stored - n };
  table = given_back (need_ended k.table i 0) i 0 n;
}

module _ (d : Detail) (b : Base) (h : List (Event (What d))) (k : Kept) (l : Leaves d b h k) (job i : ℕ) (f : Found k job i) where
  open look_at d b h k i use {v, x, j}

  abbrev z : ℕ
  z = k.config.page_size

  open sees d b h k job i l f use {stands as s, ties as t, has, facts as ft}

  here : (P : Job (What d) → Type 0) → HasJob v.jobs job P → P x
  here P m = has_here (size d) k.config b h i job P l.legal s m

  opens : LastOpen x.files
  opens = job_opens (size d) k.config b h x l.legal has

  differ : Differ (names_in x.files)
  differ = job_names_differ (size d) k.config b h x l.legal has

  unhanded : IsReceiving x → (x.handed ≡ 0) × (x.back ≡ 0)
  unhanded r = unreceived_unhanded (size d) k.config b h x l.legal has r.1

  facts_all : has_prints j.facts ≡ has_all (names_in x.files) x.control
  facts_all =
      ap has_prints ft ∙ ap (λ (ns : List (List ℕ)). has_all ns x.control) (map-map (λ (g : DataFile). g.name) (size_of z) x.files)

  -- what becomes received
  received_leaves : (act : Act (What d)) (j' : HeldJob) (n : ℕ) → IsReceiving x → x.lent ≡ false → HasJob v.jobs job (JobMay (size d) k.config act)
      → (x.granted ≡ file_pages x → x.handed ≡ 0 → Becomes x (acted act x)) → (acted act x).ended ≡ false
      → (x.handed ≡ 0 → x.back ≡ 0 → see_job (look d) j' ≡ shown_job k.config (acted act x)) → (x.back ≡ 0 → n + length (pages_kept (acted act x)) ≡ file_pages x)
      → Rattle.spool_history.specs.Legal.ActMay v job act → Leaves d b (OfJob job act ∷ h) (received_core k i j' n)
  received_leaves act j' n r lent may becomes goes tie' count also =
      let y = acted act x in
      let u = unhanded r in
      let filed = granted_filed (size d) k.config b h x l.legal has r.0 lent in
      let is = becomes (sym filed) u.0 in
      let un : unprinted x y ≡ n = omega (arith, filed, count u.1) in
      let chain = received_chain x y is in
      let w : WithRow k.table (given_back (need_ended k.table i 0) i 0 n) i (row_of k.config y) (k.pool.free + n) =
      rw (pool_even d b h k l) (subst (λ (m : ℕ). WithRow k.table (given_back (need_ended k.table i 0) i 0 m) i (row_of k.config y) (amount k.table.free 0 + m)) un
      (Rattle.step_lemmas.proofs.Rows.Received.received_leaves k.config k.table i x y (row_stands d b h k i l s.there) is)) in
      let within = one_stored d b h k i l s.there in
      leaves_row d b h k (OfJob job act) i (k.book.stored - n) (k.pool.free + n) y j' (given_back (need_ended k.table i 0) i 0 n) k.printers l (may, also)
      (act_set (size d) k.config b h i job act l.legal s (held_unended y goes)) s.there refl refl (tie' u.0 u.1) (omega (arith, chain, un, within)) w l.kept.printers

  -- a file ends

  abbrev MayEnd : (file : ℕ) (whole : Bool) → Job (What d) → Type 0
  MayEnd file whole = JobMay (size d) k.config (FileEnded file whole)

  page_some : IsConfig k.config → 1 ≤ z
  page_some ranges = ranges.page_size_low

  pub end_refused : IsConfig k.config → (CanEnd j → ⊥) → Ends d b h k job k (Err NotOpen)
  end_refused ranges never = (
    (λ m. never (can (here (MayEnd m.0 m.1) m.2))),
    refl,
  )
    where
      can : {file : ℕ} {whole : Bool} → MayEnd file whole x → CanEnd j
      can m =
          let before = m.2.0 in
          let last = m.2.1 in
          let all = all_is_none_left z (length last.pages) last.count (page_some ranges) m.2.5 in
          let left = ap (λ (g : DataFile). g.left) (left_of d b h k l job i f before last m.2.2) in (
            phase_tie (look d) k.config j x t ∙ phase_receiving x m.0,
            ap (λ (g : Facts). g.lent) ft ∙ m.1,
            open_tie (look d) k.config j x t m.0 ∙ (ap is_open_in m.2.2 ∙ Rattle.spool_laws.proofs.PutOff.open_last before last m.2.4),
            omega (arith, left, all),
          )

  -- the number of the last file
  abbrev last : ℕ
  last = length j.facts.files - 1

  -- the open file, which has all its pages
  record Whole : Type 0 where
    receiving' : IsReceiving x
    may : (whole : Bool) → whole ≡ is_received (acted (FileEnded last whole) x) → HasJob v.jobs job (MayEnd last whole)

  whole_of : IsConfig k.config → CanEnd j → Whole
  whole_of ranges c =
      let r = is_receiving d b h k l job i f c.0 in
      let o = open_last d b h k l job i f c.0 c.2 in
      let left = ap (λ (g : DataFile). g.left) (left_of d b h k l job i f o.before o.last o.is) in
      let needed = needed_of_last z o.before o.last x.files o.is (job_pages_needed (size d) k.config b h x (page_some ranges) l.legal has) in
      let all = none_left_is_all z (length o.last.pages) o.last.count (page_some ranges) needed (omega (arith, left, c.3)) in
      record {
        receiving' = r;
        may = λ whole e. has_job v i job (MayEnd last whole) s
            (r, sym (ap (λ (g : Facts). g.lent) ft) ∙ c.1, (o.before, o.last, o.is, sym (last_is d b h k l job i f o.before o.last o.is), o.open', all), e);
      }

  ended_whole : (file : ℕ) (whole : Bool) → is_received (acted (FileEnded file whole) x) ≡ has_prints j.facts
  ended_whole file whole =
      whole_closed x.control (at_last (λ g. record g { ended = true }) x.files) (closed_ended x.files opens)
      ∙ (ap (λ (ns : List (List ℕ)). has_all ns x.control) (names_ended x.files) ∙ sym facts_all)

  pub end_stored : IsConfig k.config → CanEnd j → has_prints j.facts ≡ false → EndsFile d b h k job (record k { book = with_job k.book i (closed_file j) }) Stored (length j.facts.files - 1)
  end_stored ranges c e =
      let w = whole_of ranges c in
      let act = FileEnded last false in
      let not' : is_received (acted act x) ≡ false = ended_whole last false ∙ e in
      let may = w.may false (sym not') in
      let r = w.receiving' in
      let stored = ap (λ (n : ℕ). k.book.stored + n) (sym (file_ended_chain last false x r not')) in (
        may,
        leaves_act d b h k job i k.book.stored act (closed_file j) l s (may, tt) r.0
            (ties_closed (look d) k.config j x last r opens not' t) stored (file_ended_row k.config last false x r not'),
      )

  pub end_received : IsConfig k.config → (n : ℕ) → CanEnd j → has_prints j.facts ≡ true → n ≡ length (unnamed_pages (closed_file j).chain.files (prints_of j))
      → EndsFile d b h k job (received_core k i (received_job (prints_of j) (closed_file j)) n) Received (length j.facts.files - 1)
  end_received ranges n c e en =
      let w = whole_of ranges c in
      let act = FileEnded last true in
      let is : is_received (acted act x) ≡ true = ended_whole last true ∙ e in
      let may = w.may true (sym is) in
      let r = w.receiving' in (
        may,
        received_leaves act (received_job (prints_of j) (closed_file j)) n r (sym (ap (λ (g : Facts). g.lent) ft) ∙ c.1) may (λ g z. by_file last true x r g z is) r.0
            (λ z e. received_by_file (look d) k.config j x last r z e is differ t) (λ e. omega (arith, en, counts_by_file (look d) k.config j x last r e differ t)) tt,
      )

  -- before that it is idle
  pub end_idle : CanEnd j → IsIdle (closed_file j).chain
  end_idle c = (let g = fills (look d) k.config j x (is_receiving d b h k l job i f c.0) t in record { closed = refl; placed = g.places; fresh = g.last })

  -- the control file comes

  module _ (control : Contents) (p : j.facts.phase ≡ Receiving) where
    r : IsReceiving x
    r = is_receiving d b h k l job i f p

    may_control : (whole : Bool) → j.facts.control ≡ None → whole ≡ is_received (acted (Controlled control whole) x) → HasJob v.jobs job (JobMay (size d) k.config (Controlled control whole))
    may_control whole none e = has_job v i job (JobMay (size d) k.config (Controlled control whole)) s (r, sym (ap (λ (g : Facts). g.control) ft) ∙ none, e)

    control_whole : (whole : Bool) → j.chain.is_open ≡ false → is_received (acted (Controlled control whole) x) ≡ has_prints (controlled_facts control j.facts)
    control_whole whole o =
        whole_closed (Some control) x.files (no_open d b h k l job i f p o)
        ∙ ap (λ (ns : List (List ℕ)). has_all ns (Some control)) (sym (ap (λ (g : Facts). file_names g) ft ∙ map-map (λ (g : DataFile). g.name) (size_of z) x.files))

  module _ (control : Contents) (fits : IsControl control) (p : j.facts.phase ≡ Receiving) (none : j.facts.control ≡ None) where
    abbrev Keeps : Type 0
    Keeps = Controls d b h k job control (record k { book = with_job k.book i (told (controlled_facts control) j) }) (Ok Stored)

    control_kept : is_received (acted (Controlled control false) x) ≡ false → Keeps
    control_kept not' =
        let may = may_control control p false none (sym not') in
        let stored = ap (λ (n : ℕ). k.book.stored + n) (sym (controlled_chain control false x (r control p) not')) in (
          may,
          leaves_act d b h k job i k.book.stored (Controlled control false) (told (controlled_facts control) j) l s (may, fits) (r control p).0
              (ties_controlled (look d) k.config j x control (r control p) not' t) stored (controlled_row k.config control false x (r control p) not'),
        )

    pub control_open : j.chain.is_open ≡ true → Keeps
    control_open o = control_kept (open_unreceived (acted (Controlled control false) x) (sym (open_is d b h k l job i f p) ∙ o))

    pub control_stored : j.chain.is_open ≡ false → has_prints (controlled_facts control j.facts) ≡ false → Keeps
    control_stored o e = control_kept (control_whole control p false o ∙ e)

  pub control_received : (control : Contents) (n : ℕ) → IsControl control → j.facts.phase ≡ Receiving → j.facts.control ≡ None → j.chain.is_open ≡ false → has_prints (controlled_facts control j.facts) ≡ true
      → n ≡ length (unnamed_pages j.chain.files control.prints)
      → Controls d b h k job control (received_core k i (received_job control.prints (told (controlled_facts control) j)) n) (Ok Received)
  control_received control n fits p none o e en =
      let act = Controlled control true in
      let is : is_received (acted act x) ≡ true = control_whole control p true o ∙ e in
      let may = may_control control p true none (sym is) in
      let q = r control p in (
        may,
        received_leaves act (received_job control.prints (told (controlled_facts control) j)) n q (closed_unlent (size d) k.config b h x l.legal has (no_open d b h k l job i f p o)) may
            (λ g z. by_control control true x q g z is) q.0
            (λ z e. received_by_control (look d) k.config j x control q z e is differ t) (λ e. omega (arith, en, counts_by_control (look d) k.config j x control q e differ t)) fits,
      )

  -- what goes back to the pool is stored, held by the job's row, and not much
  pub record Counted (n : ℕ) : Type 0 where
    pub stored : n ≤ k.book.stored
    pub held : n ≤ amount (row_at k.table.rows i).held 0
    pub few : n ≤ 65536

  counted : IsConfig k.config → (n : ℕ) → IsReceiving x → x.lent ≡ false → n ≤ file_pages x → Counted n
  counted ranges n r lent le =
      let filed = granted_filed (size d) k.config b h x l.legal has r.0 lent in
      let row = ap (λ (q : Row). amount q.held 0) (row_stands d b h k i l s.there).is in
      let held = held_in_row k.config x in
      record {
        stored = omega (arith, le, one_stored d b h k i l s.there, chained_receiving x r);
        held = omega (arith, le, row, held, held_receiving x r, filed);
        few = omega (arith, le, filed, granted_within (size d) k.config b h x l.legal has, limit_within k.config x.queue ranges);
      }

  pub end_counted : IsConfig k.config → (n : ℕ) → CanEnd j → n ≡ length (unnamed_pages (closed_file j).chain.files (prints_of j)) → Counted n
  end_counted ranges n c en =
      let r = is_receiving d b h k l job i f c.0 in
      counted ranges n r (sym (ap (λ (g : Facts). g.lent) ft) ∙ c.1) (omega (arith, en, counts_by_file (look d) k.config j x 0 r (unhanded r).1 differ t))

  pub control_counted : IsConfig k.config → (control : Contents) (n : ℕ) → j.facts.phase ≡ Receiving → j.chain.is_open ≡ false → n ≡ length (unnamed_pages j.chain.files control.prints) → Counted n
  control_counted ranges control n p o en =
      let r = is_receiving d b h k l job i f p in
      let count = counts_by_control (look d) k.config j x control r (unhanded r).1 differ t in
      counted ranges n r (closed_unlent (size d) k.config b h x l.legal has (no_open d b h k l job i f p o)) (omega (arith, en, count))

  -- a job that is being received with no file open is idle
  pub control_idle : j.facts.phase ≡ Receiving → j.chain.is_open ≡ false → IsIdle j.chain
  control_idle = idle d b h k l job i f
