-- A data file of a job begins, and a page of it is put.
use Rattle.std.proofs.Common.{◌≡◌, ◌≢◌, ℕ, ◌+◌, ◌-◌, ◌*◌, ◌<◌, ◌≤◌, ◌^◌, Bool, true, false, List, [], ◌∷◌, ◌++◌, length, map, refl, sym, ◌∙◌, ap, subst, arith}
use Rattle.std.specs.Prelude.{All, Ok, Err, min, sum_by, cond}
use Rattle.std.proofs.lemmas.List.{length_push, length-map}
use Rattle.std.proofs.lemmas.List.Sums.{sum_by_push}
use Rattle.page_pool.specs.Page.{Page}
use Rattle.page_chain.specs.Files.{names_of}
use Rattle.page_chain.specs.Changes.{CanBegin, RefusedFor}
use Rattle.page_chain.specs.declared.error.ChainError.TheVariants as chain
use Rattle.lpd_values.specs.Kept.{is_among}
use Rattle.lpd_values.specs.declared.refusal.Refusal.TheVariants.{NotOpen, FileOpen, NameTaken, FilesFull, OverClaim}
use Rattle.held_jobs.specs.declared.file.DataFile.{DataFile}
use Rattle.held_jobs.specs.declared.phase.Phase.TheVariants.{Receiving}
use Rattle.held_jobs.specs.Jobs.{HeldJob, Facts, last_size}
use Rattle.held_jobs.specs.Moves.{Awaits, begun_job, put_job}
use Rattle.held_jobs.specs.Books.{IsIdle, with_job}
use Rattle.config_values.specs.Config.{limit_of}
use Rattle.config_values.specs.Ranges.{IsConfig}
use Rattle.spool_history.specs.Base.{Base}
use Rattle.spool_history.specs.Events.{Event}
use Rattle.spool_history.specs.Events.Act.{Began, Put}
use Rattle.spool_history.specs.Acts.{File, is_open_in, names_in}
use Rattle.spool_history.specs.Now.{Job}
use Rattle.spool_history.specs.Legal.{HasJob, HasOpen, IsNextPage, IsReceiving, HasNoOpen, HasNoFile, HasFileRoom, IsWithinLimit, JobMay, pages_for}
use Rattle.spool_laws.proofs.PutOff.{open_last as open_last'}
use Rattle.step_lemmas.proofs.HeldJobs.Standing.{has_here, has_job}
use Rattle.step_lemmas.proofs.HeldJobs.Opens.{LastOf, job_opens, last_of}
use Rattle.step_lemmas.proofs.HeldJobs.Holding.{file_pages, granted_counts, granted_within}
use Rattle.step_lemmas.proofs.OneJob.Ties.{fills}
use Rattle.step_lemmas.proofs.OneJob.Shelving.{whole_names}
use Rattle.step_lemmas.proofs.OneJob.Receiving.{ties_begun, ties_put}
use Rattle.step_lemmas.proofs.Rows.Receiving.{began_chain, began_row, put_chain, put_row}
use Rattle.step_lemmas.proofs.HeldJobs.Receiving.{put_receiving}
use Rattle.spool_calls.specs.declared.answers.ReturnedPage.{ReturnedPage}
use Rattle.spool_calls.specs.Looks.{Detail, What, see, size}
use Rattle.spool_calls.specs.Looks.Detail.{Octets, Outlines}
use Rattle.spool_calls.specs.Kept.{Kept, Leaves, look, size_of}
use Rattle.spool_calls.specs.Calls.{Begins, Puts, PutsAs}
use Rattle.step_lemmas.proofs.Cores.Leaving.{Found, leaves_act, none_has, sees, look_at}
use Rattle.step_lemmas.proofs.Cores.Ranges.{limit_within, stored_room}
use Rattle.step_lemmas.proofs.Cores.Phases.{phase_tie, phase_receiving, open_tie, receiving}

pub begin_none : (d : Detail) (b : Base) (h : List (Event (What d))) (k : Kept) (job : ℕ) (name : List ℕ) (count : ℕ) → Leaves d b h k → All (λ (j : HeldJob). j.facts.number ≢ job) k.book.jobs → Begins d b h k job name count k (Err NotOpen)
begin_none d b h k job name count l none = ((λ m. none_has d b h k job IsReceiving l none m), refl)

pub put_none : (d : Detail) (b : Base) (h : List (Event (What d))) (k : Kept) (job : ℕ) (page : Page) (back : ReturnedPage) → Leaves d b h k → All (λ (j : HeldJob). j.facts.number ≢ job) k.book.jobs → back.page ≡ page → Puts d b h k job page k (Err back)
put_none d b h k job page back l none e = ((λ m. none_has d b h k job (JobMay (size d) k.config (Put m.0 m.1 (see d page.octets))) l none m.2.0), refl, e)

last_mapped : {C : Type 0} (z : ℕ) (fs : List (File C)) (y : File C) → last_size (map {A = File C} {B = DataFile} (size_of z) (fs ++ y ∷ [])) ≡ size_of z y
last_mapped z [] y = refl
last_mapped z (g ∷ []) y = refl
last_mapped z (g ∷ e ∷ fs) y = last_mapped z (e ∷ fs) y

-- the job takes a page of so many octets as the next one of its open file
abbrev Takes : {C : Type 0} → ℕ → ℕ → (file number : ℕ) → Job C → Type 0
Takes z len file number y = IsReceiving y × (y.lent ≡ true) × HasOpen y.files file (IsNextPage z number len)

size_see : (e : Detail) (octets : List ℕ) → size e (see e octets) ≡ length octets
size_see Octets octets = refl
size_see Outlines octets = refl

module _ (d : Detail) (b : Base) (h : List (Event (What d))) (k : Kept) (l : Leaves d b h k) (job i : ℕ) (f : Found k job i) where
  open look_at d b h k i use {v, x, j}

  abbrev z : ℕ
  z = k.config.page_size

  open sees d b h k job i l f use {stands as s, ties as t, has, facts as ft}

  here : (P : Job (What d) → Type 0) → HasJob v.jobs job P → P x
  here P m = has_here (size d) k.config b h i job P l.legal s m

  pub is_receiving : j.facts.phase ≡ Receiving → IsReceiving x
  is_receiving p = receiving x (sym (phase_tie (look d) k.config j x t) ∙ p)

  pub not_receiving : (j.facts.phase ≡ Receiving → ⊥) → IsReceiving x → ⊥
  not_receiving never r = never (phase_tie (look d) k.config j x t ∙ phase_receiving x r)

  -- a file is open in the history where one is in the book
  pub open_is : j.facts.phase ≡ Receiving → j.chain.is_open ≡ is_open_in x.files
  open_is p = open_tie (look d) k.config j x t (is_receiving p)

  pub no_open : j.facts.phase ≡ Receiving → j.chain.is_open ≡ false → HasNoOpen x
  no_open p o = sym (open_is p) ∙ o

  -- the open file
  pub open_last : j.facts.phase ≡ Receiving → j.chain.is_open ≡ true → LastOf x.files
  open_last p o = last_of x.files (job_opens (size d) k.config b h x l.legal has) (sym (open_is p) ∙ o)

  -- what is known of the last file in the book
  pub left_of : (before : List (File (What d))) (last : File (What d)) → x.files ≡ before ++ last ∷ [] → last_size j.facts.files ≡ size_of z last
  left_of before last is = ap (λ (g : Facts). last_size g.files) ft ∙ (ap (λ (fs : List (File (What d))). last_size (map {A = File (What d)} {B = DataFile} (size_of z) fs)) is ∙ last_mapped z before last)

  -- there are as many files in the book as in the history
  pub files_many : length j.facts.files ≡ length x.files
  files_many = ap (λ (y : Facts). length y.files) ft ∙ length-map {A = File (What d)} {B = DataFile} x.files (size_of z)

  -- so the last one has the same number in both
  pub last_is : (before : List (File (What d))) (last : File (What d)) → x.files ≡ before ++ last ∷ [] → length j.facts.files - 1 ≡ length before
  last_is before last is = (let m = files_many in let n = ap length is ∙ length_push before last in omega (arith, m, n))

  -- a job that is being received with no file open is idle
  pub idle : j.facts.phase ≡ Receiving → j.chain.is_open ≡ false → IsIdle j.chain
  idle p o = (let g = fills (look d) k.config j x (is_receiving p) t in record { closed = o; placed = g.places; fresh = g.last })

  -- its files have the same names in the book and in the history
  names : j.facts.phase ≡ Receiving → names_of j.chain.files ≡ names_in x.files
  names p = whole_names (look d) j.chain.files x.files (fills (look d) k.config j x (is_receiving p) t).files

  among : (name : List ℕ) (r : Bool) → j.facts.phase ≡ Receiving → is_among name (names_of j.chain.files) ≡ r → is_among name (names_in x.files) ≡ r
  among name r p e = ap (is_among name) (sym (names p)) ∙ e

  pub begin_not_open : (name : List ℕ) (count : ℕ) → (j.facts.phase ≡ Receiving → ⊥) → Begins d b h k job name count k (Err NotOpen)
  begin_not_open name count never = ((λ m. not_receiving never (here IsReceiving m)), refl)

  many : j.facts.phase ≡ Receiving → length (names_of j.chain.files) ≡ length x.files
  many p = ap length (names p) ∙ length-map x.files (λ (g : File (What d)). g.name)

  room : (name : List ℕ) → j.facts.phase ≡ Receiving → CanBegin (names_of j.chain.files) 52 name → HasNoFile name x × HasFileRoom x
  room name p can = (among name false p can.0, let n = many p in let e = can.1 in omega (arith, n, e))

  -- so the facts have room for a file
  pub files_room : (name : List ℕ) → j.facts.phase ≡ Receiving → CanBegin (names_of j.chain.files) 52 name → length j.facts.files < 52
  files_room name p can = (let n = files_many in let r = (room name p can).1 in omega (arith, n, r))

  module _ (name : List ℕ) (count : ℕ) (p : j.facts.phase ≡ Receiving) where
    pub begin_open : j.chain.is_open ≡ true → Begins d b h k job name count k (Err FileOpen)
    begin_open o = (has_job v i job (λ y. IsReceiving y × (is_open_in y.files ≡ true)) s (is_receiving p, sym (open_is p) ∙ o), refl)

    module _ (o : j.chain.is_open ≡ false) where
      pub begin_taken : RefusedFor (names_of j.chain.files) 52 name chain.NameTaken → Begins d b h k job name count k (Err NameTaken)
      begin_taken taken = (has_job v i job (λ y. IsReceiving y × HasNoOpen y × (is_among name (names_in y.files) ≡ true)) s (is_receiving p, no_open p o, among name true p taken), refl)

      pub begin_full : RefusedFor (names_of j.chain.files) 52 name chain.FilesFull → Begins d b h k job name count k (Err FilesFull)
      begin_full full =
          let n = many p in
          let e = full.1 in (
            has_job v i job (λ y. IsReceiving y × HasNoOpen y × HasNoFile name y × (HasFileRoom y → ⊥)) s (is_receiving p, no_open p o, among name false p full.0, λ lt. omega (arith, n, e, lt)),
            refl,
          )

      pub begin_over : CanBegin (names_of j.chain.files) 52 name → limit_of k.config j.facts.queue < j.facts.granted + pages_for k.config.page_size count
          → Begins d b h k job name count k (Err OverClaim)
      begin_over can over =
          let r = room name p can in
          let over' : limit_of k.config x.queue < x.granted + pages_for z count = subst (λ (y : Facts). limit_of k.config y.queue < y.granted + pages_for z count) ft over in (
            has_job v i job (λ y. IsReceiving y × HasNoOpen y × HasNoFile name y × HasFileRoom y × (IsWithinLimit k.config count y → ⊥)) s
                (is_receiving p, no_open p o, r.0, r.1, λ le. omega (arith, over', le)),
            refl,
          )

  pub begin_done : (name : List ℕ) (count : ℕ) → 0 < count → j.facts.phase ≡ Receiving → j.chain.is_open ≡ false → CanBegin (names_of j.chain.files) 52 name → j.facts.granted + pages_for k.config.page_size count ≤ limit_of k.config j.facts.queue
      → Begins d b h k job name count (record k { book = with_job k.book i (begun_job name count j) }) (Ok tt)
  begin_done name count some p o can within =
      let r = is_receiving p in
      let q = room name p can in
      let within' : IsWithinLimit k.config count x = subst (λ (y : Facts). y.granted + pages_for z count ≤ limit_of k.config y.queue) ft within in
      let may = has_job v i job (JobMay (size d) k.config (Began name count)) s (r, no_open p o, q.0, q.1, within') in (
        may,
        leaves_act d b h k job i k.book.stored (Began name count) (begun_job name count j) l s (may, some) r.0
            (ties_begun (look d) k.config j x name count r t) (ap (λ (n : ℕ). k.book.stored + n) (sym (began_chain name count x r))) (began_row k.config name count x r),
      )

  module _ (page : Page) where
    abbrev len : ℕ
    len = length page.octets

    awaits_if : (file number : ℕ) → Takes z len file number x → Awaits j len z
    awaits_if file number m =
        let n = m.2.5 in
        let left : (last_size j.facts.files).left ≡ m.2.1.count - number * z = ap (λ (g : DataFile). g.left) (left_of m.2.0 m.2.1 m.2.2) ∙ ap (λ (q : ℕ). m.2.1.count - q * z) n.0 in (
          phase_tie (look d) k.config j x t ∙ phase_receiving x m.0,
          ap (λ (g : Facts). g.lent) ft ∙ m.1,
          open_tie (look d) k.config j x t m.0 ∙ (ap is_open_in m.2.2 ∙ open_last' m.2.0 m.2.1 m.2.4),
          omega (arith, left, n.1),
          n.2 ∙ ap (min z) (sym left),
        )

    pub put_refused : (back : ReturnedPage) → (Awaits j len z → ⊥) → back.page ≡ page → Puts d b h k job page k (Err back)
    put_refused back never e = (
      (λ m. never (awaits_if m.0 m.1 (subst (λ (n : ℕ). Takes z n m.0 m.1 x) (size_see d page.octets) (here (JobMay (size d) k.config (Put m.0 m.1 (see d page.octets))) m.2.0)))),
      refl,
      e,
    )

    module _ (a : Awaits j len z) where
      o : LastOf x.files
      o = open_last a.0 a.2

      r : IsReceiving x
      r = is_receiving a.0

      lent : x.lent ≡ true
      lent = sym (ap (λ (g : Facts). g.lent) ft) ∙ a.1

      last : last_size j.facts.files ≡ size_of z o.last
      last = left_of o.before o.last o.is

      takes : Takes z len (length o.before) (length o.last.pages) x
      takes =
          let left = ap (λ (g : DataFile). g.left) last in
          (r, lent, (o.before, o.last, o.is, refl, o.open', (refl, omega (arith, left, a.3), a.4 ∙ ap (min z) left)))

      -- it is put as the next page of the last file
      pub put_done : page.page_size ≡ z → PutsAs d b h k job page (record k { book = record (with_job k.book i (put_job page j)) { stored = k.book.stored + 1 } }) (length j.facts.files - 1) (last_size j.facts.files).pages
      put_done same =
          let file = length o.before in
          let number = length o.last.pages in
          let q = takes.2 in
          let act = Put file number (see d page.octets) in
          let may = has_job v i job (JobMay (size d) k.config act) s (subst (λ (n : ℕ). Takes z n file number x) (sym (size_see d page.octets)) takes) in
          let more = put_chain file number (see d page.octets) (IsNextPage z number len) x r q in
          let new = record k { book = record (with_job k.book i (put_job page j)) { stored = k.book.stored + 1 } } in
          subst (λ (n : ℕ). PutsAs d b h k job page new n (last_size j.facts.files).pages) (sym (last_is o.before o.last o.is)) (subst (PutsAs d b h k job page new file) (sym (ap (λ (g : DataFile). g.pages) last)) (
            (may, same),
            leaves_act d b h k job i (k.book.stored + 1) act (put_job page j) l s (may, tt) (put_receiving file number (see d page.octets) (IsNextPage z number len) x r q).0
                (ties_put (look d) k.config j x file number len page (see d page.octets) r q refl refl t) (omega (arith, more))
                (put_row k.config file number (see d page.octets) (IsNextPage z number len) x r q),
          ))

    -- what the book asks of a page that a job awaits
    pub record CanPut : Type 0 where
      pub opened : j.chain.is_open ≡ true
      pub some : 0 < length j.facts.files
      pub fits : length page.octets ≤ (last_size j.facts.files).left
      pub few : (last_size j.facts.files).pages + 1 < 2 ^ 64
      pub room : k.book.stored < k.book.pages

    pub can_put : IsConfig k.config → Awaits j len z → CanPut
    can_put ranges a =
        let g = o a in
        let pages : File (What d) → ℕ = λ g. length g.pages in
        let q : file_pages x ≡ sum_by pages g.before + length g.last.pages = ap (sum_by pages) g.is ∙ sum_by_push pages g.before g.last in
        let count : Bool → ℕ = (λ b. cond b 1 0) in
        let one : count x.lent ≡ 1 = ap count (lent a) in
        let m = granted_within (size d) k.config b h x l.legal has in
        let within = limit_within k.config x.queue ranges in
        let some = ap length g.is ∙ length_push g.before g.last in
        record {
          opened = a.2;
          some = omega (arith, files_many, some);
          fits = omega (arith, a.4);
          few = omega (arith, ap (λ (g : DataFile). g.pages) (last a), q, granted_counts (size d) k.config b h x l.legal has (r a).0, one, m, within);
          room = stored_room d b h k l i f.there (lent a);
        }
