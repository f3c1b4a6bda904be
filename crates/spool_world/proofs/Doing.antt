-- A turn of a connection, by what its reader needs.
use Rattle.std.proofs.Common.{◌≡◌, ◌⊎◌, inl, inr, ℕ, Bool, true, false, cond, nat_le, length, take, List, [], ◌∷◌, ◌++◌, IsSome, Option, Some, None, drop, refl, sym, subst, ap, ◌∙◌}
use Rattle.std.specs.Prelude.{if◌then◌else◌}
use Rattle.page_pool.specs.Page.{Page}
use Rattle.lpd_values.specs.declared.refusal.Refusal.{Refusal}
use Rattle.lpd_values.specs.declared.refusal.Refusal.TheVariants.{Memory}
use Rattle.receiver.specs.Script.{Filled, Item, Output, Request, Asked, Wrote, Ack, Fault, PageOctets, after_line}
use Rattle.receiver.specs.Reading.{at_line, due_at, Progress, Due, Waits, Ends, Writes, Requests, Kind, answered, answered_owed, due, kind_of}
use Rattle.receiver.specs.Reads.{takes_memory}
use Rattle.receiver.specs.View.{Gives, StepsAt, asked, held, outputs}
use Rattle.receiver.specs.declared.need.Need.{Need}
use Rattle.receiver.specs.declared.need.Need.TheVariants as need
use Rattle.spool_history.specs.Base.{first_base}
use Rattle.spool_calls.specs.Tickets.{HasLent}
use Rattle.spool_calls.specs.Kept.{Kept}
use Rattle.spool_calls.specs.Looks.Detail.{Octets}
use Rattle.spool_calls.specs.Calls.{before}
use Rattle.spool_requests.specs.Kinds.{request_kind}
use Rattle.spool_requests.specs.Follows as requests
use Rattle.spool_trace.specs.declared.reply.Deed.{Deed}
use Rattle.spool_trace.specs.declared.reply.Deed.TheVariants as deed
use Rattle.spool_trace.specs.declared.reply.Reply.TheVariants as reply
use Rattle.spool_trace.specs.declared.step.Step.TheVariants as step
use Rattle.spool_trace.specs.Trace.{Trace, written_by}
use Rattle.spool_trace.specs.Sessions.{Session, due_in, job_after, reply_of, session_at, sessions, turned, turns}
use Rattle.spool_trace.specs.Shown.{events}
use Rattle.spool_trace.specs.Hands.{has_page, page_in}
use Rattle.spool_trace.specs.Reading as reading
use Rattle.spool_trace.specs.Follows.{EndShows, IsAt, StepFollows}
use Rattle.spool_trace.specs.Needs.{Advanced}
use Rattle.spool_trace.proofs.Stages.{Fine, items_at}
use Rattle.spool_trace.proofs.Wanted.{ack_is_due, ask_is_due, end_is_due, more_is_due, refusal_is_due, short_is_due}
use Rattle.spool_trace.proofs.Steps.{ack_follows, ask_follows, end_follows, refusal_follows, short_follows, wait_follows}
use Rattle.request_calls.specs.Pages.{first_page, is_lent}
use Rattle.spool_world.specs.declared.connection.Connection.{Connection}
use Rattle.spool_world.specs.Stands as stands
use Rattle.spool_world.specs.Stands.{GoesOn, Stands, page_of}
use Rattle.spool_world.specs.Turns.{AbortsIt, Answered, Does, IsEnded, IsOf, here}
use Rattle.spool_world.proofs.Ends.{at, ended, fine, good, no_page, none_kept, quiet_held, stood, true_false}
use Rattle.spool_world.proofs.Ties.{SizeOf, before_quiet, filled_size, filling_held, is_filled, none_has, request_tie}

held_some : (page : Page) → Some page ≡ None → ⊥
held_some page e = cc

-- how many octets are read of a page says nothing of the page
pub tail_has : (lent : Bool) (size : ℕ) (kept : Option Page) (items : List Item) (tail other : List ℕ) → HasLent lent size (first_page kept (held items tail)) → HasLent lent size (first_page kept (held items other))
tail_has lent size (Some page) items tail other has = has
tail_has lent size None [] tail other has = has
tail_has lent size None (PageOctets n z ∷ items) tail other has = has
tail_has lent size None (item ∷ items) tail other has = has

pub tail_none : (items : List Item) (tail other : List ℕ) → held items tail ≡ None → held items other ≡ None
tail_none [] tail other e = refl
tail_none (PageOctets n z ∷ items) tail other e = absurd (held_some (record { octets = tail; page_size = z }) e)
tail_none (item ∷ items) tail other e = refl

same_fault : (m n : Refusal) → need.Fault m ≡ need.Fault n → m ≡ n
same_fault m n e = cc

-- a page that was filled is read with no memory
unfilled : (r : Request) → takes_memory r ≡ true → is_filled r ≡ false
unfilled (Filled page) e = sym e
unfilled r e = refl

module _ (old : Kept) (t : Trace) (n : ℕ) (k : Connection) (o : IsOf old t n k) (p : Progress) (e : k.reader ≡ Some p) where
  abbrev s : Session
  s = session_at (sessions t) n

  abbrev size : ℕ
  size = old.config.page_size

  -- what a connection is that goes on after a turn
  pub record Left (l : Connection) (new : Progress) (left : List ℕ) : Type 0 where
    pub sender : l.sender ≡ k.sender
    pub reader : l.reader ≡ Some new
    pub unread : l.unread.items ≡ left

  pub is_at : (d : Due) → due_in s ≡ d → IsAt (sessions t) n d
  is_at d de = record { there = o.there; going = (at old t n k o p e).open'; due = de }

  -- a connection stands where its session does
  pub goes : (l : Connection) (new : Progress) (left : List ℕ) (x : Session) → Left l new left → x.sender ≡ s.sender → l.job ≡ x.job → x.over ≡ false → reading.Stands new left x
      → HasLent (has_page x) size (page_of new l) → (l.kept ≡ None) ⊎ (held new.items new.tail ≡ None) → Stands size l x
  goes l new left x f sender job going st has one = record {
    sender = f.sender ∙ o.stands.sender ∙ sym sender;
    job = job;
    at = subst (stands.IsAt size l x) (sym f.reader) (record { open' = going; reads = subst (λ (u : List ℕ). reading.Stands new u x) (sym f.unread) st; page = has; one = one });
  }

  advanced : (new : Progress) (count : ℕ) (want : Need) → Gives p k.unread.items count want new (due p (p.tail ++ k.unread.items)) → Advanced p new k.unread.items count want s
  advanced new count want g = record { stood = (at old t n k o p e).reads; gives = g }

  -- the session after a turn, where this was due
  abbrev pub after : Due → Deed → Session
  after d done = record (turned d done s) { written = s.written ++ written_by done }

  pub by_due : (d : Due) (done : Deed) (l : Connection) (new : Progress) (left : List ℕ) → due_in s ≡ d → reading.Stands new left (turns done s)
      → (reading.Stands new left (after d done) → Stands size l (after d done)) → Stands size l (turns done s)
  by_due d done l new left de st f =
      subst (λ (x : Due). Stands size l (after x done)) (sym de) (f (subst (λ (x : Due). reading.Stands new left (after x done)) de st))

  -- the items of a reader that stands where a session does
  items_of : (new : Progress) (left : List ℕ) (x : Session) → reading.Stands new left x → new.items ≡ x.progress.items
  items_of new left x st = ap (λ (y : Progress). y.items) st.progress

  items_here : p.items ≡ s.progress.items
  items_here = items_of p k.unread.items s (at old t n k o p e).reads

  still_has : (new : Progress) (l : Connection) → new.items ≡ p.items → l.kept ≡ k.kept → HasLent (has_page s) size (page_of new l)
  still_has new l items kept =
      subst (λ (x : Option Page). HasLent (has_page s) size (first_page x (held new.items new.tail))) (sym kept)
      (subst (λ (x : List Item). HasLent (has_page s) size (first_page k.kept (held x new.tail))) (sym items)
      (tail_has (has_page s) size k.kept p.items p.tail new.tail (at old t n k o p e).page))

  still_one : (new : Progress) (l : Connection) → new.items ≡ p.items → l.kept ≡ k.kept → (l.kept ≡ None) ⊎ (held new.items new.tail ≡ None)
  still_one new l items kept = elim (at old t n k o p e).one [
    | inl x ↦ inl (kept ∙ x)
    | inr x ↦ inr (ap (λ (y : List Item). held y new.tail) items ∙ tail_none p.items p.tail new.tail x)
  ]

  -- more octets have to come: the core and the page in hand are left alone
  pub waits : (new : Progress) (count : ℕ) (l : Connection) (core : Kept) → Gives p k.unread.items count need.More new (due p (p.tail ++ k.unread.items)) → Left l new (drop count k.unread.items) → l.job ≡ k.job → l.kept ≡ k.kept → core ≡ old
      → Does old core t (step.Turn n) (reply.Turned deed.Waited) l (turns deed.Waited s)
  waits new count l core g f job kept same =
      let w = more_is_due p new k.unread.items count need.More s (advanced new count need.More g) refl in
      let left = drop count k.unread.items in
      record {
        follows = wait_follows first_base (events old.config t) old core (sessions t) (stood old t n k o p e core (ap (λ (x : Kept). x.config) same)) n (is_at Waits w.0) same;
        stands = by_due Waits deed.Waited l new left w.0 w.1
            (λ st. let items = items_of new left (after Waits deed.Waited) st ∙ sym items_here in goes l new left (after Waits deed.Waited) f refl (job ∙ o.stands.job) (at old t n k o p e).open' st (still_has new l items kept) (still_one new l items kept));
      }

  -- no page is in hand at a quiet stage
  pub kept_none : ((os : List Output) → page_in (items_at (good old t n k o p e).stage) os ≡ false) → k.kept ≡ None
  kept_none q =
      let none = subst (λ (x : List Item). page_in x s.outputs ≡ false) (sym (good old t n k o p e).items) (q s.outputs) in
      none_kept k.kept (held p.items p.tail) (no_page (has_page s) size (page_of p k) (at old t n k o p e).page none)

  -- what may be due here
  fine_at : (d : Due) → due_in s ≡ d → Fine s.progress.job (good old t n k o p e).stage s.unread d
  fine_at d de = subst (λ (x : Due). Fine s.progress.job (good old t n k o p e).stage s.unread x) de (fine old t n k o p e)

  -- the octet 00 is written
  pub acknowledges : (new : Progress) (count : ℕ) (l : Connection) (core : Kept) → Gives p k.unread.items count need.Ack new (due p (p.tail ++ k.unread.items)) → Left l new (drop count k.unread.items) → l.job ≡ k.job → l.kept ≡ k.kept → core ≡ old
      → Does old core t (step.Turn n) (reply.Turned deed.Acked) l (turns deed.Acked s)
  acknowledges new count l core g f job kept same =
      let w = ack_is_due p new k.unread.items count need.Ack s (advanced new count need.Ack g) refl in
      let left = drop count k.unread.items in
      let d : Due = Writes Ack w.0 w.1 in
      let x = fine_at d w.2 in
      let none = kept ∙ kept_none x.5 in
      record {
        follows = ack_follows first_base (events old.config t) old core (sessions t) (stood old t n k o p e core (ap (λ (y : Kept). y.config) same)) n w.0 w.1 (is_at d w.2) same;
        stands = by_due d deed.Acked l new left w.2 w.3
            (λ st.
            let items : new.items ≡ items_at x.0 = items_of new left (after d deed.Acked) st ∙ x.1 in
            let quiet : page_in w.0 (s.outputs ++ Wrote Ack ∷ []) ≡ false = subst (λ (y : List Item). page_in y (s.outputs ++ Wrote Ack ∷ []) ≡ false) (sym x.1) (x.4 (s.outputs ++ Wrote Ack ∷ [])) in
            let free : held new.items new.tail ≡ None = ap (λ (y : List Item). held y new.tail) items ∙ quiet_held (items_at x.0) new.tail x.4 in
            let page : page_of new l ≡ None = ap (λ (y : Option Page). first_page y (held new.items new.tail)) none ∙ free in
            goes l new left (after d deed.Acked) f refl (job ∙ o.stands.job) (at old t n k o p e).open' st
            (subst (λ (y : Bool). HasLent y size (page_of new l)) (sym quiet) (none_has size (page_of new l) page)) (inl none));
      }

  -- where the connection is over its session is
  over_at : (l : Connection) (x : Session) → l.reader ≡ None → l.sender ≡ k.sender → l.job ≡ k.job → x.sender ≡ s.sender → x.job ≡ s.job → x.over ≡ true → Stands size l x
  over_at l x none sender job xs xj over = record {
    sender = sender ∙ o.stands.sender ∙ sym xs;
    job = job ∙ o.stands.job ∙ sym xj;
    at = subst (stands.IsAt size l x) (sym none) over;
  }

  -- the connection while its reader goes on to the end
  pub record Before (l : Connection) (new : Progress) : Type 0 where
    pub sender : l.sender ≡ k.sender
    pub job : l.job ≡ k.job
    pub reader : l.reader ≡ Some new
    pub kept : l.kept ≡ k.kept

  -- what was due wasn't a page: none is in the reader's hand
  abbrev NotPage : Due → Type 0
  NotPage (Writes w items text) = Unit {0}
  NotPage (Requests r items text) = is_filled r ≡ false
  NotPage Waits = ⊥
  NotPage Ends = Unit {0}

  page_due : (b : Bool) (r : Request) (items : List Item) (text : List ℕ) → is_filled r ≡ true → NotPage (cond b (Requests r items text) Waits) → ⊥
  page_due true r items text f not = true_false (sym f ∙ not)
  page_due false r items text f not = not

  none_due : (items : List Item) (tail u : List ℕ) (next : List ℕ → Due) → NotPage (due_at next items u) → held items tail ≡ None
  none_due [] tail u next not = refl
  none_due (PageOctets m z ∷ items) tail u next not = absurd (page_due (nat_le m (length u)) (Filled (record { octets = take m u; page_size = z })) items (drop m u) refl not)
  none_due (item ∷ items) tail u next not = refl

  free_here : (d : Due) → due_in s ≡ d → NotPage d → held p.items p.tail ≡ None
  free_here d de not =
      subst (λ (x : List Item). held x p.tail ≡ None) (sym items_here)
      (none_due s.progress.items p.tail s.unread (at_line (λ line rest. due_at (λ _. Waits) (after_line s.progress.queue s.progress.job line) rest)) (subst NotPage (sym de) not))

  -- its end shows what it has to
  ends_shown : (l' : Connection) (new : Progress) (core : Kept) (d : Due) → due_in s ≡ d → NotPage d → core.config ≡ old.config → Before l' new → new.job ≡ p.job → held new.items new.tail ≡ None → AbortsIt old core new.job l'.job (page_of new l')
      → EndShows first_base (events old.config t) old core s
  ends_shown l' new core d de not same f job free ends =
      ended old t n k o p e core same new l' job f.job
      (ap (λ (x : Option Page). first_page x (held new.items new.tail)) f.kept ∙ ap (first_page k.kept) (free ∙ sym (free_here d de not))) ends

  -- what is due at the end of a session
  pub record IsLast (d : Due) (done : Deed) : Type 0 where
    pub due' : due_in s ≡ d
    pub not : NotPage d
    pub sender : (after d done).sender ≡ s.sender
    pub job : (after d done).job ≡ s.job
    pub over : (after d done).over ≡ true

  last_stands : (l : Connection) (d : Due) (done : Deed) → IsLast d done → l.reader ≡ None → l.sender ≡ k.sender → l.job ≡ k.job → Stands size l (turns done s)
  last_stands l d done last none sender job =
      subst (λ (x : Due). Stands size l (after x done)) (sym last.due') (over_at l (after d done) none sender job last.sender last.job last.over)

  -- a refusal is written, or memory was refused to the reader: the session is over
  pub refuses : (new : Progress) (count : ℕ) (refusal : Refusal) (l' m' l : Connection) (core : Kept) → StepsAt p k.unread.items count (need.Fault refusal) new (due p (p.tail ++ k.unread.items))
      → Before l' new → IsEnded l' m' → l ≡ m' → core.config ≡ old.config → new.job ≡ p.job → held new.items new.tail ≡ None → AbortsIt old core new.job l'.job (page_of new l')
      → Does old core t (step.Turn n) (reply.Turned (deed.Refused refusal)) l (turns (deed.Refused refusal) s)
  refuses new count refusal l' m' l core st f over is same hand free ends = elim st [
    | inl g ↦
        let w = refusal_is_due p new k.unread.items count (need.Fault refusal) s (advanced new count (need.Fault refusal) g) refusal refl in
        let d : Due = Writes (Fault refusal) w.0 w.1 in
        let last : IsLast d (deed.Refused refusal) = record { due' = w.2; not = tt; sender = refl; job = refl; over = refl } in
        record {
          follows = refusal_follows first_base (events old.config t) old core (sessions t) (stood old t n k o p e core same) n refusal w.0 w.1 (is_at d w.2) (ends_shown l' new core d w.2 tt same f hand free ends);
          stands = last_stands l d (deed.Refused refusal) last (ap (λ (x : Connection). x.reader) is ∙ over.reader) (ap (λ (x : Connection). x.sender) is ∙ over.sender ∙ f.sender) (ap (λ (x : Connection). x.job) is ∙ over.job ∙ f.job);
        }
    | inr r ↦
        let w = short_is_due p new k.unread.items count (need.Fault refusal) s (at old t n k o p e).reads r in
        let d : Due = Requests w.0 w.1 w.2 in
        let m : refusal ≡ Memory = same_fault refusal Memory r.memory in
        let not = unfilled w.0 w.4 in
        let last : IsLast d (deed.Refused refusal) = record { due' = w.3; not = not; sender = refl; job = refl; over = refl } in
        record {
          follows = subst (λ (x : Refusal). StepFollows first_base (events old.config t) old core (sessions t) (step.Turn n) (reply.Turned (deed.Refused x))) (sym m)
              (short_follows first_base (events old.config t) old core (sessions t) (stood old t n k o p e core same) n w.0 w.1 w.2 (is_at d w.3) w.4 (ends_shown l' new core d w.3 not same f hand free ends));
          stands = last_stands l d (deed.Refused refusal) last (ap (λ (x : Connection). x.reader) is ∙ over.reader) (ap (λ (x : Connection). x.sender) is ∙ over.sender ∙ f.sender) (ap (λ (x : Connection). x.job) is ∙ over.job ∙ f.job);
        }
  ]

  -- the session had read all
  pub ends_all : (new : Progress) (count : ℕ) (l' m' l : Connection) (core : Kept) → Gives p k.unread.items count need.Ended new (due p (p.tail ++ k.unread.items))
      → Before l' new → IsEnded l' m' → l ≡ m' → core.config ≡ old.config → new.job ≡ p.job → held new.items new.tail ≡ None → AbortsIt old core new.job l'.job (page_of new l')
      → Does old core t (step.Turn n) (reply.Turned deed.Ended) l (turns deed.Ended s)
  ends_all new count l' m' l core g f over is same hand free ends =
      let w = end_is_due p new k.unread.items count need.Ended s (advanced new count need.Ended g) refl in
      let last : IsLast Ends deed.Ended = record { due' = w; not = tt; sender = refl; job = refl; over = refl } in
      record {
        follows = end_follows first_base (events old.config t) old core (sessions t) (stood old t n k o p e core same) n (is_at Ends w) (ends_shown l' new core Ends w tt same f hand free ends);
        stands = last_stands l Ends deed.Ended last (ap (λ (x : Connection). x.reader) is ∙ over.reader) (ap (λ (x : Connection). x.sender) is ∙ over.sender ∙ f.sender) (ap (λ (x : Connection). x.job) is ∙ over.job ∙ f.job);
      }

  filling : (r : Request) (items : List Item) (text : List ℕ) → is_filled r ≡ true → Fine s.progress.job (good old t n k o p e).stage s.unread (Requests r items text) → (os : List Output) → page_in p.items os ≡ true
  filling (Filled page) items text is f os = subst (λ (x : List Item). page_in x os ≡ true) (sym (items_here ∙ (good old t n k o p e).items)) (f.5 os)
  filling r items text is f os = absurd (true_false (sym is))

  -- a page that was kept before is not there where a request is due
  kept_before : (r : Request) (items : List Item) (text : List ℕ) (filled : Bool) → is_filled r ≡ filled → due_in s ≡ Requests r items text → k.kept ≡ None
  kept_before r items text false not de = kept_none (before_quiet s.progress.job (good old t n k o p e).stage s.unread r items text (fine_at (Requests r items text) de) not)
  kept_before r items text true is de = elim (at old t n k o p e).one [
    | inl x ↦ x
    | inr x ↦ absurd (filling_held p.items p.tail (filling r items text is (fine_at (Requests r items text) de)) x)
  ]

  size_of : (r : Request) (items : List Item) (text : List ℕ) → due_in s ≡ Requests r items text → SizeOf size r
  size_of (Filled page) items text de =
      let none = kept_before (Filled page) items text true refl de in
      let f = filling (Filled page) items text refl (fine_at (Requests (Filled page) items text) de) in
      let has = subst (λ (x : Option Page). HasLent (has_page s) size (first_page x (held p.items p.tail))) none (at old t n k o p e).page in
      filled_size size (has_page s) p.items p.tail s.unread (at_line (λ line rest. due_at (λ _. Waits) (after_line s.progress.queue s.progress.job line) rest)) page items text
      (ap (λ (x : List Item). due_at (at_line (λ line rest. due_at (λ _. Waits) (after_line s.progress.queue s.progress.job line) rest)) x s.unread) items_here ∙ de)
      (filling_held p.items p.tail f) has
  size_of r items text de = tt

  first_none : (page : Option Page) → first_page page None ≡ page
  first_none None = refl
  first_none (Some page) = refl

  -- a request was carried out and answered
  pub asks_right : (new : Progress) (count : ℕ) (want : Need) (r : Request) (l : Connection) (core : Kept) (done : Deed) (reader : Progress) (last : ℕ) (keeps : Option Page) → Gives p k.unread.items count want new (due p (p.tail ++ k.unread.items))
      → outputs want ≡ Asked r ∷ [] → new.owed ≡ Some (kind_of r) → Answered k.sender r done (here old new k.job k.kept) (here core reader last keeps) → core.config ≡ old.config → Left l reader (drop count k.unread.items) → l.job ≡ last → l.kept ≡ keeps
      → Does old core t (step.Turn n) (reply.Turned done) l (turns done s)
  asks_right new count want r l core done reader last keeps g outs owed a same f job kept =
      let w = ask_is_due p new k.unread.items count want s (advanced new count want g) r outs in
      let left = drop count k.unread.items in
      let h = events old.config t in
      let d : Due = Requests r w.0 w.1 in
      let x = fine_at d w.2 in
      let x' = a.answer in
      let c = a.carries.follows o.ranges Octets first_base h o.left in
      let follows : requests.Follows Octets first_base h old core (requests.from_session s.sender s.job r) x' =
      subst (λ (i : ℕ). requests.Follows Octets first_base h old core (requests.from_session i s.job r) x') o.stands.sender (subst (λ (i : ℕ). requests.Follows Octets first_base h old core (requests.from_session k.sender i r) x') o.stands.job c) in
      let asked' : Deed = deed.Asked (request_kind r) x' in
      let reader' : reader ≡ answered (kind_of r) (reply_of x') new = a.reader' ∙ ap (λ (i : Option Kind). answered_owed i (reply_of x') new) owed in
      let st' : reading.Stands reader left (turns asked' s) = subst (λ (i : Progress). reading.Stands i left (turns asked' s)) (sym reader') (w.3 x') in
      let none = kept_before r w.0 w.1 (is_filled r) refl w.2 in
      let tie = request_tie size k.job s.outputs (before Octets first_base h old) s.job s.progress s.progress.job (good old t n k o p e).stage s.unread r x' w.0 w.1 reader.tail a.page x follows.is.due refl (size_of r w.0 w.1 w.2) a.blank' in
      let keeps' : l.kept ≡ (if is_lent x' then None else a.page) = kept ∙ a.keeps' ∙ ap (first_page (if is_lent x' then None else a.page)) none ∙ first_none (if is_lent x' then None else a.page) in
      subst (λ (y : Deed). Does old core t (step.Turn n) (reply.Turned y) l (turns y s)) (sym a.is) (record {
        follows = ask_follows first_base h old core (sessions t) (stood old t n k o p e core same) n r w.0 w.1 x' (is_at d w.2) follows;
        stands = by_due d asked' l reader left w.2 st'
            (λ st.
            let items = items_of reader left (after d asked') st in
            goes l reader left (after d asked') f refl (job ∙ a.last' ∙ ap (λ (i : ℕ). job_after i x') o.stands.job) (at old t n k o p e).open' st
            (subst (λ (i : Option Page). HasLent (has_page (after d asked')) size (first_page i (held reader.items reader.tail))) (sym keeps')
            (subst (λ (i : List Item). HasLent (has_page (after d asked')) size (first_page (if is_lent x' then None else a.page) (held i reader.tail))) (sym items) tie.has))
            (elim tie.one [
              | inl y ↦ inl (keeps' ∙ y)
              | inr y ↦ inr (ap (λ (i : List Item). held i reader.tail) items ∙ y)
            ]));
      })

-- what a call of the reader gave, where memory was not refused
pub given : (p new : Progress) (input : List ℕ) (count : ℕ) (want : Need) (d : Due) → (want ≡ need.Fault Memory → ⊥) → StepsAt p input count want new d → Gives p input count want new d
given p new input count want d not st = elim st [ inl g ↦ g | inr r ↦ absurd (not r.memory) ]

given_job : (p new : Progress) (input : List ℕ) (count : ℕ) (want : Need) (d : Due) → Gives p input count want new d → new.job ≡ p.job
given_job p new input count want Waits g = ap (λ (x : Progress). x.job) g.2
given_job p new input count want Ends g = ap (λ (x : Progress). x.job) g.2
given_job p new input count want (Writes w items rest) g = ap (λ (x : Progress). x.job) g.3
given_job p new input count want (Requests r items rest) g = ap (λ (x : Progress). x.job) g.3

-- the job in hand is the same after it
pub job_same : (p new : Progress) (input : List ℕ) (count : ℕ) (want : Need) (d : Due) → StepsAt p input count want new d → new.job ≡ p.job
job_same p new input count want d st = elim st [ inl g ↦ given_job p new input count want d g | inr r ↦ ap (λ (x : Progress). x.job) r.over ]

-- a need that is none of these asks
pub asking : (want : Need) → (want ≡ need.More → ⊥) → (want ≡ need.Ack → ⊥) → ((m : Refusal) → want ≡ need.Fault m → ⊥) → (want ≡ need.Ended → ⊥) → IsSome (asked want)
asking need.More a b f d = absurd (a refl)
asking need.Ack a b f d = absurd (b refl)
asking (need.Fault m) a b f d = absurd (f m refl)
asking need.Ended a b f d = absurd (d refl)
asking (need.Queue queue) a b f d = refl
asking (need.Open queue) a b f d = refl
asking (need.BeginFile name count) a b f d = refl
asking need.Page a b f d = refl
asking (need.Filled page) a b f d = refl
asking need.EndFile a b f d = refl
asking (need.Control control) a b f d = refl
asking need.Abort a b f d = refl
asking (need.Start queue) a b f d = refl
asking (need.State queue list long) a b f d = refl
asking (need.Remove queue agent list) a b f d = refl

pub more_not : need.More ≡ need.Fault Memory → ⊥
more_not e = cc

pub ack_not : need.Ack ≡ need.Fault Memory → ⊥
ack_not e = cc

pub ended_not : need.Ended ≡ need.Fault Memory → ⊥
ended_not e = cc
