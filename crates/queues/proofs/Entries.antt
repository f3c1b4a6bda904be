-- The entries of a book after a call on one of them.
use Rattle.std.proofs.Common.{◌≡◌, ℕ, zero, suc, ◌+◌, ◌<◌, inl, inr, Some, None, List, [], ◌∷◌, length, set, get_or, slice_get, refl, sym, ◌∙◌, ap, subst, arith}
use Rattle.std.proofs.lemmas.Bool.{cases_eq}
use Rattle.std.proofs.lemmas.List.{length-map, get_or-map}
use Rattle.std.proofs.lemmas.Option.{get_or_from_slice_get}
use Rattle.page_pool.specs.Page.{Page}
use Rattle.std.specs.Map.{values_of}
use Rattle.indexmap.specs.IndexMap.{set_value_at}
use Rattle.slab.specs.Slab.{Slab, get}
use Rattle.page_nodes.specs.Chains.{Chains, AreOfSize, total}
use Rattle.page_chain.specs.Files.{File, Files, every_page}
use Rattle.page_chain.specs.Held.{Kept, HasRow, IsFreeRow, IsHeld, Leads, OnlyRow, Turns, file_shown, files_from, turned_in, pages_in, shown}
use Rattle.page_chain.specs.declared.run.Run.{Run}
use Rattle.held_jobs.specs.Jobs.{Facts, HeldJob, no_job}
use Rattle.held_jobs.specs.Moves.{told}
use Rattle.held_jobs.specs.Books.{Books, job_at, with_job}
use Rattle.queues.specs.declared.entry.Entry.{Entry}
use Rattle.queues.specs.Inside.{seen, seen_jobs, book_of, no_entry, entry_at, IsEntry, IsBook}

-- the entries with another value at one place

at_same : (es : List (ℕ × Entry)) (i : ℕ) (w : Entry) → i < length es → entry_at (set_value_at es i w) i ≡ ((entry_at es i).0, w)
at_same [] i w lt = absurd (omega arith)
at_same (e ∷ es) zero w lt = refl
at_same (e ∷ es) (suc i) w lt = at_same es i w (omega arith)

at_other : (es : List (ℕ × Entry)) (i k : ℕ) (w : Entry) → (k ≡ i → ⊥) → entry_at (set_value_at es i w) k ≡ entry_at es k
at_other [] i k w ne = refl
at_other (e ∷ es) zero zero w ne = absurd (ne refl)
at_other (e ∷ es) zero (suc k) w ne = refl
at_other (e ∷ es) (suc i) zero w ne = refl
at_other (e ∷ es) (suc i) (suc k) w ne = at_other es i k w (λ same. ne (ap suc same))

key_stays : (es : List (ℕ × Entry)) (i k : ℕ) (w : Entry) → (entry_at (set_value_at es i w) k).0 ≡ (entry_at es k).0
key_stays [] i k w = refl
key_stays (e ∷ es) zero zero w = refl
key_stays (e ∷ es) zero (suc k) w = refl
key_stays (e ∷ es) (suc i) zero w = refl
key_stays (e ∷ es) (suc i) (suc k) w = key_stays es i k w

count_stays : (es : List (ℕ × Entry)) (i : ℕ) (w : Entry) → length (set_value_at es i w) ≡ length es
count_stays [] i w = refl
count_stays (e ∷ es) zero w = refl
count_stays (e ∷ es) (suc i) w = ap suc (count_stays es i w)

-- what is seen of the entries

pub length-seen : (nodes : Chains) (es : List (ℕ × Entry)) → length (seen_jobs nodes es) ≡ length es
length-seen nodes es = length-map es (λ (e : ℕ × Entry). seen nodes e.1)

pub job_seen : (nodes : Chains) (es : List (ℕ × Entry)) (i : ℕ) → i < length es → get_or (seen_jobs nodes es) i no_job ≡ seen nodes (entry_at es i).1
job_seen nodes [] i lt = absurd (omega arith)
job_seen nodes (e ∷ es) zero lt = refl
job_seen nodes (e ∷ es) (suc i) lt = job_seen nodes es i (omega arith)

pub seen_same : (old new : Chains) (es : List (ℕ × Entry)) → ((k : ℕ) → k < length es → seen new (entry_at es k).1 ≡ seen old (entry_at es k).1) → seen_jobs new es ≡ seen_jobs old es
seen_same old new [] h = refl
seen_same old new (e ∷ es) h =
    ap (λ (j : HeldJob). j ∷ seen_jobs new es) (h 0 (omega arith))
    ∙ ap (λ (js : List HeldJob). seen old e.1 ∷ js) (seen_same old new es (λ k lt. h (suc k) (omega arith)))

pub seen_set : (old new : Chains) (es : List (ℕ × Entry)) (i : ℕ) (w : Entry) → i < length es → ((k : ℕ) → k < length es → (k ≡ i → ⊥) → seen new (entry_at es k).1 ≡ seen old (entry_at es k).1)
    → seen_jobs new (set_value_at es i w) ≡ set (seen_jobs old es) i (seen new w)
seen_set old new [] i w lt h = absurd (omega arith)
seen_set old new (e ∷ es) zero w lt h =
    ap (λ (js : List HeldJob). seen new w ∷ js) (seen_same old new es (λ k l. h (suc k) (omega arith) (λ x. omega arith)))
seen_set old new (e ∷ es) (suc i) w lt h =
    ap (λ (j : HeldJob). j ∷ seen_jobs new (set_value_at es i w)) (h 0 (omega arith) (λ x. omega arith))
    ∙ ap (λ (js : List HeldJob). seen old e.1 ∷ js) (seen_set old new es i w (omega arith) (λ k l ne. h (suc k) (omega arith) (λ x. ne (omega arith))))

-- a call on one row leaves the chains of all others as they were

files_same : (old new : Chains) (row : ℕ) (prints : List ℕ) (turned k : ℕ) (files : List Run)
    → ((i : ℕ) → i < k + length files → pages_in new row i ≡ pages_in old row i) → files_from new row prints turned k files ≡ files_from old row prints turned k files
files_same old new row prints turned k [] h = refl
files_same old new row prints turned k (run ∷ files) h =
    ap (λ (ps : List Page). file_shown ps (turned_in prints turned k) run ∷ files_from new row prints turned (suc k) files) (h k (omega arith))
    ∙ ap (λ (fs : List File). file_shown (pages_in old row k) (turned_in prints turned k) run ∷ fs)
    (files_same old new row prints turned (suc k) files (λ i lt. h i (omega (arith, lt))))

row_stays : (old new : Chains) (row other : ℕ) → OnlyRow old new row → HasRow old other → HasRow new other
row_stays old new row other o h = (let n = o.count in omega (arith, n, h))

pub other_shown : (c : Kept) (old new : Chains) (row : ℕ) → OnlyRow old new row → (c.row ≡ row → ⊥) → IsHeld c old → shown c new ≡ shown c old
other_shown c old new row o ne h =
    ap (λ (fs : List File). record (shown c old) { files = fs })
    (files_same old new c.row c.prints c.turned 0 c.files (λ i lt. o.others c.row i ne (let f = h.few in omega (arith, lt, f))))

pub other_held : (c : Kept) (old new : Chains) (row : ℕ) → OnlyRow old new row → (c.row ≡ row → ⊥) → IsHeld c old → IsHeld c new
other_held c old new row o ne h =
    let same : (i : ℕ) → i < 52 → pages_in new c.row i ≡ pages_in old c.row i = λ i lt. o.others c.row i ne lt in
    record {
      row = row_stays old new row c.row o h.row;
      few = h.few;
      fits = λ i lt. (let f = h.few in let e = ap length (same i (omega (arith, lt, f))) in let fits = h.fits i lt in omega (arith, e, fits));
      whole = λ is_open i e. ap length (same i (let f = h.few in omega (arith, e, f))) ∙ h.whole is_open i e;
      beyond = λ i le lt. same i lt ∙ h.beyond i le lt;
    }

pub other_free : (old new : Chains) (row other : ℕ) → OnlyRow old new row → (other ≡ row → ⊥) → IsFreeRow old other → IsFreeRow new other
other_free old new row other o ne h =
    record {
      here = row_stays old new row other o h.here;
      empty = λ i lt. o.others other i ne lt ∙ h.empty i lt;
    }

pub only_none : (nodes : Chains) (row : ℕ) → OnlyRow nodes nodes row
only_none nodes row = record { room = refl; count = refl; others = λ other i ne lt. refl }

-- what is known of the entry at a place of a book
pub record Here (nodes : Chains) (rows : Slab ℕ) (es : List (ℕ × Entry)) (most places size : ℕ) (b : Books) (i : ℕ) (e : Entry) : Type 0 where
  pub book : IsBook nodes rows es most places size
  pub view : book_of nodes es most places size ≡ b
  pub within : i < length es
  pub at : entry_at es i ≡ ((entry_at es i).0, e)
  pub entry : IsEntry nodes rows size ((entry_at es i).0, e)
  pub shows : job_at b i ≡ seen nodes e

pub within : (nodes : Chains) (es : List (ℕ × Entry)) (most places size : ℕ) (b : Books) (i : ℕ) → book_of nodes es most places size ≡ b → i < length b.jobs → i < length es
within nodes es most places size b i v lt =
    let l = length-seen nodes es in
    let n = ap (λ (u : Books). length u.jobs) v in
    omega (arith, l, n, lt)

value_at : (es : List (ℕ × Entry)) (i : ℕ) (e : Entry) → i < length es → slice_get (values_of es) i ≡ Some e → entry_at es i ≡ ((entry_at es i).0, e)
value_at es i e lt s =
    let a = get_or_from_slice_get (values_of es) i e no_entry.1 s in
    let m = get_or-map (λ (e : ℕ × Entry). e.1) es i no_entry no_entry.1 lt in
    ap (λ (w : Entry). ((entry_at es i).0, w)) (sym m ∙ a)

pub here_at : {nodes : Chains} {rows : Slab ℕ} {es : List (ℕ × Entry)} {most places size : ℕ} {b : Books} (i : ℕ) (e : Entry) → IsBook nodes rows es most places size
    → book_of nodes es most places size ≡ b → i < length b.jobs → slice_get (values_of es) i ≡ Some e → Here nodes rows es most places size b i e
here_at {nodes} {rows} {es} {most} {places} {size} {b} i e h v lt s =
    let il = within nodes es most places size b i v lt in
    let at = value_at es i e il s in
    record {
      book = h;
      view = v;
      within = il;
      at = at;
      entry = subst (λ (x : ℕ × Entry). IsEntry nodes rows size x) at (h.entries i il);
      shows = ap (λ (u : Books). job_at u i) (sym v) ∙ (job_seen nodes es i il ∙ ap (λ (x : ℕ × Entry). seen nodes x.1) at);
    }

-- a call on an entry and on the nodes: the job is seen so then, and nothing of another row changed
pub record Leaves (old new : Chains) (e w : Entry) (j : HeldJob) : Type 0 where
  pub job : w.job ≡ j.facts
  pub chain : shown w.chain new ≡ j.chain
  pub held : IsHeld w.chain new
  pub only : OnlyRow old new e.chain.row
  pub row : w.chain.row ≡ e.chain.row
  pub same : w.row ≡ e.row
  pub number : j.facts.number ≡ e.job.number
  pub room : j.chain.file_room ≡ e.chain.file_room

-- the book after such a call
pub record Led (new : Chains) (rows : Slab ℕ) (es : List (ℕ × Entry)) (most places size : ℕ) (b : Books) (i : ℕ) (j : HeldJob) (n : ℕ) : Type 0 where
  pub book : IsBook new rows es most places size
  pub shows : book_of new es most places size ≡ record (with_job b i j) { stored = n }

-- a call on the entry's chain alone, on its job alone, and on its chain among the nodes

pub leads_on : {old new : Chains} (e w : Entry) (j : HeldJob) → Leads e.chain w.chain old new j.chain → w.job ≡ j.facts → w.row ≡ e.row
    → j.facts.number ≡ e.job.number → j.chain.file_room ≡ e.chain.file_room → Leaves old new e w j
leads_on e w j l job same number room = record {
  job = job;
  chain = l.shows;
  held = l.held;
  only = l.only;
  row = l.row;
  same = same;
  number = number;
  room = room;
}

pub turns_on : {nodes : Chains} (e w : Entry) (f : Files → Files) (j : HeldJob) → Turns e.chain w.chain f → IsHeld e.chain nodes → f (shown e.chain nodes) ≡ j.chain → w.job ≡ j.facts → w.row ≡ e.row
    → j.facts.number ≡ e.job.number → j.chain.file_room ≡ e.chain.file_room → Leaves nodes nodes e w j
turns_on {nodes} e w f j t h v job same number room = record {
  job = job;
  chain = t.shows nodes h ∙ v;
  held = t.held nodes h;
  only = only_none nodes e.chain.row;
  row = t.row;
  same = same;
  number = number;
  room = room;
}

pub told_on : {nodes : Chains} (e w : Entry) (j : HeldJob) → w.chain ≡ e.chain → IsHeld e.chain nodes → shown e.chain nodes ≡ j.chain → w.job ≡ j.facts → w.row ≡ e.row
    → j.facts.number ≡ e.job.number → j.chain.file_room ≡ e.chain.file_room → Leaves nodes nodes e w j
told_on {nodes} e w j c h v job same number room = record {
  job = job;
  chain = ap (λ (x : Kept). shown x nodes) c ∙ v;
  held = subst (λ (x : Kept). IsHeld x nodes) (sym c) h;
  only = only_none nodes e.chain.row;
  row = ap (λ (x : Kept). x.row) c;
  same = same;
  number = number;
  room = room;
}

module _ {old : Chains} {rows : Slab ℕ} {es : List (ℕ × Entry)} {most places size : ℕ} {b : Books} {i : ℕ} {e : Entry} (k : Here old rows es most places size b i e) where
  -- another entry has another row
  other_row : (m : ℕ) → m < length es → (m ≡ i → ⊥) → (entry_at es m).1.chain.row ≡ e.chain.row → ⊥
  other_row m lt ne same =
      let theirs = (k.book.entries m lt).taken in
      let ours = k.entry.taken in
      let both : Some (entry_at es m).0 ≡ Some (entry_at es i).0 = sym theirs ∙ (ap (get rows) same ∙ ours) in
      k.book.differ m i lt k.within ne (cc)

  -- a call on the entry at a place leaves a book with its job there
  pub led : (new : Chains) (w : Entry) (F : HeldJob → HeldJob) (n : ℕ) → Leaves old new e w (F (seen old e)) → AreOfSize size (every_page (F (seen old e)).chain.files)
      → total new.chains ≡ n → Led new rows (set_value_at es i w) most places size b i (F (job_at b i)) n
  led new w F n l sizes t = record {
    book = record {
      entries = λ m lt. entry m (let c = count_stays es i w in omega (arith, c, lt));
      differ = λ m o ml ol ne same. k.book.differ m o (let c = count_stays es i w in omega (arith, c, ml)) (let c = count_stays es i w in omega (arith, c, ol)) ne
          (sym (key_stays es i m w) ∙ (same ∙ key_stays es i o w));
      free = λ r lt none. other_free old new e.chain.row r l.only (λ same. taken_none (sym (k.entry.taken) ∙ (ap (get rows) (sym same) ∙ none))) (k.book.free r lt none);
      rows_few = k.book.rows_few;
      rows_enough = k.book.rows_enough;
      counted = k.book.counted ∙ sym (count_stays es i w);
      fits = (let c = count_stays es i w in let f = k.book.fits in omega (arith, c, f));
      room = l.only.room ∙ k.book.room;
    };
    shows = shows;
  }
    where
      taken_none : {X : Type 0} {x : X} → Some x ≡ None → ⊥
      taken_none e = cc

      now : seen new w ≡ F (seen old e)
      now = ap (λ (j : Facts). record { facts = j; chain = shown w.chain new }) l.job ∙ ap (λ (v : Files). record { facts = (F (seen old e)).facts; chain = v }) l.chain

      changed : IsEntry new rows size ((entry_at es i).0, w)
      changed = record {
        key = k.entry.key ∙ (sym l.number ∙ ap (λ (j : Facts). j.number) (sym l.job));
        row = l.same ∙ (k.entry.row ∙ sym l.row);
        held = l.held;
        room = ap (λ (v : Files). v.file_room) l.chain ∙ (l.room ∙ k.entry.room);
        within = subst (λ (r : ℕ). r < rows.capacity) (sym l.row) k.entry.within;
        taken = ap (get rows) l.row ∙ k.entry.taken;
        sizes = subst (λ (v : Files). AreOfSize size (every_page v.files)) (sym l.chain) sizes;
      }

      others : (m : ℕ) → m < length es → (m ≡ i → ⊥) → IsEntry new rows size (entry_at es m)
      others m lt ne =
          let x = entry_at es m in
          let r = k.book.entries m lt in
          let shows = other_shown x.1.chain old new e.chain.row l.only (other_row m lt ne) r.held in
          record {
            key = r.key;
            row = r.row;
            held = other_held x.1.chain old new e.chain.row l.only (other_row m lt ne) r.held;
            room = r.room;
            within = r.within;
            taken = r.taken;
            sizes = subst (λ (v : Files). AreOfSize size (every_page v.files)) (sym shows) r.sizes;
          }

      entry : (m : ℕ) → m < length es → IsEntry new rows size (entry_at (set_value_at es i w) m)
      entry m lt = elim (cases_eq m i) [
        | inl same ↦ subst (λ (x : ℕ × Entry). IsEntry new rows size x)
            (sym (ap (entry_at (set_value_at es i w)) same ∙ at_same es i w k.within)) changed
        | inr ne ↦ subst (λ (x : ℕ × Entry). IsEntry new rows size x) (sym (at_other es i m w ne)) (others m lt ne)
      ]

      jobs : seen_jobs new (set_value_at es i w) ≡ set (seen_jobs old es) i (F (seen old e))
      jobs = seen_set old new es i w k.within (λ m lt ne. ap (λ (v : Files). record { facts = (entry_at es m).1.job; chain = v })
          (other_shown (entry_at es m).1.chain old new e.chain.row l.only (other_row m lt ne) (k.book.entries m lt).held))
          ∙ ap (set (seen_jobs old es) i) now

      shows : book_of new (set_value_at es i w) most places size ≡ record (with_job b i (F (job_at b i))) { stored = n }
      shows =
          ap (λ (js : List HeldJob). record (book_of old es most places size) { jobs = js; stored = total new.chains }) jobs
          ∙ (ap (λ (m : ℕ). record (with_job (book_of old es most places size) i (F (seen old e))) { stored = m }) t
          ∙ (ap (λ (j : HeldJob). record (with_job (book_of old es most places size) i (F j)) { stored = n }) (sym k.shows)
          ∙ ap (λ (u : Books). record (with_job u i (F (job_at b i))) { stored = n }) k.view))

  -- the same for a call on its job alone
  pub told_led : (job : Facts) (f : Facts → Facts) → job ≡ f e.job → (f e.job).number ≡ e.job.number
      → Led old rows (set_value_at es i (record { job = job; chain = e.chain; row = e.row })) most places size b i (told f (job_at b i)) b.stored
  told_led job f is number =
      let w : Entry = record { job = job; chain = e.chain; row = e.row } in
      led old w (told f) b.stored (told_on e w (told f (seen old e)) refl k.entry.held refl is refl number refl) k.entry.sizes (ap (λ (u : Books). u.stored) k.view)

  -- for one that moves no page
  pub turned_led : (job : Facts) (chain : Kept) (f : Files → Files) (F : HeldJob → HeldJob) → Turns e.chain chain f → f (shown e.chain old) ≡ (F (seen old e)).chain → job ≡ (F (seen old e)).facts
      → (F (seen old e)).facts.number ≡ e.job.number → (F (seen old e)).chain.file_room ≡ e.chain.file_room → AreOfSize size (every_page (F (seen old e)).chain.files)
      → Led old rows (set_value_at es i (record { job = job; chain = chain; row = e.row })) most places size b i (F (job_at b i)) b.stored
  turned_led job chain f F turns is same number room sizes =
      let w : Entry = record { job = job; chain = chain; row = e.row } in
      led old w F b.stored (turns_on e w f (F (seen old e)) turns k.entry.held is same refl number room) sizes (ap (λ (u : Books). u.stored) k.view)

  -- and for one that moves pages
  pub leads_led : (new : Chains) (job : Facts) (chain : Kept) (F : HeldJob → HeldJob) (n : ℕ) → Leads e.chain chain old new (F (seen old e)).chain → job ≡ (F (seen old e)).facts
      → (F (seen old e)).facts.number ≡ e.job.number → (F (seen old e)).chain.file_room ≡ e.chain.file_room → AreOfSize size (every_page (F (seen old e)).chain.files) → total new.chains ≡ n
      → Led new rows (set_value_at es i (record { job = job; chain = chain; row = e.row })) most places size b i (F (job_at b i)) n
  leads_led new job chain F n leads is number room sizes t =
      let w : Entry = record { job = job; chain = chain; row = e.row } in
      led new w F n (leads_on e w (F (seen old e)) leads is refl number room) sizes t
