-- A held job is what is kept of a job of the history.
use Rattle.std.proofs.Common.{◌≡◌, true, false, [], map, refl, sym, ◌∙◌, ap}
use Rattle.std.specs.Prelude.{None, drop}
use Rattle.page_pool.specs.Page.{Page}
use Rattle.page_chain.specs.Files as F
use Rattle.page_chain.specs.Files.{Files}
use Rattle.held_jobs.specs.declared.file.DataFile.{DataFile}
use Rattle.held_jobs.specs.declared.phase.Phase.{Phase}
use Rattle.held_jobs.specs.declared.phase.Phase.TheVariants.{Receiving, Received, Ended}
use Rattle.held_jobs.specs.Jobs.{Facts, HeldJob}
use Rattle.held_jobs.specs.Moves.{drained_job, ended_facts}
use Rattle.held_jobs.specs.Shown.{File, Shelf, ShownJob, see_file, see_files, see_job}
use Rattle.config_values.specs.Config.{Config}
use Rattle.spool_history.specs.Acts as A
use Rattle.spool_history.specs.Acts.{is_open_in}
use Rattle.spool_history.specs.Now.{Job, is_received}
use Rattle.spool_history.specs.Legal.{IsReceiving}
use Rattle.spool_calls.specs.Kept.{is_printed, is_there, last_of, phase_of, shelf_of, shelved_files, shown_job, size_of, spots, whole_file}

-- the held job, with each page as the function says, is what is kept of this job
abbrev pub Ties : {C : Type 0} → (Page → C) → Config → HeldJob → Job C → Type 0
Ties f c j v = see_job f j ≡ shown_job c v

-- what is known of a job at this phase
abbrev pub facts_at : {C : Type 0} → Phase → Config → Job C → Facts
facts_at {C} p c v = record {
  number = v.number;
  sender = v.sender;
  queue = v.queue;
  phase = p;
  granted = v.granted;
  lent = v.lent;
  files = map {A = A.File C} {B = DataFile} (size_of c.page_size) v.files;
  control = v.control;
  handed = v.handed;
  back = v.back;
}

-- two shelves with the same parts are one
pub same_shelf : {C : Type 0} (a b : Shelf C) → a.files ≡ b.files → a.is_open ≡ b.is_open → a.places ≡ b.places → a.last ≡ b.last → a ≡ b
same_shelf a b files is_open places last i = record { files = files i; is_open = is_open i; places = places i; last = last i }

-- what each phase is
pub phase_receiving : {C : Type 0} (v : Job C) → IsReceiving v → phase_of v ≡ Receiving
phase_receiving v r = rw (r.0, r.1) refl

-- a received job that hasn't ended
pub phase_received : {C : Type 0} (v : Job C) → v.ended ≡ false → is_received v ≡ true → phase_of v ≡ Received
phase_received v e r = rw (e, r) refl

-- an ended job
pub phase_ended : {C : Type 0} (v : Job C) → v.ended ≡ true → phase_of v ≡ Ended
phase_ended v e = rw e refl

-- what a held job has of a job at a known phase
pub record AtPhase {C : Type 0} (f : Page → C) (c : Config) (p : Phase) (j : HeldJob) (v : Job C) : Type 0 where
  pub facts : j.facts ≡ facts_at p c v
  pub shelf : see_files f j.chain ≡ shelf_of p v.files v.handed v.back (spots v)

-- a tie says what a held job has at its phase
pub at_phase : {C : Type 0} (f : Page → C) (c : Config) (p : Phase) (j : HeldJob) (v : Job C) → phase_of v ≡ p → Ties f c j v → AtPhase f c p j v
at_phase {C} f c p j v e t = record {
  facts = ap (λ (s : ShownJob C). s.facts) t ∙ ap (λ (q : Phase). facts_at q c v) e;
  shelf = ap (λ (s : ShownJob C). s.shelf) t ∙ ap (λ (q : Phase). shelf_of q v.files v.handed v.back (spots v)) e;
}

-- and what it has there is its tie
pub ties_at : {C : Type 0} (f : Page → C) (c : Config) (p : Phase) (j : HeldJob) (v : Job C) → phase_of v ≡ p → AtPhase f c p j v → Ties f c j v
ties_at {C} f c p j v e a i = record {
  facts = (a.facts ∙ ap (λ (q : Phase). facts_at q c v) (sym e)) i;
  shelf = (a.shelf ∙ ap (λ (q : Phase). shelf_of q v.files v.handed v.back (spots v)) (sym e)) i;
}

-- the same, part by part
pub record Parts {C : Type 0} (f : Page → C) (c : Config) (p : Phase) (j : HeldJob) (v : Job C) (shelf : Shelf C) : Type 0 where
  pub facts : j.facts ≡ facts_at p c v
  pub files : map {A = F.File} {B = File C} (see_file f) j.chain.files ≡ shelf.files
  pub is_open : j.chain.is_open ≡ shelf.is_open
  pub places : j.chain.places ≡ shelf.places
  pub last : j.chain.last ≡ shelf.last

-- a tie says so
parts : {C : Type 0} (f : Page → C) (c : Config) (p : Phase) (j : HeldJob) (v : Job C) → phase_of v ≡ p → Ties f c j v → Parts f c p j v (shelf_of p v.files v.handed v.back (spots v))
parts {C} f c p j v e t =
    let a = at_phase f c p j v e t in
    record {
      facts = a.facts;
      files = ap (λ (s : Shelf C). s.files) a.shelf;
      is_open = ap (λ (s : Shelf C). s.is_open) a.shelf;
      places = ap (λ (s : Shelf C). s.places) a.shelf;
      last = ap (λ (s : Shelf C). s.last) a.shelf;
    }

-- and this is a tie
ties_by : {C : Type 0} (f : Page → C) (c : Config) (p : Phase) (j : HeldJob) (v : Job C) → phase_of v ≡ p → Parts f c p j v (shelf_of p v.files v.handed v.back (spots v)) → Ties f c j v
ties_by f c p j v e a =
    ties_at f c p j v e (record { facts = a.facts; shelf = same_shelf (see_files f j.chain) (shelf_of p v.files v.handed v.back (spots v)) a.files a.is_open a.places a.last })

module _ {C : Type 0} (f : Page → C) (c : Config) (j : HeldJob) (v : Job C) where
  -- what a held job has of a job that is being received
  abbrev pub Fills : Type 0
  Fills = Parts f c Receiving j v (record { files = map {A = A.File C} {B = File C} whole_file v.files; is_open = is_open_in v.files; places = []; last = None })

  pub fills : IsReceiving v → Ties f c j v → Fills
  fills r t = parts f c Receiving j v (phase_receiving v r) t

  pub ties_filling : IsReceiving v → Fills → Ties f c j v
  ties_filling r a = ties_by f c Receiving j v (phase_receiving v r) a

  -- what a held job has of a received job that hasn't ended
  abbrev pub Prints : Type 0
  Prints = Parts f c Received j v (record {
    files = shelved_files (is_printed (spots v)) (is_there (spots v) v.handed v.back) 0 v.files;
    is_open = false;
    places = drop v.handed (spots v);
    last = last_of (spots v) v.handed;
  })

  pub prints : v.ended ≡ false → is_received v ≡ true → Ties f c j v → Prints
  prints e r t = parts f c Received j v (phase_received v e r) t

  pub ties_printing : v.ended ≡ false → is_received v ≡ true → Prints → Ties f c j v
  ties_printing e r a = ties_by f c Received j v (phase_received v e r) a

-- it ends, and its pages go
pub ties_ended : {C : Type 0} (f : Page → C) (c : Config) (j : HeldJob) (v : Job C) → Ties f c j v → Ties f c (drained_job j) (record v { ended = true })
ties_ended {C} f c j v t = ties_at f c Ended (drained_job j) (record v { ended = true }) refl (record { facts = ap ended_facts (at_phase f c (phase_of v) j v refl t).facts; shelf = refl })
