-- A turn of a session leads from a place of its job to a place, and is granted.
use Rattle.std.proofs.Common.{◌≡◌, ◌+◌, ◌≤◌, ℕ, true, false, List, [], ◌∷◌, ◌++◌, length, refl, sym, ap, subst, ◌∙◌, arith, append-nil}
use Rattle.config_values.specs.Config.{Config, limit_of}
use Rattle.lpr_client.specs.declared.file.DataFile.{DataFile}
use Rattle.lpr_client.proofs.JobReading.{AreFiles, IsFile}
use Rattle.lpr_client.proofs.LineLemmas.{data_line}
use Rattle.lpd_commands.specs.Written.{command_line}
use Rattle.lpd_commands.specs.declared.command.Command.TheVariants.{Receive}
use Rattle.control_file.specs.View.{contents}
use Rattle.receiver.specs.Script.{Request, Written, Queue, Open, BeginFile, AskPage, EndFile, Control, Item, Asks, Acks, FileOctets, ControlText}
use Rattle.receiver.specs.Reading.{Due, Waits, Writes, Requests, due}
use Rattle.receiver.specs.Blocks.{between}
use Rattle.spool_history.specs.Base.{first_base}
use Rattle.spool_history.specs.Acts.{names_in}
use Rattle.spool_history.specs.Now.{now, IsSafeNow}
use Rattle.spool_history.specs.Legal.{IsLegal}
use Rattle.spool_trace.specs.Sessions.{Session, due_in}
use Rattle.lone_jobs.specs.Lone.{Sent, file_names, pages_of_files}
use Rattle.lone_jobs.proofs.Dues.{body, control_left, control_begun, file_begun, file_end, file_opens, file_begins, control_opens, control_begins, text_due, octets_due, end_due, page_due}
use Rattle.lpr_client.proofs.Granting.{due_first as first_due}
use Rattle.lone_jobs.proofs.Held.{History}
use Rattle.lone_jobs.proofs.Places.{Place, First, Asking, Ready, Begins, Began, Inside, Told, Last, AllFresh, Facts, IsKnown, Rest, Here, progress_at, text_at, q, text, z}
use Rattle.lone_jobs.proofs.Turning.{Goal, on_request, on_ack, on_wait}
use Rattle.lone_jobs.proofs.Answering.{queue_answered, open_answered, begin_answered, page_answered, put_answered, end_answered, control_answered}

module _ (c : Config) (job : Sent) (k : IsKnown c job) (h : History) (l : IsLegal length c first_base h) (safe : IsSafeNow (now c first_base h)) (coming : List ℕ) (s : Session) where
  abbrev At : Place → Type 0
  At p = Here c job coming s h p

  -- where the session asks for a job
  opens : (files : List DataFile) → files ≡ job.files → At (Asking false) → Goal c job h coming s (due_in s)
  opens [] same here =
      on_request c job h coming s (Asking false) here (Open job.queue) (control_begun job.name (text c job)) (control_left (text c job)) tt
      (ap (λ (f : List DataFile). due (between job.queue false) (body job.name (text c job) f)) (sym same) ∙ control_opens job.queue job.name (text c job) k.control_line.0 k.control_line.1 k.some k.few)
      (open_answered c job k h l coming s (Asking false) (Told true 0 []) here here.facts (control_begun job.name (text c job)) refl refl (λ u j held. (ap file_names same, refl, held)))
  opens (file ∷ left) same here =
      let all : AreFiles (file ∷ left) = subst AreFiles (sym same) k.files in
      let line = data_line (length file.octets) file.name all.0.some all.0.counted all.0.named in
      let rest : Rest c job 0 [] (file ∷ left) = record {
        named = ap file_names same;
        closed = refl;
        fresh = subst (AllFresh []) (sym same) k.fresh;
        sendable = all;
        room = subst (λ (f : List DataFile). 0 + pages_of_files (z c job) f ≤ limit_of c (q c job)) (sym same) (let pages = k.pages in omega (arith, pages));
      } in
      on_request c job h coming s (Asking false) here (Open job.queue) (Asks (BeginFile file.name (length file.octets)) ∷ file_begun (length file.octets)) (file.octets ++ 0 ∷ body job.name (text c job) left) tt
      (ap (λ (f : List DataFile). due (between job.queue false) (body job.name (text c job) f)) (sym same) ∙ file_opens job.queue job.name (text c job) file left line.0 line.1)
      (open_answered c job k h l coming s (Asking false) (Begins file left) here here.facts (Asks (BeginFile file.name (length file.octets)) ∷ file_begun (length file.octets)) refl refl (λ u j held. (rest, held)))

  pub turn : (p : Place) → At p → Goal c job h coming s (due_in s)
  turn First here =
      on_request c job h coming s First here (Queue job.queue) (Acks ∷ []) (body job.name (text c job) job.files) tt
      (first_due job.queue (command_line (Receive job.queue)) (body job.name (text c job) job.files) k.first_line.0 k.first_line.1)
      (queue_answered c job k h l coming s here)
  turn (Asking true) here = on_ack c job h coming s (Asking true) (Asking false) here [] tt refl refl refl here.facts
  turn (Asking false) here = opens job.files refl here
  turn (Ready true g done left) here = on_ack c job h coming s (Ready true g done left) (Ready false g done left) here [] tt refl refl (omega arith) here.facts
  turn (Ready false g done []) here =
      on_ack c job h coming s (Ready false g done []) (Told false g done) here (ControlText job.name (length (text c job)) ∷ Acks ∷ []) tt
      (control_begins job.queue job.name (text c job) k.control_line.0 k.control_line.1 k.some k.few) refl (omega arith)
      (sym (append-nil (names_in done)) ∙ here.facts.0.named, here.facts.0.closed, here.facts.1)
  turn (Ready false g done (file ∷ left)) here =
      let f : IsFile file = here.facts.0.sendable.0 in
      let line = data_line (length file.octets) file.name f.some f.counted f.named in
      on_request c job h coming s (Ready false g done (file ∷ left)) here (BeginFile file.name (length file.octets)) (file_begun (length file.octets)) (file.octets ++ 0 ∷ body job.name (text c job) left) tt
      (file_begins job.queue job.name (text c job) file left line.0 line.1)
      (begin_answered c job k h l coming s (Ready false g done (file ∷ left)) here g done file left here.facts.0 here.facts.1 refl refl)
  turn (Begins file left) here =
      on_request c job h coming s (Begins file left) here (BeginFile file.name (length file.octets)) (file_begun (length file.octets)) (file.octets ++ 0 ∷ body job.name (text c job) left) tt refl
      (begin_answered c job k h l coming s (Begins file left) here 0 [] file left here.facts.0 here.facts.1 refl refl)
  turn (Began g done file left) here =
      on_ack c job h coming s (Began g done file left) (Inside false g done file left file.octets []) here (FileOctets (length file.octets) ∷ file_end) tt refl refl (omega arith) here.facts
  turn (Inside false g done file left [] pages) here =
      on_request c job h coming s (Inside false g done file left [] pages) here EndFile (Acks ∷ []) (body job.name (text c job) left) tt (end_due job.queue (body job.name (text c job) left))
      (end_answered c job k h l coming s g here.facts.1.0 done file left pages here here.facts.0 here.facts.1.1)
  turn (Inside false g done file left (b ∷ octets) pages) here =
      on_request c job h coming s (Inside false g done file left (b ∷ octets) pages) here AskPage (FileOctets (length (b ∷ octets)) ∷ file_end) (b ∷ octets ++ 0 ∷ body job.name (text c job) left) tt
      (octets_due job.queue b octets (body job.name (text c job) left))
      (page_answered c job k h l coming s g here.facts.1.0 done file left (b ∷ octets) pages here (omega arith) here.facts.0 here.facts.1.1 safe)
  turn (Inside true g done file left octets pages) here =
      on_request c job h coming s (Inside true g done file left octets pages) here _ _ _ tt
      (page_due job.queue (z c job) octets (body job.name (text c job) left))
      (put_answered c job k h l coming s g here.facts.2.0 done file left octets pages here here.facts.0 here.facts.1 here.facts.2.1)
  turn (Told true g done) here = on_ack c job h coming s (Told true g done) (Told false g done) here (ControlText job.name (length (text c job)) ∷ Acks ∷ []) tt refl refl (omega arith) here.facts
  turn (Told false g done) here =
      on_request c job h coming s (Told false g done) here (Control (contents job.control)) (Acks ∷ []) [] tt (text_due job.queue job.name (text c job) (contents job.control) k.read)
      (control_answered c job k h l coming s g here.facts.2.0 done here here.facts.0 here.facts.1 here.facts.2.1)
  turn (Last true) here = on_ack c job h coming s (Last true) (Last false) here [] tt refl refl (omega arith) here.facts
  turn (Last false) here = on_wait c job h coming s (Last false) here tt refl

-- what is due where more has to come is no request, and nothing is written
no_request : (d : Due) (r : Request) (items : List Item) (t : List ℕ) → d ≡ Requests r items t → d ≡ Waits → ⊥
no_request d r items t e f = (let both : Requests r items t ≡ Waits = sym e ∙ f in absurd cc)

no_write : (d : Due) (w : Written) (items : List Item) (t : List ℕ) → d ≡ Writes w items t → d ≡ Waits → ⊥
no_write d w items t e f = (let both : Writes w items t ≡ Waits = sym e ∙ f in absurd cc)

-- only at the end nothing is due
module _ (c : Config) (job : Sent) (k : IsKnown c job) where
  abbrev DueAt : Place → Due
  DueAt p = due (progress_at c job p) (text_at c job p)

  never_opens : (files : List DataFile) → files ≡ job.files → DueAt (Asking false) ≡ Waits → ⊥
  never_opens [] same e =
      no_request (DueAt (Asking false)) _ _ _
      (ap (λ (f : List DataFile). due (between job.queue false) (body job.name (text c job) f)) (sym same) ∙ control_opens job.queue job.name (text c job) k.control_line.0 k.control_line.1 k.some k.few) e
  never_opens (file ∷ left) same e =
      let all : AreFiles (file ∷ left) = subst AreFiles (sym same) k.files in
      let line = data_line (length file.octets) file.name all.0.some all.0.counted all.0.named in
      no_request (DueAt (Asking false)) _ _ _
      (ap (λ (f : List DataFile). due (between job.queue false) (body job.name (text c job) f)) (sym same) ∙ file_opens job.queue job.name (text c job) file left line.0 line.1) e

  pub ends_last : (p : Place) (u : History) (j : ℕ) → Facts c job p u j → DueAt p ≡ Waits → p ≡ Last false
  ends_last First u j f e =
      absurd (no_request (DueAt First) _ _ _ (first_due job.queue (command_line (Receive job.queue)) (body job.name (text c job) job.files) k.first_line.0 k.first_line.1) e)
  ends_last (Asking true) u j f e = absurd (no_write (DueAt (Asking true)) _ _ _ refl e)
  ends_last (Asking false) u j f e = absurd (never_opens job.files refl e)
  ends_last (Ready true g done left) u j f e = absurd (no_write (DueAt (Ready true g done left)) _ _ _ refl e)
  ends_last (Ready false g done []) u j f e =
      absurd (no_write (DueAt (Ready false g done [])) _ _ _ (control_begins job.queue job.name (text c job) k.control_line.0 k.control_line.1 k.some k.few) e)
  ends_last (Ready false g done (file ∷ left)) u j f e =
      let i : IsFile file = f.0.sendable.0 in
      let line = data_line (length file.octets) file.name i.some i.counted i.named in
      absurd (no_request (DueAt (Ready false g done (file ∷ left))) _ _ _ (file_begins job.queue job.name (text c job) file left line.0 line.1) e)
  ends_last (Begins file left) u j f e = absurd (no_request (DueAt (Begins file left)) _ _ _ refl e)
  ends_last (Began g done file left) u j f e = absurd (no_write (DueAt (Began g done file left)) _ _ _ refl e)
  ends_last (Inside false g done file left [] pages) u j f e = absurd (no_request (DueAt (Inside false g done file left [] pages)) _ _ _ refl e)
  ends_last (Inside false g done file left (b ∷ octets) pages) u j f e = absurd (no_request (DueAt (Inside false g done file left (b ∷ octets) pages)) _ _ _ refl e)
  ends_last (Inside true g done file left octets pages) u j f e =
      absurd (no_request (DueAt (Inside true g done file left octets pages)) _ _ _ (page_due job.queue (z c job) octets (body job.name (text c job) left)) e)
  ends_last (Told true g done) u j f e = absurd (no_write (DueAt (Told true g done)) _ _ _ refl e)
  ends_last (Told false g done) u j f e = absurd (no_request (DueAt (Told false g done)) _ _ _ (text_due job.queue job.name (text c job) (contents job.control) k.read) e)
  ends_last (Last true) u j f e = absurd (no_write (DueAt (Last true)) _ _ _ refl e)
  ends_last (Last false) u j f e = refl
