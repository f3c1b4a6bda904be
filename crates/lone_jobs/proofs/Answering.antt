-- What a session is answered at each place of a job.
use Rattle.std.proofs.Common.{◌≡◌, ◌+◌, ◌-◌, ◌*◌, ◌<◌, ℕ, suc, min, true, false, List, [], ◌∷◌, ◌++◌, length, take, drop, Some, None, refl, sym, ap, subst, ◌∙◌, arith, append_assoc, length-take, length-drop, inl}
use Rattle.std.specs.List.{list_all}
use Rattle.std.proofs.lemmas.List.{append-nil, length_push}
use Rattle.lpd_values.specs.declared.refusal.Refusal.{Refusal}
use Rattle.lpd_values.specs.declared.refusal.Refusal.TheVariants.{UnknownQueue, TableFull, AccountFull, Closed, OverClaim, ControlTwice, NameTaken, FilesFull, FileOpen, NotOpen, Memory}
use Rattle.lpd_values.specs.Contents.{Contents}
use Rattle.control_file.specs.View.{contents}
use Rattle.config_values.specs.Config.{Config, limit_of}
use Rattle.lpr_client.specs.declared.file.DataFile.{DataFile}
use Rattle.receiver.specs.Script.{Request, Queue, Open, BeginFile, AskPage, Filled, EndFile, Control, Item, Acks, FileOctets}
use Rattle.receiver.specs.Reading.{Progress, Opening, Plain, answered}
use Rattle.receiver.specs.Script as script
use Rattle.page_pool.specs.Page.{Page}
use Rattle.spool_history.specs.Base.{first_base}
use Rattle.spool_history.specs.Events.{Event}
use Rattle.spool_history.specs.Events.Act.{Granted, Began, Put, FileEnded, Controlled}
use Rattle.spool_history.specs.Events.Event.{Opened, OfJob}
use Rattle.spool_history.specs.Acts.{File, is_open_in, names_in}
use Rattle.spool_history.specs.Now.{State, now, is_received, IsSafeNow}
use Rattle.spool_history.specs.Steps.{acted, after}
use Rattle.spool_history.specs.Legal.{CanAsk, IsLegal, IsReceiving, JobMay, May, MayOpen, pages_for}
use Rattle.spool_laws.proofs.Counts.{last_push}
use Rattle.spool_laws.proofs.Known.{clash}
use Rattle.spool_laws.proofs.Moves.{moved}
use Rattle.spool_calls.specs.Looks.Detail.{Octets}
use Rattle.spool_requests.specs.declared.answer.Answer.TheVariants.{Yes, Accepted, Lent, Later, Stored, Received, Refused}
use Rattle.spool_requests.specs.Agree.{is_short}
use Rattle.spool_requests.specs.Shows.{file_now, page_now}
use Rattle.spool_history.specs.Refusals.{OrMemory, RefusesQueue, RefusesJob, RefusesFile, RefusesPage, RefusesControl, RefusesUnless}
use Rattle.spool_calls.specs.Calls.{MayPut, MayEnd}
use Rattle.spool_trace.specs.Sessions.{Session}
use Rattle.lone_jobs.specs.Lone.{Sent, file_names}
use Rattle.lone_jobs.proofs.Dues.{body, file_begun, file_end, in_hand, paged}
use Rattle.lone_jobs.proofs.Pages.{no_pages, one_page_more}
use Rattle.lone_jobs.proofs.Held.{History, Held, held_job, has_only, only_has, act_jobs, open_jobs, may_grant}
use Rattle.lone_jobs.proofs.Files.{names_push, open_last, closed_last, count_files, pages_more}
use Rattle.lone_jobs.proofs.Places.{Place, First, Asking, Ready, Began as BeganAt, Inside, Told as ToldAt, Last, IsKnown, Rest, Within, Holds, NoJob, Facts, Here, AllFresh, open_file, progress_at, text_at, count_at, q, z, text}
use Rattle.lone_jobs.proofs.Turning.{Answered, answered_here}

module _ (c : Config) (job : Sent) (k : IsKnown c job) (h : History) (l : IsLegal length c first_base h) (coming : List ℕ) (s : Session) where
  abbrev w0 : State (List ℕ)
  w0 = now c first_base h

  abbrev limit : ℕ
  limit = limit_of c (q c job)

  -- what an event leaves of the close
  still_open : (e : Event (List ℕ)) → May length w0 e → (after e w0).closed ≡ w0.closed → w0.closed ≡ false → (now c first_base (e ∷ h)).closed ≡ false
  still_open e m same open' = ap (λ (x : State (List ℕ)). x.closed) (moved length c first_base h e l m) ∙ (same ∙ open')

  -- the queue
  queue_refused : (n : Refusal) → w0.closed ≡ false → RefusesQueue w0 (q c job) n → ⊥
  queue_refused UnknownQueue open' a = a.1 k.queue
  queue_refused Closed open' a = clash w0.closed a open'
  queue_refused n open' a = a

  pub queue_answered : Here c job coming s h First → Answered c job h coming s (Queue job.queue) (Acks ∷ []) (body job.name (text c job) job.files)
  queue_answered here x e Yes a m ample = (Asking true, answered_here c job h coming s First (Asking true) here (Queue job.queue) (Acks ∷ []) x Yes refl e refl refl here.opened here.facts, tt)
  queue_answered here x e (Refused n) a m ample = absurd (queue_refused n here.opened a)
  queue_answered here x e answer a m ample = absurd a

  -- a job
  no_room : (n : Refusal) → w0.closed ≡ false → NoJob c job w0 → is_short (Refused n) ≡ false → OrMemory (MayOpen w0 (w0.accepted + 1) (q c job)) (RefusesJob w0 (q c job)) n → ⊥
  no_room TableFull open' none ample a = (let low = k.ranges.max_jobs_low in let full = a.1 in let e = ap length none.0 in omega (arith, low, full, e))
  no_room AccountFull open' none ample a = a.2 none.1
  no_room Memory open' none ample a = clash true refl ample
  no_room n open' none ample a = queue_refused n open' a

  pub open_answered : (p p' : Place) → Here c job coming s h p → NoJob c job w0 → (items : List Item)
      → answered Opening script.Yes (record (progress_at c job p) { items = items; tail = [] }) ≡ progress_at c job p' → count_at c job p ≡ count_at c job p'
      → ((u : History) (j : ℕ) → Holds c job (now c first_base u) j 0 false [] → Facts c job p' u j)
      → Answered c job h coming s (Open job.queue) items (text_at c job p')
  open_answered p p' here none items led same held x e (Accepted number) a m ample =
      let opening : Event (List ℕ) = Opened number s.sender (q c job) in (
        p',
        answered_here c job h coming s p p' here (Open job.queue) items x (Accepted number) led e same refl (still_open opening m refl here.opened)
            (held (opening ∷ h) number (s.sender, open_jobs c h l number s.sender (q c job) none.0 m)),
        tt,
      )
  open_answered p p' here none items led same held x e (Refused n) a m ample = absurd (no_room n here.opened none ample a)
  open_answered p p' here none items led same held x e answer a m ample = absurd a

  -- a data file
  no_file : (g sender : ℕ) (done : List (File (List ℕ))) (file : DataFile) (left : List DataFile) → Rest c job g done (file ∷ left) → w0.jobs ≡ held_job s.job sender (q c job) g false done None ∷ [] → (n : Refusal)
      → RefusesFile w0 s.job file.name (length file.octets) n → ⊥
  no_file g sender done file left r one NotOpen a = a (has_only w0.jobs (held_job s.job sender (q c job) g false done None) IsReceiving one (refl, refl))
  no_file g sender done file left r one FileOpen a = (let p = only_has w0.jobs (held_job s.job sender (q c job) g false done None) s.job _ one a in clash (is_open_in done) p.1 r.closed)
  no_file g sender done file left r one NameTaken a = (let p = only_has w0.jobs (held_job s.job sender (q c job) g false done None) s.job _ one a in clash _ p.2 r.fresh.0)
  no_file g sender done file left r one FilesFull a =
      let p = only_has w0.jobs (held_job s.job sender (q c job) g false done None) s.job _ one a in
      let n = count_files done (file ∷ left) job.files r.named in
      let most = k.max_files in
      p.3 (omega (arith, n, most))
  no_file g sender done file left r one OverClaim a =
      let p = only_has w0.jobs (held_job s.job sender (q c job) g false done None) s.job _ one a in
      let room = r.room in
      let more = pages_more (z c job) file left in
      p.4 (omega (arith, room, more))
  no_file g sender done file left r one n a = absurd a

  begun : (g : ℕ) (done : List (File (List ℕ))) (file : DataFile) (left : List DataFile) → Rest c job g done (file ∷ left) → Within c job g done file left file.octets []
  begun g done file left r = record {
    named = r.named;
    closed = r.closed;
    fresh = r.fresh.1;
    sendable = r.sendable.1;
    room = (let room = r.room in let more = pages_more (z c job) file left in omega (arith, room, more));
    pages_so_far = omega arith;
    octets_so_far = λ some. omega arith;
  }

  pub begin_answered : (p : Place) → Here c job coming s h p → (g : ℕ) (done : List (File (List ℕ))) (file : DataFile) (left : List DataFile) → Rest c job g done (file ∷ left) → Holds c job w0 s.job g false done
      → answered Plain script.Yes (record (progress_at c job p) { items = file_begun (length file.octets); tail = [] }) ≡ in_hand job.queue (file_begun (length file.octets)) → count_at c job p ≡ 2 * length done + 1
      → Answered c job h coming s (BeginFile file.name (length file.octets)) (file_begun (length file.octets)) (file.octets ++ 0 ∷ body job.name (text c job) left)
  begin_answered p here g done file left r held led same x e Yes a m ample =
      let event : Event (List ℕ) = OfJob s.job (Began file.name (length file.octets)) in (
        BeganAt g done file left,
        answered_here c job h coming s p (BeganAt g done file left) here (BeginFile file.name (length file.octets)) (file_begun (length file.octets)) x Yes led e same refl (still_open event m refl here.opened)
            (begun g done file left r, (held.0, act_jobs c h l (held_job s.job held.0 (q c job) g false done None) (Began file.name (length file.octets)) held.1 refl m)),
        tt,
      )
  begin_answered p here g done file left r held led same x e (Refused n) a m ample = absurd (no_file g held.0 done file left r held.1 n a)
  begin_answered p here g done file left r held led same x e answer a m ample = absurd a

  -- a page
  module _ (g sender : ℕ) (done : List (File (List ℕ))) (file : DataFile) (left : List DataFile) (octets : List ℕ) (pages : List (List ℕ)) where
    abbrev files : List (File (List ℕ))
    files = done ++ open_file file pages ∷ []

    -- the job while no page is lent, and while one is
    abbrev idle : Held
    idle = held_job s.job sender (q c job) g false files None

    abbrev busy : Held
    busy = held_job s.job sender (q c job) (g + 1) true files None

    below : 0 < length octets → Within c job g done file left octets pages → g < limit
    below some i = (let room = i.room in let more = one_page_more (z c job) (length octets) k.ranges.page_size_low some in omega (arith, room, more))

    can_ask : CanAsk idle
    can_ask = ((refl, refl), open_last done (open_file file pages) refl, refl)

    no_page : 0 < length octets → Within c job g done file left octets pages → w0.jobs ≡ idle ∷ [] → (n : Refusal) → RefusesPage w0 s.job n → ⊥
    no_page some i one NotOpen a = a (has_only w0.jobs idle CanAsk one can_ask)
    no_page some i one OverClaim a = (let p = only_has w0.jobs idle s.job _ one a in p.1 (below some i))
    no_page some i one n a = absurd a

    pub page_answered : Here c job coming s h (Inside false g done file left octets pages) → 0 < length octets → Within c job g done file left octets pages → w0.jobs ≡ idle ∷ [] → IsSafeNow w0
        → Answered c job h coming s AskPage (FileOctets (length octets) ∷ file_end) (octets ++ 0 ∷ body job.name (text c job) left)
    page_answered here some i one safe x e (Lent size) a m ample =
        let event : Event (List ℕ) = OfJob s.job Granted in
        let led : answered (Rattle.receiver.specs.Reading.Lending) (script.Ticket size) (in_hand job.queue (FileOctets (length octets) ∷ file_end)) ≡ in_hand job.queue (paged (z c job) octets) =
        ap (λ (n : ℕ). answered (Rattle.receiver.specs.Reading.Lending) (script.Ticket n) (in_hand job.queue (FileOctets (length octets) ∷ file_end))) a in (
          Inside true g done file left octets pages,
          answered_here c job h coming s (Inside false g done file left octets pages) (Inside true g done file left octets pages) here AskPage (FileOctets (length octets) ∷ file_end) x (Lent size) led e refl refl (still_open event m refl here.opened)
              (some, i, (sender, act_jobs c h l idle Granted one refl m)),
          tt,
        )
    page_answered here some i one safe x e Later a m ample = absurd (a.1 (may_grant c s.job sender (q c job) g files w0 refl one (below some i) safe))
    page_answered here some i one safe x e (Refused n) a m ample = absurd (no_page some i one n a)
    page_answered here some i one safe x e answer a m ample = absurd a

    -- a page that is full, or the last
    abbrev taken : ℕ
    taken = min (z c job) (length octets)

    abbrev page : Page
    page = record { octets = take taken octets; page_size = z c job }

    may_put : 0 < length octets → Within c job g done file left octets pages → w0.jobs ≡ busy ∷ [] → MayPut Octets w0 s.job page
    may_put some i one =
        let so_far : length pages * z c job + length octets ≡ length file.octets = i.octets_so_far some in
        let size : length (take taken octets) ≡ min (z c job) (length file.octets - length pages * z c job) = (let t = length-take taken octets in omega (arith, t, so_far)) in (
          length done,
          length pages,
          (
            has_only w0.jobs busy (JobMay length c (Put (length done) (length pages) (take taken octets))) one
                ((refl, refl), refl, (done, open_file file pages, refl, refl, refl, (refl, omega (arith, so_far, some), size))),
            refl,
          ),
        )

    no_put : 0 < length octets → Within c job g done file left octets pages → w0.jobs ≡ busy ∷ [] → (n : Refusal) → RefusesUnless (MayPut Octets w0 s.job page) n → ⊥
    no_put some i one NotOpen a = a (may_put some i one)
    no_put some i one n a = absurd a

    put_into : 0 < length octets → Within c job g done file left octets pages → Within c job (g + 1) done file left (drop taken octets) (pages ++ take taken octets ∷ [])
    put_into some i =
        let rest : length (drop taken octets) ≡ length octets - taken = length-drop taken octets in
        let more : suc (pages_for (z c job) (length octets - taken)) ≡ pages_for (z c job) (length octets) = one_page_more (z c job) (length octets) k.ranges.page_size_low some in
        let same : pages_for (z c job) (length (drop taken octets)) ≡ pages_for (z c job) (length octets - taken) = ap (pages_for (z c job)) rest in
        let count : length (pages ++ take taken octets ∷ []) ≡ length pages + 1 = length_push pages (take taken octets) in
        let so_far : length pages * z c job + length octets ≡ length file.octets = i.octets_so_far some in
        let room = i.room in
        let pages_now = i.pages_so_far in
        record {
          named = i.named;
          closed = i.closed;
          fresh = i.fresh;
          sendable = i.sendable;
          room = omega (arith, more, same, room);
          pages_so_far = omega (arith, more, same, count, pages_now);
          octets_so_far = λ left_some.
              let full : taken ≡ z c job = omega (arith, rest, left_some) in
              let there : length octets ≡ length (drop taken octets) + z c job = omega (arith, rest, full, left_some) in
              ap (λ (n : ℕ). n * z c job + length (drop taken octets)) count ∙ omega (arith, there, so_far);
        }

    pub put_answered : Here c job coming s h (Inside true g done file left octets pages) → 0 < length octets → Within c job g done file left octets pages → w0.jobs ≡ busy ∷ []
        → Answered c job h coming s (Filled page) (FileOctets (length (drop taken octets)) ∷ file_end) (drop taken octets ++ 0 ∷ body job.name (text c job) left)
    put_answered here some i one x e Yes a m ample =
        let act = Put (file_now w0 s.job) (page_now w0 s.job) (take taken octets) in
        let event : Event (List ℕ) = OfJob s.job act in
        let after_put = act_jobs c h l busy act one refl m in
        let put : _ ≡ done ++ open_file file (pages ++ take taken octets ∷ []) ∷ [] = last_push (λ (f : File (List ℕ)). record f { pages = f.pages ++ take taken octets ∷ [] }) done (open_file file pages) in
        let p' = Inside false (g + 1) done file left (drop taken octets) (pages ++ take taken octets ∷ []) in (
          p',
          answered_here c job h coming s (Inside true g done file left octets pages) p' here (Filled page) (FileOctets (length (drop taken octets)) ∷ file_end) x Yes refl e refl refl (still_open event m refl here.opened)
              (put_into some i, (sender, after_put ∙ ap (λ (fs : List (File (List ℕ))). held_job s.job sender (q c job) (g + 1) false fs None ∷ []) put)),
          tt,
        )
    put_answered here some i one x e (Refused n) a m ample = absurd (no_put some i one n a)
    put_answered here some i one x e answer a m ample = absurd a

  -- the end of a file
  module _ (g sender : ℕ) (done : List (File (List ℕ))) (file : DataFile) (left : List DataFile) (pages : List (List ℕ)) where
    abbrev all : Held
    all = held_job s.job sender (q c job) g false (done ++ open_file file pages ∷ []) None

    abbrev ended_file : File (List ℕ)
    ended_file = record { name = file.name; count = length file.octets; pages = pages; ended = true }

    at_end : Rattle.spool_history.specs.Acts.at_last (λ (f : File (List ℕ)). record f { ended = true }) (done ++ open_file file pages ∷ []) ≡ done ++ ended_file ∷ []
    at_end = last_push (λ (f : File (List ℕ)). record f { ended = true }) done (open_file file pages)

    may_end : Within c job g done file left [] pages → w0.jobs ≡ all ∷ [] → MayEnd Octets w0 s.job
    may_end i one =
        let none : pages_for (z c job) 0 ≡ 0 = no_pages (z c job) k.ranges.page_size_low in
        let so_far = i.pages_so_far in
        let count : length pages ≡ pages_for (z c job) (length file.octets) = omega (arith, none, so_far) in (
          length done,
          is_received (acted (FileEnded (length done) true) all),
          has_only w0.jobs all (JobMay length c (FileEnded (length done) (is_received (acted (FileEnded (length done) true) all)))) one
              ((refl, refl), refl, (done, open_file file pages, refl, refl, refl, count), refl),
        )

    no_end : Within c job g done file left [] pages → w0.jobs ≡ all ∷ [] → (n : Refusal) → RefusesUnless (MayEnd Octets w0 s.job) n → ⊥
    no_end i one NotOpen a = a (may_end i one)
    no_end i one n a = absurd a

    rest : Within c job g done file left [] pages → Rest c job g (done ++ ended_file ∷ []) left
    rest i =
        let names : names_in (done ++ ended_file ∷ []) ≡ names_in done ++ file.name ∷ [] = names_push done ended_file in
        let none : pages_for (z c job) 0 ≡ 0 = no_pages (z c job) k.ranges.page_size_low in
        let room = i.room in
        record {
          named = ap (λ (l : List (List ℕ)). l ++ file_names left) names ∙ (append_assoc (names_in done) (file.name ∷ []) (file_names left) ∙ i.named);
          closed = closed_last done ended_file i.closed refl;
          fresh = subst (λ (l : List (List ℕ)). AllFresh l left) (sym names) i.fresh;
          sendable = i.sendable;
          room = omega (arith, room, none);
        }

    pub end_answered : Here c job coming s h (Inside false g done file left [] pages) → Within c job g done file left [] pages → w0.jobs ≡ all ∷ []
        → Answered c job h coming s EndFile (Acks ∷ []) (body job.name (text c job) left)
    end_answered here i one x e Stored a m ample =
        let act = FileEnded (file_now w0 s.job) false in
        let event : Event (List ℕ) = OfJob s.job act in
        let after_end = act_jobs c h l all act one refl m in
        let p' = Ready true g (done ++ ended_file ∷ []) left in
        let count : length (done ++ ended_file ∷ []) ≡ length done + 1 = length_push done ended_file in
        let same : 2 * length done + 2 ≡ 2 * length (done ++ ended_file ∷ []) + 0 = omega (arith, count) in (
          p',
          answered_here c job h coming s (Inside false g done file left [] pages) p' here EndFile (Acks ∷ []) x Stored refl e same refl (still_open event m refl here.opened)
              (rest i, (sender, after_end ∙ ap (λ (fs : List (File (List ℕ))). held_job s.job sender (q c job) g false fs None ∷ []) at_end)),
          tt,
        )
    end_answered here i one x e Received a m ample =
        absurd (let p = only_has w0.jobs all s.job (JobMay length c (FileEnded (file_now w0 s.job) true)) one m.0 in clash true refl p.3)
    end_answered here i one x e (Refused n) a m ample = absurd (no_end i one n a)
    end_answered here i one x e answer a m ample = absurd a

  -- the control file
  module _ (g sender : ℕ) (done : List (File (List ℕ))) where
    abbrev said : Contents
    said = contents job.control

    abbrev lacking : Held
    lacking = held_job s.job sender (q c job) g false done None

    abbrev complete : Held
    complete = held_job s.job sender (q c job) g false done (Some said)

    is_complete : names_in done ≡ file_names job.files → is_open_in done ≡ false → is_received complete ≡ true
    is_complete names closed =
        let all : list_all (λ name. Rattle.lpd_values.specs.Kept.is_among name (names_in done)) job.control.prints ≡ true =
        subst (λ (l : List (List ℕ)). list_all (λ name. Rattle.lpd_values.specs.Kept.is_among name l) job.control.prints ≡ true) (sym names) k.printed in
        rw (closed, all) refl

    no_control : w0.jobs ≡ lacking ∷ [] → (n : Refusal) → RefusesControl w0 s.job n → ⊥
    no_control one NotOpen a = a (has_only w0.jobs lacking IsReceiving one (refl, refl))
    no_control one ControlTwice a = (let p = only_has w0.jobs lacking s.job _ one a in p.1 refl)
    no_control one n a = absurd a

    pub control_answered : Here c job coming s h (ToldAt false g done) → names_in done ≡ file_names job.files → is_open_in done ≡ false → w0.jobs ≡ lacking ∷ []
        → Answered c job h coming s (Control said) (Acks ∷ []) []
    control_answered here names closed one x e Received a m ample =
        let act = Controlled said true in
        let event : Event (List ℕ) = OfJob s.job act in
        let count : length done + length {A = DataFile} [] ≡ length job.files = count_files done [] job.files (append-nil (names_in done) ∙ names) in
        let same : 2 * length done + 2 ≡ 2 * length job.files + 2 = omega (arith, count) in (
          Last true,
          answered_here c job h coming s (ToldAt false g done) (Last true) here (Control said) (Acks ∷ []) x Received refl e same refl (still_open event m refl here.opened)
              (inl refl),
          tt,
        )
    control_answered here names closed one x e Stored a m ample =
        absurd (let p = only_has w0.jobs lacking s.job (JobMay length c (Controlled said false)) one m.0 in clash (is_received complete) (is_complete names closed) (sym p.2))
    control_answered here names closed one x e (Refused n) a m ample = absurd (no_control one n a)
    control_answered here names closed one x e answer a m ample = absurd a
