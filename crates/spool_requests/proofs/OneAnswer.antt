-- One answer is due to a request: each is the one whose conditions hold up to a first one that doesn't.
use Rattle.std.proofs.Common.{◌≡◌, ℕ, zero, suc, ◌+◌, ◌<◌, Bool, true, false, List, [], ◌∷◌, length, None, refl, sym, ap, subst, ◌∙◌, arith}
use Rattle.lpd_values.specs.Contents.{Contents}
use Rattle.lpd_values.specs.declared.refusal.Refusal.TheVariants.{UnknownQueue, TableFull, AccountFull, Closed, OverClaim, ControlTwice, NameTaken, FilesFull, FileOpen, NotOpen, Memory}
use Rattle.config_values.specs.Config.{Config, IsQueue, queue_named}
use Rattle.page_pool.specs.Page.{Page}
use Rattle.receiver.specs.Script.{Request, Queue, Open, BeginFile, AskPage, Filled, EndFile, Control, AbortJob, StartPrinters, QueueState, RemoveJobs}
use Rattle.spool_history.specs.Base.{Base}
use Rattle.spool_history.specs.Events.{Event}
use Rattle.spool_history.specs.Events.Act.{FileEnded, Controlled}
use Rattle.spool_history.specs.Acts.{is_open_in}
use Rattle.spool_history.specs.Said.{Opening}
use Rattle.spool_history.specs.Now.{Job, State, now, is_received, job_of}
use Rattle.spool_history.specs.Steps.{acted}
use Rattle.spool_history.specs.Legal.{HasJob, HasNoFile, HasFileRoom, HasNoOpen, IsBelowLimit, IsReceiving, IsWithinLimit, CanAsk, MayGrant, IsLegal}
use Rattle.spool_history.specs.Refusals.{HasEntries}
use Rattle.spool_history.specs.Texts.{state_text, removal_text}
use Rattle.spool_laws.proofs.Known.{At, clash, has_at}
use Rattle.spool_laws.proofs.Facts.{facts}
use Rattle.spool_calls.specs.Looks.{Detail, What, size}
use Rattle.spool_calls.specs.Calls.{MayAbort, MayEnd, MayPut}
use Rattle.spool_requests.specs.declared.answer.Answer.{Answer}
use Rattle.spool_requests.specs.declared.answer.Answer.TheVariants.{Yes, Accepted, Lent, Later, Stored, Received, Told, Refused}
use Rattle.spool_requests.specs.Shows.{file_now, page_now}
use Rattle.spool_requests.specs.Due.{IsAnswer}
use Rattle.spool_requests.specs.Agree.{AnswersAgree, is_short}

-- the first k of these conditions hold, and the next one doesn't, if there is one
abbrev pub Fails : List (Type 0) → ℕ → Type 0
Fails [] zero = Unit {0}
Fails [] (suc k) = ⊥
Fails (P ∷ Ps) zero = P → ⊥
Fails (P ∷ Ps) (suc k) = P × Fails Ps k

pub one_place : (Ps : List (Type 0)) (k m : ℕ) → Fails Ps k → Fails Ps m → k ≡ m
one_place [] zero zero a b = refl
one_place [] zero (suc m) a b = absurd b
one_place [] (suc k) m a b = absurd a
one_place (P ∷ Ps) zero zero a b = refl
one_place (P ∷ Ps) zero (suc m) a b = absurd (a b.0)
one_place (P ∷ Ps) (suc k) zero a b = absurd (b a.0)
one_place (P ∷ Ps) (suc k) (suc m) a b = ap suc (one_place Ps k m a.1 b.1)

-- x stands at the first condition that doesn't hold
abbrev pub Stands : {X : Type 0} → List (Type 0) → (ℕ → X) → X → Type 0
Stands Ps f x = (k : ℕ) × Fails Ps k × (x ≡ f k)

pub one_stands : {X : Type 0} (Ps : List (Type 0)) (f : ℕ → X) (x y : X) → Stands Ps f x → Stands Ps f y → x ≡ y
one_stands Ps f x y a b = a.2 ∙ ap f (one_place Ps a.0 b.0 a.1 b.1) ∙ sym b.2

module _ (d : Detail) (c : Config) (b : Base) (h : List (Event (What d))) (l : IsLegal (size d) c b h) where
  abbrev v : State (What d)
  v = now c b h

  -- two things that hold of the job of a number hold of one job
  pub meets : (j : ℕ) (P Q : Job (What d) → Type 0) → HasJob v.jobs j P → HasJob v.jobs j Q → (w : Job (What d)) × P w × Q w
  meets j P Q p q =
      let x : At h j P = has_at c b h j P p in
      let y : At h j Q = has_at c b h j Q q in
      let same = (facts (size d) c b h l).once _ _ y.there x.there refl in
      (job_of h (record { job = j; sender = x.sender; queue = x.queue }), x.is, subst (λ (o : Opening). Q (job_of h o)) same y.is)

  weaker : (j : ℕ) (P Q : Job (What d) → Type 0) → ((w : Job (What d)) → P w → Q w) → HasJob v.jobs j P → HasJob v.jobs j Q
  weaker j P Q f p = record { job = p.job; there = p.there; number = p.number; is = f p.job p.is }

  -- a session asks whether a queue takes jobs

  module _ (name : List ℕ) where
    abbrev q : ℕ
    q = queue_named c name

    abbrev queue_holds : List (Type 0)
    queue_holds = (v.closed ≡ false) ∷ IsQueue c q ∷ []

    abbrev of_queue : Answer → ℕ → Answer
    of_queue good zero = Refused Closed
    of_queue good (suc zero) = Refused UnknownQueue
    of_queue good (suc (suc k)) = good

    for_queue : (sender j : ℕ) (x : Answer) → IsAnswer d v sender j (Queue name) x → Stands queue_holds (of_queue Yes) x
    for_queue sender j Yes a = (2, (a.due.0, (a.due.1, tt)), refl)
    for_queue sender j (Refused Closed) a = (0, (λ e. clash v.closed a.due e), refl)
    for_queue sender j (Refused UnknownQueue) a = (1, (a.due.0, a.due.1), refl)
    for_queue sender j _ a = absurd a.due

    for_start : (sender j : ℕ) (x : Answer) → IsAnswer d v sender j (StartPrinters name) x → Stands queue_holds (of_queue Yes) x
    for_start sender j Yes a = (2, (a.due.0, (a.due.1, tt)), refl)
    for_start sender j (Refused Closed) a = (0, (λ e. clash v.closed a.due e), refl)
    for_start sender j (Refused UnknownQueue) a = (1, (a.due.0, a.due.1), refl)
    for_start sender j _ a = absurd a.due

    for_removal : (agent : List ℕ) (list : List (List ℕ)) (sender j : ℕ) (x : Answer) → IsAnswer d v sender j (RemoveJobs name agent list) x → is_short x ≡ false → Stands queue_holds (of_queue (Told (removal_text v q agent list))) x
    for_removal agent list sender j (Told x) a s = (2, (a.due.0.0, (a.due.0.1, tt)), ap Told a.due.1)
    for_removal agent list sender j (Refused Closed) a s = (0, (λ e. clash v.closed a.due e), refl)
    for_removal agent list sender j (Refused UnknownQueue) a s = (1, (a.due.0, a.due.1), refl)
    for_removal agent list sender j (Refused Memory) a s = absurd (clash true refl s)
    for_removal agent list sender j _ a s = absurd a.due

    abbrev of_state : Answer → ℕ → Answer
    of_state good zero = Refused UnknownQueue
    of_state good (suc k) = good

    for_state : (list : List (List ℕ)) (long : Bool) (sender j : ℕ) (x : Answer) → IsAnswer d v sender j (QueueState name list long) x → is_short x ≡ false → Stands (IsQueue c q ∷ []) (of_state (Told (state_text v q list long))) x
    for_state list long sender j (Told x) a s = (1, (a.due.0, tt), ap Told a.due.1)
    for_state list long sender j (Refused UnknownQueue) a s = (0, a.due, refl)
    for_state list long sender j (Refused Memory) a s = absurd (clash true refl s)
    for_state list long sender j _ a s = absurd a.due

    -- a job is opened
    abbrev open_holds : List (Type 0)
    open_holds = (v.closed ≡ false) ∷ IsQueue c q ∷ (length v.jobs < c.max_jobs) ∷ HasEntries v q ∷ []

    abbrev of_open : ℕ → Answer
    of_open zero = Refused Closed
    of_open (suc zero) = Refused UnknownQueue
    of_open (suc (suc zero)) = Refused TableFull
    of_open (suc (suc (suc zero))) = Refused AccountFull
    of_open (suc (suc (suc (suc k)))) = Accepted (v.accepted + 1)

    for_open : (sender j : ℕ) (x : Answer) → IsAnswer d v sender j (Open name) x → is_short x ≡ false → Stands open_holds of_open x
    for_open sender j (Accepted n) a s =
        let m = a.may in
        let fits = m.5 in
        let same = m.4 in
        (4, (m.0, (m.1, (m.2, ((m.3, omega (arith, fits, same)), tt)))), ap Accepted m.4)
    for_open sender j (Refused Closed) a s = (0, (λ e. clash v.closed a.due e), refl)
    for_open sender j (Refused UnknownQueue) a s = (1, (a.due.0, a.due.1), refl)
    for_open sender j (Refused TableFull) a s = (2, (a.due.0.0, (a.due.0.1, (λ lt. (let le = a.due.1 in omega (arith, le, lt))))), refl)
    for_open sender j (Refused AccountFull) a s = (3, (a.due.0.0, (a.due.0.1, (a.due.1, a.due.2))), refl)
    for_open sender j (Refused Memory) a s = absurd (clash true refl s)
    for_open sender j _ a s = absurd a.due

  module _ (sender j : ℕ) where
    abbrev Holds : (Job (What d) → Type 0) → Type 0
    Holds P = HasJob v.jobs j P

    -- a data file begins

    abbrev Closed' : Job (What d) → Type 0
    Closed' w = IsReceiving w × HasNoOpen w

    abbrev Free : List ℕ → Job (What d) → Type 0
    Free name w = IsReceiving w × HasNoOpen w × HasNoFile name w

    abbrev Roomy : List ℕ → Job (What d) → Type 0
    Roomy name w = IsReceiving w × HasNoOpen w × HasNoFile name w × HasFileRoom w

    abbrev Within : List ℕ → ℕ → Job (What d) → Type 0
    Within name count w = IsReceiving w × HasNoOpen w × HasNoFile name w × HasFileRoom w × IsWithinLimit c count w

    abbrev file_holds : List ℕ → ℕ → List (Type 0)
    file_holds name count = Holds IsReceiving ∷ Holds Closed' ∷ Holds (Free name) ∷ Holds (Roomy name) ∷ Holds (Within name count) ∷ []

    abbrev of_file : ℕ → Answer
    of_file zero = Refused NotOpen
    of_file (suc zero) = Refused FileOpen
    of_file (suc (suc zero)) = Refused NameTaken
    of_file (suc (suc (suc zero))) = Refused FilesFull
    of_file (suc (suc (suc (suc zero)))) = Refused OverClaim
    of_file (suc (suc (suc (suc (suc k))))) = Yes

    for_file : (name : List ℕ) (count : ℕ) (x : Answer) → IsAnswer d v sender j (BeginFile name count) x → Stands (file_holds name count) of_file x
    for_file name count Yes a =
        let m = a.may.0 in
        (5, (weaker j _ IsReceiving (λ w p. p.0) m, (weaker j _ Closed' (λ w p. (p.0, p.1)) m, (weaker j _ (Free name) (λ w p. (p.0, p.1, p.2)) m, (weaker j _ (Roomy name) (λ w p. (p.0, p.1, p.2, p.3)) m, (m, tt))))), refl)
    for_file name count (Refused NotOpen) a = (0, a.due, refl)
    for_file name count (Refused FileOpen) a =
        let m = a.due in
        (1, (weaker j _ IsReceiving (λ w p. p.0) m, λ n. (let x = meets j _ Closed' m n in clash (is_open_in x.0.files) x.1.1 x.2.1)), refl)
    for_file name count (Refused NameTaken) a =
        let m = a.due in
        (2, (weaker j _ IsReceiving (λ w p. p.0) m, (weaker j _ Closed' (λ w p. (p.0, p.1)) m, λ n. (let x = meets j _ (Free name) m n in clash _ x.1.2 x.2.2))), refl)
    for_file name count (Refused FilesFull) a =
        let m = a.due in
        (3, (weaker j _ IsReceiving (λ w p. p.0) m, (weaker j _ Closed' (λ w p. (p.0, p.1)) m, (weaker j _ (Free name) (λ w p. (p.0, p.1, p.2)) m, λ n. (let x = meets j _ (Roomy name) m n in x.1.3 x.2.3)))), refl)
    for_file name count (Refused OverClaim) a =
        let m = a.due in
        (4, (weaker j _ IsReceiving (λ w p. p.0) m, (weaker j _ Closed' (λ w p. (p.0, p.1)) m, (weaker j _ (Free name) (λ w p. (p.0, p.1, p.2)) m, (weaker j _ (Roomy name) (λ w p. (p.0, p.1, p.2, p.3)) m, λ n. (let x = meets j _ (Within name count) m n in x.1.4 x.2.4))))), refl)
    for_file name count _ a = absurd a.due

    -- a page is asked for

    abbrev Below : Job (What d) → Type 0
    Below w = CanAsk w × IsBelowLimit c w

    abbrev page_holds : List (Type 0)
    page_holds = Holds CanAsk ∷ Holds Below ∷ MayGrant v j ∷ []

    abbrev of_page : ℕ → Answer
    of_page zero = Refused NotOpen
    of_page (suc zero) = Refused OverClaim
    of_page (suc (suc zero)) = Later
    of_page (suc (suc (suc k))) = Lent c.page_size

    for_page : (x : Answer) → IsAnswer d v sender j AskPage x → Stands page_holds of_page x
    for_page (Lent page_size) a = (3, (weaker j _ CanAsk (λ w p. p.0) a.may.0, (a.may.0, (a.may.1, tt))), ap Lent a.due)
    for_page Later a = (2, (weaker j _ CanAsk (λ w p. p.0) a.due.0, (a.due.0, a.due.1)), refl)
    for_page (Refused NotOpen) a = (0, a.due, refl)
    for_page (Refused OverClaim) a = (let m = a.due in (1, (weaker j _ CanAsk (λ w p. p.0) m, λ n. (let x = meets j _ Below m n in x.1.1 x.2.1)), refl))
    for_page _ a = absurd a.due

    -- a page is put, and a job aborted

    abbrev of_one : Answer → ℕ → Answer
    of_one good zero = Refused NotOpen
    of_one good (suc k) = good

    for_put : (page : Page) (x : Answer) → IsAnswer d v sender j (Filled page) x → Stands (MayPut d v j page ∷ []) (of_one Yes) x
    for_put page Yes a = (1, ((file_now v j, page_now v j, (a.may.0, a.due)), tt), refl)
    for_put page (Refused NotOpen) a = (0, a.due, refl)
    for_put page _ a = absurd a.due

    for_abort : (x : Answer) → IsAnswer d v sender j AbortJob x → Stands (MayAbort d v j None ∷ []) (of_one Yes) x
    for_abort Yes a = (1, (a.due, tt), refl)
    for_abort (Refused NotOpen) a = (0, a.due, refl)
    for_abort _ a = absurd a.due

    -- a file ends

    abbrev WholeThen : ℕ → Bool → Job (What d) → Type 0
    WholeThen file whole w = whole ≡ is_received (acted (FileEnded file whole) w)

    abbrev end_holds : List (Type 0)
    end_holds = MayEnd d v j ∷ Holds (WholeThen (file_now v j) true) ∷ []

    abbrev of_end : ℕ → Answer
    of_end zero = Refused NotOpen
    of_end (suc zero) = Stored
    of_end (suc (suc k)) = Received

    for_end : (x : Answer) → IsAnswer d v sender j EndFile x → Stands end_holds of_end x
    for_end Stored a =
        let f = file_now v j in
        (1, ((f, false, a.may.0), λ n. (let x = meets j _ (WholeThen f true) a.may.0 n in clash (is_received (acted (FileEnded f true) x.0)) (sym x.2) (sym x.1.3))), refl)
    for_end Received a = (let f = file_now v j in (2, ((f, true, a.may.0), (weaker j _ (WholeThen f true) (λ w p. p.3) a.may.0, tt)), refl))
    for_end (Refused NotOpen) a = (0, a.due, refl)
    for_end _ a = absurd a.due

    -- a control file comes

    abbrev Lacks : Job (What d) → Type 0
    Lacks w = IsReceiving w × (w.control ≡ None)

    abbrev WholeBy : Contents → Bool → Job (What d) → Type 0
    WholeBy control whole w = whole ≡ is_received (acted (Controlled control whole) w)

    abbrev control_holds : Contents → List (Type 0)
    control_holds control = Holds IsReceiving ∷ Holds Lacks ∷ Holds (WholeBy control true) ∷ []

    abbrev of_control : ℕ → Answer
    of_control zero = Refused NotOpen
    of_control (suc zero) = Refused ControlTwice
    of_control (suc (suc zero)) = Stored
    of_control (suc (suc (suc k))) = Received

    for_control : (control : Contents) (x : Answer) → IsAnswer d v sender j (Control control) x → Stands (control_holds control) of_control x
    for_control control Stored a =
        let m = a.may.0 in
        (2, (weaker j _ IsReceiving (λ w p. p.0) m, (weaker j _ Lacks (λ w p. (p.0, p.1)) m, λ n. (let x = meets j _ (WholeBy control true) m n in clash (is_received (acted (Controlled control true) x.0)) (sym x.2) (sym x.1.2)))), refl)
    for_control control Received a =
        let m = a.may.0 in
        (3, (weaker j _ IsReceiving (λ w p. p.0) m, (weaker j _ Lacks (λ w p. (p.0, p.1)) m, (weaker j _ (WholeBy control true) (λ w p. p.2) m, tt))), refl)
    for_control control (Refused NotOpen) a = (0, a.due, refl)
    for_control control (Refused ControlTwice) a =
        let m = a.due in
        (1, (weaker j _ IsReceiving (λ w p. p.0) m, λ n. (let x = meets j _ Lacks m n in x.1.1 x.2.1)), refl)
    for_control control _ a = absurd a.due

    agree : (r : Request) (x y : Answer) → IsAnswer d v sender j r x → IsAnswer d v sender j r y → is_short x ≡ false → is_short y ≡ false → x ≡ y
    agree (Queue name) x y a e s t = one_stands (queue_holds name) _ x y (for_queue name sender j x a) (for_queue name sender j y e)
    agree (Open name) x y a e s t = one_stands (open_holds name) _ x y (for_open name sender j x a s) (for_open name sender j y e t)
    agree (BeginFile name count) x y a e s t = one_stands (file_holds name count) _ x y (for_file name count x a) (for_file name count y e)
    agree AskPage x y a e s t = one_stands page_holds _ x y (for_page x a) (for_page y e)
    agree (Filled page) x y a e s t = one_stands (MayPut d v j page ∷ []) _ x y (for_put page x a) (for_put page y e)
    agree EndFile x y a e s t = one_stands end_holds _ x y (for_end x a) (for_end y e)
    agree (Control control) x y a e s t = one_stands (control_holds control) _ x y (for_control control x a) (for_control control y e)
    agree AbortJob x y a e s t = one_stands (MayAbort d v j None ∷ []) _ x y (for_abort x a) (for_abort y e)
    agree (StartPrinters name) x y a e s t = one_stands (queue_holds name) _ x y (for_start name sender j x a) (for_start name sender j y e)
    agree (QueueState name list long) x y a e s t = one_stands (IsQueue c (q name) ∷ []) _ x y (for_state name list long sender j x a s) (for_state name list long sender j y e t)
    agree (RemoveJobs name agent list) x y a e s t = one_stands (queue_holds name) _ x y (for_removal name agent list sender j x a s) (for_removal name agent list sender j y e t)

pub answers_agree : AnswersAgree
answers_agree d c b h l sender job r x y a e s t = agree d c b h l sender job r x y a e s t
