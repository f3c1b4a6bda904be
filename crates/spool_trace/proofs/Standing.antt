-- What is kept along every right trace.
use Rattle.std.proofs.Common.{◌≡◌, ◌≢◌, ℕ, zero, suc, ◌-◌, ◌<◌, ◌≤◌, ◌⊎◌, Bool, true, false, List, [], ◌∷◌, ◌++◌, length, get_or, Option, Some, None, refl, sym, ap, subst, ◌∙◌, arith, inl, inr, append_assoc, append-nil}
use Rattle.std.specs.Prelude.{◌&&◌, if◌then◌else◌}
use Rattle.std.specs.List.{concat}
use Rattle.std.proofs.lemmas.List.{length-append, length-set, get_or-set_same, get_or-set_other, get_or_append_left}
use Rattle.account.specs.Seen.{progress_seen}
use Rattle.config_values.specs.Config.{Config}
use Rattle.spool_history.specs.Base.{first_base}
use Rattle.spool_history.specs.Events.{Event, Sheet, Turn}
use Rattle.spool_history.specs.Events.Event.{Opened, AtPrinter, Closed}
use Rattle.spool_history.specs.Events.Turn.{Handed, Printed, Failed}
use Rattle.spool_history.specs.Said.{openings}
use Rattle.spool_history.specs.Now.{State, now}
use Rattle.spool_history.specs.Next.{printer_at}
use Rattle.spool_history.specs.Legal.{IsLegal}
use Rattle.spool_laws.proofs.Known.{clash, test}
use Rattle.spool_laws.proofs.Facts.{Facts, Unknown, facts}
use Rattle.spool_calls.specs.Looks.Detail.{Octets}
use Rattle.spool_requests.specs.Shows.{may_abort, with_event}
use Rattle.spool_requests.specs.Due.{MayCome}
use Rattle.spool_trace.specs.declared.step.Step.{Step}
use Rattle.spool_trace.specs.declared.step.Step.TheVariants as step
use Rattle.spool_trace.specs.declared.reply.Given.TheVariants as given
use Rattle.spool_trace.specs.declared.reply.Deed.{Deed}
use Rattle.spool_trace.specs.declared.reply.Reply.{Reply}
use Rattle.spool_trace.specs.declared.reply.Reply.TheVariants as reply
use Rattle.spool_trace.specs.Trace.{Entry, Trace, sheet_of}
use Rattle.spool_trace.specs.Sessions.{Session, new_session, session_at, change_at, due_in, ends, moved, sessions, takes, turns}
use Rattle.spool_trace.specs.Shown.{comes_back, end_in, events, of_turn, shown, spool_after}
use Rattle.spool_trace.specs.Replies.{IsReplyIn, IsDueTurn, IsSession, IsTrace}
use Rattle.spool_trace.proofs.Legal.{legal}
use Rattle.spool_trace.proofs.Unread.{unread_end}
use Rattle.spool_trace.proofs.Stages.{due_fine}
use Rattle.spool_trace.proofs.Stages.Stage.{Between}
use Rattle.spool_trace.proofs.Kept.{History, Good, Kept, AllCame, AreApart, HaveGrown, Owned, Still, good_still, later, still_other}
use Rattle.spool_trace.proofs.AllFiles.{Changed, all_after}
use Rattle.spool_trace.proofs.Turned.{Holds, turn_outcome, ended_plain, ends_owned, turned_sender, turned_arrived, aborts}

-- lists of sessions

pub same_at : (ss : List Session) (n : ℕ) (f : Session → Session) → IsSession ss n → session_at (change_at n f ss) n ≡ f (session_at ss n)
same_at ss n f is = (let one = is.0 in let le = is.1 in get_or-set_same ss (n - 1) (f (session_at ss n)) (new_session 0) (omega (arith, one, le)))

pub other_at : (ss : List Session) (n m : ℕ) (f : Session → Session) → 1 ≤ n → 1 ≤ m → m ≢ n → session_at (change_at n f ss) m ≡ session_at ss m
other_at ss n m f one two ne =
    let apart : m - 1 ≢ n - 1 = λ e. ne (omega (arith, one, two, e)) in
    get_or-set_other ss (n - 1) (m - 1) (f (session_at ss n)) (new_session 0) apart

still_session : (ss : List Session) (n m : ℕ) (f : Session → Session) → IsSession ss m → IsSession (change_at n f ss) m
still_session ss n m f is = (is.0, (let le = is.1 in let l = length-set ss (n - 1) (f (session_at ss n)) in omega (arith, le, l)))

pub grown_change : (ss : List Session) (n : ℕ) (f : Session → Session) (more : List ℕ) → IsSession ss n → (f (session_at ss n)).sender ≡ (session_at ss n).sender → (f (session_at ss n)).arrived ≡ (session_at ss n).arrived ++ more
    → HaveGrown ss (change_at n f ss)
grown_change ss n f more is sender arrived m there = elim (test m n) [
  | inl s ↦
      let e : session_at (change_at n f ss) m ≡ f (session_at ss n) = ap (λ (i : ℕ). session_at (change_at n f ss) i) s.0 ∙ same_at ss n f is in
      let b : session_at ss n ≡ session_at ss m = ap (session_at ss) (sym s.0) in
      record {
        there = still_session ss n m f there;
        from = ap (λ (x : Session). x.sender) e ∙ sender ∙ ap (λ (x : Session). x.sender) b;
        more = more;
        arrived = ap (λ (x : Session). x.arrived) e ∙ arrived ∙ ap (λ (x : Session). x.arrived ++ more) b;
      }
  | inr s ↦
      let e : session_at (change_at n f ss) m ≡ session_at ss m = other_at ss n m f is.0 there.0 s.0 in
      record {
        there = still_session ss n m f there;
        from = ap (λ (x : Session). x.sender) e;
        more = [];
        arrived = ap (λ (x : Session). x.arrived) e ∙ sym (append-nil (session_at ss m).arrived);
      }
]

grown_same : (ss : List Session) → HaveGrown ss ss
grown_same ss m there = record { there = there; from = refl; more = []; arrived = sym (append-nil (session_at ss m).arrived) }

grown_more : (ss : List Session) (x : Session) → HaveGrown ss (ss ++ x ∷ [])
grown_more ss x m there =
    let one = there.0 in
    let le = there.1 in
    let l = length-append ss (x ∷ []) in
    let e : session_at (ss ++ x ∷ []) m ≡ session_at ss m = get_or_append_left ss (x ∷ []) (new_session 0) (m - 1) (omega (arith, one, le)) in
    record { there = (one, omega (arith, le, l)); from = ap (λ (y : Session). y.sender) e; more = []; arrived = ap (λ (y : Session). y.arrived) e ∙ sym (append-nil (session_at ss m).arrived) }

-- a place of a list with one more is that one, past all others, or as it was
at_more : (x d : Session) (ss : List Session) (j : ℕ) → (get_or (ss ++ x ∷ []) j d ≡ get_or ss j d) ⊎ (get_or (ss ++ x ∷ []) j d ≡ x)
at_more x d [] zero = inr refl
at_more x d [] (suc j) = inl refl
at_more x d (y ∷ ys) zero = inl refl
at_more x d (y ∷ ys) (suc j) = at_more x d ys j

module _ (c : Config) (h : History) (t : Trace) (e : Entry) (ss : List Session) (l : IsLegal length c first_base h) (k : Kept h t ss) where
  fs : Facts first_base h
  fs = facts length c first_base h l

  unknown : (j : ℕ) → length (openings h) < j → Unknown h j
  unknown j lt = fs.fresh j (inr (omega (arith, lt)))

  new_unknown : (o : Option (Event (List ℕ))) → MayCome Octets (now c first_base h) o → (j sender q : ℕ) → o ≡ Some (Opened j sender q) → Unknown h j
  new_unknown o may j sender q is =
      let m = subst (λ (x : Option (Event (List ℕ))). MayCome Octets (now c first_base h) x) is may in
      let n = m.4 in
      unknown j (omega (arith, n))

  -- the job of a session is one of those that were accepted
  number : (n : ℕ) → 1 ≤ n → (session_at ss n).progress.job ≡ true → (session_at ss n).job ≤ length (openings h)
  number n one j = (let a = (k.each n one).accepted j in let le = (fs.numbers _ a.1).1 in omega (arith, le))

  -- nothing was done by a session
  quiet : (o : Option (Event (List ℕ))) → ((j : ℕ) → Still h o j) → MayCome Octets (now c first_base h) o → Changed h t e ss ss (grown_same ss) k.all o → Kept (with_event o h) (e ∷ t) ss
  quiet o still may ch = record {
    each = λ n one. good_still h t n (session_at ss n) e o (λ j. still (session_at ss n).job) (k.each n one);
    apart = k.apart;
    all = all_after h t e ss ss (grown_same ss) k.all o (new_unknown o may) ch;
  }

  nothing : Kept h (e ∷ t) ss
  nothing = quiet None (λ j. refl) tt tt

  new_good : (n sender : ℕ) → Good h (e ∷ t) n (new_session sender)
  new_good n sender = record { stage = Between; items = refl; needs = tt; accepted = λ j. absurd (clash false j refl); inside = λ i. absurd i; page = λ open'. refl }

  connects : (sender : ℕ) → Kept h (e ∷ t) (ss ++ new_session sender ∷ [])
  connects sender =
      let x : Session = new_session sender in
      let rs : List Session = ss ++ x ∷ [] in
      record {
        each = λ n one. elim (at_more x (new_session 0) ss (n - 1)) [
          | inl s ↦ subst (λ (y : Session). Good h (e ∷ t) n y) (sym s) (good_still h t n (session_at ss n) e None (λ j. refl) (k.each n one))
          | inr s ↦ subst (λ (y : Session). Good h (e ∷ t) n y) (sym s) (new_good n sender)
        ];
        apart = λ n m one two ne jn jm. elim (at_more x (new_session 0) ss (n - 1)) [
          | inl a ↦ elim (at_more x (new_session 0) ss (m - 1)) [
            | inl b ↦ λ same. k.apart n m one two ne (ap (λ (y : Session). y.progress.job) (sym a) ∙ jn) (ap (λ (y : Session). y.progress.job) (sym b) ∙ jm) (ap (λ (y : Session). y.job) (sym a) ∙ same ∙ ap (λ (y : Session). y.job) b)
            | inr b ↦ absurd (clash false (ap (λ (y : Session). y.progress.job) (sym b) ∙ jm) refl)
          ]
          | inr a ↦ absurd (clash false (ap (λ (y : Session). y.progress.job) (sym a) ∙ jn) refl)
        ];
        all = all_after h t e ss rs (grown_more ss x) k.all None (λ j s q is. absurd cc) tt;
      }

  -- one session did something
  module _ (n : ℕ) (f : Session → Session) (o : Option (Event (List ℕ))) (is : IsSession ss n) (good : Good (with_event o h) (e ∷ t) n (f (session_at ss n))) (holds : Holds h (session_at ss n) (f (session_at ss n))) (owned : Owned (session_at ss n) o) where
    abbrev rs : List Session
    rs = change_at n f ss

    each : (m : ℕ) → 1 ≤ m → Good (with_event o h) (e ∷ t) m (session_at rs m)
    each m one = elim (test m n) [
      | inl s ↦
          subst (λ (i : ℕ). Good (with_event o h) (e ∷ t) i (session_at rs i)) (sym s.0) (subst (λ (y : Session). Good (with_event o h) (e ∷ t) n y) (sym (same_at ss n f is)) good)
      | inr s ↦
          subst (λ (y : Session). Good (with_event o h) (e ∷ t) m y) (sym (other_at ss n m f is.0 one s.0))
          (good_still h t m (session_at ss m) e o (λ jm. still_other h (session_at ss n) o (session_at ss m).job owned (λ jn. k.apart n m is.0 one (λ x. s.0 (sym x)) jn jm)) (k.each m one))
    ]

    -- the changed session and another one
    mine : (m : ℕ) → 1 ≤ m → m ≢ n → (f (session_at ss n)).progress.job ≡ true → (session_at ss m).progress.job ≡ true → (f (session_at ss n)).job ≢ (session_at ss m).job
    mine m one ne jn jm = elim (holds jn) [
      | inl a ↦ λ same. k.apart n m is.0 one (λ x. ne (sym x)) a.0 jm (sym a.1 ∙ same)
      | inr lt ↦ λ same. (let le = number m one jm in omega (arith, lt, le, same))
    ]

    apart : AreApart rs
    apart m p one two ne jm jp = elim (test m n) [
      | inl a ↦
          let em : session_at rs m ≡ f (session_at ss n) = ap (session_at rs) a.0 ∙ same_at ss n f is in
          let np : p ≢ n = λ x. ne (a.0 ∙ sym x) in
          let ep = other_at ss n p f is.0 two np in
          λ same. mine p two np (ap (λ (y : Session). y.progress.job) (sym em) ∙ jm) (ap (λ (y : Session). y.progress.job) (sym ep) ∙ jp) (ap (λ (y : Session). y.job) (sym em) ∙ same ∙ ap (λ (y : Session). y.job) ep)
      | inr a ↦
          let em = other_at ss n m f is.0 one a.0 in
          elim (test p n) [
            | inl b ↦
                let ep : session_at rs p ≡ f (session_at ss n) = ap (session_at rs) b.0 ∙ same_at ss n f is in
                λ same. mine m one a.0 (ap (λ (y : Session). y.progress.job) (sym ep) ∙ jp) (ap (λ (y : Session). y.progress.job) (sym em) ∙ jm) (ap (λ (y : Session). y.job) (sym ep) ∙ sym same ∙ ap (λ (y : Session). y.job) em)
            | inr b ↦
                let ep = other_at ss n p f is.0 two b.0 in
                λ same. k.apart m p one two ne (ap (λ (y : Session). y.progress.job) (sym em) ∙ jm) (ap (λ (y : Session). y.progress.job) (sym ep) ∙ jp) (ap (λ (y : Session). y.job) (sym em) ∙ same ∙ ap (λ (y : Session). y.job) ep)
          ]
    ]

    acted : (grown : HaveGrown ss rs) → Changed h t e ss rs grown k.all o → MayCome Octets (now c first_base h) o → Kept (with_event o h) (e ∷ t) rs
    acted grown ch may = record { each = each; apart = apart; all = all_after h t e ss rs grown k.all o (new_unknown o may) ch }

-- octets that arrive
arrived_good : (h : History) (t : Trace) (n : ℕ) (s : Session) (e : Entry) (octets : List ℕ) → Good h t n s → Good h (e ∷ t) n (takes octets s)
arrived_good h t n s e octets g = record {
  stage = g.stage;
  items = g.items;
  needs = g.needs;
  accepted = g.accepted;
  inside = λ i.
      let f = g.inside i in
      let read : List ℕ = f.came.read in
      let pages : List ℕ = concat f.file.pages in
      record {
        before = f.before;
        file = f.file;
        files = f.files;
        came = later t e n s.job f.file.name f.file.count f.came;
        is = ap (λ (x : List ℕ). x ++ octets) f.is ∙ append_assoc read (pages ++ s.unread) octets ∙ ap (λ (x : List ℕ). read ++ x) (append_assoc pages s.unread octets);
      };
  page = g.page;
}

ended_change : (h : History) (t : Trace) (e : Entry) (ss next : List Session) (grown : HaveGrown ss next) (all : AllCame h t ss) (j : ℕ) (b : Bool) → Changed h t e ss next grown all (aborts b j)
ended_change h t e ss next grown all j true = tt
ended_change h t e ss next grown all j false = tt

-- one more entry
module _ (c : Config) (t : Trace) (l : IsLegal length c first_base (events c t)) (k : Kept (events c t) t (sessions t)) where
  abbrev h : History
  h = events c t

  abbrev ss : List Session
  ss = sessions t

  abbrev v : State (List ℕ)
  v = spool_after c t

  arrives : (e : Entry) (n : ℕ) (octets : List ℕ) → IsSession ss n → Kept h (e ∷ t) (change_at n (takes octets) ss)
  arrives e n octets is =
      let grown = grown_change ss n (takes octets) octets is refl refl in
      acted c h t e ss l k n (takes octets) None is (arrived_good h t n (session_at ss n) e octets (k.each n is.0)) (λ j. inl (j, refl)) tt grown tt tt

  breaks : (e : Entry) (n : ℕ) → IsSession ss n → MayCome Octets v (end_in v (session_at ss n)) → Kept (with_event (end_in v (session_at ss n)) h) (e ∷ t) (change_at n ends ss)
  breaks e n is may =
      let s : Session = session_at ss n in
      let grown = grown_change ss n ends [] is refl (sym (append-nil s.arrived)) in
      let g = k.each n is.0 in
      acted c h t e ss l k n ends (end_in v s) is (ended_plain c h t n s e g (unread_end t n) (unknown c h t e ss l k)) (λ j. inl (j, refl)) (ends_owned v s) grown (ended_change h t e ss (change_at n ends ss) grown k.all s.job (s.progress.job && may_abort v s.job)) may

  turns_so : (e : Entry) (n : ℕ) (done : Deed) → e ≡ record { step = step.Turn n; reply = reply.Turned done } → IsSession ss n → (session_at ss n).over ≡ false → IsDueTurn v (session_at ss n).job (due_in (session_at ss n)) done
      → MayCome Octets v (of_turn v (session_at ss n) (due_in (session_at ss n)) done)
      → Kept (with_event (of_turn v (session_at ss n) (due_in (session_at ss n)) done) h) (e ∷ t) (change_at n (turns done) ss)
  turns_so e n done e_is is going due may =
      let s : Session = session_at ss n in
      let g = k.each n is.0 in
      let arrived : (turns done s).arrived ≡ s.arrived ++ [] = turned_arrived (due_in s) done s ∙ sym (append-nil s.arrived) in
      let grown = grown_change ss n (turns done) [] is (turned_sender (due_in s) done s) arrived in
      let out = turn_outcome c h t n s e g refl going (unread_end t n) (unknown c h t e ss l k) (facts length c first_base h l).once ss (change_at n (turns done) ss) grown k.all (turns done s) (same_at ss n (turns done) is) (still_session ss n n (turns done) is)
      (due_in s) done refl (due_fine s.progress g.stage s.unread g.items g.needs) due may e_is refl in
      acted c h t e ss l k n (turns done) (of_turn v s (due_in s) done) is out.good out.holds out.owned grown out.changed may

  came_back : (e : Entry) (p : ℕ) (turn : Turn) (out : Option (Sheet (List ℕ))) → MayCome Octets v (comes_back p turn out) → Kept (with_event (comes_back p turn out) h) (e ∷ t) ss
  came_back e p turn None may = nothing c h t e ss l k
  came_back e p turn (Some sheet) may = quiet c h t e ss l k (Some (AtPrinter p sheet turn)) (λ j. refl) may tt

  closes : (e : Entry) (b : Bool) → MayCome Octets v (if b then None else Some Closed) → Kept (with_event (if b then None else Some Closed) h) (e ∷ t) ss
  closes e true may = nothing c h t e ss l k
  closes e false may = quiet c h t e ss l k (Some Closed) (λ j. refl) may tt

  one_more_entry : (st : Step) (re : Reply) → IsReplyIn v ss st re → Kept (with_event (shown v ss st re) h) (record { step = st; reply = re } ∷ t) (moved st re ss)
  one_more_entry (step.Connect sender) (reply.Connected n) r = connects c h t _ ss l k sender
  one_more_entry (step.Arrive n octets) reply.Taken r = arrives _ n octets r.due.0
  one_more_entry (step.Turn n) (reply.Turned done) r = turns_so _ n done refl r.due.0 r.due.1 r.due.2 r.may
  one_more_entry (step.Break n) reply.Broken r = breaks _ n r.due.0 r.may
  one_more_entry (step.Next p) (reply.Gave (given.Page page)) r = quiet c h t _ ss l k (Some (AtPrinter p (sheet_of page) Handed)) (λ j. refl) r.may tt
  one_more_entry (step.Next p) (reply.Gave given) r = nothing c h t _ ss l k
  one_more_entry (step.Printed p) (reply.Printed progress) r = came_back _ p (Printed (progress_seen progress)) (printer_at v p).out r.may
  one_more_entry (step.Failed p) reply.Failed r = came_back _ p Failed (printer_at v p).out r.may
  one_more_entry step.Shutdown reply.Closed r = closes _ v.closed r.may
  one_more_entry st re r = nothing c h t _ ss l k

at_start : (c : Config) → Kept [] [] []
at_start c = record {
  each = λ n one. new_at n;
  apart = λ n m one two ne jn jm. absurd (clash false jn refl);
  all = λ o f has of_job. absurd has;
}
  where
    new_at : (n : ℕ) → Good [] [] n (new_session 0)
    new_at n = record { stage = Between; items = refl; needs = tt; accepted = λ j. absurd (clash false j refl); inside = λ i. absurd i; page = λ open'. refl }

pub kept : (c : Config) (t : Trace) → IsTrace c t → Kept (events c t) t (sessions t)
kept c [] r = at_start c
kept c (e ∷ t) r = one_more_entry c t (legal c t r.1) (kept c t r.1) e.step e.reply r.0
