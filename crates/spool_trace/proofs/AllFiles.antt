-- Every file of every job came on a session of its sender: what one more entry leaves of that.
use Rattle.std.proofs.Common.{◌≡◌, ℕ, ◌⊎◌, Bool, List, [], ◌∷◌, ◌++◌, Option, Some, None, refl, sym, ap, subst, ◌∙◌, inl, inr}
use Rattle.spool_history.specs.Events.{Act, Event}
use Rattle.spool_history.specs.Events.Act.{Granted, Began, Put, FileEnded, Controlled, Aborted}
use Rattle.spool_history.specs.Events.Event.{Opened, OfJob, AtPrinter, Removed, Started, Closed}
use Rattle.spool_history.specs.Acts.{File, at_last, files_by}
use Rattle.spool_history.specs.Said.{Opening, openings, acts_of}
use Rattle.spool_laws.proofs.Known.{Has, has_last, test}
use Rattle.spool_laws.proofs.Counts.{with_end}
use Rattle.spool_laws.proofs.Facts.{Unknown, acts_other}
use Rattle.spool_requests.specs.Shows.{with_event}
use Rattle.spool_trace.specs.Trace.{Entry, Trace}
use Rattle.spool_trace.specs.Sessions.{Session, session_at}
use Rattle.spool_trace.specs.Replies.{IsSession}
use Rattle.spool_trace.proofs.Kept.{History, CameAt, AllCame, InLast, IsAccepted, HaveGrown, all_still, came_later}

has_changed : {A : Type 0} (k : A → A) (x : A) (xs : List A) → Has x (at_last k xs) → Has x xs ⊎ ((y : A) × Has y xs × (x ≡ k y))
has_changed k x [] has = absurd has
has_changed k x (y ∷ []) has = elim has [ inl e ↦ inr (y, inl refl, sym e) | inr z ↦ absurd z ]
has_changed k x (y ∷ z ∷ zs) has = elim has [
  | inl e ↦ inl (inl e)
  | inr h ↦ elim (has_changed k x (z ∷ zs) h) [ inl a ↦ inl (inr a) | inr b ↦ inr (b.0, inr b.1, b.2) ]
]

pub files_act : (h : History) (k : ℕ) (act : Act (List ℕ)) (j : ℕ) → ((a : List (Act (List ℕ))) → files_by (act ∷ a) ≡ files_by a) → files_by (acts_of (OfJob k act ∷ h) j) ≡ files_by (acts_of h j)
files_act h k act j same = elim (test k j) [ inl s ↦ rw s.1 (same (acts_of h j)) | inr s ↦ rw s.1 refl ]

module _ (h : History) (t : Trace) (e : Entry) (ss rs : List Session) (grown : HaveGrown ss rs) (all : AllCame h t ss) where
  -- of the files of a job only the last is another one than before, and it came
  pub record Last (k : History) (j : ℕ) : Type 0 where
    pub before : List (File (List ℕ))
    pub file : File (List ℕ)
    pub files : files_by (acts_of k j) ≡ before ++ file ∷ []
    pub old : (x : File (List ℕ)) → Has x before → Has x (files_by (acts_of h j))
    pub came : (o : Opening) → Has o (openings h) → o.job ≡ j → CameAt (e ∷ t) rs o.sender j file

  -- what has to be known of an event that changes a file
  abbrev pub Changed : Option (Event (List ℕ)) → Type 0
  Changed (Some (OfJob j (Began name count))) = Last (OfJob j (Began name count) ∷ h) j
  Changed (Some (OfJob j (Put file number page))) = Last (OfJob j (Put file number page) ∷ h) j
  Changed _ = Unit {0}

  came_old : (o : Opening) (f : File (List ℕ)) → Has o (openings h) → Has f (files_by (acts_of h o.job)) → CameAt (e ∷ t) rs o.sender o.job f
  came_old o f has of_job = came_later t e ss rs o.sender o.job f grown (all o f has of_job)

  changed : (j : ℕ) (act : Act (List ℕ)) → Last (OfJob j act ∷ h) j → AllCame (OfJob j act ∷ h) (e ∷ t) rs
  changed j act l o f has of_job = elim (test j o.job) [
    | inl s ↦
        let mine : Has f (l.before ++ l.file ∷ []) = subst (λ (x : List (File (List ℕ))). Has f x) l.files (subst (λ (i : ℕ). Has f (files_by (acts_of (OfJob j act ∷ h) i))) (sym s.0) of_job) in
        elim (has_last f l.before l.file mine) [
          | inl a ↦ came_old o f has (subst (λ (i : ℕ). Has f (files_by (acts_of h i))) s.0 (l.old f a))
          | inr b ↦ subst (λ (x : File (List ℕ)). CameAt (e ∷ t) rs o.sender o.job x) b (subst (λ (i : ℕ). CameAt (e ∷ t) rs o.sender i l.file) s.0 (l.came o has (sym s.0)))
        ]
    | inr s ↦ came_old o f has (subst (λ (a : List (Act (List ℕ))). Has f (files_by a)) (acts_other h j act o.job s.0) of_job)
  ]

  -- a file that ended is the same but for that
  came_ended : (sender job : ℕ) (f : File (List ℕ)) → CameAt (e ∷ t) rs sender job f → CameAt (e ∷ t) rs sender job (with_end f)
  came_ended sender job f a = record { session = a.session; there = a.there; from = a.from; came = a.came; after = a.after; is = a.is }

  file_ended : (j file : ℕ) (whole : Bool) → AllCame (OfJob j (FileEnded file whole) ∷ h) (e ∷ t) rs
  file_ended j file whole o f has of_job = elim (test j o.job) [
    | inl s ↦
        let acts : acts_of (OfJob j (FileEnded file whole) ∷ h) o.job ≡ FileEnded file whole ∷ acts_of h o.job = rw s.1 refl in
        let mine : Has f (at_last with_end (files_by (acts_of h o.job))) = subst (λ (a : List (Act (List ℕ))). Has f (files_by a)) acts of_job in
        elim (has_changed with_end f (files_by (acts_of h o.job)) mine) [
          | inl a ↦ came_old o f has a
          | inr b ↦ subst (λ (x : File (List ℕ)). CameAt (e ∷ t) rs o.sender o.job x) (sym b.2) (came_ended o.sender o.job b.0 (came_old o b.0 has b.1))
        ]
    | inr s ↦ came_old o f has (subst (λ (a : List (Act (List ℕ))). Has f (files_by a)) (acts_other h j (FileEnded file whole) o.job s.0) of_job)
  ]

  -- a new job has no file
  opened : (j sender q : ℕ) → Unknown h j → AllCame (Opened j sender q ∷ h) (e ∷ t) rs
  opened j sender q u o f has of_job = elim (has_last o (openings h) (record { job = j; sender = sender; queue = q }) has) [
    | inl a ↦ came_old o f a of_job
    | inr b ↦ absurd (none b of_job)
  ]
    where
      none : record { job = j; sender = sender; queue = q } ≡ o → Has f (files_by (acts_of h o.job)) → ⊥
      none b has' = subst (λ (a : List (Act (List ℕ))). Has f (files_by a)) u.acts (subst (λ (i : ℕ). Has f (files_by (acts_of h i))) (sym (ap (λ (x : Opening). x.job) b)) has')

  -- what an event leaves, where new jobs have numbers of their own
  pub all_after : (o : Option (Event (List ℕ))) → ((j sender q : ℕ) → o ≡ Some (Opened j sender q) → Unknown h j) → Changed o → AllCame (with_event o h) (e ∷ t) rs
  all_after None u ch = all_still h h t e ss rs refl (λ j. refl) grown all
  all_after (Some (Opened j sender q)) u ch = opened j sender q (u j sender q refl)
  all_after (Some (OfJob j Granted)) u ch = all_still h (OfJob j Granted ∷ h) t e ss rs refl (λ i. files_act h j Granted i (λ a. refl)) grown all
  all_after (Some (OfJob j (Began name count))) u ch = changed j (Began name count) ch
  all_after (Some (OfJob j (Put file number page))) u ch = changed j (Put file number page) ch
  all_after (Some (OfJob j (FileEnded file whole))) u ch = file_ended j file whole
  all_after (Some (OfJob j (Controlled control whole))) u ch = all_still h (OfJob j (Controlled control whole) ∷ h) t e ss rs refl (λ i. files_act h j (Controlled control whole) i (λ a. refl)) grown all
  all_after (Some (OfJob j Aborted)) u ch = all_still h (OfJob j Aborted ∷ h) t e ss rs refl (λ i. files_act h j Aborted i (λ a. refl)) grown all
  all_after (Some (AtPrinter p sheet turn)) u ch = all_still h (AtPrinter p sheet turn ∷ h) t e ss rs refl (λ j. refl) grown all
  all_after (Some (Removed q jobs)) u ch = all_still h (Removed q jobs ∷ h) t e ss rs refl (λ j. refl) grown all
  all_after (Some (Started q)) u ch = all_still h (Started q ∷ h) t e ss rs refl (λ j. refl) grown all
  all_after (Some Closed) u ch = all_still h (Closed ∷ h) t e ss rs refl (λ j. refl) grown all

  -- the last file, from the session that is in it
  pub last_in : (k : History) (n : ℕ) (s s' : Session) (l : InLast k (e ∷ t) n s') → s'.job ≡ s.job → s'.sender ≡ s.sender → session_at rs n ≡ s' → IsSession rs n → IsAccepted h s
      → ((o p : Opening) → Has o (openings h) → Has p (openings h) → o.job ≡ p.job → o ≡ p) → ((x : File (List ℕ)) → Has x l.before → Has x (files_by (acts_of h s'.job))) → Last k s'.job
  last_in k n s s' l job sender is there accepted once old = record {
    before = l.before;
    file = l.file;
    files = l.files;
    old = old;
    came = λ o has same.
        let one = once (record { job = s.job; sender = s.sender; queue = accepted.0 }) o accepted.1 has (sym job ∙ sym same) in
        record {
          session = n;
          there = there;
          from = ap (λ (x : Session). x.sender) is ∙ sender ∙ ap (λ (x : Opening). x.sender) one;
          came = l.came;
          after = s'.unread;
          is = ap (λ (x : Session). x.arrived) is ∙ l.is;
        };
  }
