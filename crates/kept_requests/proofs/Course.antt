-- A session whose jobs are kept.
use Rattle.std.proofs.Common.{◌≡◌, ◌≤◌, arith, ◌⊎◌, inl, inr, ⊎_elim, ℕ, Bool, true, false, List, [], ◌∷◌, ◌++◌, Option, None, Some, refl, ap, ◌∙◌, sym, subst, append_assoc}
use Rattle.receiver.specs.Script.{Request, Queue, Open, BeginFile, AskPage, Filled, EndFile, Control, AbortJob, StartPrinters, QueueState, RemoveJobs}
use Rattle.receiver.specs.Reading.{Due, Requests, Waits, Ends as DueEnds, Writes}
use Rattle.spool_requests.specs.declared.answer.Answer.{Answer}
use Rattle.spool_requests.specs.declared.answer.Answer.TheVariants as answer
use Rattle.spool_trace.specs.declared.reply.Deed.TheVariants as deed
use Rattle.spool_trace.specs.Sessions.{due_in}
use Rattle.request_session.specs.declared.ending.SessionEnd.{SessionEnd}
use Rattle.request_session.specs.Carried.{CarriesAll, CarriesDue, Carrying, Ending}
use Rattle.request_session.specs.Course.{Course, Came, Did, session_after}
use Rattle.request_session.specs.Served.{Around, ServedBy}
use Rattle.kept_jobs.specs.Folder.{GoesOn, IsSeen, SamePassed, Seen}
use Rattle.kept_jobs.specs.Kept.{LetsOut}
use Rattle.job_streams.specs.Stream.{Coming, is_whole, stream}
use Rattle.job_streams.specs.Coming.{with_control, with_end}
use Rattle.job_hand.specs.Hand.{Follows, IsOfWhole, Leaving, LeavesAt, MayLeave, Settles, SettlesAs, Telling, at_job}
use Rattle.kept_requests.specs.Work.{PassesOn, settles_by, told}
use Rattle.kept_requests.specs.Carried.{Carries, Ends}
use Rattle.kept_requests.specs.Served.{AsksAll, AsksDue, Grew, HadWhole, IsMoment, LeavesIn, PassesAll, PassesDue, ServedKept, last_due, work_due, work_of}
use Rattle.kept_requests.proofs.Passing.{goes_then, later_then}
use Rattle.kept_requests.specs.declared.keeping.Keeping.{Keeping}

grew_refl : (o : Option Seen) → Grew o o
grew_refl None = refl
grew_refl (Some s) = (s, refl, ([], refl))

grew_then : (a b c : Option Seen) → Grew a b → Grew b c → Grew a c
grew_then None b c first then = subst (λ o. Grew o c) first then
grew_then (Some s) b c first then =
    let last = subst (λ o. Grew o c) first.1 then in
    let more = first.2 in
    let then_more = last.2 in
    (last.0, last.1, (then_more.0 ++ more.0, then_more.1 ∙ (ap (λ l. then_more.0 ++ l) more.1 ∙ sym (append_assoc then_more.0 more.0 s.passed))))

same_grew : (a b : Option Seen) → SamePassed a b → Grew a b
same_grew None b h = h
same_grew (Some s) b h = (h.0, h.1, ([], h.2))

passes_grew : (number : Option ℕ) (octets : List ℕ) (a b : Option Seen) → LetsOut number octets a b → Grew a b
passes_grew number octets None b h = h
passes_grew number octets (Some s) b h = (h.0, h.1, ((number, octets) ∷ [], h.2))

settles_as_grew : (whole : Bool) (number : Option ℕ) (job : Coming) (a b : Option Seen) → SettlesAs whole number job a b → Grew a b
settles_as_grew true number job a b h = passes_grew number (stream job) a b h.1
settles_as_grew false number job a b h = same_grew a b h

settles_grew : (number : Option ℕ) (work : Option Coming) (a b : Option Seen) → Settles number work a b → Grew a b
settles_grew number None a b h = same_grew a b h
settles_grew number (Some job) a b h = settles_as_grew (is_whole job) number job a b h

settles_by_grew : (answer : Answer) (number : Option ℕ) (work : Option Coming) (a b : Option Seen) → settles_by answer number work a b → Grew a b
settles_by_grew answer.Yes number work a b h = settles_grew number work a b h
settles_by_grew (answer.Accepted job) number work a b h = settles_grew number work a b h
settles_by_grew (answer.Lent page_size) number work a b h = settles_grew number work a b h
settles_by_grew answer.Later number work a b h = settles_grew number work a b h
settles_by_grew answer.Stored number work a b h = settles_grew number work a b h
settles_by_grew answer.Received number work a b h = settles_grew number work a b h
settles_by_grew (answer.Told text) number work a b h = settles_grew number work a b h
settles_by_grew (answer.Refused n) number work a b h = same_grew a b h

request_grew : (r : Request) (number : Option ℕ) (answer : Answer) (work : Option Coming) (a b : Option Seen) → PassesOn number r answer work a b → Grew a b
request_grew (Queue queue) number answer work a b h = same_grew a b h
request_grew (Open queue) number answer work a b h = same_grew a b h
request_grew (BeginFile name count) number answer work a b h = same_grew a b h
request_grew AskPage number answer work a b h = same_grew a b h
request_grew (Filled page) number answer work a b h = same_grew a b h
request_grew EndFile number answer work a b h = settles_by_grew answer number (at_job with_end work) a b h
request_grew (Control said) number answer work a b h = settles_by_grew answer number (at_job (with_control said) work) a b h
request_grew AbortJob number answer work a b h = same_grew a b h
request_grew (StartPrinters queue) number answer work a b h = same_grew a b h
request_grew (QueueState queue list long) number answer work a b h = same_grew a b h
request_grew (RemoveJobs queue agent list) number answer work a b h = same_grew a b h

due_grew : (due : Due) (job : ℕ) (answer : Answer) (work : Option Coming) (a b : Option Seen) → PassesDue due job answer work a b → Grew a b
due_grew Waits job answer work a b h = absurd h
due_grew DueEnds job answer work a b h = absurd h
due_grew (Writes w items text) job answer work a b h = absurd h
due_grew (Requests r items text) job answer work a b h = request_grew r h.0 answer work a b h.2

-- what was told later was told before
told_before : (P : Type 0) (a b : Option Seen) → Grew a b → IsSeen (λ s. P) b → IsSeen (λ s. P) a
told_before P None b grew h = tt
told_before P (Some s) b grew h = subst (IsSeen (λ s. P)) grew.1 h

seen_map : (P R : Type 0) (o : Option Seen) → (P → R) → IsSeen (λ s. P) o → IsSeen (λ s. R) o
seen_map P R None f h = tt
seen_map P R (Some s) f h = f h

-- what follows for a crash: it leaves what was there before a course, or nothing, or a job that came to be whole in it
leaves_then : {F : Type 0} (seen : Telling F) (may_leave : Leaving F) (start old new : F) (before last : Option (List ℕ) → Type 0) (kept : Option (List ℕ)) → Grew (seen start) (seen old) →
    ((c : Option (List ℕ)) → may_leave old c → (may_leave start c ⊎ (c ≡ None)) ⊎ IsSeen (λ s. before c) (seen start)) →
    (may_leave old kept ⊎ (kept ≡ None)) ⊎ IsSeen (λ s. last kept) (seen old) →
    (may_leave start kept ⊎ (kept ≡ None)) ⊎ IsSeen (λ s. last kept ⊎ before kept) (seen start)
leaves_then seen may_leave start old new before last kept grew first (inl (inl there)) =
    ⊎_elim (λ left. inl left) (λ had. inr (seen_map (before kept) (last kept ⊎ before kept) (seen start) (λ h. inr h) had)) (first kept there)
leaves_then seen may_leave start old new before last kept grew first (inl (inr none)) = inl (inr none)
leaves_then seen may_leave start old new before last kept grew first (inr whole) =
    inr (seen_map (last kept) (last kept ⊎ before kept) (seen start) (λ h. inl h) (told_before (last kept) (seen start) (seen old) grew whole))

-- a job that came to be whole before the last request came to be so
leaves_on : (before last old : Type 0) (o : Option Seen) → old ⊎ IsSeen (λ s. before) o → old ⊎ IsSeen (λ s. last ⊎ before) o
leaves_on before last old o left = ⊎_elim (λ was. inl was) (λ had. inr (seen_map before (last ⊎ before) o (λ h. inr h) had)) left

no_later : (n : ℕ) → n ≤ n
no_later n = omega arith

-- no time goes on
goes_nowhere : {F : Type 0} (moment : F → ℕ) (left_since : F → ℕ → Option (List ℕ) → Type 0) (may_lack : F → List ℕ → Type 0) (a : F) (P : Option (List ℕ) → Type 0) → GoesOn moment left_since may_lack a a P
goes_nowhere moment left_since may_lack a P = record {
  time = record { later = no_later (moment a); nothing_else = λ t kept le since. inl since; keeps = λ t kept le past. past };
  lacks = λ octets lack. lack;
}

-- a job is told under its own number, or none
told_number : (beside : Bool) (job : ℕ) → (told beside job ≡ Some job) ⊎ (told beside job ≡ None)
told_number true job = inr refl
told_number false job = inl refl

module _ {Q F : Type 0} (carries : Carrying Q) (beside : Q → Bool) (seen : Telling F) (may_leave : Leaving F) (moment : F → ℕ) (left_since : F → ℕ → Option (List ℕ) → Type 0) (may_lack : F → List ℕ → Type 0) (sender : ℕ) where
  -- what is so after a request
  pub record One (due : Due) (job : ℕ) (answer : Answer) (work : Option Coming) (old new : Keeping Q F) : Type 0 where
    pub asked : AsksDue carries sender due job answer old.inner new.inner
    pub passes : PassesDue due job answer work (seen old.hand.folder) (seen new.hand.folder)
    pub leaves : MayLeave seen may_leave old.hand.folder new.hand.folder (last_due due work)
    pub moments : GoesOn moment left_since may_lack old.hand.folder new.hand.folder (LeavesAt seen may_leave old.hand.folder (last_due due work))
    pub follows : Follows seen may_leave new.hand (work_due sender due answer work)

  one : (due : Due) (job : ℕ) (answer : Answer) (work : Option Coming) (old new : Keeping Q F) → CarriesDue (Carries carries beside seen may_leave moment left_since may_lack) sender due job answer old new → Follows seen may_leave old.hand work → One due job answer work old new
  one Waits job answer work old new h f = absurd h
  one DueEnds job answer work old new h f = absurd h
  one (Writes w items text) job answer work old new h f = absurd h
  one (Requests r items text) job answer work old new h f = record { asked = h.asked; passes = (told (beside new.inner) job, told_number (beside new.inner) job, h.passes work f); leaves = h.leaves work f; moments = h.moments work f; follows = h.follows work f }

  -- what is so after a course
  pub record All (c : Course) (old new : Keeping Q F) : Type 0 where
    pub asked : AsksAll carries sender c old.inner new.inner
    pub passes : PassesAll sender c (seen old.hand.folder) (seen new.hand.folder)
    pub grew : Grew (seen old.hand.folder) (seen new.hand.folder)
    pub leaves :
        (kept : Option (List ℕ)) → may_leave new.hand.folder kept →
        (may_leave old.hand.folder kept ⊎ (kept ≡ None)) ⊎ IsSeen (λ s. HadWhole sender c kept) (seen old.hand.folder)
    pub moments : GoesOn moment left_since may_lack old.hand.folder new.hand.folder (LeavesIn seen may_leave sender c old.hand.folder)
    pub follows : Follows seen may_leave new.hand (work_of sender c)

  -- nothing has happened
  none : (old new : Keeping Q F) → new ≡ old → Follows seen may_leave old.hand None → All [] old new
  none old new same f = subst (All [] old) (sym same) (record {
    asked = refl;
    passes = refl;
    grew = grew_refl (seen old.hand.folder);
    leaves = λ kept there. inl (inl there);
    moments = goes_nowhere moment left_since may_lack old.hand.folder (LeavesIn seen may_leave sender [] old.hand.folder);
    follows = f;
  })

  pub all_kept : (c : Course) (old new : Keeping Q F) → Follows seen may_leave old.hand None → CarriesAll (Carries carries beside seen may_leave moment left_since may_lack) sender c old new → All c old new
  all_kept [] old new f h = none old new h f
  all_kept (Did (deed.Asked asked answer) ∷ c) old new f h =
      let before = all_kept c old h.0 f h.1 in
      let due = due_in (session_after sender c) in
      let job = (session_after sender c).job in
      let work = work_of sender c in
      let last = one due job answer work h.0 new h.2 before.follows in
      record {
        asked = (h.0.inner, before.asked, last.asked);
        passes = (seen h.0.hand.folder, before.passes, last.passes);
        grew = grew_then _ _ _ before.grew (due_grew due job answer work (seen h.0.hand.folder) (seen new.hand.folder) last.passes);
        leaves = λ kept there. leaves_then seen may_leave old.hand.folder h.0.hand.folder new.hand.folder (HadWhole sender c) (IsOfWhole (last_due due work)) kept before.grew before.leaves (last.leaves kept there);
        moments =
            goes_then moment left_since may_lack (LeavesIn seen may_leave sender c old.hand.folder) (LeavesAt seen may_leave h.0.hand.folder (last_due due work)) (LeavesIn seen may_leave sender (Did (deed.Asked asked answer) ∷ c) old.hand.folder)
            old.hand.folder h.0.hand.folder new.hand.folder
            (λ kept left. leaves_on (HadWhole sender c kept) (IsOfWhole (last_due due work) kept) (may_leave old.hand.folder kept ⊎ (kept ≡ None)) (seen old.hand.folder) left)
            (λ kept left. leaves_then seen may_leave old.hand.folder h.0.hand.folder new.hand.folder (HadWhole sender c) (IsOfWhole (last_due due work)) kept before.grew before.leaves left)
            before.moments last.moments;
        follows = last.follows;
      }
  all_kept (Did deed.Acked ∷ c) old new f h = let a = all_kept c old new f h in record { asked = a.asked; passes = a.passes; grew = a.grew; leaves = a.leaves; moments = a.moments; follows = a.follows }
  all_kept (Did (deed.Refused n) ∷ c) old new f h = let a = all_kept c old new f h in record { asked = a.asked; passes = a.passes; grew = a.grew; leaves = a.leaves; moments = a.moments; follows = a.follows }
  all_kept (Did deed.Waited ∷ c) old new f h = let a = all_kept c old new f h in record { asked = a.asked; passes = a.passes; grew = a.grew; leaves = a.leaves; moments = a.moments; follows = a.follows }
  all_kept (Did deed.Ended ∷ c) old new f h = let a = all_kept c old new f h in record { asked = a.asked; passes = a.passes; grew = a.grew; leaves = a.leaves; moments = a.moments; follows = a.follows }
  all_kept (Came octets ∷ c) old new f h = let a = all_kept c old new f h in record { asked = a.asked; passes = a.passes; grew = a.grew; leaves = a.leaves; moments = a.moments; follows = a.follows }

  -- each beginning of a course ended at a moment
  pub each_moment : (later c : Course) (old new : Keeping Q F) → Follows seen may_leave old.hand None → CarriesAll (Carries carries beside seen may_leave moment left_since may_lack) sender (later ++ c) old new →
      (at : F) × IsMoment seen may_leave moment left_since may_lack sender c old.hand.folder at new.hand.folder
  each_moment [] c old new f h =
      let a = all_kept c old new f h in
      (new.hand.folder, record { passes = a.passes; more = grew_refl (seen new.hand.folder); leaves = a.leaves; since = a.moments; later = no_later (moment new.hand.folder) })
  each_moment (Did (deed.Asked asked answer) ∷ later) c old new f h =
      let before = each_moment later c old h.0 f h.1 in
      let due = due_in (session_after sender (later ++ c)) in
      let job = (session_after sender (later ++ c)).job in
      let work = work_of sender (later ++ c) in
      let last = one due job answer work h.0 new h.2 ((all_kept (later ++ c) old h.0 f h.1).follows) in
      let m = before.1 in (
        before.0,
        record {
          passes = m.passes;
          more = grew_then _ _ _ m.more (due_grew due job answer work (seen h.0.hand.folder) (seen new.hand.folder) last.passes);
          leaves = m.leaves;
          since = m.since;
          later = later_then (moment before.0) (moment h.0.hand.folder) (moment new.hand.folder) m.later last.moments.time.later;
        },
      )
  each_moment (Did deed.Acked ∷ later) c old new f h = each_moment later c old new f h
  each_moment (Did (deed.Refused n) ∷ later) c old new f h = each_moment later c old new f h
  each_moment (Did deed.Waited ∷ later) c old new f h = each_moment later c old new f h
  each_moment (Did deed.Ended ∷ later) c old new f h = each_moment later c old new f h
  each_moment (Came octets ∷ later) c old new f h = each_moment later c old new f h

  pub served_kept : (leaves : Ending Q) (end : SessionEnd) (before after : Around (Keeping Q F)) → Follows seen may_leave before.spool.hand None → ServedBy (Carries carries beside seen may_leave moment left_since may_lack) (Ends leaves seen may_leave moment left_since may_lack) end sender before after → ServedKept carries leaves seen may_leave moment left_since may_lack end sender before after
  served_kept leaves end before after f s =
      let a = all_kept s.course before.spool s.asked f s.carried in record {
        course = s.course;
        ends = s.ends;
        read = s.read;
        asked = s.asked;
        below = a.asked;
        passes = a.passes;
        moments = λ later c is. each_moment later c before.spool s.asked f (subst (λ course. CarriesAll (Carries carries beside seen may_leave moment left_since may_lack) sender course before.spool s.asked) is s.carried);
        run = a.moments;
        aborts = s.aborts;
      }
