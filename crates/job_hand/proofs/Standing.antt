-- A job that is in hand goes on.
use Rattle.std.proofs.Common.{◌≡◌, ◌⊎◌, inl, inr, ⊎_elim, ◌<◌, ◌^◌, ℕ, List, [], ◌∷◌, ◌++◌, length, true, Option, None, Some, Result, Ok, Err, OnOk, ap, ◌∙◌, sym, subst, append_assoc, true≢false}
use Rattle.std.specs.Prelude.{IsTrue, is_ok}
use Rattle.lpd_values.specs.Contents.{Contents}
use Rattle.lpd_commands.specs.Written.{command_has_line, sub_line}
use Rattle.lpd_commands.specs.declared.sub.Sub.TheVariants as sub
use Rattle.lpd_commands.specs.declared.command.Command.TheVariants.{Receive}
use Rattle.control_file.specs.Written.{control_text}
use Rattle.job_heads.specs.Head.{head}
use Rattle.kept_jobs.specs.Folder.{Elapses, GoesOn, IsNever, IsSeen, LacksNoMore, OldOrNone, Seen}
use Rattle.kept_jobs.specs.Kept.{AllOrNone, IsInHand, IsKept}
use Rattle.job_streams.specs.Stream.{Coming, IsFit, Part, control_line, control_name, data_line, first_line, is_whole, stream}
use Rattle.job_streams.specs.Coming.{new_job, with_control, with_end, with_file, with_octets}
use Rattle.job_streams.proofs.Streams.{stream_control, stream_end, stream_file, stream_new, stream_octets}
use Rattle.job_hand.specs.Known.{Knows}
use Rattle.job_hand.specs.declared.hand.Hand.{Hand}
use Rattle.job_hand.specs.declared.cause.Cause.{Cause}
use Rattle.job_hand.specs.declared.hand.HandStage.TheVariants as stage
use Rattle.job_hand.specs.Hand.{Telling, Leaving, Stands, Holds, Follows, FollowsAs, IsOfWhole, LeavesAt, MayLeave}

-- what is so at Ok is so where it is Ok
pub when_ok : {A E : Type 0} {P : Type 0} (r : Result A E) → OnOk r P → IsTrue (is_ok r) → P
when_ok (Ok a) h e = h
when_ok (Err x) h e = absurd (true≢false (sym e))

pub is_control_line : (count : ℕ) (name line : List ℕ) (said : Contents) → line ≡ sub_line (sub.ControlFile count name) ++ 10 ∷ [] → count ≡ length (control_text said) → name ≡ control_name said.number → line ≡ control_line said
is_control_line count name line said is counts named = is ∙ (ap (λ n. sub_line (sub.ControlFile n name) ++ 10 ∷ []) counts ∙ ap (λ n. sub_line (sub.ControlFile (length (control_text said)) n) ++ 10 ∷ []) named)

module _ {F : Type 0} (seen : Telling F) (may_leave : Leaving F) where
  -- octets were written behind those in hand
  abbrev pub Grows : (old new : F) → List ℕ → Type 0
  Grows old new octets = (before : List ℕ) → IsInHand (seen old) (may_leave old) before → IsInHand (seen new) (may_leave new) (before ++ octets)

  abbrev pub Has : F → List ℕ → Type 0
  Has folder octets = IsInHand (seen folder) (may_leave folder) octets

  pub stands_first : (begun headed : F) (hand : Hand F) (sender : ℕ) (queue octets line : List ℕ) → sender < 2 ^ 32 → IsTrue (command_has_line (Receive queue)) → Knows hand.known (new_job sender queue) →
      Has begun [] → Grows begun headed octets → Grows headed hand.folder line → octets ≡ head sender → line ≡ first_line queue → Stands seen may_leave hand (new_job sender queue)
  stands_first begun headed hand sender queue octets line number word knows none one two is-head is-line = record {
    sender = number;
    queue = word;
    knows = knows;
    in_hand = subst (Has hand.folder) (ap (λ t. octets ++ t) is-line ∙ (ap (λ t. t ++ first_line queue) is-head ∙ sym (stream_new sender queue))) (two octets (one [] none));
  }

  pub stands_file : (old new : Hand F) (name line : List ℕ) (count : ℕ) (job : Coming) → Stands seen may_leave old job → Knows new.known (with_file name count job) → job.part ≡ None → Grows old.folder new.folder line → line ≡ data_line name count → Stands seen may_leave new (with_file name count job)
  stands_file old new name line count job h knows closed grows is = record {
    sender = h.sender;
    queue = h.queue;
    knows = knows;
    in_hand = subst (Has new.folder) (ap (λ t. stream job ++ t) is ∙ sym (stream_file job name count closed)) (grows (stream job) h.in_hand);
  }

  pub stands_octets : (old new : Hand F) (octets : List ℕ) (job : Coming) (file : Part) → Stands seen may_leave old job → Knows new.known (with_octets octets job) → job.part ≡ Some file → Grows old.folder new.folder octets → Stands seen may_leave new (with_octets octets job)
  stands_octets old new octets job file h knows here grows = record {
    sender = h.sender;
    queue = h.queue;
    knows = knows;
    in_hand = subst (Has new.folder) (sym (stream_octets job file octets here)) (grows (stream job) h.in_hand);
  }

  pub stands_end : (old new : Hand F) (job : Coming) (file : Part) → Stands seen may_leave old job → Knows new.known (with_end job) → job.part ≡ Some file → file.count ≡ length file.octets → Grows old.folder new.folder (0 ∷ []) → Stands seen may_leave new (with_end job)
  stands_end old new job file h knows here all grows = record {
    sender = h.sender;
    queue = h.queue;
    knows = knows;
    in_hand = subst (Has new.folder) (sym (stream_end job file here all)) (grows (stream job) h.in_hand);
  }

  joined : (before line text : List ℕ) → ((before ++ line) ++ text) ++ 0 ∷ [] ≡ before ++ (line ++ (text ++ 0 ∷ []))
  joined before line text = simp append_assoc

  pub stands_control : (old new : Hand F) (first second : F) (line text : List ℕ) (said : Contents) (job : Coming) → Stands seen may_leave old job → Knows new.known (with_control said job) → job.part ≡ None →
      Grows old.folder first line → Grows first second text → Grows second new.folder (0 ∷ []) → line ≡ control_line said → text ≡ control_text said → Stands seen may_leave new (with_control said job)
  stands_control old new first second line text said job h knows closed one two three is-line is-text = record {
    sender = h.sender;
    queue = h.queue;
    knows = knows;
    in_hand = subst (Has new.folder) (joined (stream job) line text ∙ (ap (λ t. stream job ++ (t ++ (text ++ 0 ∷ []))) is-line ∙ (ap (λ t. stream job ++ (control_line said ++ (t ++ 0 ∷ []))) is-text ∙ sym (stream_control job said closed))))
        (three _ (two _ (one (stream job) h.in_hand)));
  }

  pub holds_whole : (old new : Hand F) (job : Coming) → Stands seen may_leave old job → is_whole job ≡ true → ((octets : List ℕ) → Has old.folder octets → IsKept (seen new.folder) (may_leave new.folder) octets) → Holds seen may_leave new job
  holds_whole old new job h whole kept = record {
    fit = record { sender = h.sender; queue = h.queue; blocks = h.knows.fit };
    whole = whole;
    kept = kept (stream job) h.in_hand;
  }

  pub follows_kept : (old new : Hand F) (job : Option Coming) → Follows seen may_leave old job → old.stage ≡ stage.Coming → new.stage ≡ stage.Kept → ((j : Coming) → Knows old.known j → true ≡ is_whole j) →
      ((octets : List ℕ) → Has old.folder octets → IsKept (seen new.folder) (may_leave new.folder) octets) → Follows seen may_leave new job
  follows_kept old new job h coming is whole kept =
      let s = subst (λ st. FollowsAs seen may_leave st old job) coming h in
      subst (λ st. FollowsAs seen may_leave st new job) (sym is) (s.0, s.1, holds_whole old new s.0 s.2 (sym (whole s.0 s.2.knows)) kept)

  of_whole : (o : Option Seen) (job : Coming) (c : Option (List ℕ)) → IsFit job → is_whole job ≡ true → AllOrNone o (stream job) c →
      (c ≡ None) ⊎ IsSeen (λ s. IsOfWhole (Some job) c) o
  of_whole None job c fit whole left = inr tt
  of_whole (Some s) job c fit whole left = ⊎_elim (λ none. inl none) (λ all. inr (fit, whole, all)) left

  pub leaves_whole : (old : Hand F) (new : F) (job : Option Coming) → Follows seen may_leave old job → old.stage ≡ stage.Coming → ((j : Coming) → Knows old.known j → true ≡ is_whole j) →
      ((octets : List ℕ) → Has old.folder octets → (c : Option (List ℕ)) → may_leave new c → AllOrNone (seen old.folder) octets c) → MayLeave seen may_leave old.folder new job
  leaves_whole old new job h coming whole left c now =
      let s = subst (λ st. FollowsAs seen may_leave st old job) coming h in
      let fit : IsFit s.0 = record { sender = s.2.sender; queue = s.2.queue; blocks = s.2.knows.fit } in
      ⊎_elim (λ none. inl (inr none)) (λ all. inr (subst (λ j. IsSeen (λ x. IsOfWhole j c) (seen old.folder)) (sym s.1) all))
      (of_whole (seen old.folder) s.0 c fit (sym (whole s.0 s.2.knows)) (left (stream s.0) s.2.in_hand c now))

  pub follows_broken : (hand : Hand F) (job : Option Coming) (cause : Cause) → hand.stage ≡ stage.Broken cause → Follows seen may_leave hand job
  follows_broken hand job cause is = subst (λ st. FollowsAs seen may_leave st hand job) (sym is) tt

  module _ (moment : F → ℕ) (left_since : F → ℕ → Option (List ℕ) → Type 0) (may_lack : F → List ℕ → Type 0) where
    -- a job is in hand no more
    pub moments_out : (old new : F) → IsNever (may_leave new) → Elapses (moment old) (moment new) (left_since old) (left_since new) (may_leave new) → LacksNoMore (may_lack old) (may_lack new) → GoesOn moment left_since may_lack old new (OldOrNone (may_leave old))
    moments_out old new never time lacks = record {
      time = record {
        later = time.later;
        nothing_else = λ t c le since. ⊎_elim (λ was. inl was) (λ now. inr (inr (never c now))) (time.nothing_else t c le since);
        keeps = time.keeps;
      };
      lacks = lacks;
    }

    pub moments_left : (old : Hand F) (new : F) (job : Option Coming) → Follows seen may_leave old job → old.stage ≡ stage.Kept → IsNever (may_leave new) →
        Elapses (moment old.folder) (moment new) (left_since old.folder) (left_since new) (may_leave new) →
        ((octets : List ℕ) → IsKept (seen old.folder) (may_leave old.folder) octets → LacksNoMore (may_lack old.folder) (may_lack new)) →
        GoesOn moment left_since may_lack old.folder new (OldOrNone (may_leave old.folder))
    moments_left old new job h kept never time lacks =
        let s = subst (λ st. FollowsAs seen may_leave st old job) kept h in
        moments_out old.folder new never time (lacks (stream s.0) s.2.kept)

    -- a job that is whole is kept, or isn't
    pub moments_whole : (old : Hand F) (new : F) (job : Option Coming) → Follows seen may_leave old job → old.stage ≡ stage.Coming → ((j : Coming) → Knows old.known j → true ≡ is_whole j) →
        ((octets : List ℕ) → Has old.folder octets → Elapses (moment old.folder) (moment new) (left_since old.folder) (left_since new) (AllOrNone (seen old.folder) octets)) →
        LacksNoMore (may_lack old.folder) (may_lack new) → GoesOn moment left_since may_lack old.folder new (LeavesAt seen may_leave old.folder job)
    moments_whole old new job h coming whole times lacks =
        let s = subst (λ st. FollowsAs seen may_leave st old job) coming h in
        let fit : IsFit s.0 = record { sender = s.2.sender; queue = s.2.queue; blocks = s.2.knows.fit } in
        let time = times (stream s.0) s.2.in_hand in record {
          time = record {
            later = time.later;
            nothing_else = λ t c le since.
                ⊎_elim (λ was. inl was)
                (λ all.
                ⊎_elim (λ none. inr (inl (inr none))) (λ its. inr (inr (subst (λ j. IsSeen (λ x. IsOfWhole j c) (seen old.folder)) (sym s.1) its)))
                (of_whole (seen old.folder) s.0 c fit (sym (whole s.0 s.2.knows)) all))
                (time.nothing_else t c le since);
            keeps = time.keeps;
          };
          lacks = lacks;
        }
