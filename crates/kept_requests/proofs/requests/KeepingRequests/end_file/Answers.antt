use Rattle.std.proofs.Common.{inl, subst, sym}
use Rattle.receiver.specs.Script.{EndFile}
use Rattle.spool_requests.specs.Follows.{kept_by}
use Rattle.job_streams.specs.Coming.{with_end}
use Rattle.job_hand.specs.Hand.{Follows, Settles, at_job}
use Rattle.job_hand.proofs.Standing.{follows_broken}
use Rattle.kept_requests.specs.Work.{told}
use Rattle.kept_requests.proofs.Passing.{end_accepted, end_passes, end_refused, file_leaves, file_moments, given_up, same_then, settles_after}
use Rattle.kept_requests.proofs.requests.KeepingRequests.end_file.Goals as goal

pub returns-in-Broken : goal.returns-in-Broken
returns-in-Broken g c = λ sender.
    let a = c.give_up.ensures.aborted sender in
    given_up g.Q.Requests.carries g.Q.Parks.beside g.F.Folder.seen g.F.Folder.may_leave g.F.Folder.moment g.F.Folder.left_since g.F.Folder.may_lack c.args.self.now c.give_up.new.self sender c.args.job _ a.0 _ a.1 c.give_up.ensures.broken
    (same_then _ _ _ (same_then _ _ _ c.end_file.ensures.passed c.keep_whole.ensures.passed) c.give_up.ensures.passed)
    (λ work h. file_leaves g.F.Folder.seen g.F.Folder.may_leave c.args.self.now.hand.folder c.end_file.new.self.folder c.keep_whole.new.self.folder c.give_up.new.self.hand.folder (at_job with_end work) c.end_file.ensures.crash c.end_file.ensures.passed
    (c.keep_whole.ensures.crash _ (c.end_file.ensures.follows work h)) c.give_up.ensures.crash)
    (λ work h. file_moments g.F.Folder.moment g.F.Folder.left_since g.F.Folder.may_lack g.F.Folder.seen g.F.Folder.may_leave c.args.self.now.hand.folder c.end_file.new.self.folder c.keep_whole.new.self.folder c.give_up.new.self.hand.folder (at_job with_end work) c.end_file.ensures.crash c.end_file.ensures.passed
    (c.keep_whole.ensures.crash _ (c.end_file.ensures.follows work h)) c.end_file.ensures.moments (c.keep_whole.ensures.moments _ (c.end_file.ensures.follows work h)) c.give_up.ensures.moments)

pub returns-then-is_ok : goal.returns-then-is_ok
returns-then-is_ok g c = λ sender.
    let ok = c.if-is_ok.ensures.value in record {
      asked = inl (subst (λ inner. g.Q.Requests.carries c.args.self.now.inner sender c.args.job EndFile (kept_by c.end_file-answer.result) inner) (sym c.let_out.ensures.inner) (c.end_file-answer.ensures sender));
      follows = λ work h.
          let h1 = c.end_file.ensures.follows work h in
          let h2 = c.keep_whole.ensures.follows _ h1 in
          end_accepted c.end_file-answer.result work sender (Follows g.F.Folder.seen g.F.Folder.may_leave c.let_out.new.self.hand) ok (c.let_out.ensures.follows _ h2 (c.keep_whole.ensures.decided _ h1));
      passes = λ work h.
          let h1 = c.end_file.ensures.follows work h in
          let h2 = c.keep_whole.ensures.follows _ h1 in
          let number = told (g.Q.Parks.beside c.let_out.new.self.inner) c.args.job in
          end_passes c.end_file-answer.result number work _ _ ok
          (settles_after number (at_job with_end work) (g.F.Folder.seen c.args.self.now.hand.folder) (g.F.Folder.seen c.keep_whole.new.self.folder) (g.F.Folder.seen c.let_out.new.self.hand.folder) (same_then _ _ _ c.end_file.ensures.passed c.keep_whole.ensures.passed)
          (subst (λ inner. Settles (told (g.Q.Parks.beside inner) c.args.job) (at_job with_end work) (g.F.Folder.seen c.keep_whole.new.self.folder) (g.F.Folder.seen c.let_out.new.self.hand.folder)) (sym c.let_out.ensures.inner) (c.let_out.ensures.settles _ h2 (c.keep_whole.ensures.decided _ h1))));
      leaves = λ work h. file_leaves g.F.Folder.seen g.F.Folder.may_leave c.args.self.now.hand.folder c.end_file.new.self.folder c.keep_whole.new.self.folder c.let_out.new.self.hand.folder (at_job with_end work) c.end_file.ensures.crash c.end_file.ensures.passed
          (c.keep_whole.ensures.crash _ (c.end_file.ensures.follows work h)) c.let_out.ensures.crash;
      moments = λ work h.
          let h2 = c.keep_whole.ensures.follows _ (c.end_file.ensures.follows work h) in
          file_moments g.F.Folder.moment g.F.Folder.left_since g.F.Folder.may_lack g.F.Folder.seen g.F.Folder.may_leave c.args.self.now.hand.folder c.end_file.new.self.folder c.keep_whole.new.self.folder c.let_out.new.self.hand.folder (at_job with_end work) c.end_file.ensures.crash c.end_file.ensures.passed
          (c.keep_whole.ensures.crash _ (c.end_file.ensures.follows work h)) c.end_file.ensures.moments (c.keep_whole.ensures.moments _ (c.end_file.ensures.follows work h)) (c.let_out.ensures.moments _ h2);
    }

pub returns-else-is_ok : goal.returns-else-is_ok
returns-else-is_ok g c = λ sender.
    let passed = same_then _ _ _ (same_then _ _ _ c.end_file.ensures.passed c.keep_whole.ensures.passed) c.fail.ensures.passed in record {
      asked = inl (c.end_file-answer.ensures sender);
      follows = λ work h. follows_broken g.F.Folder.seen g.F.Folder.may_leave c.fail.new.self _ _ c.fail.ensures.broken;
      passes = λ work h. end_refused c.end_file-answer.result _ work _ _ c.if-is_ok.ensures.value passed;
      leaves = λ work h. file_leaves g.F.Folder.seen g.F.Folder.may_leave c.args.self.now.hand.folder c.end_file.new.self.folder c.keep_whole.new.self.folder c.fail.new.self.folder (at_job with_end work) c.end_file.ensures.crash c.end_file.ensures.passed
          (c.keep_whole.ensures.crash _ (c.end_file.ensures.follows work h)) c.fail.ensures.crash;
      moments = λ work h. file_moments g.F.Folder.moment g.F.Folder.left_since g.F.Folder.may_lack g.F.Folder.seen g.F.Folder.may_leave c.args.self.now.hand.folder c.end_file.new.self.folder c.keep_whole.new.self.folder c.fail.new.self.folder (at_job with_end work) c.end_file.ensures.crash c.end_file.ensures.passed
          (c.keep_whole.ensures.crash _ (c.end_file.ensures.follows work h)) c.end_file.ensures.moments (c.keep_whole.ensures.moments _ (c.end_file.ensures.follows work h)) c.fail.ensures.moments;
    }
