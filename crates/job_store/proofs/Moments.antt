-- What a crash at any moment leaves, call after call.
use Rattle.std.proofs.Common.{inl, inr, ◌≤◌, ℕ, List, Option, arith}
use Rattle.kept_jobs.specs.Folder.{Elapses, NoMore}
use Rattle.job_store.specs.Kept.{LeavesNoMore}

module _ {D : Type 0} (moment : D → ℕ) (left_since : D → ℕ → ℕ → Option (List ℕ) → Type 0) (may_leave : D → ℕ → Option (List ℕ)
    → Type 0) where
  -- with no call
  pub none_called : (a : D) → ((n : ℕ) (c : Option (List ℕ)) → left_since a n (moment a) c → may_leave a n c)
      → LeavesNoMore moment left_since may_leave a a
  none_called a only_now = record {
    later = omega arith;
    crash = λ n c left. left;
    before = λ n t c le since. inl since;
    any_moment = λ n. record { later = omega arith; each = only_now n };
  }

  -- with one call more
  pub one_more_called : (a b d : D) → LeavesNoMore moment left_since may_leave a b
      → ((n : ℕ) → NoMore (may_leave b n) (may_leave d n))
      → ((n : ℕ) → Elapses (moment b) (moment d) (left_since b n) (left_since d n) (may_leave d n))
      → LeavesNoMore moment left_since may_leave a d
  one_more_called a b d so_far crash time =
      let later : moment a ≤ moment d = omega (arith, so_far.later, (time 0).later) in
      record {
        later = later;
        crash = λ n c left. so_far.crash n c (crash n c left);
        before = λ n t c le since. elim ((time n).nothing_else t c (omega (arith, so_far.later)) since) [
          | inl past ↦ so_far.before n t c le past
          | inr left ↦ inr (so_far.crash n c (crash n c left))
        ];
        any_moment = λ n. record {
          later = later;
          each = λ c since. elim ((time n).nothing_else (moment a) c so_far.later since) [
            | inl past ↦ (so_far.any_moment n).each c past
            | inr left ↦ so_far.crash n c (crash n c left)
          ];
        };
      }

  -- with one
  pub one_called : (a b : D) → ((n : ℕ) (c : Option (List ℕ)) → left_since a n (moment a) c → may_leave a n c)
      → ((n : ℕ) → NoMore (may_leave a n) (may_leave b n))
      → ((n : ℕ) → Elapses (moment a) (moment b) (left_since a n) (left_since b n) (may_leave b n))
      → LeavesNoMore moment left_since may_leave a b
  one_called a b only_now crash time = one_more_called a a b (none_called a only_now) crash time

  -- with more calls
  pub more_called : (a b d : D) → LeavesNoMore moment left_since may_leave a b → LeavesNoMore moment left_since may_leave b d
      → LeavesNoMore moment left_since may_leave a d
  more_called a b d so_far then_ =
      let later : moment a ≤ moment d = omega (arith, so_far.later, then_.later) in
      record {
        later = later;
        crash = λ n c left. so_far.crash n c (then_.crash n c left);
        before = λ n t c le since. elim (then_.before n t c (omega (arith, so_far.later)) since) [
          | inl past ↦ so_far.before n t c le past
          | inr left ↦ inr (so_far.crash n c left)
        ];
        any_moment = λ n. record {
          later = later;
          each = λ c since. elim (then_.before n (moment a) c so_far.later since) [
            | inl past ↦ (so_far.any_moment n).each c past
            | inr left ↦ so_far.crash n c left
          ];
        };
      }
