-- Connections by their places, and the earliest moment at which one is late.
use Rattle.std.proofs.Common.{◌≡◌, ◌<◌, ◌+◌, ℕ, Bool, true, false, List, Option, Some, None, length, get_or, slice_get, position, arith, refl, min, nat_le}
use Rattle.std.proofs.lemmas.Grind.{common_steps}
use Rattle.std.proofs.lemmas.List.Sums.{passes_at_first}
use Rattle.std.proofs.lemmas.Option.{slice_get-get_or}
use Rattle.control_socket.specs.declared.talks.ControlTalk.{ControlTalk}
use Rattle.control_socket.specs.declared.stages.TalkStage.{TalkStage}
use Rattle.control_socket.specs.declared.stages.TalkStage.TheVariants.{Asking, Ready, Asked, Answering}
use Rattle.control_socket.specs.Stages.{is_ready, until_of, earlier_of}
use Rattle.control_socket.specs.Talks.{number_at, IsNearest}

-- the first that passes does
pub passes : {X : Type 0} (p : X → Bool) (xs : List X) (at : ℕ) (x : X) → Some at ≡ position p xs → x ≡ get_or xs at x → p x ≡ true
passes p xs at x found is =
    let first = passes_at_first p xs x in
    grind (arith, common_steps, found, is, first)

-- it is there
found_within : {X : Type 0} (p : X → Bool) (xs : List X) (at : ℕ) → Some at ≡ position p xs → at < length xs
found_within p xs at found = grind (arith, common_steps, found)

-- the number of the first that passes
pub number_of_first : (p : ControlTalk → Bool) (talks : List ControlTalk) (at : ℕ) (talk : ControlTalk) → Some at ≡ position p talks → talk ≡ get_or talks at talk → Some talk.number ≡ number_at talks at
number_of_first p talks at talk found is =
    let here = slice_get-get_or talks at talk (found_within p talks at found) in
    rw (here, ← is) refl

-- a stage that is none of the ready ones isn't ready
pub not_ready : (stage : TalkStage) → is_ready stage ≡ true → ((line : _) (is_gone : Bool) → stage ≡ Ready line is_gone → ⊥) → ⊥
not_ready (Asking line until) is other = absurd cc
not_ready (Ready line is_gone) is other = other line is_gone refl
not_ready Asked is other = absurd cc
not_ready (Answering answer until) is other = absurd cc

-- the earlier one of two moments is one of them
of_either : (talks : List ControlTalk) (n : ℕ) (talk : ControlTalk) (moment limit : ℕ) → slice_get talks n ≡ Some talk → until_of talk.stage ≡ Some limit
    → (k : ℕ) × (other : ControlTalk) × (slice_get talks k ≡ Some other) × (until_of other.stage ≡ Some moment)
    → (k : ℕ) × (other : ControlTalk) × (slice_get talks k ≡ Some other) × (until_of other.stage ≡ Some (min moment limit))
of_either talks n talk moment limit here is (k, other, there, of) = by (nat_le moment limit) refl
  where
    by : (b : Bool) → nat_le moment limit ≡ b → (k : ℕ) × (other : ControlTalk) × (slice_get talks k ≡ Some other) × (until_of other.stage ≡ Some (min moment limit))
    by true le = (k, other, there, grind (arith, common_steps, le, of))
    by false gt = (n, talk, here, grind (arith, common_steps, gt, is))

-- one more
pub next_nearest : (talks : List ControlTalk) (n : ℕ) (talk : ControlTalk) (nearest limit : Option ℕ) → slice_get talks n ≡ Some talk → until_of talk.stage ≡ limit → IsNearest talks n nearest → IsNearest talks (n + 1) (earlier_of nearest limit)
next_nearest talks n talk None None here is before = record {
  of_one = tt;
  earliest = λ k other until below found of. grind (arith, common_steps, before.earliest k other until);
}
next_nearest talks n talk (Some moment) None here is before = record {
  of_one = before.of_one;
  earliest = λ k other until below found of. grind (arith, common_steps, before.earliest k other until);
}
next_nearest talks n talk None (Some limit) here is before = record {
  of_one = (n, talk, here, is);
  earliest = λ k other until below found of. grind (arith, common_steps, before.earliest k other until);
}
next_nearest talks n talk (Some moment) (Some limit) here is before = record {
  of_one = of_either talks n talk moment limit here is before.of_one;
  earliest = λ k other until below found of. grind (arith, common_steps, before.earliest k other until);
}
