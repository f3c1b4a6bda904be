-- A line that has no line feed yet, and the next octets of it.
use Rattle.std.proofs.Common.{◌≡◌, ℕ, ◌+◌, Bool, true, false, not, ◌||◌, List, [], ◌∷◌, ◌++◌, length, take, arith, cond, refl, sym, zero-add, is_some, nat_lt, Some, None, unwrap_or}
use Rattle.std.proofs.lemmas.Grind.{common_steps}
use Rattle.std.proofs.lemmas.List.Folds.{list_any-append}
use Rattle.std.specs.List.{list_any, position, position_or_len, before_first}
use Rattle.control_socket.specs.Line.{is_line_feed, octets_before_line_feed, progress_of}
use Rattle.control_socket.specs.declared.line.LineProgress.TheVariants.{More, Whole, TooLong}

-- the first that passes behind elements of which none does
pub position_or_len-behind : {X : Type 0} (p : X → Bool) (xs ys : List X) → list_any p xs ≡ false → position_or_len p (xs ++ ys) ≡ length xs + position_or_len p ys
position_or_len-behind p [] ys none = sym (zero-add (position_or_len p ys))
position_or_len-behind p (x ∷ xs) ys none = by (p x) none (λ e. position_or_len-behind p xs ys e)
  where
    by : (b : Bool) → (b || list_any p xs) ≡ false → (list_any p xs ≡ false → position_or_len p (xs ++ ys) ≡ length xs + position_or_len p ys) → cond (not b) (1 + position_or_len p (xs ++ ys)) 0 ≡ length (x ∷ xs) + position_or_len p ys
    by true e rest = absurd cc
    by false e rest = omega (arith, rest e)

pub before_first-behind : {X : Type 0} (p : X → Bool) (xs ys : List X) → list_any p xs ≡ false → before_first p (xs ++ ys) ≡ xs ++ before_first p ys
before_first-behind p [] ys none = refl
before_first-behind p (x ∷ xs) ys none = by (p x) none (λ e. before_first-behind p xs ys e)
  where
    by : (b : Bool) → (b || list_any p xs) ≡ false → (list_any p xs ≡ false → before_first p (xs ++ ys) ≡ xs ++ before_first p ys) → take (cond (not b) (1 + position_or_len p (xs ++ ys)) 0) (x ∷ (xs ++ ys)) ≡ x ∷ (xs ++ before_first p ys)
    by true e rest = absurd cc
    by false e rest = grind (arith, common_steps, rest e)

-- none passes before the first one that does
pub none_before_first : {X : Type 0} (p : X → Bool) (xs : List X) → list_any p (before_first p xs) ≡ false
none_before_first p [] = refl
none_before_first p (x ∷ xs) = by (p x) refl (none_before_first p xs)
  where
    by : (b : Bool) → p x ≡ b → list_any p (before_first p xs) ≡ false → list_any p (take (cond (not b) (1 + position_or_len p xs) 0) (x ∷ xs)) ≡ false
    by true is rest = refl
    by false is rest = grind (arith, common_steps, is, rest)

-- one passes where there is a first one
pub list_any-position : {X : Type 0} (p : X → Bool) (xs : List X) → list_any p xs ≡ is_some (position p xs)
list_any-position p [] = refl
list_any-position p (x ∷ xs) = by (p x) (list_any-position p xs)
  where
    by : (b : Bool) → list_any p xs ≡ is_some (position p xs) → (b || list_any p xs) ≡ is_some (cond (nat_lt (cond (not b) (1 + position_or_len p xs) 0) (length (x ∷ xs))) (Some (cond (not b) (1 + position_or_len p xs) 0)) None)
    by true rest = grind (arith, common_steps)
    by false rest = grind (arith, common_steps, rest)

-- what stands before the first one, told by where it is
pub end_is : {X : Type 0} (p : X → Bool) (xs : List X) → unwrap_or (position p xs) (length xs) ≡ position_or_len p xs
end_is p [] = refl
end_is p (x ∷ xs) = by (p x) (end_is p xs)
  where
    by : (b : Bool) → unwrap_or (position p xs) (length xs) ≡ position_or_len p xs → unwrap_or (cond (nat_lt (cond (not b) (1 + position_or_len p xs) 0) (length (x ∷ xs))) (Some (cond (not b) (1 + position_or_len p xs) 0)) None) (length (x ∷ xs)) ≡ cond (not b) (1 + position_or_len p xs) 0
    by true rest = grind (arith, common_steps)
    by false rest = grind (arith, common_steps, rest)

-- the octets of a line behind those that came before
pub octets-behind : (before piece : List ℕ) (n : ℕ) → list_any is_line_feed before ≡ false → n ≡ unwrap_or (position is_line_feed piece) (length piece)
    → octets_before_line_feed (before ++ piece) ≡ before ++ take n piece
octets-behind before piece n none is =
    rw (before_first-behind is_line_feed before piece none, is, end_is is_line_feed piece) refl

-- none of them is a line feed
pub none-behind : (before piece : List ℕ) (n : ℕ) → list_any is_line_feed before ≡ false → n ≡ unwrap_or (position is_line_feed piece) (length piece)
    → list_any is_line_feed (before ++ take n piece) ≡ false
none-behind before piece n none is =
    rw (list_any-append is_line_feed before (take n piece), none, is, end_is is_line_feed piece) (none_before_first is_line_feed piece)

-- how far a line has come by its next octets
pub progress_of-behind : (most : ℕ) (before piece : List ℕ) (n : ℕ) → list_any is_line_feed before ≡ false → n ≡ unwrap_or (position is_line_feed piece) (length piece)
    → progress_of most (before ++ piece) ≡ cond (nat_lt most (length (before ++ take n piece))) TooLong (cond (is_some (position is_line_feed piece)) Whole More)
progress_of-behind most before piece n none is =
    rw (octets-behind before piece n none is, list_any-append is_line_feed before piece, none, list_any-position is_line_feed piece) refl

-- none is one either where they may not have been added
pub none-kept : (is_added : Bool) (before part after : List ℕ) → list_any is_line_feed before ≡ false → list_any is_line_feed (before ++ part) ≡ false
    → after ≡ cond is_added (before ++ part) before → list_any is_line_feed after ≡ false
none-kept true before part after none both is = rw is both
none-kept false before part after none both is = rw is none
