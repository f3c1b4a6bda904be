-- Octets behind those that came before, and what stands before a question mark.
use Rattle.std.proofs.Common.{◌≡◌, ◌<◌, ◌≤◌, ℕ, ◌+◌, Bool, true, false, not, cond, ltb, List, ◌++◌, length, get_or, take, drop, ◌-◌, Some, None, refl, ap, sym, ◌∙◌, arith}
use Rattle.std.proofs.lemmas.Grind.{common_steps}
use Rattle.std.proofs.lemmas.List.Sums.{prefix_len_is}
use Rattle.std.specs.List.{position_or_len}
use Rattle.std.proofs.lemmas.List.{length-take-le, take_all, take-append-le}
use Rattle.std.proofs.lemmas.Bool.{ltb-false}
use Rattle.std.proofs.Math.Seq.{take-append-add}
use borrow.Rule.Slice.PartMut.{put_mid, post_of}

pub grown : (a k n : ℕ) (xs ys : List ℕ) → a ≤ length xs → n ≤ length ys → take (a + n) (put_mid a k xs ys) ≡ take a xs ++ take n ys
grown a k n xs ys h l =
    let e : length (take a xs) ≡ a = length-take-le a xs h in
    ap (λ m. take (m + n) (put_mid a k xs ys)) (sym e)
    ∙ (take-append-add (take a xs) (ys ++ post_of a k xs) n ∙ ap (λ v. take a xs ++ v) (take-append-le n ys (post_of a k xs) l))

-- the place that a search gave
pub place_of : (went : Bool) (place found : ℕ) → Some found ≡ cond went (Some place) None → found ≡ place
place_of true place found h = cc
place_of false place found h = cc

pub none_past : (place : ℕ) (xs : List ℕ) → None ≡ cond (ltb place (length xs)) (Some place) None → xs ≡ take place xs
none_past place xs h = past (ltb place (length xs)) (ltb-false place (length xs)) h
  where
    past : (went : Bool) → (went ≡ false → length xs ≤ place) → None ≡ cond went (Some place) None → xs ≡ take place xs
    past true low h = cc
    past false low h = sym (take_all place xs (low refl))

-- the first place at which a test passes
pub place_by : (p : ℕ → Bool) (text : List ℕ) (i : ℕ) → i ≤ length text → ((k : ℕ) → k < i → p (get_or text k 0) ≡ false) → (i < length text → p (get_or text i 0) ≡ true) → position_or_len p text ≡ i
place_by p text i within before here = prefix_len_is (λ b. not (p b)) text i 0 within (λ k h. ap not (before k h)) (λ h. ap not (here h))

-- `&s[d..]` is all that follows
pub whole_rest : (s : List ℕ) (d : ℕ) → take (length s - d) (drop d s) ≡ drop d s
whole_rest s d = grind (arith, common_steps)
