-- One write after another, and one read after another.
use Rattle.std.proofs.Common.{◌≡◌, ◌≤◌, ℕ, suc, List, [], ◌++◌, Option, Some, None, refl, sym, subst, ap, ◌∙◌, append_assoc, ◌+◌, ◌-◌, min, length, take, drop, arith}
use Rattle.std.proofs.lemmas.Grind.{common_steps}
use Rattle.std.proofs.lemmas.List.{append-nil, take-append-le, take_min}
use Rattle.std.proofs.Math.Seq.{take-add, take-append-add}
use Rattle.lpd_commands.specs.Ends.{Took, Writes, WritesSome, many_more, one_more}

-- one write after another
pub Writes-append : (a b c : Option (List ℕ)) (xs ys : List ℕ) → Writes a b xs → Writes b c ys → Writes a c (xs ++ ys)
Writes-append None b c xs ys p q = let r : Writes None c ys = rw p at q in r
Writes-append (Some old) b c xs ys p q = let r : Writes (Some (old ++ xs)) c ys = rw p at q in r ∙ ap Some (append_assoc old xs ys)

whole_rest : (s : List ℕ) (d : ℕ) → take (length s - d) (drop d s) ≡ drop d s
whole_rest s d = grind (arith, common_steps)

-- a write of what is left begins where the last one ended
pub Writes-more : (a b c : Option (List ℕ)) (s : List ℕ) (d n : ℕ) → Writes a b (take d s) → Writes b c (take n (take (length s - d) (drop d s))) → Writes a c (take (d + n) s)
Writes-more a b c s d n p q =
    let r : Writes b c (take n (drop d s)) = rw (whole_rest s d) at q in
    rw (take-add d n s) (Writes-append a b c (take d s) (take n (drop d s)) p r)

-- a head of the first is a head of both
front : (xs ys : List ℕ) (n : ℕ) → take (min n (length xs)) (xs ++ ys) ≡ take n xs
front xs ys n =
    let within : min n (length xs) ≤ length xs = omega arith in
    take-append-le (min n (length xs)) xs ys within ∙ take_min n xs

-- a head of the first octets is a head of all
pub some_of_front : (was now : Option (List ℕ)) (xs ys : List ℕ) → WritesSome was now xs → WritesSome was now (xs ++ ys)
some_of_front was now xs ys h = (min h.0 (length xs), subst (λ t. Writes was now t) (sym (front xs ys h.0)) h.1)

-- some octets after others that were written
pub some_after : (was then_ now : Option (List ℕ)) (xs ys : List ℕ) → Writes was then_ xs → WritesSome then_ now ys → WritesSome was now (xs ++ ys)
some_after was then_ now xs ys h k = (length xs + k.0, subst (λ t. Writes was now t) (sym (take-append-add xs ys k.0)) (Writes-append was then_ now xs (take k.0 ys) h k.1))

-- one read after another
pub Took-append : (left then_ rest : Option (List ℕ)) (xs ys : List ℕ) → Took left then_ xs → Took then_ rest ys → Took left rest (xs ++ ys)
Took-append None then_ rest xs ys h k = let r : Took None rest ys = rw h at k in r
Took-append (Some old) then_ rest xs ys h k =
    let r : Took (Some h.0) rest ys = rw h.2 at k in
    (r.0, h.1 ∙ (ap (λ t. xs ++ t) r.1 ∙ sym (append_assoc xs ys r.0)), r.2)

-- nothing was read
pub Took-none : (left : Option (List ℕ)) → Took left left []
Took-none None = refl
Took-none (Some old) = (old, refl, refl)

-- one more after so many
pub more_by_one : (k n : ℕ) → many_more (k + 1) n ≡ one_more (many_more k n)
more_by_one k n = let e : suc k ≡ k + 1 = omega arith in subst (λ (m : ℕ). many_more m n ≡ one_more (many_more k n)) e refl

-- a counter that told so many more tells one more
pub counts_one : (k old before now : ℕ) → before ≡ many_more k old → now ≡ one_more before → now ≡ many_more (k + 1) old
counts_one k old before now b e = e ∙ (ap one_more b ∙ sym (more_by_one k old))

-- nothing was written
pub Writes-none : (was : Option (List ℕ)) → Writes was was []
Writes-none None = refl
Writes-none (Some old) = sym (ap Some (append-nil old))
