-- What is left of a list whose front has gone.
use Rattle.std.proofs.Common.{◌≡◌, ◌≤◌, ℕ, ◌+◌, ◌-◌, List, [], ◌++◌, length, take, drop, ap, sym, ◌∙◌, arith}
use Rattle.std.proofs.lemmas.Grind.{common_steps}
use Rattle.std.proofs.lemmas.List.{drop_all, length-drop, take-append-drop}

-- `&s[d..]` is all that follows
pub whole_rest : (s : List ℕ) (d : ℕ) → take (length s - d) (drop d s) ≡ drop d s
whole_rest s d = grind (arith, common_steps)

pub next_rest : (n sent : ℕ) (xs : List ℕ) → drop n (drop sent xs) ≡ drop (sent + n) xs
next_rest n sent xs = grind (arith, common_steps)

pub front_gone : (n sent : ℕ) (xs : List ℕ) → drop sent xs ≡ take n (drop sent xs) ++ drop (sent + n) xs
front_gone n sent xs = sym (take-append-drop n (drop sent xs)) ∙ ap (λ v. take n (drop sent xs) ++ v) (next_rest n sent xs)

pub nothing_left : (sent : ℕ) (xs : List ℕ) → sent ≡ length xs → drop sent xs ≡ []
nothing_left sent xs e = drop_all sent xs (omega (arith, e))

pub none_left : (sent : ℕ) (xs : List ℕ) → sent ≤ length xs → drop sent xs ≡ [] → sent ≡ length xs
none_left sent xs within e = omega (arith, length-drop sent xs, ap length e)
