-- How histories of connections grow.
use Rattle.std.proofs.Common.{◌≡◌, ◌<◌, ◌≤◌, ℕ, ◌+◌, ◌-◌, true, false, not, List, [], ◌∷◌, ◌++◌, Option, Some, None, length, take, drop, ◌==◌, refl, ap, sym, ◌∙◌, arith, append_assoc, length-append}
use Rattle.std.proofs.Math.Seq.{take-add}
use Rattle.std.proofs.lemmas.List.{append-nil}
use Rattle.std.proofs.lemmas.Grind.{common_steps}
use Rattle.std.proofs.lemmas.Bool.Decides.{nat_tests}
use Rattle.printer_sinks.specs.Connections.{Connection, told, new_connection, longer, spoken, newest_spoke, is_begun, opened, sent}
use Rattle.printer_sinks.specs.declared.stage.SinkStage.TheVariants.{Idle}

longer-longer : (a b : List ℕ) (connections : List Connection) → longer b (longer a connections) ≡ longer (a ++ b) connections
longer-longer a b [] = refl
longer-longer a b (connection ∷ connections) = ap (λ (s : List ℕ). record { job = connection.job; took = s } ∷ connections) (append_assoc connection.took a b)

longer-nil : (connections : List Connection) → longer [] connections ≡ connections
longer-nil [] = refl
longer-nil (connection ∷ connections) = ap (λ (s : List ℕ). record { job = connection.job; took = s } ∷ connections) (append-nil connection.took)

told_twice : (a b : List ℕ) (o : Option (List Connection)) → told (longer b) (told (longer a) o) ≡ told (longer (a ++ b)) o
told_twice a b None = refl
told_twice a b (Some connections) = ap Some (longer-longer a b connections)

-- nothing was written
pub longer_none : (o : Option (List Connection)) (xs : List ℕ) → o ≡ told (longer (take 0 xs)) o
longer_none None xs = refl
longer_none (Some connections) xs = ap Some (sym (longer-nil connections))

whole_rest : (s : List ℕ) (d : ℕ) → take (length s - d) (drop d s) ≡ drop d s
whole_rest s d = grind (arith, common_steps)

-- n octets were written, and then k more
pub longer_more : (o p q : Option (List Connection)) (xs : List ℕ) (n k : ℕ) → p ≡ told (longer (take n xs)) o → q ≡ told (longer (take k (take (length xs - n) (drop n xs)))) p → q ≡ told (longer (take (n + k) xs)) o
longer_more o p q xs n k first then =
    then ∙ ap (told (longer (take k (take (length xs - n) (drop n xs))))) first ∙ told_twice (take n xs) (take k (take (length xs - n) (drop n xs))) o
    ∙ ap (λ (s : List ℕ). told (longer (take n xs ++ take k s)) o) (whole_rest xs n)
    ∙ ap (λ (s : List ℕ). told (longer s) o) (sym (take-add n k xs))

-- no octet of a job was sent
pub sent_none : (job : ℕ) (xs : List ℕ) (o : Option (List Connection)) → told (sent Idle job (take 0 xs)) o ≡ o
sent_none job xs None = refl
sent_none job xs (Some connections) = refl

spoken_new : (job : ℕ) (a : List ℕ) (connections : List Connection) → spoken (longer a (new_connection job [] connections)) ≡ sent Idle job a (spoken connections)
spoken_new job [] connections = refl
spoken_new job (x ∷ a) connections = grind (arith, nat_tests)

-- a connection that was opened took octets
pub told_new : (job : ℕ) (a : List ℕ) (o p q : Option (List Connection)) → p ≡ told (new_connection job []) o → q ≡ told (longer a) p → told spoken q ≡ told (sent Idle job a) (told spoken o)
told_new job a o p q open_ write = ap (told spoken) (write ∙ ap (told (longer a)) open_) ∙ both o
  where
    both : (o : Option (List Connection)) → told spoken (told (longer a) (told (new_connection job []) o)) ≡ told (sent Idle job a) (told spoken o)
    both None = refl
    both (Some connections) = ap Some (spoken_new job a connections)

some_more : (t a : List ℕ) → not (length t == 0) ≡ true → (length (t ++ a) == 0) ≡ false
some_more [] a h = cc
some_more (x ∷ t) a h = grind (arith, nat_tests)

longer_spoke : (a : List ℕ) (connections : List Connection) → newest_spoke connections ≡ true → (spoken (longer a connections) ≡ longer a (spoken connections)) × (newest_spoke (longer a connections) ≡ true)
longer_spoke a [] h = cc
longer_spoke a (connection ∷ connections) h =
    let more = some_more connection.took a h in
    let was : (length connection.took == 0) ≡ false = grind (arith, nat_tests) in
    (rw (more, was) refl, rw more refl)

-- a connection that took an octet took others
pub told_longer : (a : List ℕ) (o q : Option (List Connection)) → is_begun o ≡ true → q ≡ told (longer a) o → (told spoken q ≡ told (longer a) (told spoken o)) × (is_begun q ≡ true)
told_longer a None q h write = rw write (refl, refl)
told_longer a (Some connections) q h write = rw write (ap Some (longer_spoke a connections h).0, (longer_spoke a connections h).1)

spoke_new : (job : ℕ) (a : List ℕ) (connections : List Connection) → 0 < length a → newest_spoke (longer a (new_connection job [] connections)) ≡ true
spoke_new job [] connections h = absurd (omega arith)
spoke_new job (x ∷ a) connections h = grind (arith, nat_tests)

-- a connection that was opened took an octet
pub begun_new : (job : ℕ) (a : List ℕ) (o p q : Option (List Connection)) → p ≡ told (new_connection job []) o → q ≡ told (longer a) p → 0 < length a → is_begun q ≡ true
begun_new job a None p q open_ write h = rw (write, open_) refl
begun_new job a (Some connections) p q open_ write h = rw (write, open_) (spoke_new job a connections h)

pub is_new : (job : ℕ) (a : List ℕ) (connections : List Connection) → 0 < length a → sent Idle job a connections ≡ new_connection job a connections
is_new job a connections h = grind (arith, nat_tests)

new_longer : (job : ℕ) (a b : List ℕ) (connections : List Connection) → 0 < length a → longer b (sent Idle job a connections) ≡ sent Idle job (a ++ b) connections
new_longer job a b connections h = ap (longer b) (is_new job a connections h) ∙ sym (is_new job (a ++ b) connections (omega (arith, length-append a b)))

told_new_longer : (job : ℕ) (a b : List ℕ) (o : Option (List Connection)) → 0 < length a → told (longer b) (told (sent Idle job a) o) ≡ told (sent Idle job (a ++ b)) o
told_new_longer job a b None h = refl
told_new_longer job a b (Some connections) h = ap Some (new_longer job a b connections h)

-- n octets were sent on a new connection, and then k more
pub first_more : (job : ℕ) (xs : List ℕ) (n k : ℕ) (o p q : Option (List Connection)) → 0 < n → n ≤ length xs → p ≡ told (sent Idle job (take n xs)) o → q ≡ told (longer (take k (take (length xs - n) (drop n xs)))) p → q ≡ told (sent Idle job (take (n + k) xs)) o
first_more job xs n k o p q some within first then =
    let full : 0 < length (take n xs) = grind (arith, common_steps) in
    then ∙ ap (told (longer (take k (take (length xs - n) (drop n xs))))) first ∙ told_new_longer job (take n xs) (take k (take (length xs - n) (drop n xs))) o full
    ∙ ap (λ (s : List ℕ). told (sent Idle job (take n xs ++ take k s)) o) (whole_rest xs n)
    ∙ ap (λ (s : List ℕ). told (sent Idle job s) o) (sym (take-add n k xs))

-- no connection more
pub opened_longer : (a : List ℕ) (o q : Option (List Connection)) → q ≡ told (longer a) o → opened q ≡ opened o
opened_longer a o q h = ap opened h ∙ same o
  where
    same : (o : Option (List Connection)) → opened (told (longer a) o) ≡ opened o
    same None = refl
    same (Some []) = refl
    same (Some (connection ∷ connections)) = refl
