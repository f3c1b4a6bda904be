-- The claims of jobs once a page more was lent to one of them.
use Rattle.std.proofs.Common.{◌≡◌, ℕ, ◌+◌, ◌==◌, Bool, true, false, not, List, ◌∷◌, refl, sym, ◌∙◌, ap, map, filter, if◌then◌else◌}
use Rattle.config_values.specs.Config.{Config}
use Rattle.spool_history.specs.Events.{Event}
use Rattle.spool_history.specs.Events.Act.{Granted}
use Rattle.spool_history.specs.Events.Event.{OfJob}
use Rattle.spool_history.specs.Now.{Job, row_of, is_held}
use Rattle.spool_history.specs.Steps.{change, acted}
use Rattle.history_legality.specs.declared.orders.Claim.{Claim}
use Rattle.history_legality.specs.Claimed.{rows_seen, row_seen, with_lent}
use Rattle.std.proofs.lemmas.Bool.{or_right}

filter_yes : {A : Type 0} (p : A → Bool) (x : A) (xs : List A) → p x ≡ true → filter p (x ∷ xs) ≡ x ∷ filter p xs
filter_yes {A} p x xs h = ap (λ (b : Bool). if b then x ∷ filter p xs else filter p xs) h

filter_no : {A : Type 0} (p : A → Bool) (x : A) (xs : List A) → p x ≡ false → filter p (x ∷ xs) ≡ filter p xs
filter_no {A} p x xs h = ap (λ (b : Bool). if b then x ∷ filter p xs else filter p xs) h

-- a job that is held, as it is or as the page leaves it
pub one_held : {C : Type 0} (s : Config) (e : Event C) (v w : Job C) (vs : List (Job C)) (all cs : List Claim) (x : Claim) → all ≡ x ∷ cs → change e v ≡ w → is_held w ≡ true
    → row_seen s x ≡ row_of s w → rows_seen s cs ≡ map (row_of s) (filter is_held (map (change e) vs)) → rows_seen s all ≡ map (row_of s) (filter is_held (map (change e) (v ∷ vs)))
one_held {C} s e v w vs all cs x items changed held row others =
    ap (rows_seen s) items
    ∙ (cc (row, others) ∙ (ap (map (row_of s)) (sym (filter_yes is_held w (map (change e) vs) held))
    ∙ ap (λ (u : Job C). map (row_of s) (filter is_held (u ∷ map (change e) vs))) (sym changed)))

pub none_held : {C : Type 0} (s : Config) (e : Event C) (v : Job C) (vs : List (Job C)) (cs : List Claim) → change e v ≡ v → is_held v ≡ false → rows_seen s cs ≡ map (row_of s) (filter is_held (map (change e) vs)) → rows_seen s cs ≡ map (row_of s) (filter is_held (map (change e) (v ∷ vs)))
none_held {C} s e v vs cs changed held others =
    others ∙ (ap (map (row_of s)) (sym (filter_no is_held v (map (change e) vs) held))
    ∙ ap (λ (u : Job C). map (row_of s) (filter is_held (u ∷ map (change e) vs))) (sym changed))

-- the job that the page is lent to, and each other
pub lent_one : {C : Type 0} (n : ℕ) (v : Job C) → (n == v.number) ≡ true → change (OfJob n Granted) v ≡ with_lent (v.granted + 1) true v
lent_one n v h = ap (λ (b : Bool). if b then acted Granted v else v) h

pub other_one : {C : Type 0} (n : ℕ) (v : Job C) → (n == v.number) ≡ false → change (OfJob n Granted) v ≡ v
other_one n v h = ap (λ (b : Bool). if b then acted Granted v else v) h

-- a job is held while a page is lent to it
pub held_with_page : {C : Type 0} (granted : ℕ) (v : Job C) → is_held (with_lent granted true v) ≡ true
held_with_page granted v = or_right (not v.ended) true refl
