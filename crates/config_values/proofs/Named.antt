-- The queue of a name.
use Rattle.std.proofs.Common.{◌≡◌, ◌≢◌, ℕ, zero, suc, ◌+◌, ◌<◌, Bool, true, false, List, [], ◌∷◌, length, get_or, refl, sym, ◌∙◌, subst, arith}
use Rattle.std.specs.Prelude.{All}
use Rattle.std.specs.Str.{bytes_eq}
use Rattle.std.proofs.lemmas.Slice.Eq.{bytes_eq-Decides}
use Rattle.config_values.specs.Config.{Config, Queue, named_from, no_queue, queue_named}
use Rattle.config_values.specs.Ranges.{HaveOwnNames}

clash : (b : Bool) → b ≡ true → b ≡ false → ⊥
clash b e f = cc

by_name : (n : ℕ) (x : Queue) (qs : List Queue) (name : List ℕ) (i : ℕ) (b : Bool) → bytes_eq x.name name ≡ b → HaveOwnNames (x ∷ qs) → i < length (x ∷ qs) → (get_or (x ∷ qs) i no_queue).name ≡ name
    → ((m k : ℕ) → HaveOwnNames qs → k < length qs → (get_or qs k no_queue).name ≡ name → named_from m qs name ≡ m + k) → named_from n (x ∷ qs) name ≡ n + i
by_name n x qs name zero true e own lt is ih = rw e (omega arith)
by_name n x qs name zero false e own lt is ih = absurd (clash (bytes_eq x.name name) ((bytes_eq-Decides x.name name).1 is) e)
by_name n x qs name (suc k) true e own lt is ih =
    absurd (own.0 k no_queue (omega (arith, lt)) (is ∙ sym ((bytes_eq-Decides x.name name).0 e)))
by_name n x qs name (suc k) false e own lt is ih = rw e (let r = ih (n + 1) k own.1 (omega (arith, lt)) is in omega (arith, r))

named_at : (n : ℕ) (qs : List Queue) (name : List ℕ) (i : ℕ) → HaveOwnNames qs → i < length qs → (get_or qs i no_queue).name ≡ name → named_from n qs name ≡ n + i
named_at n [] name i own lt is = absurd (omega (arith, lt))
named_at n (x ∷ qs) name i own lt is = by_name n x qs name i (bytes_eq x.name name) refl own lt is (λ m k o l s. named_at m qs name k o l s)

-- where queues have their own names, the queue of a name is the one that has it
pub named : (now c : Config) (queues : List Queue) (name : List ℕ) (at q : ℕ) → c ≡ now → HaveOwnNames c.queues → queues ≡ c.queues → at < length queues → (get_or queues at no_queue).name ≡ name → q ≡ at + 1 → queue_named now name ≡ q
named now c queues name at q view own same lt is e =
    let lt' : at < length c.queues = subst (λ (qs : List Queue). at < length qs) same lt in
    let is' : (get_or c.queues at no_queue).name ≡ name = subst (λ (qs : List Queue). (get_or qs at no_queue).name ≡ name) same is in
    let r = named_at 1 c.queues name at own lt' is' in
    subst (λ (k : Config). queue_named k name ≡ q) view (omega (arith, r, e))

none_by : (n : ℕ) (x : Queue) (qs : List Queue) (name : List ℕ) (b : Bool) → bytes_eq x.name name ≡ b → x.name ≢ name → named_from (n + 1) qs name ≡ 0 → named_from n (x ∷ qs) name ≡ 0
none_by n x qs name true e ne ih = absurd (ne ((bytes_eq-Decides x.name name).0 e))
none_by n x qs name false e ne ih = rw e ih

none_at : (n : ℕ) (qs : List Queue) (name : List ℕ) → ((k : ℕ) → k < length qs → (get_or qs k no_queue).name ≢ name) → named_from n qs name ≡ 0
none_at n [] name non = refl
none_at n (x ∷ qs) name non = none_by n x qs name (bytes_eq x.name name) refl (non 0 (omega arith)) (none_at (n + 1) qs name (λ k lt. non (suc k) (omega (arith, lt))))

-- and where none has it, none is named
pub unnamed : (now c : Config) (queues : List Queue) (name : List ℕ) → c ≡ now → queues ≡ c.queues → All (λ (q : Queue). q.name ≢ name) queues → queue_named now name ≡ 0
unnamed now c queues name view same non =
    subst (λ (k : Config). queue_named k name ≡ 0) view
    (subst (λ (qs : List Queue). named_from 1 qs name ≡ 0) same (none_at 1 queues name (λ k lt. non k no_queue lt)))
