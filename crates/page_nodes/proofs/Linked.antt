-- What becomes of linked nodes when a node is added or taken.
use Rattle.std.proofs.Common.{◌≡◌, ℕ, zero, suc, ◌+◌, ◌-◌, ◌<◌, ◌≤◌, ◌⊎◌, inl, inr, Bool, true, Option, Some, None, List, [], ◌∷◌, ◌++◌, length, drop, set, get_or, refl, sym, ◌∙◌, ap, subst, arith, cond, nat_eq, replicate}
use Rattle.std.specs.Prelude.{IsSome, is_some, count_by}
use Rattle.std.proofs.lemmas.Bool.{cases_eq, cases_lt, eq-eqb, ne_eqb}
use Rattle.std.proofs.lemmas.List.{get_or-set_same, get_or-set_other, length-set, map-append, length-map, get_or-replicate, length-replicate}
use Rattle.std.proofs.lemmas.List.Sums.{sum_by-set}
use Rattle.slab.specs.Slab.{Slab, get, slab_len, ContainsKey, with_value, Updates}
use Rattle.slab.proofs.SlabLemmas.{Updates-with_value, ContainsKey-within}
use Rattle.page_pool.specs.Page.{Page}
use Rattle.page_nodes.specs.declared.strand.Strand.{Strand}
use Rattle.page_nodes.specs.Chains.{Chains, chain_of, with_chain, total}
use Rattle.page_nodes.specs.Links.{no_strand, strand_at, or_zero, next_of, page_at, or_blank, nodes_from, nodes_of, pages_at, pages_of, chains_of, Has, Distinct, last_of, IsNode, Lies, AreEmpty, held, IsSound}

pub length-nodes_from : (next : ℕ → ℕ) (n x : ℕ) → length (nodes_from next n x) ≡ n
length-nodes_from next zero x = refl
length-nodes_from next (suc n) x = ap suc (length-nodes_from next n (next x))

pub nodes_same : (next later : ℕ → ℕ) (n x : ℕ) → ((y : ℕ) → Has (nodes_from next n x) y → later y ≡ next y) → nodes_from later n x ≡ nodes_from next n x
nodes_same next later zero x h = refl
nodes_same next later (suc n) x h =
    ap (λ (z : ℕ). x ∷ nodes_from later n z) (h x (inl refl))
    ∙ ap (λ (ys : List ℕ). x ∷ ys) (nodes_same next later n (next x) (λ y m. h y (inr m)))

pub last_in : (x : ℕ) (xs : List ℕ) (d : ℕ) → Has (x ∷ xs) (last_of (x ∷ xs) d)
last_in x [] d = inl refl
last_in x (y ∷ xs) d = inr (last_in y xs x)

pub nodes_push : (next later : ℕ → ℕ) (n x last new : ℕ) → Distinct (nodes_from next (suc n) x) → last_of (nodes_from next (suc n) x) last ≡ last → later last ≡ new
    → ((y : ℕ) → Has (nodes_from next (suc n) x) y → (y ≡ last → ⊥) → later y ≡ next y) → nodes_from later (suc (suc n)) x ≡ nodes_from next (suc n) x ++ new ∷ []
nodes_push next later zero x last new d l e h = ap (λ (z : ℕ). x ∷ z ∷ []) (ap later l ∙ e)
nodes_push next later (suc n) x last new d l e h =
    let tail = nodes_from next (suc n) (next x) in
    let differs : x ≡ last → ⊥ = λ same. d.0 (subst (Has tail) (l ∙ sym same) (last_in (next x) (nodes_from next n (next (next x))) x)) in
    ap (λ (z : ℕ). x ∷ nodes_from later (suc (suc n)) z) (h x (inl refl) differs)
    ∙ ap (λ (ys : List ℕ). x ∷ ys) (nodes_push next later n (next x) last new d.1 l e (λ y m. h y (inr m)))

-- a strand of any length with one node more
pub grown : (next later : ℕ → ℕ) (n x last new m y : ℕ) → Distinct (nodes_from next n x) → last_of (nodes_from next n x) last ≡ last → m ≡ n + 1
    → (n ≡ 0 → y ≡ new) → (0 < n → y ≡ x) → (0 < n → later last ≡ new)
    → ((z : ℕ) → Has (nodes_from next n x) z → (z ≡ last → ⊥) → later z ≡ next z) → nodes_from later m y ≡ nodes_from next n x ++ new ∷ []
grown next later zero x last new m y d l e f g j h =
    let one : m ≡ 1 = omega arith in
    ap (λ (i : ℕ). nodes_from later i y) one ∙ ap (λ (z : ℕ). z ∷ []) (f refl)
grown next later (suc n) x last new m y d l e f g j h =
    let more : m ≡ suc (suc n) = omega arith in
    let some : 0 < suc n = omega arith in
    ap (λ (i : ℕ). nodes_from later i y) more ∙ (ap (nodes_from later (suc (suc n))) (g some) ∙ nodes_push next later n x last new d l (j some) h)

pub has_push : (xs : List ℕ) (new y : ℕ) → Has (xs ++ new ∷ []) y → Has xs y ⊎ (y ≡ new)
has_push [] new y (inl e) = inr e
has_push [] new y (inr h) = absurd h
has_push (x ∷ xs) new y (inl e) = inl (inl e)
has_push (x ∷ xs) new y (inr h) = elim (has_push xs new y h) [ inl m ↦ inl (inr m) | inr e ↦ inr e ]

pub distinct_push : (xs : List ℕ) (new : ℕ) → Distinct xs → (Has xs new → ⊥) → Distinct (xs ++ new ∷ [])
distinct_push [] new d f = (λ h. h, tt)
distinct_push (x ∷ xs) new d f = (λ m. elim (has_push xs new x m) [ inl n ↦ d.0 n | inr e ↦ f (inl (sym e)) ], distinct_push xs new d.1 (λ m. f (inr m)))

pub last_push : (xs : List ℕ) (new d : ℕ) → last_of (xs ++ new ∷ []) d ≡ new
last_push [] new d = refl
last_push (x ∷ xs) new d = last_push xs new x

pub pages_same : (slots after : List (Option Page)) (xs : List ℕ) → ((x : ℕ) → Has xs x → page_at after x ≡ page_at slots x) → pages_at after xs ≡ pages_at slots xs
pages_same slots after [] h = refl
pages_same slots after (x ∷ xs) h =
    ap (λ (p : Option Page). or_blank p ∷ pages_at after xs) (h x (inl refl))
    ∙ ap (λ (ps : List Page). or_blank (page_at slots x) ∷ ps) (pages_same slots after xs (λ y m. h y (inr m)))

-- a node that a call leaves as it was
pub record Same (links later : Slab ℕ) (slots after : List (Option Page)) (owner owners : ℕ → ℕ) (x : ℕ) : Type 0 where
  pub link : get later x ≡ get links x
  pub slot : page_at after x ≡ page_at slots x
  pub owned : owners x ≡ owner x

pub same_nodes : (links later : Slab ℕ) (slots after : List (Option Page)) (owner owners : ℕ → ℕ) (s : Strand) → ((x : ℕ) → Has (nodes_of links s) x → Same links later slots after owner owners x) → nodes_of later s ≡ nodes_of links s
same_nodes links later slots after owner owners s h = nodes_same (next_of links) (next_of later) s.len s.first (λ y m. ap or_zero (h y m).link)

pub same_node : (links later : Slab ℕ) (slots after : List (Option Page)) (owner owners : ℕ → ℕ) (k x : ℕ) → Same links later slots after owner owners x → IsNode links slots owner k x → IsNode later after owners k x
same_node links later slots after owner owners k x e n =
    record {
      linked = subst (λ (o : Option ℕ). IsSome o) (sym e.link) n.linked;
      filled = subst (λ (o : Option Page). IsSome o) (sym e.slot) n.filled;
      owned = e.owned ∙ n.owned;
    }

-- a strand whose nodes are left as they were
pub same_lies : (links later : Slab ℕ) (slots after : List (Option Page)) (owner owners : ℕ → ℕ) (k : ℕ) (s : Strand) → ((x : ℕ) → Has (nodes_of links s) x → Same links later slots after owner owners x) → Lies links slots owner k s → Lies later after owners k s
same_lies links later slots after owner owners k s h l =
    let e = same_nodes links later slots after owner owners s h in
    record {
      nodes = λ x m. let n = subst (λ (xs : List ℕ). Has xs x) e m in same_node links later slots after owner owners k x (h x n) (l.nodes x n);
      distinct = subst Distinct (sym e) l.distinct;
      last = ap (λ (xs : List ℕ). last_of xs s.last) e ∙ l.last;
    }

pub same_pages : (links later : Slab ℕ) (slots after : List (Option Page)) (owner owners : ℕ → ℕ) (s : Strand) → ((x : ℕ) → Has (nodes_of links s) x → Same links later slots after owner owners x) → pages_of later after s ≡ pages_of links slots s
same_pages links later slots after owner owners s h =
    ap (pages_at after) (same_nodes links later slots after owner owners s h) ∙ pages_same slots after (nodes_of links s) (λ x m. (h x m).slot)

-- counts
pub held_set : (strands : List Strand) (k : ℕ) (t : Strand) → k < length strands → held (set strands k t) + (strand_at strands k).len ≡ held strands + t.len
held_set [] k t lt = absurd (omega arith)
held_set (s ∷ strands) zero t lt = omega arith
held_set (s ∷ strands) (suc k) t lt = let ih = held_set strands k t (omega arith) in omega (arith, ih)

pub held_has : (strands : List Strand) (k : ℕ) → (strand_at strands k).len ≤ held strands
held_has [] k = omega arith
held_has (s ∷ strands) zero = omega arith
held_has (s ∷ strands) (suc k) = let ih = held_has strands k in omega (arith, ih)

pub length-pages_of : (links : Slab ℕ) (slots : List (Option Page)) (s : Strand) → length (pages_of links slots s) ≡ s.len
length-pages_of links slots s = length-map (nodes_of links s) (λ x. or_blank (page_at slots x)) ∙ length-nodes_from (next_of links) s.len s.first

pub total_held : (links : Slab ℕ) (slots : List (Option Page)) (strands : List Strand) → total (chains_of links slots strands) ≡ held strands
total_held links slots [] = refl
total_held links slots (s ∷ strands) = let n = length-pages_of links slots s in let ih = total_held links slots strands in omega (arith, n, ih)

pub chain_at : (links : Slab ℕ) (slots : List (Option Page)) (strands : List Strand) (k : ℕ) → get_or (chains_of links slots strands) k [] ≡ pages_of links slots (strand_at strands k)
chain_at links slots [] k = refl
chain_at links slots (s ∷ strands) zero = refl
chain_at links slots (s ∷ strands) (suc k) = chain_at links slots strands k

-- the chains after a call on one
pub chains_same : (links later : Slab ℕ) (slots after : List (Option Page)) (strands : List Strand) → ((j : ℕ) → j < length strands → pages_of later after (strand_at strands j) ≡ pages_of links slots (strand_at strands j)) → chains_of later after strands ≡ chains_of links slots strands
chains_same links later slots after [] h = refl
chains_same links later slots after (s ∷ strands) h =
    ap (λ (ps : List Page). ps ∷ chains_of later after strands) (h 0 (omega arith))
    ∙ ap (λ (c : List (List Page)). pages_of links slots s ∷ c) (chains_same links later slots after strands (λ j lt. h (suc j) (omega arith)))

pub chains_set : (links later : Slab ℕ) (slots after : List (Option Page)) (strands : List Strand) (k : ℕ) (t : Strand)
    → ((j : ℕ) → j < length strands → (j ≡ k → ⊥) → pages_of later after (strand_at strands j) ≡ pages_of links slots (strand_at strands j))
    → chains_of later after (set strands k t) ≡ set (chains_of links slots strands) k (pages_of later after t)
chains_set links later slots after [] k t h = refl
chains_set links later slots after (s ∷ strands) zero t h =
    ap (λ (c : List (List Page)). pages_of later after t ∷ c) (chains_same links later slots after strands (λ j lt. h (suc j) (omega arith) (λ e. omega arith)))
chains_set links later slots after (s ∷ strands) (suc k) t h =
    ap (λ (ps : List Page). ps ∷ chains_of later after (set strands k t)) (h 0 (omega arith) (λ e. omega arith))
    ∙ ap (λ (c : List (List Page)). pages_of links slots s ∷ c) (chains_set links later slots after strands k t (λ j lt ne. h (suc j) (omega arith) (λ e. ne (omega arith))))

-- what a call on the chain k owes, whatever it does
pub record Steps (links later : Slab ℕ) (slots after : List (Option Page)) (owner owners : ℕ → ℕ) (strands : List Strand) (k : ℕ) (t : Strand) : Type 0 where
  pub here : k < length strands
  pub capacity : later.capacity ≡ links.capacity
  pub size : length after ≡ length slots
  pub counted : slab_len later + (strand_at strands k).len ≡ slab_len links + t.len
  pub lies : Lies later after owners k t
  pub others : (j : ℕ) → (j ≡ k → ⊥) → (x : ℕ) → IsNode links slots owner j x → Same links later slots after owner owners x
  pub vacant : AreEmpty links slots → AreEmpty later after

pub step_sound : (links later : Slab ℕ) (slots after : List (Option Page)) (owners : ℕ → ℕ) (strands : List Strand) (k : ℕ) (t : Strand) (room : ℕ)
    → (i : IsSound links slots strands room) → Steps links later slots after i.owner owners strands k t → held (set strands k t) ≤ room → IsSound later after (set strands k t) room
step_sound links later slots after owners strands k t room i p fits =
    record {
      slots_enough = (let e = p.size in let c = p.capacity in let o = i.slots_enough in omega (arith, e, c, o));
      links_enough = (let c = p.capacity in let o = i.links_enough in omega (arith, c, o));
      counted = (let n = p.counted in let o = i.counted in let h = held_set strands k t p.here in omega (arith, n, o, h));
      fits = fits;
      vacant = p.vacant i.vacant;
      owner = owners;
      lies = λ j lt. elim (cases_eq j k) [
        | inl e ↦ subst (λ (n : ℕ). Lies later after owners n (strand_at (set strands k t) n)) (sym e) (subst (Lies later after owners k) (sym (get_or-set_same strands k t no_strand p.here)) p.lies)
        | inr ne ↦
            let old = i.lies j (let n = length-set strands k t in omega (arith, n)) in
            subst (Lies later after owners j) (sym (get_or-set_other strands k j t no_strand ne))
            (same_lies links later slots after i.owner owners j (strand_at strands j) (λ x m. p.others j ne x (old.nodes x m)) old)
      ];
    }

pub step_chains : (links later : Slab ℕ) (slots after : List (Option Page)) (owners : ℕ → ℕ) (strands : List Strand) (k : ℕ) (t : Strand) (room : ℕ)
    → (i : IsSound links slots strands room) → Steps links later slots after i.owner owners strands k t → chains_of later after (set strands k t) ≡ set (chains_of links slots strands) k (pages_of later after t)
step_chains links later slots after owners strands k t room i p =
    chains_set links later slots after strands k t
    (λ j lt ne. same_pages links later slots after i.owner owners (strand_at strands j) (λ x m. p.others j ne x ((i.lies j lt).nodes x m)))

-- a call that adds a node to the chain k
pub record Pushes (links made later : Slab ℕ) (slots after : List (Option Page)) (s t : Strand) (new : ℕ) (page : Page) : Type 0 where
  pub fresh : get links new ≡ None
  pub within : new < length slots
  pub updates : Updates links made new (Some 0)
  pub capacity : made.capacity ≡ links.capacity
  pub counted : slab_len made ≡ slab_len links + 1
  pub filled : after ≡ set slots new (Some page)
  pub len : t.len ≡ s.len + 1
  pub last : t.last ≡ new
  pub first_of_none : s.len ≡ 0 → t.first ≡ new
  pub first_of_some : 0 < s.len → t.first ≡ s.first
  pub links_of_none : s.len ≡ 0 → later ≡ made
  pub links_of_some : 0 < s.len → later ≡ with_value made s.last new

last_has : (next : ℕ → ℕ) (n x d : ℕ) → 0 < n → Has (nodes_from next n x) (last_of (nodes_from next n x) d)
last_has next zero x d lt = absurd (omega arith)
last_has next (suc n) x d lt = last_in x (nodes_from next n (next x)) d

pub last_node : (links : Slab ℕ) (slots : List (Option Page)) (owner : ℕ → ℕ) (k : ℕ) (s : Strand) → Lies links slots owner k s → 0 < s.len → IsNode links slots owner k s.last
last_node links slots owner k s l lt =
    l.nodes s.last (subst (Has (nodes_of links s)) l.last (last_has (next_of links) s.len s.first s.last lt))

not_both : (o : Option ℕ) → o ≡ None → IsSome o → ⊥
not_both None e h = absurd cc
not_both (Some x) e h = absurd cc

pub not_fresh : (links : Slab ℕ) (slots : List (Option Page)) (owner : ℕ → ℕ) (k x new : ℕ) → IsNode links slots owner k x → get links new ≡ None → x ≡ new → ⊥
not_fresh links slots owner k x new n f e =
    not_both (get links new) f (subst (λ (y : ℕ). ContainsKey links y) e n.linked)

pub contained : (links made : Slab ℕ) (new x : ℕ) → Updates links made new (Some 0) → (x ≡ new → ⊥) → ContainsKey links x → ContainsKey made x
contained links made new x u ne h = subst (λ (o : Option ℕ). IsSome o) (sym (u.others x ne)) h

pub slab_len-with_value : (links : Slab ℕ) (x y : ℕ) → ContainsKey links x → slab_len (with_value links x y) ≡ slab_len links
slab_len-with_value links x y h =
    let n = sum_by-set (λ (o : Option ℕ). cond (is_some o) 1 0) links.slots x (Some y) None (ContainsKey-within links x h) in
    let value : Bool → ℕ = λ b. cond b 1 0 in
    let one : value (is_some (get links x)) ≡ value true = ap value h in
    omega (arith, n, one)

abbrev pub given : (ℕ → ℕ) → ℕ → ℕ → ℕ → ℕ
given owner new k x = cond (nat_eq x new) k (owner x)

given_new : (owner : ℕ → ℕ) (new k : ℕ) → given owner new k new ≡ k
given_new owner new k = rw (eq-eqb new new refl) refl

given_other : (owner : ℕ → ℕ) (new k x : ℕ) → (x ≡ new → ⊥) → given owner new k x ≡ owner x
given_other owner new k x ne = rw (ne_eqb x new ne) refl

module _ (links made later : Slab ℕ) (slots after : List (Option Page)) (owner : ℕ → ℕ) (k : ℕ) (s t : Strand) (new : ℕ) (page : Page) (l : Lies links slots owner k s) (p : Pushes links made later slots after s t new page) where
  last_differs : 0 < s.len → s.last ≡ new → ⊥
  last_differs lt = not_fresh links slots owner k s.last new (last_node links slots owner k s l lt) p.fresh

  last_contained : 0 < s.len → ContainsKey made s.last
  last_contained lt = contained links made new s.last p.updates (last_differs lt) (last_node links slots owner k s l lt).linked

  push_link : (x : ℕ) → (x ≡ new → ⊥) → (0 < s.len → x ≡ s.last → ⊥) → get later x ≡ get links x
  push_link x ne nl = elim (cases_lt 0 s.len) [
    | inl lt ↦ ap (λ (m : Slab ℕ). get m x) (p.links_of_some lt) ∙ ((Updates-with_value made s.last new (last_contained lt)).others x (nl lt) ∙ p.updates.others x ne)
    | inr le ↦ ap (λ (m : Slab ℕ). get m x) (p.links_of_none (omega arith)) ∙ p.updates.others x ne
  ]

  push_new : ContainsKey later new
  push_new = elim (cases_lt 0 s.len) [
    | inl lt ↦
        let e : get later new ≡ Some 0 = ap (λ (m : Slab ℕ). get m new) (p.links_of_some lt) ∙ ((Updates-with_value made s.last new (last_contained lt)).others new (λ e. last_differs lt (sym e)) ∙ p.updates.changed) in
        subst (λ (o : Option ℕ). IsSome o) (sym e) refl
    | inr le ↦
        let e : get later new ≡ Some 0 = ap (λ (m : Slab ℕ). get m new) (p.links_of_none (omega arith)) ∙ p.updates.changed in
        subst (λ (o : Option ℕ). IsSome o) (sym e) refl
  ]

  push_last : 0 < s.len → get later s.last ≡ Some new
  push_last lt = ap (λ (m : Slab ℕ). get m s.last) (p.links_of_some lt) ∙ (Updates-with_value made s.last new (last_contained lt)).changed

  push_joined : 0 < s.len → next_of later s.last ≡ new
  push_joined lt = ap or_zero (push_last lt)

  push_slot : page_at after new ≡ Some page
  push_slot = ap (λ (xs : List (Option Page)). page_at xs new) p.filled ∙ get_or-set_same slots new (Some page) None p.within

  push_slots : (x : ℕ) → (x ≡ new → ⊥) → page_at after x ≡ page_at slots x
  push_slots x ne = ap (λ (xs : List (Option Page)). page_at xs x) p.filled ∙ get_or-set_other slots new x (Some page) None ne

  push_capacity : later.capacity ≡ links.capacity
  push_capacity = elim (cases_lt 0 s.len) [
    | inl lt ↦ ap (λ (m : Slab ℕ). m.capacity) (p.links_of_some lt) ∙ p.capacity
    | inr le ↦ ap (λ (m : Slab ℕ). m.capacity) (p.links_of_none (omega arith)) ∙ p.capacity
  ]

  push_count : slab_len later ≡ slab_len links + 1
  push_count = elim (cases_lt 0 s.len) [
    | inl lt ↦ ap (λ (m : Slab ℕ). slab_len m) (p.links_of_some lt) ∙ (slab_len-with_value made s.last new (last_contained lt) ∙ p.counted)
    | inr le ↦ ap (λ (m : Slab ℕ). slab_len m) (p.links_of_none (omega arith)) ∙ p.counted
  ]

  -- a node of the chain
  old_differs : (x : ℕ) → Has (nodes_of links s) x → x ≡ new → ⊥
  old_differs x m = not_fresh links slots owner k x new (l.nodes x m) p.fresh

  pub push_nodes : nodes_of later t ≡ nodes_of links s ++ new ∷ []
  push_nodes = grown (next_of links) (next_of later) s.len s.first s.last new t.len t.first l.distinct l.last p.len p.first_of_none p.first_of_some push_joined
      (λ z m nl. ap or_zero (push_link z (old_differs z m) (λ lt. nl)))

  pub push_pages : pages_of later after t ≡ pages_of links slots s ++ page ∷ []
  push_pages =
      ap (pages_at after) push_nodes
      ∙ (map-append (λ x. or_blank (page_at after x)) (nodes_of links s) (new ∷ [])
      ∙ (ap (λ (ps : List Page). ps ++ or_blank (page_at after new) ∷ []) (pages_same slots after (nodes_of links s) (λ x m. push_slots x (old_differs x m)))
      ∙ ap (λ (o : Option Page). pages_of links slots s ++ or_blank o ∷ []) push_slot))

  node_kept : (x : ℕ) → Has (nodes_of links s) x → IsNode later after (given owner new k) k x
  node_kept x m =
      let n = l.nodes x m in
      let ne = old_differs x m in
      record {
        linked = elim (cases_eq x s.last) [
          | inl e ↦ elim (cases_lt 0 s.len) [
            | inl lt ↦ subst (λ (o : Option ℕ). IsSome o) (sym (ap (get later) e ∙ push_last lt)) refl
            | inr le ↦ subst (λ (o : Option ℕ). IsSome o) (sym (push_link x ne (λ lt. absurd (omega arith)))) n.linked
          ]
          | inr d ↦ subst (λ (o : Option ℕ). IsSome o) (sym (push_link x ne (λ lt. d))) n.linked
        ];
        filled = subst (λ (o : Option Page). IsSome o) (sym (push_slots x ne)) n.filled;
        owned = given_other owner new k x ne ∙ n.owned;
      }

  node_new : IsNode later after (given owner new k) k new
  node_new =
      record {
        linked = push_new;
        filled = subst (λ (o : Option Page). IsSome o) (sym push_slot) refl;
        owned = given_new owner new k;
      }

  pub push_lies : Lies later after (given owner new k) k t
  push_lies =
      record {
        nodes = λ x m. elim (has_push (nodes_of links s) new x (subst (λ (xs : List ℕ). Has xs x) push_nodes m)) [
          | inl old ↦ node_kept x old
          | inr e ↦ subst (IsNode later after (given owner new k) k) (sym e) node_new
        ];
        distinct = subst Distinct (sym push_nodes) (distinct_push (nodes_of links s) new l.distinct (λ m. old_differs new m refl));
        last = ap (λ (xs : List ℕ). last_of xs t.last) push_nodes ∙ (last_push (nodes_of links s) new t.last ∙ sym p.last);
      }

  pub push_others : (j : ℕ) → (j ≡ k → ⊥) → (x : ℕ) → IsNode links slots owner j x → Same links later slots after owner (given owner new k) x
  push_others j ne x n =
      let differs : x ≡ new → ⊥ = not_fresh links slots owner j x new n p.fresh in
      record {
        link = push_link x differs (λ lt e. ne (sym n.owned ∙ (ap owner e ∙ (last_node links slots owner k s l lt).owned)));
        slot = push_slots x differs;
        owned = given_other owner new k x differs;
      }

  -- the new node and the last one are in use, and the others are as they were
  pub push_vacant : AreEmpty links slots → AreEmpty later after
  push_vacant e x n =
      let differs : x ≡ new → ⊥ = λ same. not_both (get later new) (ap (get later) (sym same) ∙ n) push_new in
      let apart : 0 < s.len → x ≡ s.last → ⊥ = λ lt same. not_both (get later s.last) (ap (get later) (sym same) ∙ n) (subst (λ (o : Option ℕ). IsSome o) (sym (push_last lt)) refl) in
      push_slots x differs ∙ e x (sym (push_link x differs apart) ∙ n)

pub push_steps : (links made later : Slab ℕ) (slots after : List (Option Page)) (strands : List Strand) (k : ℕ) (t : Strand) (new : ℕ) (page : Page) (room : ℕ)
    → (i : IsSound links slots strands room) → k < length strands → Pushes links made later slots after (strand_at strands k) t new page
    → Steps links later slots after i.owner (given i.owner new k) strands k t
push_steps links made later slots after strands k t new page room i lt p =
    let s = strand_at strands k in
    let l = i.lies k lt in
    record {
      here = lt;
      capacity = push_capacity links made later slots after i.owner k s t new page l p;
      size = ap length p.filled ∙ length-set slots new (Some page);
      counted = (let n = push_count links made later slots after i.owner k s t new page l p in let m = p.len in omega (arith, n, m));
      lies = push_lies links made later slots after i.owner k s t new page l p;
      others = push_others links made later slots after i.owner k s t new page l p;
      vacant = push_vacant links made later slots after i.owner k s t new page l p;
    }

-- what is seen of an open store
abbrev pub seen : Slab ℕ → List (Option Page) → List Strand → ℕ → Chains
seen links slots strands room = record { chains = chains_of links slots strands; room = room }

pub here : (links : Slab ℕ) (slots : List (Option Page)) (strands : List Strand) (room k : ℕ) (c : Chains) → seen links slots strands room ≡ c → k < length c.chains → k < length strands
here links slots strands room k c v lt =
    let n = length-map strands (λ s. pages_of links slots s) in
    let m = ap (λ (u : Chains). length u.chains) v in
    omega (arith, n, m)

pub chain_is : (links : Slab ℕ) (slots : List (Option Page)) (strands : List Strand) (room k : ℕ) (c : Chains) → seen links slots strands room ≡ c → chain_of c k ≡ pages_of links slots (strand_at strands k)
chain_is links slots strands room k c v = ap (λ (u : Chains). chain_of u k) (sym v) ∙ chain_at links slots strands k

pub total_is : (links : Slab ℕ) (slots : List (Option Page)) (strands : List Strand) (room : ℕ) (c : Chains) → seen links slots strands room ≡ c → total c.chains ≡ held strands
total_is links slots strands room c v = ap (λ (u : Chains). total u.chains) (sym v) ∙ total_held links slots strands

-- what is seen after a call on the chain k
pub seen_after : (links later : Slab ℕ) (slots after : List (Option Page)) (owners : ℕ → ℕ) (strands : List Strand) (k : ℕ) (t : Strand) (room : ℕ) (c : Chains) (pages : List Page)
    → (i : IsSound links slots strands room) → Steps links later slots after i.owner owners strands k t → seen links slots strands room ≡ c → pages_of later after t ≡ pages
    → seen later after (set strands k t) room ≡ with_chain c k pages
seen_after links later slots after owners strands k t room c pages i p v e =
    ap (λ (cs : List (List Page)). record { chains = cs; room = room }) (step_chains links later slots after owners strands k t room i p ∙ ap (λ (ps : List Page). set (chains_of links slots strands) k ps) e)
    ∙ ap (λ (u : Chains). with_chain u k pages) v

-- a call that takes the first node of the chain k
pub record Takes (links later : Slab ℕ) (slots after : List (Option Page)) (s t : Strand) (page : Page) : Type 0 where
  pub updates : Updates links later s.first None
  pub capacity : later.capacity ≡ links.capacity
  pub counted : slab_len later + 1 ≡ slab_len links
  pub shows : page_at slots s.first ≡ Some page
  pub emptied : after ≡ set slots s.first None
  pub first : t.first ≡ next_of links s.first
  pub last : t.last ≡ s.last
  pub len : t.len + 1 ≡ s.len

-- a slot that was emptied
none_there : (slots : List (Option Page)) (x : ℕ) → page_at (set slots x None) x ≡ None
none_there [] x = refl
none_there (o ∷ slots) zero = refl
none_there (o ∷ slots) (suc x) = none_there slots x

uncons : (next : ℕ → ℕ) (n x m y : ℕ) → n ≡ suc m → y ≡ next x → nodes_from next n x ≡ x ∷ nodes_from next m y
uncons next n x m y e f = ap (λ (i : ℕ). nodes_from next i x) e ∙ ap (λ (z : ℕ). x ∷ nodes_from next m z) (sym f)

last_rest : (xs : List ℕ) (d e : ℕ) → last_of xs d ≡ e → last_of xs e ≡ e
last_rest [] d e h = refl
last_rest (x ∷ xs) d e h = h

pub first_node : (links : Slab ℕ) (slots : List (Option Page)) (owner : ℕ → ℕ) (k : ℕ) (s : Strand) → Lies links slots owner k s → 0 < s.len → IsNode links slots owner k s.first
first_node links slots owner k s l lt =
    l.nodes s.first (subst (λ (xs : List ℕ). Has xs s.first) (sym (uncons (next_of links) s.len s.first (s.len - 1) (next_of links s.first) (omega arith) refl)) (inl refl))

module _ (links later : Slab ℕ) (slots after : List (Option Page)) (owner : ℕ → ℕ) (k : ℕ) (s t : Strand) (page : Page) (l : Lies links slots owner k s) (p : Takes links later slots after s t page) where
  take_nodes : nodes_of links s ≡ s.first ∷ nodes_of links t
  take_nodes = uncons (next_of links) s.len s.first t.len t.first (let e = p.len in omega (arith, e)) p.first

  take_distinct : Distinct (s.first ∷ nodes_of links t)
  take_distinct = subst Distinct take_nodes l.distinct

  take_same : (x : ℕ) → (x ≡ s.first → ⊥) → Same links later slots after owner owner x
  take_same x ne =
      record {
        link = p.updates.others x ne;
        slot = ap (λ (xs : List (Option Page)). page_at xs x) p.emptied ∙ get_or-set_other slots s.first x None None ne;
        owned = refl;
      }

  tail_same : (x : ℕ) → Has (nodes_of links t) x → Same links later slots after owner owner x
  tail_same x m = take_same x (λ e. take_distinct.0 (subst (Has (nodes_of links t)) e m))

  pub take_pages : pages_of links slots s ≡ page ∷ pages_of later after t
  take_pages =
      ap (pages_at slots) take_nodes
      ∙ (ap (λ (o : Option Page). or_blank o ∷ pages_of links slots t) p.shows
      ∙ ap (λ (ps : List Page). page ∷ ps) (sym (same_pages links later slots after owner owner t tail_same)))

  take_lies : Lies later after owner k t
  take_lies =
      same_lies links later slots after owner owner k t tail_same
      (record {
        nodes = λ x m. l.nodes x (subst (λ (xs : List ℕ). Has xs x) (sym take_nodes) (inr m));
        distinct = take_distinct.1;
        last = last_rest (nodes_of links t) s.first t.last (sym (ap (λ (xs : List ℕ). last_of xs s.last) take_nodes) ∙ (l.last ∙ sym p.last));
      })

  pub take_owns : 0 < s.len
  take_owns = let e = p.len in omega (arith, e)

  take_others : (j : ℕ) → (j ≡ k → ⊥) → (x : ℕ) → IsNode links slots owner j x → Same links later slots after owner owner x
  take_others j ne x n = take_same x (λ e. ne (sym n.owned ∙ (ap owner e ∙ (first_node links slots owner k s l take_owns).owned)))

  take_vacant : AreEmpty links slots → AreEmpty later after
  take_vacant e x n = elim (cases_eq x s.first) [
    | inl same ↦ ap (λ (xs : List (Option Page)). page_at xs x) p.emptied ∙ subst (λ (y : ℕ). page_at (set slots y None) x ≡ None) same (none_there slots x)
    | inr ne ↦ (take_same x ne).slot ∙ e x (sym (take_same x ne).link ∙ n)
  ]

pub take_steps : (links later : Slab ℕ) (slots after : List (Option Page)) (strands : List Strand) (k : ℕ) (t : Strand) (page : Page) (room : ℕ)
    → (i : IsSound links slots strands room) → k < length strands → Takes links later slots after (strand_at strands k) t page
    → Steps links later slots after i.owner i.owner strands k t
take_steps links later slots after strands k t page room i lt p =
    let s = strand_at strands k in
    let l = i.lies k lt in
    record {
      here = lt;
      capacity = p.capacity;
      size = ap length p.emptied ∙ length-set slots s.first None;
      counted = (let n = p.counted in let m = p.len in omega (arith, n, m));
      lies = take_lies links later slots after i.owner k s t page l p;
      others = take_others links later slots after i.owner k s t page l p;
      vacant = take_vacant links later slots after i.owner k s t page l p;
    }

-- a store with no page
pub none_lies : (links : Slab ℕ) (slots : List (Option Page)) (owner : ℕ → ℕ) (k : ℕ) → Lies links slots owner k no_strand
none_lies links slots owner k = record { nodes = λ x m. absurd m; distinct = tt; last = refl }

pub none_held : (n : ℕ) → held (replicate n no_strand) ≡ 0
none_held zero = refl
none_held (suc n) = let ih = none_held n in omega (arith, ih)

pub none_chains : (links : Slab ℕ) (slots : List (Option Page)) (n : ℕ) → chains_of links slots (replicate n no_strand) ≡ replicate n []
none_chains links slots zero = refl
none_chains links slots (suc n) = ap (λ (c : List (List Page)). [] ∷ c) (none_chains links slots n)

none_at : (count x : ℕ) → page_at (replicate count None) x ≡ None
none_at zero x = refl
none_at (suc count) zero = refl
none_at (suc count) (suc x) = none_at count x

pub none_sound : (links : Slab ℕ) (slots : List (Option Page)) (n room count : ℕ) → links.slots ≡ [] → room ≤ links.capacity → links.capacity ≤ count → slots ≡ replicate count None → IsSound links slots (replicate n no_strand) room
none_sound links slots n room count e r m empty =
    record {
      slots_enough = (let l = ap length empty ∙ length-replicate count None in omega (arith, m, l));
      links_enough = r;
      counted = ap (λ (xs : List (Option ℕ)). count_by is_some xs) e ∙ sym (none_held n);
      fits = (let h = none_held n in omega (arith, h));
      vacant = λ x v. ap (λ (xs : List (Option Page)). page_at xs x) empty ∙ none_at count x;
      owner = λ x. 0;
      lies = λ k lt. subst (Lies links slots (λ x. 0) k) (sym (get_or-replicate n k no_strand no_strand (let l = length-replicate n no_strand in omega (arith, l)))) (none_lies links slots (λ x. 0) k);
    }

-- the first page of a strand that has one
first_of : (next : ℕ → ℕ) (slots : List (Option Page)) (n x : ℕ) (page : Page) → 0 < n → page_at slots x ≡ Some page
    → pages_at slots (nodes_from next n x) ≡ page ∷ drop 1 (pages_at slots (nodes_from next n x))
first_of next slots zero x page lt e = absurd (omega arith)
first_of next slots (suc n) x page lt e = ap (λ (o : Option Page). or_blank o ∷ pages_at slots (nodes_from next n (next x))) e

pub first_page : (links : Slab ℕ) (slots : List (Option Page)) (s : Strand) (page : Page) → 0 < s.len → page_at slots s.first ≡ Some page
    → pages_of links slots s ≡ page ∷ drop 1 (pages_of links slots s)
first_page links slots s page = first_of (next_of links) slots s.len s.first page
