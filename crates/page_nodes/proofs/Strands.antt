-- What a call on a chain reads of the strand of its key.
use Rattle.std.proofs.Common.{◌≡◌, ℕ, ◌<◌, length, get_or, sym, ◌∙◌, ap, subst}
use Rattle.std.proofs.lemmas.List.{get_or_default}
use Rattle.page_nodes.specs.declared.nodes.Nodes.TheInside.{Inside}
use Rattle.page_nodes.specs.declared.strand.Strand.{Strand}
use Rattle.page_nodes.specs.Chains.{Chains, chain_of}
use Rattle.page_nodes.specs.Links.{IsSound, Lies, no_strand, strand_at, pages_of}
use Rattle.page_nodes.proofs.Linked.{chain_is, here, length-pages_of, seen}

-- this strand was read, of a chain that is there
pub record Reads (f : Inside) (now : Chains) (k : ℕ) (s : Strand) : Type 0 where
  pub here : k < length f.strands.items
  pub is : s ≡ strand_at f.strands.items k
  pub pages : chain_of now k ≡ pages_of f.links f.slots.items s
  pub len : s.len ≡ length (chain_of now k)

pub reads : (f : Inside) (now : Chains) (k : ℕ) (s : Strand) → seen f.links f.slots.items f.strands.items f.room ≡ now → k < length now.chains
    → s ≡ get_or f.strands.items k s → Reads f now k s
reads f now k s view lt e =
    let strands = f.strands.items in
    let there : k < length strands = here f.links f.slots.items strands f.room k now view lt in
    let is : s ≡ strand_at strands k = e ∙ get_or_default strands k s no_strand there in
    let pages = chain_is f.links f.slots.items strands f.room k now view ∙ ap (pages_of f.links f.slots.items) (sym is) in
    record {
      here = there;
      is = is;
      pages = pages;
      len = sym (ap length pages ∙ length-pages_of f.links f.slots.items s);
    }

-- it lies as those of all chains
pub read_lies : (f : Inside) (now : Chains) (k : ℕ) (s : Strand) → (i : IsSound f.links f.slots.items f.strands.items f.room) → Reads f now k s → Lies f.links f.slots.items i.owner k s
read_lies f now k s i r = subst (Lies f.links f.slots.items i.owner k) (sym r.is) (i.lies k r.here)
