-- The page of the next place, and what is left once it was taken.
use Rattle.std.proofs.Common.{◌≡◌, ℕ, suc, ◌+◌, ◌*◌, ◌<◌, true, Some, List, [], ◌∷◌, length, drop, get_or, sym, ◌∙◌, ap, subst, arith}
use Rattle.std.specs.Prelude.{IsSome}
use Rattle.std.proofs.lemmas.List.{get_or_default}
use Rattle.page_pool.specs.Page.{Page}
use Rattle.page_nodes.specs.Chains.{Chains, with_chain, total}
use Rattle.page_chain.specs.declared.place.Place.{Place}
use Rattle.page_chain.specs.declared.run.Run.{Run}
use Rattle.page_chain.specs.Files.{page_at}
use Rattle.page_chain.specs.Changes.{IsReady, next_place, taken}
use Rattle.page_chain.specs.Held.{Kept, Leads, IsHeld, CanPrint, no_run, run_at, pages_in, shown}
use Rattle.page_chain.proofs.Rows.{total_with}
use Rattle.page_chain.proofs.Calls.{Front, front_file, next_front, next_page_is, takes, passes_on, passes_over}

module _ (t now : Kept) (nodes : Chains) (all : List ℕ) (printed file : ℕ) (v : t ≡ now) (e : t.prints ≡ drop printed all) (p : CanPrint t.files t.prints t.turned)
    (h : IsHeld now nodes) (r : IsReady (shown now nodes)) (read : file ≡ get_or all printed file) where
  abbrev rest : List ℕ
  rest = drop (printed + 1) all

  abbrev front : Kept
  front = record t { prints = file ∷ rest }

  next : Front t now file rest
  next = front_file t now all printed file v e (subst (λ (ps : List ℕ). CanPrint t.files ps t.turned) e p) r.some read

  pub next_some : 0 < length (pages_in nodes t.row file)
  next_some = next_front t nodes file rest next.can (subst (λ (u : Kept). IsSome (page_at (shown u nodes).files (next_place (shown u nodes)))) (sym next.is) r.here)

  pub next_there : file < length t.files
  next_there = next.can.0

  pub next_turned : t.turned < (run_at t.files file).pages
  next_turned = next.can.1

  -- what was read of how many pages the file has
  pub next_pages : (files : List Run) (d : Run) → files ≡ t.files → (get_or files file d).pages ≡ (run_at t.files file).pages
  next_pages files d are = ap (λ (fs : List Run). (get_or fs file d).pages) are ∙ ap (λ (r : Run). r.pages) (get_or_default t.files file d no_run next_there)

  pub front_page : (page : Page) → pages_in nodes t.row file ≡ page ∷ drop 1 (pages_in nodes t.row file) → page_at (shown now nodes).files (next_place (shown now nodes)) ≡ Some page
  front_page page first =
      subst (λ (u : Kept). page_at (shown u nodes).files (next_place (shown u nodes)) ≡ Some page) next.is
      (next_page_is t nodes file rest page (drop 1 (pages_in nodes t.row file)) next.can first)

  -- the page at the front, and what the nodes have without it
  module _ (new : Chains) (page : Page) (first : pages_in nodes t.row file ≡ page ∷ drop 1 (pages_in nodes t.row file))
      (without : new ≡ with_chain nodes (52 * t.row + file) (drop 1 (pages_in nodes t.row file))) where
    pub taken_total : total new.chains + 1 ≡ total nodes.chains
    taken_total =
        let few = h.few in
        let there = next_there in
        let files = ap (λ (u : Kept). length u.files) v in
        let held = subst (λ (u : Kept). IsHeld u nodes) (sym v) h in
        let a = total_with nodes new t.row file (drop 1 (pages_in nodes t.row file)) without held.row (omega (arith, few, there, files)) in
        let b = ap length first in
        omega (arith, a, b)

    abbrev place : Place
    place = record { file = file; number = t.turned }

    pub taken_over : (t.is_open ≡ true → t.prints ≡ []) → suc t.turned ≡ (run_at t.files file).pages
        → Leads now (record t { prints = rest; turned = 0; last = Some place }) nodes new (taken (shown now nodes))
    taken_over opened over =
        subst (λ (u : Kept). Leads u (record t { prints = rest; turned = 0; last = Some place }) nodes new (taken (shown u nodes))) next.is
        (takes t nodes new file rest rest 0 page (drop 1 (pages_in nodes t.row file)) (subst (λ (u : Kept). IsHeld u nodes) (sym next.is) h)
        (λ o. next.some (opened o)) next.can (passes_over t.files file rest t.turned next.can over) first without)

    pub taken_on : (t.is_open ≡ true → t.prints ≡ []) → suc t.turned < (run_at t.files file).pages
        → Leads now (record t { turned = t.turned + 1; last = Some place }) nodes new (taken (shown now nodes))
    taken_on opened on =
        let more : suc t.turned ≡ t.turned + 1 = omega arith in
        let after : record t { prints = file ∷ rest; turned = suc t.turned; last = Some place } ≡ record t { turned = t.turned + 1; last = Some place } =
        ap (λ (ps : List ℕ). record t { prints = ps; turned = suc t.turned; last = Some place }) (sym next.front) ∙ ap (λ (m : ℕ). record t { turned = m; last = Some place }) more in
        subst (λ (u : Kept). Leads u (record t { turned = t.turned + 1; last = Some place }) nodes new (taken (shown u nodes))) next.is
        (subst (λ (u : Kept). Leads front u nodes new (taken (shown front nodes))) after
        (takes t nodes new file rest (file ∷ rest) (suc t.turned) page (drop 1 (pages_in nodes t.row file)) (subst (λ (u : Kept). IsHeld u nodes) (sym next.is) h)
        (λ o. next.some (opened o)) next.can (passes_on t.files file rest t.turned next.can on) first without))
