-- A book with one entry more, and with one less.
use Rattle.std.proofs.Common.{◌≡◌, ℕ, ◌+◌, ◌<◌, ◌≤◌, ◌^◌, inl, inr, false, Option, Some, None, List, [], ◌∷◌, ◌++◌, length, remove, refl, sym, ◌∙◌, ap, subst, arith}
use Rattle.std.proofs.lemmas.Bool.{cases_eq, cases_lt}
use Rattle.std.proofs.lemmas.List.{length_push, get_or_push, get_or_append_left}
use Rattle.std.proofs.lemmas.List.Edits.{get_or-remove_below, get_or-remove_above, length-remove}
use Rattle.slab.specs.Slab.{Slab, Updates, get, slab_len}
use Rattle.page_nodes.specs.Chains.{Chains, AreOfSize}
use Rattle.page_chain.specs.Files.{Files, every_page}
use Rattle.page_chain.specs.Held.{IsFreeRow, IsHeld, shown}
use Rattle.queues.specs.declared.entry.Entry.{Entry}
use Rattle.queues.specs.Inside.{no_entry, entry_at, IsEntry, IsBook}

none_some : {X : Type 0} {x : X} → Some x ≡ None → ⊥
none_some e = cc

-- an entry whose row is not the one that changed
stays : (nodes : Chains) (rows new : Slab ℕ) (row size : ℕ) (slot : Option ℕ) (x : ℕ × Entry) → Updates rows new row slot → new.capacity ≡ rows.capacity
    → (x.1.chain.row ≡ row → ⊥) → IsEntry nodes rows size x → IsEntry nodes new size x
stays nodes rows new row size slot x u c ne h = record {
  key = h.key;
  row = h.row;
  held = h.held;
  room = h.room;
  within = subst (λ (n : ℕ). x.1.chain.row < n) (sym c) h.within;
  taken = u.others x.1.chain.row ne ∙ h.taken;
  sizes = h.sizes;
}

-- a new entry, in a free row

pub added : (nodes : Chains) (rows new : Slab ℕ) (es : List (ℕ × Entry)) (most places size number : ℕ) (w : Entry) → IsBook nodes rows es most places size
    → length es < most → ((k : ℕ) → k < length es → (entry_at es k).0 ≡ number → ⊥) → get rows w.row ≡ None → Updates rows new w.row (Some number) → new.capacity ≡ rows.capacity
    → slab_len new ≡ slab_len rows + 1 → w.row < new.capacity → w.job.number ≡ number → w.chain.row ≡ w.row → (IsFreeRow nodes w.row → IsHeld w.chain nodes)
    → shown w.chain nodes ≡ record { files = []; is_open = false; places = []; last = None; file_room = 52 } → IsBook nodes new (es ++ (number, w) ∷ []) most places size
added nodes rows new es most places size number w h room other vacant u c len within is row held empty = record {
  entries = λ m lt. elim (cases_lt m (length es)) [
    | inl l ↦ subst (λ (x : ℕ × Entry). IsEntry nodes new size x) (sym (get_or_append_left es ((number, w) ∷ []) no_entry m l)) (old m l)
    | inr l ↦ subst (λ (x : ℕ × Entry). IsEntry nodes new size x) (sym (at_end m lt l)) last
  ];
  differ = λ m o ml ol ne same. elim (cases_lt m (length es)) [
    | inl ms ↦ elim (cases_lt o (length es)) [
      | inl os ↦ h.differ m o ms os ne (sym (key m ms) ∙ (same ∙ key o os))
      | inr os ↦ other m ms (sym (key m ms) ∙ (same ∙ ap (λ (x : ℕ × Entry). x.0) (at_end o ol os)))
    ]
    | inr ms ↦ elim (cases_lt o (length es)) [
      | inl os ↦ other o os (sym (key o os) ∙ (sym same ∙ ap (λ (x : ℕ × Entry). x.0) (at_end m ml ms)))
      | inr os ↦ ne (let l = length_push es (number, w) in omega (arith, l, ml, ol, ms, os))
    ]
  ];
  free = λ r lt none. h.free r (subst (λ (n : ℕ). r < n) c lt) (sym (u.others r (λ same. none_some (sym u.changed ∙ (ap (get new) (sym same) ∙ none)))) ∙ none);
  rows_few = subst (λ (n : ℕ). n < 2 ^ 32) (sym c) h.rows_few;
  rows_enough = subst (λ (n : ℕ). most ≤ n) (sym c) h.rows_enough;
  counted = (let l = length_push es (number, w) in let n = h.counted in omega (arith, l, n, len));
  fits = (let l = length_push es (number, w) in omega (arith, l, room));
  room = h.room;
}
  where
    at_end : (m : ℕ) → m < length (es ++ (number, w) ∷ []) → length es ≤ m → entry_at (es ++ (number, w) ∷ []) m ≡ (number, w)
    at_end m lt l = get_or_push es (number, w) no_entry m (let n = length_push es (number, w) in omega (arith, n, lt, l))

    key : (m : ℕ) → m < length es → (entry_at (es ++ (number, w) ∷ []) m).0 ≡ (entry_at es m).0
    key m l = ap (λ (x : ℕ × Entry). x.0) (get_or_append_left es ((number, w) ∷ []) no_entry m l)

    old : (m : ℕ) → m < length es → IsEntry nodes new size (entry_at es m)
    old m l = stays nodes rows new w.row size (Some number) (entry_at es m) u c
        (λ same. none_some (sym (h.entries m l).taken ∙ (ap (get rows) same ∙ vacant))) (h.entries m l)

    last : IsEntry nodes new size (number, w)
    last = record {
      key = sym is;
      row = sym row;
      held = held (h.free w.row (subst (λ (n : ℕ). w.row < n) c within) vacant);
      room = ap (λ (v : Files). v.file_room) empty;
      within = subst (λ (r : ℕ). r < new.capacity) (sym row) within;
      taken = ap (get new) row ∙ u.changed;
      sizes = subst (λ (v : Files). AreOfSize size (every_page v.files)) (sym empty) tt;
    }

-- an entry less, which has no file

-- the place that an entry had before the one at i went
record Skipped (es : List (ℕ × Entry)) (i m : ℕ) : Type 0 where
  place : ℕ
  within : place < length es
  other : place ≡ i → ⊥
  at : entry_at (remove es i) m ≡ entry_at es place
  below : m < i → place ≡ m
  above : i ≤ m → place ≡ m + 1

skipped : (es : List (ℕ × Entry)) (i m : ℕ) → i < length es → m < length (remove es i) → Skipped es i m
skipped es i m il ml =
    let l = length-remove es i il in
    elim (cases_lt m i) [
      | inl lt ↦ record {
        place = m;
        within = omega (arith, l, ml);
        other = λ e. omega (arith, e, lt);
        at = get_or-remove_below es i no_entry m lt il;
        below = λ x. refl;
        above = λ x. absurd (omega (arith, x, lt));
      }
      | inr le ↦ record {
        place = m + 1;
        within = omega (arith, l, ml);
        other = λ e. omega (arith, e, le);
        at = get_or-remove_above es i no_entry m le il;
        below = λ x. absurd (omega (arith, x, le));
        above = λ x. refl;
      }
    ]

apart : (es : List (ℕ × Entry)) (i m o : ℕ) (s : Skipped es i m) (t : Skipped es i o) → (m ≡ o → ⊥) → s.place ≡ t.place → ⊥
apart es i m o s t ne same =
    elim (cases_lt m i) [
      | inl ml ↦ elim (cases_lt o i) [
        | inl ol ↦ ne (let a = s.below ml in let b = t.below ol in omega (arith, a, b, same))
        | inr ol ↦ (let a = s.below ml in let b = t.above ol in omega (arith, a, b, same, ml, ol))
      ]
      | inr ml ↦ elim (cases_lt o i) [
        | inl ol ↦ (let a = s.above ml in let b = t.below ol in omega (arith, a, b, same, ml, ol))
        | inr ol ↦ ne (let a = s.above ml in let b = t.above ol in omega (arith, a, b, same))
      ]
    ]

pub removed : (nodes : Chains) (rows new : Slab ℕ) (es : List (ℕ × Entry)) (most places size i : ℕ) → IsBook nodes rows es most places size
    → i < length es → length (entry_at es i).1.chain.files ≡ 0 → Updates rows new (entry_at es i).1.row None → new.capacity ≡ rows.capacity
    → slab_len new + 1 ≡ slab_len rows → IsBook nodes new (remove es i) most places size
removed nodes rows new es most places size i h il empty u c len = record {
  entries = λ m ml. (let s = skipped es i m il ml in subst (λ (x : ℕ × Entry). IsEntry nodes new size x) (sym s.at) (other s.place s.within s.other));
  differ = λ m o ml ol ne same. (let s = skipped es i m il ml in let t = skipped es i o il ol in
      h.differ s.place t.place s.within t.within (apart es i m o s t ne)
      (sym (ap (λ (x : ℕ × Entry). x.0) s.at) ∙ (same ∙ ap (λ (x : ℕ × Entry). x.0) t.at)));
  free = λ r lt none. elim (cases_eq r (entry_at es i).1.row) [
    | inl same ↦ subst (IsFreeRow nodes) (sym here.row ∙ sym same) (record {
      here = here.held.row;
      empty = λ k kl. here.held.beyond k (omega (arith, empty)) kl;
    })
    | inr ne ↦ h.free r (subst (λ (n : ℕ). r < n) c lt) (sym (u.others r ne) ∙ none)
  ];
  rows_few = subst (λ (n : ℕ). n < 2 ^ 32) (sym c) h.rows_few;
  rows_enough = subst (λ (n : ℕ). most ≤ n) (sym c) h.rows_enough;
  counted = (let l = length-remove es i il in let n = h.counted in omega (arith, l, n, len));
  fits = (let l = length-remove es i il in let n = h.fits in omega (arith, l, n));
  room = h.room;
}
  where
    here : IsEntry nodes rows size (entry_at es i)
    here = h.entries i il

    apart_rows : (m : ℕ) → m < length es → (m ≡ i → ⊥) → (entry_at es m).1.chain.row ≡ (entry_at es i).1.row → ⊥
    apart_rows m ml ne same =
        let both : Some (entry_at es m).0 ≡ Some (entry_at es i).0 = sym (h.entries m ml).taken ∙ (ap (get rows) (same ∙ here.row) ∙ here.taken) in
        h.differ m i ml il ne (cc)

    other : (m : ℕ) → m < length es → (m ≡ i → ⊥) → IsEntry nodes new size (entry_at es m)
    other m ml ne = stays nodes rows new (entry_at es i).1.row size None (entry_at es m) u c (apart_rows m ml ne) (h.entries m ml)
