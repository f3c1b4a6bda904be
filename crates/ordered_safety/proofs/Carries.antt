-- Carrying a kept order to the rows: what each kept row adds.
use Rattle.std.proofs.Math.Bool.{or-false, or-true}
use Rattle.std.proofs.Common.{below_more, ◌≡◌, ◌≢◌, inl, inr, ℕ, suc, ◌+◌, ◌<◌, ◌≤◌, Bool, true, false, not, ◌||◌, cond, List, [], ◌∷◌, ◌++◌, length, get_or, set, take, drop, refl, subst, ap, ap₂, sym, ◌∙◌, arith, append_assoc, append-nil}
use Rattle.std.specs.Prelude.{All, ◌==◌, slice_index_or, filter, remove}
use Rattle.std.specs.List.{AllByRecursion, count_by, list_any}
use Rattle.std.proofs.lemmas.List.{get_or_default, get_or-set_same, get_or-set_other, get_or-take, get_or-map, length-map, length-set, length-take-le, length_push, map_more, map_push}
use Rattle.std.proofs.lemmas.List.Elements.{All-append, All-filter, All-map, All-push, All-from_recursion, recursion_from_All, filter-append, filter_more, filter_passes}
use Rattle.std.proofs.lemmas.List.Folds.{list_any-append, list_any_none, list_any_at}
use Rattle.std.proofs.lemmas.List.Sums.{sum_by-set, sum_by-cons, sum_by-drop_more}
use Rattle.std.proofs.lemmas.Bool.{eq-eqb, ne_eqb, cases_lt, false_from_ne_true}
use Rattle.std.proofs.lemmas.Bool.Decides.{eqb_tells, nat_tests}
use Rattle.claims.specs.declared.row.Row.{Row}
use Rattle.claims.specs.Claims.{Pairwise, IsLower, row_at, no_row}
use Rattle.claims.specs.Safety.{IsOrderOf, KeepsLine}
use Rattle.ordered_safety.specs.declared.kept.Kept.{Kept}
use Rattle.ordered_safety.specs.Scan.{rows_at}
use Rattle.ordered_safety.specs.Carried.{StandsAt, has_row, is_among, is_lacked, AreMet, numbers_of}
use Rattle.ordered_safety.specs.Kept.{kept_numbers, KeepsLines}
use Rattle.ordered_safety.proofs.Keeps.{others_differ}
use Rattle.ordered_safety.proofs.Picks.{same_place, split_at}
use Rattle.claims.proofs.Lowered.{line_last as pairwise_last}

abbrev pub no_kept : Kept
no_kept = record { number = 0; sender = 0; queue = 0; place = 0 }

-- the row is the kept one, and of its line
pub record IsKept (kept : Kept) (row : Row) : Type 0 where
  pub number : row.number ≡ kept.number
  pub sender : row.sender ≡ kept.sender
  pub queue : row.queue ≡ kept.queue

-- it is one of the first i kept ones
abbrev pub HasKept : List Kept → ℕ → Row → Type 0
HasKept kept i row = (j : ℕ) × (j < i) × IsKept (slice_index_or kept j no_kept) row

-- the first i kept rows are carried
pub record Carrying (rows : List Row) (kept : List Kept) (i : ℕ) (places : List ℕ) (met : List Bool) (same : Bool) (greatest : ℕ) : Type 0 where
  pub there : All (λ j. j < length rows) places
  pub found : numbers_of (rows_at rows places) ≡ filter (has_row rows) (kept_numbers (take i kept))
  pub once : (others : List Row) → IsOrderOf (filter (is_lacked (kept_numbers (take i kept))) rows) others → IsOrderOf rows (rows_at rows places ++ others)
  pub among : All (λ place. is_among (kept_numbers (take i kept)) (row_at rows place) ≡ true) places
  pub below : All (λ place. (row_at rows place).number ≤ greatest) places
  pub as_kept : same ≡ true → All (λ place. HasKept kept i (row_at rows place)) places
  pub line : same ≡ true → Pairwise KeepsLine (rows_at rows places)
  pub marks : AreMet rows (kept_numbers (take i kept)) met
  pub len : length met ≡ length rows
  pub count : length places + count_by not met ≡ length rows

count_none : (met : List Bool) → AllByRecursion (λ mark. mark ≡ false) met → count_by not met ≡ length met
count_none [] h = refl
count_none (m ∷ met) h =
    sum_by-cons (λ (b : Bool). cond (not b) 1 0) m met ∙ (ap₂ (λ (a b : ℕ). a + b) (ap (λ (b : Bool). cond (not b) 1 0) h.0) (count_none met h.1) ∙ omega arith)

filter_all : (rows : List Row) → filter (is_lacked []) rows ≡ rows
filter_all [] = refl
filter_all (x ∷ rows) = ap (λ (l : List Row). x ∷ l) (filter_all rows)

pub carried_none : (rows : List Row) (kept : List Kept) (met : List Bool) (places : List ℕ) → places ≡ [] → length met ≡ length rows → All (λ mark. mark ≡ false) met → Carrying rows kept 0 places met true 0
carried_none rows kept met places empty len none =
    subst (λ (l : List ℕ). Carrying rows kept 0 l met true 0) (sym empty) (record {
      there = λ k d lt. absurd (omega arith);
      found = refl;
      once = λ others h. subst (λ (r : List Row). IsOrderOf r others) (filter_all rows) h;
      among = λ k d lt. absurd (omega arith);
      below = λ k d lt. absurd (omega arith);
      as_kept = λ s k d lt. absurd (omega arith);
      line = λ s. tt;
      marks = λ place lt. none place false (omega arith);
      len = len;
      count = let n = count_none met (recursion_from_All (λ mark. mark ≡ false) met none) in omega arith;
    })

among_more : (ns : List ℕ) (n : ℕ) (x : Row) → is_among (ns ++ n ∷ []) x ≡ (is_among ns x || ((n == x.number) || false))
among_more ns n x = list_any-append (λ (k : ℕ). k == x.number) ns (n ∷ [])

among_other : (ns : List ℕ) (n : ℕ) (x : Row) → n ≢ x.number → is_among (ns ++ n ∷ []) x ≡ is_among ns x
among_other ns n x ne =
    among_more ns n x ∙ (ap (λ (b : Bool). is_among ns x || (b || false)) (ne_eqb n x.number ne) ∙ or-false (is_among ns x))

among_same : (ns : List ℕ) (n : ℕ) (x : Row) → n ≡ x.number → is_among (ns ++ n ∷ []) x ≡ true
among_same ns n x e =
    among_more ns n x ∙ (ap (λ (b : Bool). is_among ns x || (b || false)) (eq-eqb n x.number e) ∙ or-true (is_among ns x))

among_still : (ns : List ℕ) (n : ℕ) (x : Row) → is_among ns x ≡ true → is_among (ns ++ n ∷ []) x ≡ true
among_still ns n x e = among_more ns n x ∙ ap (λ (b : Bool). b || ((n == x.number) || false)) e

-- a number that none of these rows has leaves what is lacked
lacked_other : (ns : List ℕ) (n : ℕ) (xs : List Row) → AllByRecursion (λ x. n ≢ x.number) xs → filter (is_lacked (ns ++ n ∷ [])) xs ≡ filter (is_lacked ns) xs
lacked_other ns n [] h = refl
lacked_other ns n (x ∷ xs) h = ap₂ (λ (b : Bool) (l : List Row). cond (not b) (x ∷ l) l) (among_other ns n x h.0) (lacked_other ns n xs h.1)

-- a number that no row has
none_has : (rows : List Row) (n : ℕ) → ((place : ℕ) → StandsAt rows n place → ⊥) → All (λ x. n ≢ x.number) rows
none_has rows n none = λ k d lt e. none k (record { there = lt; numbered = ap (λ (r : Row). r.number) (get_or_default rows k no_row d lt) ∙ sym e })

has_none : (rows : List Row) (n : ℕ) → All (λ x. n ≢ x.number) rows → has_row rows n ≡ false
has_none rows n other = list_any_none (λ (row : Row). row.number == n) rows (λ k d lt. ne_eqb (get_or rows k d).number n (λ e. other k d lt (sym e)))

has_some : (rows : List Row) (n place : ℕ) → StandsAt rows n place → has_row rows n ≡ true
has_some rows n place h = list_any_at (λ (row : Row). row.number == n) rows place no_row h.there (eq-eqb (row_at rows place).number n h.numbered)

filter_last : (p : ℕ → Bool) (ns : List ℕ) (n : ℕ) (b : Bool) → p n ≡ b → filter p (ns ++ n ∷ []) ≡ filter p ns ++ cond b (n ∷ []) []
filter_last p ns n b e = filter-append p ns (n ∷ []) ∙ ap (λ (c : Bool). filter p ns ++ cond c (n ∷ []) []) e

-- numbers that were kept before are others
among_none : (kept : List Kept) (i : ℕ) (x : Row) → i < length kept → KeepsLines kept → x.number ≡ (slice_index_or kept i no_kept).number → is_among (kept_numbers (take i kept)) x ≡ false
among_none kept i x lt lines e =
    let ns = kept_numbers (take i kept) in
    list_any_none (λ (k : ℕ). k == x.number) ns (λ k d below.
    let n = length-map (take i kept) (λ (row : Kept). row.number) in
    let m : length (take i kept) ≡ i = length-take-le i kept (omega arith) in
    let here : get_or ns k d ≡ (get_or kept k no_kept).number = get_or-map (λ (row : Kept). row.number) (take i kept) k no_kept d (omega arith) ∙ ap (λ (row : Kept). row.number) (get_or-take i kept k no_kept (omega arith)) in
    let apart = (lines k i no_kept (omega arith) lt).apart in
    ne_eqb (get_or ns k d) x.number (λ f. apart (sym here ∙ (f ∙ e))))

-- kept rows keep their line
kept_line : (kept : List Kept) (i j : ℕ) (x y : Row) → i < j → j < length kept → KeepsLines kept → IsKept (slice_index_or kept i no_kept) x → IsKept (slice_index_or kept j no_kept) y → KeepsLine x y
kept_line kept i j x y lt le lines a b same =
    let sender : x.sender ≡ y.sender = grind (arith, nat_tests) in
    let queue : x.queue ≡ y.queue = grind (arith, nat_tests) in
    let l = (lines i j no_kept lt le).in_line (sym a.sender ∙ (sender ∙ b.sender)) (sym a.queue ∙ (queue ∙ b.queue)) in
    let n = a.number in
    let m = b.number in
    omega arith

-- what is lacked before a row has the number, and then: all but that row
module _ (rows : List Row) (place : ℕ) (ns : List ℕ) (n : ℕ) (lt : place < length rows) (number : n ≡ (row_at rows place).number) where
  lacked_before : is_among ns (row_at rows place) ≡ false → filter (is_lacked ns) rows ≡ filter (is_lacked ns) (take place rows) ++ row_at rows place ∷ filter (is_lacked ns) (drop (suc place) rows)
  lacked_before none =
      ap (filter (is_lacked ns)) (split_at rows place lt)
      ∙ (filter-append (is_lacked ns) (take place rows) (row_at rows place ∷ drop (suc place) rows)
      ∙ rw none refl)

  lacked_then : Pairwise IsLower rows → filter (is_lacked (ns ++ n ∷ [])) rows ≡ filter (is_lacked ns) (take place rows) ++ filter (is_lacked ns) (drop (suc place) rows)
  lacked_then low =
      let p = is_lacked (ns ++ n ∷ []) in
      let differ = others_differ (take place rows) (row_at rows place) (drop (suc place) rows) (subst (Pairwise IsLower) (split_at rows place lt) low) in
      ap (filter p) (split_at rows place lt)
      ∙ (filter-append p (take place rows) (row_at rows place ∷ drop (suc place) rows)
      ∙ (rw (among_same ns n (row_at rows place) number) (sym (filter-append p (take place rows) (drop (suc place) rows)))
      ∙ (lacked_other ns n (remove rows place) (subst (λ (m : ℕ). AllByRecursion (λ y. m ≢ y.number) (remove rows place)) (sym number) differ)
      ∙ filter-append (is_lacked ns) (take place rows) (drop (suc place) rows))))

marks_more : (rows : List Row) (ns : List ℕ) (n place : ℕ) (met : List Bool) → Pairwise IsLower rows → place < length rows → length met ≡ length rows → n ≡ (row_at rows place).number → AreMet rows ns met → AreMet rows (ns ++ n ∷ []) (set met place true)
marks_more rows ns n place met low lt len e h q there = elim (eqb_tells q place) [
  | inl same ↦
      let here : get_or (set met place true) q false ≡ true = ap (λ (k : ℕ). get_or (set met place true) k false) same.1 ∙ get_or-set_same met place true false (omega arith) in
      here ∙ sym (among_same ns n (row_at rows q) (e ∙ ap (λ (k : ℕ). (row_at rows k).number) (sym same.1)))
  | inr other ↦
      get_or-set_other met place q true false other.1 ∙ (h q there ∙ sym (among_other ns n (row_at rows q) (λ f. other.1 (sym (same_place rows place q lt there low (sym e ∙ f))))))
]

count_more : (met : List Bool) (place k n : ℕ) → place < length met → get_or met place false ≡ false → k + count_by not met ≡ n → (k + 1) + count_by not (set met place true) ≡ n
count_more met place k n lt unmarked h =
    let f : Bool → ℕ = λ b. cond (not b) 1 0 in
    let s = sum_by-set f met place true false lt in
    let e : f (get_or met place false) ≡ 1 = ap f unmarked in
    omega arith

-- one more kept row
module _ {rows : List Row} {kept : List Kept} {i : ℕ} {places : List ℕ} {met : List Bool} {same : Bool} {greatest : ℕ} (lt : i < length kept) (h : Carrying rows kept i places met same greatest) where
  abbrev next : ℕ
  next = (slice_index_or kept i no_kept).number

  abbrev so_far : List ℕ
  so_far = kept_numbers (take i kept)

  numbers_more : kept_numbers (take (i + 1) kept) ≡ so_far ++ next ∷ []
  numbers_more = map_more (λ (k : Kept). k.number) kept i no_kept lt

  -- the rows so far are still among the numbers, and still kept
  still_among : All (λ place. is_among (so_far ++ next ∷ []) (row_at rows place) ≡ true) places
  still_among k d there = among_still so_far next (row_at rows (get_or places k d)) (h.among k d there)

  still_kept : same ≡ true → All (λ place. HasKept kept (i + 1) (row_at rows place)) places
  still_kept s k d there = let a = h.as_kept s k d there in (a.0, omega (arith, a.1), a.2)

  -- no row has its number
  pub carried_missed : {more : ℕ} → greatest ≤ more → ((place : ℕ) → StandsAt rows next place → ⊥) → Carrying rows kept (i + 1) places met same more
  carried_missed {more = more} le none =
      let each = none_has rows next none in
      record {
        there = h.there;
        found = h.found ∙ (sym (append-nil (filter (has_row rows) so_far))
            ∙ (sym (filter_last (has_row rows) so_far next false (has_none rows next each)) ∙ ap (filter (has_row rows)) (sym numbers_more)));
        once = λ others o. h.once others (rw (numbers_more, lacked_other so_far next rows (recursion_from_All (λ x. next ≢ x.number) rows each)) at o);
        among = rw numbers_more still_among;
        below = λ k d there. omega (arith, h.below k d there, le);
        as_kept = still_kept;
        line = h.line;
        marks = λ place there. h.marks place there
            ∙ (sym (among_other so_far next (row_at rows place) (each place no_row there)) ∙ ap (λ (l : List ℕ). is_among l (row_at rows place)) (sym numbers_more));
        len = h.len;
        count = h.count;
      }

  -- the row at this place has it
  module _ (low : Pairwise IsLower rows) (lines : KeepsLines kept) (place : ℕ) (stands : StandsAt rows next place) where
    none_before : is_among so_far (row_at rows place) ≡ false
    none_before = among_none kept i (row_at rows place) lt lines stands.numbered

    one_counted : (length places + 1) + count_by not (set met place true) ≡ length rows
    one_counted = count_more met place (length places) (length rows) (omega (arith, h.len, stands.there)) (h.marks place stands.there ∙ none_before) h.count

    -- so there is a place more
    pub carried_room : length places < length rows
    carried_room = omega (arith, one_counted)

    pub carried_found : {still : Bool} {more : ℕ} → greatest ≤ more → next ≤ more → (still ≡ true → (same ≡ true) × IsKept (slice_index_or kept i no_kept) (row_at rows place))
        → Carrying rows kept (i + 1) (places ++ place ∷ []) (set met place true) still more
    carried_found {more = more} le high still_is =
        let x = row_at rows place in
        let number : next ≡ x.number = sym stands.numbered in
        let pushed = map_push (row_at rows) places place in
        record {
          there = All-push (λ j. j < length rows) places place h.there stands.there;
          found = ap numbers_of pushed ∙ (map_push (λ (r : Row). r.number) (rows_at rows places) x ∙ (ap₂ (λ (l : List ℕ) (k : ℕ). l ++ k ∷ []) h.found (sym number)
              ∙ (sym (filter_last (has_row rows) so_far next true (has_some rows next place stands)) ∙ ap (filter (has_row rows)) (sym numbers_more))));
          once = λ others o.
              let without = rw (numbers_more, lacked_then rows place so_far next stands.there number low) at o in
              let before = lacked_before rows place so_far next stands.there number none_before in
              let all = h.once (x ∷ others) (filter (is_lacked so_far) (take place rows), filter (is_lacked so_far) (drop (suc place) rows), before, without) in
              subst (IsOrderOf rows) (sym (append_assoc (rows_at rows places) (x ∷ []) others) ∙ ap (λ (l : List Row). l ++ others) (sym pushed)) all;
          among = rw numbers_more (All-push (λ p. is_among (so_far ++ next ∷ []) (row_at rows p) ≡ true) places place still_among (among_same so_far next x number));
          below = All-push (λ p. (row_at rows p).number ≤ more) places place (λ k d there. omega (arith, h.below k d there, le)) (omega arith);
          as_kept = λ s. All-push (λ p. HasKept kept (i + 1) (row_at rows p)) places place (still_kept (still_is s).0) (i, omega arith, (still_is s).1);
          line = λ s. subst (Pairwise KeepsLine) (sym pushed)
              (pairwise_last (rows_at rows places) x
              (recursion_from_All (λ r. KeepsLine r x) (rows_at rows places) (All-map (λ r. KeepsLine r x) (row_at rows) places (λ k d there.
              let a = h.as_kept (still_is s).0 k d there in
              kept_line kept a.0 i (row_at rows (get_or places k d)) x a.1 lt lines a.2 (still_is s).1)))
              (h.line (still_is s).0));
          marks = rw numbers_more (marks_more rows so_far next place met low stands.there h.len number h.marks);
          len = length-set met place true ∙ h.len;
          count = ap (λ (k : ℕ). k + count_by not (set met place true)) (length_push places place) ∙ one_counted;
        }

-- the places that aren't marked, of the first i, are put after those that were there
pub record Adding (rows : List Row) (met : List Bool) (before : List ℕ) (greatest i : ℕ) (places : List ℕ) (above : Bool) : Type 0 where
  pub there : All (λ j. j < length rows) places
  pub others : (numbers : List ℕ) → AreMet rows numbers met → rows_at rows places ≡ rows_at rows before ++ filter (is_lacked numbers) (take i rows)
  pub higher : above ≡ true → (place : ℕ) → place < i → get_or met place false ≡ false → greatest ≤ (row_at rows place).number
  pub count : length places + count_by not (drop i met) ≡ length before + count_by not met

pub adding_none : (rows : List Row) (met : List Bool) (before : List ℕ) (greatest : ℕ) → All (λ j. j < length rows) before → Adding rows met before greatest 0 before true
adding_none rows met before greatest there = record {
  there = there;
  others = λ numbers m. sym (append-nil (rows_at rows before));
  higher = λ a place lt. absurd (omega arith);
  count = refl;
}

-- one more row
module _ {rows : List Row} {met : List Bool} {before places : List ℕ} {greatest i : ℕ} {above : Bool}
    (lt : i < length rows) (len : length met ≡ length rows) (h : Adding rows met before greatest i places above) where
  -- what is lacked then, and how many are left
  lacked_more : (numbers : List ℕ) (b : Bool) → get_or met i false ≡ b → AreMet rows numbers met
      → filter (is_lacked numbers) (take (i + 1) rows) ≡ filter (is_lacked numbers) (take i rows) ++ cond (not b) (row_at rows i ∷ []) []
  lacked_more numbers b e m =
      filter_more (is_lacked numbers) rows i no_row lt
      ∙ ap (λ (c : Bool). filter (is_lacked numbers) (take i rows) ++ cond (not c) (row_at rows i ∷ []) []) (sym (m i lt) ∙ e)

  count_from : (b : Bool) → get_or met i false ≡ b → count_by not (drop i met) ≡ cond (not b) 1 0 + count_by not (drop (i + 1) met)
  count_from b e = sum_by-drop_more (λ (c : Bool). cond (not c) 1 0) met i false (omega arith) ∙ ap (λ (c : Bool). cond (not c) 1 0 + count_by not (drop (i + 1) met)) e

  pub adding_marked : get_or met i false ≡ true → Adding rows met before greatest (i + 1) places above
  adding_marked e = record {
    there = h.there;
    others = λ numbers m. h.others numbers m ∙ ap (λ (l : List Row). rows_at rows before ++ l) (sym (lacked_more numbers true e m ∙ append-nil (filter (is_lacked numbers) (take i rows))));
    higher = λ a. below_more _ _ (h.higher a) (λ unmarked. absurd (cc (e, unmarked)));
    count = omega (arith, count_from true e, h.count);
  }

  pub adding_found : {still : Bool} → get_or met i false ≡ false → (still ≡ true → (above ≡ true) × (greatest ≤ (row_at rows i).number))
      → Adding rows met before greatest (i + 1) (places ++ i ∷ []) still
  adding_found e still_is = record {
    there = All-push (λ j. j < length rows) places i h.there lt;
    others = λ numbers m.
        map_push (row_at rows) places i
        ∙ (ap (λ (l : List Row). l ++ row_at rows i ∷ []) (h.others numbers m)
        ∙ (append_assoc (rows_at rows before) (filter (is_lacked numbers) (take i rows)) (row_at rows i ∷ [])
        ∙ ap (λ (l : List Row). rows_at rows before ++ l) (sym (lacked_more numbers false e m))));
    higher = λ a. below_more _ _ (h.higher (still_is a).0) (λ unmarked. (still_is a).1);
    count = omega (arith, count_from false e, h.count, length_push places i);
  }

order_itself : (rows : List Row) → IsOrderOf rows rows
order_itself [] = refl
order_itself (x ∷ rows) = ([], rows, refl, order_itself rows)

-- the rows that are found, and then those that are lacked
pub carried_once : (rows found all : List Row) (ns : List ℕ) → ((others : List Row) → IsOrderOf (filter (is_lacked ns) rows) others → IsOrderOf rows (found ++ others)) → all ≡ found ++ filter (is_lacked ns) rows → IsOrderOf rows all
carried_once rows found all ns once e = subst (IsOrderOf rows) (sym e) (once (filter (is_lacked ns) rows) (order_itself (filter (is_lacked ns) rows)))

pairwise_join : (a b : List Row) → Pairwise KeepsLine a → Pairwise KeepsLine b → AllByRecursion (λ x. AllByRecursion (KeepsLine x) b) a → Pairwise KeepsLine (a ++ b)
pairwise_join [] b p q h = q
pairwise_join (x ∷ a) b p q h = (
  recursion_from_All (KeepsLine x) (a ++ b) (All-append (KeepsLine x) a b (All-from_recursion (KeepsLine x) a p.0) (All-from_recursion (KeepsLine x) b h.0)),
  pairwise_join a b p.1 q h.1,
)

-- what is passed of rising rows keeps all lines
filter_lines : (p : Row → Bool) (rows : List Row) → Pairwise IsLower rows → Pairwise KeepsLine (filter p rows)
filter_lines p [] low = tt
filter_lines p (x ∷ rows) low = by (p x) (filter_lines p rows low.1)
  where
    by : (b : Bool) → Pairwise KeepsLine (filter p rows) → Pairwise KeepsLine (cond b (x ∷ filter p rows) (filter p rows))
    by true i = (recursion_from_All (KeepsLine x) (filter p rows) (All-filter p (KeepsLine x) rows (λ k d lt same. All-from_recursion (IsLower x) rows low.0 k d lt)), i)
    by false i = i

same_among : (ns : List ℕ) (x y : Row) → x.number ≡ y.number → is_among ns x ≡ is_among ns y
same_among ns x y e = ap (λ (n : ℕ). list_any (λ (k : ℕ). k == n) ns) e

-- a row that was kept has a lower number than one that the kept order lacks
across : (ns : List ℕ) (greatest : ℕ) (x y : Row) → (is_among ns x ≡ true) × (x.number ≤ greatest) → is_lacked ns y ≡ true → greatest ≤ y.number → KeepsLine x y
across ns greatest x y kept lacked above same = elim (cases_lt x.number y.number) [
  | inl lower ↦ lower
  | inr other ↦ absurd (
      let s : is_among ns y ≡ true = same_among ns y x (omega arith) ∙ kept.0 in
      let t : true ≡ not true = sym lacked ∙ ap not s in
      cc)
]

pub carried_line : (rows all : List Row) (places : List ℕ) (met : List Bool) (ns : List ℕ) (greatest : ℕ) → Pairwise IsLower rows → AreMet rows ns met → Pairwise KeepsLine (rows_at rows places)
    → All (λ place. is_among ns (row_at rows place) ≡ true) places → All (λ place. (row_at rows place).number ≤ greatest) places
    → ((place : ℕ) → place < length rows → get_or met place false ≡ false → greatest ≤ (row_at rows place).number)
    → all ≡ rows_at rows places ++ filter (is_lacked ns) rows → Pairwise KeepsLine all
carried_line rows all places met ns greatest low marks line among below above e =
    let found = rows_at rows places in
    let others = filter (is_lacked ns) rows in
    let kept = All-map (λ x. (is_among ns x ≡ true) × (x.number ≤ greatest)) (row_at rows) places (λ k d lt. (among k d lt, below k d lt)) in
    let high = All-filter (is_lacked ns) (λ x. is_lacked ns x ≡ true → greatest ≤ x.number) rows (λ k d lt lacked.
    let same : get_or rows k d ≡ row_at rows k = get_or_default rows k d no_row lt in
    let here = ap (is_among ns) (sym same) ∙ false_from_ne_true (is_among ns (get_or rows k d)) (λ there. let u : true ≡ not true = sym lacked ∙ ap not there in cc) in
    subst (λ (x : Row). greatest ≤ x.number) (sym same) (above k lt (marks k lt ∙ here))) in
    let cross = recursion_from_All (λ x. AllByRecursion (KeepsLine x) others) found (λ k d lt. recursion_from_All (KeepsLine (get_or found k d)) others (λ m o there.
    let lacked = filter_passes (is_lacked ns) rows m o there in
    across ns greatest (get_or found k d) (get_or others m o) (kept k d lt) lacked (high m o there lacked))) in
    subst (Pairwise KeepsLine) (sym e) (pairwise_join found others line (filter_lines (is_lacked ns) rows low) cross)
