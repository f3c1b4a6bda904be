-- What a write to a row, and a new row, make of the sums and the names of rows.
use Rattle.std.proofs.Common.{◌≡◌, ℕ, zero, suc, ◌+◌, ◌||◌, cond, true, false, is_some, true≢false, Bool, List, [], ◌∷◌, ◌++◌, Option, Some, slice_get, refl, sym, ◌∙◌, ap, ◌≤◌, arith}
use Rattle.std.specs.List.{sum_by}
use Rattle.std.specs.Map.{lookup, values_of}
use Rattle.std.specs.Str.{bytes_eq}
use Rattle.std.specs.Cmp.Lexicographic.{nat_list_eq_equiv}
use Rattle.std.proofs.lemmas.List.{map_push}
use Rattle.std.proofs.lemmas.List.Sums.{sum_by-cons}
use Rattle.lpd_values.specs.Kept.{is_among}
use Rattle.indexmap.specs.IndexMap.{set_value_at}
use Rattle.account_usage.specs.declared.rows.Totals.{Totals}
use Rattle.account_usage.specs.Rows.{Row, names_with, row_names}

module _ {K X : Type 0} (f : X → ℕ) where
  -- a sum over values, of which one is written
  pub sum_by-set_value_at : (es : List (K × X)) (i : ℕ) (was is : X) → slice_get (values_of es) i ≡ Some was
      → sum_by (λ (e : K × X). f e.1) (set_value_at es i is) + f was ≡ sum_by (λ (e : K × X). f e.1) es + f is
  sum_by-set_value_at [] i was is at = absurd (true≢false (sym (ap is_some at)))
  sum_by-set_value_at (e ∷ es) zero was is at =
      let same : f e.1 ≡ f was = cc in
      omega (arith, sum_by-cons (λ (e : K × X). f e.1) (e.0, is) es, sum_by-cons (λ (e : K × X). f e.1) e es)
  sum_by-set_value_at (e ∷ es) (suc i) was is at =
      let rest = sum_by-set_value_at es i was is at in
      omega (arith, sum_by-cons (λ (e : K × X). f e.1) e (set_value_at es i is), sum_by-cons (λ (e : K × X). f e.1) e es)

  -- one value is within the sum
  pub value-le-sum_by : (es : List (K × X)) (i : ℕ) (was : X) → slice_get (values_of es) i ≡ Some was → f was ≤ sum_by (λ (e : K × X). f e.1) es
  value-le-sum_by [] i was at = absurd (true≢false (sym (ap is_some at)))
  value-le-sum_by (e ∷ es) zero was at =
      let same : f e.1 ≡ f was = cc in
      omega (arith, sum_by-cons (λ (e : K × X). f e.1) e es)
  value-le-sum_by (e ∷ es) (suc i) was at =
      let rest = value-le-sum_by es i was at in
      omega (arith, sum_by-cons (λ (e : K × X). f e.1) e es)

-- the names stay
names-set_value_at : (es : List Row) (i : ℕ) (w : Totals) → row_names (set_value_at es i w) ≡ row_names es
names-set_value_at [] i w = refl
names-set_value_at (e ∷ es) zero w = refl
names-set_value_at (e ∷ es) (suc i) w = ap (λ (names : List (List ℕ)). e.0.items ∷ names) (names-set_value_at es i w)

found : (b : Bool) (t : Totals) (o : Option Totals) → is_some (cond b (Some t) o) ≡ (b || is_some o)
found true t o = refl
found false t o = refl

-- a name is found among rows where it is among their names
is_among-lookup : (name : List ℕ) (es : List Row) → is_some (lookup (λ k. bytes_eq name k.items) es) ≡ is_among name (row_names es)
is_among-lookup name [] = refl
is_among-lookup name (e ∷ es) =
    found (bytes_eq name e.0.items) e.1 (lookup (λ k. bytes_eq name k.items) es)
    ∙ (ap (λ (b : Bool). b || is_some (lookup (λ k. bytes_eq name k.items) es)) (nat_list_eq_equiv.symm name e.0.items)
    ∙ ap (λ (b : Bool). bytes_eq e.0.items name || b) (is_among-lookup name es))

module _ (name : List ℕ) (es : List Row) where
  -- where a name is found, a write makes no other
  pub names-write : (i : ℕ) (w : Totals) → true ≡ is_some (lookup (λ k. bytes_eq name k.items) es) → row_names (set_value_at es i w) ≡ names_with name (row_names es)
  names-write i w there =
      names-set_value_at es i w
      ∙ sym (ap (λ (b : Bool). cond b (row_names es) (row_names es ++ name ∷ [])) (sym (is_among-lookup name es) ∙ sym there))

  -- and where it isn't, a row behind the others has it
  pub names-push : (row : Row) → row.0.items ≡ name → false ≡ is_some (lookup (λ k. bytes_eq name k.items) es) → row_names (es ++ row ∷ []) ≡ names_with name (row_names es)
  names-push row has absent =
      map_push (λ (r : Row). r.0.items) es row
      ∙ (ap (λ (n : List ℕ). row_names es ++ n ∷ []) has
      ∙ sym (ap (λ (b : Bool). cond b (row_names es) (row_names es ++ name ∷ [])) (sym (is_among-lookup name es) ∙ sym absent)))
