-- What is shown of octets, and of what comes behind them.
use Rattle.std.proofs.Common.{◌≡◌, ◌<◌, ◌≤◌, ◌+◌, ◌-◌, ◌++◌, ◌∷◌, [], ℕ, zero, suc, Bool, true, false, List, length, take, drop, refl, ap, sym, ◌∙◌, drop-drop, drop-cons, append_assoc, get_or, arith}
use Rattle.std.specs.Prelude.{◌==◌, ◌&&◌, if◌then◌else◌}
use Rattle.control_lines.specs.Escapes.{escaped}
use Rattle.terminal_writer.specs.declared.terminal.Front.TheVariants.{Visible, Hidden, Cut}
use Rattle.terminal_writer.specs.Terminal.{is_plain, is_lead, is_trail, may_begin, behind_second, has_trails, lacks_trails, visible_length, is_cut, front_of, shown, shown_behind}

both : (t l h g : Bool) → t && l ≡ false → (l ≡ false → h ≡ g) → t && h ≡ t && g
both true l h g e f = f e
both false l h g e f = refl

-- trails that are there, or that lack for another reason than that the octets end, stay so
trails_stay : (k : ℕ) (bs rest : List ℕ) → lacks_trails k bs ≡ false → has_trails k (bs ++ rest) ≡ has_trails k bs
trails_stay zero bs rest h = refl
trails_stay (suc k) [] rest h = cc
trails_stay (suc k) (b ∷ bs) rest h =
    both (is_trail b) (lacks_trails k bs) (has_trails k (bs ++ rest)) (has_trails k bs) h (trails_stay k bs rest)

right : (m l : Bool) → m ≡ true → m && l ≡ false → l ≡ false
right true l h e = e
right false l h e = cc

second : (t g : Bool) → t && g ≡ true → g ≡ true
second true g e = e
second false g e = cc

-- trails that are there are no more than the octets
trails_fit : (k : ℕ) (bs : List ℕ) → has_trails k bs ≡ true → k ≤ length bs
trails_fit zero bs h = omega arith
trails_fit (suc k) [] h = cc
trails_fit (suc k) (b ∷ bs) h = omega (arith, trails_fit k bs (second (is_trail b) (has_trails k bs) h))

choice : (p m t u : Bool) (n : ℕ) → (m ≡ true → t ≡ u)
    → (if p then 1 else (if m && t then n else 0)) ≡ (if p then 1 else (if m && u then n else 0))
choice true m t u n f = refl
choice false true t u n f = ap (λ (x : Bool). if x then n else 0) (f refl)
choice false false t u n f = refl

alone : (p l s t : Bool) (n : ℕ) → l ≡ false → (if p then 1 else (if (l && s) && t then n else 0)) ≡ (if p then 1 else 0)
alone true l s t n h = refl
alone false false s t n h = refl
alone false true s t n h = cc

-- what comes behind octets that aren't cut changes nothing
stays : (bs rest : List ℕ) → is_cut bs ≡ false → visible_length (bs ++ rest) ≡ visible_length bs
stays [] rest h = cc
stays (a ∷ []) [] h = refl
stays (a ∷ []) (r ∷ rest) h = alone (is_plain a) (is_lead a) _ (has_trails (behind_second a) rest) (2 + behind_second a) h
stays (a ∷ b ∷ bs) rest h =
    choice (is_plain a) (may_begin a b) (has_trails (behind_second a) (bs ++ rest)) (has_trails (behind_second a) bs)
    (2 + behind_second a) (λ m. trails_stay (behind_second a) bs rest (right (may_begin a b) (lacks_trails (behind_second a) bs) m h))

one_fits : (p : Bool) → (if p then 1 else 0) ≤ 1
one_fits true = omega arith
one_fits false = omega arith

many_fit : (p m t : Bool) (k n : ℕ) → (t ≡ true → k ≤ n) → (if p then 1 else (if m && t then 2 + k else 0)) ≤ 2 + n
many_fit true m t k n f = omega arith
many_fit false true true k n f = omega (arith, f refl)
many_fit false true false k n f = omega arith
many_fit false false t k n f = omega arith

-- a visible character at the front is no longer than the octets
fits : (bs : List ℕ) → visible_length bs ≤ length bs
fits [] = omega arith
fits (a ∷ []) = one_fits (is_plain a)
fits (a ∷ b ∷ bs) =
    let most = many_fit (is_plain a) (may_begin a b) (has_trails (behind_second a) bs) (behind_second a) (length bs) (trails_fit (behind_second a) bs) in
    omega (arith, most)

-- what is shown of a visible character, and behind it
copies : (n : ℕ) (xs ys : List ℕ) → n ≤ length xs → shown_behind n (xs ++ ys) ≡ take n xs ++ shown (drop n xs ++ ys)
copies zero xs ys h = refl
copies (suc n) [] ys h = absurd (omega (arith, h))
copies (suc n) (x ∷ xs) ys h = ap (λ t. x ∷ t) (copies n xs ys (omega (arith, h)))

other : {A : Type 0} (t : Bool) (x y : A) → t ≡ false → (if t then x else y) ≡ y
other true x y e = cc
other false x y e = refl

no_zero : (v n : ℕ) → v ≡ suc n → (v == 0) ≡ false
no_zero v n e = grind (arith, e)

opened : (v a : ℕ) (bs : List ℕ) (n : ℕ) → v ≡ suc n
    → (if v == 0 then escaped (a ∷ []) ++ shown_behind 0 bs else a ∷ shown_behind (v - 1) bs) ≡ a ∷ shown_behind n bs
opened v a bs n e =
    other (v == 0) (escaped (a ∷ []) ++ shown_behind 0 bs) (a ∷ shown_behind (v - 1) bs) (no_zero v n e)
    ∙ ap (λ k. a ∷ shown_behind k bs) (omega (arith, e))

closed : (v a : ℕ) (bs : List ℕ) → v ≡ 0
    → (if v == 0 then escaped (a ∷ []) ++ shown_behind 0 bs else a ∷ shown_behind (v - 1) bs) ≡ escaped (a ∷ []) ++ shown bs
closed zero a bs e = refl
closed (suc v) a bs e = cc

-- what the front of octets says of them
is_visible : (c : Bool) (v n : ℕ) → (if c then Cut else (if v == 0 then Hidden else Visible v)) ≡ Visible n
    → (c ≡ false) × (v ≡ n) × (0 < n)
is_visible true v n e = cc
is_visible false zero n e = cc
is_visible false (suc v) n e = grind (arith, e)

hides : (t : Bool) (v : ℕ) → (if t then Hidden else Visible v) ≡ Hidden → t ≡ true
hides true v e = refl
hides false v e = cc

a_zero : (v : ℕ) → (v == 0) ≡ true → v ≡ 0
a_zero v e = grind (arith, e)

is_hidden : (c : Bool) (v : ℕ) → (if c then Cut else (if v == 0 then Hidden else Visible v)) ≡ Hidden → (c ≡ false) × (v ≡ 0)
is_hidden true v e = cc
is_hidden false v e = (refl, a_zero v (hides (v == 0) v e))

ends : (t : Bool) (v : ℕ) → (if t then Hidden else Visible v) ≡ Cut → false ≡ true
ends true v e = cc
ends false v e = cc

is_left : (c : Bool) (v : ℕ) → (if c then Cut else (if v == 0 then Hidden else Visible v)) ≡ Cut → c ≡ true
is_left true v e = refl
is_left false v e = ends (v == 0) v e

visible : (bs rest : List ℕ) (n : ℕ) → is_cut bs ≡ false → visible_length bs ≡ n → 0 < n
    → shown (bs ++ rest) ≡ take n bs ++ shown (drop n bs ++ rest)
visible [] rest n h e p = cc
visible (a ∷ bs) rest zero h e p = absurd (omega (arith, p))
visible (a ∷ bs) rest (suc n) h e p =
    opened (visible_length (a ∷ (bs ++ rest))) a (bs ++ rest) n (stays (a ∷ bs) rest h ∙ e)
    ∙ ap (λ t. a ∷ t) (copies n bs rest (omega (arith, fits (a ∷ bs), e)))

-- a visible character is shown as it is
pub visible_step : (bs rest : List ℕ) (n : ℕ) → front_of bs ≡ Visible n
    → (n ≤ length bs) × (shown (bs ++ rest) ≡ take n bs ++ shown (drop n bs ++ rest))
visible_step bs rest n e =
    let it = is_visible (is_cut bs) (visible_length bs) n e in
    (omega (arith, fits bs, it.1), visible bs rest n it.0 it.1 it.2)

-- another octet is shown by its digits
pub hidden_step : (b : ℕ) (bs rest : List ℕ) → front_of (b ∷ bs) ≡ Hidden
    → shown ((b ∷ bs) ++ rest) ≡ escaped (b ∷ []) ++ shown (bs ++ rest)
hidden_step b bs rest e =
    let it = is_hidden (is_cut (b ∷ bs)) (visible_length (b ∷ bs)) e in
    closed (visible_length (b ∷ (bs ++ rest))) b (bs ++ rest) (stays (b ∷ bs) rest it.0 ∙ it.1)

-- what is left is cut
pub cut_step : (bs : List ℕ) → front_of bs ≡ Cut → is_cut bs ≡ true
cut_step bs e = is_left (is_cut bs) (visible_length bs) e

appended : (s t u x y z : List ℕ) → x ≡ s ++ y → y ≡ t ++ z → u ≡ s ++ t → x ≡ u ++ z
appended s t u x y z e f g = e ∙ (ap (λ w. s ++ w) f ∙ (sym (append_assoc s t z) ∙ ap (λ w. w ++ z) (sym g)))

-- so far this is shown of a text, and then a visible character
pub visible_goes_on : (text s t rest : List ℕ) (at n : ℕ) → front_of (drop at text) ≡ Visible n
    → shown (text ++ rest) ≡ s ++ shown (drop at text ++ rest) → t ≡ s ++ take n (drop at text)
    → shown (text ++ rest) ≡ t ++ shown (drop (at + n) text ++ rest)
visible_goes_on text s t rest at n f e g =
    appended s (take n (drop at text)) t _ _ _ e ((visible_step (drop at text) rest n f).1) g
    ∙ ap (λ d. t ++ shown (d ++ rest)) (drop-drop n at text)

-- the same with an octet that is hidden
pub hidden_goes_on : (text s t rest : List ℕ) (at : ℕ) → at < length text → front_of (drop at text) ≡ Hidden
    → shown (text ++ rest) ≡ s ++ shown (drop at text ++ rest) → t ≡ s ++ escaped (get_or text at 0 ∷ [])
    → shown (text ++ rest) ≡ t ++ shown (drop (at + 1) text ++ rest)
hidden_goes_on text s t rest at h f e g =
    let next : suc at ≡ at + 1 = omega arith in
    let cut = drop-cons text at 0 h in
    let step = ap (λ l. shown (l ++ rest)) cut
    ∙ hidden_step (get_or text at 0) (drop (suc at) text) rest (sym (ap front_of cut) ∙ f) in
    appended s (escaped (get_or text at 0 ∷ [])) t _ _ _ e step g
    ∙ ap (λ k. t ++ shown (drop k text ++ rest)) next

past : (at : ℕ) (text : List ℕ) → length text ≤ at → drop at text ≡ []
past zero [] h = refl
past zero (x ∷ xs) h = absurd (omega (arith, h))
past (suc n) [] h = refl
past (suc n) (x ∷ xs) h = past n xs (omega (arith, h))

-- behind the end nothing is left
pub end_is_cut : (at : ℕ) (text : List ℕ) → length text ≤ at → is_cut (drop at text) ≡ true
end_is_cut at text h = ap is_cut (past at text h)
