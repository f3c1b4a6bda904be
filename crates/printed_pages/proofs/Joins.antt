-- The pages of a job's file, one after the other.
use Rattle.std.proofs.Common.{◌≡◌, ◌<◌, ◌≤◌, ◌+◌, ◌-◌, ℕ, zero, List, [], ◌∷◌, ◌++◌, Option, Some, None, get_or, length, suc, take, drop, refl, ap, arith, inl, inr, length-drop, append_assoc, append-nil, subst, take_all}
use Rattle.std.specs.Prelude.{sum_by}
use Rattle.std.proofs.lemmas.List.Sums.{sum_by-cons, sum_by_more}
use Rattle.account.specs.declared.entry.Sheet.{Sheet}
use Rattle.account.specs.Seen.{sheet_seen}
use Rattle.printed_pages.specs.declared.source.TrailFault.{TrailFault}
use Rattle.printed_pages.specs.declared.source.TrailFault.TheVariants as fault
use Rattle.printed_pages.specs.Sources.{ArePagesFrom, IsJob, IsPart, IsThere}
use Rattle.printed_pages.specs.Trails.{IsIn, IsOfOne}

-- a file has these pages up to an octet: with what stands from there on it has them all
abbrev pub Goes : Option (List ℕ) → ℕ → List Sheet → Type 0
Goes None at done = Unit {0}
Goes (Some all) at done = (rest : List Sheet) → ArePagesFrom at all rest → ArePagesFrom 0 all (done ++ rest)

pub goes_first : (file : Option (List ℕ)) → Goes file 0 []
goes_first None = tt
goes_first (Some all) = λ rest h. h

pub goes_more : (file : Option (List ℕ)) (at : ℕ) (done : List Sheet) (s : Sheet) → Goes file at done → IsThere at file s.page
    → Goes file (at + s.page.length) (done ++ s ∷ [])
goes_more None at done s goes there = tt
goes_more (Some all) at done s goes there = λ rest h. rw (append_assoc done (s ∷ []) rest) (goes (s ∷ rest) (there, h))

empty_if : (xs : List ℕ) → [] ≡ take 1 xs → xs ≡ []
empty_if [] e = refl
empty_if (x ∷ xs) e = cc e

ends : (all : List ℕ) (at : ℕ) → [] ≡ take 1 (drop at all) → length all ≤ at
ends all at e =
    let none : length (drop at all) ≡ 0 = ap length (empty_if (drop at all) e) in
    omega (arith, none, length-drop at all)

pub goes_last : (file : Option (List ℕ)) (at : ℕ) (sheets : List Sheet) → Goes file at sheets → IsPart at file [] 1 → IsJob file sheets
goes_last None at sheets goes part = tt
goes_last (Some all) at [] goes part = tt
goes_last (Some all) at (s ∷ ss) goes part =
    subst (λ (l : List Sheet). ArePagesFrom 0 all l) (append-nil (s ∷ ss)) (goes [] (ends all at part))

-- how many octets these pages have
abbrev pub octets_of : List Sheet → ℕ
octets_of sheets = sum_by (λ (s : Sheet). s.page.length) sheets

-- a fault of the page at an index is of one of them
pub one_of : (printer at here : ℕ) (sheets : List Sheet) (i : ℕ) (d : Sheet) (f : TrailFault) → i < length sheets → here ≡ at + octets_of (take i sheets) → IsIn printer here (sheet_seen (get_or sheets i d)) f
    → IsOfOne printer at sheets f
one_of printer at here [] i d f lt e h = absurd (omega arith)
one_of printer at here (s ∷ ss) zero d f lt e h =
    let first : here ≡ at = omega (arith, e) in
    inl (subst (λ (n : ℕ). IsIn printer n (sheet_seen s) f) first h)
one_of printer at here (s ∷ ss) (suc i) d f lt e h =
    inr (one_of printer (at + s.page.length) here ss i d f (omega arith) (omega (arith, e, sum_by-cons (λ (v : Sheet). v.page.length) s (take i ss))) h)

-- and so is one behind the last of them
pub behind_last : (printer at : ℕ) (sheets : List Sheet) (last : Sheet) → 0 < length sheets → last ≡ get_or sheets (length sheets - 1) last → at ≡ octets_of sheets
    → IsOfOne printer 0 sheets (fault.Differs (record { printer = printer; job = last.job; place = last.place; octet = at }))
behind_last printer at sheets last some is e =
    let i = length sheets - 1 in
    let all : octets_of (take (i + 1) sheets) ≡ octets_of sheets = ap octets_of (take_all (i + 1) sheets (omega arith)) in
    let more = sum_by_more (λ (v : Sheet). v.page.length) sheets i last (omega arith) in
    let here : at ≡ octets_of (take i sheets) + (get_or sheets i last).page.length = omega (arith, e, all, more) in
    one_of printer 0 (octets_of (take i sheets)) sheets i last _ (omega arith) (omega arith) (refl, ap (λ (s : Sheet). s.job) is, ap (λ (s : Sheet). s.place) is, omega arith, omega arith)
