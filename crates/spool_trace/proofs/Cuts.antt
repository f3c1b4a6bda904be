-- The files of a legal history are cut in pages: all but the last of a file are full, and a file that ended has all octets.
use Rattle.std.proofs.Common.{◌≡◌, ℕ, ◌+◌, ◌-◌, ◌*◌, ◌<◌, ◌≤◌, true, false, List, [], ◌∷◌, ◌++◌, length, min, refl, sym, ◌∙◌, ap, subst, arith, inl, inr}
use Rattle.std.specs.List.{concat}
use Rattle.std.proofs.lemmas.List.{length-append}
use Rattle.config_values.specs.Config.{Config}
use Rattle.receiver.specs.Blocks.{AreCut}
use Rattle.spool_history.specs.Base.{Base}
use Rattle.spool_history.specs.Events.{Act, Event}
use Rattle.spool_history.specs.Events.Act.{Granted, Began, Put, FileEnded, Controlled, Aborted}
use Rattle.spool_history.specs.Events.Event.{Opened, OfJob, AtPrinter, Removed, Started, Closed}
use Rattle.spool_history.specs.Acts.{File, at_last, files_by, new_file}
use Rattle.spool_history.specs.Said.{acts_of}
use Rattle.spool_history.specs.Now.{now}
use Rattle.spool_history.specs.Legal.{IsLegal, May}
use Rattle.spool_laws.proofs.Known.{Has, has_at, test, clash}
use Rattle.spool_laws.proofs.Counts.{last_push}
use Rattle.step_lemmas.proofs.HeldJobs.Files.{all_is_none_left}

-- pages of z octets of what is left: each is full, or has all that is left
abbrev pub Sized : ℕ → ℕ → List (List ℕ) → Type 0
Sized z left [] = Unit {0}
Sized z left (p ∷ ps) = (0 < left) × (length p ≡ min z left) × Sized z (left - z) ps

sized_push : (z left n : ℕ) (ps : List (List ℕ)) (p : List ℕ) → Sized z left ps → length ps ≡ n → n * z < left → length p ≡ min z (left - n * z) → Sized z left (ps ++ p ∷ [])
sized_push z left n [] p s e lt is =
    let none : n * z ≡ 0 = ap (λ (m : ℕ). m * z) (sym e) ∙ omega arith in
    (omega (arith, none, lt), is ∙ ap (λ (m : ℕ). min z m) (let same : left - n * z ≡ left = omega (arith, none) in same), tt)
sized_push z left n (q ∷ qs) p s e lt is =
    let m : ℕ = length qs in
    let all : n * z ≡ z + m * z = ap (λ (i : ℕ). i * z) (sym e) ∙ omega arith in
    let rest : left - n * z ≡ (left - z) - m * z = omega (arith, all) in
    (s.0, s.1, sized_push z (left - z) m qs p s.2 refl (omega (arith, all, lt)) (is ∙ ap (λ (i : ℕ). min z i) rest))

min_full : (z n : ℕ) → z ≤ n → min z n ≡ z
min_full z n le = omega (arith, le)

cut_of : (z left : ℕ) (ps : List (List ℕ)) → 0 < z → Sized z left ps → AreCut z ps
cut_of z left [] some s = tt
cut_of z left (p ∷ []) some s = (let a = s.0 in let b = s.1 in (omega (arith, some, a, b), omega (arith, b)))
cut_of z left (p ∷ q ∷ ps) some s =
    let more = s.2.0 in
    (s.1 ∙ min_full z left (omega (arith, more)), some, cut_of z (left - z) (q ∷ ps) some s.2)

all_of : (z left n : ℕ) (ps : List (List ℕ)) → Sized z left ps → length ps ≡ n → left ≤ n * z → length (concat ps) ≡ left
all_of z left n [] s e le = (let none : n * z ≡ 0 = ap (λ (m : ℕ). m * z) (sym e) ∙ omega arith in omega (arith, none, le))
all_of z left n (p ∷ ps) s e le =
    let m : ℕ = length ps in
    let all : n * z ≡ z + m * z = ap (λ (i : ℕ). i * z) (sym e) ∙ omega arith in
    let rest = all_of z (left - z) m ps s.2 refl (omega (arith, all, le)) in
    let one = s.1 in
    let len = length-append p (concat ps) in
    omega (arith, rest, one, len)

-- so a file is cut, and has all its pages once it has ended
pub record IsSized (z : ℕ) (f : File (List ℕ)) : Type 0 where
  pub sized : Sized z f.count f.pages
  pub whole : f.ended ≡ true → f.count ≤ length f.pages * z

abbrev pub Each : {X : Type 0} → (X → Type 0) → List X → Type 0
Each P [] = Unit {0}
Each P (x ∷ xs) = P x × Each P xs

pub each_has : {X : Type 0} (P : X → Type 0) (x : X) (xs : List X) → Each P xs → Has x xs → P x
each_has P x [] e has = absurd has
each_has P x (y ∷ ys) e has = elim has [ inl s ↦ subst P s e.0 | inr t ↦ each_has P x ys e.1 t ]

each_push : {X : Type 0} (P : X → Type 0) (xs : List X) (x : X) → Each P xs → P x → Each P (xs ++ x ∷ [])
each_push P [] x e p = (p, tt)
each_push P (y ∷ ys) x e p = (e.0, each_push P ys x e.1 p)

each_before : {X : Type 0} (P : X → Type 0) (xs : List X) (x : X) → Each P (xs ++ x ∷ []) → Each P xs × P x
each_before P [] x e = (tt, e.0)
each_before P (y ∷ ys) x e = (let r = each_before P ys x e.1 in ((e.0, r.0), r.1))

each_last : {X : Type 0} (P : X → Type 0) (k : X → X) (before : List X) (last : X) (xs : List X) → xs ≡ before ++ last ∷ [] → Each P xs → (P last → P (k last)) → Each P (at_last k xs)
each_last {X} P k before last xs e each f =
    let r = each_before P before last (subst (λ (l : List X). Each P l) e each) in
    subst (λ (l : List X). Each P l) (sym (ap (at_last k) e ∙ last_push k before last)) (each_push P before (k last) r.0 (f r.1))

abbrev SizedAt : ℕ → List (Event (List ℕ)) → ℕ → Type 0
SizedAt z h j = Each (IsSized z) (files_by (acts_of h j))

sized_act : (z : ℕ) (h : List (Event (List ℕ))) (k : ℕ) (act : Act (List ℕ)) → ((j : ℕ) → SizedAt z h j) → Each (IsSized z) (files_by (act ∷ acts_of h k)) → (j : ℕ) → SizedAt z (OfJob k act ∷ h) j
sized_act z h k act f new j = elim (test k j) [
  | inl s ↦ rw s.1 (subst (λ (i : ℕ). Each (IsSized z) (files_by (act ∷ acts_of h i))) s.0 new)
  | inr s ↦ rw s.1 (f j)
]

sized_step : (c : Config) (b : Base) (h : List (Event (List ℕ))) (e : Event (List ℕ)) → 1 ≤ c.page_size → May length (now c b h) e → ((j : ℕ) → SizedAt c.page_size h j) → (j : ℕ) → SizedAt c.page_size (e ∷ h) j
sized_step c b h (Opened k s q) one m f = f
sized_step c b h (OfJob k Granted) one m f = sized_act c.page_size h k Granted f (f k)
sized_step c b h (OfJob k (Began name count)) one m f =
    sized_act c.page_size h k (Began name count) f (each_push (IsSized c.page_size) (files_by (acts_of h k)) (new_file name count) (f k) (record { sized = tt; whole = λ e. absurd (clash false e refl) }))
sized_step c b h (OfJob k (Put file number page)) one m f =
    let o = (has_at c b h k _ m.0).is.2 in
    let put : File (List ℕ) → File (List ℕ) = λ x. record x { pages = x.pages ++ page ∷ [] } in
    let now_open = o.4 in
    sized_act c.page_size h k (Put file number page) f
    (each_last (IsSized c.page_size) put o.0 o.1 (files_by (acts_of h k)) o.2 (f k) (λ s. record {
      sized = sized_push c.page_size o.1.count number o.1.pages page s.sized o.5.0 o.5.1 o.5.2;
      whole = λ e. absurd (clash o.1.ended e now_open);
    }))
sized_step c b h (OfJob k (FileEnded file whole)) one m f =
    let o = (has_at c b h k _ m.0).is.2 in
    sized_act c.page_size h k (FileEnded file whole) f
    (each_last (IsSized c.page_size) (λ x. record x { ended = true }) o.0 o.1 (files_by (acts_of h k)) o.2 (f k) (λ s. record {
      sized = s.sized;
      whole = λ e. all_is_none_left c.page_size (length o.1.pages) o.1.count one o.5;
    }))
sized_step c b h (OfJob k (Controlled control whole)) one m f = sized_act c.page_size h k (Controlled control whole) f (f k)
sized_step c b h (OfJob k Aborted) one m f = sized_act c.page_size h k Aborted f (f k)
sized_step c b h (AtPrinter p sheet turn) one m f = f
sized_step c b h (Removed q jobs) one m f = f
sized_step c b h (Started q) one m f = f
sized_step c b h Closed one m f = f

pub sized : (c : Config) (b : Base) (h : List (Event (List ℕ))) → 1 ≤ c.page_size → IsLegal length c b h → (j : ℕ) → SizedAt c.page_size h j
sized c b [] one l = λ j. tt
sized c b (e ∷ h) one l = sized_step c b h e one l.0 (sized c b h one l.1)

pub cut_file : (z : ℕ) (f : File (List ℕ)) → 1 ≤ z → IsSized z f → AreCut z f.pages
cut_file z f one s = cut_of z f.count f.pages one s.sized

pub whole_file : (z : ℕ) (f : File (List ℕ)) → IsSized z f → f.ended ≡ true → length (concat f.pages) ≡ f.count
whole_file z f s e = all_of z f.count (length f.pages) f.pages s.sized refl (s.whole e)
