-- Of a job's files no two have one name, and each page of a file was needed.
use Rattle.std.proofs.Common.{inl, inr, ◌≡◌, ℕ, ◌+◌, ◌-◌, ◌*◌, ◌/◌, ◌<◌, ◌≤◌, Bool, true, false, List, [], ◌∷◌, ◌++◌, length, refl, sym, ◌∙◌, ap, subst, arith}
use Rattle.std.specs.Str.{bytes_eq}
use Rattle.std.proofs.lemmas.Bool.{or_parts}
use Rattle.std.proofs.lemmas.List.{length_push}
use Rattle.std.proofs.lemmas.Nat.{div-mul-add}
use Rattle.std.proofs.Math.Nat.{lt-mul-div-succ}
use Rattle.std.proofs.lemmas.Slice.Eq.{bytes_eq-Decides}
use Rattle.lpd_values.specs.Kept.{is_among}
use Rattle.spool_history.specs.Base.{Base}
use Rattle.spool_history.specs.Events.{Act, Event}
use Rattle.spool_history.specs.Events.Act.{Granted, Began, Put, FileEnded, Controlled, Aborted}
use Rattle.spool_history.specs.Events.Event.{Opened, OfJob, AtPrinter, Removed, Started, Closed}
use Rattle.config_values.specs.Config.{Config}
use Rattle.spool_history.specs.Acts.{File, new_file, at_last, files_by, names_in}
use Rattle.spool_history.specs.Said.{acts_of}
use Rattle.spool_history.specs.Now.{Job, now}
use Rattle.spool_history.specs.Legal.{IsLegal, May, pages_for}
use Rattle.spool_laws.proofs.Known.{Has, has_at, known, test, clash}
use Rattle.spool_laws.proofs.Counts.{last_push}

-- no two of these names are one
abbrev pub Differ : List (List ℕ) → Type 0
Differ [] = Unit {0}
Differ (n ∷ ns) = (is_among n ns ≡ false) × Differ ns

names_changed : {C : Type 0} (k : File C → File C) (fs : List (File C)) → ((f : File C) → (k f).name ≡ f.name) → names_in (at_last k fs) ≡ names_in fs
names_changed k [] e = refl
names_changed k (f ∷ []) e = ap (λ (n : List ℕ). n ∷ []) (e f)
names_changed k (f ∷ g ∷ fs) e = ap (λ (l : List (List ℕ)). f.name ∷ l) (names_changed k (g ∷ fs) e)

among_push : (n m : List ℕ) (names : List (List ℕ)) → is_among n names ≡ false → bytes_eq m n ≡ false → is_among n (names ++ m ∷ []) ≡ false
among_push n m [] e d = rw d refl
among_push n m (x ∷ names) e d = (let o = or_parts (bytes_eq x n) (is_among n names) e in rw (o.0, among_push n m names o.1 d) refl)

eq_by : (x y : List ℕ) (b : Bool) → bytes_eq y x ≡ b → bytes_eq x y ≡ false → b ≡ false
eq_by x y true e d = absurd (clash (bytes_eq x y) ((bytes_eq-Decides x y).1 (sym ((bytes_eq-Decides y x).0 e))) d)
eq_by x y false e d = refl

differ_push : (names : List (List ℕ)) (m : List ℕ) → Differ names → is_among m names ≡ false → Differ (names ++ m ∷ [])
differ_push [] m d e = (refl, tt)
differ_push (x ∷ names) m d e =
    let o = or_parts (bytes_eq x m) (is_among m names) e in
    (among_push x m names d.0 (eq_by x m (bytes_eq m x) refl o.0), differ_push names m d.1 o.1)

names_push : {C : Type 0} (fs : List (File C)) (f : File C) → names_in (fs ++ f ∷ []) ≡ names_in fs ++ f.name ∷ []
names_push [] f = refl
names_push (g ∷ fs) f = ap (λ (l : List (List ℕ)). g.name ∷ l) (names_push fs f)

abbrev DifferAt : {C : Type 0} → List (Act C) → Type 0
DifferAt a = Differ (names_in (files_by a))

differ_act : {C : Type 0} (h : List (Event C)) (k : ℕ) (act : Act C) → ((j : ℕ) → DifferAt (acts_of h j)) → DifferAt (act ∷ acts_of h k) → (j : ℕ) → DifferAt (acts_of (OfJob k act ∷ h) j)
differ_act {C} h k act f new j = elim (test k j) [
  | inl s ↦ rw s.1 (subst (λ (i : ℕ). DifferAt (act ∷ acts_of h i)) s.0 new)
  | inr s ↦ rw s.1 (f j)
]

differ_step : {C : Type 0} (size : C → ℕ) (c : Config) (base : Base) (h : List (Event C)) (e : Event C) → May size (now c base h) e → ((j : ℕ) → DifferAt (acts_of h j)) → (j : ℕ) → DifferAt (acts_of (e ∷ h) j)
differ_step size c base h (Opened k s q) m f = f
differ_step size c base h (OfJob k Granted) m f = differ_act h k Granted f (f k)
differ_step size c base h (OfJob k (Began name count)) m f =
    let fs = files_by (acts_of h k) in
    differ_act h k (Began name count) f (subst Differ (sym (names_push fs (new_file name count))) (differ_push (names_in fs) name (f k) (has_at c base h k _ m.0).is.2))
differ_step {C} size c base h (OfJob k (Put file number page)) m f =
    differ_act h k (Put file number page) f (subst Differ (sym (names_changed (λ (x : File C). record x { pages = x.pages ++ page ∷ [] }) (files_by (acts_of h k)) (λ x. refl))) (f k))
differ_step {C} size c base h (OfJob k (FileEnded file whole)) m f =
    differ_act h k (FileEnded file whole) f (subst Differ (sym (names_changed (λ (x : File C). record x { ended = true }) (files_by (acts_of h k)) (λ x. refl))) (f k))
differ_step size c base h (OfJob k (Controlled control whole)) m f = differ_act h k (Controlled control whole) f (f k)
differ_step size c base h (OfJob k Aborted) m f = differ_act h k Aborted f (f k)
differ_step size c base h (AtPrinter p sheet turn) m f = f
differ_step size c base h (Removed q jobs) m f = f
differ_step size c base h (Started q) m f = f
differ_step size c base h Closed m f = f

-- no two files of a job have one name
pub names_differ : {C : Type 0} (size : C → ℕ) (c : Config) (base : Base) (h : List (Event C)) → IsLegal size c base h → (j : ℕ) → Differ (names_in (files_by (acts_of h j)))
names_differ size c base [] l = λ j. tt
names_differ size c base (e ∷ h) l = differ_step size c base h e l.0 (names_differ size c base h l.1)

-- the same of each held job
pub job_names_differ : {C : Type 0} (size : C → ℕ) (c : Config) (base : Base) (h : List (Event C)) (x : Job C) → IsLegal size c base h → Has x (now c base h).jobs → Differ (names_in x.files)
job_names_differ {C} size c base h x l has = (let k = known c base h x has in subst (λ (v : Job C). Differ (names_in v.files)) (sym k.is) (names_differ size c base h l k.opening.job))

-- a file has no page more than its octets take
abbrev pub Needed : {C : Type 0} → ℕ → List (File C) → Type 0
Needed z [] = Unit {0}
Needed z (f ∷ fs) = (length f.pages * z < f.count + z) × Needed z fs

needed_push : {C : Type 0} (z : ℕ) (fs : List (File C)) (f : File C) → Needed z fs → length f.pages * z < f.count + z → Needed z (fs ++ f ∷ [])
needed_push z [] f n lt = (lt, tt)
needed_push z (g ∷ fs) f n lt = (n.0, needed_push z fs f n.1 lt)

needed_before : {C : Type 0} (z : ℕ) (fs : List (File C)) (f : File C) → Needed z (fs ++ f ∷ []) → Needed z fs × (length f.pages * z < f.count + z)
needed_before z [] f n = (tt, n.0)
needed_before z (g ∷ fs) f n = (let r = needed_before z fs f n.1 in ((n.0, r.0), r.1))

needed_last : {C : Type 0} (z : ℕ) (k : File C → File C) (before : List (File C)) (last : File C) (fs : List (File C)) → fs ≡ before ++ last ∷ [] → Needed z fs → length (k last).pages * z < (k last).count + z → Needed z (at_last k fs)
needed_last {C} z k before last fs e n lt =
    subst (λ (l : List (File C)). Needed z l) (sym (ap (at_last k) e ∙ last_push k before last))
    (needed_push z before (k last) (needed_before z before last (subst (λ (l : List (File C)). Needed z l) e n)).0 lt)

needed_act : {C : Type 0} (z : ℕ) (h : List (Event C)) (k : ℕ) (act : Act C) → ((j : ℕ) → Needed z (files_by (acts_of h j))) → Needed z (files_by (act ∷ acts_of h k)) → (j : ℕ) → Needed z (files_by (acts_of (OfJob k act ∷ h) j))
needed_act {C} z h k act f new j = elim (test k j) [
  | inl s ↦ rw s.1 (subst (λ (i : ℕ). Needed z (files_by (act ∷ acts_of h i))) s.0 new)
  | inr s ↦ rw s.1 (f j)
]

one_more : {C : Type 0} (z n count : ℕ) (pages : List C) (page : C) → length pages ≡ n → n * z < count → length (pages ++ page ∷ []) * z < count + z
one_more z n count pages page e lt =
    let p = length_push pages page in
    let q : length (pages ++ page ∷ []) * z ≡ (n + 1) * z = ap (λ (m : ℕ). m * z) (p ∙ ap (λ (m : ℕ). m + 1) e) in
    let r : (n + 1) * z ≡ n * z + z = omega arith in
    omega arith

needed_step : {C : Type 0} (size : C → ℕ) (c : Config) (base : Base) (h : List (Event C)) (e : Event C) → 1 ≤ c.page_size → May size (now c base h) e → ((j : ℕ) → Needed c.page_size (files_by (acts_of h j))) → (j : ℕ) → Needed c.page_size (files_by (acts_of (e ∷ h) j))
needed_step size c base h (Opened k s q) one m f = f
needed_step size c base h (OfJob k Granted) one m f = needed_act c.page_size h k Granted f (f k)
needed_step size c base h (OfJob k (Began name count)) one m f =
    let b = m.1 in
    let none : 0 * c.page_size ≡ 0 = omega arith in
    needed_act c.page_size h k (Began name count) f (needed_push c.page_size (files_by (acts_of h k)) (new_file name count) (f k) (omega arith))
needed_step {C} size c base h (OfJob k (Put file number page)) one m f =
    let o = (has_at c base h k _ m.0).is.2 in
    needed_act c.page_size h k (Put file number page) f (needed_last c.page_size (λ (x : File C). record x { pages = x.pages ++ page ∷ [] }) o.0 o.1 (files_by (acts_of h k)) o.2 (f k) (one_more c.page_size number o.1.count o.1.pages page o.5.0 o.5.1))
needed_step {C} size c base h (OfJob k (FileEnded file whole)) one m f =
    let o = (has_at c base h k _ m.0).is.2 in
    needed_act c.page_size h k (FileEnded file whole) f (needed_last c.page_size (λ (x : File C). record x { ended = true }) o.0 o.1 (files_by (acts_of h k)) o.2 (f k) (needed_before c.page_size o.0 o.1 (subst (λ (l : List (File C)). Needed c.page_size l) o.2 (f k))).1)
needed_step size c base h (OfJob k (Controlled control whole)) one m f = needed_act c.page_size h k (Controlled control whole) f (f k)
needed_step size c base h (OfJob k Aborted) one m f = needed_act c.page_size h k Aborted f (f k)
needed_step size c base h (AtPrinter p sheet turn) one m f = f
needed_step size c base h (Removed q jobs) one m f = f
needed_step size c base h (Started q) one m f = f
needed_step size c base h Closed one m f = f

-- no file of a job has a page more than its octets take
pub pages_needed : {C : Type 0} (size : C → ℕ) (c : Config) (base : Base) (h : List (Event C)) → 1 ≤ c.page_size → IsLegal size c base h → (j : ℕ) → Needed c.page_size (files_by (acts_of h j))
pages_needed size c base [] one l = λ j. tt
pages_needed size c base (e ∷ h) one l = needed_step size c base h e one l.0 (pages_needed size c base h one l.1)

-- the same of each held job
pub job_pages_needed : {C : Type 0} (size : C → ℕ) (c : Config) (base : Base) (h : List (Event C)) (x : Job C) → 1 ≤ c.page_size → IsLegal size c base h → Has x (now c base h).jobs → Needed c.page_size x.files
job_pages_needed {C} size c base h x one l has = (let k = known c base h x has in subst (λ (v : Job C). Needed c.page_size v.files) (sym k.is) (pages_needed size c base h one l k.opening.job))

-- what is needed of each file is needed of the last
pub needed_of_last : {C : Type 0} (z : ℕ) (before : List (File C)) (last : File C) (fs : List (File C)) → fs ≡ before ++ last ∷ [] → Needed z fs → length last.pages * z < last.count + z
needed_of_last {C} z before last fs e n = (needed_before z before last (subst (λ (l : List (File C)). Needed z l) e n)).1

-- pages that leave nothing of a count, and none of which is one too many, are as many as the count takes
pub none_left_is_all : (z n count : ℕ) → 1 ≤ z → n * z < count + z → count ≤ n * z → n ≡ pages_for z count
none_left_is_all z n count one lt le =
    let rest : ℕ = (count + (z - 1)) - n * z in
    let all : count + (z - 1) ≡ n * z + rest = omega arith in
    sym (ap (λ (m : ℕ). m / z) all ∙ div-mul-add n z rest (omega arith))

-- and as many as the count takes leave nothing of it
pub all_is_none_left : (z n count : ℕ) → 1 ≤ z → n ≡ pages_for z count → count ≤ n * z
all_is_none_left z n count one e =
    let lt : count + (z - 1) < z * ((count + (z - 1)) / z + 1) = lt-mul-div-succ (count + (z - 1)) one in
    let lt' : count + (z - 1) < z * (n + 1) = subst (λ (m : ℕ). count + (z - 1) < z * (m + 1)) (sym e) lt in
    omega arith
