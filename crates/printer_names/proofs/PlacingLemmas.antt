-- Printers that are placed one after another.
use Rattle.std.proofs.Common.{◌≡◌, ◌≢◌, ◌⊎◌, Err, ◌==◌, ◌≤◌, ◌<◌, ◌++◌, ◌∷◌, ℕ, List, [], ◌∙◌, ap, append_assoc, arith, drop, get_or, inl, inr, length, map, refl, subst, suc, sym, take, true, false, zero}
use Rattle.std.specs.List.{AllZip, list_any}
use Rattle.std.proofs.Math.Nat.{eq-or-lt_of_le}
use Rattle.std.proofs.Math.Seq.{split_at}
use Rattle.std.proofs.lemmas.Bool.{cases_order, eq-eqb, eqb-true}
use Rattle.std.proofs.lemmas.List.Folds.{Any-from_list_any, list_any_at}
use Rattle.std.proofs.lemmas.List.Quantifiers.{all_pairs_push}
use Rattle.std.proofs.lemmas.List.{append-nil, get_or-map, get_or-take, length-map, length-take-le, take_all}
use Rattle.std.proofs.lemmas.Slice.Zip.{AllZip-long}
use Rattle.config_values.specs.Config as C
use Rattle.program_edge.specs.declared.places.PlacedPrinter.{PlacedPrinter}
use Rattle.spool_config.specs.Places.{told_view}
use Rattle.spool_config.specs.declared.places.ToldPlace.{ToldPlace}
use Rattle.printer_names.specs.Placing.{AreOfDifferentPrinters, ArePlaced, AreUnplaced, IsFirstAtFault, IsOfTexts, IsPlacingFault, IsSaid, IsTaken, IsTold, IsUnnamed}
use Rattle.printer_names.specs.Names.{IsNthOf, Means, served_by}
use Rattle.printer_names.specs.declared.fault.PlacingFault.{PlacingFault}
use Rattle.printer_names.specs.declared.fault.PlacingFault.TheVariants.{Ambiguous, Memory, OutOfRange, Twice, Unknown}
use Rattle.printer_names.specs.declared.resolving.NameFault.TheVariants as name
use Rattle.printer_names.specs.declared.named.NamedPrinter.{NamedPrinter}

-- one more of these has one more of those
pub one_more : {X Y : Type 0} (R : X → Y → Type 0) (xs : List X) (i : ℕ) (other : X) (ys : List Y) (y : Y) → i < length xs → AllZip R (take i xs) ys → R (get_or xs i other) y → AllZip R (take (suc i) xs) (ys ++ y ∷ [])
one_more R [] i other ys y few all one = absurd (omega arith)
one_more R (x ∷ xs) zero other [] y few all one = (one, tt)
one_more R (x ∷ xs) zero other (z ∷ ys) y few all one = absurd all
one_more R (x ∷ xs) (suc i) other [] y few all one = absurd all
one_more R (x ∷ xs) (suc i) other (z ∷ ys) y few all one = (all.0, one_more R xs i other ys y (omega arith) all.1 one)

-- none of these is for the printer of one more, so all are of different printers
pub one_more_differs : (printers : List PlacedPrinter) (placed : PlacedPrinter) → AreOfDifferentPrinters printers → list_any (λ (one : PlacedPrinter). one.printer == placed.printer) printers ≡ false → AreOfDifferentPrinters (printers ++ placed ∷ [])
one_more_differs printers placed different none =
    all_pairs_push (λ (one other : PlacedPrinter). one.printer ≢ other.printer) printers placed different
    (λ k d few same.
    let found : list_any (λ (one : PlacedPrinter). one.printer == placed.printer) printers ≡ true = list_any_at (λ (one : PlacedPrinter). one.printer == placed.printer) printers k d few (eq-eqb (get_or printers k d).printer placed.printer same) in
    cc)

pub one_more_text : (c : C.Config) (texts : List ToldPlace) (i : ℕ) (item other : ToldPlace) (printers : List PlacedPrinter) (placed : PlacedPrinter) → i < length texts → get_or texts i other ≡ item → AllZip (IsTold c) (take i (map told_view texts)) printers → IsTold c (told_view item) placed → AllZip (IsTold c) (take (suc i) (map told_view texts)) (printers ++ placed ∷ [])
one_more_text c [] i item other printers placed few here all one = absurd (omega arith)
one_more_text c (t ∷ ts) zero item other [] placed few here all one = (subst (λ (x : ToldPlace). IsTold c (told_view x) placed) (sym here) one, tt)
one_more_text c (t ∷ ts) zero item other (p ∷ ps) placed few here all one = absurd all
one_more_text c (t ∷ ts) (suc i) item other [] placed few here all one = absurd all
one_more_text c (t ∷ ts) (suc i) item other (p ∷ ps) placed few here all one = (all.0, one_more_text c ts i item other ps placed (omega arith) here all.1 one)

pub all_texts : (c : C.Config) (texts : List ToldPlace) (i : ℕ) (printers : List PlacedPrinter) → length texts ≤ i → AllZip (IsTold c) (take i (map told_view texts)) printers → AllZip (IsTold c) (map told_view texts) printers
all_texts c texts i printers end all =
    let whole : take i (map told_view texts) ≡ map told_view texts = take_all i (map told_view texts) (rw (length-map texts told_view) end) in
    subst (λ (ts : List (ℕ × ℕ × List ℕ)). AllZip (IsTold c) ts printers) whole all

-- the texts' printers, and no word's
pub texts_alone : (c : C.Config) (told : List (ℕ × ℕ × List ℕ)) (printers : List PlacedPrinter) → AllZip (IsTold c) told printers → AreOfDifferentPrinters printers → ArePlaced c told [] printers
texts_alone c told printers all once =
    record { from_texts = printers; from_words = []; parts = sym (append-nil printers); texts = all; words = tt; once = once }

-- one more word's printer, for which none of those before it is
pub one_more_word : (c : C.Config) (told : List (ℕ × ℕ × List ℕ)) (words : List NamedPrinter) (i : ℕ) (other : NamedPrinter) (printers : List PlacedPrinter) (placed : PlacedPrinter) → i < length words → ArePlaced c told (take i words) printers → IsSaid c (get_or words i other) placed → list_any (λ (one : PlacedPrinter). one.printer == placed.printer) printers ≡ false → ArePlaced c told (take (suc i) words) (printers ++ placed ∷ [])
one_more_word c told words i other printers placed few all one none =
    record {
      from_texts = all.from_texts;
      from_words = all.from_words ++ placed ∷ [];
      parts = ap (λ (ps : List PlacedPrinter). ps ++ placed ∷ []) all.parts ∙ append_assoc all.from_texts all.from_words (placed ∷ []);
      texts = all.texts;
      words = one_more (IsSaid c) words i other all.from_words placed few all.words one;
      once = one_more_differs printers placed all.once none;
    }

-- what stands at one place of two lists
pub zip_at : {A B : Type 0} (R : A → B → Type 0) (xs : List A) (ys : List B) (i : ℕ) (d : A) → AllZip R xs ys → i < length xs → (y : B) × ((e : B) → get_or ys i e ≡ y) × R (get_or xs i d) y
zip_at R [] ys i d all few = absurd (omega arith)
zip_at R (x ∷ xs) [] i d all few = absurd all
zip_at R (x ∷ xs) (y ∷ ys) zero d all few = (y, (λ e. refl), all.0)
zip_at R (x ∷ xs) (y ∷ ys) (suc i) d all few = zip_at R xs ys i d all.1 (omega arith)

-- as many printers serve a queue up to a later one, or more
grown : (c : C.Config) (queue p q : ℕ) → (p ≤ q → served_by c queue p ≤ served_by c queue q) → (p ≡ suc q) ⊎ (p < suc q) → served_by c queue p ≤ served_by c queue (suc q)
grown c queue p q more (inl same) = subst (λ (n : ℕ). served_by c queue p ≤ served_by c queue n) same (omega arith)
grown c queue p q more (inr less) = let here = more (omega arith) in omega (arith, here)

served_grows : (c : C.Config) (queue p q : ℕ) → p ≤ q → served_by c queue p ≤ served_by c queue q
served_grows c queue zero zero le = omega arith
served_grows c queue (suc p) zero le = absurd (omega arith)
served_grows c queue p (suc q) le = grown c queue p q (served_grows c queue p q) (eq-or-lt_of_le le)

-- a later printer of the queue isn't the nth too
no_later : (c : C.Config) (queue nth p q : ℕ) → IsNthOf c queue nth p → IsNthOf c queue nth q → p < q → ⊥
no_later c queue nth p zero one other less = omega arith
no_later c queue nth p (suc q) one other less =
    let more = served_grows c queue p q (omega arith) in
    let serves : (C.queue_of c (suc q) == queue) ≡ true = eq-eqb (C.queue_of c (suc q)) queue other.serves in
    let place = rw serves at other.place in
    omega (arith, more, place, one.place)

one_nth : (c : C.Config) (queue nth p q : ℕ) → IsNthOf c queue nth p → IsNthOf c queue nth q → (p ≡ q) ⊎ ((p < q) ⊎ (q < p)) → p ≡ q
one_nth c queue nth p q one other (inl same) = same
one_nth c queue nth p q one other (inr (inl less)) = absurd (no_later c queue nth p q one other less)
one_nth c queue nth p q one other (inr (inr less)) = absurd (no_later c queue nth q p other one less)

-- a text is for one printer
told_one : (c : C.Config) (text : ℕ × ℕ × List ℕ) (one other : PlacedPrinter) → IsTold c text one → IsTold c text other → one.printer ≡ other.printer
told_one c text one other is too = one_nth c text.0 text.1 one.printer other.printer is.0 too.0 (cases_order one.printer other.printer)

-- what a text says, by its place
text_at : (texts : List ToldPlace) (i : ℕ) (item other : ToldPlace) → i < length texts → get_or texts i other ≡ item → get_or (map told_view texts) i (told_view other) ≡ told_view item
text_at texts i item other few here = get_or-map told_view texts i other (told_view other) few ∙ ap told_view here

-- a text says nothing of a printer, so the texts can't be had
pub unplaced_text : (c : C.Config) (texts : List ToldPlace) (i : ℕ) (item other : ToldPlace) → i < length texts → get_or texts i other ≡ item → ((placed : PlacedPrinter) → IsTold c (told_view item) placed → ⊥) → AreUnplaced c (map told_view texts)
unplaced_text c texts i item other few here none = λ all whole once.
    let text = text_at texts i item other few here in
    let last = zip_at (IsTold c) (map told_view texts) all i (told_view other) whole (rw (length-map texts told_view) few) in
    none last.0 (subst (λ (t : ℕ × ℕ × List ℕ). IsTold c t last.0) text last.2)

-- two texts are for one printer, so the texts can't be had
twice_at : (c : C.Config) (told : List (ℕ × ℕ × List ℕ)) (i : ℕ) (d : ℕ × ℕ × List ℕ) (printers : List PlacedPrinter) (placed : PlacedPrinter) → i < length told → AllZip (IsTold c) (take i told) printers → IsTold c (get_or told i d) placed → list_any (λ (one : PlacedPrinter). one.printer == placed.printer) printers ≡ true → AreUnplaced c told
twice_at c told i d printers placed few built one found = λ all whole once.
    let k = Any-from_list_any (λ (o : PlacedPrinter). o.printer == placed.printer) printers found in
    let taken : length (take i told) ≡ i = length-take-le i told (omega arith) in
    let long : length printers ≡ length (take i told) = AllZip-long (IsTold c) (take i told) printers built in
    let as_long : length all ≡ length told = AllZip-long (IsTold c) told all whole in
    let within = k.2 in
    let early : k.0 < i = omega (arith, within, long, taken) in
    let before = zip_at (IsTold c) (take i told) printers k.0 d built (omega (arith, early, taken)) in
    let again = zip_at (IsTold c) told all k.0 d whole (omega (arith, early)) in
    let last = zip_at (IsTold c) told all i d whole few in
    let text : IsTold c (get_or told k.0 d) before.0 = subst (λ (t : ℕ × ℕ × List ℕ). IsTold c t before.0) (get_or-take i told k.0 d early) before.2 in
    let there : before.0.printer ≡ again.0.printer = told_one c (get_or told k.0 d) before.0 again.0 text again.2 in
    let here : last.0.printer ≡ placed.printer = told_one c (get_or told i d) last.0 placed last.2 one in
    let same : k.1.printer ≡ placed.printer = eqb-true k.1.printer placed.printer k.4 in
    let is : k.1 ≡ before.0 = sym k.3 ∙ before.1 k.1 in
    let at : (get_or all k.0 k.1).printer ≡ (get_or all i k.1).printer =
    ap (λ (p : PlacedPrinter). p.printer) (again.1 k.1) ∙ (sym there ∙ (ap (λ (p : PlacedPrinter). p.printer) (sym is) ∙ (same ∙ (sym here ∙ ap (λ (p : PlacedPrinter). p.printer) (sym (last.1 k.1)))))) in
    once k.0 i k.1 early (omega (arith, as_long)) at

pub twice_told : (c : C.Config) (texts : List ToldPlace) (i : ℕ) (item other : ToldPlace) (printers : List PlacedPrinter) (placed : PlacedPrinter) → i < length texts → get_or texts i other ≡ item → AllZip (IsTold c) (take i (map told_view texts)) printers → IsTold c (told_view item) placed → list_any (λ (one : PlacedPrinter). one.printer == placed.printer) printers ≡ true → AreUnplaced c (map told_view texts)
twice_told c texts i item other printers placed few here built one found =
    let text = text_at texts i item other few here in
    twice_at c (map told_view texts) i (told_view other) printers placed (rw (length-map texts told_view) few) built
    (subst (λ (t : ℕ × ℕ × List ℕ). IsTold c t placed) (sym text) one) found

-- why the texts can't be placed is why texts and words can't
pub texts_fault : (c : C.Config) (told : List (ℕ × ℕ × List ℕ)) (words : List NamedPrinter) (fault : PlacingFault) → IsOfTexts c told fault → IsPlacingFault c told words fault
texts_fault c told words OutOfRange is = is
texts_fault c told words Memory is = tt
texts_fault c told words (Unknown word) is = absurd is
texts_fault c told words (Ambiguous word) is = absurd is
texts_fault c told words (Twice word) is = absurd is

-- a word at which it isn't gone on
pub first_fault : (c : C.Config) (told : List (ℕ × ℕ × List ℕ)) (words : List NamedPrinter) (i : ℕ) (other word : NamedPrinter) (printers : List PlacedPrinter) (IsWhy : List PlacedPrinter → Type 0) → i < length words → get_or words i other ≡ word → ArePlaced c told (take i words) printers → IsWhy printers → (0 < length words) × IsFirstAtFault c told words word IsWhy
first_fault c told words i other word printers IsWhy few here all why = (
  omega arith,
  record {
    before = take i words;
    behind = drop (suc i) words;
    parts = split_at words i other few ∙ ap (λ (w : NamedPrinter). take i words ++ w ∷ drop (suc i) words) here;
    printers = printers;
    placed = all;
    why = why;
  },
)

-- a word whose name means no printer
pub placing_fault : (c : C.Config) (told : List (ℕ × ℕ × List ℕ)) (words : List NamedPrinter) (i : ℕ) (other : NamedPrinter) (printers : List PlacedPrinter) (fault : PlacingFault) → i < length words → ArePlaced c told (take i words) printers → IsUnnamed c (get_or words i other) fault → IsPlacingFault c told words fault
placing_fault c told words i other printers (Unknown word) few all is =
    first_fault c told words i other word printers (λ _. Means c word.name.now (Err name.Unknown)) few (sym is.0) all
    (subst (λ (w : NamedPrinter). Means c w.name.now (Err name.Unknown)) (sym is.0) is.1)
placing_fault c told words i other printers (Ambiguous word) few all is =
    first_fault c told words i other word printers (λ _. Means c word.name.now (Err name.Ambiguous)) few (sym is.0) all
    (subst (λ (w : NamedPrinter). Means c w.name.now (Err name.Ambiguous)) (sym is.0) is.1)
placing_fault c told words i other printers (Twice word) few all is = absurd is
placing_fault c told words i other printers OutOfRange few all is = absurd is
placing_fault c told words i other printers Memory few all is = absurd is

-- a word whose printer has a place
pub taken_word : (c : C.Config) (told : List (ℕ × ℕ × List ℕ)) (words : List NamedPrinter) (i : ℕ) (other : NamedPrinter) (printers : List PlacedPrinter) (placed : PlacedPrinter) → i < length words → ArePlaced c told (take i words) printers → IsSaid c (get_or words i other) placed → list_any (λ (one : PlacedPrinter). one.printer == placed.printer) printers ≡ true → (0 < length words) × IsFirstAtFault c told words (get_or words i other) (IsTaken c (get_or words i other))
taken_word c told words i other printers placed few all one found =
    first_fault c told words i other (get_or words i other) printers (IsTaken c (get_or words i other)) few refl all (placed, one, found)
