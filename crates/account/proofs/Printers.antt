-- Printers, as one more event leaves them, and as a base keeps them.
use Rattle.std.proofs.Common.{◌≡◌, ◌≢◌, ◌==◌, ℕ, zero, suc, ◌+◌, ◌-◌, ◌<◌, Bool, true, false, cond, List, [], ◌∷◌, ◌++◌, length, get_or, set, map, refl, sym, ◌∙◌, ap, arith}
use Rattle.std.specs.Prelude.{count_by}
use Rattle.std.specs.List.{fold}
use Rattle.std.proofs.lemmas.List.{get_or-set_other, get_or-set_same, get_or_append_left, get_or_at, length-append, length-set, map-append, same_lists}
use Rattle.std.proofs.lemmas.Bool.Decides.{nat_tests}
use Rattle.config_values.specs.Config.{Config, printer_count, queue_of}
use Rattle.spool_history.specs.Base.{Base}
use Rattle.spool_history.specs.Events.{Event, Sheet, Turn}
use Rattle.spool_history.specs.Events.Event.{Opened, OfJob, AtPrinter, Removed, Started, Closed}
use Rattle.spool_history.specs.Events.Turn.{Handed, Printed, Failed}
use Rattle.spool_history.specs.Now as N
use Rattle.spool_history.specs.Now.{now, printer_of, up_to}
use Rattle.account.specs.declared.after.Printer.{Printer}
use Rattle.account.specs.declared.entry.Outline.{Outline}
use Rattle.spool_history.specs.Said.{is_closed, is_failed, openings}
use Rattle.spool_history.specs.Rotated.{rotated}
use Rattle.account.specs.After.{no_printer, printer_in, printers_after, started, stopped_at, with_stop}
use Rattle.account.proofs.Mapped.{IsMapped, mapped_length, mapped_more}

length_up_to : {P : Type 0} (f : ℕ → P) (n : ℕ) → length (map f (up_to n)) ≡ n
length_up_to f zero = refl
length_up_to f (suc n) =
    let e = ap length (map-append f (up_to n) (suc n ∷ [])) in
    let a = length-append (map f (up_to n)) (f (suc n) ∷ []) in
    let i = length_up_to f n in omega (arith, e, a, i)

get_last : {P : Type 0} (f : ℕ → P) (n i : ℕ) (d : P) (b : Bool) → (i == n) ≡ b → i < suc n → (i < n → get_or (map f (up_to n)) i d ≡ f (suc i)) → get_or (map f (up_to n) ++ f (suc n) ∷ []) i d ≡ f (suc i)
get_last f n i d true e lt ih =
    let same : i ≡ n = grind (arith, nat_tests) in
    get_or_at (map f (up_to n)) (f (suc n)) [] d i (length_up_to f n ∙ sym same) ∙ ap (λ (m : ℕ). f (suc m)) (sym same)
get_last f n i d false e lt ih =
    let less : i < n = grind (arith, nat_tests) in
    get_or_append_left (map f (up_to n)) (f (suc n) ∷ []) d i (let l = length_up_to f n in omega arith) ∙ ih less

get_up_to : {P : Type 0} (f : ℕ → P) (n i : ℕ) (d : P) → i < n → get_or (map f (up_to n)) i d ≡ f (suc i)
get_up_to f zero i d lt = absurd (omega arith)
get_up_to {P} f (suc n) i d lt =
    ap (λ (l : List P). get_or l i d) (map-append f (up_to n) (suc n ∷ [])) ∙ get_last f n i d (i == n) refl lt (get_up_to f n i d)

-- where one of them changes
set_up_to : {P : Type 0} (f g : ℕ → P) (n p : ℕ) (x : P) → (p < n → g (suc p) ≡ x) → ((q : ℕ) → q ≢ suc p → g q ≡ f q) → map g (up_to n) ≡ set (map f (up_to n)) p x
set_up_to {P} f g n p x is other =
    let m : length (map g (up_to n)) ≡ n = length_up_to g n in
    let l : length (map f (up_to n)) ≡ n = length_up_to f n in
    let s : length (set (map f (up_to n)) p x) ≡ n = length-set (map f (up_to n)) p x ∙ l in
    same_lists (map g (up_to n)) (set (map f (up_to n)) p x) (m ∙ sym s) (λ k d below.
    get_up_to g n k d (omega arith) ∙ at k d (omega arith) (k == p) refl)
  where
    at : (k : ℕ) (d : P) → k < n → (b : Bool) → (k == p) ≡ b → g (suc k) ≡ get_or (set (map f (up_to n)) p x) k d
    at k d below true e =
        let same : k ≡ p = grind (arith, nat_tests) in
        ap (λ (i : ℕ). g (suc i)) same ∙ (is (omega arith) ∙ sym (ap (λ (i : ℕ). get_or (set (map f (up_to n)) p x) i d) same ∙ get_or-set_same (map f (up_to n)) p x d (let l = length_up_to f n in omega arith)))
    at k d below false e =
        let ne : k ≢ p = grind (arith, nat_tests) in
        let ne' : suc k ≢ suc p = grind (arith, nat_tests) in
        other (suc k) ne' ∙ sym (get_or-set_other (map f (up_to n)) p k x d ne ∙ get_up_to f n k d below)

map_up_to : {P : Type 0} (f g : ℕ → P) (n : ℕ) → ((p : ℕ) → f (suc p) ≡ g (suc p)) → map f (up_to n) ≡ map g (up_to n)
map_up_to f g zero e = refl
map_up_to {P} f g (suc n) e =
    map-append f (up_to n) (suc n ∷ [])
    ∙ (ap (λ (l : List P). l ++ f (suc n) ∷ []) (map_up_to f g n e)
    ∙ (ap (λ (x : P). map g (up_to n) ++ x ∷ []) (e n) ∙ sym (map-append g (up_to n) (suc n ∷ []))))

map_same : {X Y : Type 0} (f g : X → Y) (xs : List X) → ((x : X) → f x ≡ g x) → map f xs ≡ map g xs
map_same f g [] e = refl
map_same f g (x ∷ xs) e = cc (e x, map_same f g xs e)

map_twice : {X Y : Type 0} (f : X → Y) (g : Y → Y) (k : X → Y) (xs : List X) → ((x : X) → k x ≡ g (f x)) → map k xs ≡ map g (map f xs)
map_twice f g k [] e = refl
map_twice f g k (x ∷ xs) e = cc (e x, map_twice f g k xs e)

-- the next printer is of the queue that is started, or it isn't

pub started_here : (q : ℕ) (xs ys zs : List Printer) (i : ℕ) → IsMapped (started q) xs ys i → i < length xs → q ≡ (get_or ys i no_printer).queue → zs ≡ set ys i (with_stop false (get_or ys i no_printer)) → IsMapped (started q) xs zs (i + 1)
started_here q xs ys zs i m lt e is =
    let x = get_or ys i no_printer in
    let yes' : (q == x.queue) ≡ true = grind (arith, nat_tests) in
    let n : length ys ≡ length xs = mapped_length (started q) xs ys i m (omega arith) in
    mapped_more (started q) xs ys zs i no_printer m lt (omega arith) (is ∙ ap (λ (b : Bool). set ys i (cond b (with_stop false x) x)) (sym yes'))

pub started_elsewhere : (q : ℕ) (xs ys zs : List Printer) (i : ℕ) → IsMapped (started q) xs ys i → i < length xs → (q ≡ (get_or ys i no_printer).queue → ⊥) → zs ≡ set ys i (get_or ys i no_printer) → IsMapped (started q) xs zs (i + 1)
started_elsewhere q xs ys zs i m lt e is =
    let x = get_or ys i no_printer in
    let ne : q ≢ x.queue = e in
    let no' : (q == x.queue) ≡ false = grind (arith, nat_tests) in
    let n : length ys ≡ length xs = mapped_length (started q) xs ys i m (omega arith) in
    mapped_more (started q) xs ys zs i no_printer m lt (omega arith) (is ∙ ap (λ (b : Bool). set ys i (cond b (with_stop false x) x)) (sym no'))

-- what one more event makes of the printers

failed_other : (c : Config) (b : Base) (h : List (Event Outline)) (r : ℕ) (sheet : Sheet Outline) (turn : Turn) (p : ℕ) (t : Bool) → (r == p) ≡ t → p ≢ r → printer_in c b (AtPrinter r sheet turn ∷ h) p ≡ printer_in c b h p
failed_other c b h r sheet turn p true e ne = absurd (ne (grind (arith, nat_tests)))
failed_other c b h r sheet turn p false e ne = rw e refl

failed_here : (c : Config) (b : Base) (h : List (Event Outline)) (r : ℕ) (sheet : Sheet Outline) (t : Bool) → (r == r) ≡ t → printer_in c b (AtPrinter r sheet Failed ∷ h) r ≡ with_stop true (printer_in c b h r)
failed_here c b h r sheet true e = rw e refl
failed_here c b h r sheet false e = absurd (grind (arith, nat_tests))

failed_more : (c : Config) (b : Base) (h : List (Event Outline)) (n r : ℕ) (sheet : Sheet Outline) → map (printer_in c b (AtPrinter r sheet Failed ∷ h)) (up_to n) ≡ stopped_at r (map (printer_in c b h) (up_to n))
failed_more c b h n zero sheet =
    map_up_to (printer_in c b (AtPrinter 0 sheet Failed ∷ h)) (printer_in c b h) n (λ p. failed_other c b h 0 sheet Failed (suc p) (0 == suc p) refl (λ (e : suc p ≡ 0). omega arith))
failed_more c b h n (suc r) sheet =
    let e : (suc r == 0) ≡ false = grind (arith, nat_tests) in
    let o : suc r - 1 ≡ r = omega arith in
    rw (e, o) (set_up_to (printer_in c b h) (printer_in c b (AtPrinter (suc r) sheet Failed ∷ h)) n r (with_stop true (get_or (map (printer_in c b h) (up_to n)) r no_printer))
    (λ lt. failed_here c b h (suc r) sheet (suc r == suc r) refl ∙ ap (with_stop true) (sym (get_up_to (printer_in c b h) n r no_printer lt)))
    (λ q ne. failed_other c b h (suc r) sheet Failed q (suc r == q) refl ne))

unchanged_by : (c : Config) (b : Base) (h : List (Event Outline)) (r : ℕ) (sheet : Sheet Outline) (turn : Turn) → is_failed turn ≡ false → (p : ℕ) (t : Bool) → (r == p) ≡ t → printer_in c b (AtPrinter r sheet turn ∷ h) p ≡ printer_in c b h p
unchanged_by c b h r sheet turn stays p true e = rw (e, stays) refl
unchanged_by c b h r sheet turn stays p false e = rw e refl

started_one : (c : Config) (b : Base) (h : List (Event Outline)) (q p : ℕ) (t : Bool) → (q == queue_of c p) ≡ t → printer_in c b (Started q ∷ h) p ≡ started q (printer_in c b h p)
started_one c b h q p true e = rw e refl
started_one c b h q p false e = rw e refl

pub printers_more : (c : Config) (b : Base) (e : Event Outline) (h : List (Event Outline)) (n : ℕ) → map (printer_in c b (e ∷ h)) (up_to n) ≡ printers_after e (map (printer_in c b h) (up_to n))
printers_more c b (Opened j s q) h n = refl
printers_more c b (OfJob j act) h n = refl
printers_more c b (AtPrinter r sheet Handed) h n =
    map_same (printer_in c b (AtPrinter r sheet Handed ∷ h)) (printer_in c b h) (up_to n) (λ p. unchanged_by c b h r sheet Handed refl p (r == p) refl)
printers_more c b (AtPrinter r sheet (Printed progress)) h n =
    map_same (printer_in c b (AtPrinter r sheet (Printed progress) ∷ h)) (printer_in c b h) (up_to n) (λ p. unchanged_by c b h r sheet (Printed progress) refl p (r == p) refl)
printers_more c b (AtPrinter r sheet Failed) h n = failed_more c b h n r sheet
printers_more c b (Removed q jobs) h n = refl
printers_more c b (Started q) h n =
    map_twice (printer_in c b h) (started q) (printer_in c b (Started q ∷ h)) (up_to n) (λ p. started_one c b h q p (q == queue_of c p) refl)
printers_more c b Closed h n = refl

-- what is kept of them

pub stops_same : (c : Config) (b : Base) (h : List (Event Outline)) (xs : List ℕ) → map (λ (p : Printer). p.stopped) (map (printer_in c b h) xs) ≡ map (λ (p : N.Printer Outline). p.stopped) (map (printer_of c b h) xs)
stops_same c b h [] = refl
stops_same c b h (x ∷ xs) = cc (stops_same c b h xs)

counted_from : (c : Config) (b : Base) (h : List (Event Outline)) (xs : List ℕ) (n : ℕ) → fold (λ (a : ℕ) (p : Printer). a + cond p.stopped 1 0) n (map (printer_in c b h) xs) ≡ fold (λ (a : ℕ) (p : N.Printer Outline). a + cond p.stopped 1 0) n (map (printer_of c b h) xs)
counted_from c b h [] n = refl
counted_from c b h (x ∷ xs) n = counted_from c b h xs (n + cond (printer_in c b h x).stopped 1 0)

pub count_same : (c : Config) (b : Base) (h : List (Event Outline)) (xs : List ℕ) → count_by (λ (p : Printer). p.stopped) (map (printer_in c b h) xs) ≡ count_by (λ (p : N.Printer Outline). p.stopped) (map (printer_of c b h) xs)
count_same c b h xs = counted_from c b h xs 0

same_base : (b c : Base) → b.accepted ≡ c.accepted → b.reserved ≡ c.reserved → b.closed ≡ c.closed → b.stopped ≡ c.stopped → b ≡ c
same_base b c accepted reserved closed stopped =
    ap (λ (n : ℕ). record b { accepted = n }) accepted
    ∙ (ap (λ (n : ℕ). record b { accepted = c.accepted; reserved = n }) reserved
    ∙ (ap (λ (t : Bool). record c { closed = t; stopped = b.stopped }) closed
    ∙ ap (λ (l : List Bool). record c { stopped = l }) stopped))

-- a base is the one after a history that keeps of the printers what is known of them
pub base_is : (c : Config) (b : Base) (h : List (Event Outline)) (printers : List Printer) (left : Base) → printers ≡ map (printer_in c b h) (up_to (printer_count c))
    → left.accepted ≡ b.accepted + length (openings h) → left.closed ≡ is_closed b h
    → left.reserved ≡ count_by (λ (p : Printer). p.stopped) printers → left.stopped ≡ map (λ (p : Printer). p.stopped) printers
    → left ≡ rotated (now c b h)
base_is c b h printers left are accepted closed reserved stopped =
    let ups = up_to (printer_count c) in
    same_base left (rotated (now c b h)) accepted
    (reserved ∙ (ap (λ (l : List Printer). count_by (λ (p : Printer). p.stopped) l) are ∙ count_same c b h ups))
    closed
    (stopped ∙ (ap (λ (l : List Printer). map (λ (p : Printer). p.stopped) l) are ∙ stops_same c b h ups))
