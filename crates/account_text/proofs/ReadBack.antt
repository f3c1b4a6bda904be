-- What is written is read back.
use Rattle.std.proofs.Common.{◌≡◌, ◌<◌, ◌^◌, ℕ, Bool, true, false, List, [], ◌∷◌, ◌++◌, length, map, refl, sym, ◌∙◌, ap, arith, lit<}
use Rattle.std.specs.Prelude.{Option, Some, None, codes, unwrap_or}
use Rattle.std.specs.List.{list_all, AllByRecursion}
use Rattle.std.specs.Fmt.{decimal}
use Rattle.std.proofs.lemmas.Bool.{and_parts, leb-true}
use Rattle.std.proofs.lemmas.List.{append-nil}
use Rattle.std.proofs.Common.{append_assoc}
use Rattle.hex.specs.Hex.{IsBytes, encode_lower}
use Rattle.lpd_values.specs.Contents.{Contents}
use Rattle.lpd_values.specs.Digits.{count_of}
use Rattle.lpd_values.specs.Kept.{is_operand, is_print_list}
use Rattle.lpd_values.specs.Name.{is_data_name}
use Rattle.spool_history.specs.Events.{Act, Sheet, Turn, Event}
use Rattle.spool_history.specs.Events.Act.{Granted, Began, Put, FileEnded, Controlled, Aborted}
use Rattle.spool_history.specs.Events.Progress.{Going, Done, Ended}
use Rattle.spool_history.specs.Events.Turn.{Handed, Printed, Failed}
use Rattle.spool_history.specs.Events.Event.{Opened, OfJob, AtPrinter, Removed, Started, Closed}
use Rattle.account.specs.declared.entry.Outline.{Outline}
use Rattle.account_text.specs.Lines as W
use Rattle.account_text.specs.Meant.{MeansNothing}
use Rattle.account_text.specs.Lines.{event_line}
use Rattle.account_text.specs.Reading as R
use Rattle.account_text.specs.Reading.{event_of, event_by, words_of, is_u64, numbers_onto}
use Rattle.lpd_values.specs.Kept.{is_line_feed}
use Rattle.lpd_values.specs.Pieces.{is_kept}
use Rattle.account_text.specs.Told.{IsTold, IsAct, IsOutline, IsSheet, IsControl, IsU64, IsU32}
use Rattle.account_text.proofs.WordLaws.{IsWord, AreWords, joined, joined_unfed, spaced, spaced-cons, words_of-joined, decimal_word, hexed_word, shown_word, name_word, data_word, is_some_if, number_read, digest_read, operand_read, name_read}

-- numbers of 64 and of 32 bits
pub long_word : (n : ℕ) → IsU64 n → IsWord (decimal n)
long_word n h = decimal_word n h

pub short_word : (n : ℕ) → IsU32 n → IsWord (decimal n)
short_word n h = let p : 2 ^ 32 < 2 ^ 64 = lit< tt in decimal_word n (omega arith)

pub long_read : (n : ℕ) → IsU64 n → R.number_of (decimal n) ≡ Some n
long_read n h = number_read (2 ^ 64) n h h

pub short_read : (n : ℕ) → IsU32 n → R.short_of (decimal n) ≡ Some n
short_read n h = let p : 2 ^ 32 < 2 ^ 64 = lit< tt in number_read (2 ^ 32) n h (omega arith)

-- pages
abbrev pub outline_words : Outline → List (List ℕ)
outline_words page = decimal page.length ∷ encode_lower page.digest ∷ []

pub digest_word : (d : List ℕ) → length d ≡ 32 → IsBytes d → IsWord (encode_lower d)
digest_word d len h = hexed_word d (omega (arith, len)) h

outline_are : (page : Outline) → IsOutline page → AreWords (outline_words page)
outline_are page h = (short_word page.length h.0, (digest_word page.digest h.1 h.2, tt))

outline_read : (page : Outline) → IsOutline page → R.outline_in (outline_words page) ≡ Some page
outline_read page h =
    let a = short_read page.length h.0 in
    let b = digest_read page.digest h.1 h.2 in
    rw (a, b) refl

abbrev pub sheet_words : Sheet Outline → List (List ℕ)
sheet_words s = decimal s.job ∷ decimal s.place ∷ decimal s.file ∷ decimal s.number ∷ outline_words s.page

sheet_are : (s : Sheet Outline) → IsSheet s → AreWords (sheet_words s)
sheet_are s h = (long_word s.job h.0, (long_word s.place h.1, (long_word s.file h.2, (long_word s.number h.3, outline_are s.page h.4))))

sheet_read : (s : Sheet Outline) → IsSheet s → R.sheet_in (sheet_words s) ≡ Some s
sheet_read s h =
    let a = long_read s.job h.0 in
    let b = long_read s.place h.1 in
    let c = long_read s.file h.2 in
    let d = long_read s.number h.3 in
    let e = outline_read s.page h.4 in
    rw (a, b, c, d, e) refl

-- control files
names_are : (names : List (List ℕ)) → list_all is_data_name names ≡ true → AreWords names
names_are [] h = tt
names_are (n ∷ ns) h = (data_word n (and_parts _ _ h).0, names_are ns (and_parts _ _ h).1)

abbrev pub control_words : Contents → List (List ℕ)
control_words c = decimal c.number ∷ W.shown_as c.host ∷ W.shown_as c.user ∷ c.prints

operand_some : (s : List ℕ) → is_operand s ≡ true → 0 < length s
operand_some s h = let some = leb-true 1 (length s) (and_parts _ _ (and_parts _ _ h).0).0 in omega arith

control_are : (c : Contents) → IsControl c → AreWords (control_words c)
control_are c h = (
  (let p : 1000 < 2 ^ 64 = lit< tt in decimal_word c.number (let q = h.0 in omega (arith, q))),
  (
    shown_word c.host (operand_some c.host h.1.0),
    (shown_word c.user (operand_some c.user h.2.0), names_are c.prints (and_parts _ _ h.3).1),
  ),
)

control_read : (c : Contents) → IsControl c → R.control_in (control_words c) ≡ Some c
control_read c h =
    let a : R.job_number_of (decimal c.number) ≡ Some c.number = number_read 1000 c.number h.0 (let p : 1000 < 2 ^ 64 = lit< tt in let q = h.0 in omega (arith, q)) in
    let b = operand_read c.host h.1.0 h.1.1 in
    let d = operand_read c.user h.2.0 h.2.1 in
    let e : is_print_list c.prints ≡ true = h.3 in
    rw (a, b, d, e) refl

plains_spaced : (names : List (List ℕ)) → W.plains names ≡ spaced names
plains_spaced [] = refl
plains_spaced (n ∷ ns) = ap (λ (l : List ℕ). 32 ∷ (n ++ l)) (plains_spaced ns) ∙ spaced-cons n ns

-- numbers
numbers_spaced : (ns : List ℕ) → W.numbers ns ≡ spaced (map decimal ns)
numbers_spaced [] = refl
numbers_spaced (n ∷ ns) = ap (λ (l : List ℕ). 32 ∷ (decimal n ++ l)) (numbers_spaced ns) ∙ spaced-cons (decimal n) (map decimal ns)

numbers_are : (ns : List ℕ) → AllByRecursion IsU64 ns → AreWords (map decimal ns)
numbers_are [] h = tt
numbers_are (n ∷ ns) h = (long_word n h.0, numbers_are ns h.1)

numbers_read : (done ns : List ℕ) → AllByRecursion IsU64 ns → numbers_onto done (map decimal ns) ≡ Some (done ++ ns)
numbers_read done [] h = ap Some (sym (append-nil done))
numbers_read done (n ∷ ns) h =
    let is = is_some_if (is_u64 (decimal n)) (count_of (decimal n)) n (long_read n h.0) in
    let a : is_u64 (decimal n) ≡ true = is.0 in
    let b : count_of (decimal n) ≡ n = is.1 in
    let rest = numbers_read (done ++ n ∷ []) ns h.1 in
    rw (a, b) (rest ∙ ap Some (append_assoc done (n ∷ []) ns))

-- acts, behind the number of their job
abbrev pub whole_words : Bool → List ℕ
whole_words true = codes "whole"
whole_words false = codes "part"

whole_word : (b : Bool) → IsWord (whole_words b)
whole_word true = (lit< tt, refl)
whole_word false = (lit< tt, refl)

whole_read : (b : Bool) → R.wholly_of (whole_words b) ≡ Some b
whole_read true = refl
whole_read false = refl

abbrev pub act_words : ℕ → Act Outline → List (List ℕ)
act_words job Granted = codes "granted" ∷ decimal job ∷ []
act_words job (Began name count) = codes "began" ∷ decimal job ∷ name ∷ decimal count ∷ []
act_words job (Put file number page) = codes "put" ∷ decimal job ∷ decimal file ∷ decimal number ∷ outline_words page
act_words job (FileEnded file whole) = codes "ended" ∷ decimal job ∷ decimal file ∷ whole_words whole ∷ []
act_words job (Controlled control whole) = codes "controlled" ∷ decimal job ∷ whole_words whole ∷ control_words control
act_words job Aborted = codes "aborted" ∷ decimal job ∷ []

abbrev pub turn_words : Turn → List (List ℕ) → List (List ℕ)
turn_words Handed words = codes "handed" ∷ words
turn_words (Printed Going) words = codes "printed" ∷ codes "going" ∷ words
turn_words (Printed Done) words = codes "printed" ∷ codes "done" ∷ words
turn_words (Printed Ended) words = codes "printed" ∷ codes "ended" ∷ words
turn_words Failed words = codes "failed" ∷ words

-- the words of the line of an event
abbrev pub event_words : Event Outline → List (List ℕ)
event_words (Opened job sender queue) = codes "opened" ∷ decimal job ∷ decimal sender ∷ decimal queue ∷ []
event_words (OfJob job did) = act_words job did
event_words (AtPrinter printer sheet turn) = turn_words turn (decimal printer ∷ sheet_words sheet)
event_words (Removed queue jobs) = codes "removed" ∷ decimal queue ∷ map decimal jobs
event_words (Started queue) = codes "started" ∷ decimal queue ∷ []
event_words Closed = codes "closed" ∷ []

-- its line is these words with one space between two
control_joined : (w : List ℕ) (c : Contents) → w ++ W.control_fields c ≡ w ++ spaced (control_words c)
control_joined w c =
    ap (λ (l : List ℕ). w ++ (32 ∷ (decimal c.number ++ (32 ∷ (W.shown_as c.host ++ l)))))
    (ap (λ (l : List ℕ). 32 ∷ (W.shown_as c.user ++ l)) (plains_spaced c.prints) ∙ spaced-cons (W.shown_as c.user) c.prints)

act_joined : (job : ℕ) (a : Act Outline) → event_line (OfJob job a) ≡ joined (act_words job a)
act_joined job Granted = refl
act_joined job (Began name count) = refl
act_joined job (Put file number page) = refl
act_joined job (FileEnded file true) = refl
act_joined job (FileEnded file false) = refl
act_joined job (Controlled control true) = ap (λ (l : List ℕ). codes "controlled" ++ (32 ∷ (decimal job ++ l))) (control_joined (codes " whole") control)
act_joined job (Controlled control false) = ap (λ (l : List ℕ). codes "controlled" ++ (32 ∷ (decimal job ++ l))) (control_joined (codes " part") control)
act_joined job Aborted = refl

pub event_joined : (e : Event Outline) → event_line e ≡ joined (event_words e)
event_joined (Opened job sender queue) = refl
event_joined (OfJob job did) = act_joined job did
event_joined (AtPrinter printer sheet Handed) = refl
event_joined (AtPrinter printer sheet (Printed Going)) = refl
event_joined (AtPrinter printer sheet (Printed Done)) = refl
event_joined (AtPrinter printer sheet (Printed Ended)) = refl
event_joined (AtPrinter printer sheet Failed) = refl
event_joined (Removed queue jobs) =
    ap (λ (l : List ℕ). codes "removed" ++ l) (ap (λ (l : List ℕ). 32 ∷ (decimal queue ++ l)) (numbers_spaced jobs) ∙ spaced-cons (decimal queue) (map decimal jobs))
event_joined (Started queue) = refl
event_joined Closed = refl

act_are : (job : ℕ) (a : Act Outline) → IsU64 job → IsAct a → AreWords (act_words job a)
act_are job Granted j h = ((lit< tt, refl), (long_word job j, tt))
act_are job (Began name count) j h = ((lit< tt, refl), (long_word job j, (name_word name h.0, (long_word count h.1, tt))))
act_are job (Put file number page) j h = ((lit< tt, refl), (long_word job j, (long_word file h.0, (long_word number h.1, outline_are page h.2))))
act_are job (FileEnded file whole) j h = ((lit< tt, refl), (long_word job j, (long_word file h, (whole_word whole, tt))))
act_are job (Controlled control whole) j h = ((lit< tt, refl), (long_word job j, (whole_word whole, control_are control h)))
act_are job Aborted j h = ((lit< tt, refl), (long_word job j, tt))

turn_are : (turn : Turn) (words : List (List ℕ)) → AreWords words → AreWords (turn_words turn words)
turn_are Handed words h = ((lit< tt, refl), h)
turn_are (Printed Going) words h = ((lit< tt, refl), ((lit< tt, refl), h))
turn_are (Printed Done) words h = ((lit< tt, refl), ((lit< tt, refl), h))
turn_are (Printed Ended) words h = ((lit< tt, refl), ((lit< tt, refl), h))
turn_are Failed words h = ((lit< tt, refl), h)

pub event_are : (e : Event Outline) → IsTold e → AreWords (event_words e)
event_are (Opened job sender queue) h = ((lit< tt, refl), (long_word job h.0, (short_word sender h.1, (short_word queue h.2, tt))))
event_are (OfJob job did) h = act_are job did h.0 h.1
event_are (AtPrinter printer sheet turn) h = turn_are turn (decimal printer ∷ sheet_words sheet) (short_word printer h.0, sheet_are sheet h.1)
event_are (Removed queue jobs) h = ((lit< tt, refl), (short_word queue h.0, numbers_are jobs h.1))
event_are (Started queue) h = ((lit< tt, refl), (short_word queue h, tt))
event_are Closed h = ((lit< tt, refl), tt)

-- and they tell of the event
act_read : (job : ℕ) (a : Act Outline) → IsU64 job → IsAct a → event_by (act_words job a) ≡ Some (OfJob job a)
act_read job Granted j h = let a = long_read job j in rw a refl
act_read job (Began name count) j h =
    let a = long_read job j in
    let b = name_read name h.0 in
    let c = long_read count h.1 in
    rw (a, b, c) refl
act_read job (Put file number page) j h =
    let a = long_read job j in
    let b = long_read file h.0 in
    let c = long_read number h.1 in
    let d = outline_read page h.2 in
    rw (a, b, c, d) refl
act_read job (FileEnded file whole) j h =
    let a = long_read job j in
    let b = long_read file h in
    let c = whole_read whole in
    rw (a, b, c) refl
act_read job (Controlled control whole) j h =
    let a = long_read job j in
    let b = whole_read whole in
    let c = control_read control h in
    rw (a, b, c) refl
act_read job Aborted j h = let a = long_read job j in rw a refl

turn_read : (p : ℕ) (s : Sheet Outline) (turn : Turn) → IsU32 p → IsSheet s → event_by (event_words (AtPrinter p s turn)) ≡ Some (AtPrinter p s turn)
turn_read p s Handed h k = let a = short_read p h in let b = sheet_read s k in rw (a, b) refl
turn_read p s (Printed Going) h k = let a = short_read p h in let b = sheet_read s k in rw (a, b) refl
turn_read p s (Printed Done) h k = let a = short_read p h in let b = sheet_read s k in rw (a, b) refl
turn_read p s (Printed Ended) h k = let a = short_read p h in let b = sheet_read s k in rw (a, b) refl
turn_read p s Failed h k = let a = short_read p h in let b = sheet_read s k in rw (a, b) refl

pub event_read : (e : Event Outline) → IsTold e → event_by (event_words e) ≡ Some e
event_read (Opened job sender queue) h =
    let a = long_read job h.0 in
    let b = short_read sender h.1 in
    let c = short_read queue h.2 in
    rw (a, b, c) refl
event_read (OfJob job did) h = act_read job did h.0 h.1
event_read (AtPrinter printer sheet turn) h = turn_read printer sheet turn h.0 h.1
event_read (Removed queue jobs) h =
    let a = short_read queue h.0 in
    let b = numbers_read [] jobs h.1 in
    rw (a, b) refl
event_read (Started queue) h = let a = short_read queue h in rw a refl
event_read Closed h = refl

pub line_is_read_back : (e : Event Outline) → IsTold e → event_of (event_line e) ≡ Some e
line_is_read_back e h =
    ap event_of (event_joined e) ∙ (ap event_by (words_of-joined (event_words e) (event_are e h)) ∙ event_read e h)

-- there is no line feed in it
pub line_is_unfed : (e : Event Outline) → IsTold e → list_all (is_kept is_line_feed) (event_line e) ≡ true
line_is_unfed e h = ap (list_all (is_kept is_line_feed)) (event_joined e) ∙ joined_unfed (event_words e) (event_are e h)

-- two events that entries tell of never have one line
pub lines_are_apart : (a b : Event Outline) → IsTold a → IsTold b → event_line a ≡ event_line b → a ≡ b
lines_are_apart a b h k e = ap (λ (o : Option (Event Outline)). unwrap_or o a) (sym (line_is_read_back a h) ∙ (ap event_of e ∙ line_is_read_back b k))

-- what no words tell, or tell of another line, no event has
pub nothing_read : (line : List ℕ) → event_of line ≡ None → MeansNothing line
nothing_read line e v told is = cc (sym (ap event_of is ∙ line_is_read_back v told) ∙ e)

pub other_line : (line : List ℕ) (e : Event Outline) → event_of line ≡ Some e → (line ≡ event_line e → ⊥) → MeansNothing line
other_line line e r never v told is =
    let same : v ≡ e = ap (λ (o : Option (Event Outline)). unwrap_or o v) (sym (ap event_of is ∙ line_is_read_back v told) ∙ r) in
    never (is ∙ ap event_line same)
