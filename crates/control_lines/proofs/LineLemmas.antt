-- What a line means, by its first word.
use Rattle.std.proofs.Common.{◌≡◌, ◌++◌, ◌<◌, ◌≤◌, ◌⊎◌, ◌^◌, ℕ, true, List, [], ◌∷◌, Option, Some, None, inl, inr, refl, sym, ◌∙◌, ap, subst, arith, cond, length, length-append, lit<, lit≤, ◌+◌}
use Rattle.std.specs.Prelude.{codes, ◌==◌, Result, Ok, Err, IsTrue}
use Rattle.std.specs.Fmt.{decimal}
use Rattle.std.specs.List.{list_all}
use Rattle.std.proofs.lemmas.Bool.{and_parts, leb-true}
use Rattle.lpd_values.proofs.DigitLemmas.{decimal_is}
use Rattle.std.proofs.lemmas.Bool.Decides.{nat_tests}
use Rattle.std.proofs.lemmas.Fmt.{decimal_injective, length-decimal-le}
use Rattle.lpd_values.proofs.PieceLemmas.{list_all-wider}
use Rattle.lpd_values.specs.Kinds.{is_digit, is_word_octet}
use Rattle.lpd_values.specs.Pieces.{is_kept}
use Rattle.control_lines.specs.Commands.{IsQueueOf, IsSayable, Means, Reads, Refuses, verb_of, written}
use Rattle.std.specs.Prelude.{replicate}
use Rattle.control_lines.specs.Laws.{MostIsReached}
use Rattle.control_lines.specs.Operands.{HasNoSpace, IsCut, is_blank, is_queue_name, is_whom}
use Rattle.control_lines.specs.Verbs.{verb_word}
use Rattle.control_lines.specs.declared.verb.Verb.{Verb}
use Rattle.control_lines.specs.declared.verb.Verb.TheVariants as verb
use Rattle.std.specs.Result.{IsErrAnd}
use Rattle.control_lines.specs.declared.command.CommandFault.{CommandFault}
use Rattle.control_lines.specs.declared.command.CommandFault.TheVariants.{Unknown, Memory}
use Rattle.control_lines.specs.declared.command.ControlCommand.{ControlCommand}
use Rattle.control_lines.specs.declared.command.ControlCommand.TheVariants.{Status, Start, Hold, Release, Remove, CancelJob, CancelFile, Resend, ResendAll, ResendQueue, Rotate, Stop, StopNow}

-- what follows the first word of a command and a space
abbrev pub operand_of : ControlCommand → Option (List ℕ)
operand_of Status = None
operand_of (Start queue) = Some queue
operand_of (Hold queue) = Some queue
operand_of (Release queue) = Some queue
operand_of (Remove queue whom) = Some (queue ++ 32 ∷ whom)
operand_of (CancelJob number) = Some (codes "job " ++ decimal number)
operand_of (CancelFile number) = Some (codes "file " ++ decimal number)
operand_of (Resend number) = Some (decimal number)
operand_of ResendAll = Some (codes "all")
operand_of (ResendQueue queue) = Some (codes "all " ++ queue)
operand_of Rotate = None
operand_of (Stop None) = None
operand_of (Stop (Some seconds)) = Some (decimal seconds)
operand_of StopNow = Some (codes "now")

-- a word, alone or with what follows it and a space
abbrev pub joined : List ℕ → Option (List ℕ) → List ℕ
joined word None = word
joined word (Some rest) = word ++ 32 ∷ rest

parts : (c : ControlCommand) → written c ≡ joined (verb_word (verb_of c)) (operand_of c)
parts Status = refl
parts (Start queue) = refl
parts (Hold queue) = refl
parts (Release queue) = refl
parts (Remove queue whom) = refl
parts (CancelJob number) = refl
parts (CancelFile number) = refl
parts (Resend number) = refl
parts ResendAll = refl
parts (ResendQueue queue) = refl
parts Rotate = refl
parts (Stop None) = refl
parts (Stop (Some seconds)) = refl
parts StopNow = refl

pub verb_has_no_space : (v : Verb) → HasNoSpace (verb_word v)
verb_has_no_space verb.Status = refl
verb_has_no_space verb.Start = refl
verb_has_no_space verb.Hold = refl
verb_has_no_space verb.Release = refl
verb_has_no_space verb.Remove = refl
verb_has_no_space verb.Cancel = refl
verb_has_no_space verb.Resend = refl
verb_has_no_space verb.Rotate = refl
verb_has_no_space verb.Stop = refl

-- the first octet, or 0 where there is none
abbrev first : List ℕ → ℕ
first [] = 0
first (b ∷ bs) = b

-- all but the first octet
abbrev others : List ℕ → List ℕ
others [] = []
others (b ∷ bs) = bs

space_is_no_word : (b : ℕ) (bs : List ℕ) → HasNoSpace (b ∷ bs) → b ≡ 32 → ⊥
space_is_no_word b bs h e = let g = (and_parts (is_kept is_blank b) _ h).0 in grind (arith, nat_tests)

-- two texts without spaces, each before a space, are the same if all is
pub same_cut : (a b x y : List ℕ) → HasNoSpace a → HasNoSpace b → a ++ 32 ∷ x ≡ b ++ 32 ∷ y → (a ≡ b) × (x ≡ y)
same_cut [] [] x y p q e = (refl, ap others e)
same_cut [] (c ∷ b) x y p q e = absurd (space_is_no_word c b q (sym (ap first e)))
same_cut (c ∷ a) [] x y p q e = absurd (space_is_no_word c a p (ap first e))
same_cut (c ∷ a) (d ∷ b) x y p q e =
    let letter : c ≡ d = ap first e in
    let more = same_cut a b x y (and_parts (is_kept is_blank c) _ p).1 (and_parts (is_kept is_blank d) _ q).1 (ap others e) in
    let head = more.0 in
    (cc, more.1)

-- a text without spaces has none
pub no_cut : (a x line : List ℕ) → HasNoSpace line → line ≡ a ++ 32 ∷ x → ⊥
no_cut [] x [] h e = cc
no_cut [] x (b ∷ bs) h e = space_is_no_word b bs h (ap first e)
no_cut (c ∷ a) x [] h e = cc
no_cut (c ∷ a) x (b ∷ bs) h e = no_cut a x bs (and_parts (is_kept is_blank b) _ h).1 (ap others e)

-- a word and what follows it are the same if all is
same_joined : (a b : List ℕ) (x y : Option (List ℕ)) → HasNoSpace a → HasNoSpace b → joined a x ≡ joined b y → (a ≡ b) × (x ≡ y)
same_joined a b None None p q e = (e, refl)
same_joined a b None (Some y) p q e = absurd (no_cut b y a p e)
same_joined a b (Some x) None p q e = absurd (no_cut a x b q (sym e))
same_joined a b (Some x) (Some y) p q e = let r = same_cut a b x y p q e in (r.0, ap (λ (t : List ℕ). Some t) r.1)

-- the verb of a word, by its letters
abbrev verb_by : (a b c d : ℕ) → Verb
verb_by a b c d =
    cond (a == 99) verb.Cancel (
    cond (a == 104) verb.Hold (
    cond (a == 115) (cond (c == 111) verb.Stop (cond (d == 114) verb.Start verb.Status)) (
    cond (b == 111) verb.Rotate (cond (c == 108) verb.Release (cond (c == 115) verb.Resend verb.Remove)))))

abbrev verb_at : List ℕ → Verb
verb_at s = verb_by (first s) (first (others s)) (first (others (others s))) (first (others (others (others s))))

verb_at-word : (v : Verb) → verb_at (verb_word v) ≡ v
verb_at-word verb.Status = refl
verb_at-word verb.Start = refl
verb_at-word verb.Hold = refl
verb_at-word verb.Release = refl
verb_at-word verb.Remove = refl
verb_at-word verb.Cancel = refl
verb_at-word verb.Resend = refl
verb_at-word verb.Rotate = refl
verb_at-word verb.Stop = refl

same_verb : (v w : Verb) → verb_word v ≡ verb_word w → v ≡ w
same_verb v w e = sym (verb_at-word v) ∙ (ap verb_at e ∙ verb_at-word w)

-- the operand is this queue's name, and the command that of it
abbrev NamesIt : (List ℕ → ControlCommand) → Option (List ℕ) → ControlCommand → Type 0
NamesIt make operand c =
    (queue : List ℕ) × (operand ≡ Some queue) × (c ≡ make queue) × IsTrue (is_queue_name queue)

-- a command of this verb with this operand, and why
abbrev MeansAt : Verb → Option (List ℕ) → ControlCommand → Type 0
MeansAt verb.Status operand c = (operand ≡ None) × (c ≡ Status)
MeansAt verb.Start operand c = NamesIt (λ q. Start q) operand c
MeansAt verb.Hold operand c = NamesIt (λ q. Hold q) operand c
MeansAt verb.Release operand c = NamesIt (λ q. Release q) operand c
MeansAt verb.Remove operand c =
    (queue : List ℕ) × (whom : List ℕ) × (operand ≡ Some (queue ++ 32 ∷ whom)) × (c ≡ Remove queue whom)
    × IsTrue (is_queue_name queue) × IsTrue (is_whom whom)
MeansAt verb.Cancel operand c =
    ((n : ℕ) × (operand ≡ Some (codes "job " ++ decimal n)) × (c ≡ CancelJob n) × (n < 2 ^ 64))
    ⊎ ((n : ℕ) × (operand ≡ Some (codes "file " ++ decimal n)) × (c ≡ CancelFile n) × (n < 2 ^ 64))
MeansAt verb.Resend operand c =
    ((n : ℕ) × (operand ≡ Some (decimal n)) × (c ≡ Resend n) × (n < 2 ^ 64))
    ⊎ ((operand ≡ Some (codes "all")) × (c ≡ ResendAll))
    ⊎ ((queue : List ℕ) × (operand ≡ Some (codes "all " ++ queue)) × (c ≡ ResendQueue queue) × IsTrue (is_queue_name queue))
MeansAt verb.Rotate operand c = (operand ≡ None) × (c ≡ Rotate)
MeansAt verb.Stop operand c =
    ((operand ≡ None) × (c ≡ Stop None)) ⊎ ((operand ≡ Some (codes "now")) × (c ≡ StopNow))
    ⊎ ((n : ℕ) × (operand ≡ Some (decimal n)) × (c ≡ Stop (Some n)) × (n < 2 ^ 32))

by_verb : (c : ControlCommand) → IsSayable c → MeansAt (verb_of c) (operand_of c) c
by_verb Status h = (refl, refl)
by_verb (Start queue) h = (queue, refl, refl, h)
by_verb (Hold queue) h = (queue, refl, refl, h)
by_verb (Release queue) h = (queue, refl, refl, h)
by_verb (Remove queue whom) h = (queue, whom, refl, refl, h.0, h.1)
by_verb (CancelJob number) h = inl (number, refl, refl, h)
by_verb (CancelFile number) h = inr (number, refl, refl, h)
by_verb (Resend number) h = inl (number, refl, refl, h)
by_verb ResendAll h = inr (inl (refl, refl))
by_verb (ResendQueue queue) h = inr (inr (queue, refl, refl, h))
by_verb Rotate h = (refl, refl)
by_verb (Stop None) h = inl (refl, refl)
by_verb (Stop (Some seconds)) h = inr (inr (seconds, refl, refl, h))
by_verb StopNow h = inr (inl (refl, refl))

-- a line is cut in one way
pub cut_of : (word : List ℕ) (rest : Option (List ℕ)) → HasNoSpace word → (c : ControlCommand) → joined word rest ≡ written c → (word ≡ verb_word (verb_of c)) × (rest ≡ operand_of c)
cut_of word rest p c e = same_joined word (verb_word (verb_of c)) rest (operand_of c) p (verb_has_no_space (verb_of c)) (e ∙ parts c)

-- what a line of this verb with this operand means
at : (v : Verb) (operand : Option (List ℕ)) (c : ControlCommand) → Means (joined (verb_word v) operand) c → MeansAt v operand c
at v operand c m =
    let r = cut_of (verb_word v) operand (verb_has_no_space v) c m.0 in
    let kind : v ≡ verb_of c = same_verb v (verb_of c) r.0 in
    subst (λ (o : Option (List ℕ)). MeansAt v o c) (sym r.1) (subst (λ (w : Verb). MeansAt w (operand_of c) c) (sym kind) (by_verb c m.1))

word_has_no_space : (b : ℕ) → is_word_octet b ≡ true → is_kept is_blank b ≡ true
word_has_no_space b h = grind (arith, nat_tests)

pub queue_has_no_space : (queue : List ℕ) → IsTrue (is_queue_name queue) → HasNoSpace queue
queue_has_no_space queue h =
    list_all-wider is_word_octet (is_kept is_blank) word_has_no_space queue (and_parts _ _ (and_parts _ _ h).0).1

some_is : (x y : List ℕ) → Some x ≡ Some y → x ≡ y
some_is x y e = cc

pub starts : (operand : List ℕ) (c : ControlCommand) → Means (codes "start " ++ operand) c → IsTrue (is_queue_name operand)
starts operand c m =
    let r = at verb.Start (Some operand) c m in
    subst (λ (q : List ℕ). IsTrue (is_queue_name q)) (sym (some_is _ _ r.1)) r.3

pub holds : (operand : List ℕ) (c : ControlCommand) → Means (codes "hold " ++ operand) c → IsTrue (is_queue_name operand)
holds operand c m =
    let r = at verb.Hold (Some operand) c m in
    subst (λ (q : List ℕ). IsTrue (is_queue_name q)) (sym (some_is _ _ r.1)) r.3

pub releases : (operand : List ℕ) (c : ControlCommand) → Means (codes "release " ++ operand) c → IsTrue (is_queue_name operand)
releases operand c m =
    let r = at verb.Release (Some operand) c m in
    subst (λ (q : List ℕ). IsTrue (is_queue_name q)) (sym (some_is _ _ r.1)) r.3

-- a removal is cut at the first space behind its first word
pub removes : (operands queue whom : List ℕ) → IsCut operands queue whom → (c : ControlCommand) → Means (codes "remove " ++ operands) c → IsTrue (is_queue_name queue) × IsTrue (is_whom whom)
removes operands queue whom cut c m =
    let r = at verb.Remove (Some operands) c m in
    let same = same_cut r.0 queue r.1 whom (queue_has_no_space r.0 r.4) cut.1 (sym (some_is _ _ r.2) ∙ cut.0) in
    (subst (λ (q : List ℕ). IsTrue (is_queue_name q)) same.0 r.4, subst (λ (w : List ℕ). IsTrue (is_whom w)) same.1 r.5)

pub removes_two : (operands : List ℕ) → HasNoSpace operands → (c : ControlCommand) → Means (codes "remove " ++ operands) c → ⊥
removes_two operands none c m = let r = at verb.Remove (Some operands) c m in no_cut r.0 r.1 operands none (some_is _ _ r.2)

same_some : (o : Option (List ℕ)) (x y : List ℕ) → o ≡ Some x → o ≡ Some y → x ≡ y
same_some o x y p q = some_is x y (sym p ∙ q)

none_or_some : (o : Option (List ℕ)) (x : List ℕ) → o ≡ None → o ≡ Some x → ⊥
none_or_some o x p q = cc

number_is_no_now : (n : ℕ) → n < 2 ^ 32 → decimal n ≡ codes "now" → ⊥
number_is_no_now n h e =
    let digits : list_all is_digit (decimal n) ≡ true = (decimal_is n (omega arith)).0 in
    let first_ : is_digit 110 ≡ true = (and_parts (is_digit 110) (list_all is_digit (111 ∷ 119 ∷ [])) (subst (λ (s : List ℕ). list_all is_digit s ≡ true) e digits)).0 in
    cc

-- what begins with an `a` is no number
number_is_no_word : (n : ℕ) (rest : List ℕ) → n < 2 ^ 64 → decimal n ≡ 97 ∷ rest → ⊥
number_is_no_word n rest h e =
    let digits : list_all is_digit (decimal n) ≡ true = (decimal_is n h).0 in
    let first_ : is_digit 97 ≡ true = (and_parts (is_digit 97) (list_all is_digit rest) (subst (λ (s : List ℕ). list_all is_digit s ≡ true) e digits)).0 in
    cc

-- all is no queue
all_is_alone : (queue : List ℕ) → codes "all" ≡ codes "all " ++ queue → ⊥
all_is_alone queue e = cc

after_all : (x y : List ℕ) → codes "all " ++ x ≡ codes "all " ++ y → x ≡ y
after_all x y e = ap (λ (s : List ℕ). others (others (others (others s)))) e

no_such_queue : (queue : List ℕ) → (IsTrue (is_queue_name queue) → ⊥) → (c : ControlCommand) → MeansAt verb.Resend (Some (codes "all " ++ queue)) c → ⊥
no_such_queue queue h c (inl p) = number_is_no_word p.0 _ p.3 (sym (some_is _ _ p.1))
no_such_queue queue h c (inr (inl p)) = all_is_alone queue (sym (some_is _ _ p.0))
no_such_queue queue h c (inr (inr p)) = h (subst (λ (q : List ℕ). IsTrue (is_queue_name q)) (sym (after_all _ _ (some_is _ _ p.1))) p.3)

-- no queue, or no memory for its name
pub resends_all_none : (queue : List ℕ) (fault : CommandFault) → IsQueueOf queue (Err fault) → Refuses (codes "resend all " ++ queue) fault
resends_all_none queue Unknown h = λ c m. no_such_queue queue h c (at verb.Resend (Some (codes "all " ++ queue)) c m)
resends_all_none queue Memory h = (ResendQueue queue, (refl, h), tt)

letters_differ : ◌≡◌ {A = ℕ} 106 102 → ⊥
letters_differ e = omega arith

-- a number of acceptance is no number of a file
job_is_no_file : (x y : List ℕ) → codes "job " ++ x ≡ codes "file " ++ y → ⊥
job_is_no_file x y e = letters_differ (ap first e)

after_job : (x y : List ℕ) → codes "job " ++ x ≡ codes "job " ++ y → x ≡ y
after_job x y e = ap (λ (s : List ℕ). others (others (others (others s)))) e

after_file : (x y : List ℕ) → codes "file " ++ x ≡ codes "file " ++ y → x ≡ y
after_file x y e = ap (λ (s : List ℕ). others (others (others (others (others s))))) e

-- a verb with an operand means one command at most
one_at : (v : Verb) (o : Option (List ℕ)) (a b : ControlCommand) → MeansAt v o a → MeansAt v o b → a ≡ b
one_at verb.Status o a b p q = p.1 ∙ sym q.1
one_at verb.Start o a b p q = p.2 ∙ (ap (λ (t : List ℕ). Start t) (same_some o _ _ p.1 q.1) ∙ sym q.2)
one_at verb.Hold o a b p q = p.2 ∙ (ap (λ (t : List ℕ). Hold t) (same_some o _ _ p.1 q.1) ∙ sym q.2)
one_at verb.Release o a b p q = p.2 ∙ (ap (λ (t : List ℕ). Release t) (same_some o _ _ p.1 q.1) ∙ sym q.2)
one_at verb.Remove o a b p q =
    let same = same_cut p.0 q.0 p.1 q.1 (queue_has_no_space p.0 p.4) (queue_has_no_space q.0 q.4) (same_some o _ _ p.2 q.2) in
    let queue = same.0 in let whom = same.1 in let left = p.3 in let right = q.3 in cc
one_at verb.Cancel o a b (inl p) (inl q) =
    let e : p.0 ≡ q.0 = decimal_injective p.0 q.0 p.3 q.3 (after_job _ _ (same_some o _ _ p.1 q.1)) in
    p.2 ∙ (ap (λ (n : ℕ). CancelJob n) e ∙ sym q.2)
one_at verb.Cancel o a b (inl p) (inr q) = absurd (job_is_no_file _ _ (same_some o _ _ p.1 q.1))
one_at verb.Cancel o a b (inr p) (inl q) = absurd (job_is_no_file _ _ (same_some o _ _ q.1 p.1))
one_at verb.Cancel o a b (inr p) (inr q) =
    let e : p.0 ≡ q.0 = decimal_injective p.0 q.0 p.3 q.3 (after_file _ _ (same_some o _ _ p.1 q.1)) in
    p.2 ∙ (ap (λ (n : ℕ). CancelFile n) e ∙ sym q.2)
one_at verb.Resend o a b (inl p) (inl q) =
    let e : p.0 ≡ q.0 = decimal_injective p.0 q.0 p.3 q.3 (same_some o _ _ p.1 q.1) in
    p.2 ∙ (ap (λ (n : ℕ). Resend n) e ∙ sym q.2)
one_at verb.Resend o a b (inl p) (inr (inl q)) = absurd (number_is_no_word p.0 _ p.3 (same_some o _ _ p.1 q.0))
one_at verb.Resend o a b (inl p) (inr (inr q)) = absurd (number_is_no_word p.0 _ p.3 (same_some o _ _ p.1 q.1))
one_at verb.Resend o a b (inr (inl p)) (inl q) = absurd (number_is_no_word q.0 _ q.3 (same_some o _ _ q.1 p.0))
one_at verb.Resend o a b (inr (inl p)) (inr (inl q)) = p.1 ∙ sym q.1
one_at verb.Resend o a b (inr (inl p)) (inr (inr q)) = absurd (all_is_alone _ (same_some o _ _ p.0 q.1))
one_at verb.Resend o a b (inr (inr p)) (inl q) = absurd (number_is_no_word q.0 _ q.3 (same_some o _ _ q.1 p.1))
one_at verb.Resend o a b (inr (inr p)) (inr (inl q)) = absurd (all_is_alone _ (same_some o _ _ q.0 p.1))
one_at verb.Resend o a b (inr (inr p)) (inr (inr q)) =
    p.2 ∙ (ap (λ (t : List ℕ). ResendQueue t) (after_all _ _ (same_some o _ _ p.1 q.1)) ∙ sym q.2)
one_at verb.Rotate o a b p q = p.1 ∙ sym q.1
one_at verb.Stop o a b (inl p) (inl q) = p.1 ∙ sym q.1
one_at verb.Stop o a b (inl p) (inr (inl q)) = absurd (none_or_some o _ p.0 q.0)
one_at verb.Stop o a b (inl p) (inr (inr q)) = absurd (none_or_some o _ p.0 q.1)
one_at verb.Stop o a b (inr (inl p)) (inl q) = absurd (none_or_some o _ q.0 p.0)
one_at verb.Stop o a b (inr (inl p)) (inr (inl q)) = p.1 ∙ sym q.1
one_at verb.Stop o a b (inr (inl p)) (inr (inr q)) = absurd (number_is_no_now q.0 q.3 (same_some o _ _ q.1 p.0))
one_at verb.Stop o a b (inr (inr p)) (inl q) = absurd (none_or_some o _ q.0 p.1)
one_at verb.Stop o a b (inr (inr p)) (inr (inl q)) = absurd (number_is_no_now p.0 p.3 (same_some o _ _ p.1 q.0))
one_at verb.Stop o a b (inr (inr p)) (inr (inr q)) =
    let e : p.0 ≡ q.0 = decimal_injective p.0 q.0 (omega arith) (omega arith) (same_some o _ _ p.1 q.1) in
    p.2 ∙ (ap (λ (n : ℕ). Stop (Some n)) e ∙ sym q.2)

-- a line means one command at most
pub one_meaning : (line : List ℕ) (a b : ControlCommand) → Means line a → Means line b → a ≡ b
one_meaning line a b p q =
    let means : Means (joined (verb_word (verb_of a)) (operand_of a)) b = (sym (parts a) ∙ (sym p.0 ∙ q.0), q.1) in
    one_at (verb_of a) (operand_of a) a b (by_verb a p.1) (at (verb_of a) (operand_of a) b means)

queue_short : (queue : List ℕ) → IsTrue (is_queue_name queue) → length queue ≤ 1022
queue_short queue h = leb-true (length queue) 1022 (and_parts _ _ h).1

whom_short : (whom : List ℕ) → IsTrue (is_whom whom) → length whom ≤ 255
whom_short whom h = leb-true (length whom) 255 (and_parts _ _ (and_parts _ _ (and_parts _ _ h).0).0).1

-- the line of a command that can be said isn't longer than the longest removal
pub is_short : (c : ControlCommand) → IsSayable c → length (written c) ≤ 1285
is_short Status h = lit≤ tt
is_short (Start queue) h = let few = queue_short queue h in omega arith
is_short (Hold queue) h = let few = queue_short queue h in omega arith
is_short (Release queue) h = let few = queue_short queue h in omega arith
is_short (Remove queue whom) h =
    let few = queue_short queue h.0 in
    let short = whom_short whom h.1 in
    let e : length (queue ++ 32 ∷ whom) ≡ length queue + length (32 ∷ whom) = length-append queue (32 ∷ whom) in
    omega arith
is_short (CancelJob n) h =
    let p : 2 ^ 64 < 10 ^ 20 = lit< tt in
    let few = length-decimal-le 20 n (lit< tt) (omega arith) h in
    omega arith
is_short (CancelFile n) h =
    let p : 2 ^ 64 < 10 ^ 20 = lit< tt in
    let few = length-decimal-le 20 n (lit< tt) (omega arith) h in
    omega arith
is_short (Resend n) h =
    let p : 2 ^ 64 < 10 ^ 20 = lit< tt in
    let few = length-decimal-le 20 n (lit< tt) (omega arith) h in
    omega arith
is_short ResendAll h = lit≤ tt
is_short (ResendQueue queue) h = let few = queue_short queue h in omega arith
is_short Rotate h = lit≤ tt
is_short (Stop None) h = lit≤ tt
is_short (Stop (Some n)) h =
    let p : 2 ^ 32 < 10 ^ 10 = lit< tt in
    let few = length-decimal-le 10 n (lit< tt) (omega arith) (omega arith) in
    omega arith
is_short StopNow h = lit≤ tt

-- a fault that `?` hands on is the answer, where the line is refused with it
pub refused : (line : List ℕ) (fault : CommandFault) (result : Result ControlCommand CommandFault) → IsErrAnd result (λ e. e ≡ fault) → Refuses line fault → Reads line result
refused line fault (Ok c) is h = absurd is
refused line fault (Err e) is h = rw is h

-- no queue, or no memory for its name

pub starts_none : (operand : List ℕ) (fault : CommandFault) → IsQueueOf operand (Err fault) → Refuses (codes "start " ++ operand) fault
starts_none operand Unknown h = λ c m. h (starts operand c m)
starts_none operand Memory h = (Start operand, (refl, h), tt)

pub holds_none : (operand : List ℕ) (fault : CommandFault) → IsQueueOf operand (Err fault) → Refuses (codes "hold " ++ operand) fault
holds_none operand Unknown h = λ c m. h (holds operand c m)
holds_none operand Memory h = (Hold operand, (refl, h), tt)

pub releases_none : (operand : List ℕ) (fault : CommandFault) → IsQueueOf operand (Err fault) → Refuses (codes "release " ++ operand) fault
releases_none operand Unknown h = λ c m. h (releases operand c m)
releases_none operand Memory h = (Release operand, (refl, h), tt)

pub removes_none : (operands queue whom : List ℕ) (fault : CommandFault) → IsCut operands queue whom → IsTrue (is_whom whom) → IsQueueOf queue (Err fault) → Refuses (codes "remove " ++ operands) fault
removes_none operands queue whom Unknown cut some h = λ c m. h (removes operands queue whom cut c m).0
removes_none operands queue whom Memory cut some h = (Remove queue whom, (ap (λ (t : List ℕ). codes "remove " ++ t) cut.0, (h, some)), tt)

-- a line whose first word is no verb means nothing

pub no_verb : (line word rest : List ℕ) → IsCut line word rest → ((v : Verb) → word ≡ verb_word v → ⊥) → Refuses line Unknown
no_verb line word rest cut none = λ c m. none (verb_of c) (cut_of word (Some rest) cut.1 c (sym cut.0 ∙ m.0)).0

pub no_verb_alone : (line : List ℕ) → HasNoSpace line → ((v : Verb) → line ≡ verb_word v → ⊥) → Refuses line Unknown
no_verb_alone line p none = λ c m. none (verb_of c) (cut_of line None p c m.0).0

pub most_is_reached : MostIsReached
most_is_reached = (Remove (replicate 1022 97) (replicate 255 97), (refl, refl), refl)
