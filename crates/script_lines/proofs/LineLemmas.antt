-- What a line of a script means, by its first two letters.
use Rattle.std.proofs.Common.{◌≡◌, ◌++◌, ℕ, true, List, [], ◌∷◌, inl, inr, refl, sym, ◌∙◌, ap, arith, cond}
use Rattle.std.specs.Prelude.{codes, ◌==◌, Result, Ok, Err}
use Rattle.std.specs.Result.{IsErrAnd}
use Rattle.std.specs.List.{list_all}
use Rattle.std.proofs.lemmas.Bool.{and_parts}
use Rattle.std.proofs.lemmas.Bool.Decides.{nat_tests}
use Rattle.std.specs.Cmp.Derive.{both_true}
use Rattle.script_lines.specs.Grammar.{Means, IsHost, IsNumber, IsHex, RefusesLine, RefusesHex}
use Rattle.script_lines.specs.Grammar.{IsNoNumber, AnswersLine, HasNoSpace, IsAtSpace, is_no_space, is_digit}
use Rattle.script_lines.specs.declared.script.LineFault.{LineFault}
use Rattle.script_lines.specs.declared.script.LineFault.TheVariants.{Bad, Memory}
use Rattle.script_lines.specs.declared.script.ScriptLine.{ScriptLine}
use Rattle.script_lines.specs.declared.script.ScriptLine.TheVariants.{Nothing, Connect, Send, Go, Break}
use Rattle.script_lines.specs.declared.script.ScriptLine.TheVariants.{Next, Printed, Failed, Free, Pages, Shutdown}

-- the first octet, or 0 where there is none
abbrev first : List ℕ → ℕ
first [] = 0
first (b ∷ bs) = b

-- all but the first octet
abbrev others : List ℕ → List ℕ
others [] = []
others (b ∷ bs) = bs

-- two texts behind the same letters are the same if all is
same_rest : (letters x y : List ℕ) → letters ++ x ≡ letters ++ y → x ≡ y
same_rest [] x y e = e
same_rest (b ∷ bs) x y e = same_rest bs x y (ap others e)

-- a text without spaces doesn't begin with one
no_space_first : (b : ℕ) (bs : List ℕ) → HasNoSpace (b ∷ bs) → b ≡ 32 → ⊥
no_space_first b bs h e = let g = (and_parts (is_no_space b) _ h).0 in grind (arith, nat_tests)

-- two texts without spaces, each before a space, are the same if all is
pub same_cut : (a b x y : List ℕ) → HasNoSpace a → HasNoSpace b → a ++ 32 ∷ x ≡ b ++ 32 ∷ y
    → (a ≡ b) × (x ≡ y)
same_cut [] [] x y p q e = (refl, ap others e)
same_cut [] (c ∷ b) x y p q e = absurd (no_space_first c b q (sym (ap first e)))
same_cut (c ∷ a) [] x y p q e = absurd (no_space_first c a p (ap first e))
same_cut (c ∷ a) (d ∷ b) x y p q e =
    let letter : c ≡ d = ap first e in
    let more = same_cut a b x y (and_parts (is_no_space c) _ p).1 (and_parts (is_no_space d) _ q).1 (ap others e) in
    let head = more.0 in
    (cc, more.1)

digit_is_no_space : (b : ℕ) → is_digit b ≡ true → is_no_space b ≡ true
digit_is_no_space b h = grind (arith, nat_tests)

-- digits have no space
pub digits_have_no_space : (digits : List ℕ) → list_all is_digit digits ≡ true → HasNoSpace digits
digits_have_no_space [] h = refl
digits_have_no_space (b ∷ bs) h =
    let parts = and_parts (is_digit b) _ h in
    both_true (digit_is_no_space b parts.0) (digits_have_no_space bs parts.1)

-- the kinds of lines
data Kind : Type 0 where
  nothing : Kind
  connect : Kind
  send : Kind
  go : Kind
  break : Kind
  next : Kind
  printed : Kind
  failed : Kind
  free : Kind
  pages : Kind
  shutdown : Kind

-- the kind of a line that means something, by its first octet and the second
abbrev kind_by : ℕ → ℕ → Kind
kind_by a b =
    cond (a == 99) connect (cond (a == 103) go (cond (a == 98) break (cond (a == 110) next (
    cond (a == 115) (cond (b == 101) send shutdown) (
    cond (a == 112) (cond (b == 114) printed pages) (
    cond (a == 102) (cond (b == 97) failed free) nothing))))))

abbrev kind_of : List ℕ → Kind
kind_of line = kind_by (first line) (first (others line))

-- a line of a kind means this, and why
abbrev MeansAt : Kind → List ℕ → ScriptLine → Type 0
MeansAt nothing line m = m ≡ Nothing
MeansAt connect line m = (host : List ℕ) × (m ≡ Connect host) × Means line (Connect host)
MeansAt send line m =
    (session : ℕ) × (octets : List ℕ) × (m ≡ Send session octets) × Means line (Send session octets)
MeansAt go line m = (n : ℕ) × (m ≡ Go n) × Means line (Go n)
MeansAt break line m = (n : ℕ) × (m ≡ Break n) × Means line (Break n)
MeansAt next line m = (n : ℕ) × (m ≡ Next n) × Means line (Next n)
MeansAt printed line m = (n : ℕ) × (m ≡ Printed n) × Means line (Printed n)
MeansAt failed line m = (n : ℕ) × (m ≡ Failed n) × Means line (Failed n)
MeansAt free line m = m ≡ Free
MeansAt pages line m = m ≡ Pages
MeansAt shutdown line m = m ≡ Shutdown

-- what is so at a kind is so at the line's
at_kind : (line : List ℕ) (m : ScriptLine) (kind : Kind) → kind_of line ≡ kind → MeansAt kind line m
    → MeansAt (kind_of line) line m
at_kind line m kind e h = rw e h

-- a line means what lines of its kind mean
by_kind : (line : List ℕ) (m : ScriptLine) → Means line m → MeansAt (kind_of line) line m
by_kind line Nothing (inl w) = at_kind line Nothing nothing (ap kind_of w) refl
by_kind line Nothing (inr w) = at_kind line Nothing nothing (ap kind_of w.1) refl
by_kind line (Connect host) w = at_kind line (Connect host) connect (ap kind_of w.0) (host, refl, w)
by_kind line (Send session octets) w =
    at_kind line (Send session octets) send (ap kind_of w.2) (session, octets, refl, w)
by_kind line (Go n) w = at_kind line (Go n) go (ap kind_of w.1) (n, refl, w)
by_kind line (Break n) w = at_kind line (Break n) break (ap kind_of w.1) (n, refl, w)
by_kind line (Next n) w = at_kind line (Next n) next (ap kind_of w.1) (n, refl, w)
by_kind line (Printed n) w = at_kind line (Printed n) printed (ap kind_of w.1) (n, refl, w)
by_kind line (Failed n) w = at_kind line (Failed n) failed (ap kind_of w.1) (n, refl, w)
by_kind line Free w = at_kind line Free free (ap kind_of w) refl
by_kind line Pages w = at_kind line Pages pages (ap kind_of w) refl
by_kind line Shutdown w = at_kind line Shutdown shutdown (ap kind_of w) refl

-- the same at a kind that the line is known to be of
of_kind : (line : List ℕ) (m : ScriptLine) (kind : Kind) → kind_of line ≡ kind → Means line m
    → MeansAt kind line m
of_kind line m kind e w = rw e at (by_kind line m w)

-- a line that connects needs a host
pub at_connect : (line rest : List ℕ) → line ≡ codes "connect " ++ rest → (m : ScriptLine)
    → Means line m → (m ≡ Connect rest) × IsHost rest
at_connect line rest e m w =
    let r = of_kind line m connect (ap kind_of e) w in
    let same : r.0 ≡ rest = same_rest (codes "connect ") r.0 rest (sym r.2.0 ∙ e) in
    (rw same at r.1, rw same at r.2.1)

-- a line of this word needs a number
pub at_go : (line rest : List ℕ) → line ≡ codes "go " ++ rest → (m : ScriptLine) → Means line m
    → (n : ℕ) × (m ≡ Go n) × IsNumber rest n
at_go line rest e m w =
    let r = of_kind line m go (ap kind_of e) w in
    let same : r.2.0 ≡ rest = same_rest (codes "go ") r.2.0 rest (sym r.2.1 ∙ e) in
    (r.0, r.1, rw same at r.2.2)

-- a line of this word needs a number
pub at_break : (line rest : List ℕ) → line ≡ codes "break " ++ rest → (m : ScriptLine)
    → Means line m → (n : ℕ) × (m ≡ Break n) × IsNumber rest n
at_break line rest e m w =
    let r = of_kind line m break (ap kind_of e) w in
    let same : r.2.0 ≡ rest = same_rest (codes "break ") r.2.0 rest (sym r.2.1 ∙ e) in
    (r.0, r.1, rw same at r.2.2)

-- a line of this word needs a number
pub at_next : (line rest : List ℕ) → line ≡ codes "next " ++ rest → (m : ScriptLine)
    → Means line m → (n : ℕ) × (m ≡ Next n) × IsNumber rest n
at_next line rest e m w =
    let r = of_kind line m next (ap kind_of e) w in
    let same : r.2.0 ≡ rest = same_rest (codes "next ") r.2.0 rest (sym r.2.1 ∙ e) in
    (r.0, r.1, rw same at r.2.2)

-- a line of this word needs a number
pub at_printed : (line rest : List ℕ) → line ≡ codes "printed " ++ rest → (m : ScriptLine)
    → Means line m → (n : ℕ) × (m ≡ Printed n) × IsNumber rest n
at_printed line rest e m w =
    let r = of_kind line m printed (ap kind_of e) w in
    let same : r.2.0 ≡ rest = same_rest (codes "printed ") r.2.0 rest (sym r.2.1 ∙ e) in
    (r.0, r.1, rw same at r.2.2)

-- a line of this word needs a number
pub at_failed : (line rest : List ℕ) → line ≡ codes "failed " ++ rest → (m : ScriptLine)
    → Means line m → (n : ℕ) × (m ≡ Failed n) × IsNumber rest n
at_failed line rest e m w =
    let r = of_kind line m failed (ap kind_of e) w in
    let same : r.2.0 ≡ rest = same_rest (codes "failed ") r.2.0 rest (sym r.2.1 ∙ e) in
    (r.0, r.1, rw same at r.2.2)

-- a line that sends needs a number, a space and octets
pub at_send : (line rest : List ℕ) → line ≡ codes "send " ++ rest → (m : ScriptLine)
    → Means line m
    → (session : ℕ) × (octets : List ℕ) × (m ≡ Send session octets) × (number : List ℕ) × (digits : List ℕ)
    × (rest ≡ number ++ 32 ∷ digits) × IsNumber number session × IsHex digits octets
at_send line rest e m w =
    let r = of_kind line m send (ap kind_of e) w in
    let s = r.3 in
    (r.0, r.1, r.2, s.0, s.1, same_rest (codes "send ") rest _ (sym e ∙ s.2), s.3, s.4)

-- what stands before the first space is the number, and what follows it the digits
sent_parts : (rest number digits : List ℕ) → IsAtSpace rest number digits → (m : ScriptLine)
    → Means (codes "send " ++ rest) m
    → (session : ℕ) × (octets : List ℕ) × IsNumber number session × IsHex digits octets
sent_parts rest number digits s m w =
    let r = at_send (codes "send " ++ rest) rest refl m w in
    let cut = same_cut r.3 number r.4 digits (digits_have_no_space r.3 r.6.2) s.1 (sym r.5 ∙ s.0) in
    (r.0, r.1, rw cut.0 at r.6, rw cut.1 at r.7)

-- a fault that `?` hands on is the answer, where the line is refused with it
pub refused : (line : List ℕ) (fault : LineFault) (result : Result ScriptLine LineFault)
    → IsErrAnd result (λ e. e ≡ fault) → RefusesLine line fault → AnswersLine line result
refused line fault (Ok m) is h = absurd is
refused line fault (Err e) is h = rw is h

-- a line that sends needs a session's number
pub sends_no_number : (rest number digits : List ℕ) (fault : LineFault) → IsAtSpace rest number digits
    → IsNoNumber number fault → RefusesLine (codes "send " ++ rest) fault
sends_no_number rest number digits fault s none =
    rw none.0 (λ m w. let r = sent_parts rest number digits s m w in none.1 r.0 r.2)

-- a line that sends needs digits, and memory for what they are
pub sends_no_octets : (rest number digits : List ℕ) (session : ℕ) (fault : LineFault)
    → IsAtSpace rest number digits → IsNumber number session → RefusesHex digits fault
    → RefusesLine (codes "send " ++ rest) fault
sends_no_octets rest number digits session Bad s n none =
    λ m w. let r = sent_parts rest number digits s m w in none r.1 r.3
sends_no_octets rest number digits session Memory s n some =
    inr (session, some.0, (number, digits, ap (λ t. codes "send " ++ t) s.0, n, some.1))

-- a line has one meaning at most
pub one_meaning : (line : List ℕ) (a b : ScriptLine) → Means line a → Means line b → a ≡ b
one_meaning line Nothing b (inl v) w = sym (of_kind line b nothing (ap kind_of v) w)
one_meaning line Nothing b (inr v) w = sym (of_kind line b nothing (ap kind_of v.1) w)
one_meaning line (Connect host) b v w = sym (at_connect line host v.0 b w).0
one_meaning line (Send session octets) b v w =
    let r = at_send line _ v.2 b w in
    let cut = same_cut v.0 r.3 v.1 r.4 (digits_have_no_space v.0 v.3.2) (digits_have_no_space r.3 r.6.2) r.5 in
    cc
one_meaning line (Go n) b v w = let r = at_go line v.0 v.1 b w in cc
one_meaning line (Break n) b v w = let r = at_break line v.0 v.1 b w in cc
one_meaning line (Next n) b v w = let r = at_next line v.0 v.1 b w in cc
one_meaning line (Printed n) b v w = let r = at_printed line v.0 v.1 b w in cc
one_meaning line (Failed n) b v w = let r = at_failed line v.0 v.1 b w in cc
one_meaning line Free b v w = sym (of_kind line b free (ap kind_of v) w)
one_meaning line Pages b v w = sym (of_kind line b pages (ap kind_of v) w)
one_meaning line Shutdown b v w = sym (of_kind line b shutdown (ap kind_of v) w)
