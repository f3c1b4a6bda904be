-- Command lines and their layout.
use Rattle.std.proofs.Common.{◌≡◌, ◌<◌, ◌⊎◌, inl, inr, ℕ, zero, suc, true, false, ◌||◌, ◌==◌, nat_lt, List, [], ◌∷◌, length, refl, ap, sym, ◌∙◌, subst, arith, Result, Ok, Err, IsOk, is_ok, if◌then◌else◌}
use Rattle.std.proofs.lemmas.Bool.{both_ways, cases_Bool, lt-ltb, le-ltb, ltb-true, ltb-false}
use Rattle.std.proofs.lemmas.Bool.Decides.{nat_tests}
use Rattle.lpd_commands.specs.Line.{command_of, command_at, command_with, is_worded, words_of}
use Rattle.lpd_commands.specs.Layout.{IsLine, IsShort, LacksCode, IsCommandLine, MeansCommand, RefusesCommand, AnswersCommand}
use Rattle.lpd_values.specs.Given.{Gives}
use Rattle.lpd_commands.specs.Laws.{CommandIsExact, CommandIsDecided}
use Rattle.lpd_values.specs.declared.refusal.Refusal.{Refusal}
use Rattle.lpd_values.specs.declared.refusal.Refusal.TheVariants.{LineTooLong, BadCode, BadLine}
use Rattle.lpd_commands.specs.declared.command.Command.{Command}
use Rattle.lpd_commands.specs.declared.command.Command.TheVariants.{PrintWaiting, Receive, State, Remove}
use Rattle.lpd_commands.proofs.LayoutLemmas.{line_words, worded, line_of_worded}

pub lacks_of : (last code : ℕ) → (code == 0 || nat_lt last code) ≡ true → (code ≡ 0) ⊎ (last < code)
lacks_of last code h = grind (arith, nat_tests)

pub lacks_test : (last code : ℕ) → (code ≡ 0) ⊎ (last < code) → (code == 0 || nat_lt last code) ≡ true
lacks_test last code h = grind (arith, nat_tests)

-- a line whose words are known
pub line_gives : (code : ℕ) (w : List ℕ) (ops : List (List ℕ)) (line : List ℕ) → IsShort line → (code == 0 || nat_lt 5 code) ≡ false → IsLine code w ops line → command_of line ≡ command_with code (w ∷ ops)
line_gives code w ops line short fits h =
    let l = line_words code w ops line h in
    ap (λ v. if v then Err LineTooLong else command_at line) (le-ltb 1023 (length line) short)
    ∙ (ap command_at l.1
    ∙ (ap (λ v. if v then Err BadCode else if is_worded l.0 then command_with code (words_of l.0) else Err BadLine) fits
    ∙ (ap (λ v. if v then command_with code (words_of l.0) else Err BadLine) l.2 ∙ ap (command_with code) l.3)))

pub means_ok : (line : List ℕ) (c : Command) → MeansCommand line c → command_of line ≡ Ok c
means_ok line (PrintWaiting queue) h = line_gives 1 queue h.1.0 line h.0 refl h.1.1
means_ok line (Receive queue) h = line_gives 2 queue h.1.0 line h.0 refl h.1.1
means_ok line (State queue list false) h = line_gives 3 queue list line h.0 refl h.1
means_ok line (State queue list true) h = line_gives 4 queue list line h.0 refl h.1
means_ok line (Remove queue agent list) h = line_gives 5 queue (agent ∷ list) line h.0 refl h.1

-- each command's line has a code, and a text that begins with a word
a_line : (c : Command) (line : List ℕ) → IsCommandLine c line → (code : ℕ) × (w : List ℕ) × (ops : List (List ℕ)) × IsLine code w ops line
a_line (PrintWaiting queue) line h = (1, queue, h.0, h.1)
a_line (Receive queue) line h = (2, queue, h.0, h.1)
a_line (State queue list long) line h = (if long then 4 else 3, queue, list, h)
a_line (Remove queue agent list) line h = (5, queue, agent ∷ list, h)

tail_same : (a b : ℕ) (s t : List ℕ) → a ∷ s ≡ b ∷ t → s ≡ t
tail_same a b s t h = cc

head_same : (a b : ℕ) (s t : List ℕ) → a ∷ s ≡ b ∷ t → a ≡ b
head_same a b s t h = cc

pub unworded : (code code' : ℕ) (w rest : List ℕ) (ops : List (List ℕ)) → is_worded rest ≡ false → IsLine code' w ops (code ∷ rest) → ⊥
unworded code code' w rest ops h k =
    let l = line_words code' w ops (code ∷ rest) k in
    both_ways (is_worded rest) h (ap is_worded (tail_same code code' rest l.0 l.1) ∙ l.2)

-- the words of a line are those of its text
pub line_same : (code code' : ℕ) (w rest : List ℕ) (ops : List (List ℕ)) → IsLine code' w ops (code ∷ rest) → (code ≡ code') × (words_of rest ≡ w ∷ ops)
line_same code code' w rest ops k =
    let l = line_words code' w ops (code ∷ rest) k in
    (head_same code code' rest l.0 l.1, ap words_of (tail_same code code' rest l.0 l.1) ∙ l.3)

-- the codes of commands
pub data Code : ℕ → Type 0 where
  one : Code 1
  two : Code 2
  three : Code 3
  four : Code 4
  five : Code 5

pub code_of : (code : ℕ) → (code == 0 || nat_lt 5 code) ≡ false → Code code
code_of zero h = absurd (both_ways _ h refl)
code_of (suc zero) h = one
code_of (suc (suc zero)) h = two
code_of (suc (suc (suc zero))) h = three
code_of (suc (suc (suc (suc zero)))) h = four
code_of (suc (suc (suc (suc (suc zero))))) h = five
code_of (suc (suc (suc (suc (suc (suc n)))))) h = absurd (grind (arith, nat_tests))

-- what a line of these words is

abbrev Found : List ℕ → Result Command Refusal → Type 0
Found line given = ((c : Command) × (given ≡ Ok c) × IsCommandLine c line) ⊎ ((given ≡ Err BadLine) × ((c : Command) → IsCommandLine c line → ⊥))

-- a removal with no agent
no_agent : (rest w : List ℕ) → words_of rest ≡ w ∷ [] → (c : Command) → IsCommandLine c (5 ∷ rest) → ⊥
no_agent rest w h (PrintWaiting queue) k = let e = (line_same 5 1 queue rest k.0 k.1).0 in absurd (omega arith)
no_agent rest w h (Receive queue) k = let e = (line_same 5 2 queue rest k.0 k.1).0 in absurd (omega arith)
no_agent rest w h (State queue list false) k = let e = (line_same 5 3 queue rest list k).0 in absurd (omega arith)
no_agent rest w h (State queue list true) k = let e = (line_same 5 4 queue rest list k).0 in absurd (omega arith)
no_agent rest w h (Remove queue agent list) k = let e = (line_same 5 5 queue rest (agent ∷ list) k).1 in clash w queue agent list (sym h ∙ e)
  where
    clash : (w queue agent : List ℕ) (list : List (List ℕ)) → w ∷ [] ≡ queue ∷ agent ∷ list → ⊥
    clash w queue agent list h = cc

found : (code : ℕ) → Code code → (rest w : List ℕ) (ops : List (List ℕ)) → words_of rest ≡ w ∷ ops → IsLine code w ops (code ∷ rest) → Found (code ∷ rest) (command_with code (w ∷ ops))
found _ one rest w ops e h = inl (PrintWaiting w, refl, (ops, h))
found _ two rest w ops e h = inl (Receive w, refl, (ops, h))
found _ three rest w ops e h = inl (State w ops false, refl, h)
found _ four rest w ops e h = inl (State w ops true, refl, h)
found _ five rest w [] e h = inr (refl, no_agent rest w e)
found _ five rest w (agent ∷ list) e h = inl (Remove w agent list, refl, h)

-- a meaning or a refusal, and the function gives it

abbrev Decision : List ℕ → Type 0
Decision line = ((c : Command) × (command_of line ≡ Ok c) × MeansCommand line c) ⊎ ((e : Refusal) × (command_of line ≡ Err e) × RefusesCommand line e)

at_code : (line : List ℕ) → IsShort line → (command_of line ≡ command_at line) → Decision line
at_code [] short eq = inr (BadCode, eq, (short, tt))
at_code (code ∷ rest) short eq =
    elim (cases_Bool (code == 0 || nat_lt 5 code)) [
      | inl h ↦ inr (BadCode, eq ∙ ap (λ v. if v then Err BadCode else if is_worded rest then command_with code (words_of rest) else Err BadLine) h, (short, lacks_of 5 code h))
      | inr h ↦
          let at : command_of (code ∷ rest) ≡ (if is_worded rest then command_with code (words_of rest) else Err BadLine) =
          eq ∙ ap (λ v. if v then Err BadCode else if is_worded rest then command_with code (words_of rest) else Err BadLine) h in
          let has_code : LacksCode 5 (code ∷ rest) → ⊥ = λ l. both_ways _ h (lacks_test 5 code l) in
          elim (cases_Bool (is_worded rest)) [
            | inl k ↦
                let w = worded rest k in
                let given : command_of (code ∷ rest) ≡ command_with code (w.first ∷ words_of w.rest) =
                at ∙ (ap (λ v. if v then command_with code (words_of rest) else Err BadLine) k ∙ ap (command_with code) w.words) in
                elim (found code (code_of code h) rest w.first (words_of w.rest) w.words (line_of_worded code rest w)) [
                  | inl f ↦ inl (f.0, given ∙ f.1, (short, f.2))
                  | inr f ↦ inr (BadLine, given ∙ f.0, (short, has_code, f.1))
                ]
            | inr k ↦
                inr (
                  BadLine,
                  at ∙ ap (λ v. if v then command_with code (words_of rest) else Err BadLine) k,
                  (short, has_code, λ c l. let a = a_line c (code ∷ rest) l in unworded code a.0 a.1 rest a.2 k a.3),
                )
          ]
    ]

pub decision : (line : List ℕ) → Decision line
decision line =
    elim (cases_Bool (nat_lt 1023 (length line))) [
      | inl h ↦ inr (LineTooLong, ap (λ v. if v then Err LineTooLong else command_at line) h, ltb-true 1023 (length line) h)
      | inr h ↦ at_code line (ltb-false 1023 (length line) h) (ap (λ v. if v then Err LineTooLong else command_at line) h)
    ]

bad_line_only : (line : List ℕ) (e : Refusal) → RefusesCommand line e → RefusesCommand line BadLine → e ≡ BadLine
bad_line_only line LineTooLong h k = absurd (omega (arith, h, k.0))
bad_line_only line BadCode h k = absurd (k.1 h.1)
bad_line_only line BadLine h k = refl
bad_line_only line _ h k = absurd h

pub refuses_err : (line : List ℕ) (e : Refusal) → RefusesCommand line e → command_of line ≡ Err e
refuses_err line LineTooLong h = ap (λ v. if v then Err LineTooLong else command_at line) (lt-ltb 1023 (length line) h)
refuses_err [] BadCode h = ap (λ v. if v then Err LineTooLong else command_at []) (le-ltb 1023 0 h.0)
refuses_err (code ∷ rest) BadCode h =
    ap (λ v. if v then Err LineTooLong else command_at (code ∷ rest)) (le-ltb 1023 (length (code ∷ rest)) h.0)
    ∙ ap (λ v. if v then Err BadCode else if is_worded rest then command_with code (words_of rest) else Err BadLine) (lacks_test 5 code h.1)
refuses_err line BadLine h =
    elim (decision line) [
      | inl d ↦ absurd (h.2 d.0 d.2.1)
      | inr d ↦ d.1 ∙ ap Err (bad_line_only line d.0 d.2 h)
    ]
refuses_err line _ h = absurd h

ok_same : (a b : Command) → ◌≡◌ {A = Result Command Refusal} (Ok a) (Ok b) → a ≡ b
ok_same a b h = cc

err_same : (a b : Refusal) → ◌≡◌ {A = Result Command Refusal} (Err a) (Err b) → a ≡ b
err_same a b h = cc

ok_not_err : (a : Command) (b : Refusal) → ◌≡◌ {A = Result Command Refusal} (Ok a) (Err b) → ⊥
ok_not_err a b h = cc

ok_means : (line : List ℕ) (c : Command) → command_of line ≡ Ok c → MeansCommand line c
ok_means line c h =
    elim (decision line) [
      | inl d ↦ subst (λ (v : Command). MeansCommand line v) (ok_same d.0 c (sym d.1 ∙ h)) d.2
      | inr d ↦ absurd (ok_not_err c d.0 (sym h ∙ d.1))
    ]

err_refuses : (line : List ℕ) (e : Refusal) → command_of line ≡ Err e → RefusesCommand line e
err_refuses line e h =
    elim (decision line) [
      | inl d ↦ absurd (ok_not_err d.0 e (sym d.1 ∙ h))
      | inr d ↦ subst (λ (v : Refusal). RefusesCommand line v) (err_same d.0 e (sym d.1 ∙ h)) d.2
    ]

pub command_is_exact : (line : List ℕ) → CommandIsExact line
command_is_exact line = ((λ c. (ok_means line c, means_ok line c)), (λ e. (err_refuses line e, refuses_err line e)))

pub command_is_decided : (line : List ℕ) → CommandIsDecided line
command_is_decided line =
    record {
      some = elim (decision line) [ inl d ↦ inl (d.0, d.2) | inr d ↦ inr (d.0, d.2) ];
      one_meaning = λ a b h k. ok_same a b (sym (means_ok line a h) ∙ means_ok line b k);
      one_refusal = λ a b h k. err_same a b (sym (refuses_err line a h) ∙ refuses_err line b k);
      not_both = λ c e h k. ok_not_err c e (sym (means_ok line c h) ∙ refuses_err line e k);
    }

-- what the reader gives is laid out so
pub command_layout : (line : List ℕ) (r : Result Command Refusal) → Gives r (command_of line) → AnswersCommand line r
command_layout line (Ok c) h = ok_means line c h
command_layout line (Err e) (inl h) = inl (err_refuses line e h)
command_layout line (Err e) (inr h) =
    elim (decision line) [
      | inl d ↦ inr (h.0, (d.0, d.2))
      | inr d ↦ absurd (no_value _ d.0 d.1 h.1)
    ]
  where
    no_value : (r : Result Command Refusal) (e : Refusal) → r ≡ Err e → IsOk r → ⊥
    no_value r e h k = both_ways (is_ok r) (ap is_ok h) k

pub short_layout : (line : List ℕ) (r : Result Command Refusal) → IsShort line → Gives r (command_at line) → AnswersCommand line r
short_layout line r short h =
    command_layout line r (subst (λ (v : Result Command Refusal). Gives r v) (sym (ap (λ v. if v then Err LineTooLong else command_at line) (le-ltb 1023 (length line) short))) h)
