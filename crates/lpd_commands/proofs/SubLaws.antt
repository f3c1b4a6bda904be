-- Subcommand lines and their layout.
use Rattle.std.proofs.Common.{◌≡◌, ◌<◌, ◌⊎◌, inl, inr, ℕ, zero, suc, Bool, true, false, not, ◌||◌, ◌==◌, nat_lt, List, [], ◌∷◌, length, refl, ap, sym, ◌∙◌, subst, arith, Result, Ok, Err, MatchResult, if◌then◌else◌}
use Rattle.std.proofs.lemmas.Bool.{both_ways, cases_Bool, lt-ltb, le-ltb, ltb-true, ltb-false, eqb-true, eq-eqb}
use Rattle.std.specs.List.{list_all}
use Rattle.std.proofs.lemmas.Bool.Decides.{nat_tests}
use Rattle.lpd_values.specs.Kinds.{is_space}
use Rattle.lpd_values.specs.Name.{is_control_name, is_data_name}
use Rattle.lpd_commands.specs.Line.{sub_of, sub_at, file_of, file_with, is_worded, words_of}
use Rattle.lpd_values.specs.Digits.{is_count, count_of}
use Rattle.lpd_commands.specs.Layout.{IsLine, IsShort, LacksCode, IsAbortLine, IsFileLine, IsBadCount, IsBadName, MeansSub, RefusesSub}
use Rattle.lpd_commands.specs.Laws.{SubIsExact, SubIsDecided}
use Rattle.lpd_values.specs.declared.refusal.Refusal.{Refusal}
use Rattle.lpd_values.specs.declared.refusal.Refusal.TheVariants.{LineTooLong, BadCode, BadLine, BadCount, BadName}
use Rattle.lpd_commands.specs.declared.sub.Sub.{Sub}
use Rattle.lpd_commands.specs.declared.sub.Sub.TheVariants.{Abort, ControlFile, DataFile}
use Rattle.lpd_commands.proofs.LayoutLemmas.{line_words, worded, line_of_worded}
use Rattle.lpd_commands.proofs.CommandLaws.{lacks_of, lacks_test, unworded, line_same}

-- the codes that a count and a name follow
pub data FileCode : ℕ → Type 0 where
  two : FileCode 2
  three : FileCode 3

file_code : (code : ℕ) → (code ≡ 2) ⊎ (code ≡ 3) → FileCode code
file_code code (inl e) = subst FileCode (sym e) two
file_code code (inr e) = subst FileCode (sym e) three

-- the end of `sub_at`, as a function of its tests
abbrev sub_by : List ℕ → ℕ → List ℕ → Result Sub Refusal → Bool → Bool → Bool → Result Sub Refusal
sub_by line code rest given lacks abort worded =
    if lacks then Err BadCode
    else if abort then (if list_all is_space rest then Ok Abort else Err BadLine)
    else if worded then given
    else Err BadLine

short_gives : (line : List ℕ) → IsShort line → sub_of line ≡ sub_at line
short_gives line short = ap (λ v. if v then Err LineTooLong else sub_at line) (le-ltb 1023 (length line) short)

pub file_line_gives : (code : ℕ) → FileCode code → (count name line : List ℕ) → IsShort line → IsLine code count (name ∷ []) line → sub_of line ≡ file_with code count name
file_line_gives _ two count name line short h =
    let l = line_words 2 count (name ∷ []) line h in
    short_gives line short ∙ (ap sub_at l.1
    ∙ (ap (λ v. if v then file_of 2 (words_of l.0) else Err BadLine) l.2 ∙ ap (file_of 2) l.3))
file_line_gives _ three count name line short h =
    let l = line_words 3 count (name ∷ []) line h in
    short_gives line short ∙ (ap sub_at l.1
    ∙ (ap (λ v. if v then file_of 3 (words_of l.0) else Err BadLine) l.2 ∙ ap (file_of 3) l.3))

pub not_zero : (n : ℕ) → 0 < n → (n == 0) ≡ false
not_zero n h = grind (arith, nat_tests)

some_of : (n : ℕ) → (n == 0) ≡ false → 0 < n
some_of n h = grind (arith, nat_tests)

control_gives : (count name : List ℕ) → is_count count ≡ true → is_control_name name ≡ true → file_with 2 count name ≡ Ok (ControlFile (count_of count) name)
control_gives count name h k =
    ap (λ v. if not v then Err BadCount else if is_control_name name then Ok (ControlFile (count_of count) name) else Err BadName) h
    ∙ ap (λ v. if v then Ok (ControlFile (count_of count) name) else Err BadName) k

control_refuses : (count name : List ℕ) → is_count count ≡ true → is_control_name name ≡ false → file_with 2 count name ≡ Err BadName
control_refuses count name h k =
    ap (λ v. if not v then Err BadCount else if is_control_name name then Ok (ControlFile (count_of count) name) else Err BadName) h
    ∙ ap (λ v. if v then Ok (ControlFile (count_of count) name) else Err BadName) k

data_given : (count name : List ℕ) → is_count count ≡ true → file_with 3 count name ≡ (if count_of count == 0 then Err BadCount else if is_data_name name then Ok (DataFile (count_of count) name) else Err BadName)
data_given count name h =
    ap (λ v. if not v then Err BadCount else if count_of count == 0 then Err BadCount else if is_data_name name then Ok (DataFile (count_of count) name) else Err BadName) h

data_gives : (count name : List ℕ) (b : Bool) → is_count count ≡ true → (count_of count == 0) ≡ false → is_data_name name ≡ b → file_with 3 count name ≡ (if b then Ok (DataFile (count_of count) name) else Err BadName)
data_gives count name b h z k =
    data_given count name h
    ∙ (ap (λ v. if v then Err BadCount else if is_data_name name then Ok (DataFile (count_of count) name) else Err BadName) z
    ∙ ap (λ v. if v then Ok (DataFile (count_of count) name) else Err BadName) k)

no_count : (code : ℕ) → FileCode code → (count name : List ℕ) → is_count count ≡ false → file_with code count name ≡ Err BadCount
no_count _ two count name h =
    ap (λ v. if not v then Err BadCount else if is_control_name name then Ok (ControlFile (count_of count) name) else Err BadName) h
no_count _ three count name h =
    ap (λ v. if not v then Err BadCount else if count_of count == 0 then Err BadCount else if is_data_name name then Ok (DataFile (count_of count) name) else Err BadName) h

zero_count : (count name : List ℕ) → is_count count ≡ true → (count_of count == 0) ≡ true → file_with 3 count name ≡ Err BadCount
zero_count count name h z =
    data_given count name h ∙ ap (λ v. if v then Err BadCount else if is_data_name name then Ok (DataFile (count_of count) name) else Err BadName) z

pub means_ok : (line : List ℕ) (s : Sub) → MeansSub line s → sub_of line ≡ Ok s
means_ok line Abort h =
    let a = h.1 in
    short_gives line h.0 ∙ (ap sub_at a.1 ∙ ap (λ v. if v then Ok Abort else Err BadLine) a.2)
means_ok line (ControlFile count name) h =
    file_line_gives 2 two h.1 name line h.0 h.2 ∙ (control_gives h.1 name h.3 h.5 ∙ ap (λ n. Ok (ControlFile n name)) (sym h.4))
means_ok line (DataFile count name) h =
    file_line_gives 3 three h.1 name line h.0 h.2
    ∙ (data_gives h.1 name true h.3 (not_zero _ (let e = h.4 in let p = h.5 in omega arith)) h.6 ∙ ap (λ n. Ok (DataFile n name)) (sym h.4))

-- a meaning or a refusal, and the function gives it
abbrev Decision : List ℕ → Type 0
Decision line = ((s : Sub) × (sub_of line ≡ Ok s) × MeansSub line s) ⊎ ((e : Refusal) × (sub_of line ≡ Err e) × RefusesSub line e)

control_decision : (count name line : List ℕ) → IsShort line → IsLine 2 count (name ∷ []) line → Decision line
control_decision count name line short l =
    let given = file_line_gives 2 two count name line short l in
    elim (cases_Bool (is_count count)) [
      | inl h ↦
          elim (cases_Bool (is_control_name name)) [
            | inl k ↦ inl (ControlFile (count_of count) name, given ∙ control_gives count name h k, (short, count, l, h, refl, k))
            | inr k ↦ inr (BadName, given ∙ control_refuses count name h k, (short, 2, count, name, (inl refl, l), good count h, k))
          ]
      | inr h ↦ inr (BadCount, given ∙ no_count 2 two count name h, (short, 2, count, name, (inl refl, l), inl h))
    ]
  where
    good : (count : List ℕ) → is_count count ≡ true → IsBadCount 2 count → ⊥
    good count h (inl k) = both_ways _ k h
    good count h (inr k) = absurd (omega (arith, k.0))

data_decision : (count name line : List ℕ) → IsShort line → IsLine 3 count (name ∷ []) line → Decision line
data_decision count name line short l =
    let given = file_line_gives 3 three count name line short l in
    elim (cases_Bool (is_count count)) [
      | inl h ↦
          elim (cases_Bool (count_of count == 0)) [
            | inl z ↦ inr (BadCount, given ∙ zero_count count name h z, (short, 3, count, name, (inr refl, l), inr (refl, eqb-true _ 0 z)))
            | inr z ↦
                elim (cases_Bool (is_data_name name)) [
                  | inl k ↦ inl (DataFile (count_of count) name, given ∙ data_gives count name true h z k, (short, count, l, h, refl, some_of _ z, k))
                  | inr k ↦ inr (BadName, given ∙ data_gives count name false h z k, (short, 3, count, name, (inr refl, l), good count h z, k))
                ]
          ]
      | inr h ↦ inr (BadCount, given ∙ no_count 3 three count name h, (short, 3, count, name, (inr refl, l), inl h))
    ]
  where
    good : (count : List ℕ) → is_count count ≡ true → (count_of count == 0) ≡ false → IsBadCount 3 count → ⊥
    good count h z (inl k) = both_ways _ k h
    good count h z (inr k) = both_ways _ z (eq-eqb _ 0 k.1)

same_rest : (a b : ℕ) (s t : List ℕ) → a ∷ s ≡ b ∷ t → (a ≡ b) × (s ≡ t)
same_rest a b s t h = (cc, cc)

not_abort : (code : ℕ) → FileCode code → (rest : List ℕ) → IsAbortLine (code ∷ rest) → ⊥
not_abort code f rest h = clash code f (same_rest code 1 rest h.0 h.1).0
  where
    clash : (code : ℕ) → FileCode code → code ≡ 1 → ⊥
    clash _ two e = absurd (omega arith)
    clash _ three e = absurd (omega arith)

-- not two words
other_words : (code : ℕ) (rest w : List ℕ) (ops : List (List ℕ)) → words_of rest ≡ w ∷ ops → ((name : List ℕ) → ops ≡ name ∷ [] → ⊥) → (code' : ℕ) (count name : List ℕ) → IsFileLine code' count name (code ∷ rest) → ⊥
other_words code rest w ops e not_one code' count name h =
    not_one name (tails w count ops (name ∷ []) (sym e ∙ (line_same code code' count rest (name ∷ []) h.1).1))
  where
    tails : (a b : List ℕ) (s t : List (List ℕ)) → a ∷ s ≡ b ∷ t → s ≡ t
    tails a b s t h = cc

by_words : (code : ℕ) → FileCode code → (rest w : List ℕ) (ops : List (List ℕ)) → IsShort (code ∷ rest) → (LacksCode 3 (code ∷ rest) → ⊥) → words_of rest ≡ w ∷ ops → IsLine code w ops (code ∷ rest) → sub_of (code ∷ rest) ≡ file_of code (w ∷ ops) → Decision (code ∷ rest)
by_words _ two rest w (name ∷ []) short has e l given = control_decision w name (2 ∷ rest) short l
by_words _ three rest w (name ∷ []) short has e l given = data_decision w name (3 ∷ rest) short l
by_words code f rest w [] short has e l given =
    inr (BadLine, given, (short, has, not_abort code f rest, other_words code rest w [] e (λ name h. cc)))
by_words code f rest w (a ∷ b ∷ ops) short has e l given =
    inr (BadLine, given, (short, has, not_abort code f rest, other_words code rest w (a ∷ b ∷ ops) e (λ name h. cc)))

-- the codes of subcommands
data Code : ℕ → Type 0 where
  abort : Code 1
  file : (code : ℕ) → FileCode code → Code code

code_of : (code : ℕ) → (code == 0 || nat_lt 3 code) ≡ false → Code code
code_of zero h = absurd (both_ways _ h refl)
code_of (suc zero) h = abort
code_of (suc (suc zero)) h = file 2 two
code_of (suc (suc (suc zero))) h = file 3 three
code_of (suc (suc (suc (suc n)))) h = absurd (grind (arith, nat_tests))

file_at : (code : ℕ) → FileCode code → (rest : List ℕ) → sub_at (code ∷ rest) ≡ (if is_worded rest then file_of code (words_of rest) else Err BadLine)
file_at _ two rest = refl
file_at _ three rest = refl

at_code : (code : ℕ) → Code code → (rest : List ℕ) → IsShort (code ∷ rest) → (LacksCode 3 (code ∷ rest) → ⊥) → Decision (code ∷ rest)
at_code _ abort rest short has =
    elim (cases_Bool (list_all is_space rest)) [
      | inl h ↦ inl (Abort, short_gives (1 ∷ rest) short ∙ ap (λ v. if v then Ok Abort else Err BadLine) h, (short, (rest, refl, h)))
      | inr h ↦
          inr (
            BadLine,
            short_gives (1 ∷ rest) short ∙ ap (λ v. if v then Ok Abort else Err BadLine) h,
            (short, has, λ a. both_ways _ h (ap (list_all is_space) (same_rest 1 1 rest a.0 a.1).1 ∙ a.2), λ code count name f. not_file code rest count name f),
          )
    ]
  where
    not_file : (code : ℕ) (rest count name : List ℕ) → IsFileLine code count name (1 ∷ rest) → ⊥
    not_file code rest count name f =
        let e = (line_same 1 code count rest (name ∷ []) f.1).0 in
        elim f.0 [ inl k ↦ absurd (omega arith) | inr k ↦ absurd (omega arith) ]
at_code _ (file code f) rest short has =
    let at : sub_of (code ∷ rest) ≡ (if is_worded rest then file_of code (words_of rest) else Err BadLine) = short_gives (code ∷ rest) short ∙ file_at code f rest in
    elim (cases_Bool (is_worded rest)) [
      | inl k ↦
          let w = worded rest k in
          by_words code f rest w.first (words_of w.rest) short has w.words (line_of_worded code rest w)
          (at ∙ (ap (λ v. if v then file_of code (words_of rest) else Err BadLine) k ∙ ap (file_of code) w.words))
      | inr k ↦
          inr (
            BadLine,
            at ∙ ap (λ v. if v then file_of code (words_of rest) else Err BadLine) k,
            (short, has, not_abort code f rest, λ code' count name l. unworded code code' count rest (name ∷ []) k l.1),
          )
    ]

lacking : (code : ℕ) (rest : List ℕ) → (code == 0 || nat_lt 3 code) ≡ true → sub_at (code ∷ rest) ≡ Err BadCode
lacking code rest h = ap (λ v. sub_by (code ∷ rest) code rest (file_of code (words_of rest)) v (code == 1) (is_worded rest)) h

short_decision : (line : List ℕ) → IsShort line → Decision line
short_decision [] short = inr (BadCode, short_gives [] short, (short, tt))
short_decision (code ∷ rest) short =
    elim (cases_Bool (code == 0 || nat_lt 3 code)) [
      | inl h ↦ inr (BadCode, short_gives (code ∷ rest) short ∙ lacking code rest h, (short, lacks_of 3 code h))
      | inr h ↦ at_code code (code_of code h) rest short (λ l. both_ways _ h (lacks_test 3 code l))
    ]

pub decision : (line : List ℕ) → Decision line
decision line =
    elim (cases_Bool (nat_lt 1023 (length line))) [
      | inl h ↦ inr (LineTooLong, ap (λ v. if v then Err LineTooLong else sub_at line) h, ltb-true 1023 (length line) h)
      | inr h ↦ short_decision line (ltb-false 1023 (length line) h)
    ]

bad_line_only : (line : List ℕ) (e : Refusal) → RefusesSub line e → RefusesSub line BadLine → e ≡ BadLine
bad_line_only line LineTooLong h k = absurd (omega (arith, h, k.0))
bad_line_only line BadCode h k = absurd (k.1 h.1)
bad_line_only line BadLine h k = refl
bad_line_only line BadCount h k = absurd (k.3 h.1 h.2 h.3 h.4)
bad_line_only line BadName h k = absurd (k.3 h.1 h.2 h.3 h.4)
bad_line_only line _ h k = absurd h

bad_count_gives : (code : ℕ) → FileCode code → (count name : List ℕ) → IsBadCount code count → file_with code count name ≡ Err BadCount
bad_count_gives code f count name (inl h) = no_count code f count name h
bad_count_gives _ two count name (inr h) = absurd (omega (arith, h.0))
bad_count_gives _ three count name (inr h) =
    elim (cases_Bool (is_count count)) [
      | inl k ↦ zero_count count name k (eq-eqb _ 0 h.1)
      | inr k ↦ no_count 3 three count name k
    ]

bad_name_gives : (code : ℕ) → FileCode code → (count name : List ℕ) → (IsBadCount code count → ⊥) → IsBadName code name → file_with code count name ≡ Err BadName
bad_name_gives _ two count name good h =
    elim (cases_Bool (is_count count)) [
      | inl k ↦ control_refuses count name k h
      | inr k ↦ absurd (good (inl k))
    ]
bad_name_gives _ three count name good h =
    elim (cases_Bool (is_count count)) [
      | inl k ↦
          elim (cases_Bool (count_of count == 0)) [
            | inl z ↦ absurd (good (inr (refl, eqb-true _ 0 z)))
            | inr z ↦ data_gives count name false k z h
          ]
      | inr k ↦ absurd (good (inl k))
    ]

pub refuses_err : (line : List ℕ) (e : Refusal) → RefusesSub line e → sub_of line ≡ Err e
refuses_err line LineTooLong h = ap (λ v. if v then Err LineTooLong else sub_at line) (lt-ltb 1023 (length line) h)
refuses_err [] BadCode h = short_gives [] h.0
refuses_err (code ∷ rest) BadCode h = short_gives (code ∷ rest) h.0 ∙ lacking code rest (lacks_test 3 code h.1)
refuses_err line BadLine h =
    elim (decision line) [
      | inl d ↦ absurd (no_meaning line d.0 d.2 h)
      | inr d ↦ d.1 ∙ ap Err (bad_line_only line d.0 d.2 h)
    ]
  where
    no_meaning : (line : List ℕ) (s : Sub) → MeansSub line s → RefusesSub line BadLine → ⊥
    no_meaning line Abort m h = h.2 m.1
    no_meaning line (ControlFile count name) m h = h.3 2 m.1 name (inl refl, m.2)
    no_meaning line (DataFile count name) m h = h.3 3 m.1 name (inr refl, m.2)
refuses_err line BadCount h =
    let f = file_code h.1 h.4.0 in
    file_line_gives h.1 f h.2 h.3 line h.0 h.4.1 ∙ bad_count_gives h.1 f h.2 h.3 h.5
refuses_err line BadName h =
    let f = file_code h.1 h.4.0 in
    file_line_gives h.1 f h.2 h.3 line h.0 h.4.1 ∙ bad_name_gives h.1 f h.2 h.3 h.5 h.6
refuses_err line _ h = absurd h

ok_same : (a b : Sub) → ◌≡◌ {A = Result Sub Refusal} (Ok a) (Ok b) → a ≡ b
ok_same a b h = cc

err_same : (a b : Refusal) → ◌≡◌ {A = Result Sub Refusal} (Err a) (Err b) → a ≡ b
err_same a b h = cc

ok_not_err : (a : Sub) (b : Refusal) → ◌≡◌ {A = Result Sub Refusal} (Ok a) (Err b) → ⊥
ok_not_err a b h = cc

ok_means : (line : List ℕ) (s : Sub) → sub_of line ≡ Ok s → MeansSub line s
ok_means line s h =
    elim (decision line) [
      | inl d ↦ subst (λ (v : Sub). MeansSub line v) (ok_same d.0 s (sym d.1 ∙ h)) d.2
      | inr d ↦ absurd (ok_not_err s d.0 (sym h ∙ d.1))
    ]

err_refuses : (line : List ℕ) (e : Refusal) → sub_of line ≡ Err e → RefusesSub line e
err_refuses line e h =
    elim (decision line) [
      | inl d ↦ absurd (ok_not_err d.0 e (sym d.1 ∙ h))
      | inr d ↦ subst (λ (v : Refusal). RefusesSub line v) (err_same d.0 e (sym d.1 ∙ h)) d.2
    ]

pub sub_is_exact : (line : List ℕ) → SubIsExact line
sub_is_exact line = ((λ s. (ok_means line s, means_ok line s)), (λ e. (err_refuses line e, refuses_err line e)))

pub sub_is_decided : (line : List ℕ) → SubIsDecided line
sub_is_decided line =
    record {
      some = elim (decision line) [ inl d ↦ inl (d.0, d.2) | inr d ↦ inr (d.0, d.2) ];
      one_meaning = λ a b h k. ok_same a b (sym (means_ok line a h) ∙ means_ok line b k);
      one_refusal = λ a b h k. err_same a b (sym (refuses_err line a h) ∙ refuses_err line b k);
      not_both = λ s e h k. ok_not_err s e (sym (means_ok line s h) ∙ refuses_err line e k);
    }

-- what the reader gives is laid out so
pub sub_layout : (line : List ℕ) (r : Result Sub Refusal) → r ≡ sub_of line → MatchResult r (MeansSub line) (RefusesSub line)
sub_layout line (Ok s) h = ok_means line s (sym h)
sub_layout line (Err e) h = err_refuses line e (sym h)

pub short_layout : (line : List ℕ) (r : Result Sub Refusal) → IsShort line → r ≡ sub_at line → MatchResult r (MeansSub line) (RefusesSub line)
short_layout line r short h = sub_layout line r (h ∙ sym (short_gives line short))
