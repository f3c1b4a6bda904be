-- Control texts and their layout.
use Rattle.std.proofs.Common.{◌≡◌, ◌<◌, ◌≤◌, ◌⊎◌, inl, inr, ℕ, Bool, true, false, not, ◌||◌, ◌==◌, nat_lt, List, [], ◌∷◌, length, refl, ap, sym, ◌∙◌, subst, arith, Option, Some, None, Result, Ok, Err, IsOk, is_ok, IsSome, is_some, slice_get, if◌then◌else◌}
use Rattle.std.proofs.lemmas.Bool.{both_ways, cases_Bool, lt-ltb, le-ltb, ltb-true, ltb-false, ne_eqb}
use Rattle.std.specs.List.{list_all}
use Rattle.std.proofs.lemmas.Bool.Decides.{nat_tests}
use Rattle.lpd_values.specs.Name.{is_data_name, number_of}
use Rattle.lpd_values.specs.declared.refusal.Refusal.{Refusal}
use Rattle.lpd_values.specs.declared.refusal.Refusal.TheVariants.{NoHost, NoUser, NoPrintLine, TooManyPrints, BadLength, BadName}
use Rattle.control_file.specs.declared.control.Control.{Control}
use Rattle.control_file.specs.View.{contents, GivesControl}
use Rattle.lpd_values.specs.Kept.{is_operand_len}
use Rattle.lpd_values.specs.Contents.{Contents}
use Rattle.control_file.specs.Text.{lines_of, operands_of, is_host_letter, is_user_letter, is_print_letter, first_host, first_user, prints_of, print_list, with_prints, control_with, control_of}
use Rattle.control_file.specs.Layout.{AreLines, IsFirst, AreOperands, Parts, IsTextLength, IsFit, IsSent, MeansControl, RefusesControl}
use Rattle.lpd_values.specs.declared.limits.TheConstants.{MAX_CONTROL_TEXT, MAX_PRINTS}
use Rattle.control_file.specs.Laws.{ControlIsExact, ControlIsDecided, AnswersControl}
use Rattle.control_file.proofs.TextLemmas.{lines_of-laid, lines_laid, none_led, operands_of-first, operands_of-laid, operands_laid, first_of_lines}

-- the contents of these fields
abbrev pub said_by : List ℕ → List ℕ → ℕ → List (List ℕ) → Contents
said_by host user number prints = record { host = host; user = user; number = number; prints = prints }

fits_test : (n : ℕ) → IsTextLength n → (n == 0 || nat_lt MAX_CONTROL_TEXT n) ≡ false
fits_test n h = let a = h.0 in let b = h.1 in grind (arith, nat_tests)

fits_of : (n : ℕ) → (n == 0 || nat_lt MAX_CONTROL_TEXT n) ≡ false → IsTextLength n
fits_of n h = (some n h, few n h)
  where
    some : (n : ℕ) → (n == 0 || nat_lt MAX_CONTROL_TEXT n) ≡ false → 0 < n
    some n h = grind (arith, nat_tests)

    few : (n : ℕ) → (n == 0 || nat_lt MAX_CONTROL_TEXT n) ≡ false → n ≤ MAX_CONTROL_TEXT
    few n h = grind (arith, nat_tests)

not_zero : (n : ℕ) → 0 < n → (n == 0) ≡ false
not_zero n h = ne_eqb n 0 (λ e. omega arith)

-- what the function computes on a text of a fit length
pub control_gives : (name text : List ℕ) (h u : Option (List ℕ)) (names : List (List ℕ)) → IsTextLength (length text) → first_host text ≡ h → first_user text ≡ u → prints_of text ≡ names → control_of name text ≡ control_with (number_of name) h u names
control_gives name text h u names fit a b c =
    ap (λ v. if v then Err BadLength else control_with (number_of name) (first_host text) (first_user text) (prints_of text)) (fits_test (length text) fit)
    ∙ (ap (λ v. control_with (number_of name) v (first_user text) (prints_of text)) a
    ∙ (ap (λ v. control_with (number_of name) h v (prints_of text)) b ∙ ap (control_with (number_of name) h u) c))

first_is : (test : ℕ → Bool) (text : List ℕ) (lines : List (List ℕ)) (operand : Option (List ℕ)) → AreLines lines text → IsFirst test lines operand → slice_get (operands_of test (lines_of text)) 0 ≡ operand
first_is test text lines (Some operand) cut h =
    ap (λ v. slice_get (operands_of test v) 0) (lines_of-laid lines text cut) ∙ ap (λ v. slice_get v 0) (operands_of-first test lines operand h)
first_is test text lines None cut h =
    ap (λ v. slice_get (operands_of test v) 0) (lines_of-laid lines text cut) ∙ ap (λ v. slice_get v 0) (none_led test lines h)

prints_are : (text : List ℕ) (lines names : List (List ℕ)) → AreLines lines text → AreOperands is_print_letter names lines → prints_of text ≡ names
prints_are text lines names cut h = ap (operands_of is_print_letter) (lines_of-laid lines text cut) ∙ operands_of-laid is_print_letter names lines h

lengths_fit : (n : ℕ) (host user : List ℕ) (names : List (List ℕ)) → IsFit (Some host) → IsFit (Some user) → control_with n (Some host) (Some user) names ≡ with_prints host user n (print_list names)
lengths_fit n host user names h k =
    ap (λ v. if not v then Err BadLength else if not (is_operand_len (length user)) then Err BadLength else with_prints host user n (print_list names)) h
    ∙ ap (λ v. if not v then Err BadLength else with_prints host user n (print_list names)) k

-- with a host and a user of fit lengths the print lines decide
fit_gives : (n : ℕ) (host user : Option (List ℕ)) (names : List (List ℕ)) (e : Refusal) → IsFit host → IsFit user → print_list names ≡ Err e → control_with n host user names ≡ Err e
fit_gives n (Some host) (Some user) names e h k l = lengths_fit n host user names h k ∙ ap (with_prints host user n) l
fit_gives n None user names e h k l = absurd h
fit_gives n (Some host) None names e h k l = absurd k

unfit_gives : (n : ℕ) (host user : Option (List ℕ)) (names : List (List ℕ)) → IsSome host → IsSome user → (IsFit host → ⊥) ⊎ (IsFit user → ⊥) → control_with n host user names ≡ Err BadLength
unfit_gives n None user names a b h = absurd (both_ways false refl a)
unfit_gives n (Some host) None names a b h = absurd (both_ways false refl b)
unfit_gives n (Some host) (Some user) names a b h =
    elim (cases_Bool (is_operand_len (length host))) [
      | inl k ↦
          elim (cases_Bool (is_operand_len (length user))) [
            | inl l ↦ elim h [ inl c ↦ absurd (c k) | inr c ↦ absurd (c l) ]
            | inr l ↦
                ap (λ v. if not v then Err BadLength else if not (is_operand_len (length user)) then Err BadLength else with_prints host user n (print_list names)) k
                ∙ ap (λ v. if not v then Err BadLength else with_prints host user n (print_list names)) l
          ]
      | inr k ↦ ap (λ v. if not v then Err BadLength else if not (is_operand_len (length user)) then Err BadLength else with_prints host user n (print_list names)) k
    ]

-- the names that are printed
abbrev list_by : List (List ℕ) → Bool → Bool → Bool → Result (List (List ℕ)) Refusal
list_by names none many all =
    if none then Err NoPrintLine else if many then Err TooManyPrints else if all then Ok names else Err BadName

list_gives : (names : List (List ℕ)) (none many all : Bool) → (length names == 0) ≡ none → nat_lt MAX_PRINTS (length names) ≡ many → list_all is_data_name names ≡ all → print_list names ≡ list_by names none many all
list_gives names none many all a b c =
    ap (λ v. list_by names v (nat_lt MAX_PRINTS (length names)) (list_all is_data_name names)) a
    ∙ (ap (λ v. list_by names none v (list_all is_data_name names)) b ∙ ap (list_by names none many) c)

-- what the function computes is computed from the parts
parts_give : (name text : List ℕ) (parts : Parts text) → IsTextLength (length text) → control_of name text ≡ control_with (number_of name) parts.host parts.user parts.names
parts_give name text parts fit =
    control_gives name text parts.host parts.user parts.names fit (first_is is_host_letter text parts.lines parts.host parts.cut parts.first_host)
    (first_is is_user_letter text parts.lines parts.user parts.cut parts.first_user)
    (prints_are text parts.lines parts.names parts.cut parts.printed)

parts_of : (text : List ℕ) → Parts text
parts_of text =
    record {
      lines = lines_of text;
      host = first_host text;
      user = first_user text;
      names = prints_of text;
      cut = lines_laid text;
      first_host = first_of_lines is_host_letter (lines_of text);
      first_user = first_of_lines is_user_letter (lines_of text);
      printed = operands_laid is_print_letter (lines_of text);
    }

pub means_ok : (name text : List ℕ) (said : Contents) → MeansControl name text said → control_of name text ≡ Ok said
means_ok name text said h =
    let n = number_of name in
    let names = h.parts.names in
    let host_fits : IsFit (Some said.host) = subst IsFit h.host h.sent.1 in
    let user_fits : IsFit (Some said.user) = subst IsFit h.user h.sent.2 in
    parts_give name text h.parts h.sent.0
    ∙ (ap (λ v. control_with n v h.parts.user names) h.host ∙ (ap (λ v. control_with n (Some said.host) v names) h.user
    ∙ (lengths_fit n said.host said.user names host_fits user_fits
    ∙ (ap (with_prints said.host said.user n) (list_gives names false false true (not_zero _ h.some) (le-ltb MAX_PRINTS _ h.few) h.data_names)
    ∙ (ap (λ v. Ok (said_by said.host said.user v names)) (sym h.number) ∙ ap (λ v. Ok (said_by said.host said.user said.number v)) (sym h.prints))))))

no_names : (names : List (List ℕ)) → names ≡ [] → print_list names ≡ Err NoPrintLine
no_names names h = ap print_list h

many_names : (names : List (List ℕ)) → MAX_PRINTS < length names → print_list names ≡ Err TooManyPrints
many_names names h = list_gives names false true (list_all is_data_name names) (not_zero _ (omega arith)) (lt-ltb MAX_PRINTS (length names) h) refl

list_refuses : (name text : List ℕ) (parts : Parts text) → IsSent text parts → (e : Refusal) → print_list parts.names ≡ Err e → control_of name text ≡ Err e
list_refuses name text parts sent e h =
    parts_give name text parts sent.0 ∙ fit_gives (number_of name) parts.host parts.user parts.names e sent.1 sent.2 h

pub refuses_err : (name text : List ℕ) (e : Refusal) → RefusesControl text e → control_of name text ≡ Err e
refuses_err name text BadLength (inl h) =
    elim (cases_Bool (length text == 0 || nat_lt MAX_CONTROL_TEXT (length text))) [
      | inl k ↦ ap (λ v. if v then Err BadLength else control_with (number_of name) (first_host text) (first_user text) (prints_of text)) k
      | inr k ↦ absurd (h (fits_of (length text) k))
    ]
refuses_err name text BadLength (inr h) =
    parts_give name text h.0 h.1 ∙ unfit_gives (number_of name) h.0.host h.0.user h.0.names h.2 h.3 h.4
refuses_err name text NoHost h = parts_give name text h.0 h.1 ∙ ap (λ v. control_with (number_of name) v h.0.user h.0.names) h.2
refuses_err name text NoUser h =
    parts_give name text h.0 h.1
    ∙ (ap (λ v. control_with (number_of name) h.0.host v h.0.names) h.3 ∙ no_user (number_of name) h.0.host h.0.names h.2)
  where
    no_user : (n : ℕ) (host : Option (List ℕ)) (names : List (List ℕ)) → IsSome host → control_with n host None names ≡ Err NoUser
    no_user n None names some = absurd (both_ways false refl some)
    no_user n (Some host) names some = refl
refuses_err name text NoPrintLine h = list_refuses name text h.0 h.1 NoPrintLine (no_names h.0.names h.2)
refuses_err name text TooManyPrints h = list_refuses name text h.0 h.1 TooManyPrints (many_names h.0.names h.2)
refuses_err name text BadName h =
    list_refuses name text h.0 h.1 BadName (list_gives h.0.names false false false (not_zero _ h.2) (le-ltb MAX_PRINTS _ h.3) h.4)
refuses_err name text _ h = absurd h

abbrev Decision : List ℕ → List ℕ → Type 0
Decision name text = ((said : Contents) × MeansControl name text said) ⊎ ((e : Refusal) × RefusesControl text e)

length_zero : (names : List (List ℕ)) → (length names == 0) ≡ true → names ≡ []
length_zero [] h = refl
length_zero (n ∷ ns) h = absurd (grind (arith, nat_tests))

some_of : (n : ℕ) → (n == 0) ≡ false → 0 < n
some_of n h = grind (arith, nat_tests)

sent_decision : (name text host user : List ℕ) (parts : Parts text) → IsSent text parts → parts.host ≡ Some host → parts.user ≡ Some user → Decision name text
sent_decision name text host user parts sent h u =
    elim (cases_Bool (length parts.names == 0)) [
      | inl z ↦ inr (NoPrintLine, (parts, sent, length_zero _ z))
      | inr z ↦
          elim (cases_Bool (nat_lt MAX_PRINTS (length parts.names))) [
            | inl m ↦ inr (TooManyPrints, (parts, sent, ltb-true MAX_PRINTS _ m))
            | inr m ↦
                elim (cases_Bool (list_all is_data_name parts.names)) [
                  | inl d ↦
                      inl (
                        said_by host user (number_of name) parts.names,
                        record {
                          parts = parts;
                          sent = sent;
                          some = some_of _ z;
                          few = ltb-false MAX_PRINTS _ m;
                          data_names = d;
                          host = h;
                          user = u;
                          number = refl;
                          prints = refl;
                        },
                      )
                  | inr d ↦ inr (BadName, (parts, sent, some_of _ z, ltb-false MAX_PRINTS _ m, d))
                ]
          ]
    ]

-- by the host and the user
sender_decision : (name text : List ℕ) (parts : Parts text) → IsTextLength (length text) → (host user : Option (List ℕ)) → parts.host ≡ host → parts.user ≡ user → Decision name text
sender_decision name text parts fit None user h u = inr (NoHost, (parts, fit, h))
sender_decision name text parts fit (Some host) None h u = inr (NoUser, (parts, fit, ap is_some h, u))
sender_decision name text parts fit (Some host) (Some user) h u =
    elim (cases_Bool (is_operand_len (length host))) [
      | inl a ↦
          elim (cases_Bool (is_operand_len (length user))) [
            | inl b ↦ sent_decision name text host user parts (fit, subst IsFit (sym h) a, subst IsFit (sym u) b) h u
            | inr b ↦ inr (BadLength, inr (parts, fit, ap is_some h, ap is_some u, inr (λ k. both_ways _ b (subst IsFit u k))))
          ]
      | inr a ↦ inr (BadLength, inr (parts, fit, ap is_some h, ap is_some u, inl (λ k. both_ways _ a (subst IsFit h k))))
    ]

pub decision : (name text : List ℕ) → Decision name text
decision name text =
    elim (cases_Bool (length text == 0 || nat_lt MAX_CONTROL_TEXT (length text))) [
      | inl l ↦ inr (BadLength, inl (λ f. both_ways _ (fits_test (length text) f) l))
      | inr l ↦ sender_decision name text (parts_of text) (fits_of (length text) l) _ _ refl refl
    ]

ok_same : (a b : Contents) → ◌≡◌ {A = Result Contents Refusal} (Ok a) (Ok b) → a ≡ b
ok_same a b h = cc

err_same : (a b : Refusal) → ◌≡◌ {A = Result Contents Refusal} (Err a) (Err b) → a ≡ b
err_same a b h = cc

ok_not_err : (a : Contents) (b : Refusal) → ◌≡◌ {A = Result Contents Refusal} (Ok a) (Err b) → ⊥
ok_not_err a b h = cc

ok_means : (name text : List ℕ) (said : Contents) → control_of name text ≡ Ok said → MeansControl name text said
ok_means name text said h =
    elim (decision name text) [
      | inl d ↦ subst (λ (v : Contents). MeansControl name text v) (ok_same d.0 said (sym (means_ok name text d.0 d.1) ∙ h)) d.1
      | inr d ↦ absurd (ok_not_err said d.0 (sym h ∙ refuses_err name text d.0 d.1))
    ]

err_refuses : (name text : List ℕ) (e : Refusal) → control_of name text ≡ Err e → RefusesControl text e
err_refuses name text e h =
    elim (decision name text) [
      | inl d ↦ absurd (ok_not_err d.0 e (sym (means_ok name text d.0 d.1) ∙ h))
      | inr d ↦ subst (λ (v : Refusal). RefusesControl text v) (err_same d.0 e (sym (refuses_err name text d.0 d.1) ∙ h)) d.1
    ]

pub control_is_exact : (name text : List ℕ) → ControlIsExact name text
control_is_exact name text = ((λ c. (ok_means name text c, means_ok name text c)), (λ e. (err_refuses name text e, refuses_err name text e)))

pub control_is_decided : (name text : List ℕ) → ControlIsDecided name text
control_is_decided name text =
    record {
      some = decision name text;
      one_meaning = λ a b h k. ok_same a b (sym (means_ok name text a h) ∙ means_ok name text b k);
      one_refusal = λ a b h k. err_same a b (sym (refuses_err name text a h) ∙ refuses_err name text b k);
      not_both = λ c e h k. ok_not_err c e (sym (means_ok name text c h) ∙ refuses_err name text e k);
    }

-- what the reader gives is laid out so
pub control_layout : (name text : List ℕ) (r : Result Control Refusal) → GivesControl r (control_of name text) → AnswersControl name text r
control_layout name text (Ok c) h = ok_means name text (contents c) h
control_layout name text (Err e) (inl h) = inl (err_refuses name text e h)
control_layout name text (Err e) (inr h) =
    elim (decision name text) [
      | inl d ↦ inr (h.0, (d.0, d.1))
      | inr d ↦ absurd (no_value _ d.0 (refuses_err name text d.0 d.1) h.1)
    ]
  where
    no_value : (r : Result Contents Refusal) (e : Refusal) → r ≡ Err e → IsOk r → ⊥
    no_value r e h k = both_ways (is_ok r) (ap is_ok h) k

pub fit_layout : (name text : List ℕ) (n : ℕ) (r : Result Control Refusal) → n ≡ number_of name → (length text == 0) ≡ false → length text ≤ MAX_CONTROL_TEXT → GivesControl r (control_with n (first_host text) (first_user text) (prints_of text)) → AnswersControl name text r
fit_layout name text n r e some few h =
    control_layout name text r
    (subst (λ (v : Result Contents Refusal). GivesControl r v)
    (ap (λ v. control_with v (first_host text) (first_user text) (prints_of text)) e
    ∙ sym (control_gives name text (first_host text) (first_user text) (prints_of text) (some_of (length text) some, few) refl refl refl))
    h)
