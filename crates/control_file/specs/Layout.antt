-- How control texts are laid out, and which refusal belongs to a text.
use Rattle.std.specs.Prelude.{◌≡◌, ◌<◌, ◌≤◌, ◌⊎◌, ◌++◌, ℕ, Bool, false, List, [], ◌∷◌, length, not, IsTrue, IsSome, IsSomeAnd, Option, Some, None}
use Rattle.std.specs.List.{list_all}
use Rattle.lpd_values.specs.Pieces.{is_kept}
use Rattle.lpd_values.specs.Name.{is_data_name, number_of}
use Rattle.lpd_values.specs.declared.refusal.Refusal.{Refusal}
use Rattle.lpd_values.specs.declared.refusal.Refusal.TheVariants.{NoHost, NoUser, NoPrintLine, TooManyPrints, BadLength, BadName}
use Rattle.lpd_values.specs.declared.limits.TheConstants.{MAX_CONTROL_TEXT, MAX_PRINTS}
use Rattle.lpd_values.specs.Kept.{is_line_feed, is_operand_len}
use Rattle.lpd_values.specs.Contents.{Contents}
use Rattle.control_file.specs.Text.{is_host_letter, is_user_letter, is_print_letter}

-- one or more octets without LF
abbrev pub IsLine : List ℕ → Type 0
IsLine s = (0 < length s) × IsTrue (list_all (is_kept is_line_feed) s)

-- what follows a line: the end, or an LF
abbrev pub EndsLine : List ℕ → Type 0
EndsLine [] = Unit {0}
EndsLine (b ∷ bs) = b ≡ 10

-- a text is cut into these lines: each stands after LFs or none, and ends at an LF or with the text
abbrev pub AreLines : List (List ℕ) → List ℕ → Type 0
AreLines [] text = IsTrue (list_all is_line_feed text)
AreLines (line ∷ lines) text =
    (feeds : List ℕ) × (rest : List ℕ) × (text ≡ feeds ++ (line ++ rest))
    × IsTrue (list_all is_line_feed feeds) × IsLine line × EndsLine rest × AreLines lines rest

-- whether a line's letter passes the test
abbrev pub is_led : (ℕ → Bool) → List ℕ → Bool
is_led test [] = false
is_led test (letter ∷ operand) = test letter

abbrev pub NoneLed : (ℕ → Bool) → List (List ℕ) → Type 0
NoneLed test lines = IsTrue (list_all (λ line. not (is_led test line)) lines)

-- the first line whose letter passes the test has this operand, or there is no such line
abbrev pub IsFirst : (ℕ → Bool) → List (List ℕ) → Option (List ℕ) → Type 0
IsFirst test lines None = NoneLed test lines
IsFirst test lines (Some operand) =
    (before : List (List ℕ)) × (letter : ℕ) × (after : List (List ℕ))
    × (lines ≡ before ++ (letter ∷ operand) ∷ after) × IsTrue (test letter) × NoneLed test before

-- the lines whose letters pass the test have these operands, in order
abbrev pub AreOperands : (ℕ → Bool) → List (List ℕ) → List (List ℕ) → Type 0
AreOperands test [] lines = NoneLed test lines
AreOperands test (operand ∷ operands) lines =
    (before : List (List ℕ)) × (letter : ℕ) × (after : List (List ℕ))
    × (lines ≡ before ++ (letter ∷ operand) ∷ after) × IsTrue (test letter) × NoneLed test before
    × AreOperands test operands after

-- what stands in a text: its lines, the operand of the first line for a host and of the first for a user, where there
-- are such lines, and the names of the lines that print
pub record Parts (text : List ℕ) : Type 0 where
  pub lines : List (List ℕ)
  pub host : Option (List ℕ)
  pub user : Option (List ℕ)
  pub names : List (List ℕ)
  pub cut : AreLines lines text
  pub first_host : IsFirst is_host_letter lines host
  pub first_user : IsFirst is_user_letter lines user
  pub printed : AreOperands is_print_letter names lines

-- the lengths that a text may have, in octets
abbrev pub IsTextLength : ℕ → Type 0
IsTextLength n = (0 < n) × (n ≤ MAX_CONTROL_TEXT)

-- there is a host, or a user, and its length is fit
abbrev pub IsFit : Option (List ℕ) → Type 0
IsFit operand = IsSomeAnd operand (λ octets. IsTrue (is_operand_len (length octets)))

-- a text of a fit length whose host and user have fit lengths too
abbrev pub IsSent : (text : List ℕ) → Parts text → Type 0
IsSent text parts = IsTextLength (length text) × IsFit parts.host × IsFit parts.user

-- under the name of its control file, the text says this
pub record MeansControl (name text : List ℕ) (contents : Contents) : Type 0 where
  pub parts : Parts text
  pub sent : IsSent text parts
  pub some : 0 < length parts.names
  pub few : length parts.names ≤ MAX_PRINTS
  pub data_names : IsTrue (list_all is_data_name parts.names)
  pub host : parts.host ≡ Some contents.host
  pub user : parts.user ≡ Some contents.user
  pub number : contents.number ≡ number_of name
  pub prints : contents.prints ≡ parts.names

-- this refusal's fault is in the text, and none that is tested earlier
abbrev pub RefusesControl : List ℕ → Refusal → Type 0
RefusesControl text BadLength =
    (IsTextLength (length text) → ⊥)
    ⊎ ((parts : Parts text) × IsTextLength (length text) × IsSome parts.host × IsSome parts.user
    × ((IsFit parts.host → ⊥) ⊎ (IsFit parts.user → ⊥)))
RefusesControl text NoHost = (parts : Parts text) × IsTextLength (length text) × (parts.host ≡ None)
RefusesControl text NoUser =
    (parts : Parts text) × IsTextLength (length text) × IsSome parts.host × (parts.user ≡ None)
RefusesControl text NoPrintLine = (parts : Parts text) × IsSent text parts × (parts.names ≡ [])
RefusesControl text TooManyPrints =
    (parts : Parts text) × IsSent text parts × (MAX_PRINTS < length parts.names)
RefusesControl text BadName =
    (parts : Parts text) × IsSent text parts × (0 < length parts.names)
    × (length parts.names ≤ MAX_PRINTS) × (list_all is_data_name parts.names ≡ false)
RefusesControl text _ = ⊥
