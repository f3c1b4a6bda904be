-- What a terminal is shown of octets that strangers sent.
use Rattle.std.specs.Prelude.{◌≡◌, ◌+◌, ◌-◌, ◌++◌, ◌∷◌, [], ℕ, zero, suc, Bool, true, false, List, Option}
use Rattle.std.specs.Prelude.{◌==◌, ◌&&◌, ◌||◌, nat_le, if◌then◌else◌}
use Rattle.control_lines.specs.Escapes.{escaped}
use Rattle.lpd_commands.specs.Ends.{Writes}
use Rattle.terminal_writer.specs.declared.terminal.Front.{Front}
use Rattle.terminal_writer.specs.declared.terminal.Front.TheVariants.{Visible, Hidden, Cut}

-- the number is one of this range
abbrev pub is_among : (least most b : ℕ) → Bool
is_among least most b = nat_le least b && nat_le b most

-- an octet of ASCII that is no control, or a line feed
abbrev pub is_plain : ℕ → Bool
is_plain b = b == 10 || is_among 32 126 b

-- an octet behind the second one of a character in UTF-8
abbrev pub is_trail : ℕ → Bool
is_trail b = is_among 128 191 b

-- the least octet behind a first one: that of UTF-8 (Unicode, table 3-7), and behind C2 that of U+00A0, since those before are controls
abbrev pub least_second : ℕ → ℕ
least_second a = if a == 194 || a == 224 then 160 else (if a == 240 then 144 else 128)

-- the greatest one
abbrev pub most_second : ℕ → ℕ
most_second a = if a == 237 then 159 else (if a == 244 then 143 else 191)

-- a visible character of several octets may begin with this octet
abbrev pub is_lead : ℕ → Bool
is_lead a = is_among 194 244 a

-- a visible character of several octets may begin with these two
abbrev pub may_begin : (a b : ℕ) → Bool
may_begin a b = is_lead a && is_among (least_second a) (most_second a) b

-- how many octets stand behind the second one of a character that begins with this octet
abbrev pub behind_second : ℕ → ℕ
behind_second a = if nat_le a 223 then 0 else (if nat_le a 239 then 1 else 2)

-- so many octets at the front stand behind the second one of a character
abbrev pub has_trails : ℕ → List ℕ → Bool
has_trails zero bs = true
has_trails (suc k) [] = false
has_trails (suc k) (b ∷ bs) = is_trail b && has_trails k bs

-- all octets stand behind the second one of a character, and are fewer than so many
abbrev pub lacks_trails : ℕ → List ℕ → Bool
lacks_trails zero bs = false
lacks_trails (suc k) [] = true
lacks_trails (suc k) (b ∷ bs) = is_trail b && lacks_trails k bs

-- how many octets the visible character at the front has; 0 where none stands there
abbrev pub visible_length : List ℕ → ℕ
visible_length [] = 0
visible_length (a ∷ []) = if is_plain a then 1 else 0
visible_length (a ∷ b ∷ bs) =
    if is_plain a then 1
    else (if may_begin a b && has_trails (behind_second a) bs then 2 + behind_second a else 0)

-- the octets are nothing, or begin a visible character and end before it does
abbrev pub is_cut : List ℕ → Bool
is_cut [] = true
is_cut (a ∷ []) = is_lead a
is_cut (a ∷ b ∷ bs) = may_begin a b && lacks_trails (behind_second a) bs

-- what stands at the front by two octets that may begin a character, and those behind them, of which it has so many
abbrev pub front_behind : ℕ → List ℕ → Front
front_behind count bs =
    if has_trails count bs then Visible (2 + count) else (if lacks_trails count bs then Cut else Hidden)

-- what stands at the front
abbrev pub front_of : List ℕ → Front
front_of octets =
    if is_cut octets then Cut
    else (if visible_length octets == 0 then Hidden else Visible (visible_length octets))

-- what is shown of octets of which this many at the front belong to a visible character: each visible character as it is, and each other
-- octet by its digits
abbrev pub shown_behind : ℕ → List ℕ → List ℕ
shown_behind k [] = []
shown_behind (suc k) (b ∷ bs) = b ∷ shown_behind k bs
shown_behind zero (b ∷ bs) =
    if visible_length (b ∷ bs) == 0 then escaped (b ∷ []) ++ shown_behind 0 bs
    else b ∷ shown_behind (visible_length (b ∷ bs) - 1) bs

-- what is shown of a text
abbrev pub shown : List ℕ → List ℕ
shown text = shown_behind 0 text

-- each octet by its digits
abbrev pub digits_of : List ℕ → List ℕ
digits_of [] = []
digits_of (b ∷ bs) = escaped (b ∷ []) ++ digits_of bs

-- of a text this is shown, and this is left, whatever comes behind it: nothing or a character that isn't whole
abbrev pub ShowsUpTo : (text out left : List ℕ) → Type 0
ShowsUpTo text out left =
    (is_cut left ≡ true) × ((rest : List ℕ) → shown (text ++ rest) ≡ out ++ shown (left ++ rest))

-- a writer wrote what is shown up to there
abbrev pub WritesShown : (was now : Option (List ℕ)) → (text left : List ℕ) → Type 0
WritesShown was now text left = (out : List ℕ) × Writes was now out × ShowsUpTo text out left
