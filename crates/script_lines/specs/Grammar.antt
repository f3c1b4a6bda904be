-- What the lines of a script mean.
use Rattle.std.specs.Prelude.{◌≡◌, ◌<◌, ◌≤◌, ◌⊎◌, ◌++◌, ℕ, Bool, true, List, [], ◌∷◌, length, codes, fold}
use Rattle.std.specs.Prelude.{◌&&◌, ◌==◌, nat_le, not, ◌+◌, ◌-◌, ◌*◌, Result, Ok, MatchResult}
use Rattle.std.specs.List.{list_all}
use Rattle.hex.specs.Hex.{decode_of}
use Rattle.script_lines.specs.declared.script.ScriptLine.{ScriptLine}
use Rattle.script_lines.specs.declared.script.ScriptLine.TheVariants.{Nothing, Connect, Send, Go, Break}
use Rattle.script_lines.specs.declared.script.ScriptLine.TheVariants.{Next, Printed, Failed, Free, Pages, Shutdown}
use Rattle.script_lines.specs.declared.script.LineFault.{LineFault}
use Rattle.script_lines.specs.declared.script.LineFault.TheVariants.{Bad, Memory}

-- what a host's name is made of: 21 to 7E in hexadecimal
abbrev pub is_host_octet : ℕ → Bool
is_host_octet b = nat_le 33 b && nat_le b 126

-- a host's name has 1 to 64 octets
abbrev pub IsHost : List ℕ → Type 0
IsHost name = (0 < length name) × (length name ≤ 64) × (list_all is_host_octet name ≡ true)

abbrev pub is_digit : ℕ → Bool
is_digit b = nat_le 48 b && nat_le b 57

-- the number that decimal digits are
abbrev pub decimal_of : List ℕ → ℕ
decimal_of digits = fold (λ n d. 10 * n + (d - 48)) 0 digits

-- these 1 to 9 decimal digits are this number, which isn't 0
abbrev pub IsNumber : List ℕ → ℕ → Type 0
IsNumber digits n =
    (0 < length digits) × (length digits ≤ 9) × (list_all is_digit digits ≡ true)
    × (n ≡ decimal_of digits) × (0 < n)

-- these hexadecimal digits, two or more and an even number of them, are these octets
abbrev pub IsHex : List ℕ → List ℕ → Type 0
IsHex digits octets = (0 < length digits) × (decode_of digits ≡ Ok octets)

-- the line is these letters and then the digits of this number
abbrev pub IsNumbered : List ℕ → List ℕ → ℕ → Type 0
IsNumbered letters line n = (digits : List ℕ) × (line ≡ letters ++ digits) × IsNumber digits n

-- a line (without its LF) means this
abbrev pub Means : List ℕ → ScriptLine → Type 0
Means line Nothing = (line ≡ []) ⊎ ((rest : List ℕ) × (line ≡ codes "#" ++ rest))
Means line (Connect host) = (line ≡ codes "connect " ++ host) × IsHost host
Means line (Send session octets) =
    (number : List ℕ) × (digits : List ℕ) × (line ≡ codes "send " ++ (number ++ 32 ∷ digits))
    × IsNumber number session × IsHex digits octets
Means line (Go session) = IsNumbered (codes "go ") line session
Means line (Break session) = IsNumbered (codes "break ") line session
Means line (Next printer) = IsNumbered (codes "next ") line printer
Means line (Printed printer) = IsNumbered (codes "printed ") line printer
Means line (Failed printer) = IsNumbered (codes "failed ") line printer
Means line Free = line ≡ codes "free"
Means line Pages = line ≡ codes "pages"
Means line Shutdown = line ≡ codes "shutdown"

-- the line is no line of a script
abbrev pub MeansNothing : List ℕ → Type 0
MeansNothing line = (meaning : ScriptLine) → Means line meaning → ⊥

-- the line means something that has octets of its own: a host's name, or what is sent
abbrev pub HasOctets : List ℕ → Type 0
HasOctets line =
    ((host : List ℕ) × Means line (Connect host))
    ⊎ ((session : ℕ) × (octets : List ℕ) × Means line (Send session octets))

-- bad is a line that means nothing, and memory is wanted only for octets
abbrev pub RefusesLine : List ℕ → LineFault → Type 0
RefusesLine line Bad = MeansNothing line
RefusesLine line Memory = HasOctets line

-- the line doesn't begin with these letters
abbrev pub Lacks : List ℕ → List ℕ → Type 0
Lacks letters line = (rest : List ℕ) → line ≡ letters ++ rest → ⊥

-- a line that isn't empty, a comment, or a word alone
abbrev pub HasOperand : List ℕ → Type 0
HasOperand line =
    (line ≡ [] → ⊥) × Lacks (codes "#") line × (line ≡ codes "free" → ⊥)
    × (line ≡ codes "pages" → ⊥) × (line ≡ codes "shutdown" → ⊥)

-- such a line that doesn't connect or send
abbrev pub IsOther : List ℕ → Type 0
IsOther line = HasOperand line × Lacks (codes "connect ") line × Lacks (codes "send ") line

-- these digits are no number
abbrev pub IsNoNumber : List ℕ → LineFault → Type 0
IsNoNumber digits fault = (fault ≡ Bad) × ((n : ℕ) → IsNumber digits n → ⊥)

-- these digits are no octets, or memory is wanted for them
abbrev pub RefusesHex : List ℕ → LineFault → Type 0
RefusesHex digits Bad = (octets : List ℕ) → IsHex digits octets → ⊥
RefusesHex digits Memory = (octets : List ℕ) × IsHex digits octets

abbrev pub is_no_space : ℕ → Bool
is_no_space b = not (b == 32)

abbrev pub HasNoSpace : List ℕ → Type 0
HasNoSpace text = list_all is_no_space text ≡ true

-- the text is cut at its first space
abbrev pub IsAtSpace : List ℕ → List ℕ → List ℕ → Type 0
IsAtSpace text before rest = (text ≡ before ++ 32 ∷ rest) × HasNoSpace before

-- a reader's answer: the meaning, or why there is none
abbrev pub AnswersLine : List ℕ → Result ScriptLine LineFault → Type 0
AnswersLine line result = MatchResult result (Means line) (RefusesLine line)
