-- How a text's characters are written in HTML, and as the value of a Prometheus label.
use Rattle.std.specs.Prelude.{ℕ, ◌+◌, Bool, ◌&&◌, ◌||◌, List, [], ◌∷◌, ◌==◌, nat_lt, nat_le, if◌then◌else◌, codes}
use Rattle.std.specs.List.{flat_map}
use Rattle.std.specs.Str.{encode_utf8_all}
use Rattle.html_text.specs.declared.form.Form.{Form}
use Rattle.html_text.specs.declared.form.Form.TheVariants.{Html, Label}

abbrev pub is_between : ℕ → ℕ → ℕ → Bool
is_between low high c = nat_le low c && nat_le c high

-- a control, which HTML doesn't show, or a mark by which what follows runs the other way (Unicode's bidirectional controls)
abbrev pub is_hidden : ℕ → Bool
is_hidden c = nat_lt c 32 || is_between 127 159 c || is_between 0x200E 0x200F c || is_between 0x202A 0x202E c || is_between 0x2066 0x2069 c

-- the picture of a control that has one, or the replacement character
abbrev pub picture : ℕ → ℕ
picture c = if nat_lt c 32 then 0x2400 + c else if c == 127 then 0x2421 else 0xFFFD

-- The five characters that mean something in HTML are written as entities, and what is hidden as what shows it.
abbrev pub html_char : ℕ → List ℕ
html_char c =
    if c == 60 then codes "&lt;"
    else if c == 62 then codes "&gt;"
    else if c == 38 then codes "&amp;"
    else if c == 34 then codes "&quot;"
    else if c == 39 then codes "&#39;"
    else if is_hidden c then picture c ∷ []
    else c ∷ []

-- The characters that the value of a label has to escape (Prometheus's text format 0.0.4).
abbrev pub label_char : ℕ → List ℕ
label_char c =
    if c == 34 then codes "\\\""
    else if c == 92 then codes "\\\\"
    else if c == 10 then codes "\\n"
    else c ∷ []

-- the octets of a character, as it is written in HTML and in a label's value
abbrev pub html_octets : ℕ → List ℕ
html_octets c = encode_utf8_all (html_char c)

abbrev pub label_octets : ℕ → List ℕ
label_octets c = encode_utf8_all (label_char c)

abbrev pub written_char : Form → ℕ → List ℕ
written_char Html c = html_char c
written_char Label c = label_char c

-- a text's characters, written
abbrev pub written : Form → List ℕ → List ℕ
written form cs = flat_map (written_char form) cs
