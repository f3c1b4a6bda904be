-- Kinds of octets.
use Rattle.std.specs.Prelude.{ℕ, Bool, ◌==◌, ◌||◌, ◌&&◌, nat_le}

-- white space: space, horizontal tab, vertical tab, form feed
abbrev pub is_space : ℕ → Bool
is_space b = b == 32 || b == 9 || b == 11 || b == 12

-- what a word is made of: 21 to 7E and 80 to FF in hexadecimal
abbrev pub is_word_octet : ℕ → Bool
is_word_octet b = nat_le 33 b && nat_le b 126 || nat_le 128 b

-- what a line is made of, after its code
abbrev pub is_text_octet : ℕ → Bool
is_text_octet b = is_word_octet b || is_space b

abbrev pub is_digit : ℕ → Bool
is_digit b = nat_le 48 b && nat_le b 57

abbrev pub is_letter : ℕ → Bool
is_letter b = nat_le 65 b && nat_le b 90 || nat_le 97 b && nat_le b 122
