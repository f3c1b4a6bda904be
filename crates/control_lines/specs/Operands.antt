-- What follows the first word of a command.
use Rattle.std.specs.Prelude.{◌≡◌, ℕ, Bool, true, List, ◌∷◌, ◌++◌, ◌==◌, ◌&&◌, nat_le, length}
use Rattle.std.specs.List.{list_all}
use Rattle.lpd_values.specs.Kept.{is_operand}
use Rattle.lpd_values.specs.Pieces.{is_kept, begins_piece}
use Rattle.lpd_commands.specs.Written.{is_word}
use Rattle.control_lines.specs.declared.operands.TheConstants.{MAX_QUEUE_NAME}

abbrev pub is_blank : ℕ → Bool
is_blank b = b == 32

-- the name of a queue: a word that a command line of the protocol has room for
abbrev pub is_queue_name : List ℕ → Bool
is_queue_name s = is_word s && nat_le (length s) MAX_QUEUE_NAME

-- whose jobs are removed, or the number of one: 1 to MAX_OPERAND octets without LF, the first of which is no space
abbrev pub is_whom : List ℕ → Bool
is_whom s = is_operand s && begins_piece is_blank s

abbrev pub HasNoSpace : List ℕ → Type 0
HasNoSpace text = list_all (is_kept is_blank) text ≡ true

-- the text is cut at its first space
abbrev pub IsCut : List ℕ → List ℕ → List ℕ → Type 0
IsCut text word rest = (text ≡ word ++ 32 ∷ rest) × HasNoSpace word

-- the text doesn't begin with these octets
abbrev pub Lacks : List ℕ → List ℕ → Type 0
Lacks head text = (rest : List ℕ) → text ≡ head ++ rest → ⊥
