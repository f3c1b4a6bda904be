-- The two parts of a text: a configuration, and a script after the first line %%.
use Rattle.std.specs.Prelude.{◌≡◌, ◌≢◌, ◌⊎◌, ◌++◌, ◌==◌, ℕ, Bool, true, not, All, List, [], ◌∷◌, codes}
use Rattle.std.specs.List.{list_all}
use Rattle.lpd_script.specs.Scripts.{lines_of}

-- the line between a configuration and a script
abbrev pub mark : List ℕ
mark = codes "%%"

-- no line of a text is that line
abbrev pub HasNoMark : List ℕ → Type 0
HasNoMark text = All (λ line. line ≢ mark) (lines_of text)

-- a text of whole lines, each with its LF
abbrev pub AreWhole : List ℕ → Type 0
AreWhole text = (text ≡ []) ⊎ ((before : List ℕ) × (text ≡ before ++ 10 ∷ []))

-- the line %%, which may lack its LF where nothing follows, and what follows it
abbrev pub IsMarked : List ℕ → List ℕ → Type 0
IsMarked text script = (text ≡ mark ++ 10 ∷ script) ⊎ ((text ≡ mark) × (script ≡ []))

-- a text is a configuration, and where it has a line %% that line and a script
abbrev pub AreParts : List ℕ → List ℕ → List ℕ → Type 0
AreParts text config script =
    HasNoMark config
    × (((text ≡ config) × (script ≡ []))
    ⊎ (AreWhole config × ((rest : List ℕ) × (text ≡ config ++ rest) × IsMarked rest script)))

abbrev pub is_no_lf : ℕ → Bool
is_no_lf octet = not (octet == 10)

-- a text is cut behind its first line
abbrev pub IsCut : List ℕ → List ℕ → List ℕ → Type 0
IsCut text line rest =
    (list_all is_no_lf line ≡ true) × ((text ≡ line ++ 10 ∷ rest) ⊎ ((text ≡ line) × (rest ≡ [])))
