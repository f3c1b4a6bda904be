-- The word by which a layer above speaks of all that came before.
use Rattle.std.specs.Prelude.{ℕ, true, List, [], ◌++◌, ◌∷◌}
use Rattle.receiver.specs.Script.{Output, Reply}
use Rattle.receiver.specs.Reading.{Progress, start}
use Rattle.receiver.specs.Reads.{ReadsFrom}

-- All octets that arrived, `text`, and all answers gave these outputs, and led to s with this rest of the text
-- unread: whatever reading goes on from there is the end of one from the start.
abbrev pub Leads : List Output → List ℕ → List Reply → Progress → List ℕ → Type 0
Leads outputs text answers s rest =
    (t : List ℕ) (a : List Reply) (os : List Output) →
    ReadsFrom true os s (rest ++ t) a →
    ReadsFrom true (outputs ++ os) start (text ++ t) (answers ++ a)

-- a call of advance gave these outputs: what comes after it is the rest of what comes from before it
abbrev pub Advances : Progress → List ℕ → List Output → Progress → List ℕ → Type 0
Advances old input outputs new rest =
    (t : List ℕ) (a : List Reply) (os : List Output) →
    ReadsFrom true os new (rest ++ t) a → ReadsFrom true (outputs ++ os) old (input ++ t) a

-- a call of reply gave this answer
abbrev pub Replies : Progress → Reply → Progress → Type 0
Replies old x new =
    (t : List ℕ) (a : List Reply) (os : List Output) → ReadsFrom true os new t a →
    ReadsFrom true os old t (x ∷ a)

-- at first nothing has come
abbrev pub LeadsAtStart : Type 0
LeadsAtStart = Leads [] [] [] start []

-- one more piece arrives
abbrev pub LeadsOnArrival : Type 0
LeadsOnArrival =
    (os : List Output) (text : List ℕ) (a : List Reply) (s : Progress) (rest piece : List ℕ) →
    Leads os text a s rest → Leads os (text ++ piece) a s (rest ++ piece)

-- one more call of advance
abbrev pub LeadsOnAdvance : Type 0
LeadsOnAdvance =
    (os more : List Output) (text : List ℕ) (a : List Reply) (old new : Progress)
    (input rest : List ℕ) →
    Advances old input more new rest → Leads os text a old input →
    Leads (os ++ more) text a new rest

-- one more answer
abbrev pub LeadsOnReply : Type 0
LeadsOnReply =
    (os : List Output) (text : List ℕ) (a : List Reply) (old new : Progress) (rest : List ℕ)
    (x : Reply) →
    Replies old x new → Leads os text a old rest → Leads os text (a ++ x ∷ []) new rest

-- where nothing more is due, the outputs are a reading of all that arrived and was answered
abbrev pub LeadsToReading : Type 0
LeadsToReading =
    (os : List Output) (text : List ℕ) (a : List Reply) (s : Progress) (rest t : List ℕ)
    (b : List Reply) →
    Leads os text a s rest → ReadsFrom true [] s (rest ++ t) b →
    ReadsFrom true os start (text ++ t) (a ++ b)
