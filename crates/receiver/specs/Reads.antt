-- Which outputs a text and answers decide.
use Rattle.std.specs.Prelude.{◌≡◌, ℕ, Bool, true, false, List, [], ◌∷◌, ◌++◌, Option, Some, None, ◌⊎◌}
use Rattle.lpd_values.specs.declared.refusal.Refusal.TheVariants.{Memory}
use Rattle.receiver.specs.Script.{Request, Queue, Open, Control, StartPrinters, QueueState, RemoveJobs, Fault, Output, Wrote, Asked, Reply}
use Rattle.receiver.specs.Reading.{Kind, kind_of, Progress, Due, Waits, Ends, Writes, Requests, due, answered}

-- memory is taken for what a line or a control text that has ended holds, and for nothing else
abbrev pub takes_memory : Request → Bool
takes_memory (Queue queue) = true
takes_memory (Open queue) = true
takes_memory (Control contents) = true
takes_memory (StartPrinters queue) = true
takes_memory (QueueState queue list long) = true
takes_memory (RemoveJobs queue agent list) = true
takes_memory _ = false

abbrev pub TakesMemory : Due → Type 0
TakesMemory Waits = ⊥
TakesMemory Ends = ⊥
TakesMemory (Writes w items t) = ⊥
TakesMemory (Requests r items t) = takes_memory r ≡ true

-- where nothing is due
abbrev pub Rests : Due → Type 0
Rests Waits = Unit {0}
Rests Ends = Unit {0}
Rests (Writes w items t) = ⊥
Rests (Requests r items t) = ⊥

-- o is what is due, and the outputs after it go on as next says
abbrev pub GoesOn :
    (Progress → List ℕ → List Reply → Type 0) → Type 0 → Progress → Output → List Reply → Due →
    Type 0
GoesOn next last s o a Waits = ⊥
GoesOn next last s o a Ends = ⊥
GoesOn next last s o a (Writes w items t) =
    (o ≡ Wrote w) × next (record s { items = items; tail = [] }) t a
GoesOn next last s o [] (Requests r items t) = (o ≡ Asked r) × last
GoesOn next last s o (x ∷ a) (Requests r items t) =
    (o ≡ Asked r) × next (answered (kind_of r) x (record s { items = items; tail = [] })) t a

-- From s, the text t and the answers a decide these outputs and no others. Where memory is short,
-- the refusal Memory may stand in place of a request that takes memory.
abbrev pub Reads : Bool → List Output → Progress → List ℕ → List Reply → Type 0
Reads short [] s t a = Rests (due s t)
Reads short (o ∷ os) s t a =
    GoesOn (Reads short os) (os ≡ []) (record s { tail = [] }) o a (due s t)
    ⊎ ((short ≡ true) × (o ≡ Wrote (Fault Memory)) × (os ≡ []) × TakesMemory (due s t))

-- the same from where a tail was read, and an answer may be owed
abbrev pub ReadsOwed : Bool → List Output → Progress → List ℕ → List Reply → Option Kind → Type 0
ReadsOwed short os s t a None = Reads short os s t a
ReadsOwed short os s t [] (Some kind) = os ≡ []
ReadsOwed short os s t (x ∷ a) (Some kind) = Reads short os (answered kind x s) t a

abbrev pub ReadsFrom : Bool → List Output → Progress → List ℕ → List Reply → Type 0
ReadsFrom short os s t a = ReadsOwed short os s (s.tail ++ t) a s.owed
