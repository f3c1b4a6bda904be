-- The kinds of events, their numbers, and sums of these.
use Rattle.std.specs.Prelude.{ℕ, ◌+◌, Bool, true, false, List, [], ◌∷◌, if◌then◌else◌}
use Rattle.spool_history.specs.Events as E
use Rattle.account.specs.declared.kind.Kind.{Kind}
use Rattle.account.specs.declared.kind.Kind.TheVariants as kind

abbrev pub act_kind : {C : Type 0} → E.Act C → Kind
act_kind E.Act.Granted = kind.Granted
act_kind (E.Act.Began name count) = kind.Began
act_kind (E.Act.Put file number page) = kind.Put
act_kind (E.Act.FileEnded file whole) = kind.FileEnded
act_kind (E.Act.Controlled control whole) = kind.Controlled
act_kind E.Act.Aborted = kind.Aborted

abbrev pub turn_kind : E.Turn → Kind
turn_kind E.Turn.Handed = kind.Handed
turn_kind (E.Turn.Printed progress) = kind.Printed
turn_kind E.Turn.Failed = kind.Failed

abbrev pub kind_of : {C : Type 0} → E.Event C → Kind
kind_of (E.Event.Opened job sender queue) = kind.Opened
kind_of (E.Event.OfJob job act) = act_kind act
kind_of (E.Event.AtPrinter printer sheet turn) = turn_kind turn
kind_of (E.Event.Removed queue jobs) = kind.Removed
kind_of (E.Event.Started queue) = kind.Started
kind_of E.Event.Closed = kind.Closed

abbrev pub number_of : Kind → ℕ
number_of kind.Opened = 1
number_of kind.Granted = 2
number_of kind.Began = 3
number_of kind.Put = 4
number_of kind.FileEnded = 5
number_of kind.Controlled = 6
number_of kind.Aborted = 7
number_of kind.Handed = 8
number_of kind.Printed = 9
number_of kind.Failed = 10
number_of kind.Started = 11
number_of kind.Removed = 12
number_of kind.Closed = 13

-- whether pages are handed out by events of this kind
abbrev pub is_handed_kind : Kind → Bool
is_handed_kind kind.Handed = true
is_handed_kind _ = false

-- the sum of the numbers of the kinds of these events
abbrev pub kinds_in : {C : Type 0} → List (E.Event C) → ℕ
kinds_in [] = 0
kinds_in (e ∷ h) = number_of (kind_of e) + kinds_in h

-- how many of these events are of the kind Handed
abbrev pub handed_in : {C : Type 0} → List (E.Event C) → ℕ
handed_in [] = 0
handed_in (e ∷ h) = (if is_handed_kind (kind_of e) then 1 else 0) + handed_in h
