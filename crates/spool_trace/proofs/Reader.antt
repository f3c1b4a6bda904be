-- A reader of octets stands where its session does.
use Rattle.std.proofs.Common.{◌≡◌, ℕ, List, [], ◌++◌, drop, Some, None, refl, ap, subst, arith, ◌∙◌, append_assoc, append-nil}
use Rattle.std.proofs.lemmas.List.{drop_all}
use Rattle.receiver.specs.Script as script
use Rattle.receiver.specs.Script.{Yes, Ticket, Later, Stored, Received, Refused}
use Rattle.receiver.specs.Reading.{Progress, Kind, Admission, Opening, Lending, Ending, Aborting, Plain, Due, Waits, Ends, Writes, Requests, due, answered, kind_of}
use Rattle.receiver.specs.View.{Gives}
use Rattle.receiver.specs.declared.need.Need.{Need}
use Rattle.spool_trace.specs.Sessions.{Session, reply_of}
use Rattle.spool_trace.specs.Reading.{Stands, Follows, ReaderIsAtDue, AdvanceFollows, ArrivalFollows}

-- an answer leaves a state without a tail so, and owes nothing
cleared : (kind : Kind) (x : script.Reply) (p : Progress) → p.tail ≡ [] → ((answered kind x p).owed ≡ None) × (record (answered kind x p) { tail = [] } ≡ answered kind x (record p { tail = [] })) × ((answered kind x p).tail ≡ [])
cleared kind (Ticket size) p e = (refl, refl, e)
cleared kind Later p e = (refl, refl, e)
cleared kind Stored p e = (refl, refl, e)
cleared kind Received p e = (refl, refl, e)
cleared kind (Refused n) p e = (refl, refl, e)
cleared (Admission queue) Yes p e = (refl, refl, e)
cleared Opening Yes p e = (refl, refl, e)
cleared Lending Yes p e = (refl, refl, e)
cleared Ending Yes p e = (refl, refl, e)
cleared Aborting Yes p e = (refl, refl, e)
cleared Plain Yes p e = (refl, refl, e)

follows : (p new : Progress) (waiting : List ℕ) (n : ℕ) (want : Need) (s : Session) → Stands p waiting s → (d : Due) → Gives p waiting n want new d → Follows d new (drop n waiting) want s
follows p new waiting n want s h Waits g =
    (g.0, rw (g.2, drop_all n waiting (omega (arith, g.1))) (record { owed = h.owed; progress = h.progress; unread = rw append-nil h.unread }))
follows p new waiting n want s h Ends g = (g.0, rw (g.1, g.2) h)
follows p new waiting n want s h (Writes w items text) g =
    (g.0, rw g.3 (record { owed = h.owed; progress = ap {A = Progress} {B = Progress} (λ q. record q { items = items; tail = [] }) h.progress; unread = g.2 }))
follows p new waiting n want s h (Requests r items text) g = (
  g.0,
  λ answer.
      let q : Progress = record p { items = items; owed = Some (kind_of r); tail = [] } in
      let k = cleared (kind_of r) (reply_of answer) q refl in
      rw g.3 (record {
        owed = k.0;
        progress = k.1 ∙ ap {A = Progress} {B = Progress} (λ x. answered (kind_of r) (reply_of answer) (record x { items = items; tail = [] })) h.progress;
        unread = rw k.2 g.2;
      }),
)

pub at_due : ReaderIsAtDue
at_due p waiting s h = rw (← h.progress, ← h.unread) refl

pub advances : AdvanceFollows
advances p new waiting n want s h g =
    let e = at_due p waiting s h in
    subst (λ d. Follows d new (drop n waiting) want s) e (follows p new waiting n want s h (due p (p.tail ++ waiting)) g)

pub arrives : ArrivalFollows
arrives p waiting octets s h = record { owed = h.owed; progress = h.progress; unread = rw (← append_assoc p.tail waiting octets, h.unread) refl }
