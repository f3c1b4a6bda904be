-- What is read and written of an answer, one piece after another.
use Rattle.std.proofs.Common.{◌≡◌, ◌≢◌, ◌⊎◌, ◌<◌, ◌≤◌, ◌+◌, ◌++◌, ◌∷◌, ℕ, List, [], Option, Some, None, Result, Ok, Err, IfErr, inl, inr, append-nil, append_assoc, arith, drop, length, length-append, refl, subst, sym}
use Rattle.lpd_commands.specs.Ends.{IsReadOut, Reads, Took, Writes, WritesSome, one_more}
use Rattle.lpd_commands.proofs.Writing.{Took-append, Took-none, Writes-append, Writes-none, some_after}
use Rattle.lpr_client.specs.Asking.{HandsOn, HandsSomeOn, HasFailed, IsAsked, IsHandedOn, IsText, StopsAnswer, TookAll, TookOne, with_server}
use Rattle.lpr_client.specs.Sending.{writer_faults}
use Rattle.lpr_client.specs.declared.asking.AskFault.{AskFault}
use Rattle.lpr_client.specs.declared.asking.AskFault.TheVariants.{Server, Output}
use Rattle.lpr_client.specs.declared.send.SendFault.TheVariants.{Refused, Cut, ReadFault, WriteFault, Memory}

-- a read took what it gave
pub read_took : (left rest : Option (List ℕ)) (got : List ℕ) (room : ℕ) → Reads left rest got room → Took left rest got
read_took None rest got room r = r
read_took (Some old) rest got room r = (drop (length got) old, r.0, r.1)

-- a read that gives nothing, though there is room, is at the end
pub read_ends : (left rest : Option (List ℕ)) (room : ℕ) → Reads left rest [] room → 0 < room → (rest ≡ left) × IsReadOut rest
read_ends None rest room r some = (r, subst IsReadOut (sym r) tt)
read_ends (Some old) rest room r some = (r.1, subst IsReadOut (sym r.1) (r.2 refl some))

-- octets that were written whole are some of them
pub all_written : (was now : Option (List ℕ)) (octets : List ℕ) → Writes was now octets → WritesSome was now octets
all_written was now octets w =
    subst (WritesSome was now) (append-nil octets) (some_after was now now octets [] w (0, Writes-none now))

-- what was read and written so far, with so many reads
abbrev pub Hands : List ℕ → ℕ → (left mid was then_ : Option (List ℕ)) → Type 0
Hands head reads left mid was then_ =
    (octets : List ℕ) × Took left mid octets × Writes was then_ (head ++ octets) × (reads ≤ length octets)

pub hands_none : (head : List ℕ) (left was then_ : Option (List ℕ)) → Writes was then_ head → Hands head 0 left left was then_
hands_none head left was then_ w =
    ([], Took-none left, subst (Writes was then_) (sym (append-nil head)) w, omega arith)

-- one more piece
pub hands_more : (head got : List ℕ) (reads room : ℕ) (left mid rest was then_ now : Option (List ℕ)) → Hands head reads left mid was then_ → Reads mid rest got room
    → 0 < length got → Writes then_ now got → Hands head (reads + 1) left rest was now
hands_more head got reads room left mid rest was then_ now (octets, took, wrote, many) r some w =
    let more = length-append octets got in (
      octets ++ got,
      Took-append left mid rest octets got took (read_took mid rest got room r),
      subst (Writes was now) (append_assoc head octets got) (Writes-append was then_ now (head ++ octets) got wrote w),
      omega (arith, more, many, some),
    )

-- writing a piece failed
pub stops_writing : (head got : List ℕ) (reads room : ℕ) (left mid rest was then_ now : Option (List ℕ)) → Hands head reads left mid was then_ → Reads mid rest got room
    → WritesSome then_ now got → HandsSomeOn head left rest was now
stops_writing head got reads room left mid rest was then_ now (octets, took, wrote, many) r w = (
  octets ++ got,
  Took-append left mid rest octets got took (read_took mid rest got room r),
  subst (WritesSome was now) (append_assoc head octets got) (some_after was then_ now (head ++ octets) got wrote w),
)

-- reading failed
pub stops_reading : (head : List ℕ) (reads : ℕ) (left mid rest was now : Option (List ℕ)) → Hands head reads left mid was now → rest ≡ mid → HandsSomeOn head left rest was now
stops_reading head reads left mid rest was now (octets, took, wrote, many) same =
    (octets, subst (λ r. Took left r octets) (sym same) took, all_written was now (head ++ octets) wrote)

-- reading ended
pub hands_all : (head : List ℕ) (reads room : ℕ) (left mid rest was now : Option (List ℕ)) → Hands head reads left mid was now → Reads mid rest [] room → 0 < room → HandsOn head left rest was now
hands_all head reads room left mid rest was now (octets, took, wrote, many) r some =
    let ends = read_ends mid rest room r some in
    (octets, (subst (λ r. Took left r octets) (sym ends.0) took, ends.1), wrote)

one_is_text : (first : ℕ) (octets : List ℕ) → 32 ≤ first → IsText (first ∷ octets)
one_is_text first [] h = h
one_is_text first (next ∷ octets) h = tt

-- a first octet that a text begins with, and what follows it
pub text_after_one : (first : ℕ) (left mid rest was now : Option (List ℕ)) → 32 ≤ first → Took left mid (first ∷ []) → HandsOn (first ∷ []) mid rest was now → IsHandedOn left rest was now
text_after_one first left mid rest was now h one (octets, took, wrote) =
    (first ∷ octets, (Took-append left mid rest (first ∷ []) octets one took.0, took.1), one_is_text first octets h, wrote)

-- two octets, and what follows them
pub text_after_two : (first second : ℕ) (left next mid rest was now : Option (List ℕ)) → Took left next (first ∷ []) → Took next mid (second ∷ []) → HandsOn (first ∷ second ∷ []) mid rest was now
    → IsHandedOn left rest was now
text_after_two first second left next mid rest was now one two (octets, took, wrote) =
    (first ∷ second ∷ octets, (Took-append left mid rest (first ∷ second ∷ []) octets (Took-append left next mid (first ∷ []) (second ∷ []) one two) took.0, took.1), tt, wrote)

-- octets that were read before, and of them and what follows them some were written
pub some_after_head : (head : List ℕ) (left mid rest was now : Option (List ℕ)) → Took left mid head → HandsSomeOn head mid rest was now → HandsSomeOn [] left rest was now
some_after_head head left mid rest was now before (octets, took, wrote) =
    (head ++ octets, Took-append left mid rest head octets before took, wrote)

-- such an answer stops by a fault of the reader or the output
pub stops_by : (fault : AskFault) (left rest was now : Option (List ℕ)) → (fault ≡ Server ReadFault) ⊎ (fault ≡ Output) → HandsSomeOn [] left rest was now → StopsAnswer fault left rest was now
stops_by fault left rest was now (inl is) some =
    subst (λ f. StopsAnswer f left rest was now) (sym is) some
stops_by fault left rest was now (inr is) some =
    subst (λ f. StopsAnswer f left rest was now) (sym is) some

-- reading failed once these octets were read, of which none was written
pub stops_before : (head : List ℕ) (left mid rest was : Option (List ℕ)) → Took left mid head → rest ≡ mid → HandsSomeOn [] left rest was was
stops_before head left mid rest was before same =
    (head, subst (λ r. Took left r head) (sym same) before, (0, Writes-none was))

-- no octets more were read, and none is left
pub took_all : (head : List ℕ) (left mid rest : Option (List ℕ)) → Took left mid head → TookOne None mid rest → TookAll left rest head
took_all head left mid rest before none =
    (subst (λ r. Took left r head) (sym none.0) before, none.1)

-- reading fails after these octets
pub failed_after : (head : List ℕ) (before old new : ℕ) (left mid rest : Option (List ℕ)) → Took left mid head → old ≡ before → HasFailed old new mid rest → HasFailed before new left rest
failed_after head before old new left mid rest took same (inl once) =
    inl (subst (λ n. new ≡ one_more n) same once)
failed_after head before old new left mid rest took same (inr (octets, more, many)) =
    let all = length-append head octets in
    inr (head ++ octets, Took-append left mid rest head octets took more, omega (arith, many, all))

-- writing the first octets failed
pub stops_at_once : (head : List ℕ) (left was now : Option (List ℕ)) → WritesSome was now head → HandsSomeOn head left left was now
stops_at_once head left was now w =
    ([], Took-none left, subst (WritesSome was now) (sym (append-nil head)) w)

-- the line of a question was written, and writing it isn't what failed then
pub line_asked : (line : List ℕ) (r : Result (Unit {0}) AskFault) (was now : Option (List ℕ)) → IfErr r (λ fault. fault ≢ Server WriteFault) → Writes was now line → IsAsked line (with_server r) was now
line_asked line (Ok done) was now other w = w
line_asked line (Err (Server (Refused octet))) was now other w = w
line_asked line (Err (Server Cut)) was now other w = w
line_asked line (Err (Server ReadFault)) was now other w = w
line_asked line (Err (Server WriteFault)) was now other w = absurd (other refl)
line_asked line (Err (Server Memory)) was now other w = w
line_asked line (Err Output) was now other w = w

pub line_faults : (r : Result (Unit {0}) AskFault) (before after : ℕ) → IfErr r (λ fault. fault ≢ Server WriteFault) → after ≡ before → after ≡ writer_faults (with_server r) before
line_faults (Ok done) before after other same = same
line_faults (Err (Server (Refused octet))) before after other same = same
line_faults (Err (Server Cut)) before after other same = same
line_faults (Err (Server ReadFault)) before after other same = same
line_faults (Err (Server WriteFault)) before after other same = absurd (other refl)
line_faults (Err (Server Memory)) before after other same = same
line_faults (Err Output) before after other same = same
