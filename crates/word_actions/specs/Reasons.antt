-- What a server may have meant that didn't take a job or a question.
use Rattle.std.specs.Prelude.{ℕ, ◌==◌, List, Option, Some, None, codes, if◌then◌else◌}
use Rattle.lpr_client.specs.declared.send.SendFault.{SendFault}
use Rattle.lpr_client.specs.declared.send.SendFault.TheVariants.{Refused, Cut, ReadFault, WriteFault, Memory}

-- 1 is for good, 2 for now, and all others say nothing
abbrev pub octet_reason : ℕ → List ℕ
octet_reason octet =
    if octet == 1 then codes "it won't take this: it has no such queue, or the job is larger than the queue's limit"
    else (if octet == 2 then codes "it can't take this now: try again later" else codes "it didn't take this, and gave no known reason")

abbrev pub reason_of : SendFault → Option (List ℕ)
reason_of (Refused octet) = Some (octet_reason octet)
reason_of Cut = Some (codes "it ended the connection without an answer: it may not let this address in")
reason_of ReadFault = None
reason_of WriteFault = None
reason_of Memory = None
