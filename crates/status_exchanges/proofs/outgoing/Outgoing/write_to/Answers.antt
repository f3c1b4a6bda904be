use Rattle.std.proofs.Common.{◌≡◌, ◌≤◌, ◌-◌, List, ℕ, take, drop, length, sym, ◌∙◌, subst}
use Rattle.std.proofs.lemmas.List.{length-take-le}
use Rattle.std.specs.Prelude.{string_bytes}
use Rattle.status_exchanges.proofs.RestLemmas.{front_gone, whole_rest}
use Rattle.status_exchanges.proofs.outgoing.Outgoing.write_to.Goals as goal

pub returns-clause-goes : goal.returns-clause-goes
returns-clause-goes g c =
    let sent = c.self.inside.sent in
    let n = c.in_ok-count.count in
    let bytes = string_bytes c.self.inside.response in
    let asked = c.as_bytes.result.now in
    let all : asked ≡ bytes = c.as_bytes.ensures.value in
    let bound : n ≤ length (take (length asked - sent) (drop sent asked)) = c.in_ok-count.ensures.bound in
    let within : n ≤ length (drop sent bytes) =
    subst (λ (v : List ℕ). n ≤ length (drop sent v)) all (subst (λ (v : List ℕ). n ≤ length v) (whole_rest asked sent) bound) in
    (take n (drop sent bytes), length-take-le n (drop sent bytes) within, sym c.self.view_is ∙ front_gone n sent bytes)
