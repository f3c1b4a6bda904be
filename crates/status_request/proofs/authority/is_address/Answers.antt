use Rattle.std.proofs.lemmas.Bool.{false≢true}
use Rattle.status_request.proofs.authority.is_address.Goals as goal

pub returns-in-Err : goal.returns-in-Err
returns-in-Err c =
    let unspelled = rw c.in-Err.is at c.parse_ascii.ensures in
    (λ h. absurd (false≢true h), λ spelled. absurd (unspelled spelled.0 spelled.1))
