use Rattle.std.proofs.Common.{rules, ◌≡◌, ◌∷◌, [], true, false}
use Rattle.lpr_client.specs.Sendable.{is_named, is_sendable}
use Rattle.lpd_values.specs.Name.{IsFileName}
use Rattle.program_words.specs.Naming.{file_name}
use Rattle.program_words.proofs.EnvelopeLemmas.{bad_queue, control_named}
use Rattle.program_words.proofs.envelope.Envelope.new.Goals as goal

pub returns-then-not-branch-clause-fault : goal.returns-then-not-branch-clause-fault
returns-then-not-branch-clause-fault c =
    let control = c.in_ok-control.control in
    let refused : is_sendable c.args.sending.now.queue.now c.in_ok-name.name control [] ≡ false = search rules in
    let is : c.in_ok-name.name ≡ file_name (99 ∷ 102 ∷ 65 ∷ []) c.args.sending.now.number c.args.sending.now.host.now = search rules in
    let file : IsFileName c.in_ok-name.name = search rules in
    let named : is_named c.in_ok-name.name control ≡ true = control_named c.in_ok-name.name c.args.sending.now control is file c.in_ok-control.ensures.said in
    bad_queue c.args.sending.now.queue.now c.in_ok-name.name control named c.in_ok-control.ensures.few refused
