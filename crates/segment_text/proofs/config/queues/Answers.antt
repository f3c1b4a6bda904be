use Rattle.std.proofs.Common.{rules, ◌≡◌, ◌∷◌, true}
use Rattle.std.specs.Prelude.{Some}
use Rattle.account_text.specs.Reading.{words_of, short_of}
use Rattle.segment_text.specs.Configs.{is_queue_name}
use Rattle.segment_text.proofs.HeadsBack.{queue_step}
use Rattle.segment_text.proofs.config.queues.Goals as goal

pub loop-name-preserved : goal.loop-name-preserved
loop-name-preserved c =
    let e1 : words_of c.loop-name.rest.now ≡ c.in-Some.name.now ∷ words_of c.in-Some.after.now = c.in-Some.ensures.0 in
    let e2 : words_of c.in-Some.after.now ≡ c.in_ok-limit.limit.now ∷ words_of c.in_ok-limit.after.now = search rules in
    let e3 : words_of c.in_ok-limit.after.now ≡ c.in_ok-printers.printers.now ∷ words_of c.in_ok-printers.after.now = search rules in
    let el : short_of c.in_ok-limit.limit.now ≡ Some c.in_ok-limit-2.limit = search rules in
    let ep : short_of c.in_ok-printers.printers.now ≡ Some c.in_ok-printers-2.printers = search rules in
    let n : is_queue_name c.in-Some.name.now ≡ true = c.in_ok-queue.ensures.1 in
    queue_step c.loop-name.queues.items c.push.new.self.items c.loop-name.rest.now c.in-Some.after.now c.in_ok-limit.after.now c.in_ok-printers.after.now
    c.in-Some.name.now c.in_ok-limit.limit.now c.in_ok-printers.printers.now c.in_ok-limit-2.limit c.in_ok-printers-2.printers _ e1 e2 e3 n el ep (search rules) c.loop-name.invariant
