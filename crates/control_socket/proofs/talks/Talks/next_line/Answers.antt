use Rattle.std.proofs.Common.{◌∙◌}
use Rattle.control_socket.specs.Talks.{is_ready_talk}
use Rattle.control_socket.proofs.TalkLemmas.{number_of_first, passes, not_ready}
use Rattle.control_socket.proofs.talks.Talks.next_line.Goals as goal

pub returns-in_default : goal.returns-in_default
returns-in_default c =
    let talk = c.index_mut-talk.result.now in
    let ready = passes is_ready_talk c.args.self.now.list.items c.in_ok-at.at talk c.in_ok-at.ensures.first c.index_mut-talk.ensures.value in
    absurd (not_ready talk.stage ready (λ line is_gone is. c.in_default.not-Ready line is_gone (c.replace.ensures.value ∙ is)))

pub returns-clause-number : goal.returns-clause-number
returns-clause-number c =
    let number = number_of_first is_ready_talk c.args.self.now.list.items c.in_ok-at.at c.index_mut-talk.result.now c.in_ok-at.ensures.first c.index_mut-talk.ensures.value in
    rw (← c.in_ok-at.ensures.first) number
