use Rattle.std.proofs.Common.{inr, refl, sym}
use Rattle.control_lines.specs.Answers.{end_words}
use Rattle.lpd_script.specs.Streams.{HasGivenAll}
use Rattle.word_actions.proofs.ControlLemmas.{on_err}
use Rattle.word_actions.proofs.controlling.ask_server.Goals as goal

pub returns-in_default-clause-network : goal.returns-in_default-clause-network
returns-in_default-clause-network g c =
    let given : HasGivenAll (g.R.OctetRead.left c.args.reader.now) (g.R.OctetRead.left c.answer_to.new.reader) c.as_slice.result.now =
    rw c.as_slice.ensures.value c.in_ok-answer.ensures.answer.1 in
    (refl, inr (c.in_ok-answer.ensures.answer.0, inr (c.as_slice.result.now, given, c.in_default.ensures)))

pub returns-then-is_err-clause-cut_off : goal.returns-then-is_err-clause-cut_off
returns-then-is_err-clause-cut_off g c is =
    let given : HasGivenAll (g.R.OctetRead.left c.args.reader.now) (g.R.OctetRead.left c.answer_to.new.reader) c.as_slice.result.now =
    rw c.as_slice.ensures.value c.in_ok-answer.ensures.answer.1 in
    let some = on_err c.write_all.result _ (sym c.if-is_err.ensures.value) c.write_all.ensures.err in
    (c.in_ok-answer.ensures.answer.0, (c.as_slice.result.now, (c.in-Some.before.now, (end_words c.in-Some.end, given, c.in-Some.ensures, some.0))))
