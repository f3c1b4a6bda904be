use Rattle.std.proofs.Common.{refl, sym}
use Rattle.std.proofs.lemmas.Option.{slice_get_read}
use Rattle.control_socket.proofs.TalkLemmas.{next_nearest}
use Rattle.control_socket.proofs.talks.Talks.nearest_limit.Goals as goal

pub loop-talk-preserved : goal.loop-talk-preserved
loop-talk-preserved c =
    let talk = c.talk-item.result in
    let here = slice_get_read c.deref-talk-items.result.now _ c.loop-talk.talk-index talk refl c.loop-talk-test.true c.talk-item.is in
    let there = rw c.deref-talk-items.ensures.value at here in
    rw c.earlier-nearest.ensures (next_nearest c.args.self.now.list.items c.loop-talk.talk-index talk c.loop-talk.nearest c.until.result there (sym c.until.ensures) c.loop-talk.invariant)
