use Rattle.account_folder.proofs.TextLemmas.{passes}
use Rattle.account_folder.proofs.writing.pass_on.Goals as goal

pub returns : goal.returns
returns g c = λ was all way.
    rw c.clear.ensures.items (passes was _ _ c.args.text.now.items all way (rw c.as_slice.ensures.value at c.in_ok-write_all.ensures.ok.0))
