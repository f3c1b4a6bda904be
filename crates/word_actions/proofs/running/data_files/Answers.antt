use Rattle.std.proofs.Common.{◌≡◌, ℕ, Bor, List, [], ◌∷◌, ◌++◌, append-nil, arith, subst}
use Rattle.std.proofs.lemmas.Grind.{common_steps}
use Rattle.word_actions.proofs.DataFileLemmas.{Continues, one_more_read}
use Rattle.word_actions.proofs.running.data_files.Invariants.{texts}
use Rattle.word_actions.proofs.running.data_files.Goals as goal

pub returns-clause-whole : goal.returns-clause-whole
returns-clause-whole g c =
    let whole = c.loop-name.invariant.whole [] tt in rw append-nil at whole

pub loop-name-preserved : goal.loop-name-preserved
loop-name-preserved g c =
    let contents = g.R.OpenReaders.contents c.args.files.now in
    let r = g.R.Reader.OctetRead in
    let file = c.in_ok-data_file_at.field-0 in
    let rest = c.next.new.self.b.rest.now in
    let goes = subst (λ (left : List (Bor (List ℕ))). Continues contents (texts c.args.paths.now) (texts left) c.loop-name.read.items) c.in-Some.ensures.steps.1 c.loop-name.invariant.whole in
    let items : c.push.new.self.items ≡ c.loop-name.read.items ++ file ∷ [] = grind (arith, common_steps) in
    let more = one_more_read contents (texts c.args.paths.now) c.in-Some.path.now.now (texts rest) c.loop-name.read.items file (r.left c.open_reader-file.result) (r.left c.data_file_at.new.file) goes c.open_reader-file.ensures c.in_ok-data_file_at.ensures.ok.1 in
    record {
      sendable = grind (arith, common_steps);
      named = grind (arith, common_steps);
      fewer = grind (arith, common_steps);
      told = grind (arith, common_steps);
      whole = rw items more;
    }
