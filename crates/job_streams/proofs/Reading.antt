-- The octets of a job are read as that job.
use Rattle.std.proofs.Common.{◌≡◌, ◌<◌, ℕ, Bool, true, false, not, List, [], ◌∷◌, ◌++◌, length, None, refl, ap, ◌∙◌, sym, subst, Ok, append_assoc, append-nil, Option, Some, true≢false, arith}
use Rattle.std.specs.Prelude.{IsTrue, is_some, ◌&&◌}
use Rattle.std.proofs.lemmas.Bool.{and_parts}
use Rattle.std.specs.List.{concat}
use Rattle.lpd_commands.specs.Written.{command_line, command_has_line, sub_line}
use Rattle.lpd_commands.specs.declared.command.Command.TheVariants.{Receive}
use Rattle.lpd_commands.specs.declared.sub.Sub.TheVariants as sub
use Rattle.control_file.specs.Written.{control_text}
use Rattle.receiver.specs.Script.{Queue, BeginFile, EndFile, Ack, Output, Wrote, Asked, Reply, Yes}
use Rattle.receiver.specs.Reading.{Progress, start}
use Rattle.receiver.specs.Reads.{Reads}
use Rattle.receiver.specs.Blocks.{between, opened, opened_told, asked_for, told_for, ended}
use Rattle.receiver.proofs.BlockLaws.{first_line_read, data_block_read, control_block_read}
use Rattle.lpr_client.specs.OneJob.{pages_of}
use Rattle.lpr_client.proofs.LineLemmas.{receive_line, control_line, data_line}
use Rattle.lpr_client.proofs.PageLemmas.{concat-pieces, are_cut}
use Rattle.job_streams.specs.Stream.{Block, Data, Control, IsFitBlock, AreFitBlocks, control_name, first_line, block_octets, blocks_octets, Part, has_prints, names_of, part_octets, prints_of}
use Rattle.job_streams.specs.Reads.{block_outputs, block_told, blocks_outputs, blocks_told, job_outputs, job_told, StreamsAreRead}

-- the same reading of equal octets, answers and outputs
along : (short : Bool) (s : Progress) (os others : List Output) (t u : List ℕ) (a b : List Reply) → os ≡ others → t ≡ u → a ≡ b → Reads short os s t a → Reads short others s u b
along short s os others t u a b e f g h =
    subst (λ x. Reads short others s u x) g (subst (λ x. Reads short others s x a) f (subst (λ x. Reads short x s t a) e h))

-- what a line, its contents and what follows are together
sent : (line contents rest : List ℕ) → line ++ 10 ∷ (contents ++ 0 ∷ rest) ≡ ((line ++ 10 ∷ []) ++ (contents ++ 0 ∷ [])) ++ rest
sent line contents rest = sym (simp append_assoc)

abbrev IsSome : List Block → Type 0
IsSome [] = ⊥
IsSome (block ∷ blocks) = Unit {0}

-- one block
block_read : (short : Bool) (queue : List ℕ) (job whole : Bool) (z : ℕ) (block : Block) (rest : List ℕ) (a : List Reply) (os : List Output) → 0 < z → IsFitBlock block →
    Reads short os (between queue (not whole)) rest a →
    Reads short (block_outputs z queue job block ++ os) (between queue job) (block_octets block ++ rest) (block_told z job whole block ++ a)
block_read short queue job whole z (Data name octets) rest a os h i g =
    let line = data_line (length octets) name i.some i.counted i.named in
    let pages = pages_of z octets in
    let all : concat pages ≡ octets = concat-pieces (length octets) z octets h (omega arith) in
    along short (between queue job) _ _ _ _ _ _ (sym (simp append_assoc)) (sent (sub_line (sub.DataFile (length octets) name)) octets rest) (sym (simp append_assoc))
    (subst (λ o. Reads short (opened job queue ++ Asked (BeginFile name (length o)) ∷ Wrote Ack ∷ (asked_for z pages ++ Asked EndFile ∷ Wrote Ack ∷ os)) (between queue job)
    (sub_line (sub.DataFile (length octets) name) ++ 10 ∷ (o ++ 0 ∷ rest)) (opened_told job ++ Yes ∷ (told_for z pages ++ ended whole ∷ a)))
    all (data_block_read queue job whole (sub_line (sub.DataFile (length octets) name)) name z pages short rest a os line.0 (are_cut (length octets) z octets h (omega arith))
    (line.1 ∙ ap (λ o. Ok (sub.DataFile (length o) name)) (sym all)) g))
block_read short queue job whole z (Control said) rest a os h i g =
    let text = control_text said in
    let name = control_name said.number in
    let line = control_line (length text) name (omega (arith, i.short)) i.named in
    along short (between queue job) _ _ _ _ _ _ (sym (append_assoc (opened job queue) _ os)) (sent (sub_line (sub.ControlFile (length text) name)) text rest) (sym (append_assoc (opened_told job) _ a))
    (control_block_read queue job whole (sub_line (sub.ControlFile (length text) name)) name text said short rest a os line.0 (omega arith) i.short line.1 i.read g)

-- blocks, one after another
blocks_read : (short : Bool) (queue : List ℕ) (job whole : Bool) (z : ℕ) (blocks : List Block) (rest : List ℕ) (a : List Reply) (os : List Output) → 0 < z → AreFitBlocks blocks → IsSome blocks →
    Reads short os (between queue (not whole)) rest a →
    Reads short (blocks_outputs z queue job blocks ++ os) (between queue job) (blocks_octets blocks ++ rest) (blocks_told z job whole blocks ++ a)
blocks_read short queue job whole z [] rest a os h i some g = absurd some
blocks_read short queue job whole z (block ∷ []) rest a os h i some g =
    along short (between queue job) _ _ _ _ _ _ (ap (λ o. o ++ os) (sym (append-nil (block_outputs z queue job block)))) (ap (λ t. t ++ rest) (sym (append-nil (block_octets block)))) refl
    (block_read short queue job whole z block rest a os h i.0 g)
blocks_read short queue job whole z (block ∷ next ∷ blocks) rest a os h i some g =
    let ih = blocks_read short queue true whole z (next ∷ blocks) rest a os h i.1 tt g in
    along short (between queue job) _ _ _ _ _ _ (sym (append_assoc (block_outputs z queue job block) _ os)) (sym (append_assoc (block_octets block) _ rest)) (sym (append_assoc (block_told z job false block) _ a))
    (block_read short queue job false z block (blocks_octets (next ∷ blocks) ++ rest) (blocks_told z true whole (next ∷ blocks) ++ a) (blocks_outputs z queue true (next ∷ blocks) ++ os) h i.0 ih)

-- the first line and what follows it
first_sent : (line blocks rest : List ℕ) → line ++ 10 ∷ (blocks ++ rest) ≡ ((line ++ 10 ∷ []) ++ (blocks ++ [])) ++ rest
first_sent line blocks rest = sym (simp (append_assoc, append-nil))

-- the job, by its parts
job_read : (queue : List ℕ) (blocks : List Block) (whole short : Bool) (z : ℕ) (rest : List ℕ) (a : List Reply) (os : List Output) → IsTrue (command_has_line (Receive queue)) → AreFitBlocks blocks → IsSome blocks → 0 < z →
    Reads short os (between queue (not whole)) rest a →
    Reads short (Asked (Queue queue) ∷ Wrote Ack ∷ (blocks_outputs z queue false blocks ++ os)) start ((first_line queue ++ (blocks_octets blocks ++ [])) ++ rest) (Yes ∷ (blocks_told z false whole blocks ++ a))
job_read queue blocks whole short z rest a os word fit some h g =
    let line = receive_line queue word in
    let inner = blocks_read short queue false whole z blocks rest a os h fit some g in
    subst (λ t. Reads short (Asked (Queue queue) ∷ Wrote Ack ∷ (blocks_outputs z queue false blocks ++ os)) start t (Yes ∷ (blocks_told z false whole blocks ++ a))) (first_sent (command_line (Receive queue)) (blocks_octets blocks) rest)
    (first_line_read queue (command_line (Receive queue)) short (blocks_octets blocks ++ rest) (blocks_told z false whole blocks ++ a) (blocks_outputs z queue false blocks ++ os) line.0 line.1 inner)

no_part : (part : Option Part) (rest : Bool) → IsTrue (not (is_some part) && rest) → part ≡ None
no_part None rest h = refl
no_part (Some file) rest h = absurd (true≢false (sym h))

some_block : (blocks : List Block) (names : List (List ℕ)) → IsTrue (has_prints (prints_of blocks) names) → IsSome blocks
some_block [] names h = absurd (true≢false (sym h))
some_block (block ∷ blocks) names h = tt

pub streams_are_read : StreamsAreRead
streams_are_read job fit all z whole short rest a os h g =
    let closed = no_part job.part (has_prints (prints_of job.blocks) (names_of job.blocks)) all in
    let some = some_block job.blocks (names_of job.blocks) (and_parts (not (is_some job.part)) (has_prints (prints_of job.blocks) (names_of job.blocks)) all).1 in
    subst (λ part. Reads short (job_outputs z job ++ os) start ((first_line job.queue ++ (blocks_octets job.blocks ++ part_octets part)) ++ rest) (job_told z whole job ++ a)) (sym closed)
    (job_read job.queue job.blocks whole short z rest a os fit.queue fit.blocks some h g)
