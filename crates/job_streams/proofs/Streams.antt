-- How the octets of a job grow as it comes.
use Rattle.std.proofs.Common.{◌≡◌, ℕ, List, [], ◌∷◌, ◌++◌, length, None, Some, refl, ap, ◌∙◌, sym, append_assoc, append-nil}
use Rattle.lpd_values.specs.Contents.{Contents}
use Rattle.control_file.specs.Written.{control_text}
use Rattle.job_heads.specs.Head.{head}
use Rattle.job_streams.specs.Stream.{Block, Data, Control, Coming, Part, IsFitBlock, AreFitBlocks, block_octets, blocks_octets, control_line, data_line, first_line, last_of, names_of, part_octets, prints_of, requests, stream}
use Rattle.job_streams.specs.Coming.{block_of, more_of, new_job, with_file, with_octets, with_end, with_control}

pub blocks_more : (blocks more : List Block) → blocks_octets (blocks ++ more) ≡ blocks_octets blocks ++ blocks_octets more
blocks_more [] more = refl
blocks_more (block ∷ blocks) more = ap (λ t. block_octets block ++ t) (blocks_more blocks more) ∙ sym (append_assoc (block_octets block) _ _)

pub fit_more : (blocks : List Block) (block : Block) → AreFitBlocks blocks → IsFitBlock block → AreFitBlocks (blocks ++ block ∷ [])
fit_more [] block all one = (one, tt)
fit_more (first ∷ blocks) block all one = (all.0, fit_more blocks block all.1 one)

pub names_more : (blocks : List Block) (name octets : List ℕ) → names_of (blocks ++ Data name octets ∷ []) ≡ names_of blocks ++ name ∷ []
names_more [] name octets = refl
names_more (Data other text ∷ blocks) name octets = ap (λ t. other ∷ t) (names_more blocks name octets)
names_more (Control said ∷ blocks) name octets = names_more blocks name octets

pub names_same : (blocks : List Block) (said : Contents) → names_of (blocks ++ Control said ∷ []) ≡ names_of blocks
names_same [] said = refl
names_same (Data other text ∷ blocks) said = ap (λ t. other ∷ t) (names_same blocks said)
names_same (Control other ∷ blocks) said = names_same blocks said

pub prints_more : (blocks : List Block) (said : Contents) → prints_of (blocks ++ Control said ∷ []) ≡ Some said.prints
prints_more [] said = refl
prints_more (Data other text ∷ blocks) said = prints_more blocks said
prints_more (Control other ∷ blocks) said = ap (λ o. last_of o other.prints) (prints_more blocks said)

pub prints_same : (blocks : List Block) (name octets : List ℕ) → prints_of (blocks ++ Data name octets ∷ []) ≡ prints_of blocks
prints_same [] name octets = refl
prints_same (Data other text ∷ blocks) name octets = prints_same blocks name octets
prints_same (Control other ∷ blocks) name octets = ap (λ o. last_of o other.prints) (prints_same blocks name octets)

-- a data file begins where none is coming
requests_file : (job : Coming) (name : List ℕ) (count : ℕ) → job.part ≡ None → requests (with_file name count job) ≡ requests job ++ data_line name count
requests_file job name count closed =
    ap (λ t. first_line job.queue ++ (blocks_octets job.blocks ++ t)) (append-nil (data_line name count))
    ∙ (sym (simp append_assoc) ∙ ap (λ part. (first_line job.queue ++ (blocks_octets job.blocks ++ part_octets part)) ++ data_line name count) (sym closed))

-- octets come of one
requests_octets : (job : Coming) (file : Part) (octets : List ℕ) → job.part ≡ Some file → requests (with_octets octets job) ≡ requests job ++ octets
requests_octets job file octets here =
    ap (λ part. first_line job.queue ++ (blocks_octets job.blocks ++ part_octets (more_of octets part))) here
    ∙ (sym (simp append_assoc) ∙ ap (λ part. (first_line job.queue ++ (blocks_octets job.blocks ++ part_octets part)) ++ octets) (sym here))

-- a line, octets and an octet 00 behind what came before
join_end : (first blocks line octets : List ℕ) → first ++ ((blocks ++ ((line ++ (octets ++ 0 ∷ [])) ++ [])) ++ []) ≡ (first ++ (blocks ++ (line ++ octets))) ++ 0 ∷ []
join_end first blocks line octets = simp (append_assoc, append-nil)

join_block : (first blocks block : List ℕ) → first ++ ((blocks ++ (block ++ [])) ++ []) ≡ (first ++ (blocks ++ [])) ++ block
join_block first blocks block = simp (append_assoc, append-nil)

-- it has come
requests_end : (job : Coming) (file : Part) → job.part ≡ Some file → file.count ≡ length file.octets → requests (with_end job) ≡ requests job ++ 0 ∷ []
requests_end job file here all =
    ap (λ part. first_line job.queue ++ (blocks_octets (job.blocks ++ block_of part) ++ [])) here
    ∙ (ap (λ t. first_line job.queue ++ (t ++ [])) (blocks_more job.blocks (Data file.name file.octets ∷ []))
    ∙ (join_end (first_line job.queue) (blocks_octets job.blocks) (data_line file.name (length file.octets)) file.octets
    ∙ (ap (λ n. (first_line job.queue ++ (blocks_octets job.blocks ++ (data_line file.name n ++ file.octets))) ++ 0 ∷ []) (sym all)
    ∙ ap (λ part. (first_line job.queue ++ (blocks_octets job.blocks ++ part_octets part)) ++ 0 ∷ []) (sym here))))

-- the control file comes where no data file is coming
requests_control : (job : Coming) (said : Contents) → job.part ≡ None → requests (with_control said job) ≡ requests job ++ (control_line said ++ (control_text said ++ 0 ∷ []))
requests_control job said closed =
    ap (λ t. first_line job.queue ++ (t ++ part_octets job.part)) (blocks_more job.blocks (Control said ∷ []))
    ∙ (ap (λ part. first_line job.queue ++ ((blocks_octets job.blocks ++ (block_octets (Control said) ++ [])) ++ part_octets part)) closed
    ∙ (join_block (first_line job.queue) (blocks_octets job.blocks) (block_octets (Control said))
    ∙ ap (λ part. (first_line job.queue ++ (blocks_octets job.blocks ++ part_octets part)) ++ block_octets (Control said)) (sym closed)))

-- what is kept of a job of which nothing has come
pub stream_new : (sender : ℕ) (queue : List ℕ) → stream (new_job sender queue) ≡ head sender ++ first_line queue
stream_new sender queue = ap (λ t. head sender ++ t) (append-nil (first_line queue))

-- what a peer sends more is kept behind what was kept
behind : (sender : ℕ) (old new more : List ℕ) → new ≡ old ++ more → head sender ++ new ≡ (head sender ++ old) ++ more
behind sender old new more is = ap (λ t. head sender ++ t) is ∙ sym (append_assoc (head sender) old more)

pub stream_file : (job : Coming) (name : List ℕ) (count : ℕ) → job.part ≡ None → stream (with_file name count job) ≡ stream job ++ data_line name count
stream_file job name count closed = behind job.sender _ _ _ (requests_file job name count closed)

pub stream_octets : (job : Coming) (file : Part) (octets : List ℕ) → job.part ≡ Some file → stream (with_octets octets job) ≡ stream job ++ octets
stream_octets job file octets here = behind job.sender _ _ _ (requests_octets job file octets here)

pub stream_end : (job : Coming) (file : Part) → job.part ≡ Some file → file.count ≡ length file.octets → stream (with_end job) ≡ stream job ++ 0 ∷ []
stream_end job file here all = behind job.sender _ _ _ (requests_end job file here all)

pub stream_control : (job : Coming) (said : Contents) → job.part ≡ None → stream (with_control said job) ≡ stream job ++ (control_line said ++ (control_text said ++ 0 ∷ []))
stream_control job said closed = behind job.sender _ _ _ (requests_control job said closed)
