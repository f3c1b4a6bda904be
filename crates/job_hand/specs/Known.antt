-- What is known of a job that is coming.
use Rattle.std.specs.Prelude.{◌≡◌, ◌<◌, ◌+◌, ◌^◌, IsTrue, Option, None, Some, length}
use Rattle.lpd_values.specs.Name.{is_data_name}
use Rattle.job_streams.specs.Stream.{AreFitBlocks, Coming, Part, names_of, prints_of}
use Rattle.job_hand.specs.declared.known.Known.{Known}
use Rattle.job_hand.specs.declared.known.KnownPart.{KnownPart}

-- of the data file that is coming its name and how many octets it lacks
pub record KnowsPart (known : KnownPart) (file : Part) : Type 0 where
  pub name : known.name ≡ file.name
  pub left : known.left + length file.octets ≡ file.count
  pub named : IsTrue (is_data_name file.name)
  pub some : 0 < file.count
  pub counted : file.count < 10 ^ 19

abbrev pub MayKnow : Option KnownPart → Option Part → Type 0
MayKnow None None = Unit {0}
MayKnow (Some known) (Some file) = KnowsPart known file
MayKnow known part = ⊥

-- the names of the data files that have come, what the control file prints, and what is coming; each file can be sent
pub record Knows (known : Known) (job : Coming) : Type 0 where
  pub names : known.names ≡ names_of job.blocks
  pub prints : known.prints ≡ prints_of job.blocks
  pub part : MayKnow known.part job.part
  pub fit : AreFitBlocks job.blocks
