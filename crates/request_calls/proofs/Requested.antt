-- Which needs of a receiver are requests.
use Rattle.std.proofs.Common.{◌≡◌, true, false, IsSome, [], ◌∷◌, Some, refl}
use Rattle.control_file.specs.View.{contents}
use Rattle.receiver.specs.Script as script
use Rattle.receiver.specs.Script.{Request}
use Rattle.receiver.specs.Reading.{kind_of}
use Rattle.receiver.specs.View.{asked, outputs}
use Rattle.receiver.specs.declared.need.Need.{Need}
use Rattle.receiver.specs.declared.need.Need.TheVariants as need

pub none_asked : (false ≡ true) → ⊥
none_asked e = cc

-- a need that asks makes a request, of its kind
pub asked_request : (want : Need) → IsSome (asked want) → (r : Request) × (outputs want ≡ script.Asked r ∷ []) × (asked want ≡ Some (kind_of r))
asked_request (need.Queue queue) e = (script.Queue queue, refl, refl)
asked_request (need.Open queue) e = (script.Open queue, refl, refl)
asked_request (need.BeginFile name count) e = (script.BeginFile name count, refl, refl)
asked_request need.Page e = (script.AskPage, refl, refl)
asked_request (need.Filled page) e = (script.Filled page, refl, refl)
asked_request need.EndFile e = (script.EndFile, refl, refl)
asked_request (need.Control control) e = (script.Control (contents control), refl, refl)
asked_request need.Abort e = (script.AbortJob, refl, refl)
asked_request (need.Start queue) e = (script.StartPrinters queue, refl, refl)
asked_request (need.State queue list long) e = (script.QueueState queue list long, refl, refl)
asked_request (need.Remove queue agent list) e = (script.RemoveJobs queue agent list, refl, refl)
asked_request need.More e = absurd (none_asked e)
asked_request need.Ack e = absurd (none_asked e)
asked_request (need.Fault refusal) e = absurd (none_asked e)
asked_request need.Ended e = absurd (none_asked e)
