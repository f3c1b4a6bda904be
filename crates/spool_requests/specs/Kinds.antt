-- The kind of a request.
use Rattle.receiver.specs.Script.{Request, Queue, Open, BeginFile, AskPage, Filled, EndFile, Control, AbortJob, StartPrinters, QueueState, RemoveJobs}
use Rattle.spool_requests.specs.declared.answer.RequestKind.{RequestKind}
use Rattle.spool_requests.specs.declared.answer.RequestKind.TheVariants as kind

abbrev pub request_kind : Request → RequestKind
request_kind (Queue name) = kind.Queue
request_kind (Open name) = kind.Open
request_kind (BeginFile name count) = kind.BeginFile
request_kind AskPage = kind.Page
request_kind (Filled page) = kind.Filled
request_kind EndFile = kind.EndFile
request_kind (Control control) = kind.Control
request_kind AbortJob = kind.Abort
request_kind (StartPrinters name) = kind.Start
request_kind (QueueState name list long) = kind.State
request_kind (RemoveJobs name agent list) = kind.Remove
