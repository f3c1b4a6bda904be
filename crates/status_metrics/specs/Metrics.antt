-- What is said at /metrics, in which order.
use Rattle.std.specs.Prelude.{ℕ, ◌+◌, ◌-◌, ◌==◌, Bool, false, List, [], ◌++◌, Option, Some, None, codes, if◌then◌else◌, is_some, length, slice_index_or}
use Rattle.std.specs.Fmt.{decimal}
use Rattle.std.specs.List.{count_by}
use Rattle.config_values.specs.Config.{Queue, queue_at}
use Rattle.server_counts.specs.declared.counts.ServerCounts.{ServerCounts}
use Rattle.spool_calls.specs.declared.printer.Printer.{Printer}
use Rattle.spool_snapshot.specs.declared.snapshot.Pages.{Pages}
use Rattle.status_lines.specs.declared.outside.KeptJobs.{KeptJobs}
use Rattle.status_lines.specs.declared.outside.Outside.{Outside}
use Rattle.status_lines.specs.Status.{placed}
use Rattle.status_metrics.specs.declared.kind.SampleKind.TheVariants as kind
use Rattle.status_metrics.specs.declared.queues.OfPrinter.{OfPrinter}
use Rattle.status_metrics.specs.declared.queues.OfPrinter.TheVariants as what_printer
use Rattle.status_metrics.specs.declared.queues.OfQueue.{OfQueue}
use Rattle.status_metrics.specs.declared.queues.OfQueue.TheVariants as what_queue
use Rattle.status_metrics.specs.Lines.{family_text, histogram_text, of_queue_text, single_text, worded_text}
use Rattle.status_scene.specs.declared.scene.Scene.{Scene}
use Rattle.status_scene.specs.Refusing.{has_full_pool, is_refused_at}
use Rattle.status_scene.specs.Silence.{is_silent}
use Rattle.standings.specs.declared.stage.JobStage.{JobStage}
use Rattle.standings.specs.declared.stage.JobStage.TheVariants as far
use Rattle.standings.specs.Printers.{is_put_off_at, is_stopped_at, is_unreached_at}
use Rattle.standings.specs.Stages.{is_of_queue_at}

-- 1 where it is so, else 0
abbrev pub one_if : Bool → ℕ
one_if so = if so then 1 else 0

-- pages by where they are
unfoldable pub pages_text : Pages → List ℕ
pages_text pages =
    family_text (codes "hurgwaye_pages") (codes "Pages of the pool, by where they are.") kind.Gauge ++ (worded_text (codes "hurgwaye_pages") (codes "place") (codes "free") pages.free ++ (
    worded_text (codes "hurgwaye_pages") (codes "place") (codes "chained") pages.chained ++ (
    worded_text (codes "hurgwaye_pages") (codes "place") (codes "lent") pages.lent ++ worded_text (codes "hurgwaye_pages") (codes "place") (codes "out") pages.out)))

unfoldable pub spool_text : Scene → List ℕ
spool_text s =
    single_text (codes "hurgwaye_page_size_bytes") (codes "Octets of a page.") kind.Gauge s.config.now.page_size ++ (single_text (codes "hurgwaye_closed") (codes "Whether the spool is closed.") kind.Gauge (one_if s.spool.now.closed) ++ (
    single_text (codes "hurgwaye_jobs_accepted_total") (codes "Jobs that were accepted.") kind.Counter s.spool.now.accepted ++ (single_text (codes "hurgwaye_jobs_limit") (codes "Jobs that may be held at once.") kind.Gauge s.config.now.max_jobs ++ single_text (codes "hurgwaye_jobs_put_off") (codes "Jobs whose sessions wait for a page.") kind.Gauge (length s.outside.now.noted.put_off.now))))

unfoldable pub edge_text : Outside → List ℕ
edge_text o =
    single_text (codes "hurgwaye_uptime_seconds") (codes "Seconds since the server began.") kind.Gauge o.uptime ++ (single_text (codes "hurgwaye_stopping") (codes "Whether the server was asked to stop.") kind.Gauge (one_if o.stops) ++ (
    single_text (codes "hurgwaye_sessions") (codes "Sessions that serve a connection.") kind.Gauge (length o.sessions.now) ++ single_text (codes "hurgwaye_lobby_connections") (codes "Connections that wait for a session.") kind.Gauge o.lobby))

unfoldable pub jobs_text : ServerCounts → List ℕ
jobs_text c =
    single_text (codes "hurgwaye_jobs_received_total") (codes "Jobs that came whole.") kind.Counter c.received ++ (single_text (codes "hurgwaye_jobs_done_total") (codes "Jobs that were printed to their end.") kind.Counter c.done ++ (single_text (codes "hurgwaye_jobs_removed_total") (codes "Jobs that were removed once they had come.") kind.Counter c.removed ++ (
    single_text (codes "hurgwaye_jobs_failed_total") (codes "Jobs that a printer failed on.") kind.Counter c.failed ++ single_text (codes "hurgwaye_jobs_aborted_total") (codes "Jobs that were given up before they were whole.") kind.Counter c.aborted)))

unfoldable pub octets_text : ServerCounts → List ℕ
octets_text c =
    single_text (codes "hurgwaye_connections_total") (codes "Connections that were accepted.") kind.Counter c.connections ++ (
    single_text (codes "hurgwaye_received_bytes_total") (codes "Octets of the jobs that came whole.") kind.Counter c.octets_received ++ single_text (codes "hurgwaye_done_bytes_total") (codes "Octets of the jobs that were printed to their end.") kind.Counter c.octets_done)

-- a segment of the account ends where it is rotated, and the first has the number 1
unfoldable pub account_text : Scene → List ℕ
account_text s =
    single_text (codes "hurgwaye_account_reserved_entries") (codes "Entries of the account that are reserved.") kind.Gauge s.spool.now.reserved ++ (
    single_text (codes "hurgwaye_account_limit_entries") (codes "Entries that the account may have.") kind.Gauge s.config.now.account ++ single_text (codes "hurgwaye_account_rotations_total") (codes "How often the account was rotated.") kind.Counter (s.outside.now.segment - 1))

unfoldable pub kept_text : Option KeptJobs → List ℕ
kept_text None = []
kept_text (Some kept) =
    family_text (codes "hurgwaye_kept_jobs") (codes "Jobs in the folder that keeps them, by what they wait for.") kind.Gauge ++ (worded_text (codes "hurgwaye_kept_jobs") (codes "state") (codes "waiting") kept.waiting ++ worded_text (codes "hurgwaye_kept_jobs") (codes "state") (codes "failed") kept.failed)

-- how often there was the refusal of this number, where there was any
unfoldable pub refusal_text : (number count : ℕ) → List ℕ
refusal_text number count =
    if count == 0 then [] else worded_text (codes "hurgwaye_refused_total") (codes "number") (decimal number) count

unfoldable pub server_text : Scene → List ℕ
server_text s =
    pages_text s.spool.now.pages ++ (spool_text s ++ (edge_text s.outside.now ++ (jobs_text s.counts.now ++ (
    octets_text s.counts.now ++ (account_text s ++ kept_text s.outside.now.kept)))))

unfoldable pub times_text : ServerCounts → List ℕ
times_text c =
    family_text (codes "hurgwaye_refused_total") (codes "What was refused, by the number of the refusal.") kind.Counter ++ (placed refusal_text 0 c.refused ++ (histogram_text (codes "hurgwaye_job_arriving_seconds") (codes "Seconds from a job's acceptance until it was whole.") c.arriving ++ histogram_text (codes "hurgwaye_job_printing_seconds") (codes "Seconds from when a job was whole until it was printed.") c.printing))

-- how far jobs are, as a further label
abbrev pub stage_word : JobStage → List ℕ
stage_word far.Arriving = codes ",phase=\"arriving\""
stage_word far.Waiting = codes ",phase=\"waiting\""
stage_word far.Printing = codes ",phase=\"printing\""
stage_word far.Ended = codes ",phase=\"ended\""

-- how many jobs of the queue at a place are so far; queues are numbered from 1
unfoldable pub of_stage : Scene → ℕ → Queue → JobStage → List ℕ
of_stage s at q stage =
    of_queue_text (codes "hurgwaye_jobs") q.name (stage_word stage) (count_by (is_of_queue_at (at + 1) stage) s.spool.now.jobs.items)

abbrev pub queue_name : OfQueue → List ℕ
queue_name what_queue.Jobs = codes "hurgwaye_jobs"
queue_name what_queue.Limit = codes "hurgwaye_queue_limit_pages"
queue_name what_queue.Held = codes "hurgwaye_queue_held"
queue_name what_queue.Refusing = codes "hurgwaye_queue_refusing"
queue_name what_queue.Parked = codes "hurgwaye_queue_parked_jobs"

abbrev pub queue_help : OfQueue → List ℕ
queue_help what_queue.Jobs = codes "Jobs that are held, by their queue and by how far they are."
queue_help what_queue.Limit = codes "Pages that a job of the queue may hold."
queue_help what_queue.Held = codes "Whether the queue is held."
queue_help what_queue.Refusing = codes "Whether a job of the queue is refused for want of room in the account or the table of jobs."
queue_help what_queue.Parked = codes "Jobs of the queue that wait in the folder."

-- what is said of the queue at a place
unfoldable pub of_queue : Scene → OfQueue → ℕ → Queue → List ℕ
of_queue s what_queue.Jobs at q =
    of_stage s at q far.Arriving ++ (of_stage s at q far.Waiting ++ (of_stage s at q far.Printing ++ of_stage s at q far.Ended))
of_queue s what_queue.Limit at q = of_queue_text (codes "hurgwaye_queue_limit_pages") q.name [] q.limit
of_queue s what_queue.Held at q = of_queue_text (codes "hurgwaye_queue_held") q.name [] (one_if (slice_index_or s.outside.now.noted.held.now at false))
of_queue s what_queue.Refusing at q = of_queue_text (codes "hurgwaye_queue_refusing") q.name [] (one_if (is_refused_at s.config.now s.spool.now at))
of_queue s what_queue.Parked at q = of_queue_text (codes "hurgwaye_queue_parked_jobs") q.name [] (slice_index_or s.outside.now.parked.now at 0)

unfoldable pub queues_text : Scene → OfQueue → List ℕ
queues_text s what = family_text (queue_name what) (queue_help what) kind.Gauge ++ placed (of_queue s what) 0 s.config.now.queues

abbrev pub printer_name : OfPrinter → List ℕ
printer_name what_printer.Stopped = codes "hurgwaye_printer_stopped"
printer_name what_printer.Busy = codes "hurgwaye_printer_busy"
printer_name what_printer.Unreached = codes "hurgwaye_printer_unreached"
printer_name what_printer.PutOff = codes "hurgwaye_printer_put_off"

abbrev pub printer_help : OfPrinter → List ℕ
printer_help what_printer.Stopped = codes "Whether the printer is stopped."
printer_help what_printer.Busy = codes "Whether a page is at the printer."
printer_help what_printer.Unreached = codes "Whether a page is at the printer of which nothing goes, or it has given its job back: it isn't reached, or takes nothing."
printer_help what_printer.PutOff = codes "Whether the printer isn't reached and its jobs wait in the folder: it is tried again."

abbrev pub printer_value : OfPrinter → Scene → ℕ → Printer → ℕ
printer_value what_printer.Stopped s at p = one_if (is_stopped_at s.outside.now.noted.printers.now at p)
printer_value what_printer.Busy s at p = one_if (is_some p.out)
printer_value what_printer.Unreached s at p = one_if (is_unreached_at s.outside.now.noted.printers.now at p)
printer_value what_printer.PutOff s at p = one_if (is_put_off_at s.outside.now.noted.printers.now at p)

-- what is said of the printer at a place; printers are numbered from 1
unfoldable pub of_printer : Scene → OfPrinter → ℕ → Printer → List ℕ
of_printer s what at p =
    of_queue_text (printer_name what) (queue_at s.config.now p.queue).name (codes ",printer=\"" ++ (decimal (at + 1) ++ codes "\"")) (printer_value what s at p)

unfoldable pub printers_text : Scene → OfPrinter → List ℕ
printers_text s what = family_text (printer_name what) (printer_help what) kind.Gauge ++ placed (of_printer s what) 0 s.spool.now.printers.items

-- what is said of each queue
unfoldable pub all_queues_text : Scene → List ℕ
all_queues_text s =
    queues_text s what_queue.Jobs ++ (queues_text s what_queue.Limit ++ (queues_text s what_queue.Held ++ (
    queues_text s what_queue.Refusing ++ queues_text s what_queue.Parked)))

-- what is said of each printer
unfoldable pub all_printers_text : Scene → List ℕ
all_printers_text s =
    printers_text s what_printer.Stopped ++ (printers_text s what_printer.Busy ++ (printers_text s what_printer.Unreached ++ printers_text s what_printer.PutOff))

unfoldable pub each_text : Scene → List ℕ
each_text s = all_queues_text s ++ all_printers_text s

-- what is full, and who is silent
unfoldable pub needs_text : Scene → List ℕ
needs_text s =
    single_text (codes "hurgwaye_pool_full") (codes "Whether no page is free, or a job waits for one.") kind.Gauge (one_if (has_full_pool s.spool.now s.outside.now.noted)) ++ single_text (codes "hurgwaye_sessions_silent") (codes "Sessions of whose peer no octet came for a minute.") kind.Gauge (count_by is_silent s.outside.now.sessions.now)

unfoldable pub metrics_text : Scene → List ℕ
metrics_text s = server_text s ++ (times_text s.counts.now ++ (each_text s ++ needs_text s))
