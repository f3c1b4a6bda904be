-- What a server counts.
use Rattle.std.specs.Prelude.{ℕ, ◌+◌, replicate}
use Rattle.server_counts.specs.declared.counts.ServerCounts.{ServerCounts}
use Rattle.server_counts.specs.Histogram.{counted, no_times, noted, one_more}

abbrev pub nothing : ServerCounts
nothing = record {
  connections = 0;
  received = 0;
  done = 0;
  removed = 0;
  failed = 0;
  aborted = 0;
  refused = replicate 45 0;
  octets_received = 0;
  octets_done = 0;
  arriving = no_times;
  printing = no_times;
}

abbrev pub connected : ServerCounts → ServerCounts
connected c = record c { connections = counted (c.connections + 1) }

-- a job of so many octets came whole, so many milliseconds after it was accepted
abbrev pub received : ServerCounts → ℕ → ℕ → ServerCounts
received c octets time = record c {
  received = counted (c.received + 1);
  octets_received = counted (c.octets_received + octets);
  arriving = noted c.arriving time;
}

-- a job of so many octets was printed to its end, so many milliseconds after it was whole
abbrev pub finished : ServerCounts → ℕ → ℕ → ServerCounts
finished c octets time = record c {
  done = counted (c.done + 1);
  octets_done = counted (c.octets_done + octets);
  printing = noted c.printing time;
}

abbrev pub removed : ServerCounts → ServerCounts
removed c = record c { removed = counted (c.removed + 1) }

abbrev pub failed : ServerCounts → ServerCounts
failed c = record c { failed = counted (c.failed + 1) }

abbrev pub aborted : ServerCounts → ServerCounts
aborted c = record c { aborted = counted (c.aborted + 1) }

-- a refusal of this number
abbrev pub refused : ServerCounts → ℕ → ServerCounts
refused c number = record c { refused = one_more c.refused number }
