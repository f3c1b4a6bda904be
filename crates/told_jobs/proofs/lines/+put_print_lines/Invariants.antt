use Rattle.std.proofs.Common.{length}
use Rattle.told_jobs.proofs.lines.+put_print_lines.Given as goal

abbrev pub decreases-put_print_lines : goal.decreases-put_print_lines
decreases-put_print_lines g l = length l.names.now
