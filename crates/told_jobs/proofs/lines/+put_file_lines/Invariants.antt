use Rattle.std.proofs.Common.{length}
use Rattle.told_jobs.proofs.lines.+put_file_lines.Given as goal

abbrev pub decreases-put_file_lines : goal.decreases-put_file_lines
decreases-put_file_lines g l = length l.files.now
