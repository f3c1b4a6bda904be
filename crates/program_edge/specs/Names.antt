-- How the files are named that printers write.
use Rattle.std.specs.Prelude.{◌++◌, ◌-◌, ◌^◌, ℕ, List, [], codes, false}
use Rattle.std.specs.Fmt.{decimal, format_spec, padded_integral}
use Rattle.program_edge.specs.declared.names.JobFileName.{JobFileName}
use Rattle.program_edge.specs.declared.names.DefaultFile.{DefaultFile}

-- the file of a printer that nothing else is said of
abbrev pub default_file : DefaultFile → List ℕ
default_file file = file.directory.now ++ codes "/printer-" ++ decimal file.printer

-- a number in ten digits with zeros in front, or in as many as it has
abbrev pub ten_digits : ℕ → List ℕ
ten_digits number = padded_integral (format_spec 32 0 4 10 (2 ^ 64 - 1)) false [] (decimal number)

-- the name of a job's file in a folder
abbrev pub job_file : JobFileName → List ℕ
job_file name = codes "job-" ++ ten_digits name.number
