use Rattle.lpd_daemon.proofs.serving.serve.Given as goal

abbrev pub ghosts-run-E-Ledger : goal.ghosts-run-E-Ledger
ghosts-run-E-Ledger g a = record { name = a.stock.blanks.entries.name; parts = a.stock.blanks.entries.parts }

abbrev pub ghosts-run-E-SpoolLedger : goal.ghosts-run-E-SpoolLedger
ghosts-run-E-SpoolLedger g a = record { config = a.stock.config }

abbrev pub ghosts-run-E-HouseLedger : goal.ghosts-run-E-HouseLedger
ghosts-run-E-HouseLedger g a = record { kinds = a.stock.blanks.kinds.name; handed = a.stock.blanks.handed.name }
