use Rattle.test_kit_seats.proofs.opened.open.Given as goal

abbrev pub ghosts-open_at-E-Ledger : goal.ghosts-open_at-E-Ledger
ghosts-open_at-E-Ledger g a = record { name = a.blanks.entries.name; parts = a.blanks.entries.parts }

abbrev pub ghosts-open_at-E-SpoolLedger : goal.ghosts-open_at-E-SpoolLedger
ghosts-open_at-E-SpoolLedger g a = record { config = a.config }

abbrev pub ghosts-open_at-K-Ledger : goal.ghosts-open_at-K-Ledger
ghosts-open_at-K-Ledger g a = record { name = a.blanks.kinds.name; parts = a.blanks.kinds.parts }

abbrev pub ghosts-open_at-H-Ledger : goal.ghosts-open_at-H-Ledger
ghosts-open_at-H-Ledger g a = record { name = a.blanks.handed.name; parts = a.blanks.handed.parts }
