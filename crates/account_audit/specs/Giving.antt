-- What a trim gives back.
use Rattle.std.specs.Prelude.{ℕ, ◌-◌}
use Rattle.spool_history.specs.Now.{State}
use Rattle.spool_laws.specs.Freeing.{still_reserved}

-- of what is counted and wasn't given back yet, all but what the held jobs and the stopped printers may still add
abbrev pub given_back : {C : Type 0} → State C → ℕ → ℕ
given_back v freed = v.reserved - freed - still_reserved v
