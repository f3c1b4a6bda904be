-- Which fault comes first.
use Rattle.std.proofs.Common.{inl, inr, Ok}
use Rattle.word_actions.specs.Order.{StopsAt}
use Rattle.spool_config.specs.declared.settings.ConfigFault.{ConfigFault}

-- a configuration with a fault isn't read
pub not_read : {A : Type 0} (due : ConfigFault) (x : A) → StopsAt due (Ok x) → ⊥
not_read due x (inl e) = cc
not_read due x (inr (inl e)) = cc
not_read due x (inr (inr (inl e))) = cc
not_read due x (inr (inr (inr e))) = cc
