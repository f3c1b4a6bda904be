-- What is matched of results, and of what is before a segment.
use Rattle.std.specs.Prelude.{Err, MatchResult, None, Ok, Option, Result, Some}
use Rattle.segment_audit.specs.declared.follow.Before as J
use Rattle.segment_audit.specs.Audited.{Course, Past}
use Rattle.segment_audit.specs.Read.{IsBefore, IsBehind}

pub result_map : {A B : Type 0} (r : Result A B) (P P' : A → Type 0) (Q Q' : B → Type 0) → ((a : A) → P a → P' a) → ((b : B) → Q b → Q' b) → MatchResult r P Q → MatchResult r P' Q'
result_map (Ok a) P P' Q Q' f g h = f a h
result_map (Err b) P P' Q Q' f g h = g b h

pub behind : (b : J.Before) (was : Option Past) (c : Course) → IsBefore (Some b) was c → (P : Option Past → Type 0) → ((p : Past) → IsBehind b p c → P (Some p)) → P was
behind b None c h P f = absurd h
behind b (Some p) c h P f = f p h

pub nothing : (was : Option Past) (c : Course) → IsBefore None was c → (P : Option Past → Type 0) → P None → P was
nothing None c h P x = x
nothing (Some p) c h P x = absurd h
