-- The first words of commands.
use Rattle.std.specs.Prelude.{ℕ, List, codes}
use Rattle.control_lines.specs.declared.verb.Verb.{Verb}
use Rattle.control_lines.specs.declared.verb.Verb.TheVariants.{Status, Start, Hold, Release, Remove, Cancel, Resend, Rotate, Stop}

abbrev pub verb_word : Verb → List ℕ
verb_word Status = codes "status"
verb_word Start = codes "start"
verb_word Hold = codes "hold"
verb_word Release = codes "release"
verb_word Remove = codes "remove"
verb_word Cancel = codes "cancel"
verb_word Resend = codes "resend"
verb_word Rotate = codes "rotate"
verb_word Stop = codes "stop"
