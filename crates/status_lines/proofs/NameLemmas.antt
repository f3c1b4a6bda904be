-- The name of a queue is text.
use Rattle.std.proofs.Common.{◌≡◌, ◌<◌, ◌≤◌, ℕ, List, length, arith, subst, slice_index_or, true, sym, ◌∙◌, ap}
use Rattle.std.specs.Prelude.{IsUtf8, nat_lt}
use Rattle.std.proofs.lemmas.Bool.{ltb-true}
use Rattle.std.proofs.lemmas.List.Elements.{All-weaker}
use Rattle.std.proofs.lemmas.Str.{IsUtf8-from_ascii}
use Rattle.std.proofs.lemmas.Str.Ascii.{IsAscii-from_all}
use Rattle.config_values.specs.Config.{Config, Queue}
use Rattle.config_values.specs.Ranges.{IsConfig, IsQueueName}

printable_is_ascii : (b : ℕ) → (33 ≤ b) × (b ≤ 126) → b < 128
printable_is_ascii b h = omega arith

name_is_text : (name : List ℕ) → IsQueueName name → IsUtf8 name
name_is_text name h =
    IsUtf8-from_ascii name (IsAscii-from_all name (All-weaker (λ b. (33 ≤ b) × (b ≤ 126)) (λ b. b < 128) printable_is_ascii name h.printable))

-- the name of the queue at a place is text
pub name_at : (c : Config) → IsConfig c → (queues : List Queue) → queues ≡ c.queues → (i : ℕ) (q : Queue) → i < length queues → q ≡ slice_index_or queues i q → IsUtf8 q.name
name_at c h queues same i q within is =
    let low : i < length c.queues = subst (λ (qs : List Queue). i < length qs) same within in
    let at : q ≡ slice_index_or c.queues i q = is ∙ ap (λ (qs : List Queue). slice_index_or qs i q) same in
    subst (λ (p : Queue). IsUtf8 p.name) (sym at) (name_is_text _ (h.queues i q low).name)

pub found_is_text : (c : Config) → IsConfig c → (queues : List Queue) → queues ≡ c.queues → (i : ℕ) (q : Queue) (name : List ℕ) → true ≡ nat_lt i (length queues) → q ≡ slice_index_or queues i q → name ≡ q.name → IsUtf8 name
found_is_text c h queues same i q name within is e =
    subst (λ (s : List ℕ). IsUtf8 s) (sym e) (name_at c h queues same i q (ltb-true i (length queues) (sym within)) is)
