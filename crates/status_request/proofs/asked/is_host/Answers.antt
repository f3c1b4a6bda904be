use Rattle.std.proofs.Common.{◌≡◌, List, ℕ, ap, codes, map, rules, ◌∙◌}
use Rattle.std.proofs.lemmas.Bool.Decides.{same_from_decides}
use Rattle.std.proofs.lemmas.Slice.Eq.{bytes_eq-Decides}
use Rattle.std.specs.Char.{to_ascii_lowercase}
use Rattle.std.specs.Str.{bytes_eq}
use Rattle.status_request.proofs.asked.is_host.Goals as goal

pub returns : goal.returns
returns c =
    let name = map to_ascii_lowercase c.args.name.now in
    let e : c.as_slice.result.now ≡ codes "host" = search rules in
    same_from_decides c.is_same.result _ c.is_same.ensures (bytes_eq-Decides name (map to_ascii_lowercase c.as_slice.result.now))
    ∙ ap (λ (v : List ℕ). bytes_eq name (map to_ascii_lowercase v)) e
