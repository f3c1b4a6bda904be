-- What a reader has given, one read after another.
use Rattle.std.proofs.Common.{◌≡◌, ◌<◌, ◌++◌, ℕ, List, [], Option, Some, None, length, drop, refl, sym, ◌∙◌, ap, append_assoc, append-nil}
use Rattle.lpd_commands.specs.Ends.{Reads}
use Rattle.lpd_script.specs.Streams.{HasGiven, HasGivenAll}

-- at first it has given nothing
pub HasGiven-none : (left : Option (List ℕ)) → HasGiven left left []
HasGiven-none None = refl
HasGiven-none (Some old) = (old, refl, refl)

-- a read gives what follows
pub HasGiven-more : (old mid new : Option (List ℕ)) (given got : List ℕ) (room : ℕ)
    → HasGiven old mid given → Reads mid new got room → HasGiven old new (given ++ got)
HasGiven-more None None new given got room h r = r
HasGiven-more None (Some mid) new given got room h r = cc h
HasGiven-more (Some old) None new given got room h r = cc h.2
HasGiven-more (Some old) (Some mid) new given got room h r =
    let same : mid ≡ h.0 = cc h.2 in
    (drop (length got) mid, h.1 ∙ ap (λ rest. given ++ rest) (sym same ∙ r.0) ∙ sym (append_assoc given got _), r.1)

-- a read that gives nothing, though there is room, is the last
pub HasGivenAll-end : (old mid new : Option (List ℕ)) (given : List ℕ) (room : ℕ)
    → HasGiven old mid given → Reads mid new [] room → 0 < room → HasGivenAll old new given
HasGivenAll-end None None new given room h r some = r
HasGivenAll-end None (Some mid) new given room h r some = cc h
HasGivenAll-end (Some old) None new given room h r some = cc h.2
HasGivenAll-end (Some old) (Some mid) new given room h r some =
    let same : mid ≡ h.0 = cc h.2 in
    let none : mid ≡ [] = r.2 refl some in
    let left : h.0 ≡ [] = cc in
    (h.1 ∙ ap (λ rest. given ++ rest) left ∙ append-nil given, r.1 ∙ ap Some none)
