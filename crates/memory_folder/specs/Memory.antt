-- What a folder in memory has, and what a crash may leave of it.
use Rattle.std.specs.Prelude.{◌≡◌, ◌≤◌, ◌⊎◌, ℕ, List, [], ◌∷◌, ◌++◌, Bool, true, false, if◌then◌else◌, Option, Some, None, ◌+◌, ◌*◌, length, max, slice_get, take}
use Rattle.std.proofs.Common.{inl, refl, ⊎_elim, arith}
use Rattle.std.proofs.lemmas.Option.{slice_get_within}
use Rattle.memory_folder.specs.declared.file.Crash.{Crash}
use Rattle.memory_folder.specs.declared.file.Crash.TheVariants.{Loses, Keeps}
use Rattle.memory_folder.specs.declared.file.DiskFile.{DiskFile}
use Rattle.memory_folder.specs.declared.memory.FileEnd.{FileEnd}
use Rattle.memory_folder.specs.declared.memory.FileEnd.TheVariants.{Discarded, Left, Passed}
use Rattle.memory_folder.specs.declared.memory.GoneFile.{GoneFile}

abbrev pub octets_in : Option DiskFile → Option (List ℕ)
octets_in None = None
octets_in (Some file) = Some file.octets.items

-- what is told of a whole file that is in hand no more: the number of its job, none where it was left, and its octets
abbrev pub told_of : FileEnd → List ℕ → List (Option ℕ × List ℕ)
told_of (Passed job) octets = (Some job, octets) ∷ []
told_of Left octets = (None, octets) ∷ []
told_of Discarded octets = []

-- the jobs that were passed on or left, the newest first
abbrev pub passed_in : List GoneFile → List (Option ℕ × List ℕ)
passed_in [] = []
passed_in (g ∷ gs) = passed_in gs ++ told_of g.end g.file.octets.items

-- the whole files that were in hand before, with the one that is, which came to this end
abbrev pub gone_with : FileEnd → Option DiskFile → List GoneFile → List GoneFile
gone_with end None gone = gone
gone_with end (Some file) gone = gone ++ record { end = end; file = file } ∷ []

-- what the disk may have of a file's octets: those that are synced, and perhaps some that follow
abbrev pub IsPart : DiskFile → List ℕ → Type 0
IsPart file left = (n : ℕ) × (file.synced ≤ n) × (left ≡ take n file.octets.items)

-- what octets a crash may leave in a temporary file
abbrev pub MayHold : Option DiskFile → List ℕ → Type 0
MayHold None left = ⊥
MayHold (Some file) left = IsPart file left

-- what a crash may leave of a whole file: none only where its name isn't synced
abbrev pub MayLeave : Option DiskFile → Option (List ℕ) → Type 0
MayLeave None c = c ≡ None
MayLeave (Some file) c = ((file.named ≡ false) × (c ≡ None)) ⊎ ((left : List ℕ) × IsPart file left × (c ≡ Some left))

-- what this crash leaves of a whole file
abbrev pub left_by : Crash → DiskFile → Option (List ℕ)
left_by Loses file = if file.named then Some (take file.synced file.octets.items) else None
left_by (Keeps n) file = Some (take (max n file.synced) file.octets.items)

-- the same where there may be no whole file
abbrev pub left_of : Crash → Option DiskFile → Option (List ℕ)
left_of crash None = None
left_of crash (Some file) = left_by crash file

-- of each whole file in hand there are two moments: before its name is synced, and after; those of the files before it come first
abbrev pub moment_of : List GoneFile → Option DiskFile → ℕ
moment_of gone None = 2 * length gone
moment_of gone (Some file) = 2 * length gone + (if file.named then 1 else 0)

-- a crash since t might have left this of a file whose first moment is this one
abbrev pub WasLeft : DiskFile → (first t : ℕ) → Option (List ℕ) → Type 0
WasLeft file first t c = ((t ≤ first + 1) × MayLeave (Some file) c) ⊎ ((t ≤ first) × (c ≡ None))

-- of one of the files that were in hand before
abbrev pub WasLeftBefore : List GoneFile → (t : ℕ) → Option (List ℕ) → Type 0
WasLeftBefore gone t c = (i : ℕ) × (g : GoneFile) × (slice_get gone i ≡ Some g) × WasLeft g.file (2 * i) t c

-- a crash since t might have left this: of what is in hand now, before its name was synced, or of a file before it
abbrev pub LeftSince : List GoneFile → Option DiskFile → ℕ → Option (List ℕ) → Type 0
LeftSince gone whole t c = (MayLeave whole c ⊎ ((t ≤ 2 * length gone) × (c ≡ None))) ⊎ WasLeftBefore gone t c

-- a file was taken away, or was passed on or left
abbrev pub is_let_out : FileEnd → Bool
is_let_out Discarded = false
is_let_out end = true

-- of a file with these octets that was passed on or left a crash may leave anything else
abbrev pub Lacks : List GoneFile → List ℕ → Type 0
Lacks gone octets =
    (i : ℕ) × (g : GoneFile) × (slice_get gone i ≡ Some g) × (is_let_out g.end ≡ true) × (g.file.octets.items ≡ octets)
    × (c : Option (List ℕ)) × MayLeave (Some g.file) c × (c ≡ Some octets → ⊥)

unnamed : (named : Bool) (n : ℕ) → n + (if named then 1 else 0) ≤ n → named ≡ false
unnamed true n le = absurd (omega (arith, le))
unnamed false n le = refl

now_left : (gone : List GoneFile) (whole : Option DiskFile) (c : Option (List ℕ)) → moment_of gone whole ≤ 2 * length gone → c ≡ None → MayLeave whole c
now_left gone None c le none = none
now_left gone (Some file) c le none = inl (unnamed file.named (2 * length gone) le, none)

least : (gone : List GoneFile) (whole : Option DiskFile) → 2 * length gone ≤ moment_of gone whole
least gone None = omega arith
least gone (Some file) = omega arith

pub only_left : (gone : List GoneFile) (whole : Option DiskFile) (c : Option (List ℕ)) → LeftSince gone whole (moment_of gone whole) c → MayLeave whole c
only_left gone whole c h =
    ⊎_elim
    (λ now. ⊎_elim (λ may. may) (λ none. now_left gone whole c none.0 none.1) now)
    (λ before.
    let within = slice_get_within gone before.0 before.1 before.2 in
    let from = least gone whole in
    absurd (⊎_elim (λ named. omega (arith, within, from, named.0)) (λ none. omega (arith, within, from, none.0)) before.3))
    h
