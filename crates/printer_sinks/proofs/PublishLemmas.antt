-- A job in a folder, page after page.
use Rattle.std.proofs.Common.{◌≡◌, ◌<◌, inl, inr, ℕ, Bool, true, false, List, [], ◌∷◌, ◌++◌, Option, Some, length, if◌then◌else◌, refl, ap, sym, ◌∙◌, subst, arith, append_assoc}
use Rattle.std.proofs.lemmas.List.{append-nil}
use Rattle.std.proofs.lemmas.Bool.Decides.{nat_tests}
use Rattle.printer_sinks.specs.Files.{File, Shelf, AddsOne, Keeps, PublishesAt, draft_for, extended, with_page, IsBroken}
use Rattle.printer_sinks.specs.Visits.{Given}
use Rattle.printer_sinks.specs.Published.{KeepsAll, PrintsAll, all_ok, joined, idle, IsPublished, OnlyWhole}
use Rattle.printer_sinks.specs.declared.draft.JobDraft.{JobDraft}
use Rattle.printer_sinks.specs.declared.draft.JobDraft.TheVariants.{Nothing, Whole, Broken}

-- where a sink is after these pages of a job
abbrev AtDraft : JobDraft → (job : ℕ) → List Given → (draft : Option (List ℕ)) → Type 0
AtDraft Nothing job pages draft = pages ≡ []
AtDraft (Whole j) job pages draft = (j ≡ job) × (all_ok pages ≡ true) × (draft ≡ Some (joined pages))
AtDraft (Broken j) job pages draft = (j ≡ job) × (all_ok pages ≡ false)

joined-more : (pages : List Given) (page : Given) → joined (pages ++ page ∷ []) ≡ joined pages ++ page.octets
joined-more [] page = append-nil page.octets
joined-more (first ∷ pages) page = ap (λ (s : List ℕ). first.octets ++ s) (joined-more pages page) ∙ sym (append_assoc first.octets (joined pages) page.octets)

all_ok-more : (pages : List Given) (page : Given) → page.ok ≡ true → all_ok (pages ++ page ∷ []) ≡ all_ok pages
all_ok-more [] page h = ap (λ b. if b then true else false) h
all_ok-more (first ∷ pages) page h = ap (λ b. if first.ok then b else false) (all_ok-more pages page h)

step_if : (b all : Bool) → all ≡ false → (if b then all else false) ≡ false
step_if true all h = h
step_if false all h = refl

all_ok-not : (pages : List Given) (page : Given) → page.ok ≡ false → all_ok (pages ++ page ∷ []) ≡ false
all_ok-not [] page h = ap (λ b. if b then true else false) h
all_ok-not (first ∷ pages) page h = step_if first.ok _ (all_ok-not pages page h)

whole_same : (job j : ℕ) → j ≡ job → (draft_for job (Whole j) ≡ Whole job) × (draft_for job (Broken j) ≡ Broken job)
whole_same job j h = (grind (arith, nat_tests), grind (arith, nat_tests))

-- a page more
keep_step : (job : ℕ) (pages : List Given) (page : Given) (ok : Bool) (files : List File) (old new : Shelf) → page.ok ≡ ok → AtDraft old.stage job pages old.draft → old.files ≡ Some files → Keeps job page.octets ok old new → AtDraft new.stage job (pages ++ page ∷ []) new.draft × (new.files ≡ Some files)
keep_step job pages page false files old new is at same (stage, kept) = (rw stage (refl, all_ok-not pages page is), kept ∙ same)
keep_step job pages page true files old new is at same (stage, sound, draft, kept) = (rw stage (go old.stage refl at), kept ∙ same)
  where
    go : (s : JobDraft) → old.stage ≡ s → AtDraft s job pages old.draft → (job ≡ job) × (all_ok (pages ++ page ∷ []) ≡ true) × (new.draft ≡ Some (joined (pages ++ page ∷ [])))
    go Nothing e none = (
      refl,
      all_ok-more pages page is ∙ ap all_ok none,
      draft ∙ ap (λ s. with_page (draft_for job s) page.octets old.draft old.files) e ∙ ap (λ o. with_page Nothing page.octets old.draft o) same
          ∙ sym (ap (λ (ps : List Given). Some (joined (ps ++ page ∷ []))) none ∙ ap Some (append-nil page.octets)),
    )
    go (Whole j) e (of, all, was) = (
      refl,
      all_ok-more pages page is ∙ all,
      draft ∙ ap (λ s. with_page (draft_for job s) page.octets old.draft old.files) e ∙ ap (λ s. with_page s page.octets old.draft old.files) (whole_same job j of).0
          ∙ ap (extended page.octets) was ∙ ap Some (sym (joined-more pages page)),
    )
    go (Broken j) e (of, all) =
        let s : draft_for job old.stage ≡ Broken job = ap (draft_for job) e ∙ (whole_same job j of).1 in
        absurd (sound (subst IsBroken (sym s) tt))

keep_all : (job : ℕ) (before after : List Given) (files : List File) (old new : Shelf) → AtDraft old.stage job before old.draft → old.files ≡ Some files → KeepsAll job after old new → AtDraft new.stage job (before ++ after) new.draft × (new.files ≡ Some files)
keep_all job before [] files old new at same is = rw (is, append-nil before) (at, same)
keep_all job before (page ∷ after) files old new at same (mid, keeps, rest) =
    let next = keep_step job before page page.ok files old mid refl at same keeps in
    let all = keep_all job (before ++ page ∷ []) after files mid new next.0 next.1 rest in
    let P : List Given → Type 0 = λ ps. AtDraft new.stage job ps new.draft in
    (subst P (append_assoc before (page ∷ []) after) all.0, all.1)

-- what got a number is the join of these pages
adds_is : (pages : List Given) (draft : Option (List ℕ)) (files : List File) (old new : Option (List File)) → draft ≡ Some (joined pages) → old ≡ Some files → AddsOne draft old new → IsPublished pages files new
adds_is pages draft files old new was same adds =
    let a : AddsOne (Some (joined pages)) old new = subst (λ d. AddsOne d old new) was adds in
    subst (λ o. AddsOne (Some (joined pages)) o new) same a

leave_step : (job : ℕ) (pages : List Given) (done ok : Bool) (files : List File) (stage : JobDraft) (draft : Option (List ℕ)) (old new : Option (List File)) → AtDraft stage job pages draft → old ≡ Some files → PublishesAt done ok stage draft old new → OnlyWhole pages done files new
leave_step job pages true true files (Whole j) draft old new (of, all, was) same adds = inr (refl, all, adds_is pages draft files old new was same adds)
leave_step job pages true false files (Whole j) draft old new (of, all, was) same (inl not) = inl (not ∙ same)
leave_step job pages true false files (Whole j) draft old new (of, all, was) same (inr adds) = inr (refl, all, adds_is pages draft files old new was same adds)
leave_step job pages false ok files stage draft old new at same not = inl (not ∙ same)
leave_step job pages true true files Nothing draft old new at same not = inl (not ∙ same)
leave_step job pages true true files (Broken j) draft old new at same not = inl (not ∙ same)
leave_step job pages true false files Nothing draft old new at same not = inl (not ∙ same)
leave_step job pages true false files (Broken j) draft old new at same not = inl (not ∙ same)

pub only_whole : (job : ℕ) (pages : List Given) (done ok : Bool) (draft : Option (List ℕ)) (files : List File) (new : Shelf) → PrintsAll job pages done ok (idle draft files) new → OnlyWhole pages done files new.files
only_whole job pages done ok draft files new (mid, keeps, (stage, leaves)) =
    let all = keep_all job [] pages files (idle draft files) mid refl refl keeps in
    leave_step job pages done ok files mid.stage mid.draft mid.files new.files all.0 all.1 leaves

there_step : (job : ℕ) (pages : List Given) (files : List File) (stage : JobDraft) (draft : Option (List ℕ)) (old new : Option (List File)) → AtDraft stage job pages draft → old ≡ Some files → PublishesAt true true stage draft old new → all_ok pages ≡ true → 0 < length pages → IsPublished pages files new
there_step job pages files Nothing draft old new none same leaves all some = absurd (omega (arith, ap length none))
there_step job pages files (Whole j) draft old new (of, ok, was) same adds all some = adds_is pages draft files old new was same adds
there_step job pages files (Broken j) draft old new (of, not) same leaves all some = let no : true ≡ false = sym all ∙ not in absurd (cc)

pub is_there : (job : ℕ) (pages : List Given) (draft : Option (List ℕ)) (files : List File) (new : Shelf) → PrintsAll job pages true true (idle draft files) new → all_ok pages ≡ true → 0 < length pages → IsPublished pages files new.files
is_there job pages draft files new (mid, keeps, (stage, leaves)) all some =
    let run = keep_all job [] pages files (idle draft files) mid refl refl keeps in
    there_step job pages files mid.stage mid.draft mid.files new.files run.0 run.1 leaves all some
