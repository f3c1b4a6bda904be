-- What a call leaves of the job in hand, and of those before it.
use Rattle.std.proofs.Common.{◌≡◌, ◌⊎◌, inl, inr, ⊎_elim, ℕ, ◌*◌, List, [], ◌∷◌, ◌++◌, Bool, length, Option, None, Some, refl, ap, ◌∙◌, sym, subst, suc, zero, arith, append_assoc, append-nil, true, false, true≢false}
use Rattle.std.specs.Prelude.{IsTrue, if◌then◌else◌, is_some, not, slice_get, ◌&&◌, ◌≤◌}
use Rattle.std.proofs.lemmas.Bool.{and_parts}
use Rattle.std.proofs.lemmas.List.{length_push}
use Rattle.std.proofs.lemmas.Option.{none-some, same_Some}
use Rattle.kept_jobs.specs.Folder.{Elapses, LacksNoMore, Seen, SomeOf}
use Rattle.memory_folder.specs.declared.file.DiskFile.{DiskFile}
use Rattle.memory_folder.specs.declared.memory.FileEnd.{FileEnd}
use Rattle.memory_folder.specs.declared.memory.FileEnd.TheVariants.{Discarded}
use Rattle.memory_folder.specs.declared.memory.GoneFile.{GoneFile}
use Rattle.memory_folder.specs.Memory.{Lacks, LeftSince, MayHold, MayLeave, WasLeft, gone_with, is_let_out, moment_of, octets_in, passed_in, told_of}

some_here : (o : Option DiskFile) → is_some o ≡ true → (file : DiskFile) × (o ≡ Some file)
some_here None h = absurd (true≢false (sym h))
some_here (Some file) h = (file, refl)

none_here : (o : Option DiskFile) → not (is_some o) ≡ true → o ≡ None
none_here None h = refl
none_here (Some file) h = absurd (true≢false (sym h))

-- publishing this file, where there is no whole one

published : (file : DiskFile) (c : Option (List ℕ)) → MayLeave (Some file) c → MayLeave None c ⊎ SomeOf (λ octets. MayHold (Some file) octets) c
published file c (inl gone) = inl gone.1
published file c (inr there) = inr there

pub crash_at_publish : (partial taken whole : Option DiskFile) → taken ≡ partial → IsTrue (is_some partial && not (is_some whole)) → (c : Option (List ℕ)) → MayLeave taken c → MayLeave whole c ⊎ SomeOf (λ octets. MayHold partial octets) c
crash_at_publish partial taken whole same ready c left =
    let both = and_parts (is_some partial) (not (is_some whole)) ready in
    let v = some_here partial both.0 in
    subst (λ p. MayLeave whole c ⊎ SomeOf (λ octets. MayHold p octets) c) (sym v.1)
    (subst (λ w. MayLeave w c ⊎ SomeOf (λ octets. MayHold (Some v.0) octets) c) (sym (none_here whole both.1))
    (published v.0 c (subst (λ t. MayLeave t c) (same ∙ v.1) left)))

-- time goes on from what was in hand to what is
abbrev pub GoesOn : (before now : List GoneFile) (was whole : Option DiskFile) → Type 0
GoesOn before now was whole =
    Elapses (moment_of before was) (moment_of now whole) (λ t c. LeftSince before was t c) (λ t c. LeftSince now whole t c) (λ c. MayLeave whole c)

at_most_one : (named : Bool) → (if named then 1 else 0) ≤ 1
at_most_one true = omega arith
at_most_one false = omega arith

began : (gone : List GoneFile) (file : DiskFile) → GoesOn gone gone None (Some file)
began gone file = record {
  later = omega arith;
  nothing_else = λ t c le left.
      ⊎_elim (λ now. ⊎_elim (λ may. inr may) (λ none. inl (inl (inl none.1))) now) (λ before. inl (inr before)) left;
  keeps = λ t c le left.
      ⊎_elim (λ now. ⊎_elim (λ none. inl (inr (le, none))) (λ none. inl (inr none)) now) (λ before. inr before) left;
}

pub time_at_publish : (gone : List GoneFile) (partial taken whole : Option DiskFile) → taken ≡ partial → IsTrue (is_some partial && not (is_some whole)) → GoesOn gone gone whole taken
time_at_publish gone partial taken whole same ready =
    let both = and_parts (is_some partial) (not (is_some whole)) ready in
    let v = some_here partial both.0 in
    subst (λ w. GoesOn gone gone w taken) (sym (none_here whole both.1))
    (subst (λ w. GoesOn gone gone None w) (sym (same ∙ v.1)) (began gone v.0))

-- the same is in hand
pub goes_on_same : (gone : List GoneFile) (whole : Option DiskFile) → GoesOn gone gone whole whole
goes_on_same gone whole = record {
  later = omega arith;
  nothing_else = λ t c le left. inl left;
  keeps = λ t c le left. left;
}

-- a file more

get_old : (gone more : List GoneFile) (i : ℕ) (g : GoneFile) → slice_get gone i ≡ Some g → slice_get (gone ++ more) i ≡ Some g
get_old [] more i g h = absurd (none-some g h)
get_old (x ∷ gone) more zero g h = h
get_old (x ∷ gone) more (suc i) g h = get_old gone more i g h

get_new : (gone : List GoneFile) (g : GoneFile) → slice_get (gone ++ g ∷ []) (length gone) ≡ Some g
get_new [] g = refl
get_new (x ∷ gone) g = get_new gone g

get_push : (gone : List GoneFile) (new : GoneFile) (i : ℕ) (g : GoneFile) → slice_get (gone ++ new ∷ []) i ≡ Some g → (slice_get gone i ≡ Some g) ⊎ ((i ≡ length gone) × (new ≡ g))
get_push [] new zero g h = inr (refl, same_Some new g h)
get_push [] new (suc i) g h = absurd (none-some g h)
get_push (x ∷ gone) new zero g h = inl h
get_push (x ∷ gone) new (suc i) g h = ⊎_elim (λ old. inl old) (λ last. inr (ap suc last.0, last.1)) (get_push gone new i g h)

-- nothing is in hand any more
pub time_at_end : (end : FileEnd) (gone : List GoneFile) (whole : Option DiskFile) → GoesOn gone (gone_with end whole gone) whole None
time_at_end end gone None = goes_on_same gone None
time_at_end end gone (Some file) =
    let g : GoneFile = record { end = end; file = file } in
    let long = length_push gone g in
    let few = at_most_one file.named in record {
      later = omega (arith, long, few);
      nothing_else = λ t c le left.
          ⊎_elim
          (λ now. ⊎_elim (λ none. inr none) (λ none. inr none.1) now)
          (λ before.
          ⊎_elim
          (λ old. inl (inr (before.0, before.1, old, before.3)))
          (λ last.
          let P : ℕ → Type 0 = λ n. WasLeft before.1.file (2 * n) t c in
          let Q : GoneFile → Type 0 = λ x. WasLeft x.file (2 * length gone) t c in
          let was : WasLeft file (2 * length gone) t c = subst Q (sym last.1) (subst P last.0 before.3) in
          ⊎_elim (λ may. inl (inl (inl may.1))) (λ none. inl (inl (inr none))) was)
          (get_push gone g before.0 before.1 before.2))
          left;
      keeps = λ t c le left.
          ⊎_elim
          (λ now.
          ⊎_elim
          (λ may. inr (length gone, g, get_new gone g, inl (omega (arith, le, few), may)))
          (λ none. inr (length gone, g, get_new gone g, inr none))
          now)
          (λ before. inr (before.0, before.1, get_old gone (g ∷ []) before.0 before.1 before.2, before.3))
          left;
    }

-- of what is told one more is told
passed_more : (gone : List GoneFile) (g : GoneFile) → passed_in (gone ++ g ∷ []) ≡ told_of g.end g.file.octets.items ++ passed_in gone
passed_more [] g = sym (append-nil (told_of g.end g.file.octets.items))
passed_more (x ∷ gone) g = ap (λ (l : List (Option ℕ × List ℕ)). l ++ told_of x.end x.file.octets.items) (passed_more gone g) ∙ append_assoc (told_of g.end g.file.octets.items) (passed_in gone) (told_of x.end x.file.octets.items)

pub discarded_same : (gone : List GoneFile) (whole : Option DiskFile) → passed_in (gone_with Discarded whole gone) ≡ passed_in gone
discarded_same gone None = refl
discarded_same gone (Some file) = passed_more gone (record { end = Discarded; file = file })

pub passed_with : (end : FileEnd) (gone : List GoneFile) (whole : Option DiskFile) (octets : List ℕ) → octets_in whole ≡ Some octets → passed_in (gone_with end whole gone) ≡ told_of end octets ++ passed_in gone
passed_with end gone None octets h = absurd (none-some octets h)
passed_with end gone (Some file) octets h =
    passed_more gone (record { end = end; file = file }) ∙ ap (λ (o : List ℕ). told_of end o ++ passed_in gone) (same_Some file.octets.items octets h)

-- what was taken away lacks nothing
pub discarded_lacks : (gone : List GoneFile) (whole : Option DiskFile) → LacksNoMore (λ octets. Lacks gone octets) (λ octets. Lacks (gone_with Discarded whole gone) octets)
discarded_lacks gone None octets h = h
discarded_lacks gone (Some file) octets h =
    let new : GoneFile = record { end = Discarded; file = file } in
    ⊎_elim
    (λ old. (h.0, h.1, old, h.3, h.4, h.5, h.6, h.7))
    (λ last.
    let P : GoneFile → Type 0 = λ x. is_let_out x.end ≡ true in
    let out : is_let_out Discarded ≡ true = subst P (sym last.1) h.3 in
    absurd (true≢false (sym out)))
    (get_push gone new h.0 h.1 h.2)

-- nor does what was kept
pub kept_lacks : (end : FileEnd) (gone : List GoneFile) (whole : Option DiskFile) (octets : List ℕ) → octets_in whole ≡ Some octets → ((c : Option (List ℕ)) → MayLeave whole c → c ≡ Some octets) →
    LacksNoMore (λ o. Lacks gone o) (λ o. Lacks (gone_with end whole gone) o)
kept_lacks end gone None octets told durable o h = h
kept_lacks end gone (Some file) octets told durable o h =
    let new : GoneFile = record { end = end; file = file } in
    ⊎_elim
    (λ old. (h.0, h.1, old, h.3, h.4, h.5, h.6, h.7))
    (λ last.
    let P : GoneFile → Type 0 = λ x. MayLeave (Some x.file) h.5 in
    let Q : GoneFile → Type 0 = λ x. x.file.octets.items ≡ o in
    let may : MayLeave (Some file) h.5 = subst P (sym last.1) h.6 in
    let its : file.octets.items ≡ o = subst Q (sym last.1) h.4 in
    absurd (h.7 (durable h.5 may ∙ ap Some (sym (same_Some file.octets.items octets told) ∙ its))))
    (get_push gone new h.0 h.1 h.2)

-- the files before are the same
pub same_time : (before now : List GoneFile) (whole : Option DiskFile) → now ≡ before → GoesOn before now whole whole
same_time before now whole e = subst (λ (gone : List GoneFile). GoesOn before gone whole whole) (sym e) (goes_on_same before whole)

pub same_lacks : (before now : List GoneFile) → now ≡ before → LacksNoMore (λ o. Lacks before o) (λ o. Lacks now o)
same_lacks before now e o h = subst (λ (gone : List GoneFile). Lacks gone o) e h

-- nothing is in hand any more
pub end_time : (end : FileEnd) (before now : List GoneFile) (was whole : Option DiskFile) → whole ≡ None → now ≡ gone_with end was before → GoesOn before now was whole
end_time end before now was whole none e =
    subst (λ (w : Option DiskFile). GoesOn before now was w) (sym none)
    (subst (λ (gone : List GoneFile). GoesOn before gone was None) (sym e) (time_at_end end before was))

pub end_lacks : (before now : List GoneFile) (was : Option DiskFile) → now ≡ gone_with Discarded was before → LacksNoMore (λ o. Lacks before o) (λ o. Lacks now o)
end_lacks before now was e o h = discarded_lacks before was o (subst (λ (gone : List GoneFile). Lacks gone o) e h)

pub end_passed : (before now : List GoneFile) (was : Option DiskFile) → now ≡ gone_with Discarded was before → passed_in now ≡ passed_in before
end_passed before now was e = ap passed_in e ∙ discarded_same before was

pub out_passed : (end : FileEnd) (before now : List GoneFile) (was : Option DiskFile) (octets : List ℕ) → octets_in was ≡ Some octets → now ≡ gone_with end was before → passed_in now ≡ told_of end octets ++ passed_in before
out_passed end before now was octets told e = ap passed_in e ∙ passed_with end before was octets told

pub out_lacks : (end : FileEnd) (before now : List GoneFile) (was : Option DiskFile) (octets : List ℕ) → octets_in was ≡ Some octets → ((c : Option (List ℕ)) → MayLeave was c → c ≡ Some octets) → now ≡ gone_with end was before →
    LacksNoMore (λ o. Lacks before o) (λ o. Lacks now o)
out_lacks end before now was octets told durable e o h = kept_lacks end before was octets told durable o (subst (λ (gone : List GoneFile). Lacks gone o) e h)

pub publish_time : (before now : List GoneFile) (partial taken whole : Option DiskFile) → now ≡ before → taken ≡ partial → IsTrue (is_some partial && not (is_some whole)) → GoesOn before now whole taken
publish_time before now partial taken whole e same ready =
    subst (λ (gone : List GoneFile). GoesOn before gone whole taken) (sym e) (time_at_publish before partial taken whole same ready)

-- a new file is in hand
pub created : (octets : List ℕ) (before now : List GoneFile) (was whole : Option DiskFile) → octets ≡ [] → whole ≡ None → now ≡ gone_with Discarded was before →
    ◌≡◌ {A = Seen} (record { partial = Some octets; whole = octets_in whole; passed = passed_in now }) (record { partial = Some []; whole = None; passed = passed_in before })
created octets before now was whole none nothing e =
    let partial : ◌≡◌ {A = Option (List ℕ)} (Some octets) (Some []) = ap Some none in
    let empty : octets_in whole ≡ None = ap octets_in nothing in
    let same = end_passed before now was e in
    rw (partial, empty, same) refl

-- nothing is in hand any more
pub emptied : (before now : List GoneFile) (was partial whole : Option DiskFile) → partial ≡ None → whole ≡ None → now ≡ gone_with Discarded was before →
    ◌≡◌ {A = Seen} (record { partial = octets_in partial; whole = octets_in whole; passed = passed_in now }) (record { partial = None; whole = None; passed = passed_in before })
emptied before now was partial whole none nothing e =
    let first : octets_in partial ≡ None = ap octets_in none in
    let empty : octets_in whole ≡ None = ap octets_in nothing in
    let same = end_passed before now was e in
    rw (first, empty, same) refl
