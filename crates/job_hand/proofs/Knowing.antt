-- What is known after a file has come.
use Rattle.std.proofs.Common.{◌≡◌, ◌<◌, ◌^◌, ℕ, List, [], ◌∷◌, ◌++◌, length, Bool, false, Option, None, Some, refl, ap, ◌∙◌, sym, subst, arith, Result, Ok, Err, OnOk, true≢false}
use Rattle.std.specs.Prelude.{is_some, not, ◌&&◌, is_err}
use Rattle.lpd_values.specs.Contents.{Contents}
use Rattle.job_streams.specs.Stream.{AreFitBlocks, Coming, Control, Data, IsFitControl, Part, has_prints, is_whole, names_of, prints_of}
use Rattle.job_streams.specs.Coming.{block_of, with_end, with_control}
use Rattle.job_streams.proofs.Streams.{fit_more, names_more, names_same, prints_more, prints_same}
use Rattle.job_hand.specs.declared.known.Known.{Known}
use Rattle.job_hand.specs.declared.known.KnownPart.{KnownPart}
use Rattle.job_hand.specs.Known.{Knows, KnowsPart, MayKnow}

-- which data file is coming, where one is known
pub known_part : (known : KnownPart) (part : Option Part) → MayKnow (Some known) part → (file : Part) × (part ≡ Some file) × KnowsPart known file
known_part known None h = absurd h
known_part known (Some file) h = (file, refl, h)

pub none_known : (part : Option Part) → MayKnow None part → part ≡ None
none_known None h = refl
none_known (Some file) h = absurd h

pub none_there : {A : Type 0} (o : Option A) → is_some o ≡ false → o ≡ None
none_there None h = refl
none_there (Some a) h = absurd (true≢false h)

-- what is so at Ok is so where there is no error
pub at_ok : {A E : Type 0} {P : Type 0} (r : Result A E) → OnOk r P → is_err r ≡ false → P
at_ok (Ok a) h e = h
at_ok (Err x) h e = absurd (true≢false e)

pub knows_end : (old new : Known) (known : KnownPart) (job : Coming) → Knows old job → old.part ≡ Some known → known.left ≡ 0 → new.names ≡ old.names ++ known.name ∷ [] → new.prints ≡ old.prints → new.part ≡ None → Knows new (with_end job)
knows_end old new known job h here none names prints part =
    let f = known_part known job.part (subst (λ o. MayKnow o job.part) here h.part) in
    let file = f.0 in
    let k = f.2 in
    let len : length file.octets ≡ file.count = omega (arith, k.left, none) in
    let blocks : job.blocks ++ block_of job.part ≡ job.blocks ++ Data file.name file.octets ∷ [] = ap (λ p. job.blocks ++ block_of p) f.1 in
    record {
      names = names ∙ (ap (λ n. n ++ known.name ∷ []) h.names ∙ (ap (λ n. names_of job.blocks ++ n ∷ []) k.name ∙ (sym (names_more job.blocks file.name file.octets) ∙ ap names_of (sym blocks))));
      prints = prints ∙ (h.prints ∙ (sym (prints_same job.blocks file.name file.octets) ∙ ap prints_of (sym blocks)));
      part = subst (λ o. MayKnow o None) (sym part) tt;
      fit = subst AreFitBlocks (sym blocks) (fit_more job.blocks (Data file.name file.octets) h.fit (record { named = k.named; some = omega (arith, k.some, len); counted = subst (λ n. n < 10 ^ 19) (sym len) k.counted }));
    }

pub knows_control : (old new : Known) (said : Contents) (job : Coming) → Knows old job → IsFitControl said → is_some old.part ≡ false → new.names ≡ old.names → new.prints ≡ Some said.prints → new.part ≡ old.part → Knows new (with_control said job)
knows_control old new said job h fit none names prints part = record {
  names = names ∙ (h.names ∙ sym (names_same job.blocks said));
  prints = prints ∙ sym (prints_more job.blocks said);
  part = subst (λ o. MayKnow o job.part) (sym part) h.part;
  fit = fit_more job.blocks (Control said) h.fit fit;
}

pub knows_whole : (known : Known) (prints names : List (List ℕ)) (all : Bool) (job : Coming) → Knows known job → is_some known.part ≡ false → known.prints ≡ Some prints → all ≡ has_prints (Some prints) known.names → all ≡ is_whole job
knows_whole known prints names all job h none here is =
    let p = none_known job.part (subst (λ o. MayKnow o job.part) (none_there known.part none) h.part) in
    is ∙ (ap (λ o. has_prints o known.names) (sym here) ∙ (ap (λ o. has_prints o known.names) h.prints ∙ (ap (has_prints (prints_of job.blocks)) h.names
    ∙ ap (λ o. not (is_some o) && has_prints (prints_of job.blocks) (names_of job.blocks)) (sym p))))
