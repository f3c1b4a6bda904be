-- What each call owes, over plain values.
use Rattle.std.proofs.Common.{◌≡◌, ℕ, suc, ◌+◌, ◌*◌, ◌<◌, ◌≤◌, inl, inr, true, false, Option, Some, None, List, [], ◌∷◌, ◌++◌, length, drop, set, get_or, refl, sym, ◌∙◌, ap, subst, arith}
use Rattle.std.specs.Prelude.{IsSome}
use Rattle.std.proofs.lemmas.Bool.{cases_eq, cases_lt}
use Rattle.std.proofs.lemmas.List.{length_push, length-set, get_or-set_same, get_or-set_other, get_or_append_left, get_or_push, get_or_past, get_or_default, drop_more, length-drop}
use Rattle.page_pool.specs.Page.{Page}
use Rattle.page_nodes.specs.Chains.{Chains, with_chain}
use Rattle.page_chain.specs.declared.run.Run.{Run}
use Rattle.page_chain.specs.declared.place.Place.{Place}
use Rattle.page_chain.specs.Files.{File, file_at, no_place, page_at, with_page_at}
use Rattle.page_chain.specs.Changes.{begun, with_page, next_place, taken, or_no_place, last_place, given_again, AwaitsLast, IsOnlyGap, IsReady}
use Rattle.page_chain.specs.Held.{Kept, Turns, Leads, IsHeld, CanPrint, HasTurned, IsOfFile, no_run, run_at, turned_in, padded, by_number, file_shown, pages_in, files_from, places_left, shown}
use Rattle.page_chain.specs.Laws.{OthersStay}
use Rattle.page_chain.proofs.Turning.{front_is, front_some, gap_counts, gap_short, last_is_gap, turned_take, turned_whole, turned_back, turned_push}
use Rattle.page_chain.proofs.Seen.{file_of, files_push, size_of, seen_after, seen_by_place, length-files_from, with_page_last}
use Rattle.page_chain.proofs.Rows.{in_same, in_other, only_row, row_stays}
use Rattle.page_chain.proofs.Places.{none_left, some_left, places_step, places_more, places_over, turned_here, turned_none, turned_other, turned_within}

-- the chains of other rows
pub others_stay : OthersStay
others_stay c old new row o ne h =
    let same : (i : ℕ) → i < 52 → pages_in new c.row i ≡ pages_in old c.row i = λ i lt. o.others c.row i ne lt in
    let files = seen_by_place new c.row c.prints c.turned c.files (files_from old c.row c.prints c.turned 0 c.files) (length-files_from old c.row c.prints c.turned 0 c.files)
    (λ i lt. ap (λ (ps : List Page). file_shown ps (turned_in c.prints c.turned i) (run_at c.files i)) (same i (let f = h.few in omega (arith, lt, f)))
    ∙ sym (file_of old c.row c.prints c.turned c.files i lt)) in (
      ap (λ (fs : List File). record (shown c old) { files = fs }) files,
      record {
        row = row_stays old new row o c.row h.row;
        few = h.few;
        fits = λ i lt. (let f = h.few in let e = ap length (same i (omega (arith, lt, f))) in let fits = h.fits i lt in omega (arith, e, fits));
        whole = λ is_open i e. ap length (same i (let f = h.few in omega (arith, e, f))) ∙ h.whole is_open i e;
        beyond = λ i le lt. same i lt ∙ h.beyond i le lt;
      },
    )

-- a new file
pub begins : (c : Kept) (name : List ℕ) → c.is_open ≡ false → CanPrint c.files c.prints c.turned → places_left c.files c.prints c.turned ≡ [] → length c.files < 52
    → Turns c (record c { files = c.files ++ record { name = name; pages = 0 } ∷ []; is_open = true }) (begun name)
begins c name closed p none room =
    let run : Run = record { name = name; pages = 0 } in
    let empty = none_left c.files c.prints c.turned p none in
    record {
      shows = λ nodes h.
          let at_end : pages_in nodes c.row (0 + length c.files) ≡ [] =
          (let same : 0 + length c.files ≡ length c.files = omega arith in ap (pages_in nodes c.row) same ∙ h.beyond (length c.files) (omega arith) room) in
          let new_file = ap (λ (ps : List Page). file_shown ps (turned_in [] c.turned (0 + length c.files)) run) at_end in
          let files = ap (λ (ps : List ℕ). files_from nodes c.row ps c.turned 0 (c.files ++ run ∷ [])) empty
          ∙ (files_push nodes c.row [] c.turned 0 c.files run
          ∙ (ap (λ (f : File). files_from nodes c.row [] c.turned 0 c.files ++ f ∷ []) new_file
          ∙ ap (λ (ps : List ℕ). files_from nodes c.row ps c.turned 0 c.files ++ record { name = name; pages = [] } ∷ []) (sym empty))) in
          let places = ap (λ (ps : List ℕ). places_left (c.files ++ run ∷ []) ps c.turned) empty ∙ ap (λ (ps : List ℕ). places_left c.files ps c.turned) (sym empty) in
          ap (λ (fs : List File). record (shown c nodes) { files = fs; is_open = true; places = places_left (c.files ++ run ∷ []) c.prints c.turned }) files
          ∙ ap (λ (ps : List Place). record (begun name (shown c nodes)) { places = ps }) places;
      held = λ nodes h.
          let l = length_push c.files run in
          record {
            row = h.row;
            few = omega (arith, l, room);
            fits = λ i lt. elim (cases_lt i (length c.files)) [
              | inl il ↦
                  let same = ap (λ (r : Run). r.pages) (get_or_append_left c.files (run ∷ []) no_run i il) in
                  let fits = h.fits i il in omega (arith, same, fits)
              | inr le ↦ let e = ap length (h.beyond i le (omega (arith, l, lt, room))) in omega (arith, e)
            ];
            whole = λ is_open i e.
                let at : i ≡ length c.files = omega (arith, e, l) in
                ap length (h.beyond i (omega (arith, at)) (omega (arith, at, room)))
                ∙ sym (ap (λ (r : Run). r.pages) (get_or_push c.files run no_run i (sym at)));
            beyond = λ i le lt. h.beyond i (omega (arith, l, le)) lt;
          };
      row = refl;
    }

-- a page of the open file
pub pushes : (c : Kept) (nodes new : Chains) (last len : ℕ) (page : Page) → IsHeld c nodes → c.is_open ≡ true → c.prints ≡ [] → suc last ≡ length c.files
    → new ≡ with_chain nodes (52 * c.row + last) (pages_in nodes c.row last ++ page ∷ []) → len ≡ length (pages_in new c.row last)
    → Leads c (record c { files = set c.files last (record (run_at c.files last) { pages = len }) }) nodes new
    (record (shown c nodes) { files = with_page (shown c nodes).files page })
pushes c nodes new last len page h opened empty at e n =
    let old = pages_in nodes c.row last in
    let run = run_at c.files last in
    let files = set c.files last (record run { pages = len }) in
    let few = h.few in
    let last_lt : last < length c.files = omega arith in
    let lt52 : last < 52 = omega (arith, few) in
    let here : pages_in new c.row last ≡ old ++ page ∷ [] = ap (λ (u : Chains). pages_in u c.row last) e ∙ in_same nodes c.row last (old ++ page ∷ []) h.row lt52 in
    let other : (i : ℕ) → (i ≡ last → ⊥) → pages_in new c.row i ≡ pages_in nodes c.row i =
    λ i ne. ap (λ (u : Chains). pages_in u c.row i) e ∙ in_other nodes c.row last i (old ++ page ∷ []) ne in
    let whole = h.whole opened last at in
    let len_is : len ≡ suc run.pages = (let a = ap length here in let b = length_push old page in omega (arith, n, a, b, whole)) in
    let run_here : run_at files last ≡ record run { pages = len } = get_or-set_same c.files last (record run { pages = len }) no_run last_lt in
    let run_other : (i : ℕ) → (i ≡ last → ⊥) → run_at files i ≡ run_at c.files i = λ i ne. get_or-set_other c.files last i (record run { pages = len }) no_run ne in
    let count = length-set c.files last (record run { pages = len }) in
    let fs = files_from nodes c.row [] c.turned 0 c.files in
    let fl = length-files_from nodes c.row [] c.turned 0 c.files in
    let f = file_at fs last in
    let grown : File = record f { pages = f.pages ++ Some page ∷ [] } in
    let file_here : file_shown (pages_in new c.row last) 0 (run_at files last) ≡ grown =
    ap (λ (ps : List Page). file_shown ps 0 (run_at files last)) here
    ∙ (ap (λ (r : Run). file_shown (old ++ page ∷ []) 0 r) run_here
    ∙ (ap (λ (ps : List (Option Page)). record { name = run.name; pages = ps }) (turned_push run.pages len old page whole len_is)
    ∙ ap (λ (g : File). record g { pages = g.pages ++ Some page ∷ [] }) (sym (file_of nodes c.row [] c.turned c.files last last_lt)))) in
    let seen : files_from new c.row [] c.turned 0 files ≡ with_page fs page =
    seen_after nodes new c.row [] [] c.turned c.turned c.files files last grown last_lt count file_here
    (λ i il ne. ap (λ (ps : List Page). file_shown ps 0 (run_at files i)) (other i ne) ∙ ap (λ (r : Run). file_shown (pages_in nodes c.row i) 0 r) (run_other i ne))
    ∙ sym (with_page_last fs last page (omega (arith, at, fl))) in
    let places : places_left files c.prints c.turned ≡ places_left c.files c.prints c.turned =
    ap (λ (ps : List ℕ). places_left files ps c.turned) empty ∙ ap (λ (ps : List ℕ). places_left c.files ps c.turned) (sym empty) in
    record {
      shows =
          ap (λ (ps : List Place). record { files = files_from new c.row c.prints c.turned 0 files; is_open = c.is_open; places = ps; last = c.last; file_room = c.file_room }) places
          ∙ ap (λ (xs : List File). record (shown c nodes) { files = xs })
          (ap (λ (ps : List ℕ). files_from new c.row ps c.turned 0 files) empty ∙ (seen ∙ ap (λ (ps : List ℕ). with_page (files_from nodes c.row ps c.turned 0 c.files) page) (sym empty)));
      held = record {
        row = row_stays nodes new c.row (only_row nodes new c.row last (old ++ page ∷ []) e lt52) c.row h.row;
        few = omega (arith, count, few);
        fits = λ i il. elim (cases_eq i last) [
          | inl same ↦
              let a = ap (λ (j : ℕ). length (pages_in new c.row j)) same in
              let b = ap (λ (j : ℕ). (run_at files j).pages) same in
              let d = ap (λ (r : Run). r.pages) run_here in
              omega (arith, a, b, d, n)
          | inr ne ↦
              let a = ap length (other i ne) in
              let b = ap (λ (r : Run). r.pages) (run_other i ne) in
              let fits = h.fits i (omega (arith, count, il)) in
              omega (arith, a, b, fits)
        ];
        whole = λ is_open i ie.
            let same : i ≡ last = omega (arith, ie, at, count) in
            ap (λ (j : ℕ). length (pages_in new c.row j)) same ∙ (sym n ∙ (ap (λ (r : Run). r.pages) (sym run_here) ∙ ap (λ (j : ℕ). (run_at files j).pages) (sym same)));
        beyond = λ i le lt. other i (λ same. omega (arith, same, le, at, count)) ∙ h.beyond i (omega (arith, count, le)) lt;
      };
      only = only_row nodes new c.row last (old ++ page ∷ []) e lt52;
      row = refl;
    }

-- what is still to be printed once a place was handed out
pub record Passes (files : List Run) (file : ℕ) (prints : List ℕ) (turned : ℕ) (later : List ℕ) (turns : ℕ) : Type 0 where
  pub here : (rest : List Page) → by_number (turned_in later turns file) (padded (run_at files file).pages rest) ≡ by_number (suc turned) (padded (run_at files file).pages rest)
  pub others : (i : ℕ) → (i ≡ file → ⊥) → turned_in later turns i ≡ 0
  pub places : places_left files later turns ≡ drop 1 (places_left files (file ∷ prints) turned)
  pub can : CanPrint files later turns

pub passes_on : (files : List Run) (file : ℕ) (prints : List ℕ) (turned : ℕ) → CanPrint files (file ∷ prints) turned → suc turned < (run_at files file).pages
    → Passes files file prints turned (file ∷ prints) (suc turned)
passes_on files file prints turned p lt = record {
  here = λ rest. ap (λ (r : ℕ). by_number r (padded (run_at files file).pages rest)) (turned_here file prints (suc turned));
  others = λ i ne. turned_other file prints (suc turned) i ne;
  places = sym (places_more files file prints turned p.1);
  can = (p.0, lt, p.2);
}

pub passes_over : (files : List Run) (file : ℕ) (prints : List ℕ) (turned : ℕ) → CanPrint files (file ∷ prints) turned → suc turned ≡ (run_at files file).pages
    → Passes files file prints turned prints 0
passes_over files file prints turned p e = record {
  here = λ rest.
      let n = (run_at files file).pages in
      ap (λ (r : ℕ). by_number r (padded n rest)) (turned_none prints file)
      ∙ (sym (turned_whole n rest) ∙ ap (λ (r : ℕ). by_number r (padded n rest)) (sym e));
  others = λ i ne. turned_none prints i;
  places = sym (places_more files file prints turned p.1 ∙ places_over files file prints (suc turned) e);
  can = p.2;
}

-- the place that is handed out next
pub next_is : (c : Kept) (nodes : Chains) (file : ℕ) (prints : List ℕ) → CanPrint c.files (file ∷ prints) c.turned
    → next_place (shown (record c { prints = file ∷ prints }) nodes) ≡ record { file = file; number = c.turned }
next_is c nodes file prints p = ap (λ (ps : List Place). get_or ps 0 no_place) (places_step c.files file prints c.turned p.1)

next_file : (c : Kept) (nodes : Chains) (file : ℕ) (prints : List ℕ) → CanPrint c.files (file ∷ prints) c.turned
    → file_at (shown (record c { prints = file ∷ prints }) nodes).files file ≡ file_shown (pages_in nodes c.row file) c.turned (run_at c.files file)
next_file c nodes file prints p =
    file_of nodes c.row (file ∷ prints) c.turned c.files file p.0
    ∙ ap (λ (r : ℕ). file_shown (pages_in nodes c.row file) r (run_at c.files file)) (turned_here file prints c.turned)

-- its page is the one at the front
pub next_page_is : (c : Kept) (nodes : Chains) (file : ℕ) (prints : List ℕ) (page : Page) (rest : List Page) → CanPrint c.files (file ∷ prints) c.turned
    → pages_in nodes c.row file ≡ page ∷ rest
    → page_at (shown (record c { prints = file ∷ prints }) nodes).files (next_place (shown (record c { prints = file ∷ prints }) nodes)) ≡ Some page
next_page_is c nodes file prints page rest p e =
    let fs = (shown (record c { prints = file ∷ prints }) nodes).files in
    ap (page_at fs) (next_is c nodes file prints p)
    ∙ (ap (λ (f : File). get_or f.pages c.turned None) (next_file c nodes file prints p)
    ∙ (ap (λ (ps : List Page). get_or (by_number c.turned (padded (run_at c.files file).pages ps)) c.turned None) e
    ∙ front_is (run_at c.files file).pages c.turned page rest p.1))

-- and where it is there, there is one at the front
pub next_front : (c : Kept) (nodes : Chains) (file : ℕ) (prints : List ℕ) → CanPrint c.files (file ∷ prints) c.turned
    → IsSome (page_at (shown (record c { prints = file ∷ prints }) nodes).files (next_place (shown (record c { prints = file ∷ prints }) nodes)))
    → 0 < length (pages_in nodes c.row file)
next_front c nodes file prints p h =
    let fs = (shown (record c { prints = file ∷ prints }) nodes).files in
    front_some (run_at c.files file).pages c.turned (pages_in nodes c.row file) p.1
    (subst (λ (o : Option Page). IsSome o) (ap (page_at fs) (next_is c nodes file prints p) ∙ ap (λ (f : File). get_or f.pages c.turned None) (next_file c nodes file prints p)) h)

-- a page is handed out
pub takes : (c : Kept) (nodes new : Chains) (file : ℕ) (prints later : List ℕ) (turns : ℕ) (page : Page) (rest : List Page)
    → IsHeld (record c { prints = file ∷ prints }) nodes → (c.is_open ≡ true → ⊥) → CanPrint c.files (file ∷ prints) c.turned
    → Passes c.files file prints c.turned later turns
    → pages_in nodes c.row file ≡ page ∷ rest → new ≡ with_chain nodes (52 * c.row + file) rest
    → Leads (record c { prints = file ∷ prints }) (record c { prints = later; turned = turns; last = Some (record { file = file; number = c.turned }) }) nodes new
    (taken (shown (record c { prints = file ∷ prints }) nodes))
takes c nodes new file prints later turns page rest h closed p q front e =
    let old = record c { prints = file ∷ prints } in
    let place : Place = record { file = file; number = c.turned } in
    let fs = files_from nodes c.row (file ∷ prints) c.turned 0 c.files in
    let few = h.few in
    let lt52 : file < 52 = (let l = p.0 in omega (arith, l, few)) in
    let here : pages_in new c.row file ≡ rest = ap (λ (u : Chains). pages_in u c.row file) e ∙ in_same nodes c.row file rest h.row lt52 in
    let other : (i : ℕ) → (i ≡ file → ⊥) → pages_in new c.row i ≡ pages_in nodes c.row i =
    λ i ne. ap (λ (u : Chains). pages_in u c.row i) e ∙ in_other nodes c.row file i rest ne in
    let run = run_at c.files file in
    let f = file_at fs file in
    let gap : File = record f { pages = set f.pages c.turned None } in
    let short : length rest < run.pages = (let a = ap length front in let fits = h.fits file p.0 in omega (arith, a, fits)) in
    let file_here : file_shown (pages_in new c.row file) (turned_in later turns file) run ≡ gap =
    ap (λ (ps : List Page). file_shown ps (turned_in later turns file) run) here
    ∙ (ap (λ (ps : List (Option Page)). record { name = run.name; pages = ps })
    (q.here rest ∙ (turned_take run.pages c.turned page rest p.1 short
    ∙ ap (λ (ps : List Page). set (by_number c.turned (padded run.pages ps)) c.turned None) (sym front)))
    ∙ ap (λ (g : File). record g { pages = set g.pages c.turned None }) (sym (next_file c nodes file prints p))) in
    let seen : files_from new c.row later turns 0 c.files ≡ set fs file gap =
    seen_after nodes new c.row (file ∷ prints) later c.turned turns c.files c.files file gap p.0 refl file_here
    (λ i il ne.
    ap (λ (ps : List Page). file_shown ps (turned_in later turns i) (run_at c.files i)) (other i ne)
    ∙ ap (λ (r : ℕ). file_shown (pages_in nodes c.row i) r (run_at c.files i)) (q.others i ne ∙ sym (turned_other file prints c.turned i ne))) in
    let next = next_is c nodes file prints p in
    let v = shown old nodes in
    record {
      shows =
          ap (λ (xs : List File). record { files = xs; is_open = c.is_open; places = places_left c.files later turns; last = Some place; file_room = c.file_room }) seen
          ∙ (ap (λ (ps : List Place). record { files = set fs file gap; is_open = c.is_open; places = ps; last = Some place; file_room = c.file_room }) q.places
          ∙ ap (λ (x : Place). record v { files = with_page_at fs x None; places = drop 1 v.places; last = Some x }) (sym next));
      held = record {
        row = row_stays nodes new c.row (only_row nodes new c.row file rest e lt52) c.row h.row;
        few = few;
        fits = λ i il. elim (cases_eq i file) [
          | inl same ↦
              let a = ap (λ (j : ℕ). length (pages_in new c.row j)) same in
              let b = ap (λ (j : ℕ). (run_at c.files j).pages) same in
              let d = ap length here in
              omega (arith, a, b, d, short)
          | inr ne ↦ let a = ap length (other i ne) in let fits = h.fits i il in omega (arith, a, fits)
        ];
        whole = λ is_open i ie. absurd (closed is_open);
        beyond = λ i le lt. other i (λ same. let l = p.0 in omega (arith, same, le, l)) ∙ h.beyond i le lt;
      };
      only = only_row nodes new c.row file rest e lt52;
      row = refl;
    }

-- a page comes back
pub gives : (c : Kept) (nodes new : Chains) (place : Place) (page : Page)
    → IsHeld c nodes → CanPrint c.files c.prints c.turned → place.number < (run_at c.files place.file).pages → place.file < length c.files → c.last ≡ Some place
    → IsOnlyGap (shown c nodes) (last_place (shown c nodes)) → new ≡ with_chain nodes (52 * c.row + place.file) (pages_in nodes c.row place.file ++ page ∷ [])
    → Leads c c nodes new (given_again page (shown c nodes))
gives c nodes new place page h p number there last gap e =
    let file = place.file in
    let old = pages_in nodes c.row file in
    let run = run_at c.files file in
    let turned = turned_in c.prints c.turned file in
    let fs = files_from nodes c.row c.prints c.turned 0 c.files in
    let few = h.few in
    let lt52 : file < 52 = omega (arith, there, few) in
    let is_last : last_place (shown c nodes) ≡ place = ap or_no_place last in
    let g = subst (IsOnlyGap (shown c nodes)) is_last gap in
    let f = file_at fs file in
    let shows : f ≡ file_shown old turned run = file_of nodes c.row c.prints c.turned c.files file there in
    let out : get_or (by_number turned (padded run.pages old)) place.number None ≡ None =
    ap (λ (x : File). get_or x.pages place.number None) (sym shows) ∙ g.out in
    let size : length f.pages ≡ run.pages = size_of nodes c.row c.prints c.turned c.files file in
    let others : (m : ℕ) → m < run.pages → (m ≡ place.number → ⊥) → IsSome (get_or (by_number turned (padded run.pages old)) m None) =
    λ m lt ne. subst (λ (o : Option Page). IsSome o) (ap (λ (x : File). get_or x.pages m None) shows) (g.others m (omega (arith, size, lt)) ne) in
    let within = turned_within c.files c.prints c.turned file p in
    let short = gap_short run.pages turned place.number old page within number out others in
    let here : pages_in new c.row file ≡ old ++ page ∷ [] = ap (λ (u : Chains). pages_in u c.row file) e ∙ in_same nodes c.row file (old ++ page ∷ []) h.row lt52 in
    let other : (i : ℕ) → (i ≡ file → ⊥) → pages_in new c.row i ≡ pages_in nodes c.row i =
    λ i ne. ap (λ (u : Chains). pages_in u c.row i) e ∙ in_other nodes c.row file i (old ++ page ∷ []) ne in
    let full : File = record f { pages = set f.pages place.number (Some page) } in
    let file_here : file_shown (pages_in new c.row file) turned run ≡ full =
    ap (λ (ps : List Page). file_shown ps turned run) here
    ∙ (ap (λ (ps : List (Option Page)). record { name = run.name; pages = ps }) (turned_back run.pages turned place.number old page within number out others)
    ∙ ap (λ (x : File). record x { pages = set x.pages place.number (Some page) }) (sym shows)) in
    let seen : files_from new c.row c.prints c.turned 0 c.files ≡ set fs file full =
    seen_after nodes new c.row c.prints c.prints c.turned c.turned c.files c.files file full there refl file_here
    (λ i il ne. ap (λ (ps : List Page). file_shown ps (turned_in c.prints c.turned i) (run_at c.files i)) (other i ne)) in
    record {
      shows =
          ap (λ (xs : List File). record (shown c nodes) { files = xs }) seen
          ∙ ap (λ (x : Place). record (shown c nodes) { files = with_page_at fs x (Some page) }) (sym is_last);
      held = record {
        row = row_stays nodes new c.row (only_row nodes new c.row file (old ++ page ∷ []) e lt52) c.row h.row;
        few = few;
        fits = λ i il. elim (cases_eq i file) [
          | inl same ↦
              let a = ap (λ (j : ℕ). length (pages_in new c.row j)) same in
              let b = ap (λ (j : ℕ). (run_at c.files j).pages) same in
              let d = ap length here in
              let l = length_push old page in
              omega (arith, a, b, d, l, short)
          | inr ne ↦ let a = ap length (other i ne) in let fits = h.fits i il in omega (arith, a, fits)
        ];
        whole = λ is_open i ie. elim (cases_eq i file) [
          | inl same ↦
              let w = h.whole is_open i ie in
              let a = ap (λ (j : ℕ). length (pages_in nodes c.row j)) same in
              let b = ap (λ (j : ℕ). (run_at c.files j).pages) same in
              absurd (omega (arith, w, a, b, short))
          | inr ne ↦ ap length (other i ne) ∙ h.whole is_open i ie
        ];
        beyond = λ i le lt. other i (λ same. omega (arith, same, le, there)) ∙ h.beyond i le lt;
      };
      only = only_row nodes new c.row file (old ++ page ∷ []) e lt52;
      row = refl;
    }

pub print_none : (files : List Run) (prints : List ℕ) (turned : ℕ) → prints ≡ [] → CanPrint files prints turned
print_none files prints turned e = subst (λ (ps : List ℕ). CanPrint files ps turned) (sym e) tt

pub of_file_push : (files : List Run) (run : Run) (last : Option Place) → IsOfFile files last → IsOfFile (files ++ run ∷ []) last
of_file_push files run None h = tt
of_file_push files run (Some place) h = elim (cases_lt place.file (length files)) [
  | inl lt ↦ let same = ap (λ (r : Run). r.pages) (get_or_append_left files (run ∷ []) no_run place.file lt) in omega (arith, same, h)
  | inr le ↦ absurd (let none = ap (λ (r : Run). r.pages) (get_or_past files place.file no_run le) in omega (arith, none, h))
]

pub file_there : (files : List Run) (place : Place) → place.number < (run_at files place.file).pages → place.file < length files
file_there files place h = elim (cases_lt place.file (length files)) [
  | inl lt ↦ lt
  | inr le ↦ absurd (let none = ap (λ (r : Run). r.pages) (get_or_past files place.file no_run le) in omega (arith, none, h))
]

-- the file whose page is handed out next stands first among those that are still to be printed
pub record Front (t now : Kept) (file : ℕ) (rest : List ℕ) : Type 0 where
  pub is : record t { prints = file ∷ rest } ≡ now
  pub front : t.prints ≡ file ∷ rest
  pub some : t.prints ≡ [] → ⊥
  pub can : CanPrint t.files (file ∷ rest) t.turned

pub front_at : (t now : Kept) (all : List ℕ) (printed file : ℕ) → t ≡ now → t.prints ≡ drop printed all → CanPrint t.files (drop printed all) t.turned
    → printed < length all → file ≡ get_or all printed file → Front t now file (drop (printed + 1) all)
front_at t now all printed file v e p lt read =
    let l = length-drop printed all in
    let rest = drop (printed + 1) all in
    let front : drop printed all ≡ file ∷ rest =
    drop_more all printed 0 lt ∙ ap (λ (x : ℕ). x ∷ rest) (sym (read ∙ get_or_default all printed file 0 lt)) in
    record {
      is = ap (λ (ps : List ℕ). record t { prints = ps }) (sym (e ∙ front)) ∙ v;
      front = e ∙ front;
      some = λ none. let m = ap length (sym e ∙ none) in omega (arith, m, l, lt);
      can = subst (λ (ps : List ℕ). CanPrint t.files ps t.turned) front p;
    }

pub front_file : (t now : Kept) (all : List ℕ) (printed file : ℕ) → t ≡ now → t.prints ≡ drop printed all → CanPrint t.files (drop printed all) t.turned
    → 0 < length (places_left now.files now.prints now.turned) → file ≡ get_or all printed file → Front t now file (drop (printed + 1) all)
front_file t now all printed file v e p some read =
    let here : 0 < length (places_left t.files (drop printed all) t.turned) =
    subst (λ (ps : List ℕ). 0 < length (places_left t.files ps t.turned)) e (subst (λ (u : Kept). 0 < length (places_left u.files u.prints u.turned)) (sym v) some) in
    let more = some_left t.files (drop printed all) t.turned here in
    let l = length-drop printed all in
    front_at t now all printed file v e p (omega (arith, more, l)) read

-- its page is there where a page stands at the front
pub ready : (c : Kept) (nodes : Chains) (file : ℕ) (prints : List ℕ) → CanPrint c.files (file ∷ prints) c.turned
    → (pages : List Page) → pages_in nodes c.row file ≡ pages → 0 < length pages → IsReady (shown (record c { prints = file ∷ prints }) nodes)
ready c nodes file prints p [] e lt = absurd (omega arith)
ready c nodes file prints p (page ∷ rest) e lt = record {
  some = (let l = ap length (places_step c.files file prints c.turned p.1) in omega (arith, l));
  here = subst (λ (o : Option Page). IsSome o) (sym (next_page_is c nodes file prints page rest p e)) refl;
}

-- the page that was handed out last, and its file
module _ (c : Kept) (nodes : Chains) (place : Place) (p : CanPrint c.files c.prints c.turned) (number : place.number < (run_at c.files place.file).pages) (last : c.last ≡ Some place) where
  abbrev old : List Page
  old = pages_in nodes c.row place.file

  abbrev run : Run
  run = run_at c.files place.file

  abbrev turns : ℕ
  turns = turned_in c.prints c.turned place.file

  shows : file_at (files_from nodes c.row c.prints c.turned 0 c.files) place.file ≡ file_shown old turns run
  shows = file_of nodes c.row c.prints c.turned c.files place.file (file_there c.files place number)

  size : length (file_at (files_from nodes c.row c.prints c.turned 0 c.files) place.file).pages ≡ run.pages
  size = size_of nodes c.row c.prints c.turned c.files place.file

  within : turns ≤ run.pages
  within = turned_within c.files c.prints c.turned place.file p

  is : last_place (shown c nodes) ≡ place
  is = ap or_no_place last

  -- it is awaited where its file has one page less than it was given
  pub awaits : IsHeld c nodes → HasTurned c.files c.prints c.turned (Some place) → suc (length old) ≡ run.pages → AwaitsLast (shown c nodes)
  awaits h turned short =
      let gap = last_is_gap run.pages turns place.number old turned within number short in
      record {
        last = subst (λ (o : Option Place). IsSome o) (sym last) refl;
        gap = subst (IsOnlyGap (shown c nodes)) (sym is) (record {
          out = ap (λ (x : File). get_or x.pages place.number None) shows ∙ gap.0;
          others = λ m lt ne. subst (λ (o : Option Page). IsSome o) (sym (ap (λ (x : File). get_or x.pages m None) shows)) (gap.1 m (let s = size in omega (arith, s, lt)) ne);
        });
      }

  -- and only there
  pub awaits_counts : Page → AwaitsLast (shown c nodes) → suc (length old) ≡ run.pages
  awaits_counts page a =
      let g = subst (IsOnlyGap (shown c nodes)) is a.gap in
      gap_counts run.pages turns place.number old page within number
      (ap (λ (x : File). get_or x.pages place.number None) (sym shows) ∙ g.out)
      (λ m lt ne. subst (λ (o : Option Page). IsSome o) (ap (λ (x : File). get_or x.pages m None) shows) (g.others m (let s = size in omega (arith, s, lt)) ne))
