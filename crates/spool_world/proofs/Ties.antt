-- The page of a connection after a request was answered.
use Rattle.std.proofs.Common.{◌≡◌, ◌⊎◌, inl, inr, ℕ, Bool, true, false, cond, nat_le, length, take, drop, List, [], ◌∷◌, ◌++◌, Option, Some, None, min, ◌-◌, refl, sym, subst, ap, ◌∙◌}
use Rattle.std.specs.Prelude.{if◌then◌else◌}
use Rattle.page_pool.specs.Page.{Page}
use Rattle.receiver.specs.Script as script
use Rattle.receiver.specs.Script.{Item, Output, Request, Asked, FileOctets, PageOctets, Refuses, data_file}
use Rattle.receiver.specs.Reading.{Progress, Due, Requests, Waits, Kind, Admission, Opening, Lending, Ending, Aborting, Plain, answered, due_at, kind_of, with_yes}
use Rattle.receiver.specs.View.{held}
use Rattle.spool_history.specs.Now.{State}
use Rattle.spool_calls.specs.Looks.Detail.{Octets}
use Rattle.spool_calls.specs.Tickets.{HasLent}
use Rattle.spool_requests.specs.declared.answer.Answer.{Answer}
use Rattle.spool_requests.specs.declared.answer.Answer.TheVariants as answer
use Rattle.spool_requests.specs.Due.{IsDueAnswer}
use Rattle.spool_trace.specs.Sessions.{reply_of}
use Rattle.spool_trace.specs.Hands.{ends_filled, page_in}
use Rattle.spool_trace.proofs.Kept.{ends_push}
use Rattle.spool_trace.proofs.Stages.{Stage, Fine, items_at}
use Rattle.request_calls.specs.Pages.{blank, first_page, is_lent, page_with}
use Rattle.spool_world.proofs.Ends.{quiet_held, true_false}

-- what the items are where it goes on as it was due
abbrev IsQuiet : List Item → Type 0
IsQuiet items = (os : List Output) → page_in items os ≡ false

quiet_at : (items other : List Item) → items ≡ other → IsQuiet other → IsQuiet items
quiet_at items other e q = subst IsQuiet (sym e) q

pub after_quiet : (job : Bool) (g : Stage) (u : List ℕ) (r : Request) (items : List Item) (text : List ℕ) → Fine job g u (Requests r items text) → IsQuiet items
after_quiet job g u (script.Queue name) items text f = quiet_at items _ f.0 (λ os. refl)
after_quiet job g u (script.Open name) items text f = quiet_at items (items_at f.0) f.1 f.4
after_quiet job g u (script.BeginFile name count) items text f = quiet_at items _ f.0 (λ os. refl)
after_quiet job g u script.AskPage items text f = quiet_at items _ f.1 (λ os. refl)
after_quiet job g u (script.Filled page) items text f = quiet_at items _ f.1 (λ os. refl)
after_quiet job g u script.EndFile items text f = quiet_at items _ f.0 (λ os. refl)
after_quiet job g u (script.Control control) items text f = quiet_at items _ f.0 (λ os. refl)
after_quiet job g u script.AbortJob items text f = quiet_at items _ f.0 (λ os. refl)
after_quiet job g u (script.StartPrinters name) items text f = quiet_at items _ f.0 (λ os. refl)
after_quiet job g u (script.QueueState name list long) items text f = quiet_at items _ f.0 (λ os. refl)
after_quiet job g u (script.RemoveJobs name agent list) items text f = quiet_at items _ f.0 (λ os. refl)

abbrev pub is_filled : Request → Bool
is_filled (script.Filled page) = true
is_filled _ = false

-- and before it, where no page was filled
pub before_quiet : (job : Bool) (g : Stage) (u : List ℕ) (r : Request) (items : List Item) (text : List ℕ) → Fine job g u (Requests r items text) → is_filled r ≡ false → IsQuiet (items_at g)
before_quiet job g u (script.Queue name) items text f e = f.1
before_quiet job g u (script.Open name) items text f e = f.5
before_quiet job g u (script.BeginFile name count) items text f e = f.3
before_quiet job g u script.AskPage items text f e = f.5
before_quiet job g u (script.Filled page) items text f e = absurd (true_false e)
before_quiet job g u script.EndFile items text f e = f.2
before_quiet job g u (script.Control control) items text f e = f.2
before_quiet job g u script.AbortJob items text f e = f.2
before_quiet job g u (script.StartPrinters name) items text f e = f.1
before_quiet job g u (script.QueueState name list long) items text f e = f.1
before_quiet job g u (script.RemoveJobs name agent list) items text f e = f.1

-- a page that is put is one of this size
abbrev pub SizeOf : ℕ → Request → Type 0
SizeOf size (script.Filled page) = page.page_size ≡ size
SizeOf size _ = Unit {0}

pub none_has : (size : ℕ) (page : Option Page) → page ≡ None → HasLent false size page
none_has size page e = subst (λ (x : Option Page). HasLent false size x) (sym e) refl

abbrev pub is_refused : Answer → Bool
is_refused (answer.Refused n) = true
is_refused _ = false

-- no page comes with any other answer
none_with : (r : Request) (x : Answer) → is_lent x ≡ false → is_refused x ≡ false → page_with r x ≡ None
none_with script.AskPage (answer.Lent z) l f = absurd (true_false l)
none_with script.AskPage x l f = refl
none_with (script.Filled page) (answer.Refused n) l f = absurd (true_false f)
none_with (script.Filled page) x l f = refl
none_with r x l f = refl

module _ (size : ℕ) (r : Request) (os : List Output) where
  -- the page that is kept, and the one in the reader's hand, with these items
  pub record Tie (page : Option Page) (items : List Item) (tail : List ℕ) : Type 0 where
    pub has : HasLent (page_in items (os ++ Asked r ∷ [])) size (first_page page (held items tail))
    pub one : (page ≡ None) ⊎ (held items tail ≡ None)

  quiet_tie : (items : List Item) (tail : List ℕ) → IsQuiet items → Tie None items tail
  quiet_tie items tail q = record {
    has = subst (λ (b : Bool). HasLent b size (held items tail)) (sym (q (os ++ Asked r ∷ []))) (none_has size (held items tail) (quiet_held items tail q));
    one = inl refl;
  }

  yes_quiet : (kind : Kind) (p : Progress) → IsQuiet p.items → IsQuiet (with_yes kind p).items
  yes_quiet (Admission queue) p q = q
  yes_quiet Opening p q = q
  yes_quiet Lending p q = q
  yes_quiet Ending p q = q
  yes_quiet Aborting p q = q
  yes_quiet Plain p q = q

  -- nothing is refused and no page is lent: the items go on
  plain_tie : (x : Answer) (p : Progress) (page : Option Page) (tail : List ℕ) → is_lent x ≡ false → is_refused x ≡ false → page ≡ blank (page_with r x) → IsQuiet p.items → Tie (if is_lent x then None else page) (answered (kind_of r) (reply_of x) p).items tail
  plain_tie (answer.Lent z) p page tail l f b q = absurd (true_false l)
  plain_tie (answer.Refused n) p page tail l f b q = absurd (true_false f)
  plain_tie answer.Yes p page tail l f b q = subst (λ (x : Option Page). Tie x (with_yes (kind_of r) (record p { owed = None })).items tail) (sym (b ∙ ap blank (none_with r answer.Yes l f))) (quiet_tie _ tail (yes_quiet (kind_of r) (record p { owed = None }) q))
  plain_tie (answer.Accepted job) p page tail l f b q = subst (λ (x : Option Page). Tie x (with_yes (kind_of r) (record p { owed = None })).items tail) (sym (b ∙ ap blank (none_with r (answer.Accepted job) l f))) (quiet_tie _ tail (yes_quiet (kind_of r) (record p { owed = None }) q))
  plain_tie (answer.Told text) p page tail l f b q = subst (λ (x : Option Page). Tie x (with_yes (kind_of r) (record p { owed = None })).items tail) (sym (b ∙ ap blank (none_with r (answer.Told text) l f))) (quiet_tie _ tail (yes_quiet (kind_of r) (record p { owed = None }) q))
  plain_tie answer.Later p page tail l f b q = subst (λ (x : Option Page). Tie x p.items tail) (sym (b ∙ ap blank (none_with r answer.Later l f))) (quiet_tie p.items tail q)
  plain_tie answer.Stored p page tail l f b q = subst (λ (x : Option Page). Tie x p.items tail) (sym (b ∙ ap blank (none_with r answer.Stored l f))) (quiet_tie p.items tail q)
  plain_tie answer.Received p page tail l f b q = subst (λ (x : Option Page). Tie x p.items tail) (sym (b ∙ ap blank (none_with r answer.Received l f))) (quiet_tie p.items tail q)

-- a refusal is written next; a page that was to be put is kept
refused_has : (size : ℕ) (r : Request) (n : Rattle.lpd_values.specs.declared.refusal.Refusal.Refusal) → SizeOf size r → HasLent (ends_filled (Asked r ∷ [])) size (first_page (blank (page_with r (answer.Refused n))) None)
refused_has size (script.Filled page) n e = (refl, e)
refused_has size (script.Queue name) n e = refl
refused_has size (script.Open name) n e = refl
refused_has size (script.BeginFile name count) n e = refl
refused_has size script.AskPage n e = refl
refused_has size script.EndFile n e = refl
refused_has size (script.Control control) n e = refl
refused_has size script.AbortJob n e = refl
refused_has size (script.StartPrinters name) n e = refl
refused_has size (script.QueueState name list long) n e = refl
refused_has size (script.RemoveJobs name agent list) n e = refl

refused_tie : (size : ℕ) (r : Request) (os : List Output) (n : Rattle.lpd_values.specs.declared.refusal.Refusal.Refusal) (page : Option Page) (tail : List ℕ) → SizeOf size r → page ≡ blank (page_with r (answer.Refused n)) → Tie size r os page (Refuses n ∷ []) tail
refused_tie size r os n page tail e b = record {
  has = subst (λ (x : Bool). HasLent x size (first_page page None)) (sym (ends_push os (Asked r))) (subst (λ (x : Option Page). HasLent (ends_filled (Asked r ∷ [])) size (first_page x None)) (sym b) (refused_has size r n e));
  one = inr refl;
}

-- a page is lent
lent_tie : (size : ℕ) (os : List Output) (z : ℕ) (left : ℕ) (tail : List ℕ) → z ≡ size → Tie size script.AskPage os None (PageOctets (min z left) z ∷ FileOctets (left - min z left) ∷ Rattle.receiver.specs.Script.ZeroOctet ∷ script.Asks script.EndFile ∷ script.Acks ∷ []) tail
lent_tie size os z left tail e = record { has = (refl, e); one = inl refl }

-- the page of a connection after a request was answered, by the answer
module _ (size job : ℕ) (os : List Output) (v : State (List ℕ)) (j : ℕ) (q : Progress) (b : Bool) (g : Stage) (u : List ℕ) where
  lent_by : (r : Request) (z : ℕ) (items : List Item) (text tail : List ℕ) (page : Option Page) → Fine b g u (Requests r items text) → IsDueAnswer Octets v j r (answer.Lent z) → v.config.page_size ≡ size
      → Tie size r os None (answered (kind_of r) (reply_of (answer.Lent z)) (record q { items = items; tail = [] })).items tail
  lent_by script.AskPage z items text tail page f due same =
      subst (λ (x : List Item). Tie size script.AskPage os None (answered (kind_of script.AskPage) (reply_of (answer.Lent z)) (record q { items = x; tail = [] })).items tail) (sym f.1) (lent_tie size os z f.0 tail (due ∙ same))
  lent_by (script.Queue name) z items text tail page f due same = absurd due
  lent_by (script.Open name) z items text tail page f due same = absurd due
  lent_by (script.BeginFile name count) z items text tail page f due same = absurd due
  lent_by (script.Filled put) z items text tail page f due same = absurd due
  lent_by script.EndFile z items text tail page f due same = absurd due
  lent_by (script.Control control) z items text tail page f due same = absurd due
  lent_by script.AbortJob z items text tail page f due same = absurd due
  lent_by (script.StartPrinters name) z items text tail page f due same = absurd due
  lent_by (script.QueueState name list long) z items text tail page f due same = absurd due
  lent_by (script.RemoveJobs name agent list) z items text tail page f due same = absurd due

  pub request_tie : (r : Request) (x : Answer) (items : List Item) (text tail : List ℕ) (page : Option Page) → Fine b g u (Requests r items text) → IsDueAnswer Octets v j r x → v.config.page_size ≡ size → SizeOf size r → page ≡ blank (page_with r x)
      → Tie size r os (if is_lent x then None else page) (answered (kind_of r) (reply_of x) (record q { items = items; tail = [] })).items tail
  request_tie r (answer.Lent z) items text tail page f due same is e = lent_by r z items text tail page f due same
  request_tie r (answer.Refused n) items text tail page f due same is e = refused_tie size r os n page tail is e
  request_tie r answer.Yes items text tail page f due same is e = plain_tie size r os answer.Yes (record q { items = items; tail = [] }) page tail refl refl e (after_quiet b g u r items text f)
  request_tie r (answer.Accepted n) items text tail page f due same is e = plain_tie size r os (answer.Accepted n) (record q { items = items; tail = [] }) page tail refl refl e (after_quiet b g u r items text f)
  request_tie r (answer.Told t) items text tail page f due same is e = plain_tie size r os (answer.Told t) (record q { items = items; tail = [] }) page tail refl refl e (after_quiet b g u r items text f)
  request_tie r answer.Later items text tail page f due same is e = plain_tie size r os answer.Later (record q { items = items; tail = [] }) page tail refl refl e (after_quiet b g u r items text f)
  request_tie r answer.Stored items text tail page f due same is e = plain_tie size r os answer.Stored (record q { items = items; tail = [] }) page tail refl refl e (after_quiet b g u r items text f)
  request_tie r answer.Received items text tail page f due same is e = plain_tie size r os answer.Received (record q { items = items; tail = [] }) page tail refl refl e (after_quiet b g u r items text f)

some_none : (x : Page) → Some x ≡ None → ⊥
some_none x e = cc

-- a page that is filled is in the reader's hand
pub filling_held : (items : List Item) (tail : List ℕ) → ((os : List Output) → page_in items os ≡ true) → held items tail ≡ None → ⊥
filling_held [] tail f e = true_false (sym (f []))
filling_held (PageOctets n z ∷ items) tail f e = some_none (record { octets = tail; page_size = z }) e
filling_held (item ∷ items) tail f e = true_false (sym (f []))

same_page : (one two : Page) (x y : List Item) (s t : List ℕ) → Requests (script.Filled one) x s ≡ Requests (script.Filled two) y t → two ≡ one
same_page one two x y s t e = cc

waits_not : (page : Page) (items : List Item) (text : List ℕ) → Waits ≡ Requests (script.Filled page) items text → ⊥
waits_not page items text e = cc

filled_of : (b : Bool) (n z : ℕ) (rest : List Item) (u : List ℕ) (page : Page) (items : List Item) (text : List ℕ) → cond b (Requests (script.Filled (record { octets = take n u; page_size = z })) rest (drop n u)) Waits ≡ Requests (script.Filled page) items text → page.page_size ≡ z
filled_of true n z rest u page items text e = ap (λ (x : Page). x.page_size) (same_page (record { octets = take n u; page_size = z }) page rest items (drop n u) text e)
filled_of false n z rest u page items text e = absurd (waits_not page items text e)

-- its size is that of the page that is had
pub filled_size : (size : ℕ) (lent : Bool) (items : List Item) (tail u : List ℕ) (next : List ℕ → Due) (page : Page) (rest : List Item) (text : List ℕ) → due_at next items u ≡ Requests (script.Filled page) rest text → (held items tail ≡ None → ⊥)
    → HasLent lent size (held items tail) → page.page_size ≡ size
filled_size size lent [] tail u next page rest text e some has = absurd (some refl)
filled_size size lent (PageOctets n z ∷ items) tail u next page rest text e some has = filled_of (nat_le n (length u)) n z items u page rest text e ∙ has.1
filled_size size lent (item ∷ items) tail u next page rest text e some has = absurd (some refl)
