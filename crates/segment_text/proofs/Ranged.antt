-- A configuration is in its ranges where its numbers and its queues are.
use Rattle.std.proofs.Common.{◌≡◌, ◌≢◌, ◌≤◌, ℕ, true, List, [], ◌∷◌, length, All}
use Rattle.std.specs.List.{list_all, AllByRecursion}
use Rattle.std.proofs.lemmas.Bool.{and_parts, leb-true}
use Rattle.std.proofs.lemmas.List.Elements.{All-nil, All-cons, All-head, All-tail}
use Rattle.config_values.specs.Config.{Config, Queue}
use Rattle.config_values.specs.Ranges.{HaveOwnNames, IsConfig, IsQueueName, IsWithin}
use Rattle.control_lines.specs.Escapes.{is_shown}
use Rattle.segment_text.specs.Configs.{AreNamedApart, AreNumbers, AreQueues, FitsPages, is_queue_name}
use Rattle.segment_text.proofs.HeadsBack.{octet_shown, queue_name_is}

abbrev IsShown : ℕ → Type 0
IsShown b = (33 ≤ b) × (b ≤ 126)

shown_all : (s : List ℕ) → list_all is_shown s ≡ true → All IsShown s
shown_all [] h = All-nil IsShown
shown_all (b ∷ bs) h = All-cons IsShown b bs (octet_shown b (and_parts _ _ h).0) (shown_all bs (and_parts _ _ h).1)

name_in_range : (s : List ℕ) → is_queue_name s ≡ true → IsQueueName s
name_in_range s h =
    let len = and_parts _ _ (and_parts _ _ h).0 in
    record { low = leb-true 1 (length s) len.0; high = leb-true (length s) 64 len.1; printable = shown_all s (and_parts _ _ h).1 }

fits_within : (pages : ℕ) (q : Queue) → FitsPages pages q → IsWithin pages q
fits_within pages q h =
    record { name = name_in_range q.name h.0; limit_low = h.1.0; limit_high = h.1.1; printers_low = h.2.0; printers_high = h.2.1 }

within_fits : (pages : ℕ) (q : Queue) → IsWithin pages q → FitsPages pages q
within_fits pages q h = (queue_name_is q.name h.name, (h.limit_low, h.limit_high), (h.printers_low, h.printers_high))

-- of each queue
each_to : {X : Type 0} (P Q : X → Type 0) → ((x : X) → P x → Q x) → (xs : List X) → AllByRecursion P xs → All Q xs
each_to P Q f [] h = All-nil Q
each_to P Q f (x ∷ xs) h = All-cons Q x xs (f x h.0) (each_to P Q f xs h.1)

each_from : {X : Type 0} (P Q : X → Type 0) → ((x : X) → P x → Q x) → (xs : List X) → All P xs → AllByRecursion Q xs
each_from P Q f [] h = tt
each_from P Q f (x ∷ xs) h = (f x (All-head P x xs h), each_from P Q f xs (All-tail P x xs h))

abbrev HasOther : List ℕ → Queue → Type 0
HasOther name p = p.name ≢ name

apart_to : (qs : List Queue) → AreNamedApart qs → HaveOwnNames qs
apart_to [] h = tt
apart_to (q ∷ qs) h = (each_to (HasOther q.name) (HasOther q.name) (λ p other. other) qs h.0, apart_to qs h.1)

apart_from : (qs : List Queue) → HaveOwnNames qs → AreNamedApart qs
apart_from [] h = tt
apart_from (q ∷ qs) h = (each_from (HasOther q.name) (HasOther q.name) (λ p other. other) qs h.0, apart_from qs h.1)

pub in_ranges : (c : Config) → AreNumbers c.pages c.page_size c.max_jobs c.account → AreQueues c.pages c.queues → IsConfig c
in_ranges c n q = record {
  pages_low = n.0.0;
  pages_high = n.0.1;
  page_size_low = n.1.0;
  page_size_high = n.1.1;
  max_jobs_low = n.2.0;
  max_jobs_high = n.2.1;
  account_low = n.3.0;
  account_high = n.3.1;
  some_queue = q.0;
  few_queues = q.1;
  queues = each_to (FitsPages c.pages) (IsWithin c.pages) (fits_within c.pages) c.queues q.2;
  names = apart_to c.queues q.3;
}

pub numbers_in : (c : Config) → IsConfig c → AreNumbers c.pages c.page_size c.max_jobs c.account
numbers_in c h = ((h.pages_low, h.pages_high), (h.page_size_low, h.page_size_high), (h.max_jobs_low, h.max_jobs_high), (h.account_low, h.account_high))

pub queues_in : (c : Config) → IsConfig c → AreQueues c.pages c.queues
queues_in c h = (h.some_queue, h.few_queues, each_from (IsWithin c.pages) (FitsPages c.pages) (within_fits c.pages) c.queues h.queues, apart_from c.queues h.names)
