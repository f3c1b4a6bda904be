-- A configuration that a text gives is the only one, and the text has no fault.
use Rattle.std.proofs.Common.{◌≡◌, ℕ, nat_le, List, [], ◌∷◌, Option, Some, None, slice_get, get_or, refl, sym, ap, ap₂, subst, ◌∙◌, arith}
use Rattle.std.proofs.lemmas.Bool.{le-leb, not-true}
use Rattle.std.proofs.lemmas.Option.{same_Some}
use Rattle.std.proofs.lemmas.List.Elements.{All-weaker}
use Rattle.std.proofs.lemmas.List.Sums.{list_all-from_AllPass}
use Rattle.toml.specs.Data.{Data, Members, string}
use Rattle.config_values.specs.Config as C
use Rattle.config_values.specs.Ranges.{IsWithin}
use Rattle.spool_config.specs.declared.settings.Key.{Key}
use Rattle.spool_config.specs.declared.settings.Key.TheVariants.{Pages, PageSize, MaxJobs, Account, Queue, Name, Limit, Printers}
use Rattle.spool_config.specs.Keys.{value_at}
use Rattle.spool_config.specs.Told.{HasNumber, TellsQueue, TellQueues, TellsQueues, TellsConfig, elements}
use Rattle.spool_config.specs.Faults.{faults_of}
use Rattle.spool_config.specs.Answers.{first_fault, fault_of, GivesConfig}
use Rattle.spool_config.proofs.Lists.{limits_within}
use Rattle.spool_config.proofs.Names.{has_same-own}
use Rattle.spool_config.proofs.Fitting.{number_fit, within_more}
use Rattle.spool_config.proofs.Whole.{KeysFit, faults_told}

pub told_has_no_fault : (d : Members) (c : C.Config) → TellsConfig d c → faults_of d ≡ []
told_has_no_fault d c tells =
    let r = tells.ranges in
    let keys : KeysFit d = record {
      pages = number_fit Pages d c.pages tells.pages r.pages_low r.pages_high;
      page_size = number_fit PageSize d c.page_size tells.page_size r.page_size_low r.page_size_high;
      max_jobs = number_fit MaxJobs d c.max_jobs tells.max_jobs r.max_jobs_low r.max_jobs_high;
      account = number_fit Account d c.account tells.account r.account_low tells.account_most;
    } in
    let within = All-weaker (IsWithin c.pages) (IsWithin 65536) (λ q w. within_more 65536 q w (omega (arith, w.limit_high, r.pages_high))) c.queues r.queues in
    let fit = list_all-from_AllPass (λ (q : C.Queue). nat_le q.limit c.pages) c.queues (λ k d lt. le-leb (get_or c.queues k d).limit c.pages (r.queues k d lt).limit_high) in
    faults_told d c.pages c.queues (record { keys = keys; stands = tells.pages; told = tells.queues; some = r.some_queue; few = r.few_queues; within = within })
    ∙ rw (has_same-own c.queues r.names, not-true _ (sym (limits_within c.pages c.queues) ∙ fit))

pub given_has_no_fault : (text : List ℕ) (c : C.Config) → GivesConfig text c → fault_of text ≡ None
given_has_no_fault text c given =
    ap first_fault given.1 ∙ ap (λ faults. slice_get faults 0) (told_has_no_fault given.0 c given.2)

one_number : (d : Members) (key : Key) (m n : ℕ) → HasNumber d key m → HasNumber d key n → m ≡ n
one_number d key m n a b = cc

one_name : (v : Option Data) (m n : List ℕ) → v ≡ Some (string m) → v ≡ Some (string n) → m ≡ n
one_name v m n a b = cc

one_queue : (t : Members) (p q : C.Queue) → TellsQueue t p → TellsQueue t q → p ≡ q
one_queue t p q a b =
    ap (λ name. record { name = name; limit = p.limit; printers = p.printers }) (one_name (value_at Name t) p.name q.name a.name b.name)
    ∙ ap (λ limit. record { name = q.name; limit = limit; printers = p.printers }) (one_number t Limit p.limit q.limit a.limit b.limit)
    ∙ ap (λ printers. record { name = q.name; limit = q.limit; printers = printers }) (one_number t Printers p.printers q.printers a.printers b.printers)

one_list : (rows : List Data) (ps qs : List C.Queue) → TellQueues rows ps → TellQueues rows qs → ps ≡ qs
one_list [] [] [] a b = refl
one_list (row ∷ rows) (p ∷ ps) (q ∷ qs) a b =
    let same : a.0.0 ≡ b.0.0 = cc (a.0.1, b.0.1) in
    ap₂ (λ (r : C.Queue) (rs : List C.Queue). r ∷ rs) (one_queue b.0.0 p q (subst (λ t. TellsQueue t p) same a.0.2) b.0.2) (one_list rows ps qs a.1 b.1)
one_list [] (p ∷ ps) qs a b = absurd a
one_list (row ∷ rows) [] qs a b = absurd a
one_list _ _ _ a b = absurd b

one_array : (value : Option Data) (ps qs : List C.Queue) → TellsQueues value ps → TellsQueues value qs → ps ≡ qs
one_array value ps qs a b =
    let same : a.0 ≡ b.0 = cc (a.1, b.1) in
    one_list (elements b.0) ps qs (subst (λ rows. TellQueues (elements rows) ps) same a.2) b.2

one_config : (d : Members) (a b : C.Config) → TellsConfig d a → TellsConfig d b → a ≡ b
one_config d a b x y =
    ap (λ n. record { pages = n; page_size = a.page_size; max_jobs = a.max_jobs; account = a.account; queues = a.queues }) (one_number d Pages a.pages b.pages x.pages y.pages)
    ∙ ap (λ n. record { pages = b.pages; page_size = n; max_jobs = a.max_jobs; account = a.account; queues = a.queues }) (one_number d PageSize a.page_size b.page_size x.page_size y.page_size)
    ∙ ap (λ n. record { pages = b.pages; page_size = b.page_size; max_jobs = n; account = a.account; queues = a.queues }) (one_number d MaxJobs a.max_jobs b.max_jobs x.max_jobs y.max_jobs)
    ∙ ap (λ n. record { pages = b.pages; page_size = b.page_size; max_jobs = b.max_jobs; account = n; queues = a.queues }) (one_number d Account a.account b.account x.account y.account)
    ∙ ap (λ queues. record { pages = b.pages; page_size = b.page_size; max_jobs = b.max_jobs; account = b.account; queues = queues }) (one_array (value_at Queue d) a.queues b.queues x.queues y.queues)

pub one_given : (text : List ℕ) (a b : C.Config) → GivesConfig text a → GivesConfig text b → a ≡ b
one_given text a b x y =
    let same : x.0 ≡ y.0 = same_Some x.0 y.0 (sym x.1 ∙ y.1) in
    one_config y.0 a b (subst (λ d. TellsConfig d a) same x.2) y.2
