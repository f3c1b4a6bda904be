use Rattle.std.proofs.Common.{◌≡◌, ◌≢◌, ◌∙◌, sym, ap, Some, slice_get, arith, not, pos, int_lt, rules}
use Rattle.std.specs.List.{list_any}
use Rattle.std.proofs.lemmas.Bool.{not-false}
use Rattle.toml.specs.View.{table_view}
use Rattle.spool_config.specs.declared.settings.ConfigFault.TheVariants.{Memory}
use Rattle.spool_config.specs.declared.settings.Key.TheVariants.{Pages, PageSize, MaxJobs, Account}
use Rattle.spool_config.specs.Faults.{faults_of, has_same}
use Rattle.spool_config.proofs.Fitting.{number_fit}
use Rattle.spool_config.proofs.Lists.{err_is}
use Rattle.spool_config.proofs.Names.{names}
use Rattle.spool_config.proofs.Whole.{KeysFit, Read, limits, first_told, length-queues, queue_fault_told, rows_fault_told, queues_told}
use Rattle.spool_config.proofs.reading.config.Goals as goal
use Rattle.spool_config.proofs.reading.config.Goals.{In_ok-account, In_ok-queues}

-- the numbers are read
keys : (c : In_ok-account) → KeysFit (table_view c.args.document.now)
keys c =
    let d = table_view c.args.document.now in
    record {
      pages = number_fit Pages d _ c.in_ok-pages.ensures.stands c.in_ok-pages.ensures.low c.in_ok-pages.ensures.high;
      page_size = number_fit PageSize d _ c.in_ok-page_size.ensures.stands c.in_ok-page_size.ensures.low c.in_ok-page_size.ensures.high;
      max_jobs = number_fit MaxJobs d _ c.in_ok-max_jobs.ensures.stands c.in_ok-max_jobs.ensures.low c.in_ok-max_jobs.ensures.high;
      account = number_fit Account d _ c.in_ok-account.ensures.stands c.in_ok-account.ensures.low c.in_ok-account.ensures.high;
    }

-- and the queues
queues_read : (c : In_ok-queues) → KeysFit (table_view c.args.document.now) → Read (table_view c.args.document.now) c.in_ok-pages.pages c.in_ok-queues.queues.items
queues_read c keys =
    let queues = c.in_ok-queues.queues.items in
    let count = length-queues c.in_ok-rows.field-0.now queues c.in_ok-queues.ensures.told in
    record {
      keys = keys;
      stands = c.in_ok-pages.ensures.stands;
      told = queues_told _ c.in_ok-rows.field-0.now queues c.in_ok-rows.ensures.stands c.in_ok-queues.ensures.told;
      some = omega (arith, count, c.in_ok-rows.ensures.some);
      few = omega (arith, count, c.in_ok-rows.ensures.few);
      within = c.in_ok-queues.ensures.within;
    }

pub returns-in_err-rows-clause-fault : goal.returns-in_err-rows-clause-fault
returns-in_err-rows-clause-fault c =
    let d = table_view c.args.document.now in
    let fault = c.in_err-rows.field-0.0 in
    err_is (λ fault. fault ≢ Memory → slice_get (faults_of d) 0 ≡ Some fault) c.from_residual-in_err-rows.result fault c.from_residual-in_err-rows.ensures.1
    (λ other. rows_fault_told d fault (keys (goal.at.returns-in_err-rows-clause-fault c).In_ok-account) c.in_err-rows.ensures.fault)

pub returns-in_err-queues-clause-fault : goal.returns-in_err-queues-clause-fault
returns-in_err-queues-clause-fault c =
    let d = table_view c.args.document.now in
    let keys = keys (goal.at.returns-in_err-queues-clause-fault c).In_ok-account in
    let fault = c.in_err-queues.field-0.0 in
    err_is (λ fault. fault ≢ Memory → slice_get (faults_of d) 0 ≡ Some fault) c.from_residual-in_err-queues.result fault c.from_residual-in_err-queues.ensures.1
    (λ other. queue_fault_told d c.in_ok-rows.field-0.now fault keys c.in_ok-rows.ensures.stands c.in_ok-rows.ensures.tables c.in_ok-rows.ensures.some c.in_ok-rows.ensures.few (c.in_err-queues.ensures.fault other))

pub returns-then-has_same_name-clause-fault : goal.returns-then-has_same_name-clause-fault
returns-then-has_same_name-clause-fault c =
    let same = ap (λ qs. has_same (names qs)) (sym c.as_slice.ensures.value) ∙ sym c.has_same_name.ensures.value ∙ c.if-has_same_name.true in
    let s = goal.at.returns-then-has_same_name-clause-fault c in
    λ other. first_told _ _ _ (queues_read s.In_ok-queues (keys s.In_ok-account)) ∙ rw same

pub returns-then-not-are_within-clause-fault : goal.returns-then-not-are_within-clause-fault
returns-then-not-are_within-clause-fault c =
    let own = ap (λ qs. has_same (names qs)) (sym c.as_slice.ensures.value) ∙ sym c.has_same_name.ensures.value ∙ c.if-has_same_name.false in
    let over = ap (λ qs. not (list_any (int_lt (pos c.in_ok-pages.pages)) (limits qs))) (sym c.as_slice-2.ensures.value) ∙ sym c.are_within.ensures.value ∙ c.if-not-are_within.true in
    let s = goal.at.returns-then-not-are_within-clause-fault c in
    λ other. first_told _ _ _ (queues_read s.In_ok-queues (keys s.In_ok-account)) ∙ rw (own, not-false _ over)

pub new-requires : goal.new-requires
new-requires c =
    let s = goal.at.new-requires c in
    let read = queues_read s.In_ok-queues (keys s.In_ok-account) in
    record {
      pages_low = c.in_ok-pages.ensures.low;
      pages_high = c.in_ok-pages.ensures.high;
      page_size_low = c.in_ok-page_size.ensures.low;
      page_size_high = c.in_ok-page_size.ensures.high;
      max_jobs_low = c.in_ok-max_jobs.ensures.low;
      max_jobs_high = c.in_ok-max_jobs.ensures.high;
      account_low = (let low = c.in_ok-account.ensures.low in let e = c.from-account.ensures in omega arith);
      account_high = (let most = c.in_ok-account.ensures.high in let e = c.from-account.ensures in omega arith);
      some_queue = read.some;
      few_queues = read.few;
      queues = rw (← c.as_slice-2.ensures.value) (c.are_within.ensures.within c.if-not-are_within.false);
      names = rw (← c.as_slice.ensures.value) (c.has_same_name.ensures.own c.if-has_same_name.false);
    }

pub returns-clause-config : goal.returns-clause-config
returns-clause-config c =
    let s = goal.at.returns-clause-config c in
    rw c.new.ensures record {
      pages = c.in_ok-pages.ensures.stands;
      page_size = c.in_ok-page_size.ensures.stands;
      max_jobs = c.in_ok-max_jobs.ensures.stands;
      account = rw c.from-account.ensures c.in_ok-account.ensures.stands;
      queues = (queues_read s.In_ok-queues (keys s.In_ok-account)).told;
      ranges = search rules;
      account_most = rw c.from-account.ensures c.in_ok-account.ensures.high;
    }
