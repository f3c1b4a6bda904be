-- Values of which all parts are the same.
use Rattle.std.proofs.Common.{◌≡◌, ℕ, Bool, List, ◌∙◌, ap}
use Rattle.std.specs.Prelude.{Option}
use Rattle.config_values.specs.Config.{Config, Queue}
use Rattle.spool_history.specs.Base.{Base}
use Rattle.segment_text.specs.Heads.{Printer}

pub queue_same : (a b : Queue) → a.name ≡ b.name → a.limit ≡ b.limit → a.printers ≡ b.printers → a ≡ b
queue_same a b name limit printers =
    ap (λ (x : List ℕ). record a { name = x }) name
    ∙ (ap (λ (x : ℕ). record a { name = b.name; limit = x }) limit
    ∙ ap (λ (x : ℕ). record a { name = b.name; limit = b.limit; printers = x }) printers)

pub config_same : (a b : Config) → a.pages ≡ b.pages → a.page_size ≡ b.page_size → a.max_jobs ≡ b.max_jobs → a.account ≡ b.account → a.queues ≡ b.queues → a ≡ b
config_same a b pages page_size max_jobs account queues =
    ap (λ (x : ℕ). record a { pages = x }) pages
    ∙ (ap (λ (x : ℕ). record a { pages = b.pages; page_size = x }) page_size
    ∙ (ap (λ (x : ℕ). record a { pages = b.pages; page_size = b.page_size; max_jobs = x }) max_jobs
    ∙ (ap (λ (x : ℕ). record a { pages = b.pages; page_size = b.page_size; max_jobs = b.max_jobs; account = x }) account
    ∙ ap (λ (x : List Queue). record a { pages = b.pages; page_size = b.page_size; max_jobs = b.max_jobs; account = b.account; queues = x }) queues)))

pub printer_same : (a b : Printer) → a.place ≡ b.place → a.begins ≡ b.begins → a ≡ b
printer_same a b place begins =
    ap (λ (x : List ℕ). record a { place = x }) place ∙ ap (λ (x : Option ℕ). record a { place = b.place; begins = x }) begins

pub base_same : (a b : Base) → a.accepted ≡ b.accepted → a.reserved ≡ b.reserved → a.closed ≡ b.closed → a.stopped ≡ b.stopped → a ≡ b
base_same a b accepted reserved closed stopped =
    ap (λ (x : ℕ). record a { accepted = x }) accepted
    ∙ (ap (λ (x : ℕ). record a { accepted = b.accepted; reserved = x }) reserved
    ∙ (ap (λ (x : Bool). record a { accepted = b.accepted; reserved = b.reserved; closed = x }) closed
    ∙ ap (λ (x : List Bool). record a { accepted = b.accepted; reserved = b.reserved; closed = b.closed; stopped = x }) stopped))
