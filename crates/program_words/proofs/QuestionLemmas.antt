-- The words of questions, and of the servers that jobs and questions are for.
use Rattle.std.proofs.Common.{◌≡◌, ◌==◌, ◌⊎◌, ◌∙◌, ap, false, inl, inr, length, refl, slice_index, sym, ℕ, List, None, Some, codes}
use Rattle.std.proofs.lemmas.Bool.{eq-eqb}
use Rattle.clap.specs.Words.{Row, Text, first_of}
use Rattle.lpd_commands.specs.declared.command.Command.{Command}
use Rattle.lpd_commands.specs.declared.command.Command.TheVariants.{PrintWaiting, Receive, State, Remove}
use Rattle.program_words.specs.Asked.{IsAsked}
use Rattle.program_words.specs.Questions.{IsQuery}
use Rattle.program_words.specs.Refused.{Asks, AsksNothing, LacksQuery, LacksQuestion, LacksRequest, LacksServer, LacksWords}
use Rattle.program_words.specs.declared.word_fault.WordFault.{WordFault}
use Rattle.program_words.specs.declared.word_fault.WordFault.TheVariants as faults
use Rattle.program_words.specs.declared.words.Ask.{Ask}
use Rattle.program_words.specs.declared.words.Ask.TheVariants.{Input, Check, Replay, Send, Question, Serve, Control, Audit, Usage}

-- the server of a job isn't there
pub job_lacks_server : (rows : List Row) (fault : WordFault) → LacksServer rows fault → LacksWords rows fault
job_lacks_server rows faults.Missing lacks = λ s is. lacks s.server.port is.server.port
job_lacks_server rows faults.Server lacks = lacks
job_lacks_server rows faults.Queue lacks = absurd lacks
job_lacks_server rows faults.Host lacks = absurd lacks
job_lacks_server rows faults.User lacks = absurd lacks
job_lacks_server rows faults.Files lacks = absurd lacks
job_lacks_server rows faults.Number lacks = absurd lacks
job_lacks_server rows faults.Address lacks = absurd lacks
job_lacks_server rows faults.Line lacks = absurd lacks
job_lacks_server rows (faults.Network text) lacks = absurd lacks
job_lacks_server rows (faults.Control text) lacks = absurd lacks
job_lacks_server rows (faults.Log text) lacks = absurd lacks
job_lacks_server rows (faults.Digest text) lacks = absurd lacks
job_lacks_server rows (faults.Grouping text) lacks = absurd lacks
job_lacks_server rows (faults.Time text) lacks = absurd lacks
job_lacks_server rows (faults.Status text) lacks = absurd lacks
job_lacks_server rows (faults.StatusHost text) lacks = absurd lacks
job_lacks_server rows faults.NoStatus lacks = absurd lacks
job_lacks_server rows (faults.Printer text) lacks = absurd lacks
job_lacks_server rows (faults.PrinterTwice text) lacks = absurd lacks
job_lacks_server rows faults.Command lacks = absurd lacks
job_lacks_server rows faults.Memory lacks = absurd lacks

-- nor is that of a question
pub question_lacks_server : (name : Text) (rows : List Row) (fault : WordFault) → Asks name rows → LacksServer rows fault → LacksQuestion name rows fault
question_lacks_server name rows faults.Missing asks lacks =
    λ question is. lacks question.server.port is.server.port
question_lacks_server name rows faults.Server asks lacks = (asks, lacks)
question_lacks_server name rows faults.Queue asks lacks = absurd lacks
question_lacks_server name rows faults.Host asks lacks = absurd lacks
question_lacks_server name rows faults.User asks lacks = absurd lacks
question_lacks_server name rows faults.Files asks lacks = absurd lacks
question_lacks_server name rows faults.Number asks lacks = absurd lacks
question_lacks_server name rows faults.Address asks lacks = absurd lacks
question_lacks_server name rows faults.Line asks lacks = absurd lacks
question_lacks_server name rows (faults.Network text) asks lacks = absurd lacks
question_lacks_server name rows (faults.Control text) asks lacks = absurd lacks
question_lacks_server name rows (faults.Log text) asks lacks = absurd lacks
question_lacks_server name rows (faults.Digest text) asks lacks = absurd lacks
question_lacks_server name rows (faults.Grouping text) asks lacks = absurd lacks
question_lacks_server name rows (faults.Time text) asks lacks = absurd lacks
question_lacks_server name rows (faults.Status text) asks lacks = absurd lacks
question_lacks_server name rows (faults.StatusHost text) asks lacks = absurd lacks
question_lacks_server name rows faults.NoStatus asks lacks = absurd lacks
question_lacks_server name rows (faults.Printer text) asks lacks = absurd lacks
question_lacks_server name rows (faults.PrinterTwice text) asks lacks = absurd lacks
question_lacks_server name rows faults.Command asks lacks = absurd lacks
question_lacks_server name rows faults.Memory asks lacks = absurd lacks

-- what a server is asked for isn't there
pub lacks_query : (name : Text) (rows : List Row) (fault : WordFault) → LacksQuery name rows fault → LacksQuestion name rows fault
lacks_query name rows faults.Missing lacks = λ question is. lacks question.command is.query
lacks_query name rows faults.Memory lacks = tt
lacks_query name rows faults.Queue lacks = absurd lacks
lacks_query name rows faults.Host lacks = absurd lacks
lacks_query name rows faults.User lacks = absurd lacks
lacks_query name rows faults.Files lacks = absurd lacks
lacks_query name rows faults.Number lacks = absurd lacks
lacks_query name rows faults.Address lacks = absurd lacks
lacks_query name rows faults.Server lacks = absurd lacks
lacks_query name rows faults.Line lacks = absurd lacks
lacks_query name rows (faults.Network text) lacks = absurd lacks
lacks_query name rows (faults.Control text) lacks = absurd lacks
lacks_query name rows (faults.Log text) lacks = absurd lacks
lacks_query name rows (faults.Digest text) lacks = absurd lacks
lacks_query name rows (faults.Grouping text) lacks = absurd lacks
lacks_query name rows (faults.Time text) lacks = absurd lacks
lacks_query name rows (faults.Status text) lacks = absurd lacks
lacks_query name rows (faults.StatusHost text) lacks = absurd lacks
lacks_query name rows faults.NoStatus lacks = absurd lacks
lacks_query name rows (faults.Printer text) lacks = absurd lacks
lacks_query name rows (faults.PrinterTwice text) lacks = absurd lacks
lacks_query name rows faults.Command lacks = absurd lacks

-- different numbers
pub apart : (m n : ℕ) → (m == n) ≡ false → m ≡ n → ⊥
apart m n differ e =
    let same = eq-eqb m n e in
    cc

-- the third octets of two names that are one
pub third : (name one other : Text) → name ≡ one → name ≡ other → slice_index one 2 ≡ slice_index other 2
third name one other is e = ap (λ (t : Text). slice_index t 2) (sym is ∙ e)

-- a name whose third octet is neither that of state and start nor that of remove asks a server nothing
pub no_query : (name one : Text) (rows : List Row) → name ≡ one → (slice_index one 2 == 97) ≡ false → (slice_index one 2 == 109) ≡ false
    → (command : Command) → IsQuery name rows command → ⊥
no_query name one rows is a m (PrintWaiting queue) h =
    apart (slice_index one 2) 97 a (third name one (codes "start") is h.0)
no_query name one rows is a m (Receive queue) h = absurd h
no_query name one rows is a m (State queue list long) h =
    apart (slice_index one 2) 97 a (third name one (codes "state") is h.0)
no_query name one rows is a m (Remove queue agent list) h =
    apart (slice_index one 2) 109 m (third name one (codes "remove") is h.0)

-- nothing is asked of no queue
pub no_queue : (name : Text) (rows : List Row) → first_of (codes "queue") rows ≡ None → (command : Command) → IsQuery name rows command → ⊥
no_queue name rows none (PrintWaiting queue) h =
    let bad = sym none ∙ h.1 in
    cc
no_queue name rows none (Receive queue) h = absurd h
no_queue name rows none (State queue list long) h =
    let bad = sym none ∙ h.1 in
    cc
no_queue name rows none (Remove queue agent list) h =
    let bad = sym none ∙ h.1 in
    cc

-- nothing is removed for no agent
pub no_agent : (name : Text) (rows : List Row) → name ≡ codes "remove" → first_of (codes "agent") rows ≡ None → (command : Command) → IsQuery name rows command → ⊥
no_agent name rows is none (PrintWaiting queue) h =
    apart 109 97 refl (third name (codes "remove") (codes "start") is h.0)
no_agent name rows is none (Receive queue) h = absurd h
no_agent name rows is none (State queue list long) h =
    apart 109 97 refl (third name (codes "remove") (codes "state") is h.0)
no_agent name rows is none (Remove queue agent list) h =
    let bad = sym none ∙ h.2 in
    cc

-- nothing is asked by another name
pub no_command : (name : Text) (rows : List Row) → (name ≡ codes "start" → ⊥) → (name ≡ codes "state" → ⊥) → (name ≡ codes "remove" → ⊥) → (command : Command) → IsQuery name rows command → ⊥
no_command name rows start state remove (PrintWaiting queue) h = start h.0
no_command name rows start state remove (Receive queue) h = absurd h
no_command name rows start state remove (State queue list long) h = state h.0
no_command name rows start state remove (Remove queue agent list) h = remove h.0

no_job : (name : Text) (rows : List Row) → name ≡ codes "send" → LacksWords rows faults.Missing → (asked : Ask) → IsAsked (Some (name, rows)) asked → ⊥
no_job name rows is lacks Input h = absurd h
no_job name rows is lacks (Check checking) h =
    apart 110 101 refl (third name (codes "send") (codes "check") is h.0)
no_job name rows is lacks (Replay config script) h =
    apart 110 112 refl (third name (codes "send") (codes "replay") is h.0)
no_job name rows is lacks (Send sending envelope) h = lacks sending h.1
no_job name rows is lacks (Question question) h =
    no_query name (codes "send") rows is refl refl question.command h.query
no_job name rows is lacks (Serve config settings) h =
    apart 110 114 refl (third name (codes "send") (codes "serve") is h.0)
no_job name rows is lacks (Control request) h =
    apart 4 7 refl (ap (λ (t : Text). length t) (sym is ∙ h.0))
no_job name rows is lacks (Audit request) h =
    apart 110 100 refl (third name (codes "send") (codes "audit") is h.0)
no_job name rows is lacks (Usage request) h =
    apart 110 97 refl (third name (codes "send") (codes "usage") is h.0)

-- words that ask to replay a configuration, or a script, at no path ask for nothing
pub no_replay : (name : Text) (rows : List Row) → name ≡ codes "replay" → (first_of (codes "config") rows ≡ None) ⊎ (first_of (codes "script") rows ≡ None) → (asked : Ask) → IsAsked (Some (name, rows)) asked → ⊥
no_replay name rows is none Input h = absurd h
no_replay name rows is none (Check checking) h =
    apart 112 101 refl (third name (codes "replay") (codes "check") is h.0)
no_replay name rows is (inl none) (Replay config script) h =
    let bad = sym none ∙ h.1 in
    cc
no_replay name rows is (inr none) (Replay config script) h =
    let bad = sym none ∙ h.2 in
    cc
no_replay name rows is none (Send sending envelope) h =
    apart 112 110 refl (third name (codes "replay") (codes "send") is h.0)
no_replay name rows is none (Question question) h =
    no_query name (codes "replay") rows is refl refl question.command h.query
no_replay name rows is none (Serve config settings) h =
    apart 112 114 refl (third name (codes "replay") (codes "serve") is h.0)
no_replay name rows is none (Control request) h =
    apart 112 110 refl (third name (codes "replay") (codes "control") is h.0)
no_replay name rows is none (Audit request) h =
    apart 112 100 refl (third name (codes "replay") (codes "audit") is h.0)
no_replay name rows is none (Usage request) h =
    apart 112 97 refl (third name (codes "replay") (codes "usage") is h.0)

-- nor do those that ask to serve one at no path
pub no_serving : (name : Text) (rows : List Row) → name ≡ codes "serve" → first_of (codes "config") rows ≡ None → (asked : Ask) → IsAsked (Some (name, rows)) asked → ⊥
no_serving name rows is none Input h = absurd h
no_serving name rows is none (Check checking) h =
    apart 114 101 refl (third name (codes "serve") (codes "check") is h.0)
no_serving name rows is none (Replay config script) h =
    apart 114 112 refl (third name (codes "serve") (codes "replay") is h.0)
no_serving name rows is none (Send sending envelope) h =
    apart 114 110 refl (third name (codes "serve") (codes "send") is h.0)
no_serving name rows is none (Question question) h =
    no_query name (codes "serve") rows is refl refl question.command h.query
no_serving name rows is none (Serve config settings) h =
    let bad = sym none ∙ h.1 in
    cc
no_serving name rows is none (Control request) h =
    apart 114 110 refl (third name (codes "serve") (codes "control") is h.0)
no_serving name rows is none (Audit request) h =
    apart 114 100 refl (third name (codes "serve") (codes "audit") is h.0)
no_serving name rows is none (Usage request) h =
    apart 114 97 refl (third name (codes "serve") (codes "usage") is h.0)

no_request : (name : Text) (rows : List Row) → name ≡ codes "control" → LacksRequest rows faults.Missing → (asked : Ask) → IsAsked (Some (name, rows)) asked → ⊥
no_request name rows is lacks Input h = absurd h
no_request name rows is lacks (Check checking) h =
    apart 110 101 refl (third name (codes "control") (codes "check") is h.0)
no_request name rows is lacks (Replay config script) h =
    apart 110 112 refl (third name (codes "control") (codes "replay") is h.0)
no_request name rows is lacks (Send sending envelope) h =
    apart 7 4 refl (ap (λ (t : Text). length t) (sym is ∙ h.0))
no_request name rows is lacks (Question question) h =
    no_query name (codes "control") rows is refl refl question.command h.query
no_request name rows is lacks (Serve config settings) h =
    apart 110 114 refl (third name (codes "control") (codes "serve") is h.0)
no_request name rows is lacks (Control request) h = lacks request h.1
no_request name rows is lacks (Audit request) h =
    apart 110 100 refl (third name (codes "control") (codes "audit") is h.0)
no_request name rows is lacks (Usage request) h =
    apart 110 97 refl (third name (codes "control") (codes "usage") is h.0)

-- words that ask to send a command to a server, and don't have all of its words, ask for nothing
pub asks_no_request : (name : Text) (rows : List Row) (fault : WordFault) → name ≡ codes "control" → LacksRequest rows fault → AsksNothing (Some (name, rows)) fault
asks_no_request name rows faults.Missing is lacks = no_request name rows is lacks
asks_no_request name rows (faults.Control text) is lacks = inr (is, lacks)
asks_no_request name rows (faults.Log text) is lacks = absurd lacks
asks_no_request name rows (faults.Digest text) is lacks = absurd lacks
asks_no_request name rows (faults.Grouping text) is lacks = absurd lacks
asks_no_request name rows (faults.Time text) is lacks = absurd lacks
asks_no_request name rows (faults.Status text) is lacks = absurd lacks
asks_no_request name rows (faults.StatusHost text) is lacks = absurd lacks
asks_no_request name rows faults.NoStatus is lacks = absurd lacks
asks_no_request name rows faults.Command is lacks = (is, lacks)
asks_no_request name rows faults.Memory is lacks = tt
asks_no_request name rows faults.Queue is lacks = absurd lacks
asks_no_request name rows faults.Host is lacks = absurd lacks
asks_no_request name rows faults.User is lacks = absurd lacks
asks_no_request name rows faults.Files is lacks = absurd lacks
asks_no_request name rows faults.Number is lacks = absurd lacks
asks_no_request name rows faults.Address is lacks = absurd lacks
asks_no_request name rows faults.Server is lacks = absurd lacks
asks_no_request name rows faults.Line is lacks = absurd lacks
asks_no_request name rows (faults.Network text) is lacks = absurd lacks
asks_no_request name rows (faults.Printer text) is lacks = absurd lacks
asks_no_request name rows (faults.PrinterTwice text) is lacks = absurd lacks

-- words that ask to send a job, and don't have all of its words, ask for nothing
pub asks_no_job : (name : Text) (rows : List Row) (fault : WordFault) → name ≡ codes "send" → LacksWords rows fault → AsksNothing (Some (name, rows)) fault
asks_no_job name rows faults.Missing is lacks = no_job name rows is lacks
asks_no_job name rows faults.Server is lacks = (inl is, lacks)
asks_no_job name rows faults.Memory is lacks = tt
asks_no_job name rows faults.Queue is lacks = absurd lacks
asks_no_job name rows faults.Host is lacks = absurd lacks
asks_no_job name rows faults.User is lacks = absurd lacks
asks_no_job name rows faults.Files is lacks = absurd lacks
asks_no_job name rows faults.Number is lacks = absurd lacks
asks_no_job name rows faults.Address is lacks = absurd lacks
asks_no_job name rows faults.Line is lacks = absurd lacks
asks_no_job name rows (faults.Network text) is lacks = absurd lacks
asks_no_job name rows (faults.Control text) is lacks = absurd lacks
asks_no_job name rows (faults.Log text) is lacks = absurd lacks
asks_no_job name rows (faults.Digest text) is lacks = absurd lacks
asks_no_job name rows (faults.Grouping text) is lacks = absurd lacks
asks_no_job name rows (faults.Time text) is lacks = absurd lacks
asks_no_job name rows (faults.Status text) is lacks = absurd lacks
asks_no_job name rows (faults.StatusHost text) is lacks = absurd lacks
asks_no_job name rows faults.NoStatus is lacks = absurd lacks
asks_no_job name rows (faults.Printer text) is lacks = absurd lacks
asks_no_job name rows (faults.PrinterTwice text) is lacks = absurd lacks
asks_no_job name rows faults.Command is lacks = absurd lacks

-- words that ask a server, and don't have all words of that, ask for nothing, where they don't ask for anything else
pub asks_no_question : (name : Text) (rows : List Row) (fault : WordFault) → (name ≡ codes "check" → ⊥) → (name ≡ codes "replay" → ⊥) → (name ≡ codes "send" → ⊥)
    → (name ≡ codes "serve" → ⊥) → (name ≡ codes "control" → ⊥) → (name ≡ codes "audit" → ⊥) → (name ≡ codes "usage" → ⊥) → LacksQuestion name rows fault → AsksNothing (Some (name, rows)) fault
asks_no_question name rows faults.Missing check replay send serve control audit usage lacks = go
  where
    go : (asked : Ask) → IsAsked (Some (name, rows)) asked → ⊥
    go Input h = absurd h
    go (Check checking) h = check h.0
    go (Replay config script) h = replay h.0
    go (Send sending envelope) h = send h.0
    go (Question question) h = lacks question h
    go (Serve config settings) h = serve h.0
    go (Control request) h = control h.0
    go (Audit request) h = audit h.0
    go (Usage request) h = usage h.0
asks_no_question name rows faults.Server check replay send serve control audit usage lacks =
    (inr lacks.0, lacks.1)
asks_no_question name rows faults.Line check replay send serve control audit usage lacks = lacks
asks_no_question name rows faults.Memory check replay send serve control audit usage lacks = tt
asks_no_question name rows faults.Queue check replay send serve control audit usage lacks = absurd lacks
asks_no_question name rows faults.Host check replay send serve control audit usage lacks = absurd lacks
asks_no_question name rows faults.User check replay send serve control audit usage lacks = absurd lacks
asks_no_question name rows faults.Files check replay send serve control audit usage lacks = absurd lacks
asks_no_question name rows faults.Number check replay send serve control audit usage lacks = absurd lacks
asks_no_question name rows faults.Address check replay send serve control audit usage lacks = absurd lacks
asks_no_question name rows (faults.Network text) check replay send serve control audit usage lacks = absurd lacks
asks_no_question name rows (faults.Control text) check replay send serve control audit usage lacks = absurd lacks
asks_no_question name rows (faults.Log text) check replay send serve control audit usage lacks = absurd lacks
asks_no_question name rows (faults.Digest text) check replay send serve control audit usage lacks = absurd lacks
asks_no_question name rows (faults.Grouping text) check replay send serve control audit usage lacks = absurd lacks
asks_no_question name rows (faults.Time text) check replay send serve control audit usage lacks = absurd lacks
asks_no_question name rows (faults.Status text) check replay send serve control audit usage lacks = absurd lacks
asks_no_question name rows (faults.StatusHost text) check replay send serve control audit usage lacks = absurd lacks
asks_no_question name rows faults.NoStatus check replay send serve control audit usage lacks = absurd lacks
asks_no_question name rows (faults.Printer text) check replay send serve control audit usage lacks = absurd lacks
asks_no_question name rows (faults.PrinterTwice text) check replay send serve control audit usage lacks = absurd lacks
asks_no_question name rows faults.Command check replay send serve control audit usage lacks = absurd lacks
