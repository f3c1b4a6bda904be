-- What one line more makes of what is held of a run.
use Rattle.std.proofs.Common.{◌≡◌, ◌+◌, ◌<◌, ◌^◌, ◌↔◌, ℕ, List, [], ◌∷◌, false, length, map, add-one, refl, sym, ◌∙◌, ap, subst, arith}
use Rattle.std.proofs.lemmas.Bool.{false≢true}
use Rattle.std.specs.Prelude.{IsTrue, Some, if◌then◌else◌}
use Rattle.config_values.specs.Config.{Config}
use Rattle.spool_history.specs.Events.{Event}
use Rattle.spool_history.specs.Legal.{IsLeftBy, May}
use Rattle.spool_history.specs.Now.{State, now}
use Rattle.spool_history.specs.Base as S
use Rattle.spool_history.specs.Rotated.{rotated}
use Rattle.spool_laws.specs.Freeing.{WiderIsLegal, wider}
use Rattle.account.specs.declared.base.Base.{Base}
use Rattle.account.specs.declared.entry.Outline.{Outline}
use Rattle.account.specs.Kinds.{kinds_in, handed_in, kind_of, number_of, is_handed_kind}
use Rattle.account.specs.declared.entry.Entry.{Entry}
use Rattle.account.specs.Seen.{base_seen, event_seen, octets}
use Rattle.history_reader.specs.declared.state.Job.{Job}
use Rattle.history_reader.specs.Seen.{state_seen, job_seen}
use Rattle.account_audit.specs.Audited as U
use Rattle.account_audit.specs.Giving.{given_back}
use Rattle.segment_text.specs.declared.head.Begin as G
use Rattle.segment_text.specs.declared.head.Begin.TheVariants as begin
use Rattle.segment_text.specs.Heads as H
use Rattle.segment_text.specs.Heads.Begin.{AtBase, Amid}
use Rattle.segment_text.specs.Seen.{begin_seen}
use Rattle.segment_audit.specs.declared.course.Course as K
use Rattle.segment_audit.specs.Audited.{Course, IsAtRest, Rests, amid, given, state_at, widened}
use Rattle.segment_audit.specs.Read.{IsCourse}

-- where the entries leave the spool
pub at_state : (k : K.Course) (c : Course) → IsCourse k c → state_seen k.config k.audit.state ≡ state_at c
at_state k c x = x.left.here ∙ ap (λ (z : Config). now z c.base c.events) x.config

-- no jobs are seen where there are none
pub none_seen : (jobs : List Job) → map job_seen jobs ≡ [] → jobs ≡ []
none_seen [] e = refl
none_seen (j ∷ jobs) e = cc e

-- an entry may come where an audit takes it, and leaves the audit there
pub may_come : (k : K.Course) (e : Event Outline) (c : Course) → IsCourse k c → May octets (state_seen k.config k.audit.state) e → May octets (state_at c) e
may_come k e c x m = subst (λ (v : State Outline). May octets v e) (at_state k c x) m

pub may_not_come : (k : K.Course) (e : Event Outline) (c : Course) → IsCourse k c → (May octets (state_seen k.config k.audit.state) e → ⊥) → May octets (state_at c) e → ⊥
may_not_come k e c x n m = n (subst (λ (v : State Outline). May octets v e) (sym (at_state k c x)) m)

pub taken : (k : K.Course) (a' : U.Audited) (e : Entry) (c : Course) → IsCourse k c → U.Decides k.config k.audit e (Some a') → a'.entries ≡ k.audit.entries + 1 → a'.kinds ≡ k.audit.kinds + number_of (kind_of (event_seen e)) → a'.handed ≡ k.audit.handed + (if is_handed_kind (kind_of (event_seen e)) then 1 else 0)
    → IsCourse (record k { audit = a' }) (record c { events = event_seen e ∷ c.events })
taken k a' e c x d n m g =
    let sn = x.entries in
    let sk = x.kinds in
    let sg = x.handed in
    record {
      config = x.config;
      freed = x.freed;
      entries_before = x.entries_before;
      kinds_before = x.kinds_before;
      handed_before = x.handed_before;
      left = d c.base c.events x.left;
      entries = n ∙ (ap (λ (y : ℕ). y + 1) sn ∙ add-one (length c.events));
      kinds = omega (arith, m, sk);
      handed = omega (arith, g, sg);
    }

-- a spool is at rest where an audit ends
pub at_rest : (k : K.Course) (b : Base) (c : Course) → IsCourse k c → k.audit.state.jobs.items ≡ [] → base_seen b ≡ rotated (state_seen k.config k.audit.state) → b.accepted < 2 ^ 64 → IsAtRest (state_at c)
at_rest k b c x j r lt =
    subst IsAtRest (at_state k c x) (ap (λ (l : List Job). map job_seen l) j, subst (λ (n : ℕ). n < 2 ^ 64) (ap (λ (y : S.Base). y.accepted) r) lt)

pub not_at_rest : (k : K.Course) (c : Course) → IsCourse k c → (k.audit.state.jobs.items ≡ [] → k.audit.state.accepted < 2 ^ 64 → ⊥) → IsAtRest (state_at c) → ⊥
not_at_rest k c x n m =
    let own = subst IsAtRest (sym (at_state k c x)) m in
    n (none_seen k.audit.state.jobs.items own.0) own.1

-- what doesn't hold is answered by `false`
pub denied : (P : Type 0) → (P → ⊥) → IsTrue false ↔ P
denied P n = (λ t. absurd (false≢true t), λ p. absurd (n p))

-- a segment tells of as many entries before it
abbrev pub HasCounted : K.Course → H.Start → Type 0
HasCounted k s =
    (s.entries ≡ k.entries + k.audit.entries) × (s.kinds ≡ k.kinds + k.audit.kinds) × (s.handed ≡ k.handed + k.audit.handed)

start_is : (s t : H.Start) → s.entries ≡ t.entries → s.kinds ≡ t.kinds → s.handed ≡ t.handed → s.begin ≡ t.begin → s ≡ t
start_is s t a b d e =
    ap (λ (x : ℕ). record s { entries = x }) a
    ∙ (ap (λ (x : ℕ). record s { entries = t.entries; kinds = x }) b
    ∙ (ap (λ (x : ℕ). record s { entries = t.entries; kinds = t.kinds; handed = x }) d
    ∙ ap (λ (x : H.Begin). record s { entries = t.entries; kinds = t.kinds; handed = t.handed; begin = x }) e))

plus : (a b c d : ℕ) → a ≡ b → c ≡ d → a + c ≡ b + d
plus a b c d e f = ap (λ (x : ℕ). x + c) e ∙ ap (λ (x : ℕ). b + x) f

-- what is told to be before it is what its run has come to
pub counts_told : (k : K.Course) (c : Course) (s : H.Start) (g : H.Begin) → IsCourse k c → HasCounted k s → s.begin ≡ g
    → s ≡ record { entries = c.entries + length c.events; kinds = c.kinds + kinds_in c.events; handed = c.handed + handed_in c.events; begin = g }
counts_told k c s g x h e =
    start_is s _ (h.0 ∙ plus k.entries c.entries k.audit.entries (length c.events) x.entries_before x.entries) (h.1 ∙ plus k.kinds c.kinds k.audit.kinds (kinds_in c.events) x.kinds_before x.kinds) (h.2 ∙ plus k.handed c.handed k.audit.handed (handed_in c.events) x.handed_before x.handed) e

pub told_counts : (k : K.Course) (c : Course) (s : H.Start) (g : H.Begin) → IsCourse k c
    → s ≡ record { entries = c.entries + length c.events; kinds = c.kinds + kinds_in c.events; handed = c.handed + handed_in c.events; begin = g } → HasCounted k s
told_counts k c s g x e = (
  ap (λ (t : H.Start). t.entries) e ∙ sym (plus k.entries c.entries k.audit.entries (length c.events) x.entries_before x.entries),
  ap (λ (t : H.Start). t.kinds) e ∙ sym (plus k.kinds c.kinds k.audit.kinds (kinds_in c.events) x.kinds_before x.kinds),
  ap (λ (t : H.Start). t.handed) e ∙ sym (plus k.handed c.handed k.audit.handed (handed_in c.events) x.handed_before x.handed),
)

-- one that begins from a base begins from the one that is left
pub does_rest : (k : K.Course) (b : Base) (s : H.Start) (own : S.Base) (c : Course) → IsCourse k c → k.audit.state.jobs.items ≡ [] → base_seen b ≡ rotated (state_seen k.config k.audit.state) → b.accepted < 2 ^ 64 → HasCounted k s → s.begin ≡ AtBase own → base_seen b ≡ own → Rests c s
does_rest k b s own c x j r lt h e same =
    (at_rest k b c x j r lt, counts_told k c s (AtBase (rotated (state_at c))) x h (e ∙ ap AtBase (sym same ∙ (r ∙ ap rotated (at_state k c x)))))

abbrev base_in : S.Base → H.Begin → S.Base
base_in d (AtBase b) = b
base_in d (Amid since freed) = d

pub rests_same : (k : K.Course) (b : Base) (s : H.Start) (own : S.Base) (c : Course) → IsCourse k c → base_seen b ≡ rotated (state_seen k.config k.audit.state) → s.begin ≡ AtBase own → Rests c s → HasCounted k s × (base_seen b ≡ own)
rests_same k b s own c x r e does = (
  told_counts k c s (AtBase (rotated (state_at c))) x does.1,
  r ∙ (ap rotated (at_state k c x) ∙ sym (ap (base_in own) (sym e ∙ ap (λ (t : H.Start). t.begin) does.1))),
)

pub rested_counts : (k : K.Course) (s : H.Start) (c : Course) → IsCourse k c → Rests c s → HasCounted k s
rested_counts k s c x does = told_counts k c s (AtBase (rotated (state_at c))) x does.1

-- one that begins amid the jobs
pub given_is : (k : K.Course) (c : Course) → IsCourse k c → given_back (state_seen k.config k.audit.state) k.freed ≡ given c
given_is k c x = ap (λ (v : State Outline). given_back v k.freed) (at_state k c x) ∙ ap (given_back (state_at c)) x.freed

abbrev since_in : H.Begin → ℕ
since_in (AtBase b) = 0
since_in (Amid since freed) = since

abbrev freed_in : H.Begin → ℕ
freed_in (AtBase b) = 0
freed_in (Amid since freed) = freed

pub is_amid : (k : K.Course) (s : H.Start) (since freed more : ℕ) (c : Course) → IsCourse k c → HasCounted k s → s.begin ≡ Amid since freed → since ≡ k.audit.entries → more ≡ given_back (state_seen k.config k.audit.state) k.freed → freed ≡ more + k.freed → s ≡ amid c
is_amid k s since freed more c x h e si m f =
    let g : more ≡ given c = m ∙ given_is k c x in
    counts_told k c s (Amid (length c.events) (given c + c.freed)) x h (e ∙ (ap (λ (n : ℕ). Amid n freed) (si ∙ x.entries) ∙ ap (λ (n : ℕ). Amid (length c.events) n) (f ∙ plus more (given c) k.freed c.freed g x.freed)))

-- and what it tells then
pub amid_counts : (k : K.Course) (s : H.Start) (c : Course) → IsCourse k c → s ≡ amid c → HasCounted k s
amid_counts k s c x e = told_counts k c s (Amid (length c.events) (given c + c.freed)) x e

pub amid_since : (k : K.Course) (s : H.Start) (since freed : ℕ) (c : Course) → IsCourse k c → s.begin ≡ Amid since freed → s ≡ amid c → since ≡ k.audit.entries
amid_since k s since freed c x e goes = ap since_in (sym e ∙ ap (λ (t : H.Start). t.begin) goes) ∙ sym x.entries

pub amid_freed : (k : K.Course) (s : H.Start) (since freed more : ℕ) (c : Course) → IsCourse k c → s.begin ≡ Amid since freed → more ≡ given_back (state_seen k.config k.audit.state) k.freed → s ≡ amid c → freed ≡ more + k.freed
amid_freed k s since freed more c x e m goes =
    ap freed_in (sym e ∙ ap (λ (t : H.Start). t.begin) goes) ∙ sym (plus more (given c) k.freed c.freed (m ∙ given_is k c x) x.freed)

-- no base is amid jobs
not_amid : (s : H.Start) (own : S.Base) (c : Course) → s.begin ≡ AtBase own → s ≡ amid c → ⊥
not_amid s own c e goes =
    let same : AtBase own ≡ Amid (length c.events) (given c + c.freed) = sym e ∙ ap (λ (t : H.Start). t.begin) goes in
    cc same

not_rests : (s : H.Start) (since freed : ℕ) (c : Course) → s.begin ≡ Amid since freed → Rests c s → ⊥
not_rests s since freed c e does =
    let same : Amid since freed ≡ AtBase (rotated (state_at c)) = sym e ∙ ap (λ (t : H.Start). t.begin) does.1 in
    cc same

pub only_amid : (g : G.Begin) (s : H.Start) (c : Course) → s.begin ≡ begin_seen g → ((since freed : ℕ) → g ≡ begin.Amid since freed → ⊥) → s ≡ amid c → ⊥
only_amid (begin.Base b) s c e n goes = not_amid s (base_seen b) c e goes
only_amid (begin.Amid since freed) s c e n goes = n since freed refl

pub only_rests : (g : G.Begin) (s : H.Start) (c : Course) → s.begin ≡ begin_seen g → ((b : Base) → g ≡ begin.Base b → ⊥) → Rests c s → ⊥
only_rests (begin.Base b) s c e n does = n b refl
only_rests (begin.Amid since freed) s c e n does = not_rests s since freed c e does

-- the room of the account is the same
pub room_is : (k : K.Course) (more : ℕ) (c : Course) → IsCourse k c → more ≡ given_back (state_seen k.config k.audit.state) k.freed → more + k.config.account ≡ given c + c.config.account
room_is k more c x m = plus more (given c) k.config.account c.config.account (m ∙ given_is k c x) (ap (λ (z : Config). z.account) x.config)

-- it goes on in a wider account
pub is_widened : (law : WiderIsLegal Outline) (k : K.Course) (more freed : ℕ) (config : Config) (c : Course) → IsCourse k c → more ≡ given_back (state_seen k.config k.audit.state) k.freed → freed ≡ more + k.freed → config ≡ wider more k.config → IsCourse (record k { config = config; freed = freed }) (widened c)
is_widened law k more freed config c x m f w =
    let g : more ≡ given c = m ∙ given_is k c x in
    let left : IsLeftBy octets c.base c.events (state_seen (wider more k.config) k.audit.state) = record {
      legal = law octets k.config c.base c.events more x.left.legal;
      here = ap (λ (v : State Outline). record v { config = wider more k.config }) x.left.here;
    } in
    record {
      config = w ∙ (ap (λ (n : ℕ). wider n k.config) g ∙ ap (wider (given c)) x.config);
      freed = f ∙ plus more (given c) k.freed c.freed g x.freed;
      entries_before = x.entries_before;
      kinds_before = x.kinds_before;
      handed_before = x.handed_before;
      left = subst (λ (z : Config). IsLeftBy octets c.base c.events (state_seen z k.audit.state)) (sym w) left;
      entries = x.entries;
      kinds = x.kinds;
      handed = x.handed;
    }
