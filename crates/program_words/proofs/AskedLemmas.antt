-- The values of a parse, by its rows.
use Rattle.std.proofs.Common.{◌≡◌, ◌∙◌, ◌⊎◌, ◌<◌, ◌^◌, [], inl, inr, sym, refl, true, ℕ, List, Option, Some, None, Result, IfOk, IfErr, map, option_map, ok_or, codes}
use Rattle.std.specs.Borrow.{Bor}
use Rattle.std.specs.Str.Parse.{ParsesUnsigned, digits_value, without_leading_plus}
use Rattle.clap.specs.Words.{IsAmong, ReadsOne, Row, Text, fault_of, is_simple, is_simple_and_free, one_of, subcommand_of}
use Rattle.clap.proofs.OnLiterals.{clap_on_literals}
use Rattle.program_words.specs.CommandLine.{command_line}
use Rattle.program_words.specs.Asked.{IsSending}
use Rattle.program_words.specs.Values.{HasNoNumber, IsNumber}
use Rattle.program_words.specs.Refused.{AsksNothing, IsUnread, IsUnreadBy, IsUnreadFor, IsWrong}
use Rattle.program_words.specs.declared.words.Unread.{Unread}
use Rattle.program_words.specs.declared.words.Unread.TheVariants.{Memory, Refused, Shown}
use Rattle.clap.specs.declared.error.kind.ErrorKind.{ErrorKind}
use Rattle.clap.specs.declared.error.kind.ErrorKind.TheVariants.{DisplayHelp, DisplayVersion, OutOfMemory}
use Rattle.program_words.specs.declared.word_fault.WordFault.{WordFault}
use Rattle.program_words.specs.declared.word_fault.WordFault.TheVariants.{Files, Host, Missing, Number, Queue, User}
use Rattle.program_words.specs.declared.word_fault.WordFault.TheVariants as faults
use Rattle.program_words.specs.declared.words.Sending.{Sending}

-- what is read of a word, or that it isn't there
pub text_read : (o : Option (Bor Text)) (first : Option Text) → option_map (λ s. s.now) o ≡ first → IfOk (ok_or o Missing) (λ text. first ≡ Some text.now)
text_read None first h = tt
text_read (Some s) first h = sym h

pub no_text : (o : Option (Bor Text)) (first : Option Text) → option_map (λ s. s.now) o ≡ first → IfErr (ok_or o Missing) (λ fault. (fault ≡ Missing) × (first ≡ None))
no_text None first h = (refl, sym h)
no_text (Some s) first h = tt

pub texts_read : (o : Option (Bor (List (Bor Text)))) (all : Option (List Text)) → option_map (λ s. map (λ v. v.now) s.now) o ≡ all → IfOk (ok_or o Missing) (λ texts. all ≡ Some (map (λ text. text.now) texts.now))
texts_read None all h = tt
texts_read (Some s) all h = sym h

pub no_texts : (o : Option (Bor (List (Bor Text)))) (all : Option (List Text)) → option_map (λ s. map (λ v. v.now) s.now) o ≡ all → IfErr (ok_or o Missing) (λ fault. (fault ≡ Missing) × (all ≡ None))
no_texts None all h = (refl, sym h)
no_texts (Some s) all h = tt

-- the number that is read of a word, or that it is none
module _ {E : Type 0} (A B : Text → Result ℕ E → Type 0) (rows : List Row) (id : Text) where
  abbrev Reads : Text → Option ℕ → Type 0
  Reads t o = ReadsOne (λ text r. ParsesUnsigned 16 10 text r × A text r × B text r) t o

  pub number_read : (o : Option ℕ) (text : Option Text) → one_of id rows ≡ text → (text ≡ None → o ≡ None) → ((t : Text) → text ≡ Some t → Reads t o) → IfOk (ok_or o Missing) (IsNumber rows id)
  number_read None text same none value = tt
  number_read (Some n) None same none value =
      let bad = none refl in
      cc
  number_read (Some n) (Some t) same none value =
      let read = (value t refl).0 in
      (t, same, read.0.0, read.1, rw read.1 read.0.1)

  pub no_number : (o : Option ℕ) (text : Option Text) → one_of id rows ≡ text → ((t : Text) → text ≡ Some t → Reads t o)
      → IfErr (ok_or o Missing) (λ fault. (fault ≡ Missing) × HasNoNumber rows id)
  no_number (Some n) text same value = tt
  no_number None text same value = (refl, λ n is. go n is)
    where
      go : (n : ℕ) → IsNumber rows id n → ⊥
      go n is =
          let read = value is.0 (sym same ∙ is.1) in
          let small : digits_value 10 (without_leading_plus is.0) < 2 ^ 16 = rw is.3 at is.4 in
          read.1.0 (is.2, small)

-- a job's words are wrong
pub names_no_job : (name : Text) (rows : List Row) (s : Sending) (fault : WordFault) → name ≡ codes "send" → IsSending rows s → IsWrong s fault → AsksNothing (Some (name, rows)) fault
names_no_job name rows s Queue is sending wrong = (is, (s, sending, wrong))
names_no_job name rows s Host is sending wrong = (is, (s, sending, wrong))
names_no_job name rows s User is sending wrong = (is, (s, sending, wrong))
names_no_job name rows s Files is sending wrong = (is, (s, sending, wrong))
names_no_job name rows s Number is sending wrong = (is, (s, sending, wrong))
names_no_job name rows s faults.Address is sending wrong = absurd wrong
names_no_job name rows s faults.Server is sending wrong = absurd wrong
names_no_job name rows s faults.Line is sending wrong = absurd wrong
names_no_job name rows s (faults.Network text) is sending wrong = absurd wrong
names_no_job name rows s (faults.Control text) is sending wrong = absurd wrong
names_no_job name rows s (faults.Log text) is sending wrong = absurd wrong
names_no_job name rows s (faults.Digest text) is sending wrong = absurd wrong
names_no_job name rows s (faults.Grouping text) is sending wrong = absurd wrong
names_no_job name rows s (faults.Time text) is sending wrong = absurd wrong
names_no_job name rows s (faults.Status text) is sending wrong = absurd wrong
names_no_job name rows s (faults.StatusHost text) is sending wrong = absurd wrong
names_no_job name rows s faults.NoStatus is sending wrong = absurd wrong
names_no_job name rows s (faults.Printer text) is sending wrong = absurd wrong
names_no_job name rows s (faults.PrinterTwice text) is sending wrong = absurd wrong
names_no_job name rows s faults.Command is sending wrong = absurd wrong
names_no_job name rows s Missing is sending wrong = absurd wrong
names_no_job name rows s faults.Memory is sending wrong = tt

pub simple : is_simple command_line ≡ true
unfolding clap_on_literals
simple = refl

pub simple_and_free : is_simple_and_free command_line ≡ true
unfolding clap_on_literals
simple_and_free = refl

-- words that clap doesn't take aren't read
pub unread_by : (words : List Text) (kind : ErrorKind) (unread : Unread) → (kind ≡ OutOfMemory) ⊎ IsAmong kind (fault_of command_line words) → IsUnreadBy kind unread → IsUnread words unread
unread_by words kind Memory among h = tt
unread_by words kind (Shown text) (inl none) (inl help) =
    let bad : OutOfMemory ≡ DisplayHelp = sym none ∙ help in
    cc
unread_by words kind (Shown text) (inl none) (inr version) =
    let bad : OutOfMemory ≡ DisplayVersion = sym none ∙ version in
    cc
unread_by words kind (Shown text) (inr is) (inl help) = inl (rw help at is)
unread_by words kind (Shown text) (inr is) (inr version) = inr (rw version at is)
unread_by words kind (Refused text) (inl none) h = absurd (h.0 none)
unread_by words kind (Refused text) (inr is) h = inl (kind, is, h.1, h.2)

-- words that clap takes, and that ask for nothing, aren't read
pub asks_nothing : (words : List Text) (fault : WordFault) (unread : Unread) → fault_of command_line words ≡ [] → AsksNothing (subcommand_of command_line words) fault → IsUnreadFor fault unread → IsUnread words unread
asks_nothing words fault Memory none nothing h = tt
asks_nothing words fault (Shown text) none nothing h = absurd h
asks_nothing words fault (Refused text) none nothing h = inr (none, (fault, h, nothing))
