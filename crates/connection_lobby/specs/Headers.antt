-- What a connection's header says, and what is told where it can't be taken.
use Rattle.std.specs.Prelude.{◌==◌, ℕ, Bool, List, codes, if◌then◌else◌}
use Rattle.proxy_header.specs.declared.header.Header.{Header}
use Rattle.proxy_header.specs.declared.header.Header.TheVariants as header
use Rattle.connection_lobby.specs.declared.headers.HeaderFault.{HeaderFault}
use Rattle.connection_lobby.specs.declared.headers.HeaderFault.TheVariants.{Bad, Elsewhere, Cut, Late}
use Rattle.connection_lobby.specs.declared.headers.HeaderWord.{HeaderWord}
use Rattle.connection_lobby.specs.declared.headers.HeaderWord.TheVariants.{Waits, From, Itself, Nothing, Fault}

-- a fault in words
abbrev pub why : HeaderFault → List ℕ
why Bad = codes "it is bad"
why Elsewhere = codes "it names no IPv4 address"
why Cut = codes "the connection ended in the middle of it"
why Late = codes "it hasn't come within 3 s"

-- what a connection says of whom it comes from, where its first octets are so many and are read as this header
abbrev pub word_of : Header → ℕ → Bool → HeaderWord
word_of (header.Source address port n) count is_ended = From address port n
word_of (header.Local n) count is_ended = Itself n
word_of header.Unsupported count is_ended = Fault Elsewhere
word_of header.Bad count is_ended = Fault Bad
word_of header.More count is_ended = if is_ended then (if count == 0 then Nothing else Fault Cut) else Waits
