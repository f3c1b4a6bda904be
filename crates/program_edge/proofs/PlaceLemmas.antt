-- What texts say of printers, by the parts that they are read by.
use Rattle.std.proofs.Common.{◌≡◌, ◌++◌, ◌<◌, ◌∙◌, ℕ, Bor, List, Option, Some, None, MatchOption, codes, inl, inr, length, sym, subst}
use Rattle.std.specs.Str.Pattern.{FindsTextPrefix, StripsPrefix}
use Rattle.std.specs.Net.Grammar.{IsIpv4Text, IsSocketV4Text}
use Rattle.std.specs.Net.Socket.{v4_ip, v4_port}
use Rattle.std.specs.declared.net.ipv4_addr.Ipv4Addr.{Ipv4Addr}
use Rattle.std.specs.declared.net.socket_addr.SocketAddrV4.{SocketAddrV4}
use Rattle.std.proofs.lemmas.List.{append_cancel_left}
use Rattle.program_edge.specs.Places.{IsPlaceText, IsSocketText}
use Rattle.program_edge.specs.declared.places.PrinterPlace.{PrinterPlace}
use Rattle.program_edge.specs.declared.places.PrinterPlace.TheVariants.{File, Folder, Socket}

-- a word is stripped off a text
pub word_stripped : (word text : List ℕ) (r : Option (Bor (List ℕ))) → MatchOption r (FindsTextPrefix word text None) (λ x. StripsPrefix (FindsTextPrefix word) text x.now) → MatchOption r ((rest : List ℕ) → text ≡ word ++ rest → ⊥) (λ x. text ≡ word ++ x.now)
word_stripped word text None none = none
word_stripped word text (Some x) (n, found, rest, long) =
    subst (λ y. text ≡ word ++ y) (sym rest) found.1

abbrev pub HasNoPath : (word text : List ℕ) → Type 0
HasNoPath word text = (path : List ℕ) → text ≡ word ++ path → 0 < length path → ⊥

-- a text with none of the three kinds is no place
pub no_place : (text : List ℕ) → HasNoPath (codes "file:") text → HasNoPath (codes "folder:") text → ((host : List ℕ) → text ≡ codes "socket://" ++ host → (address : SocketAddrV4) → IsSocketText host address → ⊥) → (place : PrinterPlace) → IsPlaceText text place → ⊥
no_place text file folder socket (File path) (same, long) = file path.now same long
no_place text file folder socket (Folder path) (same, long) = folder path.now same long
no_place text file folder socket (Socket address) (host, same, is) = socket host same address is

-- a text that is no address, and none with a port above 0, names no socket
pub no_socket : (text : List ℕ) → ((address : Ipv4Addr) → IsIpv4Text text address → ⊥) → ((address : SocketAddrV4) → IsSocketV4Text text address → 0 < v4_port address → ⊥) → (address : SocketAddrV4) → IsSocketText text address → ⊥
no_socket text alone other address (inl is) = alone (v4_ip address) is.0
no_socket text alone other address (inr is) = other address is.0 is.1

-- behind the word, a host that is no address
pub no_host : (text host : List ℕ) → text ≡ codes "socket://" ++ host → ((address : SocketAddrV4) → IsSocketText host address → ⊥) → (other : List ℕ) → text ≡ codes "socket://" ++ other → (address : SocketAddrV4) → IsSocketText other address → ⊥
no_host text host same none other again address is =
    none address (subst (λ h. IsSocketText h address) (append_cancel_left (codes "socket://") other host (sym again ∙ same)) is)
