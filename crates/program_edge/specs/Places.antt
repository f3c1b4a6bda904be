-- What texts say of printers, and what is said of them.
use Rattle.std.specs.Prelude.{◌≡◌, ◌==◌, ◌⊎◌, ◌<◌, ◌++◌, ℕ, Bool, List, codes, length}
use Rattle.std.specs.Fmt.{decimal}
use Rattle.std.specs.List.{after_first, before_first}
use Rattle.std.specs.Net.Grammar.{IsIpv4Text, IsSocketV4Text}
use Rattle.std.specs.Net.Socket.{v4_ip, v4_port}
use Rattle.std.specs.Net.Text.{socket_v4_text}
use Rattle.std.specs.declared.net.socket_addr.SocketAddrV4.{SocketAddrV4}
use Rattle.program_edge.specs.Numerals.{IsPlainNumber}
use Rattle.program_edge.specs.declared.places.PrinterPlace.{PrinterPlace}
use Rattle.program_edge.specs.declared.places.PrinterPlace.TheVariants.{File, Folder, Socket}
use Rattle.program_edge.specs.declared.places.PlacedPrinter.{PlacedPrinter}

abbrev pub is_equals_sign : ℕ → Bool
is_equals_sign octet = octet == 61

-- an address alone, for the port 9100; or one with a colon and another port behind it, which isn't 0
abbrev pub IsSocketText : List ℕ → SocketAddrV4 → Type 0
IsSocketText text address =
    (IsIpv4Text text (v4_ip address) × (v4_port address ≡ 9100))
    ⊎ (IsSocketV4Text text address × (0 < v4_port address))

-- a kind of place, and where it is
abbrev pub IsPlaceText : List ℕ → PrinterPlace → Type 0
IsPlaceText text (File path) = (text ≡ codes "file:" ++ path.now) × (0 < length path.now)
IsPlaceText text (Socket address) =
    (host : List ℕ) × (text ≡ codes "socket://" ++ host) × IsSocketText host address
IsPlaceText text (Folder path) = (text ≡ codes "folder:" ++ path.now) × (0 < length path.now)

-- a text says what a printer prints to: a number above 0, the first equals sign, and a place behind it
pub record IsPrinterText (text : List ℕ) (said : PlacedPrinter) : Type 0 where
  pub number : IsPlainNumber (before_first is_equals_sign text) said.printer
  pub positive : 0 < said.printer
  pub place : IsPlaceText (after_first is_equals_sign text) said.place

-- a place, as texts say it
abbrev pub place_text : PrinterPlace → List ℕ
place_text (File path) = codes "file:" ++ path.now
place_text (Socket address) = codes "socket://" ++ socket_v4_text address
place_text (Folder path) = codes "folder:" ++ path.now

-- a printer and its place, as texts say it
abbrev pub printer_text : PlacedPrinter → List ℕ
printer_text said = decimal said.printer ++ codes "=" ++ place_text said.place
