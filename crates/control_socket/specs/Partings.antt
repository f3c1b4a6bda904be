-- What is told of a connection that is closed.
use Rattle.std.specs.Prelude.{ℕ, List, codes}
use Rattle.control_socket.specs.declared.partings.Parting.{Parting}
use Rattle.control_socket.specs.declared.partings.Parting.TheVariants.{LineLate, LineTooLong, PlaceTaken, AnswerLate, Gone, NoMemory}

abbrev pub text_of : Parting → List ℕ
text_of LineLate = codes "its line didn't come in time"
text_of LineTooLong = codes "its line is too long"
text_of PlaceTaken = codes "another connection has its place"
text_of AnswerLate = codes "its answer wasn't read in time"
text_of Gone = codes "its peer is gone"
text_of NoMemory = codes "memory was refused"
