-- What a chain's fields are seen as.
use Rattle.std.proofs.Common.{drop}
use Rattle.page_chain.specs.declared.chain.Chain.TheInside.{Inside}
use Rattle.page_chain.specs.Held.{Kept}

abbrev pub kept_of : Inside → Kept
kept_of f = record {
  row = f.row;
  files = f.files.items;
  is_open = f.is_open;
  prints = drop f.printed f.prints.items;
  turned = f.turned;
  last = f.last;
  file_room = f.file_room;
}
