-- What a folder has in hand, and what is told of it once it is a file.
use Rattle.std.specs.Prelude.{◌≡◌, ◌==◌, ℕ, Some, if◌then◌else◌, length}
use Rattle.spool_history.specs.Base.{Base}
use Rattle.segment_text.specs.Heads.{Begin}
use Rattle.segment_text.specs.Heads.Begin.{AtBase, Amid}
use Rattle.account_folder.specs.declared.folder.AccountFolder.{AccountFolder}
use Rattle.account_folder.specs.declared.folder.PutAway.{PutAway}

-- what a segment's entries begin from: its base, where none came in the run since that
abbrev pub begin_as : Base → ℕ → ℕ → Begin
begin_as base since freed = if since == 0 then AtBase base else Amid since freed

-- the same segment is in hand, for the same file, run and place in the chain
pub record IsInHandStill (before now : AccountFolder) : Type 0 where
  pub in_hand : now.is_in_hand ≡ before.is_in_hand
  pub entries : now.entries ≡ before.entries
  pub next : now.next ≡ before.next
  pub run : now.head.origin.run ≡ before.head.origin.run
  pub segment : now.head.origin.segment ≡ before.head.origin.segment
  pub previous : now.head.origin.previous ≡ before.head.origin.previous
  pub start : now.head.start ≡ before.head.start

-- the name that was due, the run and the number of the segment that was in hand, and how many entries that has
pub record Names (folder : AccountFolder) (put : PutAway) : Type 0 where
  pub name : folder.next ≡ Some put.name
  pub run : put.run ≡ folder.head.origin.run
  pub segment : put.segment ≡ folder.head.origin.segment
  pub entries : put.entries ≡ length folder.entries.items
