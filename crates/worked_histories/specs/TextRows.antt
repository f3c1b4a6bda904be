-- Worked texts, after a job of 11 octets was received.
use Rattle.std.specs.Prelude.{◌≡◌, ℕ, true, false, List, [], ◌∷◌, ◌++◌, codes}
use Rattle.spool_history.specs.Base.{first_base}
use Rattle.spool_history.specs.Now.{State, now}
use Rattle.spool_history.specs.Texts.{state_text, removal_text}
use Rattle.worked_histories.specs.Rows.{small}
use Rattle.worked_histories.specs.MoreRows.{received, closed}

abbrev pub one_received : State (List ℕ)
one_received = now small first_base (received 1 1)

abbrev pub line_of : List ℕ → List ℕ
line_of text = text ++ 10 ∷ []

abbrev pub head : List ℕ
head = line_of (codes "queue lp jobs 1 printers 1 stopped 0")

abbrev pub waiting : List ℕ
waiting = line_of (codes "waiting 001 ann h1 pages 2")

pub record TextsAre : Type 0 where
  pub short : state_text one_received 1 [] false ≡ head ++ waiting
  pub long : state_text one_received 1 (codes "ann" ∷ []) true ≡ head ++ waiting ++ line_of (codes "  dfA001 11")
  pub by_number : state_text one_received 1 (codes "1" ∷ []) false ≡ head ++ waiting
  pub with_zeros : state_text one_received 1 (codes "0001" ∷ []) false ≡ head ++ waiting
  pub other_number : state_text one_received 1 (codes "0002" ∷ []) false ≡ head
  pub other_user : state_text one_received 1 (codes "bob" ∷ []) false ≡ head
  pub after_close : state_text (now small first_base closed) 1 [] false ≡ line_of (codes "queue lp jobs 0 printers 1 stopped 0")
  pub not_his : removal_text one_received 1 (codes "bob") (codes "001" ∷ []) ≡ line_of (codes "nothing removed")
  pub by_root : removal_text one_received 1 (codes "root") (codes "ann" ∷ []) ≡ line_of (codes "removed 001 ann")
  pub by_user : removal_text one_received 1 (codes "ann") (codes "001" ∷ []) ≡ line_of (codes "removed 001 ann")
  pub none_active : removal_text one_received 1 (codes "ann") [] ≡ line_of (codes "nothing removed")
