-- Two jobs whose claims meet: three pages each, over a pool of four.
use Rattle.std.specs.Prelude.{◌≡◌, ℕ, List, [], ◌∷◌, ◌++◌, map}
use Rattle.claims.specs.Safety.{AreFinishing, HasFinishingOrder}
use Rattle.spool_history.specs.Base.{first_base}
use Rattle.spool_history.specs.Events.{Event}
use Rattle.spool_history.specs.Events.Act.{Granted, Began, Put}
use Rattle.spool_history.specs.Events.Event.{Opened, OfJob}
use Rattle.spool_history.specs.Now.{now, free_pages, free_amount, row_of}
use Rattle.worked_histories.specs.Rows.{small, data_name, hello}

-- a job of three pages has begun, of which so many pages were lent and put
abbrev pub begun : (job sender : ℕ) → List (Event (List ℕ))
begun j s = OfJob j (Began (data_name j) 24) ∷ Opened j s 1 ∷ []

abbrev pub one_page : ℕ → (number : ℕ) → List (Event (List ℕ))
one_page j n = OfJob j (Put 0 n hello) ∷ OfJob j Granted ∷ []

-- the first job of one sender holds one page, and the second of another holds two, after which it is lent a third
abbrev pub last_page : (first second : ℕ) → List (Event (List ℕ))
last_page s t = OfJob 2 Granted ∷ (one_page 2 1 ++ (one_page 2 0 ++ (begun 2 t ++ (one_page 1 0 ++ begun 1 s))))

-- each holds one page, and the second is lent another
abbrev pub second_page : (first second : ℕ) → List (Event (List ℕ))
second_page s t = OfJob 2 Granted ∷ (one_page 2 0 ++ (begun 2 t ++ (one_page 1 0 ++ begun 1 s)))

abbrev pub IsFinishing : List (Event (List ℕ)) → List ℕ → Type 0
IsFinishing h numbers = AreFinishing (free_amount (now small first_base h)) (map (row_of small) (now small first_base h).jobs) numbers

abbrev pub IsSafe : List (Event (List ℕ)) → Type 0
IsSafe h = HasFinishingOrder (free_amount (now small first_base h)) (map (row_of small) (now small first_base h).jobs)

pub record ClaimsMeet : Type 0 where
  -- with the last page lent nothing is free, and the second job can finish first
  pub none_free : free_pages (now small first_base (last_page 2 1)) ≡ 0
  pub second_first : IsFinishing (last_page 2 1) (2 ∷ 1 ∷ [])
  -- no order begins with the first job
  pub not_first : (rest : List ℕ) → IsFinishing (last_page 2 1) (1 ∷ rest) → ⊥
  -- of one sender the first job must come first, so the page may not be lent
  pub one_sender : IsSafe (last_page 1 1) → ⊥
  -- the same where each holds one page: two senders may, one sender may not
  pub two_senders : IsSafe (second_page 1 2)
  pub one_sender_early : IsSafe (second_page 1 1) → ⊥
