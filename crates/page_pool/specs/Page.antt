-- What contracts see of a page and of a pool.
use Rattle.std.specs.Prelude.{◌≡◌, ℕ, ◌<◌, ◌≤◌, List, [], All}

-- a page, being filled or filled: the octets on it, and how many fit on it in all
pub record Page : Type 0 where
  pub octets : List ℕ
  pub page_size : ℕ

-- a pool: how many octets fit on a page, how many pages it was made with, and how many of them are lent to nobody
pub record Pages : Type 0 where
  pub page_size : ℕ
  pub pages : ℕ
  pub free : ℕ

-- a number of pages, or of octets on a page, that a pool may have
pub record IsSize (n : ℕ) : Type 0 where
  pub some : 1 ≤ n
  pub most : n ≤ 65536

-- a page's buffer, with this many octets in it: it never has to grow
pub record HoldsPage (len page_size capacity : ℕ) : Type 0 where
  pub some : 0 < page_size
  pub fits : len ≤ page_size
  pub room : page_size ≤ capacity

-- the free pages of a pool are empty and of its size, and there is room for those that are lent
pub record HoldsPages (free : List Page) (page_size pages capacity : ℕ) : Type 0 where
  pub size : IsSize page_size
  pub room : pages ≤ capacity
  pub empty : All (λ page. (page.page_size ≡ page_size) × (page.octets ≡ [])) free
