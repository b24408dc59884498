-- What the book says: the lists and the rules of a sheet as masks. The book itself is the struct `Book` of src/lib.rt.
--
--   Passes B p c       by the book, the carrier c may follow the row p
--   Orderly B d        the rules that end at riser d are at most 12, and each has its other riser before d
--   Shows k n T B      the book says of every row what the tables T say; k carriers, n risers
--   Standing B p m r   r has the carriers of m that pass after the row p
--
-- These are definitions: nothing is assumed or proved here.
use Rattle.std.specs.Prelude.{List, ℕ, ◌+◌, ◌*◌, ◌≤◌, ◌<◌, length}
use Rattle.ground.specs.Meanings.Group.{at}
use Rattle.ground.specs.Meanings.Sheet.{most_carriers, most_risers}
use Rattle.ground.specs.Laws.Rows.{Below}
use Rattle.masks.specs.Masks.{Has}
use Rattle.ground.specs.declared.Tables.{Tables}
use Rattle.ground.specs.Laws.Tables.{Stands}
use Rattle.rules.specs.declared.Book.{Book}

-- the mask that the j-th rule which ends after the row p has for the carrier of its other riser
abbrev pub mask_for : Book → List ℕ → ℕ → ℕ
mask_for B p j = at B.masks ((length p * most_risers + j) * most_carriers + at p (at B.others (length p * most_risers + j)))

pub record Passes (B : Book) (p : List ℕ) (c : ℕ) : Type 0 where
  pub listed : Has (at B.lists (length p)) c
  pub keeps : (j : ℕ) → j < at B.counts (length p) → Has (mask_for B p j) c

pub record Orderly (B : Book) (d : ℕ) : Type 0 where
  pub few : at B.counts d ≤ most_risers
  pub before : (j : ℕ) → j < at B.counts d → at B.others (d * most_risers + j) < d

pub record Shows (k n : ℕ) (T : Tables) (B : Book) : Type 0 where
  pub orderly : (d : ℕ) → d < n → Orderly B d
  pub narrow : (d c : ℕ) → d < n → Has (at B.lists d) c → c < k
  pub passes : (p : List ℕ) (c : ℕ) → length p < n → Below k p → c < k → Stands T p c → Passes B p c
  pub stands : (p : List ℕ) (c : ℕ) → length p < n → Below k p → c < k → Passes B p c → Stands T p c

pub record Standing (B : Book) (p : List ℕ) (m r : ℕ) : Type 0 where
  pub all : (c : ℕ) → Has m c → Passes B p c → Has r c
  pub only : (c : ℕ) → Has r c → Has m c × Passes B p c
