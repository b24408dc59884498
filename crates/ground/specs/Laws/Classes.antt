-- Classes: rows that are images of each other.
--
--   Kinds Sol R          among the rows that have Sol, R is an equivalence with finite classes, and keeps Sol
--   total ns             the sum of the numbers ns
--   Sizes R F ns         beside each row of F stands the number of rows that R relates it to
--   Under R F x          x is in the class of a row of F
--
-- Nothing here speaks of what an image is: swaps of carriers are one case. The laws are in proofs/Laws/Classes.antt.
-- These are definitions: nothing is assumed or proved here.
use Rattle.std.specs.Prelude.{List, [], ◌∷◌, ℕ, ◌+◌}
use Rattle.ground.specs.Meanings.Exactly.{◌∈◌, Counts}

pub record Kinds (Sol : List ℕ → Type 0) (R : List ℕ → List ℕ → Type 0) : Type 0 where
  pub self : (r : List ℕ) → Sol r → R r r
  pub back : (r s : List ℕ) → Sol r → R r s → R s r
  pub trans : (r s t : List ℕ) → Sol r → R r s → R s t → R r t
  pub keeps : (r s : List ℕ) → Sol r → R r s → Sol s
  pub class : (r : List ℕ) → Sol r → (n : ℕ) × Counts (R r) n

abbrev pub total : List ℕ → ℕ
total [] = 0
total (n ∷ ns) = n + total ns

pub data Sizes (R : List ℕ → List ℕ → Type 0) : List (List ℕ) → List ℕ → Type 0 where
  done : Sizes R [] []
  more : {r : List ℕ} {F : List (List ℕ)} {n : ℕ} {ns : List ℕ} → Counts (R r) n → Sizes R F ns → Sizes R (r ∷ F) (n ∷ ns)

-- x is in the class of a row of F
pub record Under (R : List ℕ → List ℕ → Type 0) (F : List (List ℕ)) (x : List ℕ) : Type 0 where
  pub row : List ℕ
  pub among : row ∈ F
  pub image : R row x
