-- What an accepted folding has.
--
--   FirstImage X r t   t is an image of the row r and comes before every image of r
--   WholeFolding ..    an accepted folding: its sheet, its first image, the member that carries the row there, the class size
--   OneCarries X r     only one member of the group carries the row r to its first image
--
-- That whatever fits the meaning of folding has it is in proofs/Theorems/Folded.antt.
-- These are definitions: nothing is assumed or proved here.
use Rattle.std.specs.Prelude.{◌≡◌, List, ℕ}
use Rattle.ground.specs.Meanings.Group.{Member, move, ◌≼◌}
use Rattle.ground.specs.Meanings.Sheet.{Sheet, Accepted}
use Rattle.ground.specs.Meanings.Plans.{Swap, ImageOn, ClassSize}
use Rattle.ground.specs.Meanings.Folding.{Whole, Fitting, Folded}
use Rattle.ground.specs.Theorems.OneAnswer.{Carrying}

pub record FirstImage (X : Sheet) (row t : List ℕ) : Type 0 where
  pub image : ImageOn X row t
  pub before : (s : List ℕ) → ImageOn X row s → t ≼ s

pub record WholeFolding (s row first member : List ℕ) (o : Folded) : Type 0 where
  pub sheet : Sheet
  pub accepted : Accepted s sheet
  pub whole : Whole sheet row
  pub fitting : Fitting sheet first member
  pub is_first : FirstImage sheet row o.first
  pub carrying : Carrying sheet row o
  pub size : ClassSize sheet row o.size

-- ---- the member

abbrev pub OneCarries : Sheet → List ℕ → Type 0
OneCarries X row = (t g h : List ℕ) → FirstImage X row t → Member X.carriers (Swap X) g → Member X.carriers (Swap X) h → move g row ≡ t → move h row ≡ t → g ≡ h
