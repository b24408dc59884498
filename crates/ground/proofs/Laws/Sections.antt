-- A sheet is its two counts and its sections (`whole`), which are defined in specs/Laws/Sections.antt.
-- Assumes nothing.
use Rattle.std.specs.Prelude.{◌≡◌, List, ℕ}
use Rattle.std.proofs.Math.Path.{refl}
use Rattle.ground.specs.Meanings.Sheet.{and_then, count, job_sheet, most_carriers, most_risers}
use Rattle.ground.specs.Laws.Sections.{from_risers}

module _ (s : List ℕ) where
  pub whole : (from : ℕ) → job_sheet s from ≡ and_then (count 1 most_carriers s from) (λ k p. and_then (count 1 most_risers s p) (λ n p'. from_risers s k n p'))
  unfolding job_sheet
  whole from = refl
