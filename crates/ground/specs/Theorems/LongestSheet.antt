-- The longest sheet.
--
--   the_longest_sheet   15 carriers, 12 risers with full lists, all 66 rules of all 225 pairs, 8 swaps
--   Longest n           some accepted sheet is n bytes long, and none is longer
--
-- That it is 30,214 bytes long is in proofs/Theorems/LongestSheet.antt.
-- These are definitions: nothing is assumed or proved here.
use Rattle.std.specs.Prelude.{◌≡◌, List, ℕ, ◌≤◌, length}
use Rattle.ground.specs.Meanings.Sheet.{Sheet, Accepted, most_carriers, most_risers, most_swaps}
use Rattle.ground.specs.Laws.Fullest.{fullest}

unfoldable pub the_longest_sheet : Sheet
the_longest_sheet = fullest most_carriers most_risers most_swaps

pub record Longest (n : ℕ) : Type 0 where
  pub bytes : List ℕ
  pub sheet : Sheet
  pub accepted : Accepted bytes sheet
  pub reached : length bytes ≡ n
  pub none_longer : (s : List ℕ) (X : Sheet) → Accepted s X → length s ≤ n
