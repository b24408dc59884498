-- How far a sheet can reach: 30,214 bytes are the counts, 12 lists of 15 carriers, 66 rules of 225 pairs and 8 swaps of 15 entries.
--
--   longest   30,214, the length of the longest sheet in bytes
--
-- That no sheet reaches further is in proofs/Laws/Longest.antt.
-- These are definitions: nothing is assumed or proved here.
use Rattle.std.specs.Prelude.{ℕ}

abbrev pub longest : ℕ
longest = 30214
