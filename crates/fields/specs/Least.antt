-- The definition's readings, with what came before told by one number: the least that may come next.
--
--   number_from least bound q    a byte, `least` or more and under `bound`; q where it is not
--   pair_from q test least       two bytes that pass the test as a pair and whose key is `least` or more; q where they do not
--   both_listed M a b x          the table of lists M has the pair's left in riser a's list and its right in riser b's
--   ordered n x                 the pair is one of two risers, the lower first, of n
--   rule_from n listed least     a rule whose risers' key is `least` or more
--
-- These are definitions: nothing is assumed or proved here.
use Rattle.std.specs.Prelude.{Bool, ◌&&◌, List, ℕ, ltb, leb}
use Rattle.ground.specs.Meanings.Sheet.{Reading, checked, byte, two, Pair, Rule, rule_that}
use Rattle.fields.specs.Tables.{is_listed, key}

abbrev pub number_from : ℕ → ℕ → ℕ → Reading ℕ
number_from least bound q = checked q (λ c. leb least c && ltb c bound) byte

unfoldable pub pair_from : ℕ → (Pair → Bool) → ℕ → Reading Pair
pair_from q test least = checked q (λ x. test x && leb least (key x)) two

unfoldable pub both_listed : List ℕ → ℕ → ℕ → Pair → Bool
both_listed M a b x = is_listed M a x.left && is_listed M b x.right

unfoldable pub ordered : ℕ → Pair → Bool
ordered n x = ltb x.left x.right && ltb x.right n

abbrev pub rule_from : ℕ → (ℕ → ℕ → Bool) → ℕ → Reading Rule
rule_from n listed least = rule_that n listed (λ x. leb least (key x))
