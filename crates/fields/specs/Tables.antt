-- The tables that a job sheet is read into, and how they are asked. A table is a list of numbers.
--
--   put_all put t i l   the items of l entered into t by `put`, one after another, the first with the number i
--   mark_list T r l     the table of lists T with 1 at r · 15 + c for each carrier c of l, riser r's list
--   mark_lists T ls     the same for all lists, riser 0's first
--   is_listed T r c     the table of lists has carrier c in riser r's list
--   key x              u · 15 + v for the pair (u, v): pairs ascend as their keys do
--   mark_pairs T q l    the table of allowed pairs T with 1 at q · 225 + key x for each pair x of l, the pairs of rule q
--   is_allowed T q u v  the table of allowed pairs has (u, v) among those of rule q
--   rule_tables T E     the two tables that rules are entered into: T the pairs, E the rules by their risers
--   put_rule t q x      rule q, x, entered: its pairs, and q + 1 at b · 12 + a, where a and b are its risers
--   mark_rules t l      the same for all rules, rule 0 first
--   padded w g         the swap g at width w: the carriers that it does not speak of stay
--   put_swap t i g      the table of swaps t with swap i, g, entered at width 15
--
-- These are definitions: nothing is assumed or proved here.
use Rattle.std.specs.Prelude.{Bool, ◌&&◌, List, [], ◌∷◌, ◌++◌, ℕ, suc, ◌+◌, ◌*◌, ltb, eqb, length, drop, set}
use Rattle.ground.specs.Meanings.Group.{at, identity}
use Rattle.ground.specs.Meanings.Sheet.{Pair, Rule, most_carriers, most_risers, most_rules, most_pairs}

unfoldable pub put_all : {S A : Type 0} → (S → ℕ → A → S) → S → ℕ → List A → S
put_all put t i [] = t
put_all put t i (x ∷ l) = put_all put (put t i x) (suc i) l

-- ---- the risers' lists

abbrev pub put_carrier : ℕ → List ℕ → ℕ → ℕ → List ℕ
put_carrier r T i c = set T (r * most_carriers + c) 1

abbrev pub mark_list : List ℕ → ℕ → List ℕ → List ℕ
mark_list T r l = put_all (put_carrier r) T 0 l

abbrev pub mark_lists : List ℕ → List (List ℕ) → List ℕ
mark_lists T ls = put_all mark_list T 0 ls

unfoldable pub is_listed : List ℕ → ℕ → ℕ → Bool
is_listed T r c = (ltb r most_risers && ltb c most_carriers) && eqb (at T (r * most_carriers + c)) 1

-- ---- the rules

abbrev pub key : Pair → ℕ
key x = x.left * most_carriers + x.right

abbrev pub put_pair : ℕ → List ℕ → ℕ → Pair → List ℕ
put_pair q T i x = set T (q * most_pairs + key x) 1

abbrev pub mark_pairs : List ℕ → ℕ → List Pair → List ℕ
mark_pairs T q l = put_all (put_pair q) T 0 l

unfoldable pub is_allowed : List ℕ → ℕ → ℕ → ℕ → Bool
is_allowed T q u v = (ltb q most_rules && (ltb u most_carriers && ltb v most_carriers)) && eqb (at T (q * most_pairs + (u * most_carriers + v))) 1

pub record RuleTables : Type 0 where
  pub pairs : List ℕ
  pub ends : List ℕ

abbrev pub rule_tables : List ℕ → List ℕ → RuleTables
rule_tables T E = record { pairs = T; ends = E }

unfoldable pub put_rule : RuleTables → ℕ → Rule → RuleTables
put_rule t q x = rule_tables (mark_pairs t.pairs q x.pairs) (set t.ends (x.risers.right * most_risers + x.risers.left) (q + 1))

abbrev pub mark_rules : RuleTables → List Rule → RuleTables
mark_rules t l = put_all put_rule t 0 l

-- ---- the swaps

unfoldable pub padded : ℕ → List ℕ → List ℕ
padded w g = g ++ drop (length g) (identity w)

unfoldable pub put_swap : List (List ℕ) → ℕ → List ℕ → List (List ℕ)
put_swap t i g = set t i (padded most_carriers g)
