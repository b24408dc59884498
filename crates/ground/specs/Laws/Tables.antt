-- A sheet as tables of numbers, and what they say of a carrier.
--
--   Tables                  the risers' lists, the rules' pairs and the rules that end at each riser, as three tables
--   Flag P x                x is 1 if P holds, else 0
--   Only X a b q, None X a b   rule q of the sheet X, and no other, binds the risers a and b; none does
--   Ending X a b x          x is q + 1 if that is rule q, and 0 if there is none
--   Serves X k n m T swaps  the tables T and the first m of `swaps` say what the sheet X says; k carriers, n risers
--   Few n ends              no number in the table of ends is above that of the last rule
--   Stands T p c            by the tables, the carrier c may follow the row p
--
-- Carrier c of riser r is at r · 15 + c, the pair (u, v) of rule q at q · 225 + u · 15 + v, and the rule that binds a and b at
-- b · 12 + a: those that end at one riser stand together. The swaps are padded to all 15 carriers.
-- These are definitions: nothing is assumed or proved here.
use Rattle.std.specs.Prelude.{◌≡◌, ◌⊎◌, List, map, ℕ, ◌+◌, ◌*◌, ◌-◌, ◌≤◌, ◌<◌, length, get_or, take, replicate}
use Rattle.ground.specs.Meanings.Exactly.{◌∈◌}
use Rattle.ground.specs.Meanings.Group.{at}
use Rattle.ground.specs.Meanings.Sheet.{Sheet, Rule, no_rule, most_carriers, most_risers, most_rules, most_pairs}
use Rattle.ground.specs.Meanings.Plans.{risers, list, Allows}
use Rattle.ground.specs.declared.Tables.{Tables}
use Rattle.ground.specs.Laws.Padding.{pad}
use Rattle.ground.specs.Laws.Sheets.{Sound}

abbrev pub tables : List ℕ → List ℕ → List ℕ → Tables
tables l a e = record { listed = l; allowed = a; ends = e }

-- they say nothing
abbrev pub blank_tables : Tables
blank_tables = tables (replicate (most_risers * most_carriers) 0) (replicate (most_rules * most_pairs) 0) (replicate (most_risers * most_risers) 0)

-- ---- what the tables say of a sheet

abbrev pub Flag : Type 0 → ℕ → Type 0
Flag P x = (P × (x ≡ 1)) ⊎ ((¬ P) × (x ≡ 0))

abbrev pub rule : Sheet → ℕ → Rule
rule X q = get_or X.rules q no_rule

pub record Only (X : Sheet) (a b q : ℕ) : Type 0 where
  pub some : q < length X.rules
  pub left : (rule X q).risers.left ≡ a
  pub right : (rule X q).risers.right ≡ b
  pub one : (r : Rule) → r ∈ X.rules → r.risers.left ≡ a → r.risers.right ≡ b → r ≡ rule X q

pub record None (X : Sheet) (a b : ℕ) : Type 0 where
  pub none : (r : Rule) → r ∈ X.rules → r.risers.left ≡ a → r.risers.right ≡ b → ⊥

abbrev pub Ending : Sheet → ℕ → ℕ → ℕ → Type 0
Ending X a b x = ((q : ℕ) × Only X a b q × (x ≡ q + 1)) ⊎ (None X a b × (x ≡ 0))

pub record Serves (X : Sheet) (k n m : ℕ) (T : Tables) (swaps : List (List ℕ)) : Type 0 where
  pub sound : Sound X
  pub carriers : X.carriers ≡ k
  pub risers : risers X ≡ n
  pub listed : (r c : ℕ) → r < n → c < k → Flag (c ∈ list X r) (at T.listed (r * most_carriers + c))
  pub ends : (a b : ℕ) → a < b → b < n → Ending X a b (at T.ends (b * most_risers + a))
  pub allows : (q u v : ℕ) → q < length X.rules → u < k → v < k → Flag (Allows (rule X q) u v) (at T.allowed (q * most_pairs + u * most_carriers + v))
  pub counted : length X.swaps ≡ m
  pub padded : take m swaps ≡ map (pad most_carriers k) X.swaps

-- ---- what they say of a carrier

-- no number in the table of ends is above that of the last rule
abbrev pub Few : ℕ → List ℕ → Type 0
Few n ends = (a b : ℕ) → a < b → b < n → at ends (b * most_risers + a) ≤ most_rules

pub record Stands (T : Tables) (p : List ℕ) (c : ℕ) : Type 0 where
  pub listed : ¬ (at T.listed (length p * most_carriers + c) ≡ 0)
  pub keeps : (e : ℕ) → e < length p → ¬ (at T.ends (length p * most_risers + e) ≡ 0)
      → ¬ (at T.allowed ((at T.ends (length p * most_risers + e) - 1) * most_pairs + at p e * most_carriers + c) ≡ 0)
