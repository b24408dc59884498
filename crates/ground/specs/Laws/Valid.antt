-- Valid sheets.
--
--   Valid X            the sheet X keeps every limit and order of a sheet, section by section
--   Run Good done l    each item of l is good after those before it, `done` the first of them
--   Takes m w Good     the reading m takes what is good, spelt by w
--   Gives m Good       what the reading m gives is good
--
-- That a sheet is accepted exactly if it is valid is in proofs/Laws/Valid.antt.
-- These are definitions: nothing is assumed or proved here.
use Rattle.std.specs.Prelude.{◌≡◌, Bool, true, ◌&&◌, List, [], ◌∷◌, ◌++◌, map, ℕ, ◌+◌, ltb, leb, length, drop}
use Rattle.ground.specs.Meanings.Sheet.{got, Reading, Pair, Rule, Sheet, is_listed_in, allowed_by, after, before, all_new, keeps_lists, keeps_rules, most_carriers, most_risers, most_rules, most_pairs, most_swaps}

-- A reading takes what is spelt by w and passes Good

abbrev pub Takes : {A : Type 0} → Reading A → (A → List ℕ) → (A → Type 0) → Type 0
Takes {A} m w Good = (s : List ℕ) (at : ℕ) (x : A) (rest : List ℕ) → Good x → drop at s ≡ w x ++ rest → m s at ≡ got x (at + length (w x))

-- each item is good after those before it
abbrev pub Run : {A : Type 0} → (List A → A → Type 0) → List A → List A → Type 0
Run Good done [] = Unit
Run Good done (x ∷ l) = Good done x × Run Good (done ++ (x ∷ [])) l

-- What is valid

abbrev pub Counted : ℕ → ℕ → ℕ → Type 0
Counted least most c = Unit {0} × ((leb least c && leb c most) ≡ true)

abbrev pub ValidCarrier : ℕ → List ℕ → ℕ → Type 0
ValidCarrier k done c = Unit {0} × ((after ltb done c && ltb c k) ≡ true)

abbrev pub ValidList : ℕ → List (List ℕ) → List ℕ → Type 0
ValidList k done l = Counted 1 k (length l) × Run (ValidCarrier k) [] l

abbrev pub ValidPair : (ℕ → Bool) → (ℕ → Bool) → List Pair → Pair → Type 0
ValidPair in_a in_b done x = Unit {0} × (((in_a x.left && in_b x.right) && after before done x) ≡ true)

pub record ValidRule (n : ℕ) (listed : ℕ → ℕ → Bool) (done : List Rule) (x : Rule) : Type 0 where
  pub risers : Unit {0} × (((ltb x.risers.left x.risers.right && ltb x.risers.right n) && after before (map (λ (y : Rule). y.risers) done) x.risers) ≡ true)
  pub counted : Counted 0 most_pairs (length x.pairs)
  pub pairs : Run (ValidPair (listed x.risers.left) (listed x.risers.right)) [] x.pairs

abbrev pub ValidSwap : ℕ → ℕ → ℕ → (ℕ → ℕ → Bool) → (ℕ → ℕ → ℕ → Bool) → List (List ℕ) → List ℕ → Type 0
ValidSwap k n m listed allows done g = (((length g ≡ k) × (all_new k [] g ≡ true)) × (keeps_lists k n listed g ≡ true)) × (keeps_rules k m allows g ≡ true)

-- a valid sheet, section by section
pub record Valid (x : Sheet) : Type 0 where
  pub carriers : Counted 1 most_carriers x.carriers
  pub risers : Counted 1 most_risers (length x.lists)
  pub lists : Run (ValidList x.carriers) [] x.lists
  pub rule_count : Counted 0 most_rules (length x.rules)
  pub rules : Run (ValidRule (length x.lists) (is_listed_in x.lists)) [] x.rules
  pub swap_count : Counted 0 most_swaps (length x.swaps)
  pub swaps : Run (ValidSwap x.carriers (length x.lists) (length x.rules) (is_listed_in x.lists) (allowed_by x.rules)) [] x.swaps

abbrev pub Gives : {A : Type 0} → Reading A → (A → Type 0) → Type 0
Gives {A} m Good = (s : List ℕ) (at : ℕ) (x : A) (p : ℕ) → m s at ≡ got x p → Good x
