-- A sheet, written out.
--
--   written X      the bytes of the sheet X
--   Spells m w     what the reading m passes over is what it read, spelt by w
--   tail_risers, tail_rules, tail_swaps   the bytes from the place where that section begins
--
-- That a sheet has one spelling is in proofs/Laws/Spelling.antt.
-- These are definitions: nothing is assumed or proved here.
use Rattle.std.specs.Prelude.{◌≡◌, List, [], ◌∷◌, ◌++◌, ℕ, length, drop}
use Rattle.ground.specs.Meanings.Sheet.{got, Reading, Pair, Rule, Sheet}

-- The spelling

abbrev pub each_written : {A : Type 0} → (A → List ℕ) → List A → List ℕ
each_written w [] = []
each_written w (x ∷ l) = w x ++ each_written w l

abbrev pub write_list : List ℕ → List ℕ
write_list l = length l ∷ l

abbrev pub write_pair : Pair → List ℕ
write_pair x = x.left ∷ x.right ∷ []

abbrev pub write_rule : Rule → List ℕ
write_rule x = write_pair x.risers ++ (length x.pairs ∷ each_written write_pair x.pairs)

abbrev pub written : Sheet → List ℕ
written x = x.carriers ∷ length x.lists ∷ (each_written write_list x.lists ++ (length x.rules ∷ (each_written write_rule x.rules ++ (length x.swaps ∷ each_written (λ (g : List ℕ). g) x.swaps))))

-- What a reading passes over is what it read, spelt by w

abbrev pub Spells : {A : Type 0} → Reading A → (A → List ℕ) → Type 0
Spells {A} m w = (s : List ℕ) (at : ℕ) (x : A) (p : ℕ) → m s at ≡ got x p → drop at s ≡ w x ++ drop p s

-- From each section to the end

abbrev pub tail_swaps : Sheet → List ℕ
tail_swaps x = each_written (λ (g : List ℕ). g) x.swaps

abbrev pub tail_rules : Sheet → List ℕ
tail_rules x = each_written write_rule x.rules ++ (length x.swaps ∷ tail_swaps x)

abbrev pub tail_risers : Sheet → List ℕ
tail_risers x = each_written write_list x.lists ++ (length x.rules ∷ tail_rules x)
