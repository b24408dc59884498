-- What a search needs of the group: how a row that is first goes on by one carrier more, and what that makes of its class.
--
--   Grows X     a worth for each row and carrier after it: it is not 0 exactly where the longer row is first too, and then the class of
--               the longer row is so many times as large; the class of the empty row is the empty row alone
--   plain       the worth by the sheet's swaps: the length of the carrier's orbit under the members that hold the row, or 0 where the
--               carrier is not least in it
--
-- Nothing else of the group enters the laws of visits and walks.
-- Assumes nothing.
use Rattle.std.specs.Prelude.{◌≡◌, List, [], ◌∷◌, ◌++◌, ℕ, ◌*◌, ◌<◌, length}
use Rattle.std.proofs.Common.{◌∙◌, inl, inr, arith}
use mathlib.Core.List.Memᴰ
use Rattle.ground.specs.Meanings.Exactly.{◌∈◌}
use Rattle.ground.specs.Meanings.Group.{First}
use Rattle.ground.specs.Meanings.Sheet.{Sheet}
use Rattle.ground.specs.Meanings.Plans.{Swap, ImageOn, ClassSize}
use Rattle.ground.proofs.Laws.Orbits.{orbit_self}
use Rattle.ground.specs.Laws.Rows.{Below}
use Rattle.ground.specs.Laws.Holding.{Held, Leads, OrbitLength}
use Rattle.ground.proofs.Laws.Holding.{held_perms, first_least, first_snoc, class_nil, class_snoc}
use Rattle.ground.specs.Laws.Sheets.{Sound}

pub record Grows (X : Sheet) : Type 1 where
  pub Worth : List ℕ → ℕ → ℕ → Type 0
  pub first_on : (p : List ℕ) (c n : ℕ) → Below X.carriers p → First (ImageOn X) p → Worth p c n → ¬ (n ≡ 0) → First (ImageOn X) (p ++ (c ∷ []))
  pub some : (p : List ℕ) (c : ℕ) (q : List ℕ) (n : ℕ) → Below X.carriers p → c < X.carriers → First (ImageOn X) (p ++ (c ∷ q)) → Worth p c n → ¬ (n ≡ 0)
  pub alone : ClassSize X [] 1
  pub size_on : (p : List ℕ) (c s n : ℕ) → Below X.carriers p → Below X.carriers (p ++ (c ∷ [])) → ClassSize X p s → Worth p c n → ¬ (n ≡ 0) → ClassSize X (p ++ (c ∷ [])) (s * n)

module _ {X : Sheet} (Z : Sound X) where
  abbrev k : ℕ
  k = X.carriers

  pub leads : (p : List ℕ) (c n : ℕ) → OrbitLength k (Held k (Swap X) p) c n → ¬ (n ≡ 0) → Leads k (Held k (Swap X) p) c n
  leads p c n (inl y) d = y
  leads p c n (inr y) d = absurd (d y.1)

  -- an orbit has its own carrier, so that it is not empty
  pub orbit_some : (p : List ℕ) (c : ℕ) (q : List ℕ) (n : ℕ) → Below k p → c < k → First (ImageOn X) (p ++ (c ∷ q)) → OrbitLength k (Held k (Swap X) p) c n → ¬ (n ≡ 0)
  orbit_some p c q n b l f (inl y) e = some y.orbit.list (y.orbit.enumerates.complete c (orbit_self (held_perms Z.perms b) l)) (y.orbit.number ∙ e)
    where
      some : (O : List ℕ) → c ∈ O → length O ≡ 0 → ⊥
      some [] j e = Memᴰ.not-nil j
      some (x ∷ O) j e = omega arith
  orbit_some p c q n b l f (inr y) e = y.0 (first_least Z.perms p b c q f)

  abbrev pub plain : Grows X
  plain = record {
    Worth = λ p c n. OrbitLength k (Held k (Swap X) p) c n;
    first_on = λ p c n b f w d. first_snoc Z.perms p b c f (leads p c n w d).least;
    some = orbit_some;
    alone = class_nil Z.perms;
    size_on = λ p c s n b b' e w d. class_snoc Z.perms p c s n b b' e (leads p c n w d);
  }
