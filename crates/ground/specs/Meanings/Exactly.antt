-- "Exactly these" and "this many".
--
--   x ∈ l            x stands in the list l
--   Once l           nothing stands in l twice
--   Enumerates P l   l has everything that P holds of, once, and nothing else
--   Counts P n       exactly n things have P
--
-- These are definitions: nothing is assumed or proved here.
use Rattle.std.specs.Prelude.{◌≡◌, ℕ, length}
use mathlib.Core.List.{List, [], ◌∷◌, Memᴰ}

infix 30 ◌∈◌
abbrev pub ◌∈◌ {ℓ} : {A : Type ℓ} → A → List A → Type ℓ
◌∈◌ a l = Memᴰ a l

abbrev pub Once {ℓ} : {A : Type ℓ} → List A → Type ℓ
Once [] = Unit
Once (a ∷ l) = (¬ (a ∈ l)) × Once l

pub record Enumerates {A : Type 0} (P : A → Type 0) (l : List A) : Type 0 where
  pub once : Once l
  pub sound : (x : A) → x ∈ l → P x
  pub complete : (x : A) → P x → x ∈ l

pub record Counts {A : Type 0} (P : A → Type 0) (n : ℕ) : Type 0 where
  pub list : List A
  pub enumerates : Enumerates P list
  pub number : length list ≡ n
