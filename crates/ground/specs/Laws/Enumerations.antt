-- Enumerations: lists that have everything with a property, once.
--
--   without m     the list l but for the place where m says that a stands
--   kept d a l    a and then l, where d decides for a; else l
--   filter q? l   those of the list l that q? decides for
--
-- Their laws are in proofs/Laws/Enumerations.antt.
-- These are definitions: nothing is assumed or proved here.
use Rattle.std.specs.Prelude.{List, [], ◌∷◌}
use mathlib.Core.List.Memᴰ
use Rattle.ground.specs.Meanings.Exactly.{◌∈◌}

-- l without one member
module _ {ℓ} {A : Type ℓ} where
  abbrev pub without : {a : A} {l : List A} → a ∈ l → List A
  without (Memᴰ.head {xs = xs} e) = xs
  without (Memᴰ.tail {x = x} m) = x ∷ without m

-- ---- those of an enumeration that have a second property

abbrev pub kept : {A B : Type 0} → Dec B → A → List A → List A
kept (yes q) a l = a ∷ l
kept (no g) a l = l

abbrev pub filter : {A : Type 0} {Q : A → Type 0} → ((x : A) → Dec (Q x)) → List A → List A
filter q? [] = []
filter q? (a ∷ l) = kept (q? a) a (filter q? l)
