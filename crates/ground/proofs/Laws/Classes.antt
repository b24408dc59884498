-- The laws of classes: rows that are images of each other. Their words are in specs/Laws/Classes.antt.
--
-- Each class has one first row (`first_exists`, `same_first`). If F are the rows that have Sol and are first, then the sizes of
-- their classes add up to the number of all rows that have Sol (`count_all`).
-- Nothing here speaks of what an image is: swaps of carriers are one case.
-- Assumes nothing.
use Rattle.std.specs.Prelude.{◌≡◌, refl, ◌⊎◌, List, [], ◌∷◌, ◌++◌, ℕ}
use Rattle.std.proofs.Common.{sym, subst, inl, inr, arith, length-append}
use mathlib.Core.List.Memᴰ
use Rattle.ground.specs.Meanings.Exactly.{◌∈◌, Once, Enumerates, Counts}
use Rattle.ground.specs.Meanings.Group.{First}
use Rattle.ground.proofs.Laws.Enumerations.{enum_append, enum_iff}
use Rattle.ground.proofs.Laws.Order.{order_antisym, order_least}
use Rattle.ground.specs.Laws.Classes.{Kinds, total, Sizes, done, more, Under}

module _ {Sol : List ℕ → Type 0} {R : List ℕ → List ℕ → Type 0} (K : Kinds Sol R) where
  pub first_exists : (r : List ℕ) → Sol r → (s : List ℕ) × R r s × First R s
  first_exists r h = go (K.class r h).1.list (K.class r h).1.enumerates.sound (K.class r h).1.enumerates.complete
    where
      go : (M : List (List ℕ)) → ((x : List ℕ) → x ∈ M → R r x) → ((x : List ℕ) → R r x → x ∈ M) → (s : List ℕ) × R r s × First R s
      go [] f c = absurd (Memᴰ.not-nil (c r (K.self r h)))
      go (x ∷ M) f c =
          let w = order_least x M in
          let i = f w.0 w.1 in
          (w.0, i, λ s j. w.2 s (c s (K.trans r w.0 s h i j)))

  pub same_first : (r s : List ℕ) → Sol r → First R r → First R s → R r s → s ≡ r
  same_first r s h f g i = order_antisym s r (g r (K.back r s h i)) (f s i)

  classes : {F : List (List ℕ)} {ns : List ℕ} → Sizes R F ns → Once F → ((r : List ℕ) → r ∈ F → Sol r × First R r) → Counts (Under R F) (total ns)
  classes done d f = record {
    list = [];
    enumerates = record { once = tt; sound = λ x m. absurd (Memᴰ.not-nil m); complete = λ x w. absurd (Memᴰ.not-nil w.among) };
    number = refl;
  }
  classes (more {r = r} {F = F} {n = n} e z) d f =
      let w = classes z d.1 (λ q m. f q (Memᴰ.tail m)) in
      let h = f r (Memᴰ.head refl) in
      record {
        list = e.list ++ w.list;
        enumerates = enum_iff
            (λ x t. elim t [ inl i ↦ record { row = r; among = Memᴰ.head refl; image = i } | inr v ↦ record { row = v.row; among = Memᴰ.tail v.among; image = v.image } ])
            (λ x v. split x v (Memᴰ.cases_cons v.among))
            (enum_append e.enumerates w.enumerates (apart h));
        number = omega (arith, length-append e.list w.list, e.number, w.number);
      }
    where
      split : (x : List ℕ) (v : Under R (r ∷ F) x) → (v.row ≡ r) ⊎ (v.row ∈ F) → R r x ⊎ Under R F x
      split x v (inl q) = inl (subst (λ (y : List ℕ). R y x) q v.image)
      split x v (inr m) = inr (record { row = v.row; among = m; image = v.image })

      apart : Sol r × First R r → (x : List ℕ) → R r x → Under R F x → ⊥
      apart h x i v =
          let g = f v.row (Memᴰ.tail v.among) in
          let q = same_first r v.row h.0 h.1 g.1 (K.trans r x v.row h.0 i (K.back v.row x g.0 v.image)) in
          d.0 (Memᴰ.cast (sym q) v.among)

  pub count_all : {F : List (List ℕ)} {ns : List ℕ} → Enumerates (λ (r : List ℕ). Sol r × First R r) F → Sizes R F ns → Counts Sol (total ns)
  count_all {F} {ns} f z =
      let w = classes z f.once f.sound in
      record { list = w.list; enumerates = enum_iff forth back w.enumerates; number = w.number }
    where
      forth : (x : List ℕ) → Under R F x → Sol x
      forth x v = K.keeps v.row x (f.sound v.row v.among).0 v.image

      back : (x : List ℕ) → Sol x → Under R F x
      back x s = let v = first_exists x s in record { row = v.0; among = f.complete v.0 (K.keeps x v.0 s v.1, v.2); image = K.back x v.0 s v.1 }
