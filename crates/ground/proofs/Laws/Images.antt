-- The images of a row as a list, found by applying swaps again and again.
--
--   moves S r       r moved by each swap of S
--   images k S r    the images of r under all products of the swaps S of k carriers
--   members k S     the products themselves
--
-- A row is an image exactly if swaps reach it (`reach_image`, `image_reach`), so the list is right (`images_enum`).
-- Assumes nothing.
use Rattle.std.specs.Prelude.{◌≡◌, List, [], ◌∷◌, map, ℕ, zero, suc, ◌<◌, length, replicate}
use Rattle.std.proofs.Common.{sym, ap, ◌∙◌, inl, inr, arith}
use Rattle.std.proofs.Math.Path.{subst}
use mathlib.Core.List.Memᴰ
use Rattle.std.proofs.lemmas.List.{length-replicate, get_or-replicate}
use Rattle.ground.specs.Meanings.Exactly.{◌∈◌, Once, Enumerates}
use Rattle.ground.specs.Meanings.Group.{at, tab, mul, identity, Member, none, step, In, move, Image}
use Rattle.ground.proofs.Laws.Lists.{row?, at_tab, length_tab, mem_at, at_mem, once_of_inj}
use Rattle.ground.proofs.Laws.Enumerations.{enum_iff}
use Rattle.ground.specs.Laws.Closure.{Reach, here, further}
use Rattle.ground.proofs.Laws.Closure.{closure, closure_enum}
use Rattle.ground.proofs.Laws.Permutations.{mem_range}
use Rattle.ground.specs.Laws.Members.{Perms}
use Rattle.ground.proofs.Laws.Members.{member_perm}
use Rattle.ground.specs.Laws.Rows.{Below}
use Rattle.ground.proofs.Laws.Rows.{move_mul, move_identity, image_self, image_length, image_below}
use Rattle.ground.specs.Laws.Choices.{choices}
use Rattle.ground.proofs.Laws.Choices.{choices_enum}

abbrev pub moves : List (List ℕ) → List ℕ → List (List ℕ)
moves S r = map (λ g. move g r) S

module _ {k : ℕ} {S : List (List ℕ)} (P : Perms k (In S)) {r : List ℕ} (b : Below k r) where
  pub reach_image : {s : List ℕ} → Reach (moves S) r s → Image k (In S) r s
  reach_image here = image_self P b
  reach_image (further {b = s} m i) =
      let w = Memᴰ.of_map (λ g. move g s) S i in
      let j = reach_image m in
      record {
        by = mul j.by w.0;
        member = step j.member w.1;
        is = move_mul (member_perm P j.member) w.0 r b ∙ ap (move w.0) j.is ∙ w.2;
      }

  member_reach : {g : List ℕ} → Member k (In S) g → Reach (moves S) r (move g r)
  member_reach none = subst (Reach (moves S) r) (sym (move_identity k r b)) here
  member_reach (step {g = g} {s = s} m i) = further (member_reach m) (Memᴰ.cast (move_mul (member_perm P m) s r b) (Memᴰ.map (λ h. move h (move g r)) i))

  pub image_reach : {s : List ℕ} → Image k (In S) r s → Reach (moves S) r s
  image_reach i = subst (Reach (moves S) r) i.is (member_reach i.member)

-- all rows of m carriers below k
abbrev pub rows_below : ℕ → ℕ → List (List ℕ)
rows_below k m = choices (replicate m (tab k (λ x. x)))

once_range : (k : ℕ) → Once (tab k (λ x. x))
once_range k =
    once_of_inj (tab k (λ x. x))
    (λ x y hx hy e. sym (at_tab k (λ z. z) x (rw (length_tab k (λ z. z)) at hx)) ∙ e ∙ at_tab k (λ z. z) y (rw (length_tab k (λ z. z)) at hy))

in_rows_below : (k : ℕ) (r : List ℕ) (m : ℕ) → length r ≡ m → Below k r → r ∈ rows_below k m
in_rows_below k r m e b =
    (choices_enum (replicate m (tab k (λ x. x))) (λ l i. subst Once (sym (same m l i)) (once_range k))).complete r
    (record {
      long = e ∙ sym (length-replicate m (tab k (λ x. x)));
      from = λ i h.
          let x = mem_range k (at r i) (b (at r i) (mem_at r i h)) in
          subst (λ (l : List ℕ). at r i ∈ l) (sym (get_or-replicate m i (tab k (λ y. y)) [] (omega arith))) x;
    })
  where
    same : (m : ℕ) (l : List ℕ) → l ∈ replicate m (tab k (λ x. x)) → l ≡ tab k (λ x. x)
    same zero l i = absurd (Memᴰ.not-nil i)
    same (suc m) l i = elim (Memᴰ.cases_cons i) [ inl q ↦ q | inr t ↦ same m l t ]

unfoldable pub images : ℕ → List (List ℕ) → List ℕ → List (List ℕ)
images k S r = closure row? (moves S) (length (rows_below k (length r))) (r ∷ [])

pub images_enum : {k : ℕ} {S : List (List ℕ)} → Perms k (In S) → (r : List ℕ) → Below k r → Enumerates (Image k (In S) r) (images k S r)
unfolding images
images_enum {k} {S} P r b =
    enum_iff (λ s. reach_image P b) (λ s. image_reach P b)
    (closure_enum row? (moves S) (rows_below k (length r))
    (λ s m. let i = reach_image P b m in in_rows_below k s (length r) (image_length i) (image_below P b i)))

-- ---- the members of the group as a list

abbrev pub products : List (List ℕ) → List ℕ → List (List ℕ)
products S g = map (λ s. mul g s) S

unfoldable pub members : ℕ → List (List ℕ) → List (List ℕ)
members k S = closure row? (products S) (length (rows_below k k)) (identity k ∷ [])

module _ {k : ℕ} {S : List (List ℕ)} where
  reach_member : {g : List ℕ} → Reach (products S) (identity k) g → Member k (In S) g
  reach_member here = none
  reach_member (further {b = g} m i) = let w = Memᴰ.of_map (λ s. mul g s) S i in subst (Member k (In S)) w.2 (step (reach_member m) w.1)

  reach_of_member : {g : List ℕ} → Member k (In S) g → Reach (products S) (identity k) g
  reach_of_member none = here
  reach_of_member (step {g = g} m i) = further (reach_of_member m) (Memᴰ.map (λ s. mul g s) i)

  pub members_enum : Perms k (In S) → Enumerates (Member k (In S)) (members k S)
  unfolding members
  members_enum P =
      enum_iff (λ g. reach_member) (λ g. reach_of_member)
      (closure_enum row? (products S) (rows_below k k)
      (λ g m. let a = member_perm P (reach_member m) in in_rows_below k g k a.size (λ x i. let w = at_mem i in subst (λ (y : ℕ). y < k) w.2 (a.below w.0 (omega (arith, w.1, a.size))))))
