-- Demand 3 over the meanings: every plan that keeps the rules is an image of exactly one listed plan, the sizes beside the
-- listed plans sum to the count of all plans, and nothing is listed exactly if no plan exists. `ListedFor` is in specs/Theorems/Kinds.antt.
--
-- They hold by any notion of a listing by which the plans fall into kinds (`Laws/Classes`); those of a sheet do (`plan_kinds`).
-- Rows ascend by the definition of a listing. What a listing is, is settled: there is no second one (`one_listing`).
-- Assumes nothing.
use Rattle.std.specs.Prelude.{◌≡◌, refl, ◌↔◌, ℕ, length}
use Rattle.std.proofs.Common.{sym, ap, ap₂, subst, ◌∙◌, inl, inr, arith}
use mathlib.Core.List.Memᴰ
use mathlib.Core.List.{List, [], ◌∷◌, head-eq_of_cons-eq, tail-eq_of_cons-eq}
use Rattle.std.proofs.lemmas.List.{length-map}
use Rattle.ground.specs.Meanings.Exactly.{◌∈◌, Once, Counts}
use Rattle.ground.specs.Meanings.Group.{at}
use Rattle.ground.specs.Meanings.Sheet.{Sheet}
use Rattle.ground.specs.Meanings.Plans.{Plan, ImageOn}
use Rattle.ground.specs.Meanings.Folding.{Whole}
use Rattle.ground.specs.Meanings.Listing.{Line, rows_of, sizes_of, Ascending, Notion, Listing}
use Rattle.ground.proofs.Laws.Enumerations.{counts_same, enum_iff}
use Rattle.ground.proofs.Laws.Order.{order_antisym}
use Rattle.ground.specs.Laws.Rows.{Below}
use Rattle.ground.proofs.Laws.Rows.{image_self, image_back, image_trans}
use Rattle.ground.specs.Laws.Chains.{size}
use Rattle.ground.proofs.Laws.Chains.{chain_size, chain_exists}
use Rattle.ground.specs.Laws.Classes.{Kinds, total, Sizes, done, more}
use Rattle.ground.proofs.Laws.Classes.{first_exists, same_first, count_all}
use Rattle.ground.specs.Laws.Sheets.{Sound}
use Rattle.ground.proofs.Laws.Sheets.{row_below, move_plan, move_row, whole_row}
use Rattle.ground.specs.Theorems.Kinds.{ListedFor}

-- ---- plans, and rows that may be folded, fall into kinds

module _ {X : Sheet} (Z : Sound X) where
  -- whatever rows are kept by the group fall into kinds
  kept_kinds : {Sol : List ℕ → Type 0} → ((r : List ℕ) → Sol r → Below X.carriers r) → ((r s : List ℕ) → Sol r → ImageOn X r s → Sol s) → Kinds Sol (ImageOn X)
  kept_kinds below keeps = record {
    self = λ r h. image_self Z.perms (below r h);
    back = λ r s h i. image_back Z.perms (below r h) i;
    trans = λ r s t h i j. image_trans Z.perms (below r h) i j;
    keeps = keeps;
    class = λ r h. let ch = chain_exists r Z.perms (below r h) in (size ch, chain_size ch);
  }

  pub plan_kinds : Kinds (Plan X) (ImageOn X)
  plan_kinds = kept_kinds (λ r p. row_below Z p.row) (λ r s p i. subst (Plan X) i.is (move_plan Z i.member p))

  pub whole_kinds : Kinds (Whole X) (ImageOn X)
  whole_kinds =
      kept_kinds (λ r w. row_below Z (whole_row Z w))
      (λ r s w i. subst (Whole X) i.is (record { long = length-map r (at i.by) ∙ w.long; listed = (move_row Z i.member (whole_row Z w)).listed }))

-- ---- a listing is settled

-- two ascending lists of the same rows, none twice, are one
ascending_same : (l m : List (List ℕ)) → Ascending l → Ascending m → Once l → Once m → ((x : List ℕ) → x ∈ l → x ∈ m) → ((x : List ℕ) → x ∈ m → x ∈ l) → l ≡ m
ascending_same [] [] s t a b f g = refl
ascending_same [] (y ∷ m) s t a b f g = absurd (Memᴰ.not-nil (g y (Memᴰ.head refl)))
ascending_same (x ∷ l) [] s t a b f g = absurd (Memᴰ.not-nil (f x (Memᴰ.head refl)))
ascending_same (x ∷ l) (y ∷ m) s t a b f g = ap₂ ◌∷◌ xy (ascending_same l m s.1 t.1 a.1 b.1 (sub a f xy) (sub b g (sym xy)))
  where
    xy : x ≡ y
    xy =
        elim (Memᴰ.cases_cons (f x (Memᴰ.head refl))) [
          | inl e ↦ e
          | inr i ↦ elim (Memᴰ.cases_cons (g y (Memᴰ.head refl))) [
            | inl e ↦ sym e
            | inr j ↦ order_antisym x y (s.0 y j) (t.0 x i)
          ]
        ]

    sub : {x y : List ℕ} {l m : List (List ℕ)} → Once (x ∷ l) → ((z : List ℕ) → z ∈ (x ∷ l) → z ∈ (y ∷ m)) → x ≡ y → (z : List ℕ) → z ∈ l → z ∈ m
    sub a f e z i = elim (Memᴰ.cases_cons (f z (Memᴰ.tail i))) [ inl q ↦ absurd (a.0 (Memᴰ.cast (e ∙ sym q) i)) | inr u ↦ u ]

module _ (N : Notion) where
  -- lines with the same rows have the same sizes
  same_lines : (F G : List Line) → ((l : Line) → l ∈ F → Counts (N.Images l.row) l.size) → ((l : Line) → l ∈ G → Counts (N.Images l.row) l.size) → rows_of F ≡ rows_of G → F ≡ G
  same_lines [] [] f g e = refl
  same_lines [] (y ∷ G) f g e = absurd (omega (arith, ap length e))
  same_lines (x ∷ F) [] f g e = absurd (omega (arith, ap length e))
  same_lines (x ∷ F) (y ∷ G) f g e =
      let r : x.row ≡ y.row = head-eq_of_cons-eq e in
      let s : x.size ≡ y.size = counts_same (f x (Memᴰ.head refl)) (subst (λ (z : List ℕ). Counts (N.Images z) y.size) (sym r) (g y (Memᴰ.head refl))) in
      ap₂ ◌∷◌ (λ i. record { row = r i; size = s i }) (same_lines F G (λ l i. f l (Memᴰ.tail i)) (λ l i. g l (Memᴰ.tail i)) (tail-eq_of_cons-eq e))

  pub one_listing : (F G : List Line) → Listing N F → Listing N G → F ≡ G
  one_listing F G a b =
      same_lines F G a.sizes b.sizes
      (ascending_same (rows_of F) (rows_of G) a.ascends b.ascends a.plans.once b.plans.once
      (λ x i. b.plans.complete x (a.plans.sound x i)) (λ x i. a.plans.complete x (b.plans.sound x i)))

-- ---- demand 3

module _ {N : Notion} {F : List Line} (K : Kinds N.Plans N.Images) (L : Listing N F) where
  -- every plan is an image of exactly one listed plan
  pub one_listed : (r : List ℕ) → N.Plans r → ListedFor N F r
  one_listed r p =
      let w = first_exists K r p in
      let q : N.Plans w.0 = K.keeps r w.0 p w.1 in
      record {
        row = w.0;
        listed = L.plans.complete w.0 (record { plan = q; first = w.2 });
        image = K.back r w.0 p w.1;
        only = λ o m i.
            let l = L.plans.sound o m in
            same_first K w.0 o q w.2 l.first (K.trans w.0 r o q (K.back r w.0 p w.1) (K.back o r l.plan i));
      }

  sizes_of_part : (G : List Line) → ((l : Line) → l ∈ G → l ∈ F) → Sizes N.Images (rows_of G) (sizes_of G)
  sizes_of_part [] f = done
  sizes_of_part (x ∷ G) f = more (L.sizes x (f x (Memᴰ.head refl))) (sizes_of_part G (λ l i. f l (Memᴰ.tail i)))

  -- the sizes sum to the count of all plans
  pub sizes_sum : Counts N.Plans (total (sizes_of F))
  sizes_sum =
      count_all K
      (enum_iff (λ r h. (h.plan, h.first)) (λ r h. record { plan = h.0; first = h.1 }) L.plans)
      (sizes_of_part F (λ l i. i))

  -- nothing is listed exactly if no plan exists
  pub none_listed : (F ≡ []) ↔ ((r : List ℕ) → ¬ N.Plans r)
  none_listed = (none, empty F (λ r m. (L.plans.sound r m).plan))
    where
      none : F ≡ [] → (r : List ℕ) → ¬ N.Plans r
      none e r p = Memᴰ.not-nil (subst (λ (G : List Line). (one_listed r p).row ∈ rows_of G) e (one_listed r p).listed)

      empty : (G : List Line) → ((r : List ℕ) → r ∈ rows_of G → N.Plans r) → ((r : List ℕ) → ¬ N.Plans r) → G ≡ []
      empty [] f h = refl
      empty (x ∷ G) f h = absurd (h x.row (f x.row (Memᴰ.head refl)))
