-- The size of a class: the images of a row are as many as the carriers of its first carrier's orbit times the images of the
-- rest under the members that hold that carrier (`class_size`).
-- Assumes nothing.
use Rattle.std.specs.Prelude.{◌≡◌, refl, ℕ, ◌*◌, ◌<◌, length}
use Rattle.std.proofs.Common.{sym, ap, ap₂, ◌∙◌, inl, inr, arith, length-append}
use mathlib.Core.List.Memᴰ
use mathlib.Core.List.{List, [], ◌∷◌, ◌++◌, map, tail-eq_of_cons-eq}
use Rattle.std.proofs.lemmas.List.{length-map}
use Rattle.ground.specs.Meanings.Exactly.{◌∈◌, Once, Enumerates}
use Rattle.ground.specs.Meanings.Group.{at, mul, Member, move, Image}
use Rattle.ground.proofs.Laws.Enumerations.{enum_iff, enum_append, once_map}
use Rattle.ground.specs.Laws.Permutations.{inv}
use Rattle.ground.proofs.Laws.Permutations.{perm_inv, at_mul_perm, at_inv_left, group}
use Rattle.ground.specs.Laws.Members.{Perms}
use Rattle.ground.proofs.Laws.Members.{member_perm, member_mul, member_inv}
use Rattle.ground.specs.Laws.Orbits.{Orbit}
use Rattle.ground.specs.Laws.Schreier.{Stabiliser}
use Rattle.ground.specs.Laws.Rows.{Below}
use Rattle.ground.proofs.Laws.Rows.{move_mul, move_inj, image_below}

module _ {k : ℕ} {G H : List ℕ → Type 0} {c : ℕ} {r : List ℕ} (P : Perms k G) (Q : Perms k H) (hc : c < k) (hr : Below k r) (S : Stabiliser k G c H)
    {M : List (List ℕ)} (E : Enumerates (Image k H r) M) where
  -- the images whose first entry is p, by a member that takes c to p
  abbrev block : ℕ → List ℕ → List (List ℕ)
  block p g = map (λ s. p ∷ move g s) M

  module _ {p : ℕ} (o : Orbit k G c p) where
    block_once : Once (block p o.by)
    block_once =
        once_map (λ s. p ∷ move o.by s) M E.once
        (λ x y mx my e. move_inj (member_perm P o.member) x y (image_below Q hr (E.sound x mx)) (image_below Q hr (E.sound y my)) (tail-eq_of_cons-eq e))

    block_sound : (row : List ℕ) → row ∈ block p o.by → Image k G (c ∷ r) row × (at row 0 ≡ p)
    block_sound row m =
        let w = Memᴰ.of_map (λ s. p ∷ move o.by s) M m in
        let i = E.sound w.0 w.1 in
        let h = i.by in
        let g = o.by in
        let a = member_perm Q i.member in
        let e : move (mul h g) (c ∷ r) ≡ row =
        ap₂ ◌∷◌ (at_mul_perm a g c hc ∙ ap (at g) (S.fixes i.member) ∙ o.to) (move_mul a g r hr ∙ ap (move g) i.is) ∙ w.2 in
        (record { by = mul h g; member = member_mul P (S.within i.member) o.member; is = e }, ap (λ z. at z 0) (sym w.2))

    block_complete : (row : List ℕ) → Image k G (c ∷ r) row × (at row 0 ≡ p) → row ∈ block p o.by
    block_complete row w =
        let u = w.0.by in
        let g = o.by in
        let a = member_perm P w.0.member in
        let b = member_perm P o.member in
        let h = mul u (inv k g) in
        let m : Member k G h = member_mul P w.0.member (member_inv P o.member) in
        -- u takes c to p
        let to : at u c ≡ p = ap (λ z. at z 0) w.0.is ∙ w.1 in
        let f : at h c ≡ c = at_mul_perm a (inv k g) c hc ∙ ap (at (inv k g)) (to ∙ sym o.to) ∙ at_inv_left b c hc in
        let n = E.complete (move h r) (record { by = h; member = S.all m f; is = refl }) in
        let q : mul h g ≡ u = simp (group, k, perm_inv) in
        let e : p ∷ move g (move h r) ≡ row =
        ap₂ ◌∷◌ (sym to) (sym (move_mul (member_perm P m) g r hr) ∙ ap (λ z. move z r) q) ∙ w.0.is in
        Memᴰ.cast (sym e) (Memᴰ.map (λ s. p ∷ move g s) n)

    block_enum : Enumerates (λ row. Image k G (c ∷ r) row × (at row 0 ≡ p)) (block p o.by)
    block_enum = record { once = block_once; sound = block_sound; complete = block_complete }

  -- the images whose first carrier is in a list of carriers of the orbit
  blocks : (O : List ℕ) → Once O → ((p : ℕ) → p ∈ O → Orbit k G c p)
      → (L : List (List ℕ)) × Enumerates (λ row. Image k G (c ∷ r) row × (at row 0 ∈ O)) L × (length L ≡ length O * length M)
  blocks [] d f =
      ([], record { once = tt; sound = λ x m. absurd (Memᴰ.not-nil m); complete = λ x w. absurd (Memᴰ.not-nil w.1) }, omega arith)
  blocks (p ∷ O) d f =
      let o = f p (Memᴰ.head refl) in
      let w = blocks O d.1 (λ q m. f q (Memᴰ.tail m)) in
      let B = block p o.by in
      let j = enum_append (block_enum o) w.1 (λ row x y. d.0 (Memᴰ.cast (sym x.1) y.1)) in (
        B ++ w.0,
        enum_iff
            (λ row t. elim t [ inl x ↦ (x.0, Memᴰ.head x.1) | inr y ↦ (y.0, Memᴰ.tail y.1) ])
            (λ row t. elim (Memᴰ.cases_cons t.1) [ inl e ↦ inl (t.0, e) | inr m ↦ inr (t.0, m) ])
            j,
        omega (arith, length-append B w.0, length-map M (λ s. p ∷ move o.by s), w.2),
      )

  -- the size of a class
  pub class_size : {O : List ℕ} → Enumerates (Orbit k G c) O
      → (L : List (List ℕ)) × Enumerates (Image k G (c ∷ r)) L × (length L ≡ length O * length M)
  class_size {O} e =
      let w = blocks O e.once e.sound in (
        w.0,
        enum_iff (λ row t. t.0)
            (λ row i. (i, e.complete (at row 0) (record { by = i.by; member = i.member; to = ap (λ z. at z 0) i.is })))
            w.1,
        w.2,
      )
