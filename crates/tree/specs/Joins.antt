-- Laws of joined visits: what is in them, that they enumerate what their branches do, and that they ascend.
--
--   Among P f t r   P c holds of r for some carrier c from f on and below t
--   Goes p c r      the row r goes on from p by c
--
-- Assumes nothing.
use Rattle.std.specs.Prelude.{◌≡◌, ◌⊎◌, Bool, true, false, cond, List, [], ◌∷◌, ◌++◌, ℕ, zero, suc, ◌+◌, ◌*◌, ◌≤◌, ◌<◌, eqb}
use Rattle.std.proofs.Math.Path.{refl}
use Rattle.std.proofs.Common.{sym, ap, subst, ◌∙◌, inl, inr, arith}
use mathlib.Core.List.Memᴰ
use Rattle.std.proofs.Math.Decide.{ℕ_discrete}
use Rattle.std.proofs.lemmas.Bool.{eqb-false}
use Rattle.std.proofs.Math.Seq.{append_snoc}
use Rattle.ground.specs.Meanings.Exactly.{◌∈◌, Enumerates}
use Rattle.ground.specs.Meanings.Group.{◌≼◌}
use Rattle.ground.specs.Meanings.Listing.{Line, rows_of, Ascending}
use Rattle.ground.proofs.Laws.Enumerations.{enum_append, enum_iff}
use Rattle.ground.proofs.Laws.Order.{order_under, order_prefix}
use Rattle.tree.specs.Visits.{line, Weight, join_over, visits, branch}

rows_append : (xs ys : List Line) → rows_of (xs ++ ys) ≡ rows_of xs ++ rows_of ys
rows_append [] ys = refl
rows_append (x ∷ xs) ys = ap (λ (l : List (List ℕ)). x.row ∷ l) (rows_append xs ys)

-- ---- enumerations

pub record Among (P : ℕ → List ℕ → Type 0) (f t : ℕ) (r : List ℕ) : Type 0 where
  pub which : ℕ
  pub from : f ≤ which
  pub to : which < t
  pub has : P which r

pub joins_enum : (P : ℕ → List ℕ → Type 0) (g : ℕ → List Line) (f l : ℕ) → ((c d : ℕ) (r : List ℕ) → P c r → P d r → c ≡ d)
    → ((c : ℕ) → f ≤ c → c < f + l → Enumerates (P c) (rows_of (g c))) → Enumerates (Among P f (f + l)) (rows_of (join_over g f l))
unfolding join_over
joins_enum P g f zero apart e =
    record { once = tt; sound = λ r m. absurd (Memᴰ.not-nil m); complete = λ r a. absurd (omega (arith, a.from, a.to)) }
joins_enum P g f (suc l) apart e =
    subst (λ (z : List (List ℕ)). Enumerates (Among P f (f + suc l)) z) (sym (rows_append (g f) (join_over g (suc f) l)))
    (enum_iff
    (λ r w. elim w [
      | inl h ↦ record { which = f; from = omega arith; to = omega arith; has = h }
      | inr a ↦ record { which = a.which; from = omega (arith, a.from); to = omega (arith, a.to); has = a.has }
    ])
    (λ r a. one r a (ℕ_discrete a.which f))
    (enum_append (e f (omega arith) (omega arith)) (joins_enum P g (suc f) l apart (λ c le lt. e c (omega arith) (omega arith)))
    (λ r h a. let q = apart f a.which r h a.has in absurd (omega (arith, a.from)))))
  where
    one : (r : List ℕ) (a : Among P f (f + suc l) r) → Dec (a.which ≡ f) → P f r ⊎ Among P (suc f) (suc f + l) r
    one r a (yes q) = inl (subst (λ (c : ℕ). P c r) q a.has)
    one r a (no n) = inr (record { which = a.which; from = omega (arith, a.from); to = omega (arith, a.to); has = a.has })

join_mem : (g : ℕ → List Line) (f l : ℕ) (v : Line) → v ∈ join_over g f l → (c : ℕ) × (f ≤ c) × (c < f + l) × v ∈ g c
unfolding join_over
join_mem g f zero v m = absurd (Memᴰ.not-nil m)
join_mem g f (suc l) v m =
    elim (Memᴰ.append_cases (g f) m) [
      | inl t ↦ (f, omega arith, omega arith, t)
      | inr t ↦ let w = join_mem g (suc f) l v t in (w.0, omega (arith, w.1), omega (arith, w.2), w.3)
    ]

-- ---- order

ascending_append : (xs ys : List (List ℕ)) → Ascending xs → Ascending ys → ((a b : List ℕ) → a ∈ xs → b ∈ ys → a ≼ b) → Ascending (xs ++ ys)
ascending_append [] ys s t h = t
ascending_append (x ∷ xs) ys s t h = (
  λ b m. elim (Memᴰ.append_cases xs m) [ inl i ↦ s.0 b i | inr i ↦ h x b (Memᴰ.head refl) i ],
  ascending_append xs ys s.1 t (λ a b i j. h a b (Memᴰ.tail i) j),
)

abbrev Goes : List ℕ → ℕ → List ℕ → Type 0
Goes p c r = (q : List ℕ) × (p ++ (c ∷ q) ≡ r)

goes_order : (p : List ℕ) (c d : ℕ) (a b : List ℕ) → c < d → Goes p c a → Goes p d b → a ≼ b
goes_order p c d a b h x y = rw (← x.1, ← y.1) (order_under p (c ∷ x.0) (d ∷ y.0) (inl h))

joins_ascend : (p : List ℕ) (g : ℕ → List Line) (f l : ℕ) → ((c : ℕ) → Ascending (rows_of (g c))) → ((c : ℕ) (v : Line) → v ∈ g c → Goes p c v.row) → Ascending (rows_of (join_over g f l))
unfolding join_over
joins_ascend p g f zero s h = tt
joins_ascend p g f (suc l) s h =
    subst Ascending (sym (rows_append (g f) (join_over g (suc f) l)))
    (ascending_append (rows_of (g f)) (rows_of (join_over g (suc f) l)) (s f) (joins_ascend p g (suc f) l s h)
    (λ a b i j.
    let x = Memᴰ.of_map (λ (v : Line). v.row) (g f) i in
    let y = Memᴰ.of_map (λ (v : Line). v.row) (join_over g (suc f) l) j in
    let z = join_mem g (suc f) l y.0 y.1 in
    let u = h f x.0 x.1 in
    let w = h z.0 y.0 z.3 in
    goes_order p f z.0 a b (omega (arith, z.1)) (u.0, u.1 ∙ x.2) (w.0, w.1 ∙ y.2)))

-- ---- visits

module _ (w : Weight) (k : ℕ) where
  abbrev pub Child : ℕ → List ℕ → ℕ → ℕ → List Line
  Child m p s c = visits w k m (p ++ (c ∷ [])) (s * w p c)

  pub branch_mem : (m : ℕ) (p : List ℕ) (s c : ℕ) (v : Line) → v ∈ branch w k m p s c → (¬ (w p c ≡ 0)) × ((v ≡ line (p ++ (c ∷ [])) (s * w p c)) ⊎ (v ∈ Child m p s c))
  branch_mem m p s c v i = go (eqb (w p c) 0) refl i
    where
      go : (b : Bool) → eqb (w p c) 0 ≡ b → v ∈ cond b [] (line (p ++ (c ∷ [])) (s * w p c) ∷ Child m p s c) → (¬ (w p c ≡ 0)) × ((v ≡ line (p ++ (c ∷ [])) (s * w p c)) ⊎ (v ∈ Child m p s c))
      go true e j = absurd (Memᴰ.not-nil j)
      go false e j = (eqb-false (w p c) 0 e, Memᴰ.cases_cons j)

  pub visits_mem : (m : ℕ) (p : List ℕ) (s : ℕ) (v : Line) → v ∈ visits w k (suc m) p s → (c : ℕ) × (0 ≤ c) × (c < 0 + k) × v ∈ branch w k m p s c
  unfolding visits
  visits_mem m p s v i = join_mem (branch w k m p s) 0 k v i

  pub visits_zero : (p : List ℕ) (s : ℕ) → visits w k zero p s ≡ []
  unfolding visits
  visits_zero p s = refl

  pub visits_suc : (m : ℕ) (p : List ℕ) (s : ℕ) → visits w k (suc m) p s ≡ join_over (branch w k m p s) 0 k
  unfolding visits
  visits_suc m p s = refl

  pub no_visit : (p : List ℕ) (s : ℕ) (v : Line) → v ∈ visits w k zero p s → ⊥
  no_visit p s v i = Memᴰ.not-nil (subst (λ (l : List Line). v ∈ l) (visits_zero p s) i)

  goes : (m : ℕ) (p : List ℕ) (s c : ℕ) (v : Line) → (v ∈ Child m p s c → (d : ℕ) × Goes (p ++ (c ∷ [])) d v.row) → v ∈ branch w k m p s c → Goes p c v.row
  goes m p s c v f i =
      elim (branch_mem m p s c v i).1 [
        | inl e ↦ ([], ap (λ (x : Line). x.row) (sym e))
        | inr t ↦ let z = f t in (z.0 ∷ z.1.0, sym (append_snoc p c (z.0 ∷ z.1.0)) ∙ z.1.1)
      ]

  goes_below : (m : ℕ) (p : List ℕ) (s : ℕ) (v : Line) → v ∈ visits w k m p s → (d : ℕ) × Goes p d v.row
  goes_below zero p s v i = absurd (no_visit p s v i)
  goes_below (suc m) p s v i =
      let z = visits_mem m p s v i in
      (z.0, goes m p s z.0 v (λ t. goes_below m (p ++ (z.0 ∷ [])) (s * w p z.0) v t) z.3)

  pub visits_ascend : (m : ℕ) (p : List ℕ) (s : ℕ) → Ascending (rows_of (visits w k m p s))
  visits_ascend zero p s = subst (λ (l : List Line). Ascending (rows_of l)) (sym (visits_zero p s)) tt
  visits_ascend (suc m) p s =
      subst (λ (l : List Line). Ascending (rows_of l)) (sym (visits_suc m p s))
      (joins_ascend p (branch w k m p s) 0 k (λ c. go c (eqb (w p c) 0) (visits_ascend m (p ++ (c ∷ [])) (s * w p c))) (λ c v i. goes m p s c v (λ t. goes_below m (p ++ (c ∷ [])) (s * w p c) v t) i))
    where
      go : (c : ℕ) (b : Bool) → Ascending (rows_of (Child m p s c)) → Ascending (rows_of (cond b [] (line (p ++ (c ∷ [])) (s * w p c) ∷ Child m p s c)))
      go c true h = tt
      go c false h = (
        λ b i.
            let x = Memᴰ.of_map (λ (v : Line). v.row) (Child m p s c) i in
            let z = goes_below m (p ++ (c ∷ [])) (s * w p c) x.0 x.1 in
            subst (λ (r : List ℕ). (p ++ (c ∷ [])) ≼ r) (z.1.1 ∙ x.2) (order_prefix (p ++ (c ∷ [])) (z.0 ∷ z.1.0)),
        h,
      )
