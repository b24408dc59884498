-- Lists: a table of a function, places and members, what is decided of all members.
--
-- `at_tab`, `at_map` say what stands at a place; `mem_get_or`, `index_of` go between places and members (`mem_at`,
-- `at_mem` for numbers); `mem?` and `all_or`
-- decide where each case is decided, `row?` tells rows apart; `fill_more` is one turn of a loop that fills a table.
-- Assumes nothing.
use Rattle.std.specs.Prelude.{◌≡◌, refl, ◌⊎◌, ℕ, zero, suc, ◌+◌, ◌<◌, length, get_or, take, drop, set}
use Rattle.std.proofs.Common.{sym, ap, ap₂, ◌∙◌, inl, inr, zero-le, suc-le-suc, le_of_suc-le-suc, not-suc-le-zero, suc-ne-zero, zero-lt-suc, arith, take-append-drop, get_or-set_same, get_or-set_other}
use mathlib.Core.List.Memᴰ
use mathlib.Core.List.{List, [], ◌∷◌, map, head-eq_of_cons-eq, tail-eq_of_cons-eq}
use Rattle.std.proofs.Math.Nat.{suc_inj}
use Rattle.std.proofs.Math.Decide.{ℕ_discrete}
use Rattle.ground.specs.Meanings.Exactly.{◌∈◌, Once}
use Rattle.ground.specs.Meanings.Group.{at, tab}

pub length_tab : (n : ℕ) (f : ℕ → ℕ) → length (tab n f) ≡ n
length_tab zero f = refl
length_tab (suc n) f = ap suc (length_tab n (λ x. f (suc x)))

pub at_tab : (n : ℕ) (f : ℕ → ℕ) (x : ℕ) → x < n → at (tab n f) x ≡ f x
at_tab zero f x h = absurd (not-suc-le-zero h)
at_tab (suc n) f zero h = refl
at_tab (suc n) f (suc x) h = at_tab n (λ y. f (suc y)) x (le_of_suc-le-suc h)

pub at_map : (f : ℕ → ℕ) (l : List ℕ) (x : ℕ) → x < length l → at (map f l) x ≡ f (at l x)
at_map f [] x h = absurd (not-suc-le-zero h)
at_map f (a ∷ l) zero h = refl
at_map f (a ∷ l) (suc x) h = at_map f l x (le_of_suc-le-suc h)

-- a list of no length is empty
pub nil_of : {A : Type 0} (l : List A) → length l ≡ 0 → l ≡ []
nil_of [] e = refl
nil_of (x ∷ l) e = absurd (omega arith)

-- ---- membership

-- what stands at a place below n is among the first n
pub mem_take : {A : Type 0} (n : ℕ) (l : List A) (i : ℕ) (d : A) → i < n → i < length l → get_or l i d ∈ take n l
mem_take zero l i d h g = absurd (not-suc-le-zero h)
mem_take (suc n) [] i d h g = absurd (not-suc-le-zero g)
mem_take (suc n) (a ∷ l) zero d h g = Memᴰ.head refl
mem_take (suc n) (a ∷ l) (suc i) d h g = Memᴰ.tail (mem_take n l i d (le_of_suc-le-suc h) (le_of_suc-le-suc g))

pub mem_get_or : {A : Type 0} (d : A) (l : List A) (i : ℕ) → i < length l → get_or l i d ∈ l
mem_get_or d [] i h = absurd (not-suc-le-zero h)
mem_get_or d (x ∷ l) zero h = Memᴰ.head refl
mem_get_or d (x ∷ l) (suc i) h = Memᴰ.tail (mem_get_or d l i (le_of_suc-le-suc h))

-- the first of a list are among it
pub take_in : {A : Type 0} (n : ℕ) (l : List A) (x : A) → x ∈ take n l → x ∈ l
take_in n l x m = rw (take-append-drop n l) at (Memᴰ.append_left (drop n l) m)

-- the place of a member
pub index_of : {A : Type 0} (d : A) {x : A} {l : List A} → x ∈ l → (i : ℕ) × (i < length l) × (get_or l i d ≡ x)
index_of d (Memᴰ.head e) = (zero, zero-lt-suc _, sym e)
index_of d (Memᴰ.tail m) = let r = index_of d m in (suc r.0, suc-le-suc r.1, r.2)

-- of numbers
pub mem_at : (l : List ℕ) (x : ℕ) → x < length l → at l x ∈ l
mem_at = mem_get_or 0

pub at_mem : {a : ℕ} {l : List ℕ} → a ∈ l → (i : ℕ) × (i < length l) × (at l i ≡ a)
at_mem = index_of 0

-- ---- no element twice

pub once_of_inj : (l : List ℕ) → ((x y : ℕ) → x < length l → y < length l → at l x ≡ at l y → x ≡ y) → Once l
once_of_inj [] h = tt
once_of_inj (a ∷ l) h = (
  λ m. let r = at_mem m in suc-ne-zero r.0 (h (suc r.0) zero (suc-le-suc r.1) (suc-le-suc zero-le) r.2),
  once_of_inj l (λ x y hx hy e. suc_inj (h (suc x) (suc y) (suc-le-suc hx) (suc-le-suc hy) e)),
)

-- ---- what is decided of all members

module _ {ℓ} {A : Type ℓ} where
  -- where equality is decided, so is membership
  unfoldable pub mem? : Discrete A → (a : A) (l : List A) → (a ∈ l) ⊎ (¬ (a ∈ l))
  mem? dec a [] = inr Memᴰ.not-nil
  mem? dec a (b ∷ l) = go (dec a b) (mem? dec a l)
    where
      go : Dec (a ≡ b) → (a ∈ l) ⊎ (¬ (a ∈ l)) → (a ∈ (b ∷ l)) ⊎ (¬ (a ∈ (b ∷ l)))
      go (yes e) r = inl (Memᴰ.head e)
      go (no f) (inl m) = inl (Memᴰ.tail m)
      go (no f) (inr g) = inr (λ m. elim (Memᴰ.cases_cons m) [ inl e ↦ f e | inr t ↦ g t ])

-- rows are told apart
unfoldable pub row? : (r s : List ℕ) → Dec (r ≡ s)
row? [] [] = yes refl
row? [] (b ∷ s) = no (λ e. omega (arith, ap (λ (l : List ℕ). length l) e))
row? (a ∷ r) [] = no (λ e. omega (arith, ap (λ (l : List ℕ). length l) e))
row? (a ∷ r) (b ∷ s) = go (ℕ_discrete a b) (row? r s)
  where
    go : Dec (a ≡ b) → Dec (r ≡ s) → Dec (a ∷ r ≡ b ∷ s)
    go (yes e) (yes f) = yes (ap₂ ◌∷◌ e f)
    go (yes e) (no f) = no (λ g. f (tail-eq_of_cons-eq g))
    go (no f) d = no (λ g. f (head-eq_of_cons-eq g))

-- each member has P, or there is one that has Q
unfoldable pub all_or : {A : Type 0} {P Q : A → Type 0} → ((x : A) → P x ⊎ Q x) → (l : List A) → ((x : A) → x ∈ l → P x) ⊎ ((x : A) × x ∈ l × Q x)
all_or f [] = inl (λ x m. absurd (Memᴰ.not-nil m))
all_or {A} {P} {Q} f (a ∷ l) = go (f a) (all_or f l)
  where
    go : P a ⊎ Q a → ((x : A) → x ∈ l → P x) ⊎ ((x : A) × x ∈ l × Q x) → ((x : A) → x ∈ (a ∷ l) → P x) ⊎ ((x : A) × x ∈ (a ∷ l) × Q x)
    go (inr q) r = inr (a, Memᴰ.head refl, q)
    go (inl p) (inr w) = inr (w.0, Memᴰ.tail w.1, w.2)
    go (inl p) (inl g) = inl (λ x m. elim (Memᴰ.cases_cons m) [ inl e ↦ rw e p | inr t ↦ g x t ])

-- ---- a table that a loop fills, one entry a turn

pub fill_more : (f : ℕ → ℕ) (out : List ℕ) (i : ℕ) → i < length out → ((j : ℕ) → j < i → at out j ≡ f j) → (j : ℕ) → j < i + 1 → at (set out i (f i)) j ≡ f j
fill_more f out i h k j l = go (ℕ_discrete j i)
  where
    go : Dec (j ≡ i) → at (set out i (f i)) j ≡ f j
    go (yes e) = rw e (get_or-set_same out i (f i) 0 h)
    go (no d) = get_or-set_other out i j (f i) 0 d ∙ k j (omega arith)
