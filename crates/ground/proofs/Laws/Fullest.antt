-- The fullest sheet is valid. It is defined in specs/Laws/Fullest.antt.
--
-- Sorted items run as a sheet asks (`run_sorted`), the identity is a swap of every sheet (`identity_valid`), and so the fullest
-- sheet is valid as far as its counts are within their limits (`fullest_valid`).
-- Assumes nothing.
use Rattle.std.specs.Prelude.{◌≡◌, refl, Bool, false, ltb, leb, length}
use Rattle.std.proofs.Common.{sym, ap, ◌∙◌, le_of_suc-le-suc, not-suc-le-zero, lt-ltb, le-ltb, le-leb, leb-true, eq-eqb}
use Rattle.std.proofs.Math.Path.{subst}
use Rattle.std.proofs.Math.Logic.{inl, inr}
use Rattle.std.proofs.Math.Bool.{true}
use mathlib.Core.List.Memᴰ
use mathlib.Core.List.{List, [], ◌∷◌, ◌++◌, map}
use Prim.Native.Nat.{ℕ, zero, suc, ◌+◌, ◌-◌, ◌*◌, ◌≤◌, ◌<◌, suc-le-suc}
use native.Mathlib.Omega.{arith}
use Rattle.std.proofs.Math.ListN.{length-append}
use Rattle.ground.specs.Meanings.Exactly.{◌∈◌}
use Rattle.ground.specs.Meanings.Group.{identity}
use Rattle.ground.specs.Meanings.Sheet.{Rule, Pair, after, before, is_in, implies, keeps_carrier, keeps_pair, is_listed_in, allowed_by, most_carriers, most_risers, most_rules, most_pairs, most_swaps}
use Rattle.ground.proofs.Laws.Lists.{mem_get_or}
use Rattle.ground.proofs.Laws.Permutations.{at_identity, perm_identity}
use Rattle.ground.proofs.Laws.Newness.{perm_all_new}
use Rattle.ground.proofs.Laws.Reading.{and_left}
use Rattle.ground.specs.Laws.Valid.{Run, Counted, ValidCarrier, ValidList, ValidPair, ValidRule, ValidSwap, Valid}
use Rattle.ground.proofs.Laws.Sheets.{after_snoc, each_all, mem_is_in}
use Rattle.ground.specs.Laws.Fullest.{blocks, table, Sorted, full, pair, grid, free_rule, rules_of, fullest}

-- ---- lists one after another

module _ {A : Type 0} where
  pub in_blocks : (n : ℕ) (f : ℕ → List A) (x : ℕ) {a : A} → x < n → a ∈ f x → a ∈ blocks n f
  unfolding blocks
  in_blocks zero f x h m = absurd (not-suc-le-zero h)
  in_blocks (suc n) f zero h m = Memᴰ.append_left (blocks n (λ y. f (suc y))) m
  in_blocks (suc n) f (suc x) h m = Memᴰ.append_right (f zero) (in_blocks n (λ y. f (suc y)) x (le_of_suc-le-suc h) m)

  pub mem_blocks : (n : ℕ) (f : ℕ → List A) {a : A} → a ∈ blocks n f → (x : ℕ) × (x < n) × (a ∈ f x)
  unfolding blocks
  mem_blocks zero f m = absurd (Memᴰ.not-nil m)
  mem_blocks (suc n) f m =
      elim (Memᴰ.append_cases (f zero) m) [
        | inl t ↦ (zero, omega arith, t)
        | inr t ↦ let w = mem_blocks n (λ y. f (suc y)) t in (suc w.0, suc-le-suc w.1, w.2)
      ]

  pub length_blocks : (n m : ℕ) (f : ℕ → List A) → ((x : ℕ) → length (f x) ≡ m) → length (blocks n f) ≡ n * m
  unfolding blocks
  length_blocks zero m f h = omega arith
  length_blocks (suc n) m f h = omega (arith, length-append (f zero) (blocks n (λ y. f (suc y))), h zero, length_blocks n m (λ y. f (suc y)) (λ x. h (suc x)))

  pub in_table : (n : ℕ) (f : ℕ → A) (x : ℕ) → x < n → f x ∈ table n f
  in_table n f x h = in_blocks n (λ y. f y ∷ []) x h (Memᴰ.head refl)

  pub mem_table : (n : ℕ) (f : ℕ → A) {a : A} → a ∈ table n f → (x : ℕ) × (x < n) × (a ≡ f x)
  mem_table n f m = let w = mem_blocks n (λ y. f y ∷ []) m in (w.0, w.1, Memᴰ.eq_of_singleton w.2)

  pub length_table : (n : ℕ) (f : ℕ → A) → length (table n f) ≡ n
  length_table n f = length_blocks n 1 (λ x. f x ∷ []) (λ x. refl) ∙ omega arith

-- ---- sorted items

module _ {A : Type 0} (b : A → A → Bool) where
  sorted_append : (l m : List A) → Sorted b l → Sorted b m → ((x y : A) → x ∈ l → y ∈ m → b x y ≡ true) → Sorted b (l ++ m)
  sorted_append [] m s t h = t
  sorted_append (x ∷ l) m s t h = (
    λ y i. elim (Memᴰ.append_cases l i) [ inl j ↦ s.0 y j | inr j ↦ h x y (Memᴰ.head refl) j ],
    sorted_append l m s.1 t (λ u v i j. h u v (Memᴰ.tail i) j),
  )

  pub sorted_blocks : (n : ℕ) (f : ℕ → List A) → ((x : ℕ) → Sorted b (f x)) → ((x y : ℕ) (u v : A) → x < y → u ∈ f x → v ∈ f y → b u v ≡ true) → Sorted b (blocks n f)
  unfolding blocks
  sorted_blocks zero f s h = tt
  sorted_blocks (suc n) f s h =
      sorted_append (f zero) (blocks n (λ x. f (suc x))) (s zero)
      (sorted_blocks n (λ x. f (suc x)) (λ x. s (suc x)) (λ x y u v l i j. h (suc x) (suc y) u v (suc-le-suc l) i j))
      (λ u v i j. let w = mem_blocks n (λ x. f (suc x)) j in h zero (suc w.0) u v (omega arith) i w.2)

  pub sorted_table : (n : ℕ) (f : ℕ → A) → ((x y : ℕ) → x < y → b (f x) (f y) ≡ true) → Sorted b (table n f)
  sorted_table n f h =
      sorted_blocks n (λ x. f x ∷ []) (λ x. (λ y i. absurd (Memᴰ.not-nil i), tt))
      (λ x y u v l i j. ap (λ (z : A). b z v) (Memᴰ.eq_of_singleton i) ∙ ap (λ (z : A). b (f x) z) (Memᴰ.eq_of_singleton j) ∙ h x y l)

  -- sorted items, each good once it comes after the last of those before it
  pub run_sorted : (Good : List A → A → Type 0) (l : List A) → Sorted b l → ((done : List A) (x : A) → x ∈ l → after b done x ≡ true → Good done x) → Run Good [] l
  unfolding after
  run_sorted Good l s h = go [] l s (λ x i. refl) h
    where
      go : (done l : List A) → Sorted b l → ((x : A) → x ∈ l → after b done x ≡ true) → ((d : List A) (x : A) → x ∈ l → after b d x ≡ true → Good d x) → Run Good done l
      go done [] s a h = tt
      go done (x ∷ l) s a h = (
        h done x (Memᴰ.head refl) (a x (Memᴰ.head refl)),
        go (done ++ (x ∷ [])) l s.1 (λ y i. after_snoc b done x y ∙ s.0 y i) (λ d y i. h d y (Memᴰ.tail i)),
      )

-- one item n times, good whatever stands before it
pub run_alike : {A : Type 0} (Good : List A → A → Type 0) (n : ℕ) (x : A) → ((done : List A) → Good done x) → Run Good [] (table n (λ i. x))
run_alike {A} Good n x h =
    run_sorted (λ y z. true) Good (table n (λ i. x)) (sorted_table (λ y z. true) n (λ i. x) (λ y z l. refl))
    (λ done y m e. subst (Good done) (sym (mem_table n (λ i. x) m).2) (h done))

-- ---- the identity is a swap of every sheet

implies_self : (a : Bool) → implies a a ≡ true
implies_self true = refl
implies_self false = refl

module _ (k n m : ℕ) (listed : ℕ → ℕ → Bool) (allows : ℕ → ℕ → ℕ → Bool) where
  pub identity_valid : (done : List (List ℕ)) → ValidSwap k n m listed allows done (identity k)
  unfolding keeps_carrier keeps_pair
  identity_valid done =
      let P = perm_identity k in
      (((P.size, perm_all_new P), each_all n _ (λ r h. each_all k _ (λ c l. carrier r c l))), each_all m _ (λ q h. each_all k _ (λ u l. each_all k _ (λ v j. pair q u v l j))))
    where
      carrier : (r c : ℕ) → c < k → keeps_carrier (listed r) (identity k) c ≡ true
      carrier r c l = rw (at_identity k c l) (implies_self (listed r c))

      pair : (q u v : ℕ) → u < k → v < k → keeps_pair (allows q) (identity k) u v ≡ true
      pair q u v l j = rw (at_identity k u l, at_identity k v j) (implies_self (allows q u v))

-- ---- full lists

pub length_full : (k : ℕ) → length (full k) ≡ k
unfolding full
length_full k = length_table k (λ c. c)

full_run : (k : ℕ) → Run (ValidCarrier k) [] (full k)
unfolding full
full_run k =
    run_sorted ltb (ValidCarrier k) (full k) (sorted_table ltb k (λ c. c) (λ x y l. lt-ltb x y l))
    (λ done x m e. let w = mem_table k (λ c. c) m in (tt, rw (e, lt-ltb x k (omega (arith, w.1, w.2)))))

full_valid : (k : ℕ) → 1 ≤ k → (done : List (List ℕ)) → ValidList k done (full k)
full_valid k h done = ((tt, rw (length_full k, le-leb 1 k h, le-leb k k (omega arith))), full_run k)

-- every carrier is in every riser's list
full_listed : (k n r c : ℕ) → r < n → c < k → is_listed_in (table n (λ x. full k)) r c ≡ true
unfolding full
full_listed k n r c h l =
    let lists = table n (λ x. full k) in
    let w = mem_table n (λ x. full k) (mem_get_or [] lists r (omega (arith, length_table n (λ x. full k)))) in
    ap (is_in c) w.2 ∙ mem_is_in c (full k) (in_table k (λ x. x) c l)

-- ---- pairs, and rules by their risers: by the left, then by the right

before_left : (x y : Pair) → x.left < y.left → before x y ≡ true
before_left x y h = rw (lt-ltb x.left y.left h)

before_right : (x y : Pair) → x.left ≡ y.left → x.right < y.right → before x y ≡ true
before_right x y e h = rw (le-ltb x.left y.left (omega arith), eq-eqb x.left y.left e, lt-ltb x.right y.right h)

-- item f a x stands at row a, and further right for a larger x
module _ {A : Type 0} (key : A → Pair) (f : ℕ → ℕ → A) (m : ℕ → ℕ) (row : (a x : ℕ) → (key (f a x)).left ≡ a) (right : (a x y : ℕ) → x < y → (key (f a x)).right < (key (f a y)).right) where
  row_of : (a : ℕ) {u : A} → u ∈ table (m a) (f a) → (key u).left ≡ a
  row_of a i = let w = mem_table (m a) (f a) i in ap (λ (z : A). (key z).left) w.2 ∙ row a w.0

  sorted_rows : (n : ℕ) → Sorted (λ x y. before (key x) (key y)) (blocks n (λ a. table (m a) (f a)))
  sorted_rows n =
      sorted_blocks (λ x y. before (key x) (key y)) n (λ a. table (m a) (f a))
      (λ a. sorted_table (λ x y. before (key x) (key y)) (m a) (f a) (λ x y l. before_right (key (f a x)) (key (f a y)) (row a x ∙ sym (row a y)) (right a x y l)))
      (λ a b u v l i j. before_left (key u) (key v) (omega (arith, row_of a i, row_of b j)))

-- ---- all pairs

pub length_grid : (k : ℕ) → length (grid k) ≡ k * k
unfolding grid
length_grid k = length_blocks k k (λ u. table k (pair u)) (λ u. length_table k (pair u))

mem_grid : (k : ℕ) {x : Pair} → x ∈ grid k → (x.left < k) × (x.right < k)
unfolding grid
mem_grid k {x} m =
    let w = mem_blocks k (λ u. table k (pair u)) m in
    let z = mem_table k (pair w.0) w.2 in
    (subst (λ (y : Pair). y.left < k) (sym z.2) w.1, subst (λ (y : Pair). y.right < k) (sym z.2) z.1)

grid_run : (k : ℕ) (inLeft inRight : ℕ → Bool) → ((c : ℕ) → c < k → inLeft c ≡ true) → ((c : ℕ) → c < k → inRight c ≡ true) → Run (ValidPair inLeft inRight) [] (grid k)
unfolding grid
grid_run k inLeft inRight f g =
    run_sorted before (ValidPair inLeft inRight) (grid k) (sorted_rows (λ (x : Pair). x) pair (λ u. k) (λ a x. refl) (λ a x y l. l) k)
    (λ done x m e. let w = mem_grid k m in (tt, rw (f x.left w.0, g x.right w.1, e)))

-- ---- all rules

pub mem_rules_of : (k n : ℕ) {q : Rule} → q ∈ rules_of k n → (a : ℕ) × (b : ℕ) × (a < b) × (b < n) × (q ≡ free_rule k a b)
unfolding rules_of
mem_rules_of k n m =
    let w = mem_blocks n (λ a. table (n - suc a) (λ x. free_rule k a (suc a + x))) m in
    let z = mem_table (n - suc w.0) (λ x. free_rule k w.0 (suc w.0 + x)) w.2 in
    (w.0, suc w.0 + z.0, omega arith, omega (arith, z.1), z.2)

after_risers : (done : List Rule) (x : Rule) → after before (map (λ (y : Rule). y.risers) done) x.risers ≡ after (λ (y z : Rule). before y.risers z.risers) done x
unfolding after
after_risers [] x = refl
after_risers (y ∷ []) x = refl
after_risers (y ∷ z ∷ l) x = after_risers (z ∷ l) x

module _ (k n : ℕ) (few : Counted 0 most_pairs (k * k)) (listed : ℕ → ℕ → Bool) (all : (r c : ℕ) → r < n → c < k → listed r c ≡ true) where
  free_valid : (done : List Rule) (a b : ℕ) → a < b → b < n → after (λ (y z : Rule). before y.risers z.risers) done (free_rule k a b) ≡ true → ValidRule n listed done (free_rule k a b)
  free_valid done a b l h e = record {
    risers = (tt, rw (lt-ltb a b l, lt-ltb b n h, after_risers done (free_rule k a b), e));
    counted = subst (Counted 0 most_pairs) (sym (length_grid k)) few;
    pairs = grid_run k (listed a) (listed b) (λ c i. all a c (omega arith) i) (λ c i. all b c h i);
  }

  rules_run : Run (ValidRule n listed) [] (rules_of k n)
  unfolding rules_of
  rules_run =
      run_sorted (λ (y z : Rule). before y.risers z.risers) (ValidRule n listed) (rules_of k n)
      (sorted_rows (λ (x : Rule). x.risers) (λ a x. free_rule k a (suc a + x)) (λ a. n - suc a) (λ a x. refl) (λ a x y l. omega arith) n)
      (λ done x m e.
      let w = mem_rules_of k n m in
      let v = w.4 in
      subst (ValidRule n listed done) (sym v) (free_valid done w.0 w.1 w.2 w.3 (subst (λ (z : Rule). after (λ (u v : Rule). before u.risers v.risers) done z ≡ true) v e)))

-- ---- the sheet

pub fullest_valid : (k n c : ℕ) → Counted 1 most_carriers k → Counted 1 most_risers n → Counted 0 most_rules (length (rules_of k n)) → Counted 0 most_pairs (k * k) → Counted 0 most_swaps c → Valid (fullest k n c)
unfolding fullest
fullest_valid k n c hk hn hm hp hc = record {
  carriers = hk;
  risers = subst (Counted 1 most_risers) (sym (length_table n (λ r. full k))) hn;
  lists = run_alike (ValidList k) n (full k) (full_valid k some);
  rule_count = hm;
  rules = subst (λ (j : ℕ). Run (ValidRule j (is_listed_in lists)) [] (rules_of k n)) (sym (length_table n (λ r. full k))) (rules_run k n hp (is_listed_in lists) (full_listed k n));
  swap_count = subst (Counted 0 most_swaps) (sym (length_table c (λ i. identity k))) hc;
  swaps = run_alike (ValidSwap k (length lists) (length (rules_of k n)) (is_listed_in lists) (allowed_by (rules_of k n))) c (identity k) (identity_valid k (length lists) (length (rules_of k n)) (is_listed_in lists) (allowed_by (rules_of k n)));
}
  where
    lists : List (List ℕ)
    lists = table n (λ r. full k)

    some : 1 ≤ k
    some = leb-true 1 k (and_left (leb 1 k) (leb k most_carriers) hk.1)
