-- What the tables of lists and of allowed pairs say of what was read, entry by entry.
--
--   is_at f e l              some item of l has the number e, as f numbers them
--   Carriers l              each of l is below 15
--   CarrierPair x           both of the pair are below 15.        CarrierPairs x   each pair of the rule x is such a pair
--
-- A table of rows that was 0 everywhere is 1 where an item was entered and 0 elsewhere (`table_bit`). So the table of lists says
-- what the lists do (`listed_entry`, `listed_is`), and the table of allowed pairs what the rules do (`allowed_entry`, `allows_is`).
-- Assumes nothing.
use Rattle.std.specs.Prelude.{◌≡◌, Bool, ◌&&◌, ◌||◌, ◌⊎◌, ltb, get_or, set, replicate}
use Rattle.std.proofs.Math.Path.{refl, ap, fun_ext}
use Rattle.std.proofs.Common.{sym, ap₂, ◌∙◌, subst, inl, inr, get_or-set_same}
use Rattle.std.proofs.Math.Bool.{true, false, cond}
use mathlib.Core.List.{List, [], ◌∷◌}
use Prim.Native.Nat.{ℕ, zero, suc, ◌+◌, ◌*◌, ◌<◌, ◌≤◌}
use native.Mathlib.Omega.{arith}
use Rattle.std.proofs.Math.Decide.{dec_lt, ℕ_discrete}
use Rattle.std.proofs.Math.Dec.{eqb}
use Rattle.std.proofs.Math.ListN.{length, length-set, get_or-eq_default}
use Rattle.std.proofs.lemmas.List.{length-replicate}
use Rattle.std.proofs.Math.Seq.{get_or-set_other}
use borrow.Author.Tests.{lt-ltb, le-ltb, ltb-true, eq-eqb, ne_eqb}
use Rattle.ground.specs.Meanings.Group.{at}
use Rattle.ground.specs.Meanings.Sheet.{got, many, carrier, riser, count, checked, byte, two, Pair, Rule, no_rule, rule, rule_that, allowed_pair, is_in, is_pair_in, after, before, is_listed_in, allowed_by, most_carriers, most_risers, most_rules, most_pairs}
use Rattle.ground.specs.Laws.Reading.{All}
use Rattle.ground.proofs.Laws.Reading.{and_then_got, checked_passed, and_left, and_right, many_all}
use Rattle.fields.specs.Tables.{put_all, mark_lists, is_listed, key, mark_pairs, RuleTables, put_rule, mark_rules, is_allowed}
use Rattle.sheet.specs.Serves.{bit}
use Rattle.fields.specs.Risers.{listed_small}

pub at_blank : (n i : ℕ) → ◌≡◌ {A = ℕ} (at (replicate n 0) i) 0
at_blank zero i = refl
at_blank (suc n) zero = refl
at_blank (suc n) (suc i) = at_blank n i

-- ---- a row of a table

module _ {A : Type 0} (f : A → ℕ) where
  unfoldable pub is_at : ℕ → List A → Bool
  is_at e [] = false
  is_at e (y ∷ l) = eqb e (f y) || is_at e l

  abbrev put_one : ℕ → List ℕ → ℕ → A → List ℕ
  put_one base T i y = set T (base + f y) 1

  row_length : (base : ℕ) (T : List ℕ) (i : ℕ) (l : List A) → length (put_all (put_one base) T i l) ≡ length T
  unfolding put_all
  row_length base T i [] = refl
  row_length base T i (y ∷ l) = row_length base (set T (base + f y) 1) (suc i) l ∙ length-set T (base + f y) 1

  row_other : (W base : ℕ) (T : List ℕ) (i : ℕ) (l : List A) → All (λ y. f y < W) l → (j : ℕ) → (j < base) ⊎ (base + W ≤ j) → at (put_all (put_one base) T i l) j ≡ at T j
  unfolding put_all
  row_other W base T i [] a j h = refl
  row_other W base T i (y ∷ l) a j h = row_other W base (set T (base + f y) 1) (suc i) l a.1 j h ∙ get_or-set_other T (base + f y) j 1 0 (apart h)
    where
      apart : (j < base) ⊎ (base + W ≤ j) → j ≡ base + f y → ⊥
      apart (inl x) e = omega (arith, a.0)
      apart (inr x) e = omega (arith, a.0)

  row_at : (W base : ℕ) (T : List ℕ) (i : ℕ) (l : List A) → All (λ y. f y < W) l → base + W ≤ length T → (e : ℕ) → e < W → at (put_all (put_one base) T i l) (base + e) ≡ cond (is_at e l) 1 (at T (base + e))
  unfolding put_all is_at
  row_at W base T i [] a w e h = refl
  row_at W base T i (y ∷ l) a w e h = row_at W base (set T (base + f y) 1) (suc i) l a.1 (rw (length-set T (base + f y) 1) w) e h ∙ pick (ℕ_discrete e (f y))
    where
      both : (b : Bool) → cond b 1 1 ≡ cond (true || b) 1 (at T (base + e))
      both true = refl
      both false = refl

      pick : Dec (e ≡ f y) → cond (is_at e l) 1 (at (set T (base + f y) 1) (base + e)) ≡ cond (eqb e (f y) || is_at e l) 1 (at T (base + e))
      pick (yes z) = rw (eq-eqb e (f y) z, z, get_or-set_same T (base + f y) 1 0 (omega arith)) (rw z at (both (is_at e l)))
      pick (no z) = rw (ne_eqb e (f y) z, get_or-set_other T (base + f y) (base + e) 1 0 (λ q. z (omega arith)))

-- ---- a table of rows: row i, from base i on, has the items of entry i

module _ {A B : Type 0} (f : A → ℕ) (items : B → List A) (none : B) (empty : items none ≡ []) (W : ℕ) (base : ℕ → ℕ) (step : (i : ℕ) → base (suc i) ≡ base i + W) where
  abbrev put_row : List ℕ → ℕ → B → List ℕ
  put_row T i x = put_all (put_one f (base i)) T 0 (items x)

  abbrev Small : B → Type 0
  Small x = All (λ y. f y < W) (items x)

  base_mono : (i d : ℕ) → base i ≤ base (i + d)
  base_mono i zero = let e : i + 0 ≡ i = omega arith in rw e (omega arith)
  base_mono i (suc d) = let h = base_mono i d in let g = step (i + d) in let e : i + suc d ≡ suc (i + d) = omega arith in rw e (omega arith)

  -- rows before i are as they were
  table_before : (T : List ℕ) (i : ℕ) (l : List B) → All Small l → (j : ℕ) → j < base i → at (put_all put_row T i l) j ≡ at T j
  unfolding put_all
  table_before T i [] a j h = refl
  table_before T i (x ∷ l) a j h = table_before (put_row T i x) (suc i) l a.1 j (let s = step i in omega arith) ∙ row_other f W (base i) T 0 (items x) a.0 j (inl h)

  table_at : (T : List ℕ) (i : ℕ) (l : List B) → All Small l → base (i + length l) ≤ length T → (d e : ℕ) → e < W → at (put_all put_row T i l) (base (i + d) + e) ≡ cond (is_at f e (items (get_or l d none))) 1 (at T (base (i + d) + e))
  unfolding put_all is_at
  table_at T i [] a w d e h = rw empty
  table_at T i (x ∷ l) a w zero e h =
      let z : i + 0 ≡ i = omega arith in
      let s = step i in
      let m = base_mono (suc i) (length l) in
      let n : i + suc (length l) ≡ suc i + length l = omega arith in
      let w' : base (suc i + length l) ≤ length T = rw n at w in
      rw z (table_before (put_row T i x) (suc i) l a.1 (base i + e) (omega arith) ∙ row_at f W (base i) T 0 (items x) a.0 (omega arith) e h)
  table_at T i (x ∷ l) a w (suc d) e h =
      let n : i + suc (length l) ≡ suc i + length l = omega arith in
      let w' : base (suc i + length l) ≤ length T = rw n at w in
      let k : i + suc d ≡ suc i + d = omega arith in
      let s = step i in
      let m = base_mono (suc i) d in
      rw k (table_at (put_row T i x) (suc i) l a.1 (rw (row_length f (base i) T 0 (items x)) w') d e h ∙ ap (λ (v : ℕ). cond (is_at f e (items (get_or l d none))) 1 v) (row_other f W (base i) T 0 (items x) a.0 (base (suc i + d) + e) (inr (omega arith))))

  -- from a table that is 0 everywhere
  pub table_bit : (n : ℕ) (l : List B) → All Small l → base (length l) ≤ n → (d e : ℕ) → e < W → at (put_all put_row (replicate n 0) 0 l) (base d + e) ≡ bit (is_at f e (items (get_or l d none)))
  table_bit n l a w d e h =
      let z : 0 + length l ≡ length l = omega arith in
      let y : 0 + d ≡ d = omega arith in
      (rw y at (table_at (replicate n 0) 0 l a (rw (z, length-replicate {A = ℕ} n 0) w) d e h)) ∙ ap (λ (v : ℕ). cond (is_at f e (items (get_or l d none))) 1 v) (at_blank n (base d + e))

pub bit_one : (b : Bool) → eqb (bit b) 1 ≡ b
bit_one true = refl
bit_one false = refl

all_get_d : {B : Type 0} (P : B → Type 0) (l : List B) (i : ℕ) (d : B) → All P l → P d → P (get_or l i d)
all_get_d P [] i d a p = p
all_get_d P (x ∷ l) zero d a p = a.0
all_get_d P (x ∷ l) (suc i) d a p = all_get_d P l i d a.1 p

all_map : {B : Type 0} (P Q : B → Type 0) → ((x : B) → P x → Q x) → (l : List B) → All P l → All Q l
all_map P Q f [] a = tt
all_map P Q f (x ∷ l) a = (f x a.0, all_map P Q f l a.1)

-- ---- the risers' lists

abbrev pub Carriers : List ℕ → Type 0
Carriers l = All (λ x. x < most_carriers) l

is_in_at : (c : ℕ) (l : List ℕ) → is_at (λ (x : ℕ). x) c l ≡ is_in c l
unfolding is_at is_in
is_in_at c [] = refl
is_in_at c (d ∷ l) = ap (λ (b : Bool). eqb c d || b) (is_in_at c l)

is_in_none : (c : ℕ) → is_in c [] ≡ false
unfolding is_in
is_in_none c = refl

is_in_big : (c : ℕ) (l : List ℕ) → Carriers l → most_carriers ≤ c → is_in c l ≡ false
unfolding is_in
is_in_big c [] a h = refl
is_in_big c (d ∷ l) a h = rw (ne_eqb c d (λ (e : c ≡ d). omega (arith, a.0)), is_in_big c l a.1 h)

module _ (ls : List (List ℕ)) (few : length ls ≤ most_risers) (small : All Carriers ls) where
  abbrev member : List ℕ
  member = mark_lists (replicate (most_risers * most_carriers) 0) ls

  pub listed_entry : (r c : ℕ) → c < most_carriers → at member (r * most_carriers + c) ≡ bit (is_listed_in ls r c)
  listed_entry r c h = table_bit (λ (x : ℕ). x) (λ (x : List ℕ). x) [] refl most_carriers (λ i. i * most_carriers) (λ i. omega arith) (most_risers * most_carriers) ls small (omega arith) r c h ∙ ap bit (is_in_at c (get_or ls r []))

  pub listed_is : is_listed member ≡ is_listed_in ls
  unfolding is_listed
  listed_is = fun_ext (λ r. fun_ext (λ c. elim (dec_lt r most_risers) [
    | no f ↦ rw (le-ltb r most_risers (omega arith), get_or-eq_default ls [] {n = r} (omega arith)) (sym (is_in_none c))
    | yes g ↦ elim (dec_lt c most_carriers) [
      | no h ↦ rw (lt-ltb r most_risers g, le-ltb c most_carriers (omega arith)) (sym (is_in_big c (get_or ls r []) (all_get_d Carriers ls r [] small tt) (omega arith)))
      | yes h ↦ rw (lt-ltb r most_risers g, lt-ltb c most_carriers h) (ap (λ (v : ℕ). eqb v 1) (listed_entry r c h) ∙ bit_one (is_listed_in ls r c))
    ]
  ]))

-- ---- the rules' pairs

abbrev pub CarrierPair : Pair → Type 0
CarrierPair x = (x.left < most_carriers) × (x.right < most_carriers)

abbrev pub CarrierPairs : Rule → Type 0
CarrierPairs x = All CarrierPair x.pairs

eqb_key : (u v : ℕ) (x : Pair) → v < most_carriers → x.right < most_carriers → eqb (u * most_carriers + v) (key x) ≡ (eqb u x.left && eqb v x.right)
eqb_key u v x h g = elim (ℕ_discrete u x.left) [
  | yes e ↦ rw (eq-eqb u x.left e) (elim (ℕ_discrete v x.right) [
    | yes f ↦ rw (eq-eqb v x.right f) (eq-eqb (u * most_carriers + v) (key x) (omega arith))
    | no f ↦ rw (ne_eqb v x.right f) (ne_eqb (u * most_carriers + v) (key x) (λ (q : u * most_carriers + v ≡ key x). f (omega arith)))
  ])
  | no e ↦ rw (ne_eqb u x.left e) (ne_eqb (u * most_carriers + v) (key x) (λ (q : u * most_carriers + v ≡ key x). e (omega arith)))
]

is_pair_in_at : (u v : ℕ) (l : List Pair) → v < most_carriers → All CarrierPair l → is_at key (u * most_carriers + v) l ≡ is_pair_in u v l
unfolding is_at is_pair_in
is_pair_in_at u v [] h a = refl
is_pair_in_at u v (x ∷ l) h a = ap₂ (λ (b c : Bool). b || c) (eqb_key u v x h a.0.1) (is_pair_in_at u v l h a.1)

is_pair_in_none : (u v : ℕ) → is_pair_in u v [] ≡ false
unfolding is_pair_in
is_pair_in_none u v = refl

is_pair_in_big : (u v : ℕ) (l : List Pair) → All CarrierPair l → (most_carriers ≤ u) ⊎ (most_carriers ≤ v) → is_pair_in u v l ≡ false
unfolding is_pair_in
is_pair_in_big u v [] a h = refl
is_pair_in_big u v (x ∷ l) a h = rw (is_pair_in_big u v l a.1 h) (one h)
  where
    last : (b : Bool) → ((b && false) || false) ≡ false
    last true = refl
    last false = refl

    one : (most_carriers ≤ u) ⊎ (most_carriers ≤ v) → ((eqb u x.left && eqb v x.right) || false) ≡ false
    one (inl g) = rw (ne_eqb u x.left (λ (e : u ≡ x.left). omega (arith, a.0)))
    one (inr g) = rw (ne_eqb v x.right (λ (e : v ≡ x.right). omega (arith, a.0))) (last (eqb u x.left))

small_keys : (l : List Pair) → All CarrierPair l → All (λ y. key y < most_pairs) l
small_keys [] a = tt
small_keys (x ∷ l) a = (omega (arith, a.0), small_keys l a.1)

pairs_of : (t : RuleTables) (i : ℕ) (l : List Rule) → (put_all put_rule t i l).pairs ≡ put_all (λ (T : List ℕ) (q : ℕ) (x : Rule). mark_pairs T q x.pairs) t.pairs i l
unfolding put_all put_rule
pairs_of t i [] = refl
pairs_of t i (x ∷ l) = pairs_of (put_rule t i x) (suc i) l

module _ (t : RuleTables) (blank : t.pairs ≡ replicate (most_rules * most_pairs) 0) (rs : List Rule) (few : length rs ≤ most_rules) (small : All CarrierPairs rs) where
  abbrev allowed : List ℕ
  allowed = (mark_rules t rs).pairs

  pairs_small : (q : ℕ) → CarrierPairs (get_or rs q no_rule)
  pairs_small q = all_get_d CarrierPairs rs q no_rule small tt

  pub allowed_entry : (q u v : ℕ) → u < most_carriers → v < most_carriers → at allowed (q * most_pairs + (u * most_carriers + v)) ≡ bit (allowed_by rs q u v)
  allowed_entry q u v h g = rw (pairs_of t 0 rs, blank) (table_bit key (λ (x : Rule). x.pairs) no_rule refl most_pairs (λ i. i * most_pairs) (λ i. omega arith) (most_rules * most_pairs) rs (all_map CarrierPairs (λ (x : Rule). All (λ y. key y < most_pairs) x.pairs) (λ x. small_keys x.pairs) rs small) (omega arith) q (u * most_carriers + v) (omega arith) ∙ ap bit (is_pair_in_at u v (get_or rs q no_rule).pairs g (pairs_small q)))

  pub allows_is : is_allowed allowed ≡ allowed_by rs
  unfolding is_allowed
  allows_is = fun_ext (λ q. fun_ext (λ u. fun_ext (λ v. elim (dec_lt q most_rules) [
    | no f ↦ rw (le-ltb q most_rules (omega arith), get_or-eq_default rs no_rule {n = q} (omega arith)) (sym (is_pair_in_none u v))
    | yes f ↦ elim (dec_lt u most_carriers) [
      | no h ↦ rw (lt-ltb q most_rules f, le-ltb u most_carriers (omega arith)) (sym (is_pair_in_big u v (get_or rs q no_rule).pairs (pairs_small q) (inl (omega arith))))
      | yes h ↦ elim (dec_lt v most_carriers) [
        | no g ↦ rw (lt-ltb q most_rules f, lt-ltb u most_carriers h, le-ltb v most_carriers (omega arith)) (sym (is_pair_in_big u v (get_or rs q no_rule).pairs (pairs_small q) (inr (omega arith))))
        | yes g ↦ rw (lt-ltb q most_rules f, lt-ltb u most_carriers h, lt-ltb v most_carriers g) (ap (λ (w : ℕ). eqb w 1) (allowed_entry q u v h g) ∙ bit_one (allowed_by rs q u v))
      ]
    ]
  ])))

-- ---- what was read is small

pub lists_small : (k : ℕ) (s : List ℕ) (n p : ℕ) {ls : List (List ℕ)} {next : ℕ} → k ≤ most_carriers → many (riser k) n [] s p ≡ got ls next → All Carriers ls
unfolding riser carrier
lists_small k s n p {ls} {next} w e = many_all Carriers (riser k) s (λ done a x q f.
    let z = and_then_got (count 1 k s a) _ f in
    many_all (λ x. x < most_carriers) (carrier k) s (λ d b c r g. let t = checked_passed _ _ byte s b g in let h = ltb-true c k (and_right (after ltb d c) (ltb c k) t.0) in omega arith) z.0 [] z.1 x q tt z.3) n [] p ls next tt e

pub rules_small : (n : ℕ) (M : List ℕ) (s : List ℕ) (m p : ℕ) {rs : List Rule} {next : ℕ} → many (rule n (is_listed M)) m [] s p ≡ got rs next → All CarrierPairs rs
unfolding rule_that allowed_pair
rules_small n M s m p {rs} {next} e = many_all CarrierPairs (rule n (is_listed M)) s (λ done a x q f.
    let z = and_then_got (checked _ _ two s a) _ f in
    let y = and_then_got (count 0 most_pairs s z.1) _ z.3 in
    let w = and_then_got (many (allowed_pair (is_listed M z.0.left) (is_listed M z.0.right)) y.0 [] s y.1) _ y.3 in
    let read : Rule = record { risers = z.0; pairs = w.0 } in
    let i : read ≡ x = cc w.3 in
    subst CarrierPairs {x = read} i (many_all CarrierPair (allowed_pair (is_listed M z.0.left) (is_listed M z.0.right)) s (λ d b c r g.
    let t = and_left (is_listed M z.0.left c.left && is_listed M z.0.right c.right) (after before d c) (checked_passed _ _ two s b g).0 in
    (listed_small M z.0.left c.left (and_left (is_listed M z.0.left c.left) (is_listed M z.0.right c.right) t), listed_small M z.0.right c.right (and_right (is_listed M z.0.left c.left) (is_listed M z.0.right c.right) t))) y.0 [] y.1 w.0 w.1 tt w.2)) m [] p rs next tt e
