-- The rules' section: two risers, a pair, a rule's pairs, all rules.
--
--   Tests gives t         a closure, whose answers `gives` tells, tests a pair of two bytes as t does
--   Beyond least done     a pair whose right is below 15 comes after those of `done` exactly if its key is `least` or more
--   PairsSoFar ..         the loop over a rule's pairs
--   RulesSoFar ..         the loop over the rules
--   riser_pairs l          the two risers of each rule of l
--
-- Assumes nothing.
use Rattle.std.specs.Prelude.{◌≡◌, refl, Bool, true, false, ◌&&◌, ℕ, ◌+◌, ◌*◌, ◌<◌, ◌≤◌, Result, Ok, Err}
use Rattle.std.proofs.Common.{sym, ◌∙◌, subst, arith, Fits, w8}
use Rattle.std.proofs.Math.Path.{ap, ap₂, fun_ext}
use mathlib.Core.List.{List, [], ◌∷◌, ◌++◌, map}
use Rattle.std.proofs.Math.Decide.{dec_lt}
use Rattle.std.proofs.Math.Dec.{ltb, leb}
use Rattle.std.proofs.Math.ListN.{set, get_or, length}
use borrow.Author.Tests.{lt-ltb, le-ltb, le-leb, lt-leb, ltb-true, eq-eqb, ne_eqb}
use Rattle.ground.specs.Meanings.Sheet.{Fault, sheet_ends, wrong_rule, wrong_pair, fault, got, refused, and_then, checked, two, Pair, Rule, many, count, allowed_pair, rule_that, rule, after, before, most_carriers, most_risers, most_pairs}
use Rattle.ground.proofs.Laws.Reading.{two_in, two_out, and_then_got, checked_got, checked_bad, checked_refused, checked_same, checked_passed, and_left, and_right}
use Rattle.fields.specs.Tables.{is_listed, key, put_pair, mark_pairs, RuleTables, rule_tables, put_rule, mark_rules}
use Rattle.fields.specs.Least.{pair_from, both_listed, ordered, rule_from}
use Rattle.fields.specs.Answers.{Answers, pair, tell_number, tell_two, tell_rule, tell_section, answer_got, answer_refused, number_got, number_refused, two_got, two_refused, rule_got, rule_refused, section_got, section_refused}
use Rattle.fields.specs.Fillings.{Filling, filling_starts, filling_more, filling_refused, filling_ends}
use Rattle.fields.specs.Risers.{after_snoc, listed_small}

-- ---- two bytes that are a pair

-- a closure tests a pair of two bytes as t does
abbrev pub Tests : (ℕ → ℕ → Bool → Type 0) → (Pair → Bool) → Type 0
Tests gives t = (u v : ℕ) → u < 256 → v < 256 → (r : Bool) → gives u v r → r ≡ t (pair u v)

-- two bytes that are one field are bytes
pub two_small : (s : List ℕ) (p : ℕ) {u v next : ℕ} → ((i : ℕ) → Fits w8 (get_or s i 0)) → Ok (u, v, next) ≡ tell_two (two s p) → (u < 256) × (v < 256)
two_small s p {u} {v} {next} small e = elim (dec_lt (p + 1) (length s)) [
  | yes l ↦
      let h : got (pair u v) next ≡ got (pair (get_or s p 0) (get_or s (p + 1) 0)) (p + 2) = sym (two_got (two s p) e) ∙ two_in s p l in
      let k : pair u v ≡ pair (get_or s p 0) (get_or s (p + 1) 0) = cc in
      (rw (ap (λ (x : Pair). x.left) k) (let f = small p in omega arith), rw (ap (λ (x : Pair). x.right) k) (let f = small (p + 1) in omega arith))
  | no f ↦
      let h : got (pair u v) next ≡ refused (fault sheet_ends p) = sym (two_got (two s p) e) ∙ two_out s p (omega arith) in
      absurd (cc)
]

module _ (q : ℕ) (test : Pair → Bool) (least : ℕ) (s : List ℕ) (p : ℕ) where
  pub pair_short : {f : Fault} → Err f ≡ tell_two (two s p) → Err f ≡ tell_two (pair_from q test least s p)
  unfolding pair_from
  pair_short e = ap tell_two (sym (checked_refused q _ two s p (two_refused (two s p) e)))

  module _ {u v next : ℕ} (e : Ok (u, v, next) ≡ tell_two (two s p)) where
    pub pair_fails : {f : Fault} → test (pair u v) ≡ false → f ≡ fault q p → Err f ≡ tell_two (pair_from q test least s p)
    unfolding pair_from
    pair_fails h g = ap Err g ∙ ap tell_two (sym (checked_bad q _ two s p (two_got (two s p) e) (rw h)))

    pub pair_early : {f : Fault} → test (pair u v) ≡ true → key (pair u v) < least → f ≡ fault q p → Err f ≡ tell_two (pair_from q test least s p)
    unfolding pair_from
    pair_early h g f = ap Err f ∙ ap tell_two (sym (checked_bad q _ two s p (two_got (two s p) e) (rw (h, lt-leb _ _ g))))

    pub pair_is : test (pair u v) ≡ true → least ≤ key (pair u v) → Ok (u, v, next) ≡ tell_two (pair_from q test least s p)
    unfolding pair_from
    pair_is h g = ap tell_two (sym (checked_got q _ two s p (two_got (two s p) e) (rw (h, le-leb _ _ g))))

  pub pair_passed : {u v next : ℕ} → Ok (u, v, next) ≡ tell_two (pair_from q test least s p) → test (pair u v) ≡ true
  unfolding pair_from
  pair_passed {u} {v} e = and_left (test (pair u v)) (leb least (key (pair u v))) (checked_passed q (λ x. test x && leb least (key x)) two s p (two_got (pair_from q test least s p) e)).0

-- ---- what the tests of a pair say

module _ (M : List ℕ) (a b u v : ℕ) where
  pub both_left : both_listed M a b (pair u v) ≡ true → u < most_carriers
  unfolding both_listed
  both_left e = listed_small M a u (and_left (is_listed M a u) (is_listed M b v) e)

  pub both_right : both_listed M a b (pair u v) ≡ true → v < most_carriers
  unfolding both_listed
  both_right e = listed_small M b v (and_right (is_listed M a u) (is_listed M b v) e)

-- a pair that is read for the risers a and b has two carriers
pub pair_small : (M : List ℕ) (a b least : ℕ) (s : List ℕ) (p : ℕ) {u v next : ℕ} → Ok (u, v, next) ≡ tell_two (pair_from wrong_pair (both_listed M a b) least s p) → (u < most_carriers) × (v < most_carriers)
pair_small M a b least s p {u} {v} e = let t = pair_passed wrong_pair (both_listed M a b) least s p e in (both_left M a b u v t, both_right M a b u v t)

module _ (n u v : ℕ) where
  pub ordered_left : ordered n (pair u v) ≡ true → u < v
  unfolding ordered
  ordered_left e = ltb-true u v (and_left (ltb u v) (ltb v n) e)

  pub ordered_right : ordered n (pair u v) ≡ true → v < n
  unfolding ordered
  ordered_right e = ltb-true v n (and_right (ltb u v) (ltb v n) e)

pub risers_ordered : (n least : ℕ) (s : List ℕ) (p : ℕ) {a b next : ℕ} → Ok (a, b, next) ≡ tell_two (pair_from wrong_rule (ordered n) least s p) → (a < b) × (b < n)
risers_ordered n least s p {a} {b} e = let t = pair_passed wrong_rule (ordered n) least s p e in (ordered_left n a b t, ordered_right n a b t)

-- ---- the order of pairs is that of their keys

unfoldable pub Beyond : ℕ → List Pair → Type 0
Beyond least done = (x : Pair) → x.right < most_carriers → after before done x ≡ leb least (key x)

before_key : (y x : Pair) → y.right < most_carriers → x.right < most_carriers → before y x ≡ leb (key y + 1) (key x)
before_key y x h g = elim (dec_lt y.left x.left) [
  | yes l ↦ rw (lt-ltb _ _ l) (sym (le-leb (key y + 1) (key x) (omega arith)))
  | no f ↦ rw (le-ltb y.left x.left (omega arith)) (elim (dec_lt x.left y.left) [
    | yes m ↦ rw (ne_eqb y.left x.left (λ (e : y.left ≡ x.left). omega arith)) (sym (lt-leb (key y + 1) (key x) (omega arith)))
    | no n ↦ rw (eq-eqb y.left x.left (omega arith)) (elim (dec_lt y.right x.right) [
      | yes k ↦ rw (lt-ltb _ _ k) (sym (le-leb (key y + 1) (key x) (omega arith)))
      | no j ↦ rw (le-ltb y.right x.right (omega arith)) (sym (lt-leb (key y + 1) (key x) (omega arith)))
    ])
  ])
]

pub beyond_none : Beyond 0 []
unfolding Beyond after
beyond_none x h = sym (le-leb 0 (key x) (omega arith))

pub beyond_more : (done : List Pair) (y : Pair) → y.right < most_carriers → Beyond (key y + 1) (done ++ (y ∷ []))
unfolding Beyond
beyond_more done y h x g = after_snoc before done y x ∙ before_key y x h g

-- two tests that agree where a first one holds
same_test : (t f g : Bool) → (t ≡ true → f ≡ g) → (t && f) ≡ (t && g)
same_test true f g h = h refl
same_test false f g h = refl

-- ---- a rule's pairs

pub record PairsSoFar (s : List ℕ) (from a b m q : ℕ) (M T₀ T : List ℕ) (p least i : ℕ) : Type 0 where
  pub done : List Pair
  pub filling : Filling (allowed_pair (is_listed M a) (is_listed M b)) (put_pair q) m s from T₀ T p i done
  pub lower : Beyond least done

allowed_is : (M : List ℕ) (a b : ℕ) (done : List Pair) (s : List ℕ) (p least : ℕ) → Beyond least done → allowed_pair (is_listed M a) (is_listed M b) done s p ≡ pair_from wrong_pair (both_listed M a b) least s p
unfolding pair_from both_listed allowed_pair Beyond
allowed_is M a b done s p least h = checked_same wrong_pair _ _ two s p (λ x. same_test (both_listed M a b x) (after before done x) (leb least (key x)) (λ (e : both_listed M a b x ≡ true). h x (both_right M a b x.left x.right e)))

module _ (s : List ℕ) (from a b m q : ℕ) (M T₀ : List ℕ) where
  pub pairs_start : PairsSoFar s from a b m q M T₀ T₀ from 0 0
  pairs_start = record { done = []; filling = filling_starts (allowed_pair (is_listed M a) (is_listed M b)) (put_pair q) m s from T₀; lower = beyond_none }

  module _ (T : List ℕ) (p least i : ℕ) (w : PairsSoFar s from a b m q M T₀ T p least i) where
    pub pairs_more : {u v next : ℕ} → i < m → Ok (u, v, next) ≡ tell_two (pair_from wrong_pair (both_listed M a b) least s p) → PairsSoFar s from a b m q M T₀ (set T (q * most_pairs + (u * most_carriers + v)) 1) next (u * most_carriers + v + 1) (i + 1)
    pairs_more {u} {v} {next} l e = record {
      done = w.done ++ (pair u v ∷ []);
      filling = filling_more (allowed_pair (is_listed M a) (is_listed M b)) (put_pair q) m s from T₀ w.filling l (allowed_is M a b w.done s p least w.lower ∙ two_got (pair_from wrong_pair (both_listed M a b) least s p) e);
      lower = beyond_more w.done (pair u v) (both_right M a b u v (pair_passed wrong_pair (both_listed M a b) least s p e));
    }

    pub pairs_refused : {f : Fault} {P : List Pair → Type 0} → i < m → Err f ≡ tell_two (pair_from wrong_pair (both_listed M a b) least s p) → Answers tell_section (many (allowed_pair (is_listed M a) (is_listed M b)) m [] s from) (Err f) P
    pairs_refused l e = filling_refused (allowed_pair (is_listed M a) (is_listed M b)) (put_pair q) m s from T₀ w.filling l (allowed_is M a b w.done s p least w.lower ∙ two_refused (pair_from wrong_pair (both_listed M a b) least s p) e)

    pub pairs_end : m ≤ i → Answers tell_section (many (allowed_pair (is_listed M a) (is_listed M b)) m [] s from) (Ok p) (λ (l : List Pair). T ≡ mark_pairs T₀ q l)
    pairs_end l = filling_ends (allowed_pair (is_listed M a) (is_listed M b)) (put_pair q) m s from T₀ w.filling l

-- ---- a rule

module _ (n : ℕ) (M : List ℕ) (least : ℕ) (s : List ℕ) (p q : ℕ) (T E T' E' : List ℕ) where
  abbrev Entered : Rule → Type 0
  Entered x = rule_tables T' E' ≡ put_rule (rule_tables T E) q x

  pub rule_no_risers : {f : Fault} → Err f ≡ tell_two (pair_from wrong_rule (ordered n) least s p) → Answers tell_rule (rule_from n (is_listed M) least s p) (Err f) Entered
  unfolding pair_from ordered rule_that
  rule_no_risers e = answer_refused tell_rule (rw (two_refused (pair_from wrong_rule (ordered n) least s p) e))

  module _ {a b second : ℕ} (e : Ok (a, b, second) ≡ tell_two (pair_from wrong_rule (ordered n) least s p)) where
    pub rule_no_count : {f : Fault} → Err f ≡ tell_number (count 0 most_pairs s second) → Answers tell_rule (rule_from n (is_listed M) least s p) (Err f) Entered
    unfolding pair_from ordered rule_that
    rule_no_count f = answer_refused tell_rule (rw (two_got (pair_from wrong_rule (ordered n) least s p) e, number_refused (count 0 most_pairs s second) f))

    module _ {m third : ℕ} (f : Ok (m, third) ≡ tell_number (count 0 most_pairs s second)) {r : Result ℕ Fault} (g : Answers tell_section (many (allowed_pair (is_listed M a) (is_listed M b)) m [] s third) r (λ (l : List Pair). T' ≡ mark_pairs T q l)) where
      pub rule_no_pairs : {f : Fault} → r ≡ Err f → Answers tell_rule (rule_from n (is_listed M) least s p) (Err f) Entered
      unfolding pair_from ordered rule_that
      rule_no_pairs h = answer_refused tell_rule (rw (two_got (pair_from wrong_rule (ordered n) least s p) e, number_got (count 0 most_pairs s second) f, section_refused g h))

      pub rule_is : {next : ℕ} → r ≡ Ok next → E' ≡ set E (b * most_risers + a) (q + 1) → Answers tell_rule (rule_from n (is_listed M) least s p) (Ok (a, b, next)) Entered
      unfolding put_rule pair_from ordered rule_that
      rule_is {next} h k = let z = section_got g h in made e f z.0 z.1 z.2 k
        where
          made : {a b second m third next : ℕ} → Ok (a, b, second) ≡ tell_two (pair_from wrong_rule (ordered n) least s p) → Ok (m, third) ≡ tell_number (count 0 most_pairs s second) → (l : List Pair)
              → many (allowed_pair (is_listed M a) (is_listed M b)) m [] s third ≡ got l next → T' ≡ mark_pairs T q l → E' ≡ set E (b * most_risers + a) (q + 1) → Answers tell_rule (rule_from n (is_listed M) least s p) (Ok (a, b, next)) Entered
          made {a} {b} {second} {m} {third} {next} e f l y t k = answer_got tell_rule {x = record { risers = pair a b; pairs = l }} (rw (two_got (pair_from wrong_rule (ordered n) least s p) e, number_got (count 0 most_pairs s second) f, y)) (ap₂ rule_tables t k)

-- the rule got has its risers in order
pub rule_ordered : (n : ℕ) (M : List ℕ) (least : ℕ) (s : List ℕ) (p : ℕ) {P : Rule → Type 0} {r : Result (ℕ × ℕ × ℕ) Fault} {u v next : ℕ} → Answers tell_rule (rule_from n (is_listed M) least s p) r P → r ≡ Ok (u, v, next) → (u < v) × (v < n)
unfolding pair_from ordered rule_that
rule_ordered n M least s p {P} {r} {u} {v} {next} a e =
    let z = rule_got a e in
    let y = and_then_got (pair_from wrong_rule (ordered n) least s p) _ z.1 in
    let x = and_then_got (count 0 most_pairs s y.1) _ y.3 in
    let w = and_then_got (many (allowed_pair (is_listed M y.0.left) (is_listed M y.0.right)) x.0 [] s x.1) _ x.3 in
    let same : ◌≡◌ {A = Rule} (record { risers = y.0; pairs = w.0 }) z.0 = cc w.3 in
    let t = moved y.0 (ap (λ (r : Rule). r.risers) same ∙ z.3) (and_left (ordered n y.0) (leb least (key y.0)) (checked_passed wrong_rule (λ x. ordered n x && leb least (key x)) two s p y.2).0) in
    (ordered_left n u v t, ordered_right n u v t)
  where
    moved : (x : Pair) → x ≡ pair u v → ordered n x ≡ true → ordered n (pair u v) ≡ true
    moved x e t = rw e at t

-- ---- all rules

abbrev pub riser_pairs : List Rule → List Pair
riser_pairs l = map (λ (x : Rule). x.risers) l

pub risers_snoc : (l : List Rule) (x : Rule) → riser_pairs (l ++ (x ∷ [])) ≡ riser_pairs l ++ (x.risers ∷ [])
risers_snoc [] x = refl
risers_snoc (y ∷ l) x = ap (λ (r : List Pair). y.risers ∷ r) (risers_snoc l x)

rule_from_read : (n : ℕ) (M : List ℕ) (done : List Rule) (least : ℕ) (s : List ℕ) (p : ℕ) → n ≤ most_risers → Beyond least (riser_pairs done) → rule n (is_listed M) done s p ≡ rule_from n (is_listed M) least s p
unfolding ordered rule_that Beyond
rule_from_read n M done least s p w h =
    ap (λ (t : Pair → Bool). and_then (checked wrong_rule t two s p) (λ ab p'. and_then (count 0 most_pairs s p') (λ m p''. and_then (many (allowed_pair (is_listed M ab.left) (is_listed M ab.right)) m [] s p'') (λ ps next. got (record { risers = ab; pairs = ps }) next))))
    (fun_ext (λ x. same_test (ordered n x) (after before (riser_pairs done) x) (leb least (key x)) (λ (e : ordered n x ≡ true). h x (let k = ordered_right n x.left x.right e in omega arith))))

pub record RulesSoFar (s : List ℕ) (from n m : ℕ) (M T₀ E₀ T E : List ℕ) (p least i : ℕ) : Type 0 where
  pub done : List Rule
  pub filling : Filling (rule n (is_listed M)) put_rule m s from (rule_tables T₀ E₀) (rule_tables T E) p i done
  pub lower : Beyond least (riser_pairs done)

module _ (s : List ℕ) (from n m : ℕ) (M T₀ E₀ : List ℕ) where
  pub rules_start : RulesSoFar s from n m M T₀ E₀ T₀ E₀ from 0 0
  rules_start = record { done = []; filling = filling_starts (rule n (is_listed M)) put_rule m s from (rule_tables T₀ E₀); lower = beyond_none }

  module _ (T E : List ℕ) (p least i : ℕ) (w : RulesSoFar s from n m M T₀ E₀ T E p least i) (small : n ≤ most_risers) (l : i < m) {T' E' : List ℕ} {r : Result (ℕ × ℕ × ℕ) Fault} (a : Answers tell_rule (rule_from n (is_listed M) least s p) r (λ (x : Rule). rule_tables T' E' ≡ put_rule (rule_tables T E) i x)) where
    pub rules_more : {u v next : ℕ} → r ≡ Ok (u, v, next) → RulesSoFar s from n m M T₀ E₀ T' E' next (u * most_carriers + v + 1) (i + 1)
    rules_more {u} {v} {next} e =
        let z = rule_got a e in
        let o = rule_ordered n M least s p a e in
        record {
          done = w.done ++ (z.0 ∷ []);
          filling = subst (λ (X : RuleTables). Filling (rule n (is_listed M)) put_rule m s from (rule_tables T₀ E₀) X next (i + 1) (w.done ++ (z.0 ∷ []))) (sym z.2) (filling_more (rule n (is_listed M)) put_rule m s from (rule_tables T₀ E₀) w.filling l (rule_from_read n M w.done least s p small w.lower ∙ z.1));
          lower = rw (risers_snoc w.done z.0, z.3) (beyond_more (riser_pairs w.done) (pair u v) (omega arith));
        }

    pub rules_refused : {f : Fault} {P : List Rule → Type 0} → r ≡ Err f → Answers tell_section (many (rule n (is_listed M)) m [] s from) (Err f) P
    rules_refused e = filling_refused (rule n (is_listed M)) put_rule m s from (rule_tables T₀ E₀) w.filling l (rule_from_read n M w.done least s p small w.lower ∙ rule_refused a e)

  pub rules_end : (T E : List ℕ) (p least i : ℕ) → RulesSoFar s from n m M T₀ E₀ T E p least i → m ≤ i → Answers tell_section (many (rule n (is_listed M)) m [] s from) (Ok p) (λ (l : List Rule). rule_tables T E ≡ mark_rules (rule_tables T₀ E₀) l)
  rules_end T E p least i w h = filling_ends (rule n (is_listed M)) put_rule m s from (rule_tables T₀ E₀) w.filling h
