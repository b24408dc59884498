-- No sheet reaches further than `longest` bytes (specs/Laws/Longest.antt).
--
-- Every section looks as far as its limits let it; together they look at `longest` bytes, and at one more to see that none follows
-- (`sheet_looks`). So the first `longest` + 1 bytes decide every sheet (`first_bytes`), and no accepted sheet is longer than
-- `longest` (`accepted_longest`).
-- Assumes nothing.
use Rattle.std.specs.Prelude.{◌≡◌, Bool, List, [], ◌∷◌, ◌++◌, ℕ, ◌+◌, ◌*◌, ◌≤◌, ◌<◌, leb, length, take}
use Rattle.std.proofs.Common.{sym, ap, ◌∙◌, mul-le-mul_right, arith, leb-true, length-append}
use Rattle.std.proofs.Math.Decide.{dec_lt}
use Rattle.std.proofs.lemmas.List.{take-append-le}
use Rattle.ground.specs.Meanings.Sheet.{Reading, ◌>>=◌, many, count, byte, two, checked, carrier, riser, Pair, Rule, allowed_pair, rule_that, rule, swap, field, nothing_more, Sheet, job_sheet, is_listed_in, allowed_by, Accepted, most_carriers, most_risers, most_rules, most_pairs, most_swaps}
use Rattle.ground.proofs.Laws.Reading.{and_right}
use Rattle.ground.proofs.Laws.Spelling.{spelling_same}
use Rattle.ground.specs.Laws.Valid.{Gives}
use Rattle.ground.proofs.Laws.Valid.{count_gives}
use Rattle.ground.specs.Laws.Looks.{Looks}
use Rattle.ground.proofs.Laws.Looks.{looks_within, field_looks, checked_looks, then_looks, many_looks, made_looks, byte_looks, two_looks, more_looks}
use Rattle.ground.specs.Laws.Longest.{longest}

-- ---- counts, and the items that they count

count_few : (least most : ℕ) → Gives (count least most) (λ c. c ≤ most)
count_few least most s at c p e = leb-true c most (and_right (leb least c) (leb c most) (count_gives least most s at c p e).1)

count_then : {B : Type 0} (least most : ℕ) (f : ℕ → Reading B) {b : ℕ} → ((c : ℕ) → c ≤ most → Looks (f c) b) → Looks (count least most >>= f) (1 + b)
unfolding count
count_then least most f F = then_looks (count least most) f (λ c. c ≤ most) (checked_looks _ _ byte byte_looks) (count_few least most) F

-- at most so many items
items_look : {A : Type 0} (one : List A → Reading A) (b most c : ℕ) → c ≤ most → ((done : List A) → Looks (one done) b) → Looks (many one c []) (most * b)
items_look one b most c h L = looks_within (most * b) (mul-le-mul_right b h) (many_looks one b L c [])

items_then : {A B : Type 0} (one : List A → Reading A) (f : List A → Reading B) (b most c : ℕ) {d : ℕ} → c ≤ most → ((done : List A) → Looks (one done) b) → ((l : List A) → Looks (f l) d)
    → Looks (many one c [] >>= f) (most * b + d)
items_then one f b most c h L F = then_looks (many one c []) f (λ l. Unit) (items_look one b most c h L) (λ s at l p e. tt) (λ l u. F l)

-- ---- the sections

carrier_looks : (k : ℕ) (done : List ℕ) → Looks (carrier k done) 1
unfolding carrier
carrier_looks k done = checked_looks _ _ byte byte_looks

riser_looks : (k : ℕ) → k ≤ most_carriers → (done : List (List ℕ)) → Looks (riser k done) (1 + most_carriers)
unfolding riser
riser_looks k h done = count_then 1 k _ (λ d l. items_look (carrier k) 1 most_carriers d (omega arith) (carrier_looks k))

pair_looks : (inLeft inRight : ℕ → Bool) (done : List Pair) → Looks (allowed_pair inLeft inRight done) 2
unfolding allowed_pair
pair_looks inLeft inRight done = checked_looks _ _ two two_looks

rule_looks : (n : ℕ) (listed : ℕ → ℕ → Bool) (done : List Rule) → Looks (rule n listed done) (3 + most_pairs * 2)
unfolding rule_that
rule_looks n listed done =
    then_looks (checked _ _ two) _ (λ ab. Unit) (checked_looks _ _ two two_looks) (λ s at x p e. tt)
    (λ ab u. count_then 0 most_pairs _
    (λ m l. made_looks (many (allowed_pair (listed ab.left) (listed ab.right)) m []) _
    (items_look (allowed_pair (listed ab.left) (listed ab.right)) 2 most_pairs m l (pair_looks (listed ab.left) (listed ab.right)))))

swap_looks : (k n m : ℕ) (listed : ℕ → ℕ → Bool) (allows : ℕ → ℕ → ℕ → Bool) → k ≤ most_carriers → (done : List (List ℕ)) → Looks (swap k n m listed allows done) most_carriers
unfolding swap
swap_looks k n m listed allows h done = looks_within most_carriers h (checked_looks _ _ _ (checked_looks _ _ _ (checked_looks _ _ (field k) (field_looks k))))

-- ---- the sheet

pub sheet_looks : Looks job_sheet (longest + 1)
unfolding job_sheet
sheet_looks =
    looks_within (longest + 1) (omega arith)
    (count_then 1 most_carriers _
    (λ k hk. count_then 1 most_risers _
    (λ n hn. items_then (riser k) _ (1 + most_carriers) most_risers n hn (riser_looks k hk)
    (λ ls. count_then 0 most_rules _
    (λ m hm. items_then (rule n (is_listed_in ls)) _ (3 + most_pairs * 2) most_rules m hm (rule_looks n (is_listed_in ls))
    (λ rs. count_then 0 most_swaps _
    (λ c hc. items_then (swap k n m (is_listed_in ls) (allowed_by rs)) _ most_carriers most_swaps c hc (swap_looks k n m (is_listed_in ls) (allowed_by rs) hk)
    (λ gs. made_looks nothing_more _ more_looks))))))))

-- the first bytes, one more than the longest sheet has, decide every sheet
pub first_bytes : (s : List ℕ) → job_sheet (take (longest + 1) s) 0 ≡ job_sheet s 0
first_bytes s = sheet_looks.cut s 0 (longest + 1) (omega arith)

-- no accepted sheet is longer: a byte after it would not matter, and would be a second spelling
pub accepted_longest : (s : List ℕ) (X : Sheet) → Accepted s X → length s ≤ longest
accepted_longest s X a = elim (dec_lt longest (length s)) [ yes h ↦ absurd (clash h) | no h ↦ omega arith ]
  where
    clash : longest < length s → ⊥
    clash h =
        let t = s ++ (0 ∷ []) in
        let e = take-append-le (longest + 1) s (0 ∷ []) (omega arith) in
        let r = sym (first_bytes t) ∙ ap (λ (l : List ℕ). job_sheet l 0) e ∙ first_bytes s ∙ a.read in
        let q = ap (λ (l : List ℕ). length l) (spelling_same t s X a.end a.end r a.read) in
        omega (arith, length-append s (0 ∷ []))
