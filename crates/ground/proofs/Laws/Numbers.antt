-- A sheet is refused by a number from 1 to 9.
--
--   Low m   what the reading m refuses, it refuses by a number from 1 to 9
--
-- Assumes nothing.
use Rattle.std.specs.Prelude.{◌≡◌, Bool, true, false, cond, List, [], ◌∷◌, ◌++◌, ℕ, zero, suc, ◌+◌, ◌≤◌, ◌<◌, leb, eqb, length, take, drop}
use Rattle.std.proofs.Common.{subst, arith}
use Rattle.ground.specs.Meanings.Sheet.{Fault}
use Rattle.ground.specs.Meanings.Sheet.{sheet_ends, wrong_count, wrong_carrier, wrong_rule, wrong_pair, no_permutation, list_not_kept, rule_not_kept, bytes_follow, fault, Outcome, got, refused, Reading, and_then, field, checked, byte, two, many, count, carrier, riser, Rule, allowed_pair, rule_that, rule, swap, nothing_more, Sheet, job_sheet, is_listed_in, allowed_by, keeps_lists, keeps_rules, all_new, most_carriers, most_risers, most_rules, most_pairs, most_swaps, Refused}

abbrev LowOutcome : {A : Type 0} → Outcome A → Type 0
LowOutcome (got x p) = Unit
LowOutcome (refused f) = (0 < f.number) × (f.number ≤ 9)

abbrev Low : {A : Type 0} → Reading A → Type 0
Low m = (s : List ℕ) (p : ℕ) → LowOutcome (m s p)

low_then : {A B : Type 0} (o : Outcome A) (f : A → ℕ → Outcome B) → LowOutcome o → ((x : A) (n : ℕ) → LowOutcome (f x n)) → LowOutcome (and_then o f)
low_then (got x n) f l h = h x n
low_then (refused x) f l h = l

low_field : (w : ℕ) → Low (field w)
unfolding field
low_field w s p = go (leb (p + w) (length s))
  where
    go : (b : Bool) → LowOutcome (cond b (got (take w (drop p s)) (p + w)) (refused (fault sheet_ends p)))
    go true = tt
    go false = (omega arith, omega arith)

low_checked : {A : Type 0} (q : ℕ) → 0 < q → q ≤ 9 → (test : A → Bool) (m : Reading A) → Low m → Low (checked q test m)
unfolding checked
low_checked {A} q a b test m l s p = low_then (m s p) (λ x n. cond (test x) (got x n) (refused (fault q p))) (l s p) (λ x n. go x n (test x))
  where
    go : (x : A) (n : ℕ) (t : Bool) → LowOutcome (cond t (got x n) (refused (fault q p)))
    go x n true = tt
    go x n false = (a, b)

low_byte : Low byte
unfolding byte
low_byte s p = low_then (field 1 s p) _ (low_field 1 s p) (λ w n. tt)

low_two : Low two
unfolding two
low_two s p = low_then (field 2 s p) _ (low_field 2 s p) (λ w n. tt)

low_many : {A : Type 0} (one : List A → Reading A) → ((done : List A) → Low (one done)) → (n : ℕ) (done : List A) → Low (many one n done)
unfolding many
low_many one h zero done s p = tt
low_many one h (suc n) done s p = low_then (one done s p) _ (h done s p) (λ x next. low_many one h n (done ++ (x ∷ [])) s next)

low_count : (a b : ℕ) → Low (count a b)
unfolding count
low_count a b = low_checked wrong_count (omega arith) (omega arith) _ byte low_byte

low_riser : (k : ℕ) (done : List (List ℕ)) → Low (riser k done)
unfolding riser carrier
low_riser k done s p = low_then (count 1 k s p) _ (low_count 1 k s p) (λ d n. low_many (carrier k) (λ l. low_checked wrong_carrier (omega arith) (omega arith) _ byte low_byte) d [] s n)

low_rule : (n : ℕ) (listed : ℕ → ℕ → Bool) (done : List Rule) → Low (rule n listed done)
unfolding rule_that allowed_pair
low_rule n listed done s p =
    low_then (checked wrong_rule _ two s p) _ (low_checked wrong_rule (omega arith) (omega arith) _ two low_two s p)
    (λ ab a. low_then (count 0 most_pairs s a) _ (low_count 0 most_pairs s a)
    (λ m b. low_then (many (allowed_pair (listed ab.left) (listed ab.right)) m [] s b) _
    (low_many (allowed_pair (listed ab.left) (listed ab.right)) (λ l. low_checked wrong_pair (omega arith) (omega arith) _ two low_two) m [] s b) (λ ps e. tt)))

low_swap : (k n m : ℕ) (listed : ℕ → ℕ → Bool) (allows : ℕ → ℕ → ℕ → Bool) (done : List (List ℕ)) → Low (swap k n m listed allows done)
unfolding swap
low_swap k n m listed allows done =
    low_checked rule_not_kept (omega arith) (omega arith) (keeps_rules k m allows) _ (low_checked list_not_kept (omega arith) (omega arith) (keeps_lists k n listed) _ (low_checked no_permutation (omega arith) (omega arith) (all_new k []) (field k) (low_field k)))

low_end : Low nothing_more
unfolding nothing_more
low_end s p = go (eqb p (length s))
  where
    go : (b : Bool) → LowOutcome {A = Unit {0}} (cond b (got tt p) (refused (fault bytes_follow p)))
    go true = tt
    go false = (omega arith, omega arith)

low_sheet : Low job_sheet
unfolding job_sheet
low_sheet s p =
    low_then (count 1 most_carriers s p) _ (low_count 1 most_carriers s p)
    (λ k a. low_then (count 1 most_risers s a) _ (low_count 1 most_risers s a)
    (λ n b. low_then (many (riser k) n [] s b) _ (low_many (riser k) (low_riser k) n [] s b)
    (λ ls c. low_then (count 0 most_rules s c) _ (low_count 0 most_rules s c)
    (λ m d. low_then (many (rule n (is_listed_in ls)) m [] s d) _ (low_many (rule n (is_listed_in ls)) (low_rule n (is_listed_in ls)) m [] s d)
    (λ rs e. low_then (count 0 most_swaps s e) _ (low_count 0 most_swaps s e)
    (λ j f. low_then (many (swap k n m (is_listed_in ls) (allowed_by rs)) j [] s f) _ (low_many (swap k n m (is_listed_in ls) (allowed_by rs)) (low_swap k n m (is_listed_in ls) (allowed_by rs)) j [] s f)
    (λ gs g. low_then (nothing_more s g) _ (low_end s g) (λ x h. tt))))))))

pub refused_low : (s : List ℕ) (f : Fault) → Refused s f → (0 < f.number) × (f.number ≤ 9)
refused_low s f r = go (job_sheet s 0) r.read (low_sheet s 0)
  where
    go : (o : Outcome Sheet) → o ≡ refused f → LowOutcome o → (0 < f.number) × (f.number ≤ 9)
    go (got X p) e l = absurd (let z : ◌≡◌ {A = ℕ} 0 1 = cc in omega arith)
    go (refused g) e l = let x : g ≡ f = cc in subst (λ (h : Fault). (0 < h.number) × (h.number ≤ 9)) x l
