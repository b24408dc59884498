-- Masks: a set of carriers as the bits of one number, carrier c at the digit worth 2 ^ c.
--
--   Has m c                 carrier c is in the mask m
--   Both a b r              r has the carriers that are in a and in b
--   With m c r              r has the carriers of m, and c
--   LeastIn m c             c is the least carrier of m, and below 16
--   Rest m r                r has the carriers of m after the least one
--   NextCarrier m c r       the next carrier c of m, if there is one, is the least, and r has those after it
--   Marked l from k r       r has the carriers below k whose entry in l, from the place `from` on, is not 0
--
-- What two masks share, what either has and what one carrier makes are told by `has_and`, `has_or` and `has_one`. A mask of w
-- bits has carriers below w alone (`has_below`) and is settled by them (`mask_same`, `none_empty`). Each carrier of a mask is the
-- least or after it (`rest_or_least`). Each function has the law that its promise is read from.
-- Assumes nothing.
use Rattle.std.specs.Prelude.{◌≡◌, refl, ◌⊎◌, ◌↔◌, List, ℕ, zero, suc, ◌+◌, ◌-◌, ◌*◌, ◌/◌, ◌%◌, ◌^◌, ◌≤◌, ◌<◌, min, max, eqb, Option, MatchOption}
use Rattle.std.proofs.Common.{sym, ap, ◌∙◌, inl, inr, div-one, mod-eq_of_lt, one-mul, pow-suc, one-add, arith, eqb-true, pow_mono, shr-shr}
use Rattle.std.proofs.Math.Nat.{min-le_left, min-le_right, le-max_left, le-max_right, max-le, max-add-min, div-eq_of_lt}
use Rattle.std.proofs.Math.Decide.{ℕ_discrete, dec_lt}
use Rattle.std.proofs.lemmas.Bool.{eqb-false}
use Rattle.std.proofs.Math.Arith.{digits_mod}
use Rattle.std.proofs.Math.Pow.{pow-lt}
use Rattle.std.specs.Int.Bits.{bit_and, bit_or, and_step, and_self, or_step}
use Rattle.std.proofs.lemmas.Nat.{and_shr, and_le_r, or_shr}
use Rattle.std.specs.Int.Count.{count_trailing_zeros, under}
use Rattle.ground.specs.Meanings.Group.{at}
use Rattle.ground.specs.Laws.Telling.{Tells}

pub record Has (m c : ℕ) : Type 0 where
  pub bit : m / 2 ^ c % 2 ≡ 1

-- ---- what the functions promise

pub record Both (a b r : ℕ) : Type 0 where
  pub shared : (c : ℕ) → Has r c → Has a c × Has b c
  pub all : (c : ℕ) → Has a c → Has b c → Has r c

pub record With (m c r : ℕ) : Type 0 where
  pub only : (i : ℕ) → Has r i → Has m i ⊎ (i ≡ c)
  pub kept : (i : ℕ) → Has m i → Has r i
  pub added : Has r c

pub record LeastIn (m c : ℕ) : Type 0 where
  pub below : c < 16
  pub has : Has m c
  pub none : (i : ℕ) → i < c → ¬ Has m i

pub record Rest (m r : ℕ) : Type 0 where
  pub only : (i : ℕ) → Has r i → Has m i
  pub after : (i : ℕ) → Has r i → (c : ℕ) → LeastIn m c → c < i
  pub all : (i c : ℕ) → LeastIn m c → Has m i → c < i → Has r i
  pub less : r < m

abbrev pub NextCarrier : ℕ → Option ℕ → ℕ → Type 0
NextCarrier m c r = MatchOption c ((m ≡ 0) × (r ≡ 0)) (λ c. LeastIn m c × Rest m r)

pub record Marked (l : List ℕ) (from k r : ℕ) : Type 0 where
  pub only : (c : ℕ) → Has r c → (c < k) × ¬ (at l (from + c) ≡ 0)
  pub all : (c : ℕ) → c < k → ¬ (at l (from + c) ≡ 0) → Has r c

-- ---- the lowest digit, and the digits above it

-- the digit of m that says whether c is in
abbrev digit : ℕ → ℕ → ℕ
digit m c = m / 2 ^ c % 2

digit_low : (m : ℕ) → digit m 0 ≡ m % 2
digit_low m = ap (λ (x : ℕ). x % 2) (div-one m)

digit_high : (m c : ℕ) → digit m (suc c) ≡ digit (m / 2) c
digit_high m c = ap (λ (x : ℕ). x % 2) (ap (λ (x : ℕ). m / 2 ^ x) (sym (one-add c)) ∙ sym (shr-shr m 1 c))

pub has_low : (m : ℕ) → Has m 0 ↔ (m % 2 ≡ 1)
has_low m = (λ h. sym (digit_low m) ∙ h.bit, λ e. record { bit = digit_low m ∙ e })

pub has_high : (m c : ℕ) → Has m (suc c) ↔ Has (m / 2) c
has_high m c = (λ h. record { bit = sym (digit_high m c) ∙ h.bit }, λ h. record { bit = digit_high m c ∙ h.bit })

-- ---- of any mask

pub has_dec : (m c : ℕ) → Has m c ⊎ ¬ Has m c
has_dec m c = elim (ℕ_discrete (digit m c) 1) [ yes e ↦ inl (record { bit = e }) | no f ↦ inr (λ h. f h.bit) ]

pub has_below : (w : ℕ) {m c : ℕ} → m < 2 ^ w → Has m c → c < w
has_below w {m} {c} l h = elim (dec_lt c w) [ yes b ↦ b | no f ↦ absurd (beyond (omega arith)) ]
  where
    beyond : w ≤ c → ⊥
    beyond b =
        let none : m / 2 ^ c ≡ 0 = div-eq_of_lt (omega (arith, pow_mono b)) in
        omega (arith, h.bit)

pub has_none : (c : ℕ) → ¬ Has 0 c
has_none c h = omega (arith, has_below 0 (let l : 0 < 2 ^ 0 = omega arith in l) h)

pub has_some : {m c : ℕ} → Has m c → 0 < m
has_some {m} {c} h = elim (dec_lt 0 m) [ yes l ↦ l | no f ↦ absurd (has_none c (rw (let e : m ≡ 0 = omega arith in e) at h)) ]

low_same : (a b : ℕ) → (Has a 0 → Has b 0) → (Has b 0 → Has a 0) → a % 2 ≡ b % 2
low_same a b f g = go (ℕ_discrete (a % 2) 1) (ℕ_discrete (b % 2) 1)
  where
    go : Dec (a % 2 ≡ 1) → Dec (b % 2 ≡ 1) → a % 2 ≡ b % 2
    go (yes e) d = omega (arith, (has_low b).0 (f ((has_low a).1 e)))
    go (no n) (yes e) = omega (arith, (has_low a).0 (g ((has_low b).1 e)))
    go (no n) (no o) = omega arith

-- carriers of a are carriers of b, and so it is above the lowest
high_sub : (a b : ℕ) → ((c : ℕ) → Has a c → Has b c) → (c : ℕ) → Has (a / 2) c → Has (b / 2) c
high_sub a b f c h = (has_high b c).0 (f (suc c) ((has_high a c).1 h))

pub mask_same : (w a b : ℕ) → a < 2 ^ w → b < 2 ^ w → ((c : ℕ) → Has a c → Has b c) → ((c : ℕ) → Has b c → Has a c) → a ≡ b
mask_same zero a b la lb f g = omega arith
mask_same (suc w) a b la lb f g =
    let high = mask_same w (a / 2) (b / 2) (omega (arith, pow-suc 2 w)) (omega (arith, pow-suc 2 w)) (high_sub a b f) (high_sub b a g) in
    omega (arith, low_same a b (f 0) (g 0))

pub none_empty : (w m : ℕ) → m < 2 ^ w → ((c : ℕ) → ¬ Has m c) → m ≡ 0
none_empty w m l f = mask_same w m 0 l (omega arith) (λ c h. absurd (f c h)) (λ c h. absurd (has_none c h))

-- ---- both, either, one

digit_and : (a b c : ℕ) → digit (bit_and a b) c ≡ min (digit a c) (digit b c)
digit_and a b c = ap (λ (x : ℕ). x % 2) (and_shr a b c ∙ and_step (a / 2 ^ c) (b / 2 ^ c)) ∙ digits_mod _ (omega (arith, min-le_left (digit a c) (digit b c)))

pub has_and : (a b c : ℕ) → Has (bit_and a b) c ↔ (Has a c × Has b c)
has_and a b c = (λ h. there (sym (digit_and a b c) ∙ h.bit), λ h. record { bit = digit_and a b c ∙ rw (h.0.bit, h.1.bit) })
  where
    there : min (digit a c) (digit b c) ≡ 1 → Has a c × Has b c
    there e = (
      record { bit = omega (arith, min-le_left (digit a c) (digit b c)) },
      record { bit = omega (arith, min-le_right (digit a c) (digit b c)) },
    )

either_le : (a b c : ℕ) → max (digit a c) (digit b c) ≤ 1
either_le a b c = max-le (omega arith) (omega arith)

digit_or : (a b c : ℕ) → digit (bit_or a b) c ≡ max (digit a c) (digit b c)
digit_or a b c = ap (λ (x : ℕ). x % 2) (or_shr a b c ∙ or_step (a / 2 ^ c) (b / 2 ^ c)) ∙ digits_mod _ (omega (arith, either_le a b c))

pub has_or : (a b c : ℕ) → Has (bit_or a b) c ↔ (Has a c ⊎ Has b c)
has_or a b c = (λ h. there (has_dec a c) (sym (digit_or a b c) ∙ h.bit), λ h. record { bit = digit_or a b c ∙ back h })
  where
    there : Has a c ⊎ ¬ Has a c → max (digit a c) (digit b c) ≡ 1 → Has a c ⊎ Has b c
    there (inl h) e = inl h
    there (inr f) e =
        let f : ¬ (digit a c ≡ 1) = λ e. f (record { bit = e }) in
        inr (record { bit = omega (arith, max-add-min (digit a c) (digit b c), min-le_left (digit a c) (digit b c)) })

    back : Has a c ⊎ Has b c → max (digit a c) (digit b c) ≡ 1
    back (inl h) = omega (arith, either_le a b c, le-max_left (digit a c) (digit b c))
    back (inr h) = omega (arith, either_le a b c, le-max_right (digit a c) (digit b c))

pub has_one : (c i : ℕ) → Has (2 ^ c) i ↔ (i ≡ c)
has_one c i = (there c i, λ e. rw e (itself c))
  where
    even : (c : ℕ) → 2 ^ suc c % 2 ≡ 0
    even c = omega (arith, pow-suc 2 c)

    half : (c : ℕ) → 2 ^ suc c / 2 ≡ 2 ^ c
    half c = omega (arith, pow-suc 2 c)

    there : (c i : ℕ) → Has (2 ^ c) i → i ≡ c
    there zero zero h = refl
    there (suc c) zero h = absurd (omega (arith, even c, (has_low (2 ^ suc c)).0 h))
    there zero (suc i) h = absurd (has_none i ((has_high 1 i).0 h))
    there (suc c) (suc i) h = ap suc (there c i (rw (half c) at ((has_high (2 ^ suc c) i).0 h)))

    itself : (c : ℕ) → Has (2 ^ c) c
    itself zero = (has_low 1).1 refl
    itself (suc c) = (has_high (2 ^ suc c) c).1 (rw (half c) (itself c))

-- ---- the law behind each function

pub tells_bit : (m c : ℕ) → Tells (eqb (digit m c) 1) (Has m c)
tells_bit m c = record { yes = λ e. record { bit = eqb-true (digit m c) 1 e }; no = λ e h. eqb-false (digit m c) 1 e h.bit }

pub both_and : (a b : ℕ) → Both a b (bit_and a b)
both_and a b = record { shared = λ c. (has_and a b c).0; all = λ c f g. (has_and a b c).1 (f, g) }

with_or : (m c : ℕ) → With m c (bit_or m (2 ^ c))
with_or m c = record {
  only = λ i h. only i ((has_or m (2 ^ c) i).0 h);
  kept = λ i h. (has_or m (2 ^ c) i).1 (inl h);
  added = (has_or m (2 ^ c) c).1 (inr ((has_one c c).1 refl));
}
  where
    only : (i : ℕ) → Has m i ⊎ Has (2 ^ c) i → Has m i ⊎ (i ≡ c)
    only i (inl h) = inl h
    only i (inr h) = inr ((has_one c i).0 h)

pub with_shifted : (m c : ℕ) → c < 16 → With m c (bit_or m (1 * 2 ^ c % 2 ^ 16))
with_shifted m c l = rw (one-mul, mod-eq_of_lt (pow-lt l)) (with_or m c)

-- the zeros below the lowest digit that is set
trailing_has : (k m : ℕ) → 0 < m → m < 2 ^ k → Has m (count_trailing_zeros k m)
unfolding count_trailing_zeros
trailing_has zero m p l = absurd (omega arith)
trailing_has (suc k) m p l = go (m % 2) refl (λ e. trailing_has k (m / 2) (omega arith) (omega (arith, pow-suc 2 k)))
  where
    go : (d : ℕ) → m % 2 ≡ d → (m % 2 ≡ 0 → Has (m / 2) (count_trailing_zeros k (m / 2))) → Has m (under d (count_trailing_zeros k (m / 2)))
    go zero e h = (has_high m (count_trailing_zeros k (m / 2))).1 (h e)
    go (suc d) e h = (has_low m).1 (omega arith)

trailing_none : (k m i : ℕ) → i < count_trailing_zeros k m → ¬ Has m i
unfolding count_trailing_zeros
trailing_none zero m i l h = omega arith
trailing_none (suc k) m i l h = go (m % 2) i refl l (λ i. trailing_none k (m / 2) i) h
  where
    go : (d i : ℕ) → m % 2 ≡ d → i < under d (count_trailing_zeros k (m / 2)) → ((i : ℕ) → i < count_trailing_zeros k (m / 2) → ¬ Has (m / 2) i) → ¬ Has m i
    go zero zero e l n h = omega (arith, (has_low m).0 h)
    go zero (suc i) e l n h = n i (omega arith) ((has_high m i).0 h)
    go (suc d) i e l n h = omega arith

pub least_trailing : (m : ℕ) → 0 < m → m < 2 ^ 16 → LeastIn m (count_trailing_zeros 16 m)
least_trailing m p l = record { below = has_below 16 l (trailing_has 16 m p l); has = trailing_has 16 m p l; none = trailing_none 16 m }

-- a mask and the number before it share the digits above the lowest that is set
abbrev lower : ℕ → ℕ
lower m = bit_and m (m - 1)

lower_low : (m : ℕ) → 0 < m → ¬ Has (lower m) 0
lower_low m p h = let s = (has_and m (m - 1) 0).0 h in omega (arith, (has_low m).0 s.0, (has_low (m - 1)).0 s.1)

lower_half : (m : ℕ) → lower m / 2 ≡ bit_and (m / 2) ((m - 1) / 2)
lower_half m = and_shr m (m - 1) 1

lower_odd : (m : ℕ) → Has m 0 → lower m / 2 ≡ m / 2
lower_odd m h = lower_half m ∙ ap (bit_and (m / 2)) (omega (arith, (has_low m).0 h)) ∙ and_self (m / 2)

lower_even : (m : ℕ) → 0 < m → ¬ Has m 0 → lower m / 2 ≡ lower (m / 2)
lower_even m p f =
    let f : ¬ (m % 2 ≡ 1) = λ e. f ((has_low m).1 e) in
    lower_half m ∙ ap (bit_and (m / 2)) (let e : (m - 1) / 2 ≡ m / 2 - 1 = omega arith in e)

least_half : {m c : ℕ} → LeastIn m (suc c) → LeastIn (m / 2) c
least_half {m} {c} s = record { below = omega arith; has = (has_high m c).0 s.has; none = λ i l h. s.none (suc i) (omega arith) ((has_high m i).1 h) }

lower_deep : {m c : ℕ} → LeastIn m (suc c) → lower m / 2 ≡ lower (m / 2)
lower_deep {m} s = lower_even m (has_some s.has) (s.none 0 (omega arith))

lower_after : (m c i : ℕ) → LeastIn m c → Has (lower m) i → c < i
lower_after m c zero s h = absurd (lower_low m (has_some s.has) h)
lower_after m zero (suc i) s h = omega arith
lower_after m (suc c) (suc i) s h = omega (arith, lower_after (m / 2) c i (least_half s) (rw (lower_deep s) at ((has_high (lower m) i).0 h)))

lower_all : (m c i : ℕ) → LeastIn m c → Has m i → c < i → Has (lower m) i
lower_all m c zero s h l = absurd (omega arith)
lower_all m zero (suc i) s h l = (has_high (lower m) i).1 (rw (lower_odd m s.has) ((has_high m i).0 h))
lower_all m (suc c) (suc i) s h l = (has_high (lower m) i).1 (rw (lower_deep s) (lower_all (m / 2) c i (least_half s) ((has_high m i).0 h) (omega arith)))

pub rest_and : (m : ℕ) → 0 < m → Rest m (bit_and m (m - 1))
rest_and m p = record {
  only = λ i h. ((has_and m (m - 1) i).0 h).0;
  after = λ i h c s. lower_after m c i s h;
  all = λ i c s. lower_all m c i s;
  less = omega (arith, and_le_r m (m - 1));
}

-- ---- the least carrier and those after it are all

pub least_one : {m c d : ℕ} → LeastIn m c → LeastIn m d → c ≡ d
least_one {m} {c} {d} s t = go (dec_lt c d) (dec_lt d c)
  where
    go : Dec (c < d) → Dec (d < c) → c ≡ d
    go (yes l) e = absurd (t.none c l s.has)
    go (no n) (yes l) = absurd (s.none d l t.has)
    go (no n) (no o) = omega arith

pub rest_or_least : {m c r i : ℕ} → LeastIn m c → Rest m r → Has m i → (i ≡ c) ⊎ Has r i
rest_or_least {m} {c} {r} {i} s t h = go (dec_lt i c) (dec_lt c i)
  where
    go : Dec (i < c) → Dec (c < i) → (i ≡ c) ⊎ Has r i
    go (yes l) e = absurd (s.none i l h)
    go (no n) (yes l) = inr (t.all i c s h l)
    go (no n) (no o) = inl (omega arith)

-- ---- marking, entry by entry

pub marked_none : (l : List ℕ) (from : ℕ) → Marked l from 0 0
marked_none l from = record { only = λ c h. absurd (has_none c h); all = λ c b. absurd (omega arith) }

module _ {l : List ℕ} {from k r : ℕ} (s : Marked l from k r) where
  pub marked_skip : at l (from + k) ≡ 0 → Marked l from (k + 1) r
  marked_skip e = record { only = λ c h. (omega (arith, (s.only c h).0), (s.only c h).1); all = λ c b f. all c b f (ℕ_discrete c k) }
    where
      all : (c : ℕ) → c < k + 1 → ¬ (at l (from + c) ≡ 0) → Dec (c ≡ k) → Has r c
      all c b f (yes q) = absurd (f (rw q e))
      all c b f (no q) = s.all c (omega arith) f

  pub marked_more : {t : ℕ} → With r k t → ¬ (at l (from + k) ≡ 0) → Marked l from (k + 1) t
  marked_more {t} w f = record { only = λ c h. only c (w.only c h); all = λ c b g. all c b g (ℕ_discrete c k) }
    where
      only : (c : ℕ) → Has r c ⊎ (c ≡ k) → (c < k + 1) × ¬ (at l (from + c) ≡ 0)
      only c (inl h) = (omega (arith, (s.only c h).0), (s.only c h).1)
      only c (inr e) = (omega arith, rw e f)

      all : (c : ℕ) → c < k + 1 → ¬ (at l (from + c) ≡ 0) → Dec (c ≡ k) → Has t c
      all c b g (yes q) = rw q w.added
      all c b g (no q) = w.kept c (s.all c (omega arith) g)

  pub marked_end : {n : ℕ} → k ≡ n → Marked l from n r
  marked_end e = rw e at s
