-- One field: a number, a count, two bytes. What the code answers, case by case, is what the definition says of the field.
--
-- Assumes nothing.
use Rattle.std.specs.Prelude.{◌≡◌, Bool, ◌&&◌, List, ℕ, ◌+◌, ◌<◌, ◌≤◌, ltb, leb, length, get_or, Ok, Err}
use Rattle.std.proofs.Common.{sym, ap, ◌∙◌, arith, add-one, lt-ltb, le-ltb, le-leb, ltb-true}
use Rattle.std.proofs.Math.Dec.{leb-suc-suc}
use Rattle.std.proofs.lemmas.Bool.{lt-leb}
use Rattle.ground.specs.Meanings.Sheet.{Fault, sheet_ends, wrong_count, fault, byte, two, count}
use Rattle.ground.proofs.Laws.Reading.{byte_in, byte_out, two_in, two_out, checked_got, checked_bad, checked_refused, checked_same, checked_passed, and_right}
use Rattle.fields.specs.Least.{number_from}
use Rattle.fields.specs.Answers.{tell_number, tell_two, number_got}

-- ---- one number

module _ (s : List ℕ) (p least bound q : ℕ) where
  pub number_short : {f : Fault} → length s ≤ p → f ≡ fault sheet_ends p → Err f ≡ tell_number (number_from least bound q s p)
  number_short h e = ap Err e ∙ ap tell_number (sym (checked_refused q _ byte s p (byte_out s p h)))

  module _ (l : p < length s) where
    pub number_low : {f : Fault} → get_or s p 0 < least → f ≡ fault q p → Err f ≡ tell_number (number_from least bound q s p)
    number_low h e = ap Err e ∙ ap tell_number (sym (checked_bad q _ byte s p (byte_in s p l) (rw (lt-leb _ _ h))))

    pub number_high : {f : Fault} → least ≤ get_or s p 0 → bound ≤ get_or s p 0 → f ≡ fault q p → Err f ≡ tell_number (number_from least bound q s p)
    number_high h g e = ap Err e ∙ ap tell_number (sym (checked_bad q _ byte s p (byte_in s p l) (rw (le-leb _ _ h, le-ltb _ _ g))))

    pub number_is : least ≤ get_or s p 0 → get_or s p 0 < bound → Ok (get_or s p 0, p + 1) ≡ tell_number (number_from least bound q s p)
    number_is h g = ap tell_number (sym (checked_got q _ byte s p (byte_in s p l) (rw (le-leb _ _ h, lt-ltb _ _ g))))

  pub number_bound : {c next : ℕ} → Ok (c, next) ≡ tell_number (number_from least bound q s p) → c < bound
  number_bound {c} e = ltb-true _ _ (and_right (leb least c) (ltb c bound) (checked_passed q _ byte s p (number_got (number_from least bound q s p) e)).0)

-- a count is a number under one more than its most
pub count_is : (least most : ℕ) (s : List ℕ) (p : ℕ) → number_from least (most + 1) wrong_count s p ≡ count least most s p
unfolding count
count_is least most s p = checked_same wrong_count _ _ byte s p (λ c. ap (λ (b : Bool). leb least c && b) (rw (add-one most) (leb-suc-suc c most)))

pub count_most : (s : List ℕ) (p least most : ℕ) {c next : ℕ} → Ok (c, next) ≡ tell_number (count least most s p) → c ≤ most
count_most s p least most {c} e = let h : c < most + 1 = number_bound s p least (most + 1) wrong_count (e ∙ ap tell_number (sym (count_is least most s p))) in omega arith

-- ---- two bytes

pub two_short : (s : List ℕ) (p : ℕ) {f : Fault} → length s ≤ p + 1 → f ≡ fault sheet_ends p → Err f ≡ tell_two (two s p)
two_short s p h e = ap Err e ∙ ap tell_two (sym (two_out s p h))

pub two_is : (s : List ℕ) (p : ℕ) → p + 1 < length s → Ok (get_or s p 0, get_or s (p + 1) 0, p + 2) ≡ tell_two (two s p)
two_is s p h = ap tell_two (sym (two_in s p h))
