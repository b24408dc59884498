-- What the library writes of a number are its decimal digits, the fewest that hold it.
--
-- Assumes nothing.
use Rattle.std.proofs.Common.{◌≡◌, ℕ, zero, suc, ◌+◌, ◌-◌, ◌*◌, ◌/◌, ◌%◌, ◌^◌, ◌≤◌, ◌<◌, List, [], ◌∷◌, ◌++◌, length, sym, ap, ap₂, subst, ◌∙◌, arith, rules}
use Rattle.std.proofs.lemmas.List.{length_push}
use Rattle.std.proofs.lemmas.Fmt.{decimal_by_steps}
use Rattle.std.specs.Fmt.{decimal}
use native.Mathlib.Nat.{pow-suc}
use native.Mathlib.Numerals.{add-one, sub-one}
use Rattle.text.specs.Digits.{hex_digit_ascii, last_digits, IsDigitCount}

pub record Decimal (n : ℕ) (digits : List ℕ) : Type 0 where
  pub fewest : IsDigitCount 10 1 n (length digits)
  pub last : last_digits 10 (length digits) n ≡ digits

-- a digit below ten
digit : (d : ℕ) → d < 10 → hex_digit_ascii d ≡ 48 + d
digit d l = search rules

-- one digit
one : (n : ℕ) → n < 10 → Decimal n ((48 + n) ∷ [])
one n l = record {
  fewest = (omega arith, omega arith, λ h. omega arith);
  last = ap (λ (x : ℕ). x ∷ []) (ap hex_digit_ascii (omega arith) ∙ digit n l);
}

-- where more than one digit is wanted for the number without its last, one more is wanted with it
wanted : (k n : ℕ) → 1 ≤ k → 10 ≤ n → (1 < k → 10 ^ (k - 1) ≤ n / 10) → 10 ^ (k + 1 - 1) ≤ n
wanted zero n some l left = absurd (omega arith)
wanted (suc zero) n some l left = l
wanted (suc (suc j)) n some l left =
    let kept : 10 ^ suc j ≤ n / 10 = subst (λ (i : ℕ). 10 ^ i ≤ n / 10) (sub-one (suc (suc j))) (left (omega arith)) in
    let same : suc (suc j) ≡ suc (suc j) + 1 - 1 = omega arith in
    subst (λ (i : ℕ). 10 ^ i ≤ n) same (omega (arith, pow-suc 10 (suc j)))

-- one digit more
more : (n : ℕ) (digits : List ℕ) → 10 ≤ n → Decimal (n / 10) digits → Decimal n (digits ++ ((48 + n % 10) ∷ []))
more n digits l D =
    let k = length digits in
    let longer : k + 1 ≡ length (digits ++ ((48 + n % 10) ∷ [])) = sym (length_push digits (48 + n % 10)) in
    let tenfold : 10 ^ (k + 1) ≡ 10 ^ k * 10 = ap (λ (j : ℕ). 10 ^ j) (add-one k) ∙ pow-suc 10 k in
    record {
      fewest = subst (IsDigitCount 10 1 n) longer (omega arith, omega (arith, D.fewest.1), λ h. wanted k n D.fewest.0 l D.fewest.2);
      last =
          ap (λ (j : ℕ). last_digits 10 j n) (sym longer ∙ add-one k)
          ∙ ap₂ (λ (front : List ℕ) (x : ℕ). front ++ (x ∷ [])) D.last (digit (n % 10) (omega arith));
    }

pub decimal_is : (n : ℕ) → n < 2 ^ 64 → Decimal n (decimal n)
decimal_is n l = decimal_by_steps Decimal one more n l
