-- The laws of a loop that copies entries of one list into another, one a turn, and what stands where then. `Copying` is in
-- specs/Laws/Copying.antt.
--
-- Below `at` nothing changes (`pasted_below`), and from there on stands what was copied (`pasted_part`).
-- Assumes nothing.
use Rattle.std.specs.Prelude.{◌≡◌, refl, List, ◌++◌, ℕ, ◌+◌, ◌≤◌, ◌<◌, length, get_or, take, drop, set}
use Rattle.std.proofs.Common.{sym, ap, ◌∙◌, append_assoc, add-one, arith, length-set, length-take-le, take_at, drop_at}
use Rattle.std.proofs.Math.Seq.{paste, paste-zero, paste-suc}
use Rattle.std.proofs.lemmas.List.Edits.{length-paste}
use Rattle.ground.specs.Laws.Copying.{Copying}

module _ {A : Type 0} {before : List A} {at : ℕ} {from : List A} {n : ℕ} where
  pub copying_start : Copying before at from n 0 before
  copying_start = record { within = omega arith; long = refl; is = paste-zero before at from }

  module _ {i : ℕ} {after : List A} (C : Copying before at from n i after) where
    pub copying_more : (d : A) → i < n → n ≤ length from → at + n ≤ length before → Copying before at from n (i + 1) (set after (at + i) (get_or from i d))
    copying_more d h low high = record {
      within = omega arith;
      long = length-set after (at + i) (get_or from i d) ∙ C.long;
      is = ap (λ (l : List A). set l (at + i) (get_or from i d)) C.is ∙ paste-suc before at from i d (omega arith) (omega arith) ∙ ap (paste before at from) (sym (add-one i));
    }

    pub copying_end : n ≤ i → after ≡ paste before at from n
    copying_end h = let e : i ≡ n = omega (arith, C.within) in C.is ∙ ap (paste before at from) e

-- ---- what stands where

module _ {A : Type 0} (before from : List A) (at n : ℕ) (low : n ≤ length from) (room : at + n ≤ length before) (after : List A) (e : after ≡ paste before at from n) where
  parts : after ≡ take at before ++ (take n from ++ drop (at + n) before)
  parts = e ∙ append_assoc (take at before) (take n from) (drop (at + n) before)

  pub pasted_length : length after ≡ length before
  pasted_length = ap (λ (l : List A). length l) e ∙ length-paste before at from n room low

  pub pasted_below : take at after ≡ take at before
  pasted_below = ap (take at) parts ∙ take_at (take at before) (take n from ++ drop (at + n) before) at (length-take-le at before (omega arith))

  pub pasted_part : take n (drop at after) ≡ take n from
  pasted_part =
      ap (λ (l : List A). take n (drop at l)) parts
      ∙ ap (take n) (drop_at (take at before) (take n from ++ drop (at + n) before) at (length-take-le at before (omega arith)))
      ∙ take_at (take n from) (drop (at + n) before) n (length-take-le n from low)
