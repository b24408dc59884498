-- A loop that reads the items of a section and enters each into a table.
--
--   Filling one put n s from t₀ t p i done   of n items read from `from`, i are read, `done`, and p is the place after them;
--                                            the table, t₀ at the start, has them entered by `put`, and is now t
--
-- `filling_starts`, `filling_more` and `filling_ends` are the loop's start, turn and end; `filling_refused` its refusal.
-- Assumes nothing.
use Rattle.std.specs.Prelude.{◌≡◌, List, [], ◌∷◌, ◌++◌, ℕ, suc, ◌+◌, ◌<◌, ◌≤◌, length, Ok, Err}
use Rattle.std.proofs.Math.Path.{refl}
use Rattle.std.proofs.Common.{sym, ap, ◌∙◌, arith}
use Rattle.ground.specs.Meanings.Sheet.{Fault, got, refused, Reading, many}
use Rattle.ground.specs.Laws.Reading.{Walk}
use Rattle.ground.proofs.Laws.Reading.{walk_starts, walk_more, walk_refused, walk_ends}
use Rattle.fields.specs.Tables.{put_all}
use Rattle.fields.specs.Answers.{Answers, tell_section, answer_got, answer_refused}

pub put_snoc : {S A : Type 0} (put : S → ℕ → A → S) (t : S) (i : ℕ) (l : List A) (x : A) → put_all put t i (l ++ (x ∷ [])) ≡ put (put_all put t i l) (i + length l) x
unfolding put_all
put_snoc put t i [] x = ap (λ (j : ℕ). put t j x) (omega arith)
put_snoc put t i (y ∷ l) x = put_snoc put (put t i y) (suc i) l x ∙ ap (λ (j : ℕ). put (put_all put (put t i y) (suc i) l) j x) (omega arith)

module _ {S A : Type 0} (one : List A → Reading A) (put : S → ℕ → A → S) (n : ℕ) (s : List ℕ) (from : ℕ) (t₀ : S) where
  pub record Filling (t : S) (p i : ℕ) (done : List A) : Type 0 where
    pub walk : Walk one n s from i p done
    pub table : t ≡ put_all put t₀ 0 done

  pub filling_starts : Filling t₀ from 0 []
  unfolding put_all
  filling_starts = record { walk = walk_starts one n s from; table = refl }

  module _ {t : S} {p i : ℕ} {done : List A} (v : Filling t p i done) where
    pub filling_more : {x : A} {next : ℕ} → i < n → one done s p ≡ got x next → Filling (put t i x) next (i + 1) (done ++ (x ∷ []))
    filling_more {x} {next} l e = record {
      walk = walk_more one n s from v.walk l e;
      table = ap (λ (y : S). put y i x) v.table ∙ ap (λ (j : ℕ). put (put_all put t₀ 0 done) j x) (let h = v.walk.so_far in omega arith) ∙ sym (put_snoc put t₀ 0 done x);
    }

    pub filling_refused : {P : List A → Type 0} {f : Fault} → i < n → one done s p ≡ refused f → Answers tell_section (many one n [] s from) (Err f) P
    filling_refused l e = answer_refused tell_section (walk_refused one n s from v.walk l e)

    pub filling_ends : n ≤ i → Answers tell_section (many one n [] s from) (Ok p) (λ (l : List A). t ≡ put_all put t₀ 0 l)
    filling_ends l = answer_got tell_section (walk_ends one n s from v.walk l) v.table
