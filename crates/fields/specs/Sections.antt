-- Sections: a count, then as many items.
--
--   section least most one   a count from `least` to `most`, then as many items, each read by `one` from the items before it
--
-- The sheet is read section by section: what follows a section may speak of its items alone, since they are as many as the
-- count says (`section_then`).
-- Assumes nothing.
use Rattle.std.specs.Prelude.{◌≡◌, ℕ, ◌≤◌, Result, Ok, Err}
use Rattle.std.proofs.Math.Path.{refl, ap}
use Rattle.std.proofs.Common.{sym, ◌∙◌, subst}
use mathlib.Core.List.{List, []}
use native.Mathlib.Omega.{arith}
use Rattle.std.proofs.Math.ListN.{length}
use Rattle.ground.specs.Meanings.Sheet.{Fault, Outcome, got, refused, Reading, and_then, count, many, ◌>>=◌}
use Rattle.ground.proofs.Laws.Reading.{and_then_got, many_length}
use Rattle.fields.specs.Answers.{Answers, tell_number, tell_section, tell_count, answer_got, answer_refused, number_got, number_refused, section_got, section_refused, count_got}
use Rattle.fields.specs.Fields.{count_most}

unfoldable pub section : {A : Type 0} → ℕ → ℕ → (List A → Reading A) → Reading (List A)
section least most one = do
  n ← count least most
  many one n []

module _ {A : Type 0} (least most : ℕ) (one : List A → Reading A) (s : List ℕ) (p : ℕ) where
  pub section_no_count : {P : List A → Type 0} {f : Fault} → Err f ≡ tell_number (count least most s p) → Answers tell_count (section least most one s p) (Err f) P
  unfolding section
  section_no_count e = answer_refused tell_count (rw (number_refused (count least most s p) e))

  section_both : {n first next : ℕ} {l : List A} → count least most s p ≡ got n first → many one n [] s first ≡ got l next → section least most one s p ≡ got l next
  unfolding section
  section_both e f = rw (e, f)

  module _ {n first : ℕ} (e : Ok (n, first) ≡ tell_number (count least most s p)) {P : List A → Type 0} {r : Result ℕ Fault} (a : Answers tell_section (many one n [] s first) r P) where
    pub section_no_item : {f : Fault} → r ≡ Err f → Answers tell_count (section least most one s p) (Err f) P
    unfolding section
    section_no_item f = answer_refused tell_count (rw (number_got (count least most s p) e, section_refused a f))

    pub section_is : {next : ℕ} → r ≡ Ok next → Answers tell_count (section least most one s p) (Ok (n, next)) P
    section_is {next} f =
        let g = section_got a f in
        let l : length g.0 ≡ n = many_length one s n [] first g.0 next g.1 ∙ omega arith in
        subst (λ (m : ℕ). Answers tell_count (section least most one s p) (Ok (m, next)) P) l (answer_got tell_count (section_both (number_got (count least most s p) e) g.1) g.2)

  -- a section has at most as many items as its count may say
  pub section_most : {l : List A} {next : ℕ} → section least most one s p ≡ got l next → length l ≤ most
  unfolding section
  section_most {l} {next} e =
      let z = and_then_got (count least most s p) _ e in
      let h = many_length one s z.0 [] z.1 l next z.3 in
      let m = count_most s p least most (ap tell_number (sym z.2)) in
      omega arith

  pub section_few : {P : List A → Type 0} {r : Result (ℕ × ℕ) Fault} {n next : ℕ} → Answers tell_count (section least most one s p) r P → r ≡ Ok (n, next) → n ≤ most
  section_few a e = let g = count_got a e in let h = section_most g.1 in let l = g.3 in omega arith

  -- what follows is told by the items
  pub section_then : {B : Type 0} (rest : ℕ → List A → ℕ → Outcome B) → and_then (count least most s p) (λ n first. and_then (many one n [] s first) (rest n)) ≡ and_then (section least most one s p) (λ l next. rest (length l) l next)
  unfolding section
  section_then {B} rest = go (count least most s p)
    where
      items : (n first : ℕ) (o : Outcome (List A)) → many one n [] s first ≡ o → and_then o (rest n) ≡ and_then o (λ l next. rest (length l) l next)
      items n first (got l next) e = let h : length l ≡ n = many_length one s n [] first l next e ∙ omega arith in ap (λ (m : ℕ). rest m l next) (sym h)
      items n first (refused f) e = refl

      go : (o : Outcome ℕ) → and_then o (λ n first. and_then (many one n [] s first) (rest n)) ≡ and_then (and_then o (λ n first. many one n [] s first)) (λ l next. rest (length l) l next)
      go (got n first) = items n first (many one n [] s first) refl
      go (refused f) = refl
