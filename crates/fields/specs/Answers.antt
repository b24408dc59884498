-- What an answer of the code tells: it stands for an outcome of a reading.
--
--   tell f o                the answer for the outcome o: what f tells of what was read and the place after it, or the fault
--   tell_number, tell_two    what was read, and the place after it
--   tell_rule               the two risers of a rule, and the place after it
--   tell_section            of a run of items, only the place after it
--   tell_count              of a section, the number of its items and the place after it
--   Answers tell o r P     r is the answer for the outcome o, and what was got has P
--
-- An answer settles its outcome: `tell_got` and `tell_refused` say which one it was, and `answer_told` and `answer_refusal` where
-- what was got has P. The laws of each kind of answer are these, in the words of that kind. `passed` says what a refusal that is
-- passed up becomes: it stays the same.
-- Assumes nothing.
use Rattle.std.specs.Prelude.{◌≡◌, refl, List, ℕ, length, Result, Ok, Err, IsErrAnd}
use Rattle.std.proofs.Common.{sym, ap, ◌∙◌, subst}
use Rattle.std.proofs.lemmas.Result.{err_from_is_err_and}
use Rattle.ground.specs.Meanings.Sheet.{Fault, Outcome, got, refused, Pair, Rule}

abbrev pub pair : ℕ → ℕ → Pair
pair u v = record { left = u; right = v }

-- ---- the answers

abbrev pub tell : {A B : Type 0} → (A → ℕ → B) → Outcome A → Result B Fault
tell f (got x next) = Ok (f x next)
tell f (refused e) = Err e

abbrev pub tell_number : Outcome ℕ → Result (ℕ × ℕ) Fault
tell_number o = tell (λ c next. (c, next)) o

abbrev pub tell_two : Outcome Pair → Result (ℕ × ℕ × ℕ) Fault
tell_two o = tell (λ x next. (x.left, x.right, next)) o

abbrev pub tell_rule : Outcome Rule → Result (ℕ × ℕ × ℕ) Fault
tell_rule o = tell (λ x next. (x.risers.left, x.risers.right, next)) o

abbrev pub tell_section : {A : Type 0} → Outcome A → Result ℕ Fault
tell_section o = tell (λ x next. next) o

abbrev pub tell_count : {A : Type 0} → Outcome (List A) → Result (ℕ × ℕ) Fault
tell_count o = tell (λ l next. (length l, next)) o

pub record Answers {A B : Type 0} (tell : Outcome A → B) (o : Outcome A) (r : B) (P : A → Type 0) : Type 0 where
  pub told : r ≡ tell o
  pub leaves : (x : A) (p : ℕ) → o ≡ got x p → P x

-- ---- answers made

module _ {A B : Type 0} (tell : Outcome A → B) {o : Outcome A} {P : A → Type 0} where
  pub answer_got : {x : A} {p : ℕ} → o ≡ got x p → P x → Answers tell o (tell (got x p)) P
  answer_got {x} {p} e h = record { told = ap tell (sym e); leaves = λ y r f. let z : x ≡ y = cc in subst P z h }

  pub answer_refused : {f : Fault} → o ≡ refused f → Answers tell o (tell (refused f)) P
  answer_refused {f} e = record { told = ap tell (sym e); leaves = λ y r g. cc }

-- ---- answers passed up

pub passed : {B : Type 0} (r : Result B Fault) {f : Fault} → IsErrAnd r (λ e. e ≡ f) → r ≡ Err f
passed r h = let t = err_from_is_err_and r h in t.1 ∙ ap Err t.2

pub answer_passed : {A B : Type 0} (tell : Outcome A → Result B Fault) {o : Outcome A} {P : A → Type 0} (r : Result B Fault) {f : Fault} → IsErrAnd r (λ e. e ≡ f) → Answers tell o (Err f) P → Answers tell o r P
answer_passed tell {o} {P} r h a = subst (λ x. Answers tell o x P) (sym (passed r h)) a

-- ---- answers taken

module _ {A B : Type 0} (f : A → ℕ → B) where
  pub tell_got : (o : Outcome A) {y : B} → Ok y ≡ tell f o → (x : A) × (p : ℕ) × (o ≡ got x p) × (f x p ≡ y)
  tell_got (got x p) h = (x, p, refl, cc)
  tell_got (refused e) h = cc

  pub tell_refused : (o : Outcome A) {e : Fault} → Err e ≡ tell f o → o ≡ refused e
  tell_refused (got x p) h = cc
  tell_refused (refused e) h = cc

  module _ {o : Outcome A} {P : A → Type 0} {r : Result B Fault} (a : Answers (tell f) o r P) where
    pub answer_told : {y : B} → r ≡ Ok y → (x : A) × (p : ℕ) × (o ≡ got x p) × P x × (f x p ≡ y)
    answer_told e = let t = tell_got o (sym e ∙ a.told) in (t.0, t.1, t.2, a.leaves t.0 t.1 t.2, t.3)

    pub answer_refusal : {e : Fault} → r ≡ Err e → o ≡ refused e
    answer_refusal e = tell_refused o (sym e ∙ a.told)

pub number_got : (o : Outcome ℕ) {c next : ℕ} → Ok (c, next) ≡ tell_number o → o ≡ got c next
number_got o h = let t = tell_got _ o h in t.2 ∙ ap (λ (z : ℕ × ℕ). got z.0 z.1) t.3

pub number_refused : (o : Outcome ℕ) {f : Fault} → Err f ≡ tell_number o → o ≡ refused f
number_refused o h = tell_refused _ o h

pub two_got : (o : Outcome Pair) {u v next : ℕ} → Ok (u, v, next) ≡ tell_two o → o ≡ got (pair u v) next
two_got o h = let t = tell_got _ o h in t.2 ∙ ap (λ (z : ℕ × ℕ × ℕ). got (pair z.0 z.1) z.2) t.3

pub two_refused : (o : Outcome Pair) {f : Fault} → Err f ≡ tell_two o → o ≡ refused f
two_refused o h = tell_refused _ o h

module _ {o : Outcome Rule} {P : Rule → Type 0} {r : Result (ℕ × ℕ × ℕ) Fault} (a : Answers tell_rule o r P) where
  pub rule_got : {u v p : ℕ} → r ≡ Ok (u, v, p) → (x : Rule) × (o ≡ got x p) × P x × (x.risers ≡ pair u v)
  rule_got e = let t = answer_told _ a e in (t.0, t.2 ∙ ap (λ (z : ℕ × ℕ × ℕ). got t.0 z.2) t.4, t.3, ap (λ (z : ℕ × ℕ × ℕ). pair z.0 z.1) t.4)

  pub rule_refused : {f : Fault} → r ≡ Err f → o ≡ refused f
  rule_refused e = answer_refusal _ a e

module _ {A : Type 0} {o : Outcome A} {P : A → Type 0} {r : Result ℕ Fault} (a : Answers tell_section o r P) where
  pub section_got : {p : ℕ} → r ≡ Ok p → (x : A) × (o ≡ got x p) × P x
  section_got e = let t = answer_told _ a e in (t.0, t.2 ∙ ap (got t.0) t.4, t.3)

  pub section_refused : {f : Fault} → r ≡ Err f → o ≡ refused f
  section_refused e = answer_refusal _ a e

module _ {A : Type 0} {o : Outcome (List A)} {P : List A → Type 0} {r : Result (ℕ × ℕ) Fault} (a : Answers tell_count o r P) where
  pub count_got : {n p : ℕ} → r ≡ Ok (n, p) → (l : List A) × (o ≡ got l p) × P l × (length l ≡ n)
  count_got e = let t = answer_told _ a e in (t.0, t.2 ∙ ap (λ (z : ℕ × ℕ). got t.0 z.1) t.4, t.3, ap (λ (z : ℕ × ℕ). z.0) t.4)

  pub count_refused : {f : Fault} → r ≡ Err f → o ≡ refused f
  count_refused e = answer_refusal _ a e
