-- How far a reading looks: whatever stands further on makes no difference to it. `Looks` is in specs/Laws/Looks.antt.
--
-- Fields look no further than where they end, and so do checked fields, readings one after another and runs of items
-- (`field_looks`, `checked_looks`, `made_looks`, `then_looks`, `many_looks`). That nothing more follows is seen from one byte more (`more_looks`).
-- Assumes nothing.
use Rattle.std.specs.Prelude.{◌≡◌, refl, Bool, cond, List, [], ◌∷◌, ◌++◌, ℕ, zero, suc, ◌+◌, ◌*◌, ◌≤◌, ◌<◌, length, take, drop}
use Rattle.std.proofs.Common.{sym, ap, ◌∙◌, arith, ne_eqb, take_all, take-take, length-take-le}
use Rattle.std.proofs.Math.Decide.{dec_lt}
use Rattle.ground.specs.Meanings.Sheet.{fault, Outcome, got, refused, Reading, and_then, ◌>>=◌, yields, field, checked, byte, two, many, nothing_more}
use Rattle.ground.proofs.Laws.Reading.{field_in, and_then_got, checked_passed}
use Rattle.ground.proofs.Laws.Spelling.{got_at, field_length, more_spells}
use Rattle.ground.specs.Laws.Valid.{Gives}
use Rattle.ground.specs.Laws.Looks.{Looks}

pub looks_within : {A : Type 0} {m : Reading A} {b : ℕ} (c : ℕ) → b ≤ c → Looks m b → Looks m c
looks_within c l L = record { ends = λ s at x p f. omega (arith, L.ends s at x p f); cut = λ s at n f. L.cut s at n (omega arith) }

-- bytes are cut off only where there are more of them
cut_off : {A : Type 0} (m : Reading A) (s : List ℕ) (at n : ℕ) → (n < length s → m (take n s) at ≡ m s at) → m (take n s) at ≡ m s at
cut_off m s at n f = elim (dec_lt n (length s)) [ yes h ↦ f h | no h ↦ ap (λ (t : List ℕ). m t at) (take_all n s (omega arith)) ]

-- ---- fields

-- w bytes from a place that all stand among the first n
take_among : {A : Type 0} (i w n : ℕ) (l : List A) → i + w ≤ n → take w (drop i (take n l)) ≡ take w (drop i l)
take_among zero w n l h = take-take w n l (omega arith)
take_among (suc i) w zero l h = absurd (omega arith)
take_among (suc i) w (suc n) [] h = refl
take_among (suc i) w (suc n) (x ∷ l) h = take_among i w n l (omega arith)

pub field_looks : (w : ℕ) → Looks (field w) w
field_looks w = record { ends = λ s at x p e. omega (arith, got_at (sym (field_in w s at (field_length w s at x p e)) ∙ e)); cut = λ s at n h. cut_off (field w) s at n (λ l. same s at n h l) }
  where
    same : (s : List ℕ) (at n : ℕ) → at + w ≤ n → n < length s → field w (take n s) at ≡ field w s at
    same s at n h l =
        let long = length-take-le n s (omega arith) in
        field_in w (take n s) at (omega arith) ∙ ap (λ (t : List ℕ). got t (at + w)) (take_among at w n s h) ∙ sym (field_in w s at (omega arith))

-- ---- readings made of others

-- what was read, made into something else
pub made_looks : {A B : Type 0} (m : Reading A) (f : A → B) {b : ℕ} → Looks m b → Looks (m >>= (λ x. yields (f x))) b
made_looks m f L = record {
  ends = λ s at y p h. let z = and_then_got (m s at) _ h in omega (arith, L.ends s at z.0 z.1 z.2, got_at z.3);
  cut = λ s at n h. ap (λ (o : Outcome _). and_then o (λ x next. got (f x) next)) (L.cut s at n h);
}

pub checked_looks : {A : Type 0} (q : ℕ) (test : A → Bool) (m : Reading A) {b : ℕ} → Looks m b → Looks (checked q test m) b
unfolding checked
checked_looks q test m L = record {
  ends = λ s at x p f. L.ends s at x p (checked_passed q test m s at f).1;
  cut = λ s at n h. ap (λ (o : Outcome _). and_then o (λ x next. cond (test x) (got x next) (refused (fault q at)))) (L.cut s at n h);
}

module _ {A B : Type 0} (m : Reading A) (f : A → Reading B) (Good : A → Type 0) {b c : ℕ} (M : Looks m b) (G : Gives m Good) (F : (x : A) → Good x → Looks (f x) c) where
  pub then_looks : Looks (m >>= f) (b + c)
  then_looks = record { ends = ends; cut = cut }
    where
      ends : (s : List ℕ) (at : ℕ) (y : B) (p : ℕ) → (m >>= f) s at ≡ got y p → p ≤ at + (b + c)
      ends s at y p h =
          let z = and_then_got (m s at) _ h in
          omega (arith, M.ends s at z.0 z.1 z.2, (F z.0 (G s at z.0 z.1 z.2)).ends s z.1 y p z.3)

      cut : (s : List ℕ) (at n : ℕ) → at + (b + c) ≤ n → (m >>= f) (take n s) at ≡ (m >>= f) s at
      cut s at n h = ap (λ (o : Outcome A). and_then o (λ x next. f x (take n s) next)) (M.cut s at n (omega arith)) ∙ go (m s at) refl
        where
          go : (o : Outcome A) → m s at ≡ o → and_then o (λ x next. f x (take n s) next) ≡ and_then o (λ x next. f x s next)
          go (got x p) q = (F x (G s at x p q)).cut s p n (omega (arith, M.ends s at x p q))
          go (refused f) r = refl

pub many_looks : {A : Type 0} (one : List A → Reading A) (b : ℕ) → ((done : List A) → Looks (one done) b) → (n : ℕ) (done : List A) → Looks (many one n done) (n * b)
unfolding many
many_looks one b h zero done = record { ends = λ s at y p e. omega (arith, got_at e); cut = λ s at n l. refl }
many_looks {A} one b h (suc n) done =
    looks_within (suc n * b) (omega arith)
    (then_looks (one done) (λ x. many one n (done ++ (x ∷ []))) (λ x. Unit) (h done) (λ s at x p e. tt) (λ x g. many_looks one b h n (done ++ (x ∷ []))))

-- ---- one byte, two bytes, and the end

pub byte_looks : Looks byte 1
unfolding byte
byte_looks = made_looks (field 1) _ (field_looks 1)

pub two_looks : Looks two 2
unfolding two
two_looks = made_looks (field 2) _ (field_looks 2)

pub more_looks : Looks nothing_more 1
unfolding nothing_more
more_looks = record {
  ends = λ s at x p e. omega (arith, (more_spells s at x p e).1);
  cut = λ s at n h. cut_off nothing_more s at n (λ l.
      let long = length-take-le n s (omega arith) in
      rw (ne_eqb at (length (take n s)) (λ e. omega arith), ne_eqb at (length s) (λ e. omega arith)));
}
