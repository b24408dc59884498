-- Laws of readings: what fields, checked fields and runs of items give, and what is known of what was got. `Walk` and `All` are in
-- specs/Laws/Reading.antt.
-- Assumes nothing.
use Rattle.std.specs.Prelude.{◌≡◌, refl, Bool, true, false, cond, ◌&&◌, List, [], ◌∷◌, ◌++◌, ℕ, zero, suc, ◌+◌, ◌-◌, ◌<◌, ◌≤◌, length, get_or, take, drop}
use Rattle.std.proofs.Common.{sym, ap, ◌∙◌, subst, arith, get_or-drop, get_or-take, le-leb}
use Rattle.std.proofs.Math.Path.{fun_ext}
use Rattle.std.proofs.lemmas.Bool.{lt-leb}
use Rattle.ground.specs.Meanings.Sheet.{Fault}
use Rattle.ground.specs.Meanings.Sheet.{sheet_ends, fault, Outcome, got, refused, Reading, and_then, field, checked, byte, two, many}
use Rattle.ground.specs.Laws.Reading.{Walk, All}

-- ---- tests joined

pub and_left : (a b : Bool) → (a && b) ≡ true → a ≡ true
and_left true b e = refl
and_left false b e = e

pub and_right : (a b : Bool) → (a && b) ≡ true → b ≡ true
and_right true b e = e
and_right false b e = absurd (let z : ◌≡◌ {A = ℕ} 0 1 = cc in omega arith)

-- ---- fields

pub field_in : (w : ℕ) (s : List ℕ) (at : ℕ) → at + w ≤ length s → field w s at ≡ got (take w (drop at s)) (at + w)
unfolding field
field_in w s at h = simp (le-leb _ _ h)

pub field_out : (w : ℕ) (s : List ℕ) (at : ℕ) → length s < at + w → field w s at ≡ refused (fault sheet_ends at)
unfolding field
field_out w s at h = simp (lt-leb _ _ h)

pub byte_in : (s : List ℕ) (at : ℕ) → at < length s → byte s at ≡ got (get_or s at 0) (at + 1)
unfolding byte
byte_in s at h = rw (field_in 1 s at (omega arith)) (ap (λ (c : ℕ). got c (at + 1)) (get_or-take 1 (drop at s) 0 0 (omega arith) ∙ get_or-drop at s 0 0 ∙ ap (λ (i : ℕ). get_or s i 0) (omega arith)))

pub byte_out : (s : List ℕ) (at : ℕ) → length s ≤ at → byte s at ≡ refused (fault sheet_ends at)
unfolding byte
byte_out s at h = rw (field_out 1 s at (omega arith))

pub two_in : (s : List ℕ) (at : ℕ) → at + 1 < length s → two s at ≡ got (record { left = get_or s at 0; right = get_or s (at + 1) 0 }) (at + 2)
unfolding two
two_in s at h =
    let a : get_or (take 2 (drop at s)) 0 0 ≡ get_or s at 0 = get_or-take 2 (drop at s) 0 0 (omega arith) ∙ get_or-drop at s 0 0 ∙ ap (λ (i : ℕ). get_or s i 0) (omega arith) in
    let b : get_or (take 2 (drop at s)) 1 0 ≡ get_or s (at + 1) 0 = get_or-take 2 (drop at s) 1 0 (omega arith) ∙ get_or-drop at s 1 0 in
    rw (field_in 2 s at (omega arith)) (cc)

pub two_out : (s : List ℕ) (at : ℕ) → length s ≤ at + 1 → two s at ≡ refused (fault sheet_ends at)
unfolding two
two_out s at h = rw (field_out 2 s at (omega arith))

-- what a joined reading got came by way of what its first part got
pub and_then_got : {A B : Type 0} (o : Outcome A) (f : A → ℕ → Outcome B) {y : B} {p : ℕ} → and_then o f ≡ got y p → (x : A) × (n : ℕ) × (o ≡ got x n) × (f x n ≡ got y p)
and_then_got (got x n) f e = (x, n, refl, e)
and_then_got (refused a) f e = absurd (let b : ◌≡◌ {A = ℕ} 0 1 = cc in omega arith)

module _ {A : Type 0} (q : ℕ) (test : A → Bool) (m : Reading A) (s : List ℕ) (at : ℕ) where
  pub checked_got : {x : A} {next : ℕ} → m s at ≡ got x next → test x ≡ true → checked q test m s at ≡ got x next
  unfolding checked
  checked_got e t = rw (e, t)

  pub checked_bad : {x : A} {next : ℕ} → m s at ≡ got x next → test x ≡ false → checked q test m s at ≡ refused (fault q at)
  unfolding checked
  checked_bad e t = rw (e, t)

  pub checked_refused : {f : Fault} → m s at ≡ refused f → checked q test m s at ≡ refused f
  unfolding checked
  checked_refused e = rw e

pub checked_same : {A : Type 0} (q : ℕ) (t t' : A → Bool) (m : Reading A) (s : List ℕ) (at : ℕ) → ((x : A) → t x ≡ t' x) → checked q t m s at ≡ checked q t' m s at
checked_same q t t' m s at h = ap (λ (f : _ → Bool). checked q f m s at) (fun_ext h)

-- what is got passed the test
pub checked_passed : {A : Type 0} (q : ℕ) (test : A → Bool) (m : Reading A) (s : List ℕ) (at : ℕ) {x : A} {next : ℕ} → checked q test m s at ≡ got x next → (test x ≡ true) × (m s at ≡ got x next)
unfolding checked
checked_passed {A} q test m s at {x} {next} e = go (m s at) refl e
  where
    bit : (y : A) (p : ℕ) (b : Bool) → test y ≡ b → m s at ≡ got y p → cond b (got y p) (refused (fault q at)) ≡ got x next → (test x ≡ true) × (m s at ≡ got x next)
    bit y p true t g f = let z : y ≡ x = cc in (rw (← z) t, g ∙ f)
    bit y p false t g f = absurd (let b : ◌≡◌ {A = ℕ} 0 1 = cc in omega arith)

    go : (o : Outcome A) → m s at ≡ o → and_then o (λ y p. cond (test y) (got y p) (refused (fault q at))) ≡ got x next → (test x ≡ true) × (m s at ≡ got x next)
    go (got y p) g f = bit y p (test y) refl g f
    go (refused a) g f = absurd (let b : ◌≡◌ {A = ℕ} 0 1 = cc in omega arith)

-- ---- runs of items

length_snoc : {A : Type 0} (l : List A) (x : A) → length (l ++ (x ∷ [])) ≡ length l + 1
length_snoc [] x = refl
length_snoc (y ∷ l) x = let h = length_snoc l x in omega arith

-- A loop over `many`: i of n items are read, `done`, and `at` is the place

module _ {A : Type 0} (one : List A → Reading A) (n : ℕ) (s : List ℕ) (from : ℕ) where
  many_zero : (d : List A) (p j : ℕ) → j ≡ 0 → many one j d s p ≡ got d p
  unfolding many
  many_zero d p j e = rw e

  many_suc : (d : List A) (p j i : ℕ) → j ≡ suc i → many one j d s p ≡ and_then (one d s p) (λ x next. many one i (d ++ (x ∷ [])) s next)
  unfolding many
  many_suc d p j i e = rw e

  pub walk_starts : Walk one n s from 0 from []
  walk_starts = record { within = omega arith; same = ap (λ (j : ℕ). many one j [] s from) (omega arith); so_far = refl }

  module _ {i at : ℕ} {done : List A} (w : Walk one n s from i at done) where
    pub walk_more : {x : A} {next : ℕ} → i < n → one done s at ≡ got x next → Walk one n s from (i + 1) next (done ++ (x ∷ []))
    walk_more {x} {next} l e = record {
      within = omega arith;
      same = (sym (rw e at (many_suc done at (n - i) (n - (i + 1)) (omega arith)))) ∙ w.same;
      so_far = length_snoc done x ∙ ap (λ (j : ℕ). j + 1) w.so_far;
    }

    pub walk_refused : {f : Fault} → i < n → one done s at ≡ refused f → many one n [] s from ≡ refused f
    walk_refused l e = sym w.same ∙ rw e at (many_suc done at (n - i) (n - (i + 1)) (omega arith))

    pub walk_ends : n ≤ i → many one n [] s from ≡ got done at
    walk_ends l = sym w.same ∙ many_zero done at (n - i) (omega arith)

pub many_length : {A : Type 0} (one : List A → Reading A) (s : List ℕ) (n : ℕ) (done : List A) (at : ℕ) (l : List A) (p : ℕ) → many one n done s at ≡ got l p → length l ≡ length done + n
unfolding many
many_length {A} one s zero done at l p e = let z : done ≡ l = cc in let y = ap (λ (m : List A). length m) z in omega arith
many_length {A} one s (suc n) done at l p e =
    let z = and_then_got (one done s at) _ e in
    let h = many_length one s n (done ++ (z.0 ∷ [])) z.1 l p z.3 in
    let g = length_snoc done z.0 in
    omega arith

all_snoc : {A : Type 0} (P : A → Type 0) (l : List A) (x : A) → All P l → P x → All P (l ++ (x ∷ []))
all_snoc P [] x a p = (p, tt)
all_snoc P (y ∷ l) x a p = (a.0, all_snoc P l x a.1 p)

pub many_all : {A : Type 0} (P : A → Type 0) (one : List A → Reading A) (s : List ℕ) → ((done : List A) (at : ℕ) (x : A) (p : ℕ) → one done s at ≡ got x p → P x)
    → (n : ℕ) (done : List A) (at : ℕ) (l : List A) (p : ℕ) → All P done → many one n done s at ≡ got l p → All P l
unfolding many
many_all {A} P one s h zero done at l p a e = let z : done ≡ l = cc in subst (All P) z a
many_all {A} P one s h (suc n) done at l p a e =
    let z = and_then_got (one done s at) _ e in
    many_all P one s h n (done ++ (z.0 ∷ [])) z.1 l p (all_snoc P done z.0 a (h done at z.0 z.1 z.2)) z.3
