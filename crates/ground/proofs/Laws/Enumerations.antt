-- The laws of enumerations: lists that have everything with a property, once. `filter` is defined in specs/Laws/Enumerations.antt.
--
-- Two enumerations of one property have one length (`same_count`), so a number stated by `Counts` is settled (`counts_same`).
-- Enumerations are joined (`enum_append`), read as those of an equal property (`enum_iff`), and filtered (`enum_filter`).
-- The one argument behind it is the pigeonhole: a list with nothing twice is no longer than one that has all of it.
-- Assumes nothing.
use Rattle.std.specs.Prelude.{◌≡◌, refl, List, [], ◌∷◌, ◌++◌, map, ◌⊎◌, ℕ, suc, ◌≤◌, length}
use Rattle.std.proofs.Common.{sym, ap, ◌∙◌, subst, inl, inr, zero-le, arith}
use mathlib.Core.List.Memᴰ
use Rattle.ground.specs.Meanings.Exactly.{◌∈◌, Once, Enumerates, Counts}
use Rattle.ground.specs.Laws.Enumerations.{without, kept, filter}

-- l without one member
module _ {ℓ} {A : Type ℓ} where
  length_without : {a : A} {l : List A} (m : a ∈ l) → length l ≡ suc (length (without m))
  length_without (Memᴰ.head e) = refl
  length_without (Memᴰ.tail m) = ap suc (length_without m)

  -- a member that is another one stays
  stays : {a b : A} {l : List A} (m : a ∈ l) → ¬ (b ≡ a) → b ∈ l → b ∈ without m
  stays (Memᴰ.head e) d n = elim (Memᴰ.cases_cons n) [ inl q ↦ absurd (d (q ∙ sym e)) | inr t ↦ t ]
  stays {a} {b} (Memᴰ.tail {x = x} {xs = xs} m) d n = go (λ n'. stays m d n') (Memᴰ.cases_cons n)
    where
      go : (b ∈ xs → b ∈ without m) → (b ≡ x) ⊎ (b ∈ xs) → b ∈ (x ∷ without m)
      go f (inl q) = Memᴰ.head q
      go f (inr t) = Memᴰ.tail (f t)

  -- a list with no element twice is no longer than one that has all of its elements
  pub pigeonhole : (xs ys : List A) → Once xs → ((a : A) → a ∈ xs → a ∈ ys) → length xs ≤ length ys
  pigeonhole [] ys d s = zero-le
  pigeonhole (x ∷ xs) ys d s =
      let m = s x (Memᴰ.head refl) in
      let r : length xs ≤ length (without m) =
      pigeonhole xs (without m) d.1 (λ a n. stays m (λ (e : a ≡ x). d.0 (Memᴰ.cast (sym e) n)) (s a (Memᴰ.tail n))) in
      omega (arith, length_without m)

-- two enumerations of one thing have the same length
pub same_count : {A : Type 0} {P : A → Type 0} {l m : List A} → Enumerates P l → Enumerates P m → length l ≡ length m
same_count {l = l} {m = m} e f =
    let a = pigeonhole l m e.once (λ x h. f.complete x (e.sound x h)) in
    let b = pigeonhole m l f.once (λ x h. e.complete x (f.sound x h)) in
    omega arith

pub counts_same : {A : Type 0} {P : A → Type 0} {m n : ℕ} → Counts P m → Counts P n → m ≡ n
counts_same a b = sym a.number ∙ same_count a.enumerates b.enumerates ∙ b.number

-- ---- enumerations of equal properties, of two that exclude each other, and of the images of a function

pub enum_iff : {A : Type 0} {P Q : A → Type 0} {l : List A} → ((x : A) → P x → Q x) → ((x : A) → Q x → P x) → Enumerates P l → Enumerates Q l
enum_iff f g e = record { once = e.once; sound = λ x m. f x (e.sound x m); complete = λ x q. e.complete x (g x q) }

pub once_append : {A : Type 0} (l m : List A) → Once l → Once m → ((x : A) → x ∈ l → x ∈ m → ⊥) → Once (l ++ m)
once_append [] m a b d = b
once_append (x ∷ l) m a b d = (
  λ h. elim (Memᴰ.append_cases l h) [ inl t ↦ a.0 t | inr t ↦ d x (Memᴰ.head refl) t ],
  once_append l m a.1 b (λ y h t. d y (Memᴰ.tail h) t),
)

pub enum_append : {A : Type 0} {P Q : A → Type 0} {l m : List A} → Enumerates P l → Enumerates Q m → ((x : A) → P x → Q x → ⊥) → Enumerates (λ x. P x ⊎ Q x) (l ++ m)
enum_append {l = l} {m = m} e f d =
    record {
      once = once_append l m e.once f.once (λ x a b. d x (e.sound x a) (f.sound x b));
      sound = λ x h. elim (Memᴰ.append_cases l h) [ inl t ↦ inl (e.sound x t) | inr t ↦ inr (f.sound x t) ];
      complete = λ x w. elim w [ inl p ↦ Memᴰ.append_left m (e.complete x p) | inr q ↦ Memᴰ.append_right l (f.complete x q) ];
    }

pub once_map : {A B : Type 0} (f : A → B) (l : List A) → Once l → ((x y : A) → x ∈ l → y ∈ l → f x ≡ f y → x ≡ y) → Once (map f l)
once_map f [] a i = tt
once_map f (x ∷ l) a i = (
  λ h. let r = Memᴰ.of_map f l h in a.0 (Memᴰ.cast (i x r.0 (Memᴰ.head refl) (Memᴰ.tail r.1) (sym r.2)) r.1),
  once_map f l a.1 (λ y z my mz e. i y z (Memᴰ.tail my) (Memᴰ.tail mz) e),
)

pub counts_iff : {A : Type 0} {P Q : A → Type 0} {n : ℕ} → ((x : A) → P x → Q x) → ((x : A) → Q x → P x) → Counts P n → Counts Q n
counts_iff f g c = record { list = c.list; enumerates = enum_iff f g c.enumerates; number = c.number }

-- ---- those of an enumeration that have a second property

module _ {A : Type 0} {Q : A → Type 0} (q? : (x : A) → Dec (Q x)) where
  kept_in : (a : A) (l : List A) (x : A) → (x ∈ filter q? l → (x ∈ l) × Q x) → (d : Dec (Q a)) → x ∈ kept d a (filter q? l) → (x ∈ (a ∷ l)) × Q x
  kept_in a l x f (yes q) m = elim (Memᴰ.cases_cons m) [ inl e ↦ (Memᴰ.head e, subst Q (sym e) q) | inr t ↦ (Memᴰ.tail (f t).0, (f t).1) ]
  kept_in a l x f (no g) m = (Memᴰ.tail (f m).0, (f m).1)

  pub filter_in : (l : List A) (x : A) → x ∈ filter q? l → (x ∈ l) × Q x
  filter_in [] x m = absurd (Memᴰ.not-nil m)
  filter_in (a ∷ l) x m = kept_in a l x (filter_in l x) (q? a) m

  in_kept : (a : A) (l : List A) (x : A) → Q x → (x ∈ l → x ∈ filter q? l) → (d : Dec (Q a)) → x ∈ (a ∷ l) → x ∈ kept d a (filter q? l)
  in_kept a l x h f (yes q) m = elim (Memᴰ.cases_cons m) [ inl e ↦ Memᴰ.head e | inr t ↦ Memᴰ.tail (f t) ]
  in_kept a l x h f (no g) m = elim (Memᴰ.cases_cons m) [ inl e ↦ absurd (g (subst Q e h)) | inr t ↦ f t ]

  pub in_filter : (l : List A) (x : A) → x ∈ l → Q x → x ∈ filter q? l
  in_filter [] x m h = absurd (Memᴰ.not-nil m)
  in_filter (a ∷ l) x m h = in_kept a l x h (λ t. in_filter l x t h) (q? a) m

  kept_once : (a : A) (l : List A) → ¬ (a ∈ l) → Once (filter q? l) → (d : Dec (Q a)) → Once (kept d a (filter q? l))
  kept_once a l f o (yes q) = (λ m. f (filter_in l a m).0, o)
  kept_once a l f o (no g) = o

  filter_once : (l : List A) → Once l → Once (filter q? l)
  filter_once [] d = tt
  filter_once (a ∷ l) d = kept_once a l d.0 (filter_once l d.1) (q? a)

  pub enum_filter : {P : A → Type 0} {l : List A} → Enumerates P l → Enumerates (λ x. P x × Q x) (filter q? l)
  enum_filter {l = l} e = record {
    once = filter_once l e.once;
    sound = λ x m. let w = filter_in l x m in (e.sound x w.0, w.1);
    complete = λ x w. in_filter l x (e.complete x w.0) w.1;
  }
