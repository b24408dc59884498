-- The laws of every way to draw a row from lists, in specs/Laws/Choices.antt: they are all (`choices_enum`, `beginnings_enum`), and
-- they ascend where the lists do (`choices_ascend`).
-- Assumes nothing.
use Rattle.std.specs.Prelude.{◌≡◌, refl, ◌⊎◌, ℕ, zero, suc, ◌*◌, ◌^◌, ◌≤◌, ◌<◌, length, get_or}
use Rattle.std.proofs.Common.{sym, ap, subst, ◌∙◌, inl, inr, not-suc-le-zero, le_of_eq, mul-le-mul, arith, length-append}
use mathlib.Core.List.Memᴰ
use mathlib.Core.List.{List, [], ◌∷◌, ◌++◌, map, head-eq_of_cons-eq, tail-eq_of_cons-eq}
use Rattle.std.proofs.Math.Nat.{pow-zero, pow-succ'}
use Rattle.std.proofs.lemmas.List.{length-map}
use Rattle.ground.specs.Meanings.Exactly.{◌∈◌, Once, Enumerates}
use Rattle.ground.specs.Meanings.Group.{at, ◌≼◌}
use Rattle.ground.specs.Meanings.Listing.{Ascending}
use Rattle.ground.proofs.Laws.Lists.{nil_of}
use Rattle.ground.specs.Laws.Enumerations.{filter, kept}
use Rattle.ground.proofs.Laws.Enumerations.{enum_append, enum_iff, once_map, filter_in}
use Rattle.ground.specs.Laws.Sheets.{Ascends}
use Rattle.ground.specs.Laws.Choices.{Drawn, Begun, heads, choices, beginnings}

-- ---- heads

record Headed (l : List ℕ) (P : List ℕ → Type 0) (r : List ℕ) : Type 0 where
  first : ℕ
  rest : List ℕ
  is : first ∷ rest ≡ r
  among : first ∈ l
  follows : P rest

cons_enum : {P : List ℕ → Type 0} {R : List (List ℕ)} (c : ℕ) → Enumerates P R → Enumerates (λ (r : List ℕ). (s : List ℕ) × P s × (c ∷ s ≡ r)) (map (λ r. c ∷ r) R)
cons_enum {R = R} c e = record {
  once = once_map (λ r. c ∷ r) R e.once (λ x y mx my q. tail-eq_of_cons-eq q);
  sound = λ r m. let w = Memᴰ.of_map (λ s. c ∷ s) R m in (w.0, e.sound w.0 w.1, w.2);
  complete = λ r w. Memᴰ.cast (sym w.2) (Memᴰ.map (λ s. c ∷ s) (e.complete w.0 w.1));
}

heads_enum : {P : List ℕ → Type 0} {R : List (List ℕ)} (l : List ℕ) → Once l → Enumerates P R → Enumerates (Headed l P) (heads l R)
heads_enum [] d e = record { once = tt; sound = λ r m. absurd (Memᴰ.not-nil m); complete = λ r w. absurd (Memᴰ.not-nil w.among) }
heads_enum {P} (c ∷ l) d e =
    enum_iff
    (λ r t. elim t [
      | inl w ↦ record { first = c; rest = w.0; is = w.2; among = Memᴰ.head refl; follows = w.1 }
      | inr w ↦ record { first = w.first; rest = w.rest; is = w.is; among = Memᴰ.tail w.among; follows = w.follows }
    ])
    (λ r w. split r w (Memᴰ.cases_cons w.among))
    (enum_append (cons_enum c e) (heads_enum l d.1 e) (λ r v w. d.0 (Memᴰ.cast (head-eq_of_cons-eq (v.2 ∙ sym w.is)) w.among)))
  where
    split : (r : List ℕ) (w : Headed (c ∷ l) P r) → (w.first ≡ c) ⊎ (w.first ∈ l) → ((s : List ℕ) × P s × (c ∷ s ≡ r)) ⊎ Headed l P r
    split r w (inl q) = inl (w.rest, w.follows, ap (λ (z : ℕ). z ∷ w.rest) (sym q) ∙ w.is)
    split r w (inr m) = inr (record { first = w.first; rest = w.rest; is = w.is; among = m; follows = w.follows })

-- ---- a row from lists is a first carrier and a row from the other lists

from_cons : (l : List ℕ) (ls : List (List ℕ)) (c : ℕ) (r : List ℕ) → c ∈ l → ((i : ℕ) → i < length r → at r i ∈ get_or ls i []) → (i : ℕ) → i < suc (length r) → at (c ∷ r) i ∈ get_or (l ∷ ls) i []
from_cons l ls c r m f zero h = m
from_cons l ls c r m f (suc i) h = f i (omega arith)

from_tail : (l : List ℕ) (ls : List (List ℕ)) (c : ℕ) (r : List ℕ) → ((i : ℕ) → i < suc (length r) → at (c ∷ r) i ∈ get_or (l ∷ ls) i []) → (i : ℕ) → i < length r → at r i ∈ get_or ls i []
from_tail l ls c r f i h = f (suc i) (omega arith)

pub choices_enum : (ls : List (List ℕ)) → ((l : List ℕ) → l ∈ ls → Once l) → Enumerates (Drawn ls) (choices ls)
choices_enum [] f = record {
  once = (Memᴰ.not-nil, tt);
  sound = λ r m. elim (Memᴰ.cases_cons m) [ inl e ↦ subst (Drawn []) (sym e) (record { long = refl; from = λ i h. absurd (not-suc-le-zero h) }) | inr t ↦ absurd (Memᴰ.not-nil t) ];
  complete = λ r w. Memᴰ.head (nil_of r w.long);
}
choices_enum (l ∷ ls) f =
    enum_iff
    (λ r w. subst (Drawn (l ∷ ls)) w.is (record { long = ap suc w.follows.long; from = from_cons l ls w.first w.rest w.among w.follows.from }))
    (λ r. part r)
    (heads_enum l (f l (Memᴰ.head refl)) (choices_enum ls (λ m i. f m (Memᴰ.tail i))))
  where
    part : (r : List ℕ) → Drawn (l ∷ ls) r → Headed l (Drawn ls) r
    part [] w = absurd (omega (arith, w.long))
    part (c ∷ r) w = record { first = c; rest = r; is = refl; among = w.from zero (omega arith); follows = record { long = omega (arith, w.long); from = from_tail l ls c r w.from } }

-- nothing, or begun
begun_or_nil : (ls : List (List ℕ)) → Enumerates (Begun ls) (beginnings ls) → Enumerates (λ (r : List ℕ). (r ≡ []) ⊎ Begun ls r) ([] ∷ beginnings ls)
begun_or_nil ls e = record {
  once = (λ m. let w = e.sound [] m in omega (arith, w.some), e.once);
  sound = λ r m. elim (Memᴰ.cases_cons m) [ inl q ↦ inl q | inr t ↦ inr (e.sound r t) ];
  complete = λ r w. elim w [ inl q ↦ Memᴰ.head q | inr b ↦ Memᴰ.tail (e.complete r b) ];
}

pub beginnings_enum : (ls : List (List ℕ)) → ((l : List ℕ) → l ∈ ls → Once l) → Enumerates (Begun ls) (beginnings ls)
beginnings_enum [] f = record { once = tt; sound = λ r m. absurd (Memᴰ.not-nil m); complete = λ r w. absurd (let a = w.some in let b = w.short in omega arith) }
beginnings_enum (l ∷ ls) f =
    enum_iff
    (λ r w. subst (Begun (l ∷ ls)) w.is (whole w.first w.rest w.among w.follows))
    (λ r. part r)
    (heads_enum l (f l (Memᴰ.head refl)) (begun_or_nil ls (beginnings_enum ls (λ m i. f m (Memᴰ.tail i)))))
  where
    whole : (c : ℕ) (r : List ℕ) → c ∈ l → (r ≡ []) ⊎ Begun ls r → Begun (l ∷ ls) (c ∷ r)
    whole c r m (inl e) = subst (λ (s : List ℕ). Begun (l ∷ ls) (c ∷ s)) (sym e) (record { some = omega arith; short = omega arith; from = from_cons l ls c [] m (λ i h. absurd (not-suc-le-zero h)) })
    whole c r m (inr b) = record { some = omega arith; short = omega (arith, b.short); from = from_cons l ls c r m b.from }

    rest : (c : ℕ) (r : List ℕ) → Begun (l ∷ ls) (c ∷ r) → (r ≡ []) ⊎ Begun ls r
    rest c [] w = inl refl
    rest c (x ∷ r) w = inr (record { some = omega arith; short = omega (arith, w.short); from = from_tail l ls c (x ∷ r) w.from })

    part : (r : List ℕ) → Begun (l ∷ ls) r → Headed l (λ (s : List ℕ). (s ≡ []) ⊎ Begun ls s) r
    part [] w = absurd (omega (arith, w.some))
    part (c ∷ r) w = record { first = c; rest = r; is = refl; among = w.from zero (omega arith); follows = rest c r w }

-- ---- order

pub ascending_append : (xs ys : List (List ℕ)) → Ascending xs → Ascending ys → ((a b : List ℕ) → a ∈ xs → b ∈ ys → a ≼ b) → Ascending (xs ++ ys)
ascending_append [] ys s t h = t
ascending_append (x ∷ xs) ys s t h = (
  λ b m. elim (Memᴰ.append_cases xs m) [ inl i ↦ s.0 b i | inr i ↦ h x b (Memᴰ.head refl) i ],
  ascending_append xs ys s.1 t (λ a b i j. h a b (Memᴰ.tail i) j),
)

ascending_cons : (c : ℕ) (R : List (List ℕ)) → Ascending R → Ascending (map (λ r. c ∷ r) R)
ascending_cons c [] a = tt
ascending_cons c (r ∷ R) a = (
  λ s m. let w = Memᴰ.of_map (λ t. c ∷ t) R m in subst (λ (z : List ℕ). (c ∷ r) ≼ z) w.2 (inr (refl, a.0 w.0 w.1)),
  ascending_cons c R a.1,
)

heads_in : (l : List ℕ) (R : List (List ℕ)) (r : List ℕ) → r ∈ heads l R → (c : ℕ) × c ∈ l × ((s : List ℕ) × (c ∷ s ≡ r))
heads_in [] R r m = absurd (Memᴰ.not-nil m)
heads_in (c ∷ l) R r m =
    elim (Memᴰ.append_cases (map (λ s. c ∷ s) R) m) [
      | inl t ↦ let w = Memᴰ.of_map (λ s. c ∷ s) R t in (c, Memᴰ.head refl, (w.0, w.2))
      | inr t ↦ let w = heads_in l R r t in (w.0, Memᴰ.tail w.1, w.2)
    ]

heads_ascend : (l : List ℕ) (R : List (List ℕ)) → Ascends l → Ascending R → Ascending (heads l R)
heads_ascend [] R a b = tt
heads_ascend (c ∷ l) R a b =
    ascending_append (map (λ r. c ∷ r) R) (heads l R) (ascending_cons c R b) (heads_ascend l R a.1 b)
    (λ x y i j.
    let v = Memᴰ.of_map (λ r. c ∷ r) R i in
    let w = heads_in l R y j in
    subst (λ (z : List ℕ). z ≼ y) v.2 (subst (λ (z : List ℕ). (c ∷ v.0) ≼ z) w.2.1 (inl (a.0 w.0 w.1))))

pub choices_ascend : (ls : List (List ℕ)) → ((l : List ℕ) → l ∈ ls → Ascends l) → Ascending (choices ls)
choices_ascend [] f = (λ s m. absurd (Memᴰ.not-nil m), tt)
choices_ascend (l ∷ ls) f = heads_ascend l (choices ls) (f l (Memᴰ.head refl)) (choices_ascend ls (λ m i. f m (Memᴰ.tail i)))

kept_ascend : {P : List ℕ → Type 0} (f : (r : List ℕ) → Dec (P r)) (r : List ℕ) (l : List (List ℕ)) → ((s : List ℕ) → s ∈ l → r ≼ s) → Ascending (filter f l) → (d : Dec (P r)) → Ascending (kept d r (filter f l))
kept_ascend f r l a b (yes q) = (λ s m. a s (filter_in f l s m).0, b)
kept_ascend f r l a b (no n) = b

pub filter_ascend : {P : List ℕ → Type 0} (f : (r : List ℕ) → Dec (P r)) (l : List (List ℕ)) → Ascending l → Ascending (filter f l)
filter_ascend f [] a = tt
filter_ascend f (r ∷ l) a = kept_ascend f r l a.0 (filter_ascend f l a.1) (f r)

-- ---- how many

length_heads : (l : List ℕ) (R : List (List ℕ)) → length (heads l R) ≡ length l * length R
length_heads [] R = omega arith
length_heads (c ∷ l) R =
    omega (arith, length-append (map (λ r. c ∷ r) R) (heads l R), length-map R (λ (r : List ℕ). c ∷ r), length_heads l R)

-- at most w to the number of lists, where no list has more than w carriers
pub choices_most : (w : ℕ) (ls : List (List ℕ)) → ((l : List ℕ) → l ∈ ls → length l ≤ w) → length (choices ls) ≤ w ^ length ls
choices_most w [] f = le_of_eq (sym (pow-zero w))
choices_most w (l ∷ ls) f =
    rw (length_heads l (choices ls), pow-succ' w (length ls))
    (mul-le-mul (f l (Memᴰ.head refl)) (choices_most w ls (λ m i. f m (Memᴰ.tail i))))
