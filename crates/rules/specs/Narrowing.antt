-- Narrowing: the rules that end at a riser are asked one after another, and the carriers that break one are dropped.
--
--   mask_of B p r                 the mask that the rule at place r of the book has for the carrier of its other riser in the row p
--   Askable others row r         the rule at place r, its other riser and that riser's carrier in the row are within the tables
--   Kept B d p next c            c goes with the rules of riser d that stand before the place `next`
--   Narrowed B d p m next left   `left` has the carriers of m that are in the list of riser d and go with those rules
--
-- What is left once all rules are asked is what stands (`narrowed_whole`), and so it is once no carrier is left (`narrowed_none`).
-- Assumes nothing.
use Rattle.std.specs.Prelude.{◌≡◌, List, ℕ, ◌+◌, ◌*◌, ◌-◌, ◌≤◌, ◌<◌, length, take}
use Rattle.std.proofs.Common.{sym, ap, subst, ◌∙◌, arith, get_or-take, length-take-le}
use Rattle.std.proofs.Math.Decide.{ℕ_discrete}
use Rattle.ground.specs.Meanings.Group.{at}
use Rattle.ground.specs.Meanings.Sheet.{most_carriers, most_risers}
use Rattle.ground.proofs.Laws.Lists.{mem_at}
use Rattle.ground.specs.Laws.Rows.{Below}
use Rattle.masks.specs.Masks.{Has, has_none, Both}
use Rattle.rules.specs.declared.Book.{Book}
use Rattle.rules.specs.Books.{Orderly, Passes, Standing}

abbrev pub mask_of : Book → List ℕ → ℕ → ℕ
mask_of B p r = at B.masks (r * most_carriers + at p (at B.others r))

pub record Askable (others row : List ℕ) (r : ℕ) : Type 0 where
  pub place : r < most_risers * most_risers
  pub riser : at others r < most_risers
  pub carrier : at row (at others r) < most_carriers

abbrev pub Kept : Book → ℕ → List ℕ → ℕ → ℕ → Type 0
Kept B d p next c = (r : ℕ) → d * most_risers ≤ r → r < next → Has (mask_of B p r) c

pub record Narrowed (B : Book) (d : ℕ) (p : List ℕ) (m next left : ℕ) : Type 0 where
  pub from : d * most_risers ≤ next
  pub to : next ≤ d * most_risers + at B.counts d
  pub all : (c : ℕ) → Has m c → Has (at B.lists d) c → Kept B d p next c → Has left c
  pub only : (c : ℕ) → Has left c → Has m c × Has (at B.lists d) c × Kept B d p next c

-- ---- the walk

pub narrowed_start : {B : Book} {d m left : ℕ} (p : List ℕ) → Both (at B.lists d) m left → Narrowed B d p m (d * most_risers) left
narrowed_start p b = record {
  from = omega arith;
  to = omega arith;
  all = λ c f g k. b.all c g f;
  only = λ c h. ((b.shared c h).1, (b.shared c h).0, λ r l u. absurd (omega arith));
}

module _ {B : Book} {d : ℕ} {p : List ℕ} {m next left : ℕ} (N : Narrowed B d p m next left) where
  -- a rule more is asked
  narrowed_more : {mask fewer : ℕ} → next < d * most_risers + at B.counts d → mask ≡ mask_of B p next → Both left mask fewer → Narrowed B d p m (next + 1) fewer
  narrowed_more {mask} {fewer} lt e b = asked (rw e at b)
    where
      kept : (c : ℕ) → Kept B d p next c → Has (mask_of B p next) c → (r : ℕ) → d * most_risers ≤ r → r < next + 1 → Dec (r ≡ next) → Has (mask_of B p r) c
      kept c k h r l u (yes e) = rw e h
      kept c k h r l u (no f) = k r l (omega arith)

      asked : Both left (mask_of B p next) fewer → Narrowed B d p m (next + 1) fewer
      asked b = record {
        from = omega (arith, N.from);
        to = omega arith;
        all = λ c f g k. b.all c (N.all c f g (λ r l u. k r l (omega arith))) (k next N.from (omega arith));
        only = λ c h. let was = N.only c (b.shared c h).0 in (was.0, was.1, λ r l u. kept c was.2 (b.shared c h).1 r l u (ℕ_discrete r next));
      }

-- the next rule of riser d, asked of a whole row: its other riser is before d, so that it is asked of the row's first d carriers
module _ {B : Book} {d : ℕ} (row : List ℕ) {m next left : ℕ} (o : Orderly B d) (N : Narrowed B d (take d row) m next left) (more : next < d * most_risers + at B.counts d) where
  before : at B.others next < d
  before = subst (λ (r : ℕ). at B.others r < d) (omega (arith, N.from)) (o.before (next - d * most_risers) (omega (arith, N.from)))

  same : at (take d row) (at B.others next) ≡ at row (at B.others next)
  same = get_or-take d row (at B.others next) 0 before

  pub narrowed_askable : d < most_risers → length row ≡ most_risers → Below most_carriers (take d row) → Askable B.others row next
  narrowed_askable high long b = record {
    place = omega (arith, o.few);
    riser = omega (arith, before);
    carrier = rw same at (b (at (take d row) (at B.others next)) (mem_at (take d row) (at B.others next) (omega (arith, before, length-take-le d row (omega arith)))));
  }

  pub narrowed_asked : {mask fewer : ℕ} → mask ≡ mask_of B row next → Both left mask fewer → Narrowed B d (take d row) m (next + 1) fewer
  narrowed_asked e = narrowed_more N more (e ∙ ap (λ (u : ℕ). at B.masks (next * most_carriers + u)) (sym same))

-- a carrier that passes goes with each rule, by its place
pub passes_kept : {B : Book} {p : List ℕ} {c next : ℕ} → Passes B p c → next ≤ length p * most_risers + at B.counts (length p) → Kept B (length p) p next c
passes_kept {p = p} s to r l u =
    let place : r ≡ length p * most_risers + (r - length p * most_risers) = omega arith in
    rw place (s.keeps (r - length p * most_risers) (omega arith))

-- what stands after the row p, of the carriers of m: d is the row's length
module _ {B : Book} {p : List ℕ} {m next left : ℕ} (N : Narrowed B (length p) p m next left) where
  whole : length p * most_risers + at B.counts (length p) ≤ next → Standing B p m left
  whole end = record {
    all = λ c h s. N.all c h s.listed (passes_kept s N.to);
    only = λ c h. let was = N.only c h in (was.0, record { listed = was.1; keeps = λ j l. was.2 (length p * most_risers + j) (omega arith) (omega arith) });
  }

  none : left ≡ 0 → Standing B p m 0
  none z = record {
    all = λ c h s. rw z at (N.all c h s.listed (passes_kept s N.to));
    only = λ c h. absurd (has_none c h);
  }

module _ {B : Book} {d : ℕ} (row : List ℕ) {m next left : ℕ} (N : Narrowed B d (take d row) m next left) (high : d ≤ length row) where
  -- all rules are asked
  pub narrowed_whole : d * most_risers + at B.counts d ≤ next → Standing B (take d row) m left
  narrowed_whole end = whole {next = next} {left = left} (rw (length-take-le d row high) N) (rw (length-take-le d row high) end)

  -- no carrier is left
  pub narrowed_none : left ≡ 0 → Standing B (take d row) m 0
  narrowed_none = none {next = next} {left = left} (rw (length-take-le d row high) N)
