-- Writing the book: its rules are put down one after another, riser by riser, and what is before the place of the next one stays.
--
--   most_ends                  how many places the book has for rules
--   FewAt d ends               no number that the table of ends has for riser d is above that of the last rule
--   Alike n l m                the lists l and m are the same up to place n
--   Masked k T q r B B'        the masks of rule q are written at place r, for k carriers of its other riser; B and B' are the book before
--                              and after
--   Rule k T d e B r           what stands at place r of the book is a rule that binds d and a riser before e, with its masks
--   Rules k T d e next B       all these rules, and no others, stand from d · 12 on and before the place `next`
--   Written k T d e next B B'  the same of B', and what B had for the risers before d is still there
--   Page k T B d               the book B has the list and the rules that the tables T have for riser d
--   Pages k T d B              it has those of each riser before d
--
-- A turn of each loop is a law: `written_none` and `written_more`; `pages_more`. A book that has the pages of all risers says what the
-- tables say (`pages_show`).
-- Assumes nothing.
use Rattle.std.specs.Prelude.{◌≡◌, refl, List, ℕ, ◌+◌, ◌*◌, ◌-◌, ◌≤◌, ◌<◌, length, set}
use Rattle.std.proofs.Common.{sym, ◌∙◌, arith, get_or-set_same, get_or-set_other}
use Rattle.std.proofs.Math.Decide.{ℕ_discrete}
use Rattle.ground.specs.Meanings.Group.{at}
use Rattle.ground.specs.Meanings.Sheet.{most_carriers, most_risers, most_rules, most_pairs}
use Rattle.ground.proofs.Laws.Lists.{mem_at}
use Rattle.ground.specs.Laws.Rows.{Below}
use Rattle.masks.specs.Masks.{Marked}
use Rattle.ground.specs.declared.Tables.{Tables}
use Rattle.ground.specs.Laws.Tables.{Stands}
use Rattle.rules.specs.declared.Book.{Book}
use Rattle.rules.specs.Books.{Passes, Shows}
use Rattle.rules.specs.Narrowing.{passes_kept}

abbrev pub most_ends : ℕ
most_ends = most_risers * most_risers

abbrev pub FewAt : ℕ → List ℕ → Type 0
FewAt d ends = (e : ℕ) → e < d → at ends (d * most_risers + e) ≤ most_rules

-- ---- what is before a place stays

pub record Alike (n : ℕ) (l m : List ℕ) : Type 0 where
  pub same : (i : ℕ) → i < n → at m i ≡ at l i

pub alike_self : (n : ℕ) (l : List ℕ) → Alike n l l
alike_self n l = record { same = λ i b. refl }

pub alike_set : {n : ℕ} {l m : List ℕ} (i v : ℕ) → n ≤ i → Alike n l m → Alike n l (set m i v)
alike_set {m = m} i v le s = record { same = λ j b. get_or-set_other m i j v 0 (λ e. omega arith) ∙ s.same j b }

pub alike_then : {n o : ℕ} {l m r : List ℕ} → Alike n l m → n ≤ o → Alike o m r → Alike n l r
alike_then a le b = record { same = λ i lt. b.same i (omega arith) ∙ a.same i lt }

-- ---- the masks of one rule

pub record Masked (k : ℕ) (T : Tables) (q rule : ℕ) (B B' : Book) : Type 0 where
  pub lists_kept : B'.lists ≡ B.lists
  pub counts_kept : B'.counts ≡ B.counts
  pub others_kept : B'.others ≡ B.others
  pub masks_kept : Alike (rule * most_carriers) B.masks B'.masks
  pub marked : (v : ℕ) → v < k → Marked T.allowed (q * most_pairs + v * most_carriers) k (at B'.masks (rule * most_carriers + v))

-- ---- the rules of one riser

pub record Rule (k : ℕ) (T : Tables) (d e : ℕ) (B : Book) (r : ℕ) : Type 0 where
  pub starts : at B.others r < e
  pub some : ¬ (at T.ends (d * most_risers + at B.others r) ≡ 0)
  pub marked : (u : ℕ) → u < k → Marked T.allowed ((at T.ends (d * most_risers + at B.others r) - 1) * most_pairs + u * most_carriers) k (at B.masks (r * most_carriers + u))

pub record Rules (k : ℕ) (T : Tables) (d e next : ℕ) (B : Book) : Type 0 where
  pub from : d * most_risers ≤ next
  pub few : next ≤ d * most_risers + e
  pub rule : (r : ℕ) → d * most_risers ≤ r → r < next → Rule k T d e B r
  pub all : (a : ℕ) → a < e → ¬ (at T.ends (d * most_risers + a) ≡ 0) → (r : ℕ) × (d * most_risers ≤ r) × (r < next) × (at B.others r ≡ a)

pub record Written (k : ℕ) (T : Tables) (d e next : ℕ) (B B' : Book) : Type 0 where
  pub rules : Rules k T d e next B'
  pub lists_kept : B'.lists ≡ B.lists
  pub counts_kept : B'.counts ≡ B.counts
  pub others_kept : Alike (d * most_risers) B.others B'.others
  pub masks_kept : Alike (d * most_risers * most_carriers) B.masks B'.masks

-- what is written below a place stays where the books are the same up to it
rule_kept : {k : ℕ} {T : Tables} {d e r n : ℕ} {B B' : Book} → k ≤ most_carriers → r < n
    → Alike n B.others B'.others → Alike (n * most_carriers) B.masks B'.masks → Rule k T d e B r → Rule k T d e B' r
rule_kept {r = r} wide lt o m h = record {
  starts = rw (o.same r lt) h.starts;
  some = rw (o.same r lt) h.some;
  marked = λ u b. rw (o.same r lt, m.same (r * most_carriers + u) (omega arith)) (h.marked u b);
}

rule_later : {k : ℕ} {T : Tables} {d e r : ℕ} {B : Book} → Rule k T d e B r → Rule k T d (e + 1) B r
rule_later h = record { starts = omega (arith, h.starts); some = h.some; marked = h.marked }

module _ {k : ℕ} {T : Tables} {d e next : ℕ} {B : Book} (R : Rules k T d e next B) where
  pub rules_kept : {n : ℕ} {B' : Book} → k ≤ most_carriers → next ≤ n → Alike n B.others B'.others → Alike (n * most_carriers) B.masks B'.masks
      → Rules k T d e next B'
  rules_kept wide le o m = record {
    from = R.from;
    few = R.few;
    rule = λ r f t. rule_kept wide (omega arith) o m (R.rule r f t);
    all = λ a lt g. let w = R.all a lt g in (w.0, w.1, w.2, o.same w.0 (omega (arith, w.2)) ∙ w.3);
  }

  -- no rule starts at e
  pub rules_none : at T.ends (d * most_risers + e) ≡ 0 → Rules k T d (e + 1) next B
  rules_none z = record {
    from = R.from;
    few = omega (arith, R.few);
    rule = λ r f t. rule_later (R.rule r f t);
    all = λ a lt g. all a lt g (ℕ_discrete a e);
  }
    where
      all : (a : ℕ) → a < e + 1 → ¬ (at T.ends (d * most_risers + a) ≡ 0) → Dec (a ≡ e) → (r : ℕ) × (d * most_risers ≤ r) × (r < next) × (at B.others r ≡ a)
      all a lt g (yes q) = absurd (g (rw q z))
      all a lt g (no q) = R.all a (omega arith) g

  -- the rule that starts at e is written
  pub rules_more : Rule k T d (e + 1) B next → at B.others next ≡ e → Rules k T d (e + 1) (next + 1) B
  rules_more h s = record {
    from = omega (arith, R.from);
    few = omega (arith, R.few);
    rule = λ r f t. rule r f t (ℕ_discrete r next);
    all = λ a lt g. all a lt g (ℕ_discrete a e);
  }
    where
      rule : (r : ℕ) → d * most_risers ≤ r → r < next + 1 → Dec (r ≡ next) → Rule k T d (e + 1) B r
      rule r f t (yes q) = rw q h
      rule r f t (no q) = rule_later (R.rule r f (omega arith))

      all : (a : ℕ) → a < e + 1 → ¬ (at T.ends (d * most_risers + a) ≡ 0) → Dec (a ≡ e) → (r : ℕ) × (d * most_risers ≤ r) × (r < next + 1) × (at B.others r ≡ a)
      all a lt g (yes q) = (next, R.from, omega arith, s ∙ sym q)
      all a lt g (no q) = let w = R.all a (omega arith) g in (w.0, w.1, omega (arith, w.2), w.3)

pub written_start : {k : ℕ} {T : Tables} {d : ℕ} {B : Book} → Written k T d 0 (d * most_risers) B B
written_start {B = B} = record {
  rules = record { from = omega arith; few = omega arith; rule = λ r f t. absurd (omega arith); all = λ a lt. absurd (omega arith) };
  lists_kept = refl;
  counts_kept = refl;
  others_kept = alike_self _ B.others;
  masks_kept = alike_self _ B.masks;
}

module _ {k : ℕ} {T : Tables} {d e next : ℕ} {B B' : Book} (W : Written k T d e next B B') where
  pub written_none : at T.ends (d * most_risers + e) ≡ 0 → Written k T d (e + 1) next B B'
  written_none z = record { rules = rules_none W.rules z; lists_kept = W.lists_kept; counts_kept = W.counts_kept; others_kept = W.others_kept; masks_kept = W.masks_kept }

  -- the other riser of the next rule is written, and then its masks
  pub written_more : {q : ℕ} {new : Book} → k ≤ most_carriers → next < length B'.others → at T.ends (d * most_risers + e) ≡ q + 1
      → Masked k T q next (record B' { others = set B'.others next e }) new → Written k T d (e + 1) (next + 1) B new
  written_more {q} {new} wide lt read M = record {
    rules = rules_more (rules_kept W.rules wide (omega arith) others M.masks_kept) rule there;
    lists_kept = M.lists_kept ∙ W.lists_kept;
    counts_kept = M.counts_kept ∙ W.counts_kept;
    others_kept = alike_then W.others_kept W.rules.from others;
    masks_kept = alike_then W.masks_kept (omega (arith, W.rules.from)) M.masks_kept;
  }
    where
      others : Alike next B'.others new.others
      others = rw M.others_kept (alike_set next e (omega arith) (alike_self next B'.others))

      there : at new.others next ≡ e
      there = rw M.others_kept (get_or-set_same B'.others next e 0 lt)

      back : q + 1 - 1 ≡ q
      back = omega arith

      rule : Rule k T d (e + 1) new next
      rule = record {
        starts = omega (arith, there);
        some = λ z. absurd (omega (arith, rw there at z));
        marked = λ u b. rw (there, read, back) (M.marked u b);
      }

-- ---- the pages

pub record Page (k : ℕ) (T : Tables) (B : Book) (d : ℕ) : Type 0 where
  pub listed : Marked T.listed (d * most_carriers) k (at B.lists d)
  pub rules : Rules k T d d (d * most_risers + at B.counts d) B

pub record Pages (k : ℕ) (T : Tables) (d : ℕ) (B : Book) : Type 0 where
  pub page : (a : ℕ) → a < d → Page k T B a

pub pages_start : {k : ℕ} {T : Tables} {B : Book} → Pages k T 0 B
pages_start = record { page = λ a lt. absurd (omega arith) }

-- the book with a riser more: m is its list, and j how many rules end there
module _ {k d : ℕ} {T : Tables} {B : Book} (P : Pages k T d B) (wide : k ≤ most_carriers) (high : d < most_risers) (lists : d < length B.lists) (counts : d < length B.counts) {m : ℕ} (j : ℕ) {B' : Book}
    (h : Marked T.listed (d * most_carriers) k m) (W : Written k T d d (d * most_risers + j) (record B { lists = set B.lists d m }) B') where
  pub pages_more : Pages k T (d + 1) (record B' { counts = set B'.counts d j })
  pages_more = record { page = λ a lt. page a lt (ℕ_discrete a d) }
    where
      page : (a : ℕ) → a < d + 1 → Dec (a ≡ d) → Page k T (record B' { counts = set B'.counts d j }) a
      page a lt (yes e) = rw e (record {
        listed = rw (W.lists_kept, get_or-set_same B.lists d m 0 lists) h;
        rules = rw (W.counts_kept, get_or-set_same B.counts d j 0 counts) (rules_kept W.rules {n = d * most_risers + j} wide (omega arith) (alike_self _ B'.others) (alike_self _ B'.masks));
      })
      page a lt (no f) =
          let was = P.page a (omega arith) in
          record {
            listed = rw (W.lists_kept, get_or-set_other B.lists d a m 0 f) was.listed;
            rules = rw (W.counts_kept, get_or-set_other B.counts d a j 0 f) (rules_kept was.rules wide (omega (arith, was.rules.few)) W.others_kept W.masks_kept);
          }

-- ---- the pages say what the tables say

module _ {k : ℕ} {T : Tables} {B : Book} {p : List ℕ} (P : Page k T B (length p)) (b : Below k p) {c : ℕ} (lt : c < k) where
  other : {r : ℕ} → Rule k T (length p) (length p) B r → at p (at B.others r) < k
  other {r} h = b (at p (at B.others r)) (mem_at p (at B.others r) h.starts)

  page_passes : Stands T p c → Passes B p c
  page_passes s = record {
    listed = P.listed.all c lt s.listed;
    keeps = λ j l.
        let h = P.rules.rule (length p * most_risers + j) (omega arith) (omega arith) in
        (h.marked (at p (at B.others (length p * most_risers + j))) (other h)).all c lt (s.keeps (at B.others (length p * most_risers + j)) h.starts h.some);
  }

  page_stands : Passes B p c → Stands T p c
  page_stands s = record {
    listed = (P.listed.only c s.listed).1;
    keeps = λ e l some. let w = P.rules.all e l some in rw w.3 at (kept w.0 w.1 w.2);
  }
    where
      kept : (r : ℕ) → length p * most_risers ≤ r → r < length p * most_risers + at B.counts (length p)
          → ¬ (at T.allowed ((at T.ends (length p * most_risers + at B.others r) - 1) * most_pairs + at p (at B.others r) * most_carriers + c) ≡ 0)
      kept r f t =
          let h = P.rules.rule r f t in
          ((h.marked (at p (at B.others r)) (other h)).only c (passes_kept s (omega arith) r f t)).1

pub pages_show : {k n d : ℕ} {T : Tables} {B : Book} → n ≤ most_risers → n ≤ d → Pages k T d B → Shows k n T B
pages_show high le P = record {
  orderly = λ d lt. let R = (P.page d (omega arith)).rules in record { few = omega (arith, R.few); before = λ j l. (R.rule (d * most_risers + j) (omega arith) (omega arith)).starts };
  narrow = λ d c lt h. ((P.page d (omega arith)).listed.only c h).0;
  passes = λ p c lt b l. page_passes (P.page (length p) (omega arith)) b l;
  stands = λ p c lt b l. page_stands (P.page (length p) (omega arith)) b l;
}
