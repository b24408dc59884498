-- Every call has an answer that fits: it is reckoned by trying all rows drawn from the lists, and all images of each.
--
--   reckon_list s a b z    what a listing leaves
--   reckon_fold s r f g    what folding leaves
--
-- With "no second answer fits" this says that the meanings name exactly one answer for every list of bytes, every allowance and
-- all lent lists. It is far too slow for a rack, and small enough to be computed for the sheets worked by hand.
-- Assumes nothing.
use Rattle.std.specs.Prelude.{◌≡◌, ◌⊎◌, Bool, true, false, cond, ℕ, zero, suc, ◌^◌, ◌≤◌, ◌<◌, ltb}
use Rattle.std.proofs.Math.Path.{refl, ap, subst}
use Rattle.std.proofs.Common.{sym, inl, inr, le_of_eq, arith, ltb-true, ltb-false}
use mathlib.Core.List.Memᴰ
use mathlib.Core.List.{List, [], ◌∷◌, map}
use Rattle.std.proofs.Math.Decide.{ℕ_discrete, dec_lt}
use Rattle.std.proofs.Math.Nat.{le_trans, pow-le-pow_right}
use Rattle.std.proofs.Math.ListN.{length}
use Rattle.ground.specs.Meanings.Exactly.{◌∈◌, Enumerates, Counts}
use Rattle.ground.specs.Meanings.Group.{at, tab, move, First, ◌≼◌}
use Rattle.ground.specs.Meanings.Sheet.{opened_beyond, listed_beyond, row_not_whole, buffers_not_fitting, fault, no_fault, most_carriers, most_risers, Sheet, Rule, Outcome, got, refused, job_sheet, is_in, is_pair_in, Accepted}
use Rattle.ground.specs.Meanings.Plans.{risers, list, Row, Allows, Keeps, Plan, ImageOn, Opened, ClassSize, OpenedIs, TotalIs}
use Rattle.ground.specs.Meanings.Listing.{Line, rows_of, sizes_of, Ascending, on_sheet, Listable, Listing, room, flat, over, filled, Left, left, ListsOn, beyond_allowance, beyond_room, listed, Lists}
use Rattle.ground.specs.Meanings.Folding.{Whole, Fitting, Folded, folded, FoldsOn, not_whole, not_fitting, carried, Folds}
use Rattle.ground.proofs.Laws.Lists.{all_or, length_tab, index_of}
use Rattle.ground.specs.Laws.Enumerations.{filter}
use Rattle.ground.proofs.Laws.Enumerations.{pigeonhole, counts_same, enum_iff, enum_filter, in_filter, filter_in}
use Rattle.ground.proofs.Laws.Permutations.{mem_range}
use Rattle.ground.proofs.Laws.Order.{three}
use Rattle.ground.specs.Laws.Rows.{Below}
use Rattle.ground.proofs.Laws.Rows.{image_by, image_trans}
use Rattle.ground.proofs.Laws.Classes.{first_exists}
use Rattle.ground.specs.Laws.Sheets.{Sound, Ascends}
use Rattle.ground.proofs.Laws.Sheets.{accepted_sound, ascends_once, row_below, whole_row, is_in_mem, mem_is_in, is_pair_in_mem, mem_is_pair_in}
use Rattle.ground.specs.Laws.Choices.{Drawn, Begun, choices, beginnings}
use Rattle.ground.proofs.Laws.Choices.{choices_enum, beginnings_enum, choices_ascend, filter_ascend, choices_most}
use Rattle.ground.proofs.Laws.Images.{images, images_enum, members, members_enum}
use Rattle.ground.proofs.Theorems.Kinds.{whole_kinds}

-- ---- decisions

-- of a test and what it says
unfoldable pub decided : {A : Type 0} (b : Bool) → (b ≡ true → A) → (A → b ≡ true) → Dec A
decided true f g = yes (f refl)
decided false f g = no (λ a. let h = g a in let z : ◌≡◌ {A = ℕ} 0 1 = cc in omega arith)

-- of all members of a list
unfoldable pub all? : {A : Type 0} {P : A → Type 0} → ((x : A) → Dec (P x)) → (l : List A) → Dec ((x : A) → x ∈ l → P x)
all? {A} {P} f l = go (all_or (λ x. way x (f x)) l)
  where
    way : (x : A) → Dec (P x) → P x ⊎ (¬ P x)
    way x (yes p) = inl p
    way x (no n) = inr n

    go : ((x : A) → x ∈ l → P x) ⊎ ((x : A) × x ∈ l × (¬ P x)) → Dec ((x : A) → x ∈ l → P x)
    go (inl h) = yes h
    go (inr w) = no (λ h. w.2 (h w.0 w.1))

-- of all numbers below n
unfoldable pub below? : {P : ℕ → Type 0} → ((i : ℕ) → Dec (P i)) → (n : ℕ) → Dec ((i : ℕ) → i < n → P i)
below? f zero = yes (λ i h. absurd (omega arith))
below? {P} f (suc n) = go (below? f n) (f n)
  where
    go : Dec ((i : ℕ) → i < n → P i) → Dec (P n) → Dec ((i : ℕ) → i < suc n → P i)
    go (no g) d = no (λ h. g (λ i l. h i (omega arith)))
    go (yes h) (no g) = no (λ k. g (k n (omega arith)))
    go (yes h) (yes q) = yes (λ i l. one i l (ℕ_discrete i n))
      where
        one : (i : ℕ) → i < suc n → Dec (i ≡ n) → P i
        one i l (yes r) = rw r q
        one i l (no r) = h i (omega arith)

unfoldable pub implies? : {A B : Type 0} → Dec A → Dec B → Dec (A → B)
implies? a (yes b) = yes (λ x. b)
implies? (no f) (no g) = yes (λ x. absurd (f x))
implies? (yes a) (no g) = no (λ h. g (h a))

unfoldable pub order? : (r s : List ℕ) → Dec (r ≼ s)
order? [] s = yes tt
order? (a ∷ r) [] = no (λ h. h)
order? (a ∷ r) (b ∷ s) = go (three a b) (order? r s)
  where
    go : (a < b) ⊎ ((a ≡ b) ⊎ (b < a)) → Dec (r ≼ s) → Dec ((a < b) ⊎ ((a ≡ b) × (r ≼ s)))
    go (inl l) d = yes (inl l)
    go (inr (inl e)) (yes h) = yes (inr (e, h))
    go (inr (inl e)) (no f) = no (λ t. elim t [ inl l ↦ omega arith | inr w ↦ f w.1 ])
    go (inr (inr m)) d = no (λ t. elim t [ inl l ↦ omega arith | inr w ↦ omega (arith, w.0) ])

unfoldable pub listed? : (X : Sheet) (i c : ℕ) → Dec (c ∈ list X i)
listed? X i c = decided (is_in c (list X i)) (is_in_mem c (list X i)) (mem_is_in c (list X i))

unfoldable pub keeps? : (X : Sheet) (r : List ℕ) → Dec (Keeps X r)
keeps? X r = named (all? one X.rules)
  where
    one : (q : Rule) → Dec (q.risers.left < length r → q.risers.right < length r → Allows q (at r q.risers.left) (at r q.risers.right))
    one q =
        let u = at r q.risers.left in
        let v = at r q.risers.right in
        implies? (dec_lt q.risers.left (length r)) (implies? (dec_lt q.risers.right (length r)) (decided (is_pair_in u v q.pairs) (is_pair_in_mem u v q.pairs) (mem_is_pair_in u v q.pairs)))

    named : Dec ((q : Rule) → q ∈ X.rules → q.risers.left < length r → q.risers.right < length r → Allows q (at r q.risers.left) (at r q.risers.right)) → Dec (Keeps X r)
    named (yes h) = yes (record { each = h })
    named (no f) = no (λ k. f k.each)

-- the row comes first in the list of its images
abbrev pub Leading : Sheet → List ℕ → Type 0
Leading X r = (s : List ℕ) → s ∈ images X.carriers X.swaps r → r ≼ s

unfoldable pub leading? : (X : Sheet) (r : List ℕ) → Dec (Leading X r)
leading? X r = all? (order? r) (images X.carriers X.swaps r)

-- ---- rows, plans, lines

unfoldable pub opened_rows : Sheet → List (List ℕ)
opened_rows X = filter (leading? X) (filter (keeps? X) (beginnings X.lists))

unfoldable pub plans_of : Sheet → List (List ℕ)
plans_of X = filter (keeps? X) (choices X.lists)

unfoldable pub line : Sheet → List ℕ → Line
line X r = record { row = r; size = length (images X.carriers X.swaps r) }

unfoldable pub lines_of : Sheet → List Line
lines_of X = map (line X) (filter (leading? X) (plans_of X))

module _ {X : Sheet} (Z : Sound X) where
  once_lists : (l : List ℕ) → l ∈ X.lists → Ascends l
  once_lists l m = let w = index_of [] m in subst Ascends w.2 (Z.ascends w.0)

  image_list : (r : List ℕ) → Row X r → Enumerates (ImageOn X r) (images X.carriers X.swaps r)
  image_list r w = images_enum Z.perms r (row_below Z w)

  leading_first : (r : List ℕ) → Row X r → Leading X r → First (ImageOn X) r
  leading_first r w h s i = h s ((image_list r w).complete s i)

  first_leading : (r : List ℕ) → Row X r → First (ImageOn X) r → Leading X r
  first_leading r w f s m = f s ((image_list r w).sound s m)

  begun_row : (r : List ℕ) → Begun X.lists r → Row X r
  begun_row r b = record { some = b.some; short = b.short; listed = b.from }

  row_begun : (r : List ℕ) → Row X r → Begun X.lists r
  row_begun r w = record { some = w.some; short = w.short; from = w.listed }

  opened_enum : Enumerates (Opened X) (opened_rows X)
  unfolding opened_rows
  opened_enum =
      enum_iff
      (λ r t. let w = begun_row r t.0.0 in record { row = w; keeps = t.0.1; first = leading_first r w t.1 })
      (λ r o. ((row_begun r o.row, o.keeps), first_leading r o.row o.first))
      (enum_filter (leading? X) (enum_filter (keeps? X) (beginnings_enum X.lists (λ l m. ascends_once l (once_lists l m)))))

  plan_of : (r : List ℕ) → Drawn X.lists r → Keeps X r → Plan X r
  plan_of r d k = record { row = record { some = omega (arith, d.long, Z.some_riser); short = omega (arith, d.long); listed = d.from }; whole = d.long; keeps = k }

  plans_enum : Enumerates (Plan X) (plans_of X)
  unfolding plans_of
  plans_enum =
      enum_iff (λ r t. plan_of r t.0 t.1) (λ r p. (record { long = p.whole; from = p.row.listed }, p.keeps))
      (enum_filter (keeps? X) (choices_enum X.lists (λ l m. ascends_once l (once_lists l m))))

  -- there are at most 15^12 plans
  pub total_most : {n : ℕ} → TotalIs X n → n ≤ most_carriers ^ most_risers
  unfolding plans_of
  total_most {n} t =
      let few = choices_most most_carriers X.lists (λ l m. short l m) in
      let sub = pigeonhole (plans_of X) (choices X.lists) plans_enum.once (λ r m. (filter_in (keeps? X) (choices X.lists) r m).0) in
      let same : n ≡ length (plans_of X) = counts_same t (record { list = plans_of X; enumerates = plans_enum; number = refl }) in
      le_trans (le_of_eq same) (le_trans sub (le_trans few (pow-le-pow_right (omega arith) Z.few_risers)))
    where
      short : (l : List ℕ) → l ∈ X.lists → length l ≤ most_carriers
      short l m =
          let w = index_of [] m in
          let b : Below X.carriers l = subst (Below X.carriers) w.2 (Z.below w.0) in
          let p = pigeonhole l (tab X.carriers (λ x. x)) (ascends_once l (once_lists l m)) (λ x i. mem_range X.carriers x (b x i)) in
          omega (arith, length_tab X.carriers (λ x. x), Z.few_carriers)

  listable_enum : Enumerates (Listable (on_sheet X)) (filter (leading? X) (plans_of X))
  listable_enum =
      enum_iff (λ r t. record { plan = t.0; first = leading_first r t.0.row t.1 }) (λ r h. (h.plan, first_leading r h.plan.row h.first))
      (enum_filter (leading? X) plans_enum)

  rows_of_lines : (l : List (List ℕ)) → rows_of (map (line X) l) ≡ l
  unfolding line
  rows_of_lines [] = refl
  rows_of_lines (r ∷ l) = ap (λ (m : List (List ℕ)). r ∷ m) (rows_of_lines l)

  lines_listing : Listing (on_sheet X) (lines_of X)
  unfolding lines_of plans_of line
  lines_listing = record {
    plans = subst (Enumerates (Listable (on_sheet X))) (sym (rows_of_lines (filter (leading? X) (plans_of X)))) listable_enum;
    ascends = subst Ascending (sym (rows_of_lines (filter (leading? X) (plans_of X)))) (filter_ascend (leading? X) (plans_of X) (filter_ascend (keeps? X) (choices X.lists) (choices_ascend X.lists once_lists)));
    sizes = λ l m.
        let w = Memᴰ.of_map (line X) (filter (leading? X) (plans_of X)) m in
        let p = (listable_enum.sound w.0 w.1).plan in
        subst (λ (x : Line). ClassSize X x.row x.size) w.2 (record { list = images X.carriers X.swaps w.0; enumerates = image_list w.0 p.row; number = refl });
  }

-- ---- listing

unfoldable pub reckon_on : Sheet → ℕ → List ℕ → List ℕ → Left
reckon_on X allowance bytes sizes =
    let opened : ℕ = length (opened_rows X) in
    let F : List Line = lines_of X in
    cond (ltb allowance opened)
    (left (fault opened_beyond 0) 0 allowance 0 (filled 255 bytes) (filled 0 sizes))
    (cond (ltb (room (risers X) bytes sizes) (length F))
    (left (fault listed_beyond 0) (length F) opened (length (plans_of X)) (filled 255 bytes) (filled 0 sizes))
    (left no_fault (length F) opened (length (plans_of X)) (over (flat (rows_of F)) bytes) (over (sizes_of F) sizes)))

unfoldable pub reckon_read : Outcome Sheet → ℕ → List ℕ → List ℕ → Left
reckon_read (got X end) allowance bytes sizes = reckon_on X allowance bytes sizes
reckon_read (refused f) allowance bytes sizes = left f 0 0 0 bytes sizes

unfoldable pub reckon_list : List ℕ → ℕ → List ℕ → List ℕ → Left
reckon_list s allowance bytes sizes = reckon_read (job_sheet s 0) allowance bytes sizes

counts_of : {A : Type 0} {P : A → Type 0} {l : List A} → Enumerates P l → Counts P (length l)
counts_of {l = l} e = record { list = l; enumerates = e; number = refl }

reckoned_on : (X : Sheet) → Sound X → (allowance : ℕ) (bytes sizes : List ℕ) → ListsOn (on_sheet X) allowance bytes sizes (reckon_on X allowance bytes sizes)
unfolding reckon_on
reckoned_on X Z allowance bytes sizes = go (ltb allowance (length (opened_rows X))) refl (ltb (room (risers X) bytes sizes) (length (lines_of X))) refl
  where
    opens : OpenedIs X (length (opened_rows X))
    opens = counts_of (opened_enum Z)

    totals : TotalIs X (length (plans_of X))
    totals = counts_of (plans_enum Z)

    go : (b : Bool) → ltb allowance (length (opened_rows X)) ≡ b → (c : Bool) → ltb (room (risers X) bytes sizes) (length (lines_of X)) ≡ c
        → ListsOn (on_sheet X) allowance bytes sizes
        (cond b (left (fault opened_beyond 0) 0 allowance 0 (filled 255 bytes) (filled 0 sizes))
        (cond c (left (fault listed_beyond 0) (length (lines_of X)) (length (opened_rows X)) (length (plans_of X)) (filled 255 bytes) (filled 0 sizes))
        (left no_fault (length (lines_of X)) (length (opened_rows X)) (length (plans_of X)) (over (flat (rows_of (lines_of X))) bytes) (over (sizes_of (lines_of X)) sizes))))
    go true e c f = beyond_allowance opens (ltb-true _ _ e)
    go false e true f = beyond_room opens (ltb-false _ _ e) totals (lines_listing Z) (ltb-true _ _ f)
    go false e false f = listed opens (ltb-false _ _ e) totals (lines_listing Z) (ltb-false _ _ f)

pub reckoned_list : (s : List ℕ) (allowance : ℕ) (bytes sizes : List ℕ) → Lists s allowance bytes sizes (reckon_list s allowance bytes sizes)
unfolding reckon_list reckon_read
reckoned_list s allowance bytes sizes = go (job_sheet s 0) refl
  where
    go : (o : Outcome Sheet) → job_sheet s 0 ≡ o → Lists s allowance bytes sizes (reckon_read o allowance bytes sizes)
    go (got X end) e = let a : Accepted s X = record { end = end; read = e } in Lists.sheet a (reckoned_on X (accepted_sound s X a) allowance bytes sizes)
    go (refused f) e = Lists.faulty (record { read = e })

-- ---- folding

unfoldable pub whole? : (X : Sheet) (r : List ℕ) → Dec (Whole X r)
whole? X r = go (ℕ_discrete (length r) (risers X)) (below? (λ i. listed? X i (at r i)) (length r))
  where
    go : Dec (length r ≡ risers X) → Dec ((i : ℕ) → i < length r → at r i ∈ list X i) → Dec (Whole X r)
    go (yes e) (yes h) = yes (record { long = e; listed = h })
    go (yes e) (no f) = no (λ w. f w.listed)
    go (no f) d = no (λ w. f w.long)

unfoldable pub fitting? : (X : Sheet) (first member : List ℕ) → Dec (Fitting X first member)
fitting? X first member = go (ℕ_discrete (length first) (risers X)) (ℕ_discrete (length member) X.carriers)
  where
    go : Dec (length first ≡ risers X) → Dec (length member ≡ X.carriers) → Dec (Fitting X first member)
    go (yes e) (yes f) = yes (record { row = e; swap = f })
    go (yes e) (no g) = no (λ w. g w.swap)
    go (no g) d = no (λ w. g w.row)

-- the member takes the row to one that comes before all its images
abbrev pub Folding : Sheet → List ℕ → List ℕ → Type 0
Folding X row g = (s : List ℕ) → s ∈ images X.carriers X.swaps row → move g row ≼ s

unfoldable pub folding? : (X : Sheet) (row g : List ℕ) → Dec (Folding X row g)
folding? X row g = all? (order? (move g row)) (images X.carriers X.swaps row)

unfoldable pub head : List (List ℕ) → List ℕ
head [] = []
head (g ∷ l) = g

head_in : (l : List (List ℕ)) (g : List ℕ) → g ∈ l → head l ∈ l
unfolding head
head_in [] g m = absurd (Memᴰ.not-nil m)
head_in (h ∷ l) g m = Memᴰ.head refl

unfoldable pub folding_member : Sheet → List ℕ → List ℕ
folding_member X row = head (filter (folding? X row) (members X.carriers X.swaps))

unfoldable pub fold_on : (X : Sheet) (row first member : List ℕ) → Dec (Whole X row) → Dec (Fitting X first member) → Folded
fold_on X row first member (no f) d = folded (fault row_not_whole 0) 0 first member
fold_on X row first member (yes w) (no f) = folded (fault buffers_not_fitting 0) 0 first member
fold_on X row first member (yes w) (yes t) = folded no_fault (length (images X.carriers X.swaps row)) (move (folding_member X row) row) (folding_member X row)

unfoldable pub fold_read : Outcome Sheet → List ℕ → List ℕ → List ℕ → Folded
fold_read (got X end) row first member = fold_on X row first member (whole? X row) (fitting? X first member)
fold_read (refused f) row first member = folded f 0 first member

unfoldable pub reckon_fold : List ℕ → List ℕ → List ℕ → List ℕ → Folded
reckon_fold s row first member = fold_read (job_sheet s 0) row first member

module _ (X : Sheet) (Z : Sound X) (row : List ℕ) (w : Whole X row) where
  folding_member_folds : (folding_member X row ∈ members X.carriers X.swaps) × Folding X row (folding_member X row)
  unfolding folding_member
  folding_member_folds =
      let K = whole_kinds Z in
      let v = first_exists K row w in
      let i = v.1 in
      let good : Folding X row i.by = λ s m. subst (λ (z : List ℕ). z ≼ s) (sym i.is) (v.2 s (K.trans v.0 row s (K.keeps row v.0 w i) (K.back row v.0 w i) ((image_list Z row (whole_row Z w)).sound s m))) in
      let l = members X.carriers X.swaps in
      filter_in (folding? X row) l (head (filter (folding? X row) l))
      (head_in (filter (folding? X row) l) i.by (in_filter (folding? X row) l i.by ((members_enum Z.perms).complete i.by i.member) good))

  folding_carries : (first member : List ℕ) → Fitting X first member
      → FoldsOn X row first member (folded no_fault (length (images X.carriers X.swaps row)) (move (folding_member X row) row) (folding_member X row))
  folding_carries first member t =
      let g = folding_member X row in
      let m = (members_enum Z.perms).sound g folding_member_folds.0 in
      carried w t m
      (λ s i. folding_member_folds.1 s ((image_list Z row (whole_row Z w)).complete s (image_trans Z.perms (row_below Z (whole_row Z w)) (image_by row m) i)))
      (counts_of (image_list Z row (whole_row Z w)))

reckoned_fold_on : (X : Sheet) → Sound X → (row first member : List ℕ) (d : Dec (Whole X row)) (t : Dec (Fitting X first member)) → FoldsOn X row first member (fold_on X row first member d t)
unfolding fold_on
reckoned_fold_on X Z row first member (no f) t = not_whole f
reckoned_fold_on X Z row first member (yes w) (no f) = not_fitting w f
reckoned_fold_on X Z row first member (yes w) (yes t) = folding_carries X Z row w first member t

pub reckoned_fold : (s row first member : List ℕ) → Folds s row first member (reckon_fold s row first member)
unfolding reckon_fold fold_read
reckoned_fold s row first member = go (job_sheet s 0) refl
  where
    go : (o : Outcome Sheet) → job_sheet s 0 ≡ o → Folds s row first member (fold_read o row first member)
    go (got X end) e =
        let a : Accepted s X = record { end = end; read = e } in
        Folds.sheet a (reckoned_fold_on X (accepted_sound s X a) row first member (whole? X row) (fitting? X first member))
    go (refused f) e = Folds.faulty (record { read = e })
