-- No second answer fits: what a listing leaves is settled in every number, byte and size; what folding leaves is settled in all
-- but the member, of which only what it does is fixed. (Where one member alone carries the row, it is settled too: `Folded`.)
-- `Agree` and `Carrying` are in specs/Theorems/OneAnswer.antt.
-- Assumes nothing.
use Rattle.std.specs.Prelude.{◌≡◌, refl, List, ℕ, ◌≤◌, ◌<◌, length}
use Rattle.std.proofs.Common.{sym, ap, subst, ◌∙◌, arith}
use Rattle.ground.specs.Meanings.Exactly.{Counts}
use Rattle.ground.specs.Meanings.Group.{move}
use Rattle.ground.specs.Meanings.Sheet.{Fault}
use Rattle.ground.specs.Meanings.Sheet.{accepted, listed_beyond, fault, no_fault, Sheet, Outcome, got, refused, Accepted, Refused}
use Rattle.ground.specs.Meanings.Listing.{Line, Notion, on_sheet, Listing, Left, left, ListsOn, beyond_allowance, beyond_room, listed, Lists, room, filled, over, flat, rows_of, sizes_of}
use Rattle.ground.specs.Meanings.Folding.{Folded, folded, FoldsOn, not_whole, not_fitting, carried, Folds}
use Rattle.ground.proofs.Laws.Enumerations.{counts_same}
use Rattle.ground.proofs.Laws.Rows.{image_by}
use Rattle.ground.proofs.Laws.Classes.{same_first}
use Rattle.ground.specs.Laws.Sheets.{Sound}
use Rattle.ground.proofs.Laws.Sheets.{accepted_sound}
use Rattle.ground.proofs.Theorems.Kinds.{one_listing, whole_kinds}
use Rattle.ground.specs.Theorems.OneAnswer.{Agree, Carrying}

-- ---- reading is settled

pub accepted_same : (s : List ℕ) (X Y : Sheet) → Accepted s X → Accepted s Y → X ≡ Y
accepted_same s X Y a b = same (sym a.read ∙ b.read)
  where
    same : {p q : ℕ} → got X p ≡ got Y q → X ≡ Y
    same e = cc

pub accepted_not_refused : (s : List ℕ) (X : Sheet) (f : Fault) → Accepted s X → Refused s f → ⊥
accepted_not_refused s X f a b = clash (sym a.read ∙ b.read)
  where
    clash : {n : ℕ} → ◌≡◌ {A = Outcome Sheet} (got X n) (refused f) → ⊥
    clash e = let z : ◌≡◌ {A = ℕ} 0 1 = cc in omega arith

pub refused_same : (s : List ℕ) (f g : Fault) → Refused s f → Refused s g → f ≡ g
refused_same s f g a b = same (sym a.read ∙ b.read)
  where
    same : ◌≡◌ {A = Outcome Sheet} (refused f) (refused g) → f ≡ g
    same e = cc

-- ---- listing

module _ (N : Notion) (allowance : ℕ) (bytes sizes : List ℕ) where
  opened_clash : {A : Type 0} {m n : ℕ} → Counts N.Opens m → Counts N.Opens n → allowance < m → n ≤ allowance → A
  opened_clash a b l h = absurd (omega (arith, counts_same a b))

  room_clash : {A : Type 0} {F G : List Line} → Listing N F → Listing N G → room N.wide bytes sizes < length F → length G ≤ room N.wide bytes sizes → A
  room_clash {F = F} {G = G} a b l h = absurd (omega (arith, ap (λ (H : List Line). length H) (one_listing N F G a b)))

  pub lists_on_one : {o p : Left} → ListsOn N allowance bytes sizes o → ListsOn N allowance bytes sizes p → o ≡ p
  lists_on_one (beyond_allowance a l) (beyond_allowance b m) = refl
  lists_on_one (beyond_allowance a l) (beyond_room b m t F r) = opened_clash a b l m
  lists_on_one (beyond_allowance a l) (listed b m t F r) = opened_clash a b l m
  lists_on_one (beyond_room a l t F r) (beyond_allowance b m) = opened_clash b a m l
  lists_on_one (beyond_room {F = F} a l t f r) (beyond_room {F = G} b m u g s) =
      same (one_listing N F G f g) (counts_same a b) (counts_same t u)
    where
      same : {F G : List Line} {m n t u : ℕ} → F ≡ G → m ≡ n → t ≡ u → left (fault listed_beyond 0) (length F) m t (filled 255 bytes) (filled 0 sizes) ≡ left (fault listed_beyond 0) (length G) n u (filled 255 bytes) (filled 0 sizes)
      same e f g = λ i. left (fault listed_beyond 0) (length (e i)) (f i) (g i) (filled 255 bytes) (filled 0 sizes)
  lists_on_one (beyond_room a l t f r) (listed b m u g s) = room_clash f g r s
  lists_on_one (listed a l t f r) (beyond_allowance b m) = opened_clash b a m l
  lists_on_one (listed a l t f r) (beyond_room b m u g s) = room_clash g f s r
  lists_on_one (listed {F = F} a l t f r) (listed {F = G} b m u g s) =
      same (one_listing N F G f g) (counts_same a b) (counts_same t u)
    where
      same : {F G : List Line} {m n t u : ℕ} → F ≡ G → m ≡ n → t ≡ u
          → left no_fault (length F) m t (over (flat (rows_of F)) bytes) (over (sizes_of F) sizes) ≡ left no_fault (length G) n u (over (flat (rows_of G)) bytes) (over (sizes_of G) sizes)
      same e f g = λ i. left no_fault (length (e i)) (f i) (g i) (over (flat (rows_of (e i))) bytes) (over (sizes_of (e i)) sizes)

-- two results of a listing that both fit are equal
pub lists_one : (s : List ℕ) (allowance : ℕ) (bytes sizes : List ℕ) {o p : Left} → Lists s allowance bytes sizes o → Lists s allowance bytes sizes p → o ≡ p
lists_one s allowance bytes sizes (Lists.faulty a) (Lists.faulty b) = ap (λ (f : Fault). left f 0 0 0 bytes sizes) (refused_same s _ _ a b)
lists_one s allowance bytes sizes (Lists.faulty a) (Lists.sheet b c) = absurd (accepted_not_refused s _ _ b a)
lists_one s allowance bytes sizes (Lists.sheet a c) (Lists.faulty b) = absurd (accepted_not_refused s _ _ a b)
lists_one s allowance bytes sizes (Lists.sheet {X = X} a c) (Lists.sheet {X = Y} {o = p} b d) =
    lists_on_one (on_sheet X) allowance bytes sizes c (subst (λ (W : Sheet). ListsOn (on_sheet W) allowance bytes sizes p) (accepted_same s Y X b a) d)

-- ---- folding

agree_self : (o : Folded) → Agree o o
agree_self o = record { fault = refl; size = refl; first = refl; member = λ f. refl }

module _ (X : Sheet) (Z : Sound X) (row first member : List ℕ) where
  pub folds_on_agree : {o p : Folded} → FoldsOn X row first member o → FoldsOn X row first member p → Agree o p
  folds_on_agree (not_whole a) (not_whole b) = agree_self _
  folds_on_agree (not_whole a) (not_fitting b c) = absurd (a b)
  folds_on_agree (not_whole a) (carried b c m f z) = absurd (a b)
  folds_on_agree (not_fitting a c) (not_whole b) = absurd (b a)
  folds_on_agree (not_fitting a c) (not_fitting b d) = agree_self _
  folds_on_agree (not_fitting a c) (carried b d m f z) = absurd (c d)
  folds_on_agree (carried a c m f z) (not_whole b) = absurd (b a)
  folds_on_agree (carried a c m f z) (not_fitting b d) = absurd (d c)
  folds_on_agree (carried {g = g} a c m f z) (carried {g = h} b d n k y) =
      let K = whole_kinds Z in
      let i = image_by row m in
      let j = image_by row n in
      let w = K.keeps row (move h row) b j in
      record {
        fault = refl;
        size = counts_same z y;
        first = same_first K (move h row) (move g row) w k f (K.trans (move h row) row (move g row) w (K.back row (move h row) b j) i);
        member = λ f. absurd (f refl);
      }

  -- an accepted folding's member carries the row to the first image
  pub folds_on_carries : {o : Folded} → FoldsOn X row first member o → o.fault.number ≡ accepted → Carrying X row o
  folds_on_carries (not_whole a) e = absurd (omega arith)
  folds_on_carries (not_fitting a c) e = absurd (omega arith)
  folds_on_carries (carried a c m f z) e = record { member = m; carries = refl }

-- two results of folding that both fit agree in all but the member
pub folds_agree : (s row first member : List ℕ) {o p : Folded} → Folds s row first member o → Folds s row first member p → Agree o p
folds_agree s row first member (Folds.faulty a) (Folds.faulty b) =
    subst (Agree _) (ap (λ (f : Fault). folded f 0 first member) (refused_same s _ _ a b)) (agree_self _)
folds_agree s row first member (Folds.faulty a) (Folds.sheet b c) = absurd (accepted_not_refused s _ _ b a)
folds_agree s row first member (Folds.sheet a c) (Folds.faulty b) = absurd (accepted_not_refused s _ _ a b)
folds_agree s row first member (Folds.sheet {X = X} a c) (Folds.sheet {X = Y} {o = p} b d) =
    folds_on_agree X (accepted_sound s X a) row first member c (subst (λ (W : Sheet). FoldsOn W row first member p) (accepted_same s Y X b a) d)
