-- Demands 2 and 3 for what a listing leaves: whatever fits the meaning of a listing has these properties, and so has the code.
-- `WholeListing` is in specs/Theorems/Listed.antt.
--
-- With number 0 the listing is exactly the plans that are first among their images, ascending, with their class sizes
-- (`accepted_listing`); each plan is an image of exactly one of them, and the sizes sum to the total (`each_plan_once`,
-- `sizes_total`). On a sheet without fault the allowance refuses exactly when the number of opened rows is larger
-- (`allowance_refuses`), the room exactly when the allowance does not and more plans are listed than it holds (`room_refuses`); that
-- holds by any notion of a listing (`beyond_refuses`, `crowded_refuses`, `none_exactly`).
-- Where neither does, what is left is the whole listing and nothing else (`enough_listed`, `enough_accepted`). Where the allowance
-- does not refuse, the number of listed plans is 0 exactly if no plan exists (`listed_none`).
-- Assumes nothing.
use Rattle.std.specs.Prelude.{◌≡◌, refl, ◌↔◌, List, ℕ, ◌≤◌, ◌<◌, length}
use Rattle.std.proofs.Common.{sym, ap, subst, ◌∙◌, arith}
use Rattle.ground.specs.Meanings.Exactly.{Counts}
use Rattle.ground.specs.Meanings.Sheet.{accepted, opened_beyond, listed_beyond, no_fault, Sheet, Accepted}
use Rattle.ground.specs.Meanings.Plans.{risers, Plan, OpenedIs, TotalIs}
use Rattle.ground.specs.Meanings.Listing.{Line, Notion, on_sheet, Listing, rows_of, sizes_of, flat, over, room, Left, left, ListsOn, beyond_allowance, beyond_room, listed, Lists}
use Rattle.ground.proofs.Laws.Lists.{nil_of}
use Rattle.ground.proofs.Laws.Enumerations.{counts_same}
use Rattle.ground.specs.Laws.Classes.{Kinds, total}
use Rattle.ground.proofs.Laws.Sheets.{accepted_sound}
use Rattle.ground.proofs.Laws.Numbers.{refused_low}
use Rattle.ground.specs.Theorems.Kinds.{ListedFor}
use Rattle.ground.proofs.Theorems.Kinds.{plan_kinds, one_listed, sizes_sum, none_listed, one_listing}
use Rattle.ground.proofs.Theorems.OneAnswer.{accepted_same, accepted_not_refused, lists_on_one}
use Rattle.ground.specs.Theorems.Listed.{WholeListing}

-- demand 2
pub accepted_listing : (s : List ℕ) (allowance : ℕ) (bytes sizes : List ℕ) {o : Left} → Lists s allowance bytes sizes o → o.fault.number ≡ accepted → WholeListing s bytes sizes o
accepted_listing s allowance bytes sizes (Lists.faulty {f = f} r) e = absurd (let l = refused_low s f r in omega (arith, l.0))
accepted_listing s allowance bytes sizes (Lists.sheet {X = X} a (beyond_allowance b l)) e = absurd (omega arith)
accepted_listing s allowance bytes sizes (Lists.sheet {X = X} a (beyond_room b m t F r)) e = absurd (omega arith)
accepted_listing s allowance bytes sizes (Lists.sheet {X = X} a (listed {F = F} b m t L r)) e =
    record { sheet = X; accepted = a; lines = F; listing = L; listed = refl; opened = b; total = t; rows_stand = refl; sizes_stand = refl }

-- demand 3
module _ {s bytes sizes : List ℕ} {o : Left} (W : WholeListing s bytes sizes o) where
  pub each_plan_once : (r : List ℕ) → Plan W.sheet r → ListedFor (on_sheet W.sheet) W.lines r
  each_plan_once = one_listed (plan_kinds (accepted_sound s W.sheet W.accepted)) W.listing

  pub sizes_total : total (sizes_of W.lines) ≡ o.total
  sizes_total = counts_same (sizes_sum (plan_kinds (accepted_sound s W.sheet W.accepted)) W.listing) W.total

-- ---- the refusals of a sheet without fault, by any notion

module _ (N : Notion) (allowance : ℕ) (bytes sizes : List ℕ) where
  -- 10 exactly when the number of opened rows is larger than the allowance
  pub beyond_refuses : {o : Left} {n : ℕ} → Counts N.Opens n → ListsOn N allowance bytes sizes o → (o.fault.number ≡ opened_beyond) ↔ (allowance < n)
  beyond_refuses c (beyond_allowance b l) = (λ e. omega (arith, counts_same b c), λ m. refl)
  beyond_refuses c (beyond_room b m t F r) = (λ e. absurd (omega arith), λ l. absurd (omega (arith, counts_same b c)))
  beyond_refuses c (listed b m t F r) = (λ e. absurd (omega arith), λ l. absurd (omega (arith, counts_same b c)))

  -- 11 exactly when the allowance does not refuse and there is no room for all listed plans
  pub crowded_refuses : {o : Left} {n : ℕ} {F : List Line} → Counts N.Opens n → Listing N F → ListsOn N allowance bytes sizes o → (o.fault.number ≡ listed_beyond) ↔ ((n ≤ allowance) × (room N.wide bytes sizes < length F))
  crowded_refuses c L (beyond_allowance b l) = (λ e. absurd (omega arith), λ w. absurd (omega (arith, counts_same b c, w.0)))
  crowded_refuses {F = F} c L (beyond_room {F = G} b m t K r) =
      let e = ap (λ (H : List Line). length H) (one_listing N F G L K) in
      (λ q. (omega (arith, counts_same b c), omega arith), λ w. refl)
  crowded_refuses {F = F} c L (listed {F = G} b m t K r) =
      let e = ap (λ (H : List Line). length H) (one_listing N F G L K) in
      (λ q. absurd (omega arith), λ w. absurd (omega (arith, w.1)))

  -- what is answered as listed counts the lines of a listing, unless the allowance refuses
  counted_lines : {o : Left} → ListsOn N allowance bytes sizes o → ¬ (o.fault.number ≡ opened_beyond) → (F : List Line) × Listing N F × (o.listed ≡ length F)
  counted_lines (beyond_allowance b l) f = absurd (f refl)
  counted_lines (beyond_room {F = F} b m t L r) f = (F, L, refl)
  counted_lines (listed {F = F} b m t L r) f = (F, L, refl)

  -- nothing is listed exactly if no plan exists
  pub none_exactly : {o : Left} → Kinds N.Plans N.Images → ListsOn N allowance bytes sizes o → ¬ (o.fault.number ≡ opened_beyond) → (o.listed ≡ 0) ↔ ((r : List ℕ) → ¬ N.Plans r)
  none_exactly {o} K l f =
      let w = counted_lines l f in
      let k = none_listed K w.1 in
      (λ e. k.0 (nil_of w.0 (sym w.2 ∙ e)), λ h. w.2 ∙ ap (λ (F : List Line). length F) (k.1 h))

-- ---- the same for a sheet

module _ (s : List ℕ) (X : Sheet) (a : Accepted s X) (allowance : ℕ) (bytes sizes : List ℕ) where
  on_its_sheet : {o : Left} → Lists s allowance bytes sizes o → ListsOn (on_sheet X) allowance bytes sizes o
  on_its_sheet (Lists.faulty {f = f} r) = absurd (accepted_not_refused s X f a r)
  on_its_sheet (Lists.sheet {X = Y} {o = o} b l) = subst (λ (W : Sheet). ListsOn (on_sheet W) allowance bytes sizes o) (accepted_same s Y X b a) l

  pub allowance_refuses : {o : Left} {n : ℕ} → OpenedIs X n → Lists s allowance bytes sizes o → (o.fault.number ≡ opened_beyond) ↔ (allowance < n)
  allowance_refuses c l = beyond_refuses (on_sheet X) allowance bytes sizes c (on_its_sheet l)

  pub room_refuses : {o : Left} {n : ℕ} {F : List Line} → OpenedIs X n → Listing (on_sheet X) F → Lists s allowance bytes sizes o → (o.fault.number ≡ listed_beyond) ↔ ((n ≤ allowance) × (room (risers X) bytes sizes < length F))
  room_refuses c L l = crowded_refuses (on_sheet X) allowance bytes sizes c L (on_its_sheet l)

  -- demand 2 with its own premise: the allowance is enough, the room is enough; what is left is the listing
  pub enough_listed : {o : Left} {opened total : ℕ} {F : List Line} → OpenedIs X opened → opened ≤ allowance → TotalIs X total → Listing (on_sheet X) F → length F ≤ room (risers X) bytes sizes
      → Lists s allowance bytes sizes o → o ≡ left no_fault (length F) opened total (over (flat (rows_of F)) bytes) (over (sizes_of F) sizes)
  enough_listed c m t L r l = lists_on_one (on_sheet X) allowance bytes sizes (on_its_sheet l) (listed c m t L r)

  -- in particular it is accepted
  pub enough_accepted : {o : Left} {n : ℕ} {F : List Line} → OpenedIs X n → n ≤ allowance → Listing (on_sheet X) F → length F ≤ room (risers X) bytes sizes → Lists s allowance bytes sizes o → o.fault.number ≡ accepted
  enough_accepted c m L r l = ap (λ (p : Left). p.fault.number) (enough_listed c m (sizes_sum (plan_kinds (accepted_sound s X a)) L) L r l)

  pub listed_none : {o : Left} → Lists s allowance bytes sizes o → ¬ (o.fault.number ≡ opened_beyond) → (o.listed ≡ 0) ↔ ((r : List ℕ) → ¬ Plan X r)
  listed_none l f = none_exactly (on_sheet X) allowance bytes sizes (plan_kinds (accepted_sound s X a)) (on_its_sheet l) f
