-- Demand 2 for what folding leaves: whatever fits the meaning of folding has these properties, and so has the code. `FirstImage`,
-- `WholeFolding` and `OneCarries` are in specs/Theorems/Folded.antt.
--
-- With number 0 the row that is written is the first image of the row handed in (`accepted_folding`). The member is open only
-- where several carry the row to its first image: where one does, two results that both fit are equal as a whole (`folds_one`).
-- Assumes nothing.
use Rattle.std.specs.Prelude.{◌≡◌, refl, List, ℕ}
use Rattle.std.proofs.Common.{sym, ap, subst, ◌∙◌, arith}
use Rattle.std.proofs.Math.Decide.{ℕ_discrete}
use Rattle.ground.specs.Meanings.Group.{Member, move, First}
use Rattle.ground.specs.Meanings.Sheet.{Fault}
use Rattle.ground.specs.Meanings.Sheet.{accepted, Sheet, Accepted}
use Rattle.ground.specs.Meanings.Plans.{Swap, ImageOn}
use Rattle.ground.specs.Meanings.Folding.{Whole, Folded, folded, not_whole, not_fitting, carried, Folds}
use Rattle.ground.proofs.Laws.Rows.{image_by}
use Rattle.ground.proofs.Laws.Sheets.{accepted_sound}
use Rattle.ground.proofs.Laws.Numbers.{refused_low}
use Rattle.ground.proofs.Theorems.Kinds.{whole_kinds}
use Rattle.ground.specs.Theorems.OneAnswer.{Carrying, Agree}
use Rattle.ground.proofs.Theorems.OneAnswer.{accepted_same, folds_agree}
use Rattle.ground.specs.Theorems.Folded.{FirstImage, WholeFolding, OneCarries}

-- an image of the row that comes before all its own images comes before all images of the row
first_image : (s row g : List ℕ) (X : Sheet) → Accepted s X → Whole X row → Member X.carriers (Swap X) g → First (ImageOn X) (move g row) → FirstImage X row (move g row)
first_image s row g X a w m f =
    let K = whole_kinds (accepted_sound s X a) in
    let i = image_by row m in
    let v = K.keeps row (move g row) w i in
    record { image = i; before = λ t j. f t (K.trans (move g row) row t v (K.back row (move g row) w i) j) }

-- demand 2
pub accepted_folding : (s row first member : List ℕ) {o : Folded} → Folds s row first member o → o.fault.number ≡ accepted → WholeFolding s row first member o
accepted_folding s row first member (Folds.faulty {f = f} r) e = absurd (let l = refused_low s f r in omega (arith, l.0))
accepted_folding s row first member (Folds.sheet {X = X} a (not_whole f)) e = absurd (omega arith)
accepted_folding s row first member (Folds.sheet {X = X} a (not_fitting w f)) e = absurd (omega arith)
accepted_folding s row first member (Folds.sheet {X = X} a (carried {g = g} w t m f z)) e =
    record { sheet = X; accepted = a; whole = w; fitting = t; is_first = first_image s row g X a w m f; carrying = record { member = m; carries = refl }; size = z }

-- ---- the member

module _ (s row first member : List ℕ) (one : (X : Sheet) → Accepted s X → OneCarries X row) where
  same_member : {o p : Folded} → WholeFolding s row first member o → WholeFolding s row first member p → o.first ≡ p.first → o.member ≡ p.member
  same_member {o} {p} W U e =
      let c = subst (λ (X : Sheet). Carrying X row p) (accepted_same s U.sheet W.sheet U.accepted W.accepted) U.carrying in
      one W.sheet W.accepted o.first o.member p.member W.is_first W.carrying.member c.member W.carrying.carries (c.carries ∙ sym e)

  -- where one member carries the row to its first image, two results of folding that both fit are equal
  pub folds_one : {o p : Folded} → Folds s row first member o → Folds s row first member p → o ≡ p
  folds_one {o} {p} f g = same (settled (ℕ_discrete o.fault.number accepted))
    where
      A : Agree o p
      A = folds_agree s row first member f g

      settled : Dec (o.fault.number ≡ accepted) → o.member ≡ p.member
      settled (yes e) = same_member (accepted_folding s row first member f e) (accepted_folding s row first member g (ap (λ (h : Fault). h.number) (sym A.fault) ∙ e)) A.first
      settled (no d) = A.member d

      same : o.member ≡ p.member → o ≡ p
      same e = λ i. folded (A.fault i) (A.size i) (A.first i) (e i)
