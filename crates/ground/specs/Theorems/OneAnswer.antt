-- What no second answer of folding differs in.
--
--   Agree o p           two foldings' results agree in the fault, the size and the first buffer, and on a refusal in the second too
--   Carrying X r o      the member that o wrote is a member of the group and carries r to the first image that o wrote
--
-- That no second answer fits is in proofs/Theorems/OneAnswer.antt.
-- These are definitions: nothing is assumed or proved here.
use Rattle.std.specs.Prelude.{◌≡◌, List, ℕ}
use Rattle.ground.specs.Meanings.Group.{Member, move}
use Rattle.ground.specs.Meanings.Sheet.{accepted, Sheet}
use Rattle.ground.specs.Meanings.Plans.{Swap}
use Rattle.ground.specs.Meanings.Folding.{Folded}

pub record Agree (o p : Folded) : Type 0 where
  pub fault : o.fault ≡ p.fault
  pub size : o.size ≡ p.size
  pub first : o.first ≡ p.first
  pub member : ¬ (o.fault.number ≡ accepted) → o.member ≡ p.member

pub record Carrying (X : Sheet) (row : List ℕ) (o : Folded) : Type 0 where
  pub member : Member X.carriers (Swap X) o.member
  pub carries : move o.member row ≡ o.first
