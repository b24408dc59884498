-- No second answer is right: what the listing promises settles its answer, with which refusal it is, and each entry of both lent lists
-- (`answers_one`).
--
--   told_back o   the answer that tells what is left, o, by the number of its fault
--   Own r         where r is the answer that the sheet is refused, its fault has a number of the sheet's, from 1 to 9
--
-- An answer is read back from what it tells (`back`), since no other answer tells a number of the sheet's; and the sheet is refused with
-- the fault that is laid to it, which has one. What is told is settled (`lists_one` of ground).
-- Assumes nothing.
use Rattle.std.specs.Prelude.{◌≡◌, refl, cond, List, ℕ, ◌<◌, ltb, Result, Ok, Err}
use Rattle.std.proofs.Common.{sym, ap, ◌∙◌, arith, lt-ltb}
use Rattle.ground.specs.Meanings.Sheet.{Fault, accepted, opened_beyond}
use Rattle.ground.specs.Meanings.Listing.{Left, Lists}
use Rattle.ground.proofs.Laws.Numbers.{refused_low}
use Rattle.ground.proofs.Theorems.OneAnswer.{lists_one}
use Rattle.listing.specs.declared.Listed.{Listed}
use Rattle.listing.specs.declared.Refused.{Refused}
use Rattle.listing.specs.Answering.{counted, told, SheetRefused}

abbrev told_back : Left → Result Listed Refused
told_back o =
    let n = counted o.listed o.opened o.total in
    cond (ltb accepted o.fault.number)
    (cond (ltb o.fault.number opened_beyond) (Err (Refused.Sheet o.fault)) (cond (ltb opened_beyond o.fault.number) (Err (Refused.BeyondRoom n)) (Err (Refused.BeyondAllowance o.opened))))
    (Ok n)

abbrev Own : Result Listed Refused → Type 0
Own r = (f : Fault) → r ≡ Err (Refused.Sheet f) → (accepted < f.number) × (f.number < opened_beyond)

back : (r : Result Listed Refused) (bytes sizes : List ℕ) → Own r → told_back (told r bytes sizes) ≡ r
back (Ok n) bytes sizes own = refl
back (Err (Refused.Sheet f)) bytes sizes own = let l = own f refl in rw (lt-ltb accepted f.number l.0, lt-ltb f.number opened_beyond l.1)
back (Err (Refused.BeyondAllowance o)) bytes sizes own = refl
back (Err (Refused.BeyondRoom n)) bytes sizes own = refl

-- the lists that are told are as they were left
told_lists : (r : Result Listed Refused) (bytes sizes : List ℕ) → ((told r bytes sizes).bytes ≡ bytes) × ((told r bytes sizes).sizes ≡ sizes)
told_lists (Ok n) bytes sizes = (refl, refl)
told_lists (Err f) bytes sizes = (refl, refl)

-- two answers to one call that both fit are equal, and so are the lists that they leave
pub answers_one : (s : List ℕ) (allowance : ℕ) (bytes sizes : List ℕ) (r q : Result Listed Refused) {b c y z : List ℕ}
    → Lists s allowance bytes sizes (told r b y) → SheetRefused s r
    → Lists s allowance bytes sizes (told q c z) → SheetRefused s q
    → (r ≡ q) × (b ≡ c) × (y ≡ z)
answers_one s allowance bytes sizes r q {b} {c} {y} {z} A S B T =
    let own : (r : Result Listed Refused) → SheetRefused s r → Own r = λ r S f same. (let low = refused_low s f (S f same) in (low.0, omega (arith, low.1))) in
    let e = lists_one s allowance bytes sizes A B in
    let v = told_lists r b y in
    let w = told_lists q c z in (
      sym (back r b y (own r S)) ∙ ap told_back e ∙ back q c z (own q T),
      sym v.0 ∙ ap (λ (o : Left). o.bytes) e ∙ w.0,
      sym v.1 ∙ ap (λ (o : Left). o.sizes) e ∙ w.1,
    )
