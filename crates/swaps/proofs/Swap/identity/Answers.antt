-- `Swap::identity` gives the swap that moves nothing: the table of the carriers themselves, which is the identity by definition.
use Rattle.std.specs.Prelude.{◌≡◌, List, ℕ, ◌<◌}
use Rattle.std.specs.Array.{IsFromFnResult}
use Rattle.std.proofs.Common.{sym, ◌∙◌, arith, rules, ext_get_or}
use denote.Param.Members.{Mut, Called}
use Rattle.ground.specs.Meanings.Group.{at, tab, identity}
use Rattle.ground.proofs.Laws.Lists.{length_tab, at_tab}
use Rattle.swaps.proofs.Swap.identity.Goals as goal

-- what a function makes that gives h at each place
made_tab : {F : Type 0} {g : Mut F (ℕ × Unit {0}) ℕ} {f : F} {l : List ℕ} {n : ℕ} (h : ℕ → ℕ) → IsFromFnResult g f l n → ((p q : F) (i r : ℕ) → Called g p (i, tt) r q → r ≡ h i) → l ≡ tab n h
made_tab {l = l} {n = n} h m gives =
    ext_get_or 0 l (tab n h) (m.long ∙ sym (length_tab n h))
    (λ i b. let b : i < n = omega (arith, m.long) in let w = m.at i 0 b in gives w.0 w.1 i (at l i) w.2 ∙ sym (at_tab n h i b))

pub returns : goal.returns
unfolding identity
returns c = made_tab (λ x. x) c.from_fn.ensures.items (λ p q i r k. search rules)
