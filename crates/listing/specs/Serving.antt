-- The reader's tables serve the search: both speak of the same sheet, the reader by tests, the search by facts.
-- Assumes nothing.
use Rattle.std.specs.Prelude.{◌≡◌, refl, Bool, true, false, List, ℕ, zero, suc, ◌+◌, ◌*◌, ◌<◌, length}
use Rattle.std.proofs.Common.{sym, ap, ap₂, ◌∙◌, inl, inr, add_assoc, arith}
use Rattle.ground.specs.Meanings.Exactly.{◌∈◌}
use Rattle.ground.specs.Meanings.Group.{at}
use Rattle.ground.specs.Meanings.Sheet.{Sheet, Rule, Pair, no_rule, is_in, is_pair_in, most_carriers, most_risers, most_pairs}
use Rattle.ground.specs.Meanings.Plans.{risers, list}
use Rattle.ground.proofs.Laws.Lists.{index_of}
use Rattle.ground.specs.Laws.Sheets.{Sound}
use Rattle.ground.proofs.Laws.Sheets.{is_in_mem, mem_is_in, is_pair_in_mem, mem_is_pair_in}
use Rattle.sheet.specs.Serves as reader
use Rattle.sheet.specs.Serves.{bit, risers_of}
use Rattle.sheet.specs.Callers.{swaps_first, padded_pad}
use Rattle.ground.specs.declared.Tables.{Tables}
use Rattle.ground.specs.Laws.Tables.{Flag, rule, Ending, Serves}

-- a bit of a test flags what the test says
flagged : {P : Type 0} (b : Bool) {x : ℕ} → (b ≡ true → P) → (P → b ≡ true) → x ≡ bit b → Flag P x
flagged true f g e = inl (f refl, e)
flagged false f g e = inr (λ p. (let h = g p in let z : ◌≡◌ {A = ℕ} 0 1 = cc in omega arith), e)

module _ {X : Sheet} {T : Tables} {swaps : List (List ℕ)} (Z : Sound X) (R : reader.Serves X T swaps) where
  ending : (a b : ℕ) → a < b → b < risers X → Ending X a b (at T.ends (b * most_risers + a))
  ending a b l h = go (at T.ends (b * most_risers + a)) refl
    where
      -- the number of a rule that binds a and b
      number : (r : Rule) → r ∈ X.rules → r.risers.left ≡ a → r.risers.right ≡ b → (q : ℕ) × (rule X q ≡ r) × (at T.ends (b * most_risers + a) ≡ q + 1)
      number r m x y =
          let w = index_of no_rule m in
          let e : at T.ends ((risers_of X w.0).right * most_risers + (risers_of X w.0).left) ≡ w.0 + 1 = R.ends_at w.0 w.1 in
          let p : (risers_of X w.0).right ≡ b = ap (λ (z : Rule). z.risers.right) w.2 ∙ y in
          let q : (risers_of X w.0).left ≡ a = ap (λ (z : Rule). z.risers.left) w.2 ∙ x in
          (w.0, w.2, ap₂ (λ (u v : ℕ). at T.ends (u * most_risers + v)) (sym p) (sym q) ∙ e)

      go : (x : ℕ) → at T.ends (b * most_risers + a) ≡ x → Ending X a b x
      go zero e = inr (record { none = λ r m x y. let w = number r m x y in omega (arith, w.2) }, refl)
      go (suc q) e =
          let o = R.ends_only a b q (omega (arith, Z.few_risers)) (omega (arith, Z.few_risers)) (e ∙ omega arith) in
          inl (
            q,
            record {
              some = o.0;
              left = ap (λ (p : Pair). p.left) o.1;
              right = ap (λ (p : Pair). p.right) o.1;
              one = λ r m x y.
                  let w = number r m x y in
                  let z : w.0 ≡ q = omega (arith, w.2) in
                  sym w.1 ∙ ap (rule X) z;
            },
            omega arith,
          )

  pub serves : Serves X X.carriers (risers X) (length X.swaps) T swaps
  serves = record {
    sound = Z;
    carriers = refl;
    risers = refl;
    listed = λ r c h l. flagged (is_in c (list X r)) (is_in_mem c (list X r)) (mem_is_in c (list X r)) (R.member_at r c (omega (arith, Z.few_risers)) (omega (arith, Z.few_carriers)));
    ends = ending;
    allows = λ q u v h a b.
        let w = Z.few_carriers in
        let y = Z.few_rules in
        flagged (is_pair_in u v (rule X q).pairs) (is_pair_in_mem u v (rule X q).pairs) (mem_is_pair_in u v (rule X q).pairs)
        (ap (at T.allowed) (add_assoc (q * most_pairs) (u * most_carriers) v) ∙ R.allowed_at q u v (omega arith) (omega arith) (omega arith));
    counted = refl;
    padded = swaps_first R ∙ padded_pad most_carriers X.carriers X.swaps Z.perms;
  }
