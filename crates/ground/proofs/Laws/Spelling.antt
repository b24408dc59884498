-- A sheet has one spelling: what is accepted as a sheet is that sheet, written out. `written` and `Spells` are in
-- specs/Laws/Spelling.antt.
-- Assumes nothing.
use Rattle.std.specs.Prelude.{◌≡◌, refl, Bool, true, false, cond, List, [], ◌∷◌, ◌++◌, ℕ, zero, suc, ◌+◌, ◌<◌, ◌≤◌, leb, eqb, length, get_or, take, drop}
use Rattle.std.proofs.Common.{sym, ap, ap₂, ◌∙◌, subst, append_assoc, append-nil, arith, add-one, take-append-drop, drop-drop, drop-cons, leb-true, eqb-true}
use Rattle.std.proofs.Math.Seq.{drop-length}
use Rattle.ground.specs.Meanings.Sheet.{sheet_ends, bytes_follow, fault, got, refused, Reading, and_then, field, checked, byte, two, many, count, carrier, riser, Rule, allowed_pair, rule_that, rule, swap, nothing_more, Sheet, job_sheet, is_listed_in, allowed_by, most_carriers, most_risers, most_rules, most_pairs, most_swaps}
use Rattle.ground.proofs.Laws.Reading.{and_then_got, byte_in, two_in, checked_passed, many_length}
use Rattle.ground.specs.Laws.Sections.{last, from_swaps, from_rules, from_risers}
use Rattle.ground.proofs.Laws.Sections.{whole}
use Rattle.ground.specs.Laws.Spelling.{each_written, write_list, write_pair, write_rule, written, Spells, tail_swaps, tail_rules, tail_risers}

pub got_same : {A : Type 0} {x y : A} {p q : ℕ} → got x p ≡ got y q → x ≡ y
got_same e = cc

pub got_at : {A : Type 0} {x y : A} {p q : ℕ} → got x p ≡ got y q → p ≡ q
got_at e = cc

-- as many items are got as were to be read
pub many_count : {A : Type 0} (one : List A → Reading A) (s : List ℕ) (n at : ℕ) (l : List A) (p : ℕ) → many one n [] s at ≡ got l p → n ≡ length l
many_count one s n at l p e = let h = many_length one s n [] at l p e in omega arith

-- What a reading passes over is what it read, spelt by w

field_spells : (w : ℕ) → Spells (field w) (λ (l : List ℕ). l)
unfolding field
field_spells w s at x p e = go (leb (at + w) (length s)) e
  where
    go : (b : Bool) → cond b (got (take w (drop at s)) (at + w)) (refused (fault sheet_ends at)) ≡ got x p → drop at s ≡ x ++ drop p s
    go true f = let y : take w (drop at s) ≡ x = cc in let q : at + w ≡ p = cc in rw (← y, ← q) (sym (take-append-drop w (drop at s)) ∙ ap (λ (t : List ℕ). take w (drop at s) ++ t) (drop-drop w at s))
    go false f = absurd (let b : ◌≡◌ {A = ℕ} 0 1 = cc in omega arith)

checked_spells : {A : Type 0} (q : ℕ) (t : A → Bool) (m : Reading A) (w : A → List ℕ) → Spells m w → Spells (checked q t m) w
checked_spells q t m w h s at x p e = h s at x p (checked_passed q t m s at e).1

pub field_length : (w : ℕ) (s : List ℕ) (at : ℕ) (x : List ℕ) (p : ℕ) → field w s at ≡ got x p → at + w ≤ length s
unfolding field
field_length w s at x p e = go (leb (at + w) (length s)) refl e
  where
    go : (b : Bool) → leb (at + w) (length s) ≡ b → cond b (got (take w (drop at s)) (at + w)) (refused (fault sheet_ends at)) ≡ got x p → at + w ≤ length s
    go true h f = leb-true (at + w) (length s) h
    go false h f = absurd (let b : ◌≡◌ {A = ℕ} 0 1 = cc in omega arith)

byte_spells : Spells byte (λ (c : ℕ). c ∷ [])
unfolding byte
byte_spells s at x p e =
    let z = and_then_got (field 1 s at) _ e in
    let l : at + 1 ≤ length s = field_length 1 s at z.0 z.1 z.2 in
    let h : at < length s = omega arith in
    let f : got (get_or s at 0) (at + 1) ≡ got x p = sym (byte_in s at h) ∙ e in
    let y : get_or s at 0 ≡ x = cc in
    let q : at + 1 ≡ p = cc in
    rw (← y, ← q, add-one at) (drop-cons s at 0 h)

two_spells : Spells two write_pair
unfolding two
two_spells s at x p e =
    let z = and_then_got (field 2 s at) _ e in
    let l : at + 2 ≤ length s = field_length 2 s at z.0 z.1 z.2 in
    let h : at < length s = omega arith in
    let g : suc at < length s = omega arith in
    let f : got (record { left = get_or s at 0; right = get_or s (at + 1) 0 }) (at + 2) ≡ got x p = sym (two_in s at (omega arith)) ∙ e in
    let y : record { left = get_or s at 0; right = get_or s (at + 1) 0 } ≡ x = cc in
    let q : at + 2 ≡ p = cc in
    let n : at + 2 ≡ suc (suc at) = omega arith in
    rw (← y, ← q, n, add-one at) (drop-cons s at 0 h ∙ ap (λ (t : List ℕ). get_or s at 0 ∷ t) (drop-cons s (suc at) 0 g))

many_spells : {A : Type 0} (one : List A → Reading A) (w : A → List ℕ) → ((done : List A) → Spells (one done) w) → (n : ℕ) (done : List A) (s : List ℕ) (at : ℕ) (l : List A) (p : ℕ) → many one n done s at ≡ got l p
    → (new : List A) × (l ≡ done ++ new) × (drop at s ≡ each_written w new ++ drop p s)
unfolding many
many_spells {A} one w h zero done s at l p e = let y : done ≡ l = cc in let q : at ≡ p = cc in ([], sym y ∙ sym (append-nil done), rw q)
many_spells {A} one w h (suc n) done s at l p e =
    let z = and_then_got (one done s at) _ e in
    let r = many_spells one w h n (done ++ (z.0 ∷ [])) s z.1 l p z.3 in
    (z.0 ∷ r.0, r.1 ∙ append_assoc done (z.0 ∷ []) r.0, h done s at z.0 z.1 z.2 ∙ ap (λ (t : List ℕ). w z.0 ++ t) r.2 ∙ sym (append_assoc (w z.0) (each_written w r.0) (drop p s)))

many_all_spells : {A : Type 0} (one : List A → Reading A) (w : A → List ℕ) → ((done : List A) → Spells (one done) w) → (n : ℕ) → Spells (many one n []) (each_written w)
many_all_spells one w h n s at l p e = let r = many_spells one w h n [] s at l p e in rw r.1 r.2

count_spells : (a b : ℕ) → Spells (count a b) (λ (c : ℕ). c ∷ [])
unfolding count
count_spells a b = checked_spells _ _ byte (λ (c : ℕ). c ∷ []) byte_spells

carrier_spells : (k : ℕ) (done : List ℕ) → Spells (carrier k done) (λ (c : ℕ). c ∷ [])
unfolding carrier
carrier_spells k done = checked_spells _ _ byte (λ (c : ℕ). c ∷ []) byte_spells

pub singles : (l : List ℕ) → each_written (λ (c : ℕ). c ∷ []) l ≡ l
singles [] = refl
singles (c ∷ l) = ap (λ (t : List ℕ). c ∷ t) (singles l)

riser_spells : (k : ℕ) (done : List (List ℕ)) → Spells (riser k done) write_list
unfolding riser
riser_spells k done s at x p e =
    let z = and_then_got (count 1 k s at) _ e in
    let n : length x ≡ z.0 = many_length (carrier k) s z.0 [] z.1 x p z.3 ∙ omega arith in
    count_spells 1 k s at z.0 z.1 z.2 ∙ ap₂ (λ (c : ℕ) (t : List ℕ). c ∷ t) (sym n) (many_all_spells (carrier k) (λ (c : ℕ). c ∷ []) (carrier_spells k) z.0 s z.1 x p z.3 ∙ ap (λ (t : List ℕ). t ++ drop p s) (singles x))

rule_spells : (n : ℕ) (listed : ℕ → ℕ → Bool) (done : List Rule) → Spells (rule n listed done) write_rule
unfolding rule_that allowed_pair
rule_spells n listed done s at x p e =
    let z = and_then_got (checked _ _ two s at) _ e in
    let y = and_then_got (count 0 most_pairs s z.1) _ z.3 in
    let w = and_then_got (many (allowed_pair (listed z.0.left) (listed z.0.right)) y.0 [] s y.1) _ y.3 in
    let i : ◌≡◌ {A = Rule} (record { risers = z.0; pairs = w.0 }) x = cc w.3 in
    let q : w.1 ≡ p = cc w.3 in
    let l : length w.0 ≡ y.0 = many_length (allowed_pair (listed z.0.left) (listed z.0.right)) s y.0 [] y.1 w.0 w.1 w.2 ∙ omega arith in
    let a = checked_spells _ _ two write_pair two_spells s at z.0 z.1 z.2 in
    let b = count_spells 0 most_pairs s z.1 y.0 y.1 y.2 in
    let c = many_all_spells (allowed_pair (listed z.0.left) (listed z.0.right)) write_pair (λ d. checked_spells _ _ two write_pair two_spells) y.0 s y.1 w.0 w.1 w.2 in
    subst (λ (r : Rule). drop at s ≡ write_rule r ++ drop p s) i (a ∙ ap (λ (t : List ℕ). z.0.left ∷ z.0.right ∷ t) (b ∙ ap₂ (λ (h : ℕ) (t : List ℕ). h ∷ t) (sym l) (c ∙ ap (λ (j : ℕ). each_written write_pair w.0 ++ drop j s) q)))

swap_spells : (k n m : ℕ) (listed : ℕ → ℕ → Bool) (allows : ℕ → ℕ → ℕ → Bool) (done : List (List ℕ)) → Spells (swap k n m listed allows done) (λ (g : List ℕ). g)
unfolding swap
swap_spells k n m listed allows done = checked_spells _ _ _ (λ (g : List ℕ). g) (checked_spells _ _ _ (λ (g : List ℕ). g) (checked_spells _ _ (field k) (λ (g : List ℕ). g) (field_spells k)))

pub more_spells : (s : List ℕ) (at : ℕ) (x : Unit) (p : ℕ) → nothing_more s at ≡ got x p → (at ≡ length s) × (p ≡ at)
unfolding nothing_more
more_spells s at x p e = go (eqb at (length s)) refl e
  where
    go : (b : Bool) → eqb at (length s) ≡ b → cond b (got tt at) (refused (fault bytes_follow at)) ≡ got x p → (at ≡ length s) × (p ≡ at)
    go true h f = (eqb-true at (length s) h, (let q : at ≡ p = cc in sym q))
    go false h f = absurd (let b : ◌≡◌ {A = ℕ} 0 1 = cc in omega arith)

-- From each section to the end

record End (s : List ℕ) (k : ℕ) (ls : List (List ℕ)) (rs : List Rule) (gs : List (List ℕ)) (p : ℕ) (x : Sheet) : Type 0 where
  is : record { carriers = k; lists = ls; rules = rs; swaps = gs } ≡ x
  rest : drop p s ≡ []

spell_end : (s : List ℕ) (k : ℕ) (ls : List (List ℕ)) (rs : List Rule) (gs : List (List ℕ)) (p : ℕ) (x : Sheet) (q : ℕ) → last s k ls rs gs p ≡ got x q → End s k ls rs gs p x
spell_end s k ls rs gs p x q e =
    let z = and_then_got (nothing_more s p) _ e in
    record { is = got_same z.3; rest = ap (λ (j : ℕ). drop j s) (more_spells s p z.0 z.1 z.2).0 ∙ drop-length s }

record Swaps (s : List ℕ) (k : ℕ) (ls : List (List ℕ)) (rs : List Rule) (c p : ℕ) (x : Sheet) : Type 0 where
  carriers : k ≡ x.carriers
  lists : ls ≡ x.lists
  rules : rs ≡ x.rules
  count_is : c ≡ length x.swaps
  rest : drop p s ≡ tail_swaps x

spell_swaps : (s : List ℕ) (k n m : ℕ) (ls : List (List ℕ)) (rs : List Rule) (c p : ℕ) (x : Sheet) (q : ℕ) → from_swaps s k n m ls rs c p ≡ got x q → Swaps s k ls rs c p x
spell_swaps s k n m ls rs c p x q e = made (and_then_got (many (swap k n m (is_listed_in ls) (allowed_by rs)) c [] s p) _ e)
  where
    made : ((gs : List (List ℕ)) × (p' : ℕ) × (many (swap k n m (is_listed_in ls) (allowed_by rs)) c [] s p ≡ got gs p') × (last s k ls rs gs p' ≡ got x q)) → Swaps s k ls rs c p x
    made (gs, p', f, g) =
        let z = spell_end s k ls rs gs p' x q g in
        let sw = ap (λ (y : Sheet). y.swaps) z.is in
        record {
          carriers = ap (λ (y : Sheet). y.carriers) z.is;
          lists = ap (λ (y : Sheet). y.lists) z.is;
          rules = ap (λ (y : Sheet). y.rules) z.is;
          count_is = many_count (swap k n m (is_listed_in ls) (allowed_by rs)) s c p gs p' f ∙ ap (λ (l : List (List ℕ)). length l) sw;
          rest = many_all_spells (swap k n m (is_listed_in ls) (allowed_by rs)) (λ (h : List ℕ). h) (swap_spells k n m (is_listed_in ls) (allowed_by rs)) c s p gs p' f ∙ ap (λ (t : List ℕ). each_written (λ (h : List ℕ). h) gs ++ t) z.rest ∙ append-nil (each_written (λ (h : List ℕ). h) gs) ∙ ap (each_written (λ (h : List ℕ). h)) sw;
        }

record Rules (s : List ℕ) (k : ℕ) (ls : List (List ℕ)) (m p : ℕ) (x : Sheet) : Type 0 where
  carriers : k ≡ x.carriers
  lists : ls ≡ x.lists
  count_is : m ≡ length x.rules
  rest : drop p s ≡ tail_rules x

spell_rules : (s : List ℕ) (k n : ℕ) (ls : List (List ℕ)) (m p : ℕ) (x : Sheet) (q : ℕ) → from_rules s k n ls m p ≡ got x q → Rules s k ls m p x
spell_rules s k n ls m p x q e = made (and_then_got (many (rule n (is_listed_in ls)) m [] s p) _ e)
  where
    made : ((rs : List Rule) × (p' : ℕ) × (many (rule n (is_listed_in ls)) m [] s p ≡ got rs p') × (and_then (count 0 most_swaps s p') (λ c p''. from_swaps s k n m ls rs c p'') ≡ got x q)) → Rules s k ls m p x
    made (rs, p', f, g) =
        let c = and_then_got (count 0 most_swaps s p') _ g in
        let z = spell_swaps s k n m ls rs c.0 c.1 x q c.3 in
        record {
          carriers = z.carriers;
          lists = z.lists;
          count_is = many_count (rule n (is_listed_in ls)) s m p rs p' f ∙ ap (λ (l : List Rule). length l) z.rules;
          rest = many_all_spells (rule n (is_listed_in ls)) write_rule (rule_spells n (is_listed_in ls)) m s p rs p' f ∙ ap₂ (λ (l : List Rule) (t : List ℕ). each_written write_rule l ++ t) z.rules (count_spells 0 most_swaps s p' c.0 c.1 c.2 ∙ ap₂ (λ (h : ℕ) (t : List ℕ). h ∷ t) z.count_is z.rest);
        }

record Risers (s : List ℕ) (k n p : ℕ) (x : Sheet) : Type 0 where
  carriers : k ≡ x.carriers
  count_is : n ≡ length x.lists
  rest : drop p s ≡ tail_risers x

spell_risers : (s : List ℕ) (k n p : ℕ) (x : Sheet) (q : ℕ) → from_risers s k n p ≡ got x q → Risers s k n p x
spell_risers s k n p x q e = made (and_then_got (many (riser k) n [] s p) _ e)
  where
    made : ((ls : List (List ℕ)) × (p' : ℕ) × (many (riser k) n [] s p ≡ got ls p') × (and_then (count 0 most_rules s p') (λ m p''. from_rules s k n ls m p'') ≡ got x q)) → Risers s k n p x
    made (ls, p', f, g) =
        let m = and_then_got (count 0 most_rules s p') _ g in
        let z = spell_rules s k n ls m.0 m.1 x q m.3 in
        record {
          carriers = z.carriers;
          count_is = many_count (riser k) s n p ls p' f ∙ ap (λ (l : List (List ℕ)). length l) z.lists;
          rest = many_all_spells (riser k) write_list (riser_spells k) n s p ls p' f ∙ ap₂ (λ (l : List (List ℕ)) (t : List ℕ). each_written write_list l ++ t) z.lists (count_spells 0 most_rules s p' m.0 m.1 m.2 ∙ ap₂ (λ (h : ℕ) (t : List ℕ). h ∷ t) z.count_is z.rest);
        }

pub one_spelling : (s : List ℕ) (x : Sheet) (p : ℕ) → job_sheet s 0 ≡ got x p → s ≡ written x
one_spelling s x p e =
    let k = and_then_got (count 1 most_carriers s 0) _ (sym (whole s 0) ∙ e) in
    let n = and_then_got (count 1 most_risers s k.1) _ k.3 in
    let z = spell_risers s k.0 n.0 n.1 x p n.3 in
    count_spells 1 most_carriers s 0 k.0 k.1 k.2 ∙ ap₂ (λ (h : ℕ) (t : List ℕ). h ∷ t) z.carriers (count_spells 1 most_risers s k.1 n.0 n.1 n.2 ∙ ap₂ (λ (h : ℕ) (t : List ℕ). h ∷ t) z.count_is z.rest)

-- two lists of bytes that are accepted as one sheet are the same bytes
pub spelling_same : (s t : List ℕ) (x : Sheet) (p q : ℕ) → job_sheet s 0 ≡ got x p → job_sheet t 0 ≡ got x q → s ≡ t
spelling_same s t x p q e f = one_spelling s x p e ∙ sym (one_spelling t x q f)
