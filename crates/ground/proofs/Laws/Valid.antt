-- The bytes are accepted as X exactly if X is valid and they are X written out (`accepted_iff`). What is valid is in
-- specs/Laws/Valid.antt.
-- Assumes nothing.
use Rattle.std.specs.Prelude.{◌≡◌, refl, Bool, true, false, cond, ◌&&◌, List, [], ◌∷◌, ◌++◌, map, ℕ, zero, suc, ◌+◌, ◌<◌, ◌≤◌, ltb, leb, length, take, drop}
use Rattle.std.proofs.Common.{sym, ap, ap₂, ◌∙◌, subst, append_assoc, append-nil, arith, length-append, length-drop, drop-drop, take_at, length-take-le, eq-eqb, leb-true}
use Rattle.std.proofs.Math.Seq.{drop-append_seam}
use Rattle.ground.specs.Meanings.Sheet.{sheet_ends, wrong_rule, fault, got, refused, Reading, and_then, field, checked, byte, two, Pair, many, count, carrier, riser, Rule, allowed_pair, rule_that, rule, swap, nothing_more, Sheet, job_sheet, is_listed_in, allowed_by, after, before, all_new, keeps_lists, keeps_rules, most_carriers, most_risers, most_rules, most_pairs, most_swaps}
use Rattle.ground.proofs.Laws.Reading.{and_left, and_then_got, field_in, checked_got, checked_passed}
use Rattle.ground.specs.Laws.Spelling.{each_written, write_list, write_pair, write_rule, written, tail_swaps, tail_rules, tail_risers}
use Rattle.ground.proofs.Laws.Spelling.{got_same, many_count, singles, one_spelling}
use Rattle.ground.specs.Laws.Sections.{last, from_swaps, from_rules, from_risers}
use Rattle.ground.proofs.Laws.Sections.{whole}
use Rattle.ground.specs.Laws.Valid.{Takes, Run, Counted, ValidCarrier, ValidList, ValidPair, ValidRule, ValidSwap, Valid, Gives}

-- A reading takes what is spelt by w and passes Good

go_on : (s : List ℕ) (at : ℕ) (a rest : List ℕ) → drop at s ≡ a ++ rest → drop (at + length a) s ≡ rest
go_on s at a rest e = sym (drop-drop (length a) at s) ∙ ap (drop (length a)) e ∙ drop-append_seam a rest

room : (s : List ℕ) (at : ℕ) (a rest : List ℕ) → 0 < length a → drop at s ≡ a ++ rest → at + length a ≤ length s
room s at a rest h e = let p = length-drop at s in let q = length-append a rest in let r : length (drop at s) ≡ length (a ++ rest) = ap (λ (l : List ℕ). length l) e in omega arith

field_takes : (w : ℕ) → 0 < w → Takes (field w) (λ (l : List ℕ). l) (λ (l : List ℕ). length l ≡ w)
field_takes w h s at x rest v e = field_in w s at (let r = room s at x rest (omega arith) e in omega arith) ∙ ap₂ (λ (l : List ℕ) (p : ℕ). got l p) (ap (take w) e ∙ take_at x rest w v) (omega arith)

byte_takes : Takes byte (λ (c : ℕ). c ∷ []) (λ (c : ℕ). Unit)
unfolding byte
byte_takes s at x rest v e = let f = field_takes 1 (omega arith) s at (x ∷ []) rest refl e in rw f

two_takes : Takes two write_pair (λ (x : Pair). Unit)
unfolding two
two_takes s at x rest v e = let f = field_takes 2 (omega arith) s at (write_pair x) rest refl e in rw f

checked_takes : {A : Type 0} (q : ℕ) (t : A → Bool) (m : Reading A) (w : A → List ℕ) (Good : A → Type 0) → Takes m w Good → Takes (checked q t m) w (λ x. Good x × (t x ≡ true))
checked_takes q t m w Good h s at x rest v e = checked_got q t m s at (h s at x rest v.0 e) v.1

many_takes : {A : Type 0} (one : List A → Reading A) (w : A → List ℕ) (Good : List A → A → Type 0) → ((done : List A) → Takes (one done) w (Good done)) → (l done : List A) (s : List ℕ) (at : ℕ) (rest : List ℕ) → Run Good done l → drop at s ≡ each_written w l ++ rest → many one (length l) done s at ≡ got (done ++ l) (at + length (each_written w l))
unfolding many
many_takes one w Good h [] done s at rest v e = ap₂ (λ (d : List _) (p : ℕ). got d p) (sym (append-nil done)) (omega arith)
many_takes one w Good h (x ∷ l) done s at rest v e =
    let e' : drop at s ≡ w x ++ (each_written w l ++ rest) = e ∙ append_assoc (w x) (each_written w l) rest in
    let f = h done s at x (each_written w l ++ rest) v.0 e' in
    let g = many_takes one w Good h l (done ++ (x ∷ [])) s (at + length (w x)) rest v.1 (go_on s at (w x) (each_written w l ++ rest) e') in
    let n = length-append (w x) (each_written w l) in
    rw f (g ∙ ap₂ (λ (d : List _) (p : ℕ). got d p) (append_assoc done (x ∷ []) l) (omega arith))

many_all_takes : {A : Type 0} (one : List A → Reading A) (w : A → List ℕ) (Good : List A → A → Type 0) → ((done : List A) → Takes (one done) w (Good done)) → (l : List A) (s : List ℕ) (at : ℕ) (rest : List ℕ) → Run Good [] l → drop at s ≡ each_written w l ++ rest → many one (length l) [] s at ≡ got l (at + length (each_written w l))
many_all_takes one w Good h l s at rest v e = many_takes one w Good h l [] s at rest v e

-- What is valid is taken

count_takes : (a b : ℕ) → Takes (count a b) (λ (c : ℕ). c ∷ []) (Counted a b)
unfolding count
count_takes a b = checked_takes _ _ byte (λ (c : ℕ). c ∷ []) (λ (c : ℕ). Unit) byte_takes

carrier_takes : (k : ℕ) (done : List ℕ) → Takes (carrier k done) (λ (c : ℕ). c ∷ []) (ValidCarrier k done)
unfolding carrier
carrier_takes k done = checked_takes _ _ byte (λ (c : ℕ). c ∷ []) (λ (c : ℕ). Unit) byte_takes

riser_takes : (k : ℕ) (done : List (List ℕ)) → Takes (riser k done) write_list (ValidList k done)
unfolding riser
riser_takes k done s at x rest v e =
    let f = count_takes 1 k s at (length x) (x ++ rest) v.0 e in
    let g = many_all_takes (carrier k) (λ (c : ℕ). c ∷ []) (ValidCarrier k) (carrier_takes k) x s (at + 1) rest v.1 (go_on s at (length x ∷ []) (x ++ rest) e ∙ ap (λ (t : List ℕ). t ++ rest) (sym (singles x))) in
    let n = ap (λ (t : List ℕ). length t) (singles x) in
    rw f (g ∙ ap (λ (p : ℕ). got x p) (omega arith))

pair_takes : (in_a in_b : ℕ → Bool) (done : List Pair) → Takes (allowed_pair in_a in_b done) write_pair (ValidPair in_a in_b done)
unfolding allowed_pair
pair_takes in_a in_b done = checked_takes _ _ two write_pair (λ (x : Pair). Unit) two_takes

rule_takes : (n : ℕ) (listed : ℕ → ℕ → Bool) (done : List Rule) → Takes (rule n listed done) write_rule (ValidRule n listed done)
unfolding rule_that
rule_takes n listed done s at x rest v e =
    let f = checked_takes wrong_rule (λ (y : Pair). (ltb y.left y.right && ltb y.right n) && after before (map (λ (z : Rule). z.risers) done) y) two write_pair (λ (y : Pair). Unit) two_takes s at x.risers (length x.pairs ∷ (each_written write_pair x.pairs ++ rest)) v.risers e in
    let e₂ = go_on s at (write_pair x.risers) (length x.pairs ∷ (each_written write_pair x.pairs ++ rest)) e in
    let g = count_takes 0 most_pairs s (at + 2) (length x.pairs) (each_written write_pair x.pairs ++ rest) v.counted e₂ in
    let e₃ = go_on s (at + 2) (length x.pairs ∷ []) (each_written write_pair x.pairs ++ rest) e₂ in
    let h = many_all_takes (allowed_pair (listed x.risers.left) (listed x.risers.right)) write_pair (ValidPair (listed x.risers.left) (listed x.risers.right)) (pair_takes (listed x.risers.left) (listed x.risers.right)) x.pairs s (at + 2 + 1) rest v.pairs e₃ in
    rw (f, g, h) (ap (λ (p : ℕ). got x p) (omega arith))

swap_takes : (k n m : ℕ) (listed : ℕ → ℕ → Bool) (allows : ℕ → ℕ → ℕ → Bool) → 0 < k → (done : List (List ℕ)) → Takes (swap k n m listed allows done) (λ (g : List ℕ). g) (ValidSwap k n m listed allows done)
unfolding swap
swap_takes k n m listed allows h done = checked_takes _ _ _ (λ (g : List ℕ). g) _ (checked_takes _ _ _ (λ (g : List ℕ). g) _ (checked_takes _ _ (field k) (λ (g : List ℕ). g) _ (field_takes k h)))

some_carrier : (k : ℕ) → (leb 1 k && leb k most_carriers) ≡ true → 0 < k
some_carrier k e = leb-true 1 k (and_left (leb 1 k) (leb k most_carriers) e)

module _ (x : Sheet) (v : Valid x) (s : List ℕ) where
  abbrev k : ℕ
  k = x.carriers

  take_end : (at : ℕ) → at ≡ length s → last s x.carriers x.lists x.rules x.swaps at ≡ got x at
  unfolding nothing_more
  take_end at e = rw (eq-eqb at (length s) e)

  at_end : (at : ℕ) (a : List ℕ) → 0 < at → at ≤ length s → drop at s ≡ a → at + length a ≡ length s
  at_end at a h r e = let p = length-drop at s in let q : length (drop at s) ≡ length a = ap (λ (l : List ℕ). length l) e in omega arith

  take_swaps : (at : ℕ) → 0 < at → at ≤ length s → drop at s ≡ tail_swaps x → (p : ℕ) × (from_swaps s k (length x.lists) (length x.rules) x.lists x.rules (length x.swaps) at ≡ got x p)
  take_swaps at h r e =
      let f = many_all_takes (swap k (length x.lists) (length x.rules) (is_listed_in x.lists) (allowed_by x.rules)) (λ (g : List ℕ). g) (ValidSwap k (length x.lists) (length x.rules) (is_listed_in x.lists) (allowed_by x.rules)) (swap_takes k (length x.lists) (length x.rules) (is_listed_in x.lists) (allowed_by x.rules) (some_carrier k v.carriers.1)) x.swaps s at [] v.swaps (e ∙ sym (append-nil (tail_swaps x))) in
      (at + length (tail_swaps x), rw f (take_end (at + length (tail_swaps x)) (at_end at (tail_swaps x) h r e)))

  take_rules : (at : ℕ) → drop at s ≡ tail_rules x → (p : ℕ) × (from_rules s k (length x.lists) x.lists (length x.rules) at ≡ got x p)
  take_rules at e =
      let f = many_all_takes (rule (length x.lists) (is_listed_in x.lists)) write_rule (ValidRule (length x.lists) (is_listed_in x.lists)) (rule_takes (length x.lists) (is_listed_in x.lists)) x.rules s at (length x.swaps ∷ tail_swaps x) v.rules e in
      let e₂ = go_on s at (each_written write_rule x.rules) (length x.swaps ∷ tail_swaps x) e in
      let g = count_takes 0 most_swaps s (at + length (each_written write_rule x.rules)) (length x.swaps) (tail_swaps x) v.swap_count e₂ in
      let r = room s (at + length (each_written write_rule x.rules)) (length x.swaps ∷ []) (tail_swaps x) (omega arith) e₂ in
      let z = take_swaps (at + length (each_written write_rule x.rules) + 1) (omega arith) r (go_on s (at + length (each_written write_rule x.rules)) (length x.swaps ∷ []) (tail_swaps x) e₂) in
      (z.0, rw (f, g) z.1)

  take_risers : (at : ℕ) → drop at s ≡ tail_risers x → (p : ℕ) × (from_risers s k (length x.lists) at ≡ got x p)
  take_risers at e =
      let f = many_all_takes (riser k) write_list (ValidList k) (riser_takes k) x.lists s at (length x.rules ∷ tail_rules x) v.lists e in
      let e₂ = go_on s at (each_written write_list x.lists) (length x.rules ∷ tail_rules x) e in
      let g = count_takes 0 most_rules s (at + length (each_written write_list x.lists)) (length x.rules) (tail_rules x) v.rule_count e₂ in
      let z = take_rules (at + length (each_written write_list x.lists) + 1) (go_on s (at + length (each_written write_list x.lists)) (length x.rules ∷ []) (tail_rules x) e₂) in
      (z.0, rw (f, g) z.1)

  -- a valid sheet, written out, is accepted as itself
  pub valid_accepted : s ≡ written x → (p : ℕ) × (job_sheet s 0 ≡ got x p)
  valid_accepted e =
      let f = count_takes 1 most_carriers s 0 k (length x.lists ∷ tail_risers x) v.carriers e in
      let g = count_takes 1 most_risers s 1 (length x.lists) (tail_risers x) v.risers (go_on s 0 (k ∷ []) (length x.lists ∷ tail_risers x) e) in
      let z = take_risers 2 (go_on s 1 (length x.lists ∷ []) (tail_risers x) (go_on s 0 (k ∷ []) (length x.lists ∷ tail_risers x) e)) in
      (z.0, whole s 0 ∙ rw (f, g) z.1)

-- ---- what is accepted is valid

many_gives : {A : Type 0} (one : List A → Reading A) (Good : List A → A → Type 0) → ((done : List A) → Gives (one done) (Good done)) → (n : ℕ) (done : List A) (s : List ℕ) (at : ℕ) (l : List A) (p : ℕ) → many one n done s at ≡ got l p → (new : List A) × (l ≡ done ++ new) × Run Good done new
unfolding many
many_gives one Good h zero done s at l p e = ([], sym (got_same e) ∙ sym (append-nil done), tt)
many_gives one Good h (suc n) done s at l p e =
    let z = and_then_got (one done s at) _ e in
    let r = many_gives one Good h n (done ++ (z.0 ∷ [])) s z.1 l p z.3 in
    (z.0 ∷ r.0, r.1 ∙ append_assoc done (z.0 ∷ []) r.0, (h done s at z.0 z.1 z.2, r.2))

many_run : {A : Type 0} (one : List A → Reading A) (Good : List A → A → Type 0) → ((done : List A) → Gives (one done) (Good done)) → (n : ℕ) (s : List ℕ) (at : ℕ) (l : List A) (p : ℕ) → many one n [] s at ≡ got l p → Run Good [] l
many_run one Good h n s at l p e = let r = many_gives one Good h n [] s at l p e in subst (Run Good []) (sym r.1) r.2

checked_gives : {A : Type 0} (q : ℕ) (t : A → Bool) (m : Reading A) (Good : A → Type 0) → Gives m Good → Gives (checked q t m) (λ x. Good x × (t x ≡ true))
checked_gives q t m Good h s at x p e = let z = checked_passed q t m s at e in (h s at x p z.1, z.0)

pub count_gives : (a b : ℕ) → Gives (count a b) (Counted a b)
unfolding count
count_gives a b = checked_gives _ (λ c. leb a c && leb c b) byte (λ (c : ℕ). Unit) (λ s at x p e. tt)

carrier_gives : (k : ℕ) (done : List ℕ) → Gives (carrier k done) (ValidCarrier k done)
unfolding carrier
carrier_gives k done = checked_gives _ (λ c. after ltb done c && ltb c k) byte (λ (c : ℕ). Unit) (λ s at x p e. tt)

riser_gives : (k : ℕ) (done : List (List ℕ)) → Gives (riser k done) (ValidList k done)
unfolding riser
riser_gives k done s at x p e =
    let z = and_then_got (count 1 k s at) _ e in
    (subst (Counted 1 k) (many_count (carrier k) s z.0 z.1 x p z.3) (count_gives 1 k s at z.0 z.1 z.2), many_run (carrier k) (ValidCarrier k) (carrier_gives k) z.0 s z.1 x p z.3)

pair_gives : (in_a in_b : ℕ → Bool) (done : List Pair) → Gives (allowed_pair in_a in_b done) (ValidPair in_a in_b done)
unfolding allowed_pair
pair_gives in_a in_b done = checked_gives _ (λ x. (in_a x.left && in_b x.right) && after before done x) two (λ (x : Pair). Unit) (λ s at x p e. tt)

rule_gives : (n : ℕ) (listed : ℕ → ℕ → Bool) (done : List Rule) → Gives (rule n listed done) (ValidRule n listed done)
unfolding rule_that
rule_gives n listed done s at x p e =
    let z = and_then_got (checked _ (λ (y : Pair). (ltb y.left y.right && ltb y.right n) && after before (map (λ (w : Rule). w.risers) done) y) two s at) _ e in
    let y = and_then_got (count 0 most_pairs s z.1) _ z.3 in
    let w = and_then_got (many (allowed_pair (listed z.0.left) (listed z.0.right)) y.0 [] s y.1) _ y.3 in
    let l = many_count (allowed_pair (listed z.0.left) (listed z.0.right)) s y.0 y.1 w.0 w.1 w.2 in
    subst (ValidRule n listed done) (got_same w.3) (record {
      risers = (tt, (checked_passed _ _ two s at z.2).0);
      counted = subst (Counted 0 most_pairs) l (count_gives 0 most_pairs s z.1 y.0 y.1 y.2);
      pairs = many_run (allowed_pair (listed z.0.left) (listed z.0.right)) (ValidPair (listed z.0.left) (listed z.0.right)) (pair_gives (listed z.0.left) (listed z.0.right)) y.0 s y.1 w.0 w.1 w.2;
    })

field_gives : (w : ℕ) → Gives (field w) (λ (l : List ℕ). length l ≡ w)
unfolding field
field_gives w s at x p e = go (leb (at + w) (length s)) refl e
  where
    go : (b : Bool) → leb (at + w) (length s) ≡ b → cond b (got (take w (drop at s)) (at + w)) (refused (fault sheet_ends at)) ≡ got x p → length x ≡ w
    go true h f = ap (λ (l : List ℕ). length l) (sym (got_same f)) ∙ length-take-le w (drop at s) (let d = length-drop at s in let r = leb-true (at + w) (length s) h in omega arith)
    go false h f = absurd (let b : ◌≡◌ {A = ℕ} 0 1 = cc in omega arith)

swap_gives : (k n m : ℕ) (listed : ℕ → ℕ → Bool) (allows : ℕ → ℕ → ℕ → Bool) (done : List (List ℕ)) → Gives (swap k n m listed allows done) (ValidSwap k n m listed allows done)
unfolding swap
swap_gives k n m listed allows done = checked_gives _ (keeps_rules k m allows) _ _ (checked_gives _ (keeps_lists k n listed) _ _ (checked_gives _ (all_new k []) (field k) _ (field_gives k)))

-- From each section to the end: what the sheet has

module _ (s : List ℕ) (k n : ℕ) (ck : Counted 1 most_carriers k) (cn : Counted 1 most_risers n) where
  end_valid : (ls : List (List ℕ)) (rs : List Rule) (gs : List (List ℕ)) (m c : ℕ) → n ≡ length ls → m ≡ length rs → c ≡ length gs → Run (ValidList k) [] ls → Counted 0 most_rules m → Run (ValidRule n (is_listed_in ls)) [] rs → Counted 0 most_swaps c → Run (ValidSwap k n m (is_listed_in ls) (allowed_by rs)) [] gs → Valid (record { carriers = k; lists = ls; rules = rs; swaps = gs })
  end_valid ls rs gs m c en em ec vl cm vr cc' vs = record {
    carriers = ck;
    risers = subst (Counted 1 most_risers) en cn;
    lists = vl;
    rule_count = subst (Counted 0 most_rules) em cm;
    rules = subst (λ (j : ℕ). Run (ValidRule j (is_listed_in ls)) [] rs) en vr;
    swap_count = subst (Counted 0 most_swaps) ec cc';
    swaps = subst (λ (j : ℕ). Run (ValidSwap k (length ls) j (is_listed_in ls) (allowed_by rs)) [] gs) em (subst (λ (j : ℕ). Run (ValidSwap k j m (is_listed_in ls) (allowed_by rs)) [] gs) en vs);
  }

  risers_valid : (p : ℕ) (x : Sheet) (q : ℕ) → from_risers s k n p ≡ got x q → Valid x
  risers_valid p x q e = with_lists (and_then_got (many (riser k) n [] s p) _ e)
    where
      with_swaps : (ls : List (List ℕ)) (rs : List Rule) (m : ℕ) → n ≡ length ls → m ≡ length rs → Run (ValidList k) [] ls → Counted 0 most_rules m → Run (ValidRule n (is_listed_in ls)) [] rs → (c p : ℕ) → Counted 0 most_swaps c → from_swaps s k n m ls rs c p ≡ got x q → Valid x
      with_swaps ls rs m en em vl cm vr c p cc' e =
          let g = and_then_got (many (swap k n m (is_listed_in ls) (allowed_by rs)) c [] s p) _ e in
          let z = and_then_got (nothing_more s g.1) _ g.3 in
          subst Valid (got_same z.3) (end_valid ls rs g.0 m c en em (many_count (swap k n m (is_listed_in ls) (allowed_by rs)) s c p g.0 g.1 g.2) vl cm vr cc' (many_run (swap k n m (is_listed_in ls) (allowed_by rs)) (ValidSwap k n m (is_listed_in ls) (allowed_by rs)) (swap_gives k n m (is_listed_in ls) (allowed_by rs)) c s p g.0 g.1 g.2))

      with_rules : (ls : List (List ℕ)) → n ≡ length ls → Run (ValidList k) [] ls → (m p : ℕ) → Counted 0 most_rules m → from_rules s k n ls m p ≡ got x q → Valid x
      with_rules ls en vl m p cm e =
          let r = and_then_got (many (rule n (is_listed_in ls)) m [] s p) _ e in
          let c = and_then_got (count 0 most_swaps s r.1) _ r.3 in
          with_swaps ls r.0 m en (many_count (rule n (is_listed_in ls)) s m p r.0 r.1 r.2) vl cm (many_run (rule n (is_listed_in ls)) (ValidRule n (is_listed_in ls)) (rule_gives n (is_listed_in ls)) m s p r.0 r.1 r.2) c.0 c.1 (count_gives 0 most_swaps s r.1 c.0 c.1 c.2) c.3

      with_lists : ((ls : List (List ℕ)) × (p' : ℕ) × (many (riser k) n [] s p ≡ got ls p') × (and_then (count 0 most_rules s p') (λ m p''. from_rules s k n ls m p'') ≡ got x q)) → Valid x
      with_lists (ls, p', f, g) =
          let m = and_then_got (count 0 most_rules s p') _ g in
          with_rules ls (many_count (riser k) s n p ls p' f) (many_run (riser k) (ValidList k) (riser_gives k) n s p ls p' f) m.0 m.1 (count_gives 0 most_rules s p' m.0 m.1 m.2) m.3

pub accepted_valid : (s : List ℕ) (x : Sheet) (p : ℕ) → job_sheet s 0 ≡ got x p → Valid x
accepted_valid s x p e =
    let k = and_then_got (count 1 most_carriers s 0) _ (sym (whole s 0) ∙ e) in
    let n = and_then_got (count 1 most_risers s k.1) _ k.3 in
    risers_valid s k.0 n.0 (count_gives 1 most_carriers s 0 k.0 k.1 k.2) (count_gives 1 most_risers s k.1 n.0 n.1 n.2) n.1 x p n.3

-- the bytes are accepted as x exactly if x is valid and they are x written out
pub accepted_iff : (s : List ℕ) (x : Sheet) → (((p : ℕ) × (job_sheet s 0 ≡ got x p)) → (Valid x × (s ≡ written x))) × ((Valid x × (s ≡ written x)) → ((p : ℕ) × (job_sheet s 0 ≡ got x p)))
accepted_iff s x = (λ a. (accepted_valid s x a.0 a.1, one_spelling s x a.0 a.1), λ b. valid_accepted x b.0 s b.1)
