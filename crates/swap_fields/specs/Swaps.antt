-- The swaps' section: one swap with its tests, all swaps.
--
--   tell_swap o        the answer for the outcome o of reading a swap: the swap at width 15 and the place after it, or the fault
--   SwapsSoFar ..      the loop over the swaps
--
-- A swap is tested at width 15 and the definition speaks of its k bytes: the tests look at carriers below k alone.
-- Assumes nothing.
use Rattle.std.specs.Prelude.{◌≡◌, refl, Bool, true, false, ◌&&◌, List, [], ◌∷◌, ◌++◌, ℕ, suc, ◌+◌, ◌<◌, ◌≤◌, eqb, leb, length, set, take, drop, Result, Ok, Err}
use Rattle.std.proofs.Common.{sym, ap, ap₂, ◌∙◌, subst, arith, length-drop, length-set, le-leb}
use Rattle.std.proofs.Math.Path.{fun_ext}
use Rattle.std.proofs.Math.ListN.{get_or-append}
use Rattle.std.proofs.lemmas.List.{length-take-le, set-append_left, take-append-drop}
use Rattle.ground.specs.Meanings.Group.{at, identity}
use Rattle.ground.specs.Meanings.Sheet.{Fault, sheet_ends, no_permutation, list_not_kept, rule_not_kept, fault, Outcome, got, refused, Reading, checked, field, many, each, implies, all_new, keeps_carrier, keeps_lists, keeps_pair, keeps_rules, swap, most_carriers}
use Rattle.ground.proofs.Laws.Reading.{field_in, field_out, checked_got, checked_bad, checked_refused, many_length}
use Rattle.fields.specs.Tables.{is_listed, is_allowed, padded, put_swap, put_all}
use Rattle.fields.specs.Answers.{Answers, tell, tell_section, tell_got, tell_refused}
use Rattle.fields.specs.Fillings.{Filling, filling_starts, filling_more, filling_refused, filling_ends}
use Rattle.swap_tests.specs.Tests.{first_same}

-- ---- one swap

abbrev pub tell_swap : Outcome (List ℕ) → Result (List ℕ × ℕ) Fault
tell_swap o = tell (λ g next. (padded most_carriers g, next)) o

module _ (k : ℕ) (s : List ℕ) (p : ℕ) (l : p + k ≤ length s) where
  long : length (take k (drop p s)) ≡ k
  long = length-take-le k (drop p s) (rw (length-drop p s) (omega arith))

  -- the test of the bytes themselves is that of k bytes
  pub six_is : k ≤ most_carriers → (b : List ℕ) → b ≡ take k (drop p s) → (x : Bool) → x ≡ (leb (length b) most_carriers && all_new (length b) [] b) → all_new k [] (take k (drop p s)) ≡ x
  six_is small b e x h = sym (rw (e, long, le-leb k most_carriers small) at h)

module _ (k n m : ℕ) (M T : List ℕ) (s : List ℕ) (p : ℕ) where
  abbrev Swap : Outcome (List ℕ)
  Swap = swap k n m (is_listed M) (is_allowed T) [] s p

  told : {f e : Fault} → Swap ≡ refused e → f ≡ e → Err f ≡ tell_swap Swap
  told h f = ap Err f ∙ ap tell_swap (sym h)

  pub swap_short : {f : Fault} → length s < p + k → f ≡ fault sheet_ends p → Err f ≡ tell_swap Swap
  unfolding swap
  swap_short h e = told (checked_refused rule_not_kept _ _ s p (checked_refused list_not_kept _ _ s p (checked_refused no_permutation _ (field k) s p (field_out k s p h)))) e

  module _ (l : p + k ≤ length s) (small : k ≤ most_carriers) where
    abbrev g : List ℕ
    g = take k (drop p s)

    pub swap_6 : {f : Fault} → all_new k [] g ≡ false → f ≡ fault no_permutation p → Err f ≡ tell_swap Swap
    unfolding swap
    swap_6 h e = told (checked_refused rule_not_kept _ _ s p (checked_refused list_not_kept _ _ s p (checked_bad no_permutation _ (field k) s p (field_in k s p l) h))) e

    module _ (six : all_new k [] g ≡ true) (b : List ℕ) (same : b ≡ g) (G : List ℕ) (over : G ≡ padded most_carriers b) where
      e : G ≡ padded most_carriers g
      e = over ∙ ap (padded most_carriers) same

      same_at : (c : ℕ) → c < k → at g c ≡ at G c
      unfolding padded
      same_at c h = rw e (sym (get_or-append g (drop (length g) (identity most_carriers)) 0 c (omega (arith, long k s p l))))

      same_lists : keeps_lists k n (is_listed M) g ≡ keeps_lists k n (is_listed M) G
      unfolding keeps_carrier
      same_lists = ap (λ (t : ℕ → Bool). each n t) (fun_ext (λ r. ap (λ (x : ℕ). eqb x k) (first_same (keeps_carrier (is_listed M r) g) (keeps_carrier (is_listed M r) G) k (λ c h. ap (λ (d : ℕ). implies (is_listed M r c) (is_listed M r d)) (same_at c h)))))

      same_rules : keeps_rules k m (is_allowed T) g ≡ keeps_rules k m (is_allowed T) G
      unfolding keeps_pair
      same_rules = ap (λ (t : ℕ → Bool). each m t) (fun_ext (λ q. ap (λ (x : ℕ). eqb x k) (first_same (λ u. each k (keeps_pair (is_allowed T q) g u)) (λ u. each k (keeps_pair (is_allowed T q) G u)) k (λ u h. ap (λ (x : ℕ). eqb x k) (first_same (keeps_pair (is_allowed T q) g u) (keeps_pair (is_allowed T q) G u) k (λ v f. ap₂ (λ (a b : ℕ). implies (is_allowed T q u v) (is_allowed T q a b)) (same_at u h) (same_at v f)))))))

      read6 : checked no_permutation (all_new k []) (field k) s p ≡ got g (p + k)
      read6 = checked_got no_permutation (all_new k []) (field k) s p (field_in k s p l) six

      pub swap_7 : {f : Fault} → keeps_lists k n (is_listed M) G ≡ false → f ≡ fault list_not_kept p → Err f ≡ tell_swap Swap
      unfolding swap
      swap_7 h f = told (checked_refused rule_not_kept _ _ s p (checked_bad list_not_kept _ _ s p read6 (same_lists ∙ h))) f

      module _ (seven : keeps_lists k n (is_listed M) G ≡ true) where
        read7 : checked list_not_kept (keeps_lists k n (is_listed M)) (checked no_permutation (all_new k []) (field k)) s p ≡ got g (p + k)
        read7 = checked_got list_not_kept (keeps_lists k n (is_listed M)) _ s p read6 (same_lists ∙ seven)

        pub swap_8 : {f : Fault} → keeps_rules k m (is_allowed T) G ≡ false → f ≡ fault rule_not_kept p → Err f ≡ tell_swap Swap
        unfolding swap
        swap_8 h f = told (checked_bad rule_not_kept _ _ s p read7 (same_rules ∙ h)) f

        pub swap_is : keeps_rules k m (is_allowed T) G ≡ true → Ok (G, p + k) ≡ tell_swap Swap
        unfolding swap
        swap_is h = ap (λ (x : List ℕ). Ok (x, p + k)) e ∙ ap tell_swap (sym (checked_got rule_not_kept (keeps_rules k m (is_allowed T)) _ s p read7 (same_rules ∙ h)))

-- ---- all swaps

-- the swaps before it do not matter to a swap
swap_any : (k n m : ℕ) (M T : List ℕ) (s : List ℕ) (p : ℕ) (done : List (List ℕ)) → swap k n m (is_listed M) (is_allowed T) done s p ≡ swap k n m (is_listed M) (is_allowed T) [] s p
unfolding swap
swap_any k n m M T s p done = refl

pub record SwapsSoFar (s : List ℕ) (from k n m c : ℕ) (M T : List ℕ) (t₀ t : List (List ℕ)) (p i : ℕ) : Type 0 where
  pub done : List (List ℕ)
  pub filling : Filling (swap k n m (is_listed M) (is_allowed T)) put_swap c s from t₀ t p i done

module _ (s : List ℕ) (from k n m c : ℕ) (M T : List ℕ) (t₀ : List (List ℕ)) where
  abbrev one : List (List ℕ) → Reading (List ℕ)
  one = swap k n m (is_listed M) (is_allowed T)

  pub swaps_start : SwapsSoFar s from k n m c M T t₀ t₀ from 0
  swaps_start = record { done = []; filling = filling_starts one put_swap c s from t₀ }

  module _ (t : List (List ℕ)) (p i : ℕ) (v : SwapsSoFar s from k n m c M T t₀ t p i) (l : i < c) where
    pub swaps_more : {g : List ℕ} {next : ℕ} → Ok (g, next) ≡ tell_swap (one [] s p) → SwapsSoFar s from k n m c M T t₀ (set t i g) next (i + 1)
    unfolding put_swap
    swaps_more {g} {next} e =
        let z = tell_got _ (one [] s p) e in
        let read : one v.done s p ≡ got z.0 next = swap_any k n m M T s p v.done ∙ z.2 ∙ ap (λ (w : List ℕ × ℕ). got z.0 w.1) z.3 in
        record {
          done = v.done ++ (z.0 ∷ []);
          filling = subst (λ (x : List ℕ). Filling one put_swap c s from t₀ (set t i x) next (i + 1) (v.done ++ (z.0 ∷ []))) (ap (λ (w : List ℕ × ℕ). w.0) z.3) (filling_more one put_swap c s from t₀ v.filling l read);
        }

    pub swaps_refused : {f : Fault} {P : List (List ℕ) → Type 0} → Err f ≡ tell_swap (one [] s p) → Answers tell_section (many one c [] s from) (Err f) P
    swaps_refused e = filling_refused one put_swap c s from t₀ v.filling l (swap_any k n m M T s p v.done ∙ tell_refused _ (one [] s p) e)

  pub swaps_end : (t : List (List ℕ)) (p i : ℕ) → SwapsSoFar s from k n m c M T t₀ t p i → c ≤ i → Answers tell_section (many one c [] s from) (Ok p) (λ (l : List (List ℕ)). t ≡ put_all put_swap t₀ 0 l)
  swaps_end t p i v l = filling_ends one put_swap c s from t₀ v.filling l

-- ---- the swaps that there are, and the places after them

put_front : (a b : List (List ℕ)) (i : ℕ) (l : List (List ℕ)) → i + length l ≤ length a → put_all put_swap a i l ++ b ≡ put_all put_swap (a ++ b) i l
unfolding put_all put_swap
put_front a b i [] h = refl
put_front a b i (x ∷ l) h =
    let y = padded most_carriers x in
    put_front (set a i y) b (suc i) l (omega (arith, length-set a i y)) ∙ ap (λ (t : List (List ℕ)). put_all put_swap t (suc i) l) (sym (set-append_left a b i y (omega arith)))

-- what is read into the first places of a table is read into the table
pub front_read : (one : List (List ℕ) → Reading (List ℕ)) (s : List ℕ) (from n : ℕ) (t : List (List ℕ)) {t' : List (List ℕ)} {r : Result ℕ Fault}
    → Answers tell_section (many one (length (take n t)) [] s from) r (λ (l : List (List ℕ)). t' ≡ put_all put_swap (take n t) 0 l) → n ≤ length t
    → Answers tell_section (many one n [] s from) r (λ (l : List (List ℕ)). t' ++ drop n t ≡ put_all put_swap t 0 l)
front_read one s from n t a h =
    let size : length (take n t) ≡ n = length-take-le n t h in
    record {
      told = a.told ∙ ap (λ (m : ℕ). tell_section (many one m [] s from)) size;
      leaves = λ l p e.
          let few : length l ≡ n = many_length one s n [] from l p e ∙ omega arith in
          ap (λ (x : List (List ℕ)). x ++ drop n t) (a.leaves l p (ap (λ (m : ℕ). many one m [] s from) size ∙ e)) ∙ put_front (take n t) (drop n t) 0 l (omega arith) ∙ ap (λ (x : List (List ℕ)). put_all put_swap x 0 l) (take-append-drop n t);
    }
