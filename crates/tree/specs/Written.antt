-- What a run leaves.
--
--   AllWhole n F     each row of F has n carriers
--   written, noted   the lent rows and sizes after the plans F are listed, l having been listed before
--
-- Where the allowance is enough for the visits, a run from the empty state counts them all, and writes the plans among them as far as
-- there is room (`run_all`); else it stops at the allowance (`run_many`).
-- Assumes nothing.
use Rattle.std.specs.Prelude.{◌≡◌, refl, Bool, true, false, cond, List, [], ◌∷◌, ◌++◌, ℕ, zero, suc, ◌+◌, ◌*◌, ◌-◌, ◌≤◌, ◌<◌, eqb, ltb, length, take, drop, set}
use Rattle.std.proofs.Common.{sym, ap, ap₂, ◌∙◌, inl, inr, append_assoc, add-zero, zero-add, mul-le-mul_right, mul_comm, mul-add, add-one, arith, lt-ltb, le-ltb, length-append, length-set, take-append-drop, take_all, take-suc-set, drop-set-lt, drop-drop}
use mathlib.Core.List.Memᴰ
use Rattle.std.proofs.Math.Decide.{dec_lt}
use Rattle.std.proofs.lemmas.List.{length-map}
use Rattle.std.proofs.Math.Seq.{paste, take-nil}
use Rattle.std.proofs.lemmas.List.Edits.{length-paste, take-paste, drop-paste}
use Rattle.ground.specs.Meanings.Exactly.{◌∈◌}
use Rattle.ground.specs.Meanings.Listing.{Line, rows_of, sizes_of, flat, over}
use Rattle.ground.specs.Laws.Classes.{total}
use Rattle.tree.specs.declared.Limits.{Limits}
use Rattle.tree.specs.Visits.{State, state, empty, listing, opening, run}
use Rattle.tree.specs.Runs.{run_none, run_first, run_stop}
use Rattle.tree.specs.Wholes.{wholes, wholes_mem}

abbrev written : ℕ → ℕ → List Line → ℕ → List ℕ → List ℕ
written n room [] l rows = rows
written n room (v ∷ F) l rows = written n room F (l + 1) (cond (ltb l room) (paste rows (l * n) v.row n) rows)

abbrev noted : ℕ → List Line → ℕ → List ℕ → List ℕ
noted room [] l sizes = sizes
noted room (v ∷ F) l sizes = noted room F (l + 1) (cond (ltb l room) (set sizes l v.size) sizes)

-- ---- runs

same_state : (o o' l l' t t' : ℕ) (b : Bool) (r z : List ℕ) → o ≡ o' → l ≡ l' → t ≡ t' → state o l t b r z ≡ state o' l' t' b r z
same_state o o' l l' t t' b r z p q s = ap (λ (x : ℕ). state x l t b r z) p ∙ ap (λ (x : ℕ). state o' x t b r z) q ∙ ap (λ (x : ℕ). state o' l' x b r z) s

module _ (z : Limits) where
  abbrev n : ℕ
  n = z.risers

  abbrev room : ℕ
  room = z.room

  abbrev Ended : List Line → List Line → ℕ → ℕ → ℕ → List ℕ → List ℕ → State
  Ended vs F o l t rows sizes = state (o + length vs) (l + length F) (t + total (sizes_of F)) false (written n room F l rows) (noted room F l sizes)

  -- the allowance is enough
  run_all_from : (vs : List Line) (o l t : ℕ) (rows sizes : List ℕ) → o + length vs ≤ z.allowance
      → run z vs (state o l t false rows sizes) ≡ Ended vs (wholes n vs) o l t rows sizes
  run_all_from [] o l t rows sizes h =
      run_none z (state o l t false rows sizes) ∙ same_state o (o + 0) l (l + 0) t (t + 0) false rows sizes (omega arith) (omega arith) (omega arith)
  run_all_from (v ∷ vs) o l t rows sizes h =
      run_first z v vs (state o l t false rows sizes) refl (omega arith) ∙ go (eqb (length v.row) n) (λ l t rows sizes. run_all_from vs (o + 1) l t rows sizes (omega arith))
    where
      go : (b : Bool)
          → ((l t : ℕ) (rows sizes : List ℕ) → run z vs (state (o + 1) l t false rows sizes) ≡ Ended vs (wholes n vs) (o + 1) l t rows sizes)
          → run z vs (cond b (listing z v (opening (state o l t false rows sizes))) (opening (state o l t false rows sizes))) ≡ Ended (v ∷ vs) (cond b (v ∷ wholes n vs) (wholes n vs)) o l t rows sizes
      go true f =
          f (l + 1) (t + v.size) (cond (ltb l room) (paste rows (l * n) v.row n) rows) (cond (ltb l room) (set sizes l v.size) sizes)
          ∙ same_state (o + 1 + length vs) (o + length (v ∷ vs)) (l + 1 + length (wholes n vs)) (l + length (v ∷ wholes n vs)) (t + v.size + total (sizes_of (wholes n vs))) (t + total (sizes_of (v ∷ wholes n vs))) false (written n room (v ∷ wholes n vs) l rows) (noted room (v ∷ wholes n vs) l sizes) (omega arith) (omega arith) (omega arith)
      go false f =
          f l t rows sizes
          ∙ same_state (o + 1 + length vs) (o + length (v ∷ vs)) (l + length (wholes n vs)) (l + length (wholes n vs)) (t + total (sizes_of (wholes n vs))) (t + total (sizes_of (wholes n vs))) false (written n room (wholes n vs) l rows) (noted room (wholes n vs) l sizes) (omega arith) refl refl

  -- it is not
  run_many_from : (vs : List Line) (o l t : ℕ) (rows sizes : List ℕ) → o ≤ z.allowance → z.allowance < o + length vs
      → ((run z vs (state o l t false rows sizes)).over ≡ true) × ((run z vs (state o l t false rows sizes)).opened ≡ z.allowance)
  run_many_from [] o l t rows sizes le lt = absurd (omega arith)
  run_many_from (v ∷ vs) o l t rows sizes le lt = go (dec_lt o z.allowance) (λ l t rows sizes h. run_many_from vs (o + 1) l t rows sizes h (omega arith))
    where
      Stopped : State → Type 0
      Stopped s = (s.over ≡ true) × (s.opened ≡ z.allowance)

      more : (b : Bool) → ((l t : ℕ) (rows sizes : List ℕ) → Stopped (run z vs (state (o + 1) l t false rows sizes)))
          → Stopped (run z vs (cond b (listing z v (opening (state o l t false rows sizes))) (opening (state o l t false rows sizes))))
      more true f = f (l + 1) (t + v.size) (cond (ltb l room) (paste rows (l * n) v.row n) rows) (cond (ltb l room) (set sizes l v.size) sizes)
      more false f = f l t rows sizes

      go : Dec (o < z.allowance) → ((l t : ℕ) (rows sizes : List ℕ) → o + 1 ≤ z.allowance → Stopped (run z vs (state (o + 1) l t false rows sizes))) → Stopped (run z (v ∷ vs) (state o l t false rows sizes))
      go (yes h) f = rw (run_first z v vs (state o l t false rows sizes) refl h) (more (eqb (length v.row) n) (λ l t rows sizes. f l t rows sizes (omega arith)))
      go (no h) f = rw (run_stop z v vs (state o l t false rows sizes) refl (omega arith)) (refl, omega arith)

-- ---- what is written, as a whole

written_full : (n room : ℕ) (F : List Line) (l : ℕ) (rows : List ℕ) → room ≤ l → written n room F l rows ≡ rows
written_full n room [] l rows h = refl
written_full n room (v ∷ F) l rows h = rw (le-ltb l room h) (written_full n room F (l + 1) rows (omega arith))

noted_full : (room : ℕ) (F : List Line) (l : ℕ) (sizes : List ℕ) → room ≤ l → noted room F l sizes ≡ sizes
noted_full room [] l sizes h = refl
noted_full room (v ∷ F) l sizes h = rw (le-ltb l room h) (noted_full room F (l + 1) sizes (omega arith))

abbrev AllWhole : ℕ → List Line → Type 0
AllWhole n F = (v : Line) → v ∈ F → length v.row ≡ n

nothing_more_written : (l n : ℕ) (rows : List ℕ) → take (l * n) rows ++ ([] ++ drop ((l + 0) * n) rows) ≡ rows
nothing_more_written l n rows = ap (λ (x : ℕ). take (l * n) rows ++ drop (x * n) rows) (add-zero l) ∙ take-append-drop (l * n) rows

written_from : (n room : ℕ) (F : List Line) (l : ℕ) (rows : List ℕ) → AllWhole n F → l ≤ room → room * n ≤ length rows
    → written n room F l rows ≡ take (l * n) rows ++ (flat (rows_of (take (room - l) F)) ++ drop ((l + length (take (room - l) F)) * n) rows)
written_from n room [] l rows long h fits =
    let e : ◌≡◌ {A = List Line} (take (room - l) []) [] = take-nil (room - l) in
    rw e (sym (nothing_more_written l n rows))
written_from n room (v ∷ F) l rows long h fits = go (dec_lt l room) (λ rows' a b. written_from n room F (l + 1) rows' (λ x m. long x (Memᴰ.tail m)) a b)
  where
    go : Dec (l < room)
        → ((rows' : List ℕ) → l + 1 ≤ room → room * n ≤ length rows' → written n room F (l + 1) rows' ≡ take ((l + 1) * n) rows' ++ (flat (rows_of (take (room - (l + 1)) F)) ++ drop ((l + 1 + length (take (room - (l + 1)) F)) * n) rows'))
        → written n room (v ∷ F) l rows ≡ take (l * n) rows ++ (flat (rows_of (take (room - l) (v ∷ F))) ++ drop ((l + length (take (room - l) (v ∷ F))) * n) rows)
    go (no f) next =
        let e : room - l ≡ 0 = omega arith in
        written_full n room (v ∷ F) l rows (omega arith)
        ∙ sym (ap (λ (x : ℕ). take (l * n) rows ++ (flat (rows_of (take x (v ∷ F))) ++ drop ((l + length (take x (v ∷ F))) * n) rows)) e ∙ nothing_more_written l n rows)
    go (yes lt) next =
        let q : length v.row ≡ n = long v (Memᴰ.head refl) in
        let b : (l + 1) * n ≤ room * n = mul-le-mul_right n (omega arith) in
        let s : (l + 1) * n ≡ l * n + n = omega arith in
        let pl : List ℕ = paste rows (l * n) v.row n in
        let len : length pl ≡ length rows = length-paste rows (l * n) v.row n (omega arith) (omega arith) in
        let ih = next pl (omega arith) (rw len fits) in
        let G : List Line = take (room - (l + 1)) F in
        let front : take ((l + 1) * n) pl ≡ take (l * n) rows ++ v.row =
        ap (λ (x : ℕ). take x pl) s ∙ take-paste rows (l * n) v.row n (omega arith) (omega arith) ∙ ap (λ (x : List ℕ). take (l * n) rows ++ x) (take_all n v.row (omega arith)) in
        let far : (l + 1 + length G) * n ≡ l * n + n + length G * n = spread l n (length G) in
        let back : drop ((l + 1 + length G) * n) pl ≡ drop ((l + 1 + length G) * n) rows =
        ap (λ (x : ℕ). drop x pl) far ∙ sym (drop-drop (length G * n) (l * n + n) pl) ∙ ap (drop (length G * n)) (drop-paste rows (l * n) v.row n (omega arith) (omega arith)) ∙ drop-drop (length G * n) (l * n + n) rows ∙ ap (λ (x : ℕ). drop x rows) (sym far) in
        let r : room - l ≡ suc (room - (l + 1)) = omega arith in
        let cnt : l + 1 + length G ≡ l + suc (length G) = omega arith in
        rw (lt-ltb l room lt)
        (ih ∙ ap₂ (λ (x y : List ℕ). x ++ (flat (rows_of G) ++ y)) front back
        ∙ append_assoc (take (l * n) rows) v.row (flat (rows_of G) ++ drop ((l + 1 + length G) * n) rows)
        ∙ ap (λ (x : List ℕ). take (l * n) rows ++ x) (sym (append_assoc v.row (flat (rows_of G)) (drop ((l + 1 + length G) * n) rows)))
        ∙ ap (λ (x : ℕ). take (l * n) rows ++ ((v.row ++ flat (rows_of G)) ++ drop (x * n) rows)) cnt
        ∙ sym (ap (λ (x : ℕ). take (l * n) rows ++ (flat (rows_of (take x (v ∷ F))) ++ drop ((l + length (take x (v ∷ F))) * n) rows)) r))
      where
        spread : (l n g : ℕ) → (l + 1 + g) * n ≡ l * n + n + g * n
        spread l n g = mul_comm (l + 1 + g) n ∙ mul-add n (l + 1) g ∙ omega (arith, mul-add n l 1, mul_comm n l, mul_comm n g)

noted_from : (room : ℕ) (F : List Line) (l : ℕ) (sizes : List ℕ) → l ≤ room → room ≤ length sizes
    → noted room F l sizes ≡ take l sizes ++ (sizes_of (take (room - l) F) ++ drop (l + length (take (room - l) F)) sizes)
noted_from room [] l sizes h fits =
    let e : ◌≡◌ {A = List Line} (take (room - l) []) [] = take-nil (room - l) in
    rw e (sym (ap (λ (x : ℕ). take l sizes ++ drop x sizes) (add-zero l) ∙ take-append-drop l sizes))
noted_from room (v ∷ F) l sizes h fits = go (dec_lt l room) (λ z a b. noted_from room F (l + 1) z a b)
  where
    go : Dec (l < room)
        → ((z : List ℕ) → l + 1 ≤ room → room ≤ length z → noted room F (l + 1) z ≡ take (l + 1) z ++ (sizes_of (take (room - (l + 1)) F) ++ drop (l + 1 + length (take (room - (l + 1)) F)) z))
        → noted room (v ∷ F) l sizes ≡ take l sizes ++ (sizes_of (take (room - l) (v ∷ F)) ++ drop (l + length (take (room - l) (v ∷ F))) sizes)
    go (no f) next =
        let e : room - l ≡ 0 = omega arith in
        noted_full room (v ∷ F) l sizes (omega arith)
        ∙ sym (ap (λ (x : ℕ). take l sizes ++ (sizes_of (take x (v ∷ F)) ++ drop (l + length (take x (v ∷ F))) sizes)) e
        ∙ ap (λ (x : ℕ). take l sizes ++ drop x sizes) (add-zero l) ∙ take-append-drop l sizes)
    go (yes lt) next =
        let z : List ℕ = set sizes l v.size in
        let ih = next z (omega arith) (simp length-set fits) in
        let G : List Line = take (room - (l + 1)) F in
        let front : take (l + 1) z ≡ take l sizes ++ (v.size ∷ []) = rw add-one (take-suc-set sizes l v.size (omega arith)) in
        let back : drop (l + 1 + length G) z ≡ drop (l + 1 + length G) sizes = drop-set-lt (l + 1 + length G) sizes l v.size (omega arith) in
        let r : room - l ≡ suc (room - (l + 1)) = omega arith in
        let cnt : l + 1 + length G ≡ l + suc (length G) = omega arith in
        rw (lt-ltb l room lt)
        (ih ∙ ap₂ (λ (x y : List ℕ). x ++ (sizes_of G ++ y)) front back
        ∙ append_assoc (take l sizes) (v.size ∷ []) (sizes_of G ++ drop (l + 1 + length G) sizes)
        ∙ ap (λ (x : ℕ). take l sizes ++ (v.size ∷ (sizes_of G ++ drop x sizes))) cnt
        ∙ sym (ap (λ (x : ℕ). take l sizes ++ (sizes_of (take x (v ∷ F)) ++ drop (l + length (take x (v ∷ F))) sizes)) r))

-- ---- in the words of the listing

flat_length : (n : ℕ) (F : List Line) → AllWhole n F → length (flat (rows_of F)) ≡ length F * n
flat_length n [] long = omega arith
flat_length n (v ∷ F) long =
    let e = flat_length n F (λ x m. long x (Memᴰ.tail m)) in
    omega (arith, length-append v.row (flat (rows_of F)), long v (Memᴰ.head refl), e, mul_comm (length F) n, mul_comm (suc (length F)) n)

take_mem : {A : Type 0} (j : ℕ) (l : List A) (x : A) → x ∈ take j l → x ∈ l
take_mem zero l x m = absurd (Memᴰ.not-nil m)
take_mem (suc j) [] x m = m
take_mem (suc j) (y ∷ l) x m = elim (Memᴰ.cases_cons m) [ inl e ↦ Memᴰ.head e | inr t ↦ Memᴰ.tail (take_mem j l x t) ]

written_is : (n room : ℕ) (F : List Line) (rows : List ℕ) → AllWhole n F → room * n ≤ length rows → written n room F 0 rows ≡ over (flat (rows_of (take room F))) rows
written_is n room F rows long fits =
    let e : room - 0 ≡ room = omega arith in
    let z : 0 * n ≡ 0 = omega arith in
    let f : (0 + length (take room F)) * n ≡ length (flat (rows_of (take room F))) =
    ap (λ (x : ℕ). x * n) (zero-add (length (take room F))) ∙ sym (flat_length n (take room F) (λ v m. long v (take_mem room F v m))) in
    written_from n room F 0 rows long (omega arith) fits
    ∙ ap₂ (λ (x y : ℕ). take y rows ++ (flat (rows_of (take x F)) ++ drop ((0 + length (take x F)) * n) rows)) e z
    ∙ ap (λ (x : ℕ). flat (rows_of (take room F)) ++ drop x rows) f

noted_is : (room : ℕ) (F : List Line) (sizes : List ℕ) → room ≤ length sizes → noted room F 0 sizes ≡ over (sizes_of (take room F)) sizes
noted_is room F sizes fits =
    let e : room - 0 ≡ room = omega arith in
    let f : 0 + length (take room F) ≡ length (sizes_of (take room F)) = zero-add (length (take room F)) ∙ sym (length-map (take room F) (λ (l : Line). l.size)) in
    noted_from room F 0 sizes (omega arith) fits
    ∙ ap (λ (x : ℕ). sizes_of (take x F) ++ drop (0 + length (take x F)) sizes) e
    ∙ ap (λ (x : ℕ). sizes_of (take room F) ++ drop x sizes) f

-- ---- a run from the empty state

module _ (z : Limits) (vs : List Line) (rows sizes : List ℕ) where
  abbrev plans : List Line
  plans = wholes z.risers vs

  pub run_all : z.room * z.risers ≤ length rows → z.room ≤ length sizes → length vs ≤ z.allowance
      → run z vs (empty rows sizes) ≡ state (length vs) (length plans) (total (sizes_of plans)) false (over (flat (rows_of (take z.room plans))) rows) (over (sizes_of (take z.room plans)) sizes)
  run_all fr fz le =
      run_all_from z vs 0 0 0 rows sizes (omega arith)
      ∙ ap₂ (λ (x y : List ℕ). state (0 + length vs) (0 + length plans) (0 + total (sizes_of plans)) false x y) (written_is z.risers z.room plans rows (λ v i. (wholes_mem z.risers vs v i).1) fr) (noted_is z.room plans sizes fz)
      ∙ same_state (0 + length vs) (length vs) (0 + length plans) (length plans) (0 + total (sizes_of plans)) (total (sizes_of plans)) false (over (flat (rows_of (take z.room plans))) rows) (over (sizes_of (take z.room plans)) sizes) (omega arith) (omega arith) (omega arith)

  pub run_many : z.allowance < length vs → ((run z vs (empty rows sizes)).over ≡ true) × ((run z vs (empty rows sizes)).opened ≡ z.allowance)
  run_many lt = run_many_from z vs 0 0 0 rows sizes (omega arith) (omega arith)
