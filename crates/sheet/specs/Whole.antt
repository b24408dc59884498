-- The whole sheet: its sections one after another, and what is left in the tables.
--
--   GotCarriers, GotRisers, GotRules, GotSwaps   the sheet is read up to the place after that section: what was read of it
--
-- One law for each section that is read, and one for each that is refused. The code reads rules and swaps by its tables, the
-- definition by the lists; they agree since the tables say what the lists do.
-- Assumes nothing.
use Rattle.std.specs.Prelude.{◌≡◌, refl, Bool, true, false, List, [], ◌∷◌, ◌++◌, map, length, replicate, Result, Ok, Err, is_err}
use Rattle.std.proofs.Common.{sym, ap₂, ◌∙◌, append_assoc, arith, length-append}
use Rattle.std.proofs.Math.Path.{ap, subst, fun_ext}
use Prim.Native.Nat.{ℕ, zero, suc, ◌*◌, ◌-◌, ◌≤◌}
use Rattle.std.proofs.Math.Seq.{set-append_seam}
use Rattle.ground.specs.Meanings.Group.{identity}
use Rattle.ground.specs.Meanings.Sheet.{Fault, Outcome, got, refused, and_then, many, count, riser, rule, Rule, swap, nothing_more, is_listed_in, allowed_by, Sheet, job_sheet, most_carriers, most_risers, most_rules, most_pairs, most_swaps}
use Rattle.ground.specs.Laws.Reading.{All}
use Rattle.ground.proofs.Laws.Reading.{and_then_got}
use Rattle.ground.specs.declared.Tables.{Tables}
use Rattle.ground.specs.Laws.Tables.{tables}
use Rattle.sheet.specs.declared.Head.{Head}
use Rattle.fields.specs.Tables.{mark_lists, is_listed, is_allowed, RuleTables, rule_tables, mark_rules, padded, put_swap, put_all}
use Rattle.fields.specs.Answers.{Answers, tell_number, tell_count, answer_got, number_got, number_refused, count_got, count_refused}
use Rattle.sheet.specs.Serves.{tell_sheet, Serves, Blank, Reads}
use Rattle.fields.specs.Fields.{count_most}
use Rattle.fields.specs.Sections.{section, section_then, section_most}
use Rattle.sheet.specs.Entries.{Carriers, CarrierPairs, listed_entry, listed_is, allowed_entry, allows_is, lists_small, rules_small}
use Rattle.sheet.specs.Ends.{Ascends, rules_ascend, ends_found, ends_of_rule}

-- ---- the definition, section by section

module _ (s : List ℕ) where
  abbrev last : ℕ → List (List ℕ) → List Rule → List (List ℕ) → ℕ → Outcome Sheet
  last k ls rs gs p = and_then (nothing_more s p) (λ _ p'. got (record { carriers = k; lists = ls; rules = rs; swaps = gs }) p')

  abbrev from_swaps : ℕ → ℕ → ℕ → List (List ℕ) → List Rule → ℕ → Outcome Sheet
  from_swaps k n m ls rs p = and_then (section 0 most_swaps (swap k n m (is_listed_in ls) (allowed_by rs)) s p) (λ gs p'. last k ls rs gs p')

  abbrev from_rules : ℕ → ℕ → List (List ℕ) → ℕ → Outcome Sheet
  from_rules k n ls p = and_then (section 0 most_rules (rule n (is_listed_in ls)) s p) (λ rs p'. from_swaps k n (length rs) ls rs p')

  abbrev from_risers : ℕ → ℕ → Outcome Sheet
  from_risers k p = and_then (section 1 most_risers (riser k) s p) (λ ls p'. from_rules k (length ls) ls p')

  -- the swaps' section as the definition has it
  abbrev swaps_rest : ℕ → ℕ → List (List ℕ) → ℕ → List Rule → ℕ → Outcome Sheet
  swaps_rest k n ls m rs p = and_then (count 0 most_swaps s p) (λ c p'. and_then (many (swap k n m (is_listed_in ls) (allowed_by rs)) c [] s p') (λ gs p''. last k ls rs gs p''))

  abbrev rules_rest : ℕ → ℕ → List (List ℕ) → ℕ → Outcome Sheet
  rules_rest k n ls p = and_then (count 0 most_rules s p) (λ m p'. and_then (many (rule n (is_listed_in ls)) m [] s p') (swaps_rest k n ls m))

  rules_step : (k n : ℕ) (ls : List (List ℕ)) (p : ℕ) → rules_rest k n ls p ≡ from_rules k n ls p
  rules_step k n ls p = section_then 0 most_rules (rule n (is_listed_in ls)) s p (swaps_rest k n ls) ∙ ap (λ (f : List Rule → ℕ → Outcome Sheet). and_then (section 0 most_rules (rule n (is_listed_in ls)) s p) f) (fun_ext (λ rs. fun_ext (λ p'. section_then 0 most_swaps (swap k n (length rs) (is_listed_in ls) (allowed_by rs)) s p' (λ c gs p''. last k ls rs gs p''))))

  risers_step : (k p : ℕ) → and_then (count 1 most_risers s p) (λ n p'. and_then (many (riser k) n [] s p') (λ ls p''. rules_rest k n ls p'')) ≡ from_risers k p
  risers_step k p = section_then 1 most_risers (riser k) s p (λ n ls p''. rules_rest k n ls p'') ∙ ap (λ (f : List (List ℕ) → ℕ → Outcome Sheet). and_then (section 1 most_risers (riser k) s p) f) (fun_ext (λ ls. fun_ext (λ p'. rules_step k (length ls) ls p')))

  whole : (p : ℕ) → job_sheet s p ≡ and_then (count 1 most_carriers s p) from_risers
  unfolding job_sheet
  whole p = ap (λ (f : ℕ → ℕ → Outcome Sheet). and_then (count 1 most_carriers s p) f) (fun_ext (λ k. fun_ext (λ p'. risers_step k p')))

-- ---- the carriers

pub record GotCarriers (s : List ℕ) (p k p₁ : ℕ) : Type 0 where
  pub read : count 1 most_carriers s p ≡ got k p₁
  pub few : k ≤ most_carriers

module _ (s : List ℕ) (p : ℕ) where
  pub no_carriers : {f : Fault} → Err f ≡ tell_number (count 1 most_carriers s p) → job_sheet s p ≡ refused f
  no_carriers e = whole s p ∙ rw (number_refused (count 1 most_carriers s p) e)

  pub carriers_got : {k p₁ : ℕ} → Ok (k, p₁) ≡ tell_number (count 1 most_carriers s p) → GotCarriers s p k p₁
  carriers_got e = record { read = number_got (count 1 most_carriers s p) e; few = count_most s p 1 most_carriers e }

-- ---- the risers

pub record GotRisers (s : List ℕ) (p k n p₂ : ℕ) (M : List ℕ) : Type 0 where
  pub p₁ : ℕ
  pub carriers : GotCarriers s p k p₁
  pub ls : List (List ℕ)
  pub read : section 1 most_risers (riser k) s p₁ ≡ got ls p₂
  pub number : length ls ≡ n
  pub few : length ls ≤ most_risers
  pub small : All Carriers ls
  pub table : M ≡ mark_lists (replicate (most_risers * most_carriers) 0) ls

section_small : (k : ℕ) (s : List ℕ) (p : ℕ) {ls : List (List ℕ)} {next : ℕ} → k ≤ most_carriers → section 1 most_risers (riser k) s p ≡ got ls next → All Carriers ls
unfolding section
section_small k s p w e = let z = and_then_got (count 1 most_risers s p) _ e in lists_small k s z.0 z.1 w z.3

module _ (s : List ℕ) (p : ℕ) {k p₁ : ℕ} (C : GotCarriers s p k p₁) (M₀ : List ℕ) {M : List ℕ} {r : Result (ℕ × ℕ) Fault} (a : Answers tell_count (section 1 most_risers (riser k) s p₁) r (λ (l : List (List ℕ)). M ≡ mark_lists M₀ l)) where
  pub no_risers : {f : Fault} → r ≡ Err f → job_sheet s p ≡ refused f
  no_risers e = whole s p ∙ rw (C.read, count_refused a e)

  pub risers_got : {n p₂ : ℕ} → M₀ ≡ replicate (most_risers * most_carriers) 0 → r ≡ Ok (n, p₂) → GotRisers s p k n p₂ M
  risers_got {n} {p₂} b e =
      let g = count_got a e in
      record {
        p₁ = p₁;
        carriers = C;
        ls = g.0;
        read = g.1;
        number = g.3;
        few = section_most 1 most_risers (riser k) s p₁ g.1;
        small = section_small k s p₁ C.few g.1;
        table = g.2 ∙ ap (λ (m : List ℕ). mark_lists m g.0) b;
      }

module _ {s : List ℕ} {p k n p₂ : ℕ} {M : List ℕ} (L : GotRisers s p k n p₂ M) where
  risers_read : job_sheet s p ≡ from_rules s k n L.ls p₂
  risers_read = whole s p ∙ rw (L.carriers.read, L.read, L.number)

  says_listed : is_listed M ≡ is_listed_in L.ls
  says_listed = ap is_listed L.table ∙ listed_is L.ls L.few L.small

-- ---- the rules

pub record GotRules (s : List ℕ) (p k n m p₃ : ℕ) (M T E : List ℕ) : Type 0 where
  pub p₂ : ℕ
  pub risers : GotRisers s p k n p₂ M
  pub rs : List Rule
  pub read : section 0 most_rules (rule n (is_listed_in risers.ls)) s p₂ ≡ got rs p₃
  pub number : length rs ≡ m
  pub few : length rs ≤ most_rules
  pub small : All CarrierPairs rs
  pub ascends : Ascends n rs
  pub table : rule_tables T E ≡ mark_rules (rule_tables (replicate (most_rules * most_pairs) 0) (replicate (most_risers * most_risers) 0)) rs

section_pairs : (n : ℕ) (M : List ℕ) (s : List ℕ) (p : ℕ) {rs : List Rule} {next : ℕ} → section 0 most_rules (rule n (is_listed M)) s p ≡ got rs next → All CarrierPairs rs
unfolding section
section_pairs n M s p e = let z = and_then_got (count 0 most_rules s p) _ e in rules_small n M s z.0 z.1 z.3

section_ascends : (n : ℕ) (M : List ℕ) (s : List ℕ) (p : ℕ) {rs : List Rule} {next : ℕ} → n ≤ most_risers → section 0 most_rules (rule n (is_listed M)) s p ≡ got rs next → Ascends n rs
unfolding section
section_ascends n M s p w e = let z = and_then_got (count 0 most_rules s p) _ e in rules_ascend n (is_listed M) s z.0 z.1 w z.3

module _ (s : List ℕ) (p : ℕ) {k n p₂ : ℕ} {M : List ℕ} (L : GotRisers s p k n p₂ M) (T₀ E₀ : List ℕ) {T E : List ℕ} {r : Result (ℕ × ℕ) Fault} (a : Answers tell_count (section 0 most_rules (rule n (is_listed M)) s p₂) r (λ (l : List Rule). rule_tables T E ≡ mark_rules (rule_tables T₀ E₀) l)) where
  same_rules : section 0 most_rules (rule n (is_listed_in L.ls)) s p₂ ≡ section 0 most_rules (rule n (is_listed M)) s p₂
  same_rules = ap (λ (f : ℕ → ℕ → Bool). section 0 most_rules (rule n f) s p₂) (sym (says_listed L))

  pub no_rules : {f : Fault} → r ≡ Err f → job_sheet s p ≡ refused f
  no_rules e = risers_read L ∙ rw (same_rules ∙ count_refused a e)

  pub rules_got : {m p₃ : ℕ} → T₀ ≡ replicate (most_rules * most_pairs) 0 → E₀ ≡ replicate (most_risers * most_risers) 0 → r ≡ Ok (m, p₃) → GotRules s p k n m p₃ M T E
  rules_got {m} {p₃} b d e =
      let g = count_got a e in
      record {
        p₂ = p₂;
        risers = L;
        rs = g.0;
        read = same_rules ∙ g.1;
        number = g.3;
        few = section_most 0 most_rules (rule n (is_listed M)) s p₂ g.1;
        small = section_pairs n M s p₂ g.1;
        ascends = section_ascends n M s p₂ (let f = L.few in let h = L.number in omega arith) g.1;
        table = g.2 ∙ ap₂ (λ (x y : List ℕ). mark_rules (rule_tables x y) g.0) b d;
      }

module _ {s : List ℕ} {p k n m p₃ : ℕ} {M T E : List ℕ} (R : GotRules s p k n m p₃ M T E) where
  rules_read : job_sheet s p ≡ from_swaps s k n m R.risers.ls R.rs p₃
  rules_read = risers_read R.risers ∙ rw (R.read, R.number)

  says_allowed : is_allowed T ≡ allowed_by R.rs
  says_allowed = ap (λ (t : RuleTables). is_allowed t.pairs) R.table ∙ allows_is (rule_tables (replicate (most_rules * most_pairs) 0) (replicate (most_risers * most_risers) 0)) refl R.rs R.few R.small

-- ---- the swaps

-- swaps entered from the front of a table of swaps that are alike
put_swaps : (pre : List (List ℕ)) (n : ℕ) (y : List ℕ) (gs : List (List ℕ)) → length gs ≤ n → put_all put_swap (pre ++ replicate n y) (length pre) gs ≡ pre ++ (map (padded most_carriers) gs ++ replicate (n - length gs) y)
unfolding put_all put_swap
put_swaps pre n y [] h = let e : n - 0 ≡ n = omega arith in rw e
put_swaps pre zero y (g ∷ gs) h = absurd (omega arith)
put_swaps pre (suc n) y (g ∷ gs) h =
    let e : suc n - suc (length gs) ≡ n - length gs = omega arith in
    let f : suc (length pre) ≡ length (pre ++ (padded most_carriers g ∷ [])) = (let z = length-append pre (padded most_carriers g ∷ []) in omega arith) in
    rw (e, set-append_seam pre y (replicate n y) (padded most_carriers g), f, ← append_assoc pre (padded most_carriers g ∷ []) (replicate n y)) (put_swaps (pre ++ (padded most_carriers g ∷ [])) n y gs (omega arith) ∙ append_assoc pre (padded most_carriers g ∷ []) (map (padded most_carriers) gs ++ replicate (n - length gs) y))

pub record GotSwaps (s : List ℕ) (p k n m c p₄ : ℕ) (M T E : List ℕ) (G : List (List ℕ)) : Type 0 where
  pub p₃ : ℕ
  pub rules : GotRules s p k n m p₃ M T E
  pub gs : List (List ℕ)
  pub read : section 0 most_swaps (swap k n m (is_listed_in rules.risers.ls) (allowed_by rules.rs)) s p₃ ≡ got gs p₄
  pub number : length gs ≡ c
  pub table : G ≡ map (padded most_carriers) gs ++ replicate (most_swaps - length gs) (identity most_carriers)

module _ (s : List ℕ) (p : ℕ) {k n m p₃ : ℕ} {M T E : List ℕ} (R : GotRules s p k n m p₃ M T E) (G₀ : List (List ℕ)) {G : List (List ℕ)} {r : Result (ℕ × ℕ) Fault} (a : Answers tell_count (section 0 most_swaps (swap k n m (is_listed M) (is_allowed T)) s p₃) r (λ (l : List (List ℕ)). G ≡ put_all put_swap G₀ 0 l)) where
  same_swaps : section 0 most_swaps (swap k n m (is_listed_in R.risers.ls) (allowed_by R.rs)) s p₃ ≡ section 0 most_swaps (swap k n m (is_listed M) (is_allowed T)) s p₃
  same_swaps = ap₂ (λ (f : ℕ → ℕ → Bool) (h : ℕ → ℕ → ℕ → Bool). section 0 most_swaps (swap k n m f h) s p₃) (sym (says_listed R.risers)) (sym (says_allowed R))

  pub no_swaps : {f : Fault} → r ≡ Err f → job_sheet s p ≡ refused f
  no_swaps e = rules_read R ∙ rw (same_swaps ∙ count_refused a e)

  pub swaps_got : {c p₄ : ℕ} → G₀ ≡ replicate most_swaps (identity most_carriers) → r ≡ Ok (c, p₄) → GotSwaps s p k n m c p₄ M T E G
  swaps_got {c} {p₄} b e =
      let g = count_got a e in
      record {
        p₃ = p₃;
        rules = R;
        gs = g.0;
        read = same_swaps ∙ g.1;
        number = g.3;
        table = g.2 ∙ ap (λ (t : List (List ℕ)). put_all put_swap t 0 g.0) b ∙ put_swaps [] most_swaps (identity most_carriers) g.0 (section_most 0 most_swaps (swap k n m (is_listed M) (is_allowed T)) s p₃ g.1);
      }

-- ---- the end

module _ (s : List ℕ) (p : ℕ) {k n m c p₄ : ℕ} {M T E : List ℕ} {G : List (List ℕ)} (W : GotSwaps s p k n m c p₄ M T E G) where
  swaps_read : job_sheet s p ≡ last s k W.rules.risers.ls W.rules.rs W.gs p₄
  swaps_read = rules_read W.rules ∙ rw W.read

  pub more_bytes : {f : Fault} → nothing_more s p₄ ≡ refused f → job_sheet s p ≡ refused f
  more_bytes e = swaps_read ∙ rw e

  abbrev whole_sheet : Sheet
  whole_sheet = record { carriers = k; lists = W.rules.risers.ls; rules = W.rules.rs; swaps = W.gs }

  serves : Serves whole_sheet (tables M T E) G
  serves =
      let L = W.rules.risers in
      let R = W.rules in
      let t = rule_tables (replicate (most_rules * most_pairs) 0) (replicate (most_risers * most_risers) 0) in
      let n-few : n ≤ most_risers = (let f = L.few in let h = L.number in omega arith) in
      let T-is : T ≡ (mark_rules t R.rs).pairs = ap (λ (x : RuleTables). x.pairs) R.table in
      let E-is : E ≡ (mark_rules t R.rs).ends = ap (λ (x : RuleTables). x.ends) R.table in
      record {
        listed = says_listed L;
        allows = says_allowed R;
        member_at = λ r c h g. rw L.table (listed_entry L.ls L.few L.small r c g);
        allowed_at = λ q u v f g h. rw T-is (allowed_entry t refl R.rs R.few R.small q u v g h);
        ends_at = λ q h. rw E-is (ends_found t refl n-few R.ascends q h);
        ends_only = λ u v q f g e. ends_of_rule t refl n-few R.ascends u v q f g (rw E-is at e);
        swaps_are = W.table;
      }

  pub all_read : {u : Unit} {q : ℕ} → nothing_more s p₄ ≡ got u q → Answers tell_sheet (job_sheet s p) (Ok (record { carriers = k; risers = n; rules = m; swaps = c })) (λ (X : Sheet). Serves X (tables M T E) G)
  all_read {u} {q} e =
      let y : Answers tell_sheet (job_sheet s p) (tell_sheet (got whole_sheet q)) (λ (X : Sheet). Serves X (tables M T E) G) = answer_got tell_sheet {x = whole_sheet} {p = q} (swaps_read ∙ rw e) serves in
      subst (λ (v : ℕ × ℕ × ℕ). Answers tell_sheet (job_sheet s p) (Ok (record { carriers = k; risers = v.0; rules = v.1; swaps = v.2 })) (λ (X : Sheet). Serves X (tables M T E) G)) (λ i. (W.rules.risers.number i, W.rules.number i, W.number i)) y

-- ---- the tables blank before, and again after a refusal

module _ {s : List ℕ} {p : ℕ} {T : Tables} {G : List (List ℕ)} {r : Result Head Fault} (a : Answers tell_sheet (job_sheet s p) r (λ (X : Sheet). Serves X T G)) where
  pub reads_accepted : is_err r ≡ false → Reads s p r T G
  reads_accepted e = record { told = a.told; serves = a.leaves; blank = λ f g. let z = sym e ∙ ap is_err (a.told ∙ ap tell_sheet g) in cc }

  pub reads_refused : {T' : Tables} {G' : List (List ℕ)} → is_err r ≡ true → Blank T' G' → Reads s p r T' G'
  reads_refused e b = record { told = a.told; serves = λ X n g. let z = sym e ∙ ap is_err (a.told ∙ ap tell_sheet g) in cc; blank = λ _ _. b }
