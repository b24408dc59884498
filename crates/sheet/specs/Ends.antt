-- What the table of rules by their risers says: each rule stands at its own two risers, and nothing else stands there.
--
--   end_at x        the entry for a rule with the two risers x
--   Ascends n rs   the rules have each the lower riser first, of n risers, and ascend by their risers
--
-- Rules that are read ascend (`rules_ascend`), so no two have the same risers and none is written over (`ends_found`);
-- what stands at an entry was written by a rule with those risers (`ends_of_rule`).
-- Assumes nothing.
use Rattle.std.specs.Prelude.{◌≡◌, refl, Bool, true, ◌&&◌, List, [], ◌∷◌, ◌++◌, ◌⊎◌, ℕ, zero, suc, ◌+◌, ◌*◌, ◌<◌, ◌≤◌, ltb, length, get_or, set, replicate}
use Rattle.std.proofs.Common.{sym, ap, ap₂, ◌∙◌, subst, inl, inr, arith, length-set, length-append, get_or-set_same, get_or-set_other, leb-true}
use Rattle.std.proofs.Math.Decide.{ℕ_discrete}
use Rattle.std.proofs.lemmas.List.{length-replicate}
use Rattle.std.proofs.Math.ListN.{get_or-append}
use Rattle.std.proofs.Math.Seq.{get_or-append_seam}
use Rattle.ground.specs.Meanings.Group.{at}
use Rattle.ground.specs.Meanings.Sheet.{got, Reading, checked, two, Pair, Rule, no_rule, many, count, allowed_pair, rule_that, rule, after, before, most_risers, most_pairs}
use Rattle.ground.proofs.Laws.Reading.{and_then_got, checked_passed, and_left, and_right}
use Rattle.fields.specs.Tables.{put_all, key, RuleTables, put_rule, mark_rules}
use Rattle.fields.specs.Answers.{pair}
use Rattle.fields.specs.Least.{ordered}
use Rattle.sheet.specs.Entries.{at_blank}
use Rattle.rule_fields.specs.Rules.{Beyond, beyond_none, beyond_more, riser_pairs, risers_snoc, ordered_left, ordered_right}

abbrev pub end_at : Pair → ℕ
end_at x = x.right * most_risers + x.left

abbrev pub risers_at : List Rule → ℕ → Pair
risers_at l i = (get_or l i no_rule).risers

-- ---- a table that each rule is entered into at its risers

abbrev put_end : List ℕ → ℕ → Rule → List ℕ
put_end E q x = set E (end_at x.risers) (q + 1)

ends_of : (t : RuleTables) (i : ℕ) (l : List Rule) → (put_all put_rule t i l).ends ≡ put_all put_end t.ends i l
unfolding put_all put_rule
ends_of t i [] = refl
ends_of t i (x ∷ l) = ends_of (put_rule t i x) (suc i) l

ends_other : (E : List ℕ) (i : ℕ) (l : List Rule) (e : ℕ) → ((j : ℕ) → j < length l → end_at (risers_at l j) ≡ e → ⊥) → at (put_all put_end E i l) e ≡ at E e
unfolding put_all
ends_other E i [] e h = refl
ends_other E i (x ∷ l) e h = ends_other (put_end E i x) (suc i) l e (λ j g z. h (suc j) (omega arith) z) ∙ get_or-set_other E (end_at x.risers) e (i + 1) 0 (λ z. h 0 (omega arith) (sym z))

-- no two rules have one entry: none is written over
found : (E : List ℕ) (i : ℕ) (l : List Rule) → ((j m : ℕ) → j < m → m < length l → end_at (risers_at l j) ≡ end_at (risers_at l m) → ⊥) → (d : ℕ) → d < length l → end_at (risers_at l d) < length E → at (put_all put_end E i l) (end_at (risers_at l d)) ≡ i + d + 1
unfolding put_all
found E i [] h d b w = absurd (omega arith)
found E i (x ∷ l) h zero b w =
    ends_other (put_end E i x) (suc i) l (end_at x.risers) (λ j g z. h 0 (suc j) (omega arith) (omega arith) (sym z)) ∙ get_or-set_same E (end_at x.risers) (i + 1) 0 w ∙ omega arith
found E i (x ∷ l) h (suc d) b w =
    found (put_end E i x) (suc i) l (λ j m g b z. h (suc j) (suc m) (omega arith) (omega arith) z) d (omega arith) (rw (length-set E (end_at x.risers) (i + 1)) w) ∙ omega arith

-- what stands at an entry stood there before, or was entered by a rule
abbrev By : List Rule → ℕ → ℕ → ℕ → Type 0
By l i e v = (d : ℕ) × (d < length l) × (v ≡ i + d) × (end_at (risers_at l d) ≡ e)

only : (E : List ℕ) (i : ℕ) (l : List Rule) (e v : ℕ) → e < length E → at (put_all put_end E i l) e ≡ v + 1 → (at E e ≡ v + 1) ⊎ By l i e v
unfolding put_all
only E i [] e v w h = inl h
only E i (x ∷ l) e v w h = go (only (put_end E i x) (suc i) l e v (rw (length-set E (end_at x.risers) (i + 1)) w) h)
  where
    here : at (put_end E i x) e ≡ v + 1 → Dec (e ≡ end_at x.risers) → (at E e ≡ v + 1) ⊎ By (x ∷ l) i e v
    here f (yes z) =
        let y : i + 1 ≡ v + 1 = sym (get_or-set_same E (end_at x.risers) (i + 1) 0 (rw z at w)) ∙ (rw z at f) in
        inr (0, omega arith, omega arith, sym z)
    here f (no z) = inl (sym (get_or-set_other E (end_at x.risers) e (i + 1) 0 z) ∙ f)

    go : (at (put_end E i x) e ≡ v + 1) ⊎ By l (suc i) e v → (at E e ≡ v + 1) ⊎ By (x ∷ l) i e v
    go (inl f) = here f (ℕ_discrete e (end_at x.risers))
    go (inr b) = inr (suc b.0, let g = b.1 in omega arith, let g = b.2 in omega arith, b.3)

-- ---- rules that ascend

pub record Ascends (n : ℕ) (rs : List Rule) : Type 0 where
  pub least : ℕ
  pub beyond : Beyond least (riser_pairs rs)
  pub below : (i : ℕ) → i < length rs → key (risers_at rs i) < least
  pub ascending : (i j : ℕ) → i < j → j < length rs → key (risers_at rs i) < key (risers_at rs j)
  pub order : (i : ℕ) → i < length rs → ((risers_at rs i).left < (risers_at rs i).right) × ((risers_at rs i).right < n)

ascends_none : (n : ℕ) → Ascends n []
ascends_none n = record { least = 0; beyond = beyond_none; below = λ i h. absurd (omega arith); ascending = λ i j g h. absurd (omega arith); order = λ i h. absurd (omega arith) }

module _ (done : List Rule) (x : Rule) where
  at_old : (i : ℕ) → i < length done → risers_at (done ++ (x ∷ [])) i ≡ risers_at done i
  at_old i h = ap (λ (r : Rule). r.risers) (get_or-append done (x ∷ []) no_rule i h)

  at_new : risers_at (done ++ (x ∷ [])) (length done) ≡ x.risers
  at_new = ap (λ (r : Rule). r.risers) (get_or-append_seam done x [] no_rule)

  -- a fact of the old ones and of the new one is a fact of all
  each_of : (P : Pair → Type 0) → ((i : ℕ) → i < length done → P (risers_at done i)) → P x.risers → (i : ℕ) → i < length (done ++ (x ∷ [])) → P (risers_at (done ++ (x ∷ [])) i)
  each_of P f g i h = pick (ℕ_discrete i (length done))
    where
      pick : Dec (i ≡ length done) → P (risers_at (done ++ (x ∷ [])) i)
      pick (yes e) = rw (e, at_new) g
      pick (no e) = let b = length-append done (x ∷ []) in let l : i < length done = omega arith in rw (at_old i l) (f i l)

  both_of : ((i j : ℕ) → i < j → j < length done → key (risers_at done i) < key (risers_at done j)) → ((i : ℕ) → i < length done → key (risers_at done i) < key x.risers) → (i j : ℕ) → i < j → j < length (done ++ (x ∷ [])) → key (risers_at (done ++ (x ∷ [])) i) < key (risers_at (done ++ (x ∷ [])) j)
  both_of f g i j l h = pick (ℕ_discrete j (length done))
    where
      pick : Dec (j ≡ length done) → key (risers_at (done ++ (x ∷ [])) i) < key (risers_at (done ++ (x ∷ [])) j)
      pick (yes e) = let b : i < length done = omega arith in rw (e, at_new, at_old i b) (g i b)
      pick (no e) =
          let b = length-append done (x ∷ []) in
          let m : j < length done = omega arith in
          let b : i < length done = omega arith in
          rw (at_old i b, at_old j m) (f i j l m)

ascends_more : (n : ℕ) (done : List Rule) (x : Rule) → n ≤ most_risers → Ascends n done → ordered n x.risers ≡ true → after before (riser_pairs done) x.risers ≡ true → Ascends n (done ++ (x ∷ []))
unfolding Beyond
ascends_more n done x small a o f =
    let u = ordered_left n x.risers.left x.risers.right o in
    let v = ordered_right n x.risers.left x.risers.right o in
    let l : a.least ≤ key x.risers = leb-true a.least (key x.risers) (sym (a.beyond x.risers (omega arith)) ∙ f) in
    let old : (i : ℕ) → i < length done → key (risers_at done i) < key x.risers = λ i h. let b = a.below i h in omega arith in
    record {
      least = key x.risers + 1;
      beyond = rw (risers_snoc done x) (beyond_more (riser_pairs done) x.risers (omega arith));
      below = each_of done x (λ y. key y < key x.risers + 1) (λ i h. let b = old i h in omega arith) (omega arith);
      ascending = both_of done x a.ascending old;
      order = each_of done x (λ y. (y.left < y.right) × (y.right < n)) a.order (u, v);
    }

-- ---- rules that are read

rule_passed : (n : ℕ) (listed : ℕ → ℕ → Bool) (done : List Rule) (s : List ℕ) (p : ℕ) {x : Rule} {next : ℕ} → rule n listed done s p ≡ got x next → (ordered n x.risers ≡ true) × (after before (riser_pairs done) x.risers ≡ true)
unfolding ordered rule_that
rule_passed n listed done s p {x} {next} e =
    let z = and_then_got (checked _ test two s p) _ e in
    let y = and_then_got (count 0 most_pairs s z.1) _ z.3 in
    let w = and_then_got (many (allowed_pair (listed z.0.left) (listed z.0.right)) y.0 [] s y.1) _ y.3 in
    let same : ◌≡◌ {A = Rule} (record { risers = z.0; pairs = w.0 }) x = cc w.3 in
    let t = subst (λ (r : Rule). test r.risers ≡ true) same (checked_passed _ test two s p z.2).0 in
    (and_left (ordered n x.risers) (after before (riser_pairs done) x.risers) t, and_right (ordered n x.risers) (after before (riser_pairs done) x.risers) t)
  where
    test : Pair → Bool
    test r = (ltb r.left r.right && ltb r.right n) && after before (riser_pairs done) r

-- what each item keeps of those before it holds of all
many_keeps : {A : Type 0} (Q : List A → Type 0) (one : List A → Reading A) (s : List ℕ) → ((done : List A) (p : ℕ) (x : A) (next : ℕ) → Q done → one done s p ≡ got x next → Q (done ++ (x ∷ []))) → (n : ℕ) (done : List A) (p : ℕ) {l : List A} {next : ℕ} → Q done → many one n done s p ≡ got l next → Q l
unfolding many
many_keeps Q one s h zero done p {l} {next} q e = let z : done ≡ l = cc in subst Q z q
many_keeps Q one s h (suc n) done p {l} {next} q e =
    let z = and_then_got (one done s p) _ e in
    many_keeps Q one s h n (done ++ (z.0 ∷ [])) z.1 (h done p z.0 z.1 q z.2) z.3

pub rules_ascend : (n : ℕ) (listed : ℕ → ℕ → Bool) (s : List ℕ) (m p : ℕ) {rs : List Rule} {next : ℕ} → n ≤ most_risers → many (rule n listed) m [] s p ≡ got rs next → Ascends n rs
rules_ascend n listed s m p w e = many_keeps (Ascends n) (rule n listed) s (λ done p x next a f. let t = rule_passed n listed done s p f in ascends_more n done x w a t.0 t.1) m [] p (ascends_none n) e

-- ---- the table of the rules that were read

module _ (t : RuleTables) (blank : t.ends ≡ replicate (most_risers * most_risers) 0) {n : ℕ} (small : n ≤ most_risers) {rs : List Rule} (a : Ascends n rs) where
  abbrev ends : List ℕ
  ends = (mark_rules t rs).ends

  long : length t.ends ≡ most_risers * most_risers
  long = rw blank (length-replicate {A = ℕ} (most_risers * most_risers) 0)

  pub ends_found : (q : ℕ) → q < length rs → at ends (end_at (risers_at rs q)) ≡ q + 1
  ends_found q h = rw (ends_of t 0 rs) (found t.ends 0 rs apart q h (let o = a.order q h in omega (arith, long)) ∙ omega arith)
    where
      apart : (j m : ℕ) → j < m → m < length rs → end_at (risers_at rs j) ≡ end_at (risers_at rs m) → ⊥
      apart j m l b e =
          let u = a.ascending j m l b in
          let o = a.order m b in
          let o' = a.order j (omega arith) in
          omega arith

  pub ends_of_rule : (u v q : ℕ) → u < most_risers → v < most_risers → at ends (v * most_risers + u) ≡ q + 1 → (q < length rs) × (risers_at rs q ≡ pair u v)
  ends_of_rule u v q hu hv e = go (only t.ends 0 rs (v * most_risers + u) q (omega (arith, long)) (rw (ends_of t 0 rs) at e))
    where
      rule : (d : ℕ) → q ≡ d → d < length rs → end_at (risers_at rs d) ≡ v * most_risers + u → (q < length rs) × (risers_at rs q ≡ pair u v)
      rule d z h f =
          let o = a.order d h in
          let x : (risers_at rs d).left ≡ u = omega arith in
          let y : (risers_at rs d).right ≡ v = omega arith in
          (omega arith, rw z (ap₂ pair x y))

      go : (at t.ends (v * most_risers + u) ≡ q + 1) ⊎ By rs 0 (v * most_risers + u) q → (q < length rs) × (risers_at rs q ≡ pair u v)
      go (inl f) = let z = sym (rw blank at f) ∙ at_blank (most_risers * most_risers) (v * most_risers + u) in absurd (omega arith)
      go (inr b) = rule b.0 (b.2 ∙ omega arith) b.1 b.3
