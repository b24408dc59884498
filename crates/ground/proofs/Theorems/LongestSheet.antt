-- The longest sheet is 30,214 bytes: no accepted sheet is longer, and one has that length (`longest_sheet`). The first 30,215 bytes
-- decide every sheet: they are accepted, refused and listed as all its bytes are (`first_accepted`, `first_refused`, `first_lists`).
-- `the_longest_sheet` and `Longest` are in specs/Theorems/LongestSheet.antt.
-- Assumes nothing.
use Rattle.std.specs.Prelude.{◌≡◌, refl, ◌↔◌, List, [], ◌∷◌, ◌++◌, ℕ, ◌+◌, ◌*◌, length, take}
use Rattle.std.proofs.Common.{sym, ap, subst, ◌∙◌, arith, length-append}
use mathlib.Core.List.Memᴰ
use Rattle.ground.specs.Meanings.Exactly.{◌∈◌}
use Rattle.ground.specs.Meanings.Group.{identity}
use Rattle.ground.specs.Meanings.Sheet.{Fault}
use Rattle.ground.specs.Meanings.Sheet.{Sheet, Rule, Accepted, Refused, most_carriers, most_risers, most_rules, most_pairs, most_swaps}
use Rattle.ground.specs.Meanings.Listing.{Left, Lists}
use Rattle.ground.proofs.Laws.Permutations.{perm_identity}
use Rattle.ground.specs.Laws.Spelling.{each_written, write_list, write_pair, write_rule, written}
use Rattle.ground.specs.Laws.Valid.{Counted, Valid}
use Rattle.ground.proofs.Laws.Valid.{valid_accepted}
use Rattle.ground.specs.Laws.Fullest.{blocks, table, full, grid, rules_of, fullest}
use Rattle.ground.proofs.Laws.Fullest.{mem_table, length_table, length_full, length_grid, mem_rules_of, fullest_valid}
use Rattle.ground.specs.Laws.Longest.{longest}
use Rattle.ground.proofs.Laws.Longest.{first_bytes, accepted_longest}
use Rattle.ground.specs.Theorems.LongestSheet.{the_longest_sheet, Longest}

-- there are as many rules between two risers, and as many pairs of carriers, as a sheet may have
all_rules : length (rules_of most_carriers most_risers) ≡ most_rules
unfolding rules_of blocks
all_rules = refl

all_pairs : most_carriers * most_carriers ≡ most_pairs
all_pairs = refl

longest_valid : Valid the_longest_sheet
unfolding the_longest_sheet
longest_valid =
    fullest_valid most_carriers most_risers most_swaps (tt, refl) (tt, refl) (subst (Counted 0 most_rules) (sym all_rules) (tt, refl)) (subst (Counted 0 most_pairs) (sym all_pairs) (tt, refl)) (tt, refl)

pub longest_accepted : Accepted (written the_longest_sheet) the_longest_sheet
longest_accepted = let w = valid_accepted the_longest_sheet longest_valid (written the_longest_sheet) refl in record { end = w.0; read = w.1 }

-- items of m bytes each
written_exact : {A : Type 0} (w : A → List ℕ) (m : ℕ) (l : List A) → ((x : A) → x ∈ l → length (w x) ≡ m) → length (each_written w l) ≡ length l * m
written_exact w m [] f = omega arith
written_exact w m (x ∷ l) f =
    omega (arith, length-append (w x) (each_written w l), f x (Memᴰ.head refl), written_exact w m l (λ y i. f y (Memᴰ.tail i)))

list_long : (l : List ℕ) → l ∈ table most_risers (λ r. full most_carriers) → length (write_list l) ≡ 1 + most_carriers
list_long l m = ap (λ (x : List ℕ). length (write_list x)) (mem_table most_risers (λ r. full most_carriers) m).2 ∙ omega (arith, length_full most_carriers)

rule_long : (q : Rule) → q ∈ rules_of most_carriers most_risers → length (write_rule q) ≡ 3 + most_pairs * 2
rule_long q m =
    let w = mem_rules_of most_carriers most_risers m in
    ap (λ (x : Rule). length (write_rule x)) w.4 ∙ omega (arith, written_exact write_pair 2 (grid most_carriers) (λ x i. refl), length_grid most_carriers)

swap_long : (g : List ℕ) → g ∈ table most_swaps (λ i. identity most_carriers) → length g ≡ most_carriers
swap_long g m = ap (λ (x : List ℕ). length x) (mem_table most_swaps (λ i. identity most_carriers) m).2 ∙ (perm_identity most_carriers).size

pub longest_long : length (written the_longest_sheet) ≡ longest
unfolding the_longest_sheet fullest
longest_long =
    let ls = table most_risers (λ r. full most_carriers) in
    let rs = rules_of most_carriers most_risers in
    let gs = table most_swaps (λ i. identity most_carriers) in
    let a = written_exact write_list (1 + most_carriers) ls list_long in
    let b = written_exact write_rule (3 + most_pairs * 2) rs rule_long in
    let c = written_exact (λ (g : List ℕ). g) most_carriers gs swap_long in
    let tail = each_written write_rule rs ++ (length gs ∷ each_written (λ (g : List ℕ). g) gs) in
    omega (arith, a, b, c, length-append (each_written write_list ls) (length rs ∷ tail), length-append (each_written write_rule rs) (length gs ∷ each_written (λ (g : List ℕ). g) gs), length_table most_risers (λ r. full most_carriers), all_rules, length_table most_swaps (λ i. identity most_carriers))

-- the longest sheet is 30,214 bytes
pub longest_sheet : Longest longest
longest_sheet = record { bytes = written the_longest_sheet; sheet = the_longest_sheet; accepted = longest_accepted; reached = longest_long; none_longer = accepted_longest }

-- ---- one byte more decides every sheet

module _ (s : List ℕ) where
  abbrev first : List ℕ
  first = take (longest + 1) s

  pub first_accepted : (X : Sheet) → Accepted first X ↔ Accepted s X
  first_accepted X = (λ a. record { end = a.end; read = sym (first_bytes s) ∙ a.read }, λ a. record { end = a.end; read = first_bytes s ∙ a.read })

  pub first_refused : (f : Fault) → Refused first f ↔ Refused s f
  first_refused f = (λ r. record { read = sym (first_bytes s) ∙ r.read }, λ r. record { read = first_bytes s ∙ r.read })

  pub first_lists : (allowance : ℕ) (bytes sizes : List ℕ) (o : Left) → Lists first allowance bytes sizes o ↔ Lists s allowance bytes sizes o
  first_lists allowance bytes sizes o = (forth, back)
    where
      forth : {o : Left} → Lists first allowance bytes sizes o → Lists s allowance bytes sizes o
      forth (Lists.faulty {f = f} r) = Lists.faulty ((first_refused f).0 r)
      forth (Lists.sheet {X = X} a l) = Lists.sheet ((first_accepted X).0 a) l

      back : {o : Left} → Lists s allowance bytes sizes o → Lists first allowance bytes sizes o
      back (Lists.faulty {f = f} r) = Lists.faulty ((first_refused f).1 r)
      back (Lists.sheet {X = X} a l) = Lists.sheet ((first_accepted X).1 a) l
