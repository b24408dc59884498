-- The risers' section: one list, all lists, and what the table of lists says.
--
--   Above least done   a carrier comes after those of `done` exactly if it is `least` or more
--   ListSoFar ..       the loop over a riser's carriers
--   RisersSoFar ..     the loop over the risers
--
-- Assumes nothing.
use Rattle.std.specs.Prelude.{◌≡◌, Bool, true, false, ◌&&◌, List, [], ◌∷◌, ◌++◌, ℕ, ◌+◌, ◌*◌, ◌<◌, ◌≤◌, leb, eqb, set, Result, Ok, Err}
use Rattle.std.proofs.Math.Path.{refl, sym}
use Rattle.std.proofs.Common.{ap, ◌∙◌, subst, arith, add-one}
use Rattle.std.proofs.Math.Dec.{ltb}
use borrow.Author.Tests.{lt-ltb, le-ltb, le-leb, ltb-true}
use Rattle.ground.specs.Meanings.Group.{at}
use Rattle.ground.specs.Meanings.Sheet.{Fault, wrong_carrier, Outcome, byte, many, carrier, riser, count, after, most_carriers, most_risers}
use Rattle.ground.proofs.Laws.Reading.{checked_same, and_left, and_right}
use Rattle.fields.specs.Tables.{put_carrier, mark_list, mark_lists, is_listed}
use Rattle.fields.specs.Least.{number_from}
use Rattle.fields.specs.Answers.{Answers, tell_number, tell_section, answer_refused, number_got, number_refused, section_got, section_refused}
use Rattle.fields.specs.Fillings.{Filling, filling_starts, filling_more, filling_refused, filling_ends}

-- ---- one list

pub after_snoc : {A : Type 0} (before : A → A → Bool) (l : List A) (y x : A) → after before (l ++ (y ∷ [])) x ≡ before y x
unfolding after
after_snoc before [] y x = refl
after_snoc before (z ∷ []) y x = refl
after_snoc before (z ∷ w ∷ l) y x = after_snoc before (w ∷ l) y x

abbrev pub Above : ℕ → List ℕ → Type 0
Above least done = (c : ℕ) → after ltb done c ≡ leb least c

pub record ListSoFar (s : List ℕ) (from k d r : ℕ) (T₀ T : List ℕ) (p least i : ℕ) : Type 0 where
  pub done : List ℕ
  pub filling : Filling (carrier k) (put_carrier r) d s from T₀ T p i done
  pub lower : Above least done

carrier_is : (k : ℕ) (done : List ℕ) (s : List ℕ) (p least : ℕ) → Above least done → carrier k done s p ≡ number_from least k wrong_carrier s p
unfolding carrier
carrier_is k done s p least h = checked_same wrong_carrier _ _ byte s p (λ c. ap (λ (b : Bool). b && ltb c k) (h c))

module _ (s : List ℕ) (from k d r : ℕ) (T₀ : List ℕ) where
  pub list_starts : ListSoFar s from k d r T₀ T₀ from 0 0
  unfolding after
  list_starts = record { done = []; filling = filling_starts (carrier k) (put_carrier r) d s from T₀; lower = λ c. sym (le-leb 0 c (omega arith)) }

  module _ (T : List ℕ) (p least i : ℕ) (v : ListSoFar s from k d r T₀ T p least i) where
    pub list_more : {c next : ℕ} → i < d → Ok (c, next) ≡ tell_number (number_from least k wrong_carrier s p) → ListSoFar s from k d r T₀ (set T (r * most_carriers + c) 1) next (c + 1) (i + 1)
    list_more {c} {next} l e = record {
      done = v.done ++ (c ∷ []);
      filling = filling_more (carrier k) (put_carrier r) d s from T₀ v.filling l (carrier_is k v.done s p least v.lower ∙ number_got (number_from least k wrong_carrier s p) e);
      lower = λ x. after_snoc ltb v.done c x ∙ ap (λ (j : ℕ). leb j x) (sym (add-one c));
    }

    pub list_refused : {f : Fault} → i < d → Err f ≡ tell_number (number_from least k wrong_carrier s p) → Answers tell_section (many (carrier k) d [] s from) (Err f) (λ (l : List ℕ). T ≡ mark_list T₀ r l)
    list_refused l e = filling_refused (carrier k) (put_carrier r) d s from T₀ v.filling l (carrier_is k v.done s p least v.lower ∙ number_refused (number_from least k wrong_carrier s p) e)

    pub list_ends : d ≤ i → Answers tell_section (many (carrier k) d [] s from) (Ok p) (λ (l : List ℕ). T ≡ mark_list T₀ r l)
    list_ends l = filling_ends (carrier k) (put_carrier r) d s from T₀ v.filling l

-- ---- a riser, and all of them

module _ (s : List ℕ) (p k : ℕ) where
  pub riser_refused : {f : Fault} {P : List ℕ → Type 0} → Err f ≡ tell_number (count 1 k s p) → Answers tell_section (riser k [] s p) (Err f) P
  unfolding riser
  riser_refused e = answer_refused tell_section (rw (number_refused (count 1 k s p) e))

  riser_list : {d next : ℕ} → Ok (d, next) ≡ tell_number (count 1 k s p) → many (carrier k) d [] s next ≡ riser k [] s p
  unfolding riser
  riser_list {d} {next} e = rw (number_got (count 1 k s p) e)

  pub riser_read : {d next : ℕ} {r : Result ℕ Fault} {P : List ℕ → Type 0} → Ok (d, next) ≡ tell_number (count 1 k s p) → Answers tell_section (many (carrier k) d [] s next) r P → Answers tell_section (riser k [] s p) r P
  riser_read {d} {next} {r} {P} e a = subst (λ (o : Outcome (List ℕ)). Answers tell_section o r P) (riser_list e) a

  -- the lists before it do not matter to a riser's list
  riser_any : (done : List (List ℕ)) → riser k done s p ≡ riser k [] s p
  unfolding riser
  riser_any done = refl

pub record RisersSoFar (s : List ℕ) (from k n : ℕ) (T₀ T : List ℕ) (p i : ℕ) : Type 0 where
  pub done : List (List ℕ)
  pub filling : Filling (riser k) mark_list n s from T₀ T p i done

module _ (s : List ℕ) (from k n : ℕ) (T₀ : List ℕ) where
  pub risers_start : RisersSoFar s from k n T₀ T₀ from 0
  risers_start = record { done = []; filling = filling_starts (riser k) mark_list n s from T₀ }

  module _ (T : List ℕ) (p i : ℕ) (v : RisersSoFar s from k n T₀ T p i) (l : i < n) {T' : List ℕ} {r : Result ℕ Fault} (a : Answers tell_section (riser k [] s p) r (λ (l : List ℕ). T' ≡ mark_list T i l)) where
    pub risers_more : {next : ℕ} → r ≡ Ok next → RisersSoFar s from k n T₀ T' next (i + 1)
    risers_more {next} e =
        let g = section_got a e in
        record {
          done = v.done ++ (g.0 ∷ []);
          filling = subst (λ (X : List ℕ). Filling (riser k) mark_list n s from T₀ X next (i + 1) (v.done ++ (g.0 ∷ []))) (sym g.2) (filling_more (riser k) mark_list n s from T₀ v.filling l (riser_any s p k v.done ∙ g.1));
        }

    pub risers_refused : {f : Fault} {P : List (List ℕ) → Type 0} → r ≡ Err f → Answers tell_section (many (riser k) n [] s from) (Err f) P
    risers_refused e = filling_refused (riser k) mark_list n s from T₀ v.filling l (riser_any s p k v.done ∙ section_refused a e)

  pub risers_end : (T : List ℕ) (p i : ℕ) → RisersSoFar s from k n T₀ T p i → n ≤ i → Answers tell_section (many (riser k) n [] s from) (Ok p) (λ (l : List (List ℕ)). T ≡ mark_lists T₀ l)
  risers_end T p i v l = filling_ends (riser k) mark_list n s from T₀ v.filling l

-- ---- what the table of lists says

module _ (T : List ℕ) (r c : ℕ) where
  pub listed_in : r < most_risers → c < most_carriers → eqb (at T (r * most_carriers + c)) 1 ≡ is_listed T r c
  unfolding is_listed
  listed_in h g = rw (lt-ltb r most_risers h, lt-ltb c most_carriers g)

  pub listed_no_carrier : r < most_risers → most_carriers ≤ c → false ≡ is_listed T r c
  unfolding is_listed
  listed_no_carrier h g = rw (lt-ltb r most_risers h, le-ltb c most_carriers g)

  pub listed_no_riser : most_risers ≤ r → false ≡ is_listed T r c
  unfolding is_listed
  listed_no_riser h = rw (le-ltb r most_risers h)

  pub listed_small : is_listed T r c ≡ true → c < most_carriers
  unfolding is_listed
  listed_small e = ltb-true c most_carriers (and_right (ltb r most_risers) (ltb c most_carriers) (and_left (ltb r most_risers && ltb c most_carriers) (eqb (at T (r * most_carriers + c)) 1) e))
