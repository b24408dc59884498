-- What a caller of the reader has of its answer.
--
--   AcceptedAs s h T swaps   the bytes s are a sheet with the numbers h, and the tables serve it
--   Sized T                  the tables have as many entries as their types say
--   Same r r' ..             two answers and their tables are the same
--
-- An answer says which it was (`accepted_as`, `refused_as`). An entry that is 1 says yes and another says no (`member_yes`,
-- `member_no`, `allowed_yes`, `allowed_no`); where no rule's number stands there is no rule of the two risers (`no_rule_there`); the
-- first swaps of the table are the sheet's (`swaps_first`, `swaps_wide`). No second answer fits: bytes settle the answer and the tables
-- (`reads_once`).
-- Assumes nothing.
use Rattle.std.specs.Prelude.{◌≡◌, refl, Bool, true, false, List, [], ◌∷◌, ◌++◌, map, ℕ, zero, suc, ◌+◌, ◌*◌, ◌-◌, ◌/◌, ◌%◌, ◌<◌, length, take, drop, replicate, Result, Ok, Err}
use Rattle.std.proofs.Common.{sym, ap, ap₂, ◌∙◌, arith, length-append, ext_get_or, take_at}
use mathlib.Core.List.Memᴰ
use Rattle.std.proofs.lemmas.List.{length-map, length-replicate}
use Rattle.ground.specs.Meanings.Group.{at, identity, In}
use Rattle.ground.specs.Meanings.Sheet.{Fault, Outcome, got, refused, Sheet, job_sheet, is_listed_in, allowed_by, Accepted, Refused, most_carriers, most_risers, most_rules, most_pairs, most_swaps}
use Rattle.ground.specs.Laws.Members.{Perms}
use Rattle.ground.specs.Laws.Padding.{pad}
use Rattle.ground.specs.Laws.Sheets.{Sound}
use Rattle.ground.proofs.Laws.Sheets.{accepted_sound}
use Rattle.ground.specs.declared.Tables.{Tables}
use Rattle.sheet.specs.declared.Head.{Head}
use Rattle.fields.specs.Tables.{padded}
use Rattle.sheet.specs.Serves.{bit, risers_of, Serves, Blank, Reads}
use Rattle.fields.specs.Answers.{pair, tell_got, tell_refused}

-- ---- which answer it was

pub record AcceptedAs (s : List ℕ) (h : Head) (T : Tables) (swaps : List (List ℕ)) : Type 0 where
  pub sheet : Sheet
  pub accepted : Accepted s sheet
  pub carriers : sheet.carriers ≡ h.carriers
  pub risers : length sheet.lists ≡ h.risers
  pub rules : length sheet.rules ≡ h.rules
  pub swaps_number : length sheet.swaps ≡ h.swaps
  pub serves : Serves sheet T swaps

module _ {s : List ℕ} {r : Result Head Fault} {T : Tables} {swaps : List (List ℕ)} (a : Reads s 0 r T swaps) where
  pub accepted_as : {h : Head} → r ≡ Ok h → AcceptedAs s h T swaps
  accepted_as {h} e =
      let t = tell_got _ (job_sheet s 0) (sym e ∙ a.told) in
      record {
        sheet = t.0;
        accepted = record { end = t.1; read = t.2 };
        carriers = ap (λ (x : Head). x.carriers) t.3;
        risers = ap (λ (x : Head). x.risers) t.3;
        rules = ap (λ (x : Head). x.rules) t.3;
        swaps_number = ap (λ (x : Head). x.swaps) t.3;
        serves = a.serves t.0 t.1 t.2;
      }

  pub refused_as : {f : Fault} → r ≡ Err f → Refused s f × Blank T swaps
  refused_as {f} e = let t = tell_refused _ (job_sheet s 0) (sym e ∙ a.told) in (record { read = t }, a.blank f t)

-- ---- what an entry says

bit_yes : (b : Bool) → bit b ≡ 1 → b ≡ true
bit_yes true e = refl
bit_yes false e = absurd (omega arith)

bit_no : (b : Bool) → (bit b ≡ 1 → ⊥) → b ≡ false
bit_no true f = absurd (f refl)
bit_no false f = refl

module _ {X : Sheet} {T : Tables} {swaps : List (List ℕ)} (v : Serves X T swaps) where
  module _ (r c : ℕ) (h : r < most_risers) (g : c < most_carriers) where
    pub member_yes : at T.listed (r * most_carriers + c) ≡ 1 → is_listed_in X.lists r c ≡ true
    member_yes e = bit_yes (is_listed_in X.lists r c) (sym (v.member_at r c h g) ∙ e)

    pub member_no : (at T.listed (r * most_carriers + c) ≡ 1 → ⊥) → is_listed_in X.lists r c ≡ false
    member_no f = bit_no (is_listed_in X.lists r c) (λ e. f (v.member_at r c h g ∙ e))

  module _ (q u w : ℕ) (f : q < most_rules) (h : u < most_carriers) (g : w < most_carriers) where
    pub allowed_yes : at T.allowed (q * most_pairs + (u * most_carriers + w)) ≡ 1 → allowed_by X.rules q u w ≡ true
    allowed_yes e = bit_yes (allowed_by X.rules q u w) (sym (v.allowed_at q u w f h g) ∙ e)

    pub allowed_no : (at T.allowed (q * most_pairs + (u * most_carriers + w)) ≡ 1 → ⊥) → allowed_by X.rules q u w ≡ false
    allowed_no d = bit_no (allowed_by X.rules q u w) (λ e. d (v.allowed_at q u w f h g ∙ e))

  pub no_rule_there : (a b : ℕ) → at T.ends (b * most_risers + a) ≡ 0 → (q : ℕ) → q < length X.rules → risers_of X q ≡ pair a b → ⊥
  no_rule_there a b e q h f =
      let z : at T.ends (b * most_risers + a) ≡ q + 1 = rw f at (v.ends_at q h) in
      omega arith

  pub swaps_first : take (length X.swaps) swaps ≡ map (padded most_carriers) X.swaps
  swaps_first = rw v.swaps_are (take_at (map (padded most_carriers) X.swaps) _ (length X.swaps) (length-map X.swaps (padded most_carriers)))

-- padded by their own length, or by the number of carriers
pub padded_pad : (w k : ℕ) (S : List (List ℕ)) → Perms k (In S) → map (padded w) S ≡ map (pad w k) S
unfolding padded pad
padded_pad w k [] P = refl
padded_pad w k (g ∷ S) P = ap₂ ◌∷◌ (ap (λ (n : ℕ). g ++ drop n (identity w)) (P g (Memᴰ.head refl)).size) (padded_pad w k S (λ s m. P s (Memᴰ.tail m)))

module _ {s : List ℕ} {h : Head} {T : Tables} {swaps : List (List ℕ)} (A : AcceptedAs s h T swaps) where
  pub sheet_sound : Sound A.sheet
  sheet_sound = accepted_sound s A.sheet A.accepted

  -- the first swaps of the table are the sheet's, at all 15 carriers
  pub swaps_wide : take h.swaps swaps ≡ map (pad most_carriers A.sheet.carriers) A.sheet.swaps
  swaps_wide = ap (λ (j : ℕ). take j swaps) (sym A.swaps_number) ∙ swaps_first A.serves ∙ padded_pad most_carriers A.sheet.carriers A.sheet.swaps sheet_sound.perms

  pub swaps_table : length swaps ≡ most_swaps
  swaps_table =
      ap (λ (l : List (List ℕ)). length l) A.serves.swaps_are
      ∙ length-append (map (padded most_carriers) A.sheet.swaps) (replicate (most_swaps - length A.sheet.swaps) (identity most_carriers))
      ∙ ap₂ ◌+◌ (length-map A.sheet.swaps (padded most_carriers)) (length-replicate (most_swaps - length A.sheet.swaps) (identity most_carriers))
      ∙ omega (arith, sheet_sound.few_swaps)

-- ---- no second answer fits

pub record Sized (T : Tables) : Type 0 where
  pub lists_long : length T.listed ≡ most_risers * most_carriers
  pub pairs_long : length T.allowed ≡ most_rules * most_pairs
  pub ends_long : length T.ends ≡ most_risers * most_risers

pub record Same (r r' : Result Head Fault) (T T' : Tables) (G G' : List (List ℕ)) : Type 0 where
  pub one_answer : r ≡ r'
  pub one_member : T.listed ≡ T'.listed
  pub one_allowed : T.allowed ≡ T'.allowed
  pub one_ends : T.ends ≡ T'.ends
  pub one_swaps : G ≡ G'

module _ {r r' : Result Head Fault} (told : r ≡ r') {T T' : Tables} {G G' : List (List ℕ)} (z : Sized T) (z' : Sized T') where
  blank_once : Blank T G → Blank T' G' → Same r r' T T' G G'
  blank_once b b' =
      let e = b.says_nothing ∙ sym b'.says_nothing in
      record {
        one_answer = told;
        one_member = ap (λ (x : Tables). x.listed) e;
        one_allowed = ap (λ (x : Tables). x.allowed) e;
        one_ends = ap (λ (x : Tables). x.ends) e;
        one_swaps = b.all_stay ∙ sym b'.all_stay;
      }

  serves_once : {X : Sheet} → Serves X T G → Serves X T' G' → Same r r' T T' G G'
  serves_once {X} v v' = record {
    one_answer = told;
    one_member = ext_get_or 0 T.listed T'.listed (z.lists_long ∙ sym z'.lists_long) (λ i h. same_member i (rw z.lists_long at h));
    one_allowed = ext_get_or 0 T.allowed T'.allowed (z.pairs_long ∙ sym z'.pairs_long) (λ i h. same_allowed i (rw z.pairs_long at h));
    one_ends = ext_get_or 0 T.ends T'.ends (z.ends_long ∙ sym z'.ends_long) (λ i h. same_ends i (rw z.ends_long at h));
    one_swaps = v.swaps_are ∙ sym v'.swaps_are;
  }
    where
      same_member : (i : ℕ) → i < most_risers * most_carriers → at T.listed i ≡ at T'.listed i
      same_member i h =
          let e : i / most_carriers * most_carriers + i % most_carriers ≡ i = omega arith in
          rw e at (v.member_at (i / most_carriers) (i % most_carriers) (omega arith) (omega arith) ∙ sym (v'.member_at (i / most_carriers) (i % most_carriers) (omega arith) (omega arith)))

      same_allowed : (i : ℕ) → i < most_rules * most_pairs → at T.allowed i ≡ at T'.allowed i
      same_allowed i h =
          let q = i / most_pairs in
          let u = i % most_pairs / most_carriers in
          let w = i % most_pairs % most_carriers in
          let e : q * most_pairs + (u * most_carriers + w) ≡ i = omega arith in
          rw e at (v.allowed_at q u w (omega arith) (omega arith) (omega arith) ∙ sym (v'.allowed_at q u w (omega arith) (omega arith) (omega arith)))

      -- what one table has at an entry the other has
      carried : (F F' : List ℕ) → ((q : ℕ) → q < length X.rules → at F' ((risers_of X q).right * most_risers + (risers_of X q).left) ≡ q + 1)
          → ((a b q : ℕ) → a < most_risers → b < most_risers → at F (b * most_risers + a) ≡ q + 1 → (q < length X.rules) × (risers_of X q ≡ pair a b))
          → (a b q : ℕ) → a < most_risers → b < most_risers → at F (b * most_risers + a) ≡ q + 1 → at F' (b * most_risers + a) ≡ q + 1
      carried F F' f g a b q h k e = let d = g a b q h k e in rw d.1 at (f q d.0)

      same_entry : (a b : ℕ) → a < most_risers → b < most_risers → at T.ends (b * most_risers + a) ≡ at T'.ends (b * most_risers + a)
      same_entry a b h k = go (at T.ends (b * most_risers + a)) refl (at T'.ends (b * most_risers + a)) refl
        where
          go : (x : ℕ) → at T.ends (b * most_risers + a) ≡ x → (y : ℕ) → at T'.ends (b * most_risers + a) ≡ y → at T.ends (b * most_risers + a) ≡ at T'.ends (b * most_risers + a)
          go zero e zero f = e ∙ sym f
          go (suc x) e y f = let d = carried T.ends T'.ends v'.ends_at v.ends_only a b x h k (e ∙ omega arith) in e ∙ omega arith
          go zero e (suc y) f = let d = carried T'.ends T.ends v.ends_at v'.ends_only a b y h k (f ∙ omega arith) in absurd (omega arith)

      same_ends : (i : ℕ) → i < most_risers * most_risers → at T.ends i ≡ at T'.ends i
      same_ends i h =
          let e : i / most_risers * most_risers + i % most_risers ≡ i = omega arith in
          rw e at (same_entry (i % most_risers) (i / most_risers) (omega arith) (omega arith))

pub reads_once : {s : List ℕ} {p : ℕ} {r r' : Result Head Fault} {T T' : Tables} {G G' : List (List ℕ)} → Sized T → Sized T' → Reads s p r T G → Reads s p r' T' G' → Same r r' T T' G G'
reads_once {s} {p} {r} {r'} {T} {T'} {G} {G'} z z' a a' = go (job_sheet s p) refl
  where
    told : r ≡ r'
    told = a.told ∙ sym a'.told

    go : (o : Outcome Sheet) → job_sheet s p ≡ o → Same r r' T T' G G'
    go (got X e) f = serves_once told z z' (a.serves X e f) (a'.serves X e f)
    go (refused x) f = blank_once told z z' (a.blank x f) (a'.blank x f)
