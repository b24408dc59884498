-- How a reader goes on, section by section.
--
--   reader_at r p      the reader r, at the place p of its sheet
--   moved r x          what a section counted and the place after it, x, as the reader r answers it: with the reader at that place
--   tell_reader r o    the reader's answer for an outcome o of a section: the number of its items, and the reader after it
--   tell_end o         the answer for an outcome o of the end
--   placed x           what a reader answers, with the place alone in the stead of the reader
--   CarriersTo s p k r, RisersTo s p k n r M, RulesTo s p k n m r T, SwapsTo s p h r T G
--                      the sheet at the place p of s is read up to the reader r, which is at the place after that section; the numbers
--                      that were counted, and the tables
--
-- A reader's answer is the section's own on its sheet (`on_sheet`), and the reader after it has the same sheet (`same_sheet`). So there
-- are two laws for each section and for the end: how far the sheet is read where it answers (`carriers_to` and the others), and that
-- the sheet is refused where it refuses (`carriers_out` and the others).
-- Assumes nothing.
use Rattle.std.specs.Prelude.{◌≡◌, refl, List, ℕ, replicate, Result, Ok, Err}
use Rattle.std.specs.Result.{IsErrAnd}
use Rattle.std.proofs.Common.{sym, ap, ◌∙◌, subst}
use Rattle.ground.specs.Meanings.Group.{identity}
use Rattle.ground.specs.Meanings.Sheet.{Fault, Outcome, refused, Reading, count, riser, Rule, rule, swap, nothing_more, Sheet, job_sheet, most_carriers, most_risers, most_rules, most_swaps}
use Rattle.ground.specs.Laws.Tables.{blank_tables}
use Rattle.ground.specs.declared.Tables.{Tables}
use Rattle.fields.specs.Tables.{mark_lists, is_listed, rule_tables, mark_rules, is_allowed, put_swap, put_all}
use Rattle.fields.specs.Answers.{Answers, tell, tell_number, tell_count, answer_refused, tell_got, tell_refused}
use Rattle.fields.specs.Sections.{section}
use Rattle.sheet.specs.declared.Head.{Head}
use Rattle.sheet.specs.declared.Reader.{Reader}
use Rattle.sheet.specs.Serves.{tell_sheet, Serves}
use Rattle.sheet.specs.Whole.{GotCarriers, no_carriers, carriers_got, GotRisers, no_risers, risers_got, GotRules, no_rules, rules_got, GotSwaps, no_swaps, swaps_got, all_read, more_bytes}

abbrev pub reader_at : Reader → ℕ → Reader
reader_at r p = record { sheet = r.sheet; at = p }

abbrev pub moved : Reader → Result (ℕ × ℕ) Fault → Result (ℕ × Reader) Fault
moved r (Ok x) = Ok (x.0, reader_at r x.1)
moved r (Err f) = Err f

abbrev pub tell_reader : {A : Type 0} → Reader → Outcome (List A) → Result (ℕ × Reader) Fault
tell_reader r o = moved r (tell_count o)

abbrev pub tell_end : Outcome Unit → Result Unit Fault
tell_end o = tell (λ _ _. tt) o

abbrev pub placed : Result (ℕ × Reader) Fault → Result (ℕ × ℕ) Fault
placed (Ok x) = Ok (x.0, x.1.at)
placed (Err f) = Err f

module _ (r : Reader) where
  placed_moved : (x : Result (ℕ × ℕ) Fault) → placed (moved r x) ≡ x
  placed_moved (Ok x) = refl
  placed_moved (Err f) = refl

  pub same_sheet : (x : Result (ℕ × ℕ) Fault) {n : ℕ} {r' : Reader} → Ok (n, r') ≡ moved r x → r'.sheet.now ≡ r.sheet.now
  same_sheet (Ok x) {n} {r'} e = let z : (◌≡◌ {A = ℕ × Reader} (n, r') (x.0, reader_at r x.1)) = cc in ap (λ (y : ℕ × Reader). y.1.sheet.now) z
  same_sheet (Err f) e = cc

  pub on_sheet : {A : Type 0} {s : List ℕ} {a : Result (ℕ × Reader) Fault} {P : List A → Type 0} → r.sheet.now ≡ s → (section : Reading (List A)) → Answers (tell_reader r) (section r.sheet.now r.at) a P → Answers tell_count (section s r.at) (placed a) P
  on_sheet {A} {s} {a} {P} here section h = subst (λ (t : List ℕ). Answers tell_count (section t r.at) (placed a) P) here (record { told = ap placed h.told ∙ placed_moved (tell_count (section r.sheet.now r.at)); leaves = h.leaves })

-- ---- how far a reader has come

abbrev pub CarriersTo : List ℕ → ℕ → ℕ → Reader → Type 0
CarriersTo s p k r = (r.sheet.now ≡ s) × GotCarriers s p k r.at

abbrev pub RisersTo : List ℕ → ℕ → ℕ → ℕ → Reader → List ℕ → Type 0
RisersTo s p k n r M = (r.sheet.now ≡ s) × GotRisers s p k n r.at M

abbrev pub RulesTo : List ℕ → ℕ → ℕ → ℕ → ℕ → Reader → Tables → Type 0
RulesTo s p k n m r T = (r.sheet.now ≡ s) × GotRules s p k n m r.at T.listed T.allowed T.ends

abbrev pub SwapsTo : List ℕ → ℕ → Head → Reader → Tables → List (List ℕ) → Type 0
SwapsTo s p h r T G = (r.sheet.now ≡ s) × GotSwaps s p h.carriers h.risers h.rules h.swaps r.at T.listed T.allowed T.ends G

module _ (r : Reader) {a : Result (ℕ × Reader) Fault} (e : a ≡ moved r (tell_number (count 1 most_carriers r.sheet.now r.at))) where
  counted : placed a ≡ tell_number (count 1 most_carriers r.sheet.now r.at)
  counted = ap placed e ∙ placed_moved r _

  pub carriers_to : {k : ℕ} {r' : Reader} → a ≡ Ok (k, r') → CarriersTo r.sheet.now r.at k r'
  carriers_to w = (same_sheet r _ (sym w ∙ e), carriers_got r.sheet.now r.at (sym (ap placed w) ∙ counted))

  pub carriers_out : {f : Fault} → a ≡ Err f → job_sheet r.sheet.now r.at ≡ refused f
  carriers_out w = no_carriers r.sheet.now r.at (sym (ap placed w) ∙ counted)

module _ {s : List ℕ} {p : ℕ} {r : Reader} {a : Result (ℕ × Reader) Fault} where
  module _ {k : ℕ} {M : List ℕ} {T₀ : Tables} (h : CarriersTo s p k r) (b : T₀ ≡ blank_tables) (q : Answers (tell_reader r) (section 1 most_risers (riser k) r.sheet.now r.at) a (λ (l : List (List ℕ)). M ≡ mark_lists T₀.listed l)) where
    pub risers_to : {n : ℕ} {r' : Reader} → a ≡ Ok (n, r') → RisersTo s p k n r' M
    risers_to w = (same_sheet r _ (sym w ∙ q.told) ∙ h.0, risers_got s p h.1 T₀.listed (on_sheet r h.0 (section 1 most_risers (riser k)) q) (ap (λ (T : Tables). T.listed) b) (ap placed w))

    pub risers_out : {f : Fault} → a ≡ Err f → job_sheet s p ≡ refused f
    risers_out w = no_risers s p h.1 T₀.listed (on_sheet r h.0 (section 1 most_risers (riser k)) q) (ap placed w)

  module _ {k n : ℕ} {M : List ℕ} {T₀ : Tables} (T : Tables) (h : RisersTo s p k n r M) (b : T₀ ≡ blank_tables) (q : Answers (tell_reader r) (section 0 most_rules (rule n (is_listed M)) r.sheet.now r.at) a (λ (l : List Rule). rule_tables T.allowed T.ends ≡ mark_rules (rule_tables T₀.allowed T₀.ends) l)) where
    pub rules_to : {m : ℕ} {r' : Reader} → T.listed ≡ M → a ≡ Ok (m, r') → RulesTo s p k n m r' T
    rules_to {m} {r'} same w = (
      same_sheet r _ (sym w ∙ q.told) ∙ h.0,
      subst (λ (L : List ℕ). GotRules s p k n m r'.at L T.allowed T.ends) (sym same)
          (rules_got s p h.1 T₀.allowed T₀.ends (on_sheet r h.0 (section 0 most_rules (rule n (is_listed M))) q) (ap (λ (x : Tables). x.allowed) b) (ap (λ (x : Tables). x.ends) b) (ap placed w)),
    )

    pub rules_out : {f : Fault} → a ≡ Err f → job_sheet s p ≡ refused f
    rules_out w = no_rules s p h.1 T₀.allowed T₀.ends (on_sheet r h.0 (section 0 most_rules (rule n (is_listed M))) q) (ap placed w)

  module _ {k n m : ℕ} {T : Tables} {G₀ G : List (List ℕ)} (h : RulesTo s p k n m r T) (b : G₀ ≡ replicate most_swaps (identity most_carriers)) (q : Answers (tell_reader r) (section 0 most_swaps (swap k n m (is_listed T.listed) (is_allowed T.allowed)) r.sheet.now r.at) a (λ (l : List (List ℕ)). G ≡ put_all put_swap G₀ 0 l)) where
    pub swaps_to : {c : ℕ} {r' : Reader} → a ≡ Ok (c, r') → SwapsTo s p (record { carriers = k; risers = n; rules = m; swaps = c }) r' T G
    swaps_to w = (same_sheet r _ (sym w ∙ q.told) ∙ h.0, swaps_got s p h.1 G₀ (on_sheet r h.0 (section 0 most_swaps (swap k n m (is_listed T.listed) (is_allowed T.allowed))) q) b (ap placed w))

    pub swaps_out : {f : Fault} → a ≡ Err f → job_sheet s p ≡ refused f
    swaps_out w = no_swaps s p h.1 G₀ (on_sheet r h.0 (section 0 most_swaps (swap k n m (is_listed T.listed) (is_allowed T.allowed))) q) (ap placed w)

module _ {s : List ℕ} {p : ℕ} {h : Head} (r : Reader) {T : Tables} {G : List (List ℕ)} (l : SwapsTo s p h r T G) {a : Result Unit Fault} (e : a ≡ tell_end (nothing_more r.sheet.now r.at)) where
  ended : a ≡ tell_end (nothing_more s r.at)
  ended = e ∙ ap (λ (t : List ℕ). tell_end (nothing_more t r.at)) l.0

  pub end_to : {u : Unit} → a ≡ Ok u → Answers tell_sheet (job_sheet s p) (Ok h) (λ (X : Sheet). Serves X T G)
  end_to w = let t = tell_got _ (nothing_more s r.at) (sym w ∙ ended) in all_read s p l.1 t.2

  pub end_out : {f : Fault} → a ≡ Err f → job_sheet s p ≡ refused f
  end_out w = more_bytes s p l.1 (tell_refused _ (nothing_more s r.at) (sym w ∙ ended))

-- a refusal that is handed up refuses the whole
pub handed_up : {o : Outcome Sheet} {f : Fault} {P : Sheet → Type 0} {r : Result Head Fault} → o ≡ refused f → IsErrAnd r (λ g. g ≡ f) → Answers tell_sheet o r P
handed_up {r = Ok h} e g = absurd g
handed_up {r = Err f} e g = answer_refused tell_sheet (e ∙ ap refused (sym g))
