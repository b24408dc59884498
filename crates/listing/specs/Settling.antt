-- What the search leaves settles the listing's answer.
--
--   Given s h T swaps    the bytes s are a sheet with the numbers h, and the tables serve the search of it
--   stopped s, crowded s, written s   what is left, from the state s of the search: where the allowance was not enough, where the
--                        room was not, and else
--   settled room s       the one of the three that it is
--   answer_of r room     the answer, from the answer r of the search and the room
--
-- Where the reader accepts, the tables are given (`given`), the search may start (`ready`), and what is settled fits the meanings
-- (`settles`): a walk that the allowance is enough for leaves the true numbers and the listing's first lines (`run_all`), another one a
-- stop (`run_many`). Where the reader refuses, so does the listing (`refuses`), with the sheet's own fault (`refuses_it`); no other answer
-- is about the sheet (`not_the_sheet`).
-- Assumes nothing.
use Rattle.std.specs.Prelude.{◌≡◌, refl, Bool, true, false, cond, List, ℕ, ◌*◌, ◌/◌, ◌≤◌, ◌<◌, min, ltb, length, take, replicate, Result, Ok, Err}
use Rattle.std.proofs.Common.{sym, ap, subst, ◌∙◌, le_trans, div-mul-le_self, mul-le-mul_right, arith, lt-ltb, le-ltb, take_all}
use Rattle.std.proofs.Math.Decide.{dec_lt}
use Rattle.ground.specs.Meanings.Sheet as meanings
use Rattle.ground.specs.Meanings.Sheet.{Fault}
use Rattle.ground.specs.Meanings.Sheet.{opened_beyond, listed_beyond, fault, no_fault, Sheet, Accepted, most_swaps}
use Rattle.ground.specs.Meanings.Plans.{risers}
use Rattle.ground.specs.Meanings.Listing.{Line, on_sheet, Listing, room, filled, over, flat, rows_of, sizes_of, Left, left, ListsOn, beyond_allowance, beyond_room, listed, Lists}
use Rattle.ground.specs.Laws.Classes.{total}
use Rattle.ground.proofs.Theorems.Kinds.{plan_kinds, sizes_sum}
use Rattle.sheet.specs.declared.Head.{Head}
use Rattle.sheet.specs.Serves as reader
use Rattle.sheet.specs.Callers.{accepted_as, refused_as, sheet_sound, swaps_table}
use Rattle.tree.specs.declared.Limits.{Limits}
use Rattle.tree.specs.Visits.{State, state}
use Rattle.tree.specs.Walks.{Every}
use Rattle.tree.specs.Wholes.{wholes, walk_opened, walk_lists}
use Rattle.tree.specs.Written.{run_all, run_many}
use Rattle.ground.specs.declared.Tables.{Tables}
use Rattle.ground.specs.Laws.Tables.{Serves}
use Rattle.last.specs.declared.Tally.{Tally}
use Rattle.search.specs.declared.Stopped.{Stopped}
use Rattle.search.specs.Answer.{left_by, Ready, Searched, Searches}
use Rattle.search.specs.Starting.{serves_declared, serves_ready}
use Rattle.listing.specs.declared.Listed.{Listed}
use Rattle.listing.specs.declared.Refused.{Refused}
use Rattle.listing.specs.Answering.{counted, SheetRefused}
use Rattle.listing.specs.Serving.{serves}

-- ---- from the reader to the search

pub record Given (s : List ℕ) (h : Head) (T : Tables) (swaps : List (List ℕ)) : Type 0 where
  pub sheet : Sheet
  pub accepted : Accepted s sheet
  pub serves : Serves sheet h.carriers h.risers h.swaps T swaps
  pub eight : length swaps ≡ most_swaps

module _ {s : List ℕ} {r : Result Head Fault} {T : Tables} {swaps : List (List ℕ)} (R : reader.Reads s 0 r T swaps) where
  pub given : {h : Head} → r ≡ Ok h → Given s h T swaps
  given e =
      let w = accepted_as R e in
      record {
        sheet = w.sheet;
        accepted = w.accepted;
        serves = subst (λ (v : ℕ × ℕ × ℕ). Serves w.sheet v.0 v.1 v.2 T swaps) (λ i. (w.carriers i, w.risers i, w.swaps_number i)) (serves (sheet_sound w) w.serves);
        eight = swaps_table w;
      }

  pub refuses : {f : Fault} (allowance : ℕ) (bytes sizes : List ℕ) → r ≡ Err f → Lists s allowance bytes sizes (left f 0 0 0 bytes sizes)
  refuses allowance bytes sizes e = Lists.faulty (refused_as R e).0

  pub refuses_it : {f : Fault} → r ≡ Err f → SheetRefused s (Err (Refused.Sheet f))
  refuses_it e g same = subst (meanings.Refused s) (cc) (refused_as R e).0

module _ {s : List ℕ} {h : Head} {T : Tables} {swaps : List (List ℕ)} (G : Given s h T swaps) where
  pub given_riser : 0 < h.risers
  given_riser = omega (arith, G.serves.risers, G.serves.sound.some_riser)

  pub given_swaps : h.swaps ≤ length swaps
  given_swaps = omega (arith, G.serves.counted, G.serves.sound.few_swaps, G.eight)

  -- the same, with the numbers as the search has them, and the sheet's swaps alone
  served : (z : Limits) → z.carriers ≡ h.carriers → z.risers ≡ h.risers → Serves G.sheet z.carriers z.risers (length (take h.swaps swaps)) T (take h.swaps swaps)
  served z ek en = serves_declared given_swaps (subst (λ (p : ℕ × ℕ). Serves G.sheet p.0 p.1 h.swaps T swaps) (λ i. (sym ek i, sym en i)) G.serves)

  pub ready : (z : Limits) (rows sizes : List ℕ) → z.carriers ≡ h.carriers → z.risers ≡ h.risers → z.room ≡ min (length rows / h.risers) (length sizes) → Ready z T (take h.swaps swaps) rows sizes
  ready z rows sizes ek en er =
      let low : z.room ≤ length rows / h.risers = omega arith in
      serves_ready rows sizes (served z ek en) (le_trans (subst (λ (j : ℕ). z.room * j ≤ length rows / h.risers * h.risers) (sym en) (mul-le-mul_right h.risers low)) (div-mul-le_self (length rows) h.risers)) (omega arith)

-- ---- what is left, from the state of the search

abbrev stopped : State → Left
stopped s = left (fault opened_beyond 0) 0 s.opened 0 (filled 255 s.rows) (filled 0 s.sizes)

abbrev crowded : State → Left
crowded s = left (fault listed_beyond 0) s.listed s.opened s.total (filled 255 s.rows) (filled 0 s.sizes)

abbrev written : State → Left
written s = left no_fault s.listed s.opened s.total s.rows s.sizes

abbrev pub settled : ℕ → State → Left
settled room s = cond s.over (stopped s) (cond (ltb room s.listed) (crowded s) (written s))

module _ (room : ℕ) (s : State) where
  pub settled_over : {f : Fault} {bytes sizes : List ℕ} → s.over ≡ true → bytes ≡ filled 255 s.rows → sizes ≡ filled 0 s.sizes → f ≡ fault opened_beyond 0 → left f 0 s.opened 0 bytes sizes ≡ settled room s
  settled_over e b z h = (λ i. left (h i) 0 s.opened 0 (b i) (z i)) ∙ sym (ap (λ (v : Bool). cond v (stopped s) (cond (ltb room s.listed) (crowded s) (written s))) e)

  module _ (e : s.over ≡ false) where
    going : settled room s ≡ cond (ltb room s.listed) (crowded s) (written s)
    going = ap (λ (v : Bool). cond v (stopped s) (cond (ltb room s.listed) (crowded s) (written s))) e

    pub settled_crowded : {f : Fault} {bytes sizes : List ℕ} → room < s.listed → bytes ≡ filled 255 s.rows → sizes ≡ filled 0 s.sizes → f ≡ fault listed_beyond 0 → left f s.listed s.opened s.total bytes sizes ≡ settled room s
    settled_crowded l b z h = (λ i. left (h i) s.listed s.opened s.total (b i) (z i)) ∙ sym (going ∙ ap (λ (v : Bool). cond v (crowded s) (written s)) (lt-ltb room s.listed l))

    pub settled_fits : {f : Fault} → s.listed ≤ room → f ≡ no_fault → left f s.listed s.opened s.total s.rows s.sizes ≡ settled room s
    settled_fits l h = (λ i. left (h i) s.listed s.opened s.total s.rows s.sizes) ∙ sym (going ∙ ap (λ (v : Bool). cond v (crowded s) (written s)) (le-ltb room s.listed l))

-- ---- the answer, from that of the search

-- with room for so many lines
abbrev pub answer_of : Result Tally Stopped → ℕ → Result Listed Refused
answer_of (Err s) room = Err (Refused.BeyondAllowance s.tally.opened)
answer_of (Ok t) room = cond (ltb room t.listed) (Err (Refused.BeyondRoom (counted t.listed t.opened t.total))) (Ok (counted t.listed t.opened t.total))

-- it is none about the sheet
pub not_the_sheet : (s : List ℕ) (r : Result Tally Stopped) (room : ℕ) → SheetRefused s (answer_of r room)
not_the_sheet s (Err v) room f same = absurd (cc)
not_the_sheet s (Ok t) room f same = go (ltb room t.listed) same
  where
    go : (b : Bool) → cond b (Err (Refused.BeyondRoom (counted t.listed t.opened t.total))) (Ok (counted t.listed t.opened t.total)) ≡ Err (Refused.Sheet f) → meanings.Refused s f
    go true e = absurd (cc)
    go false e = absurd (cc)

-- the lent lists are as the search left them
pub left_lists : (r : Result Tally Stopped) (bytes sizes : List ℕ) → ((left_by r bytes sizes).rows ≡ bytes) × ((left_by r bytes sizes).sizes ≡ sizes)
left_lists (Ok t) bytes sizes = (refl, refl)
left_lists (Err s) bytes sizes = (refl, refl)

-- ---- from the search to the answer

same_filled : (x : ℕ) (a b : List ℕ) → length a ≡ length b → filled x a ≡ filled x b
same_filled x a b e = ap (λ (j : ℕ). replicate j x) e

module _ {X : Sheet} {z : Limits} {T : Tables} {swaps : List (List ℕ)} {rows sizes : List ℕ} {s : State} (Y : Serves X z.carriers z.risers (length swaps) T swaps) (R : Ready z T swaps rows sizes) (A : Searched z X Every rows sizes s) where
  -- the plans among the rows that are opened
  abbrev lines : List Line
  lines = wholes z.risers A.visits

  lists : Listing (on_sheet X) lines
  lists = walk_lists Y.risers (λ r o e. tt) A.walk

  settles_on : z.room ≡ room (risers X) rows sizes → length s.rows ≡ length rows → length s.sizes ≡ length sizes → ListsOn (on_sheet X) z.allowance rows sizes (settled z.room s)
  settles_on ej er ez = go (dec_lt z.allowance (length A.visits)) (dec_lt z.room (length lines))
    where
      bytes_filled : filled 255 rows ≡ filled 255 s.rows
      bytes_filled = same_filled 255 rows s.rows (sym er)

      sizes_filled : filled 0 sizes ≡ filled 0 s.sizes
      sizes_filled = same_filled 0 sizes s.sizes (sym ez)

      go : Dec (z.allowance < length A.visits) → Dec (z.room < length lines) → ListsOn (on_sheet X) z.allowance rows sizes (settled z.room s)
      go (yes l) d =
          let b = subst (λ (v : State). (v.over ≡ true) × (v.opened ≡ z.allowance)) (sym A.is) (run_many z A.visits rows sizes l) in
          subst (ListsOn (on_sheet X) z.allowance rows sizes)
          (ap (λ (o : ℕ). left (fault opened_beyond 0) 0 o 0 (filled 255 rows) (filled 0 sizes)) (sym b.1) ∙ settled_over z.room s b.0 bytes_filled sizes_filled refl)
          (beyond_allowance (walk_opened A.walk) l)
      go (no f) d = within (A.is ∙ run_all z A.visits rows sizes R.room_rows R.room_sizes (omega arith)) d
        where
          within : s ≡ state (length A.visits) (length lines) (total (sizes_of lines)) false (over (flat (rows_of (take z.room lines))) rows) (over (sizes_of (take z.room lines)) sizes)
              → Dec (z.room < length lines) → ListsOn (on_sheet X) z.allowance rows sizes (settled z.room s)
          within w (yes l) =
              let m = ap (λ (v : State). v.listed) w in
              subst (ListsOn (on_sheet X) z.allowance rows sizes)
              (ap (λ (v : State). left (fault listed_beyond 0) v.listed v.opened v.total (filled 255 rows) (filled 0 sizes)) (sym w) ∙ settled_crowded z.room s (ap (λ (v : State). v.over) w) (omega arith) bytes_filled sizes_filled refl)
              (beyond_room (walk_opened A.walk) (omega arith) (sizes_sum (plan_kinds Y.sound) lists) lists (omega arith))
          within w (no g) =
              let m = ap (λ (v : State). v.listed) w in
              let t : take z.room lines ≡ lines = take_all z.room lines (omega arith) in
              subst (ListsOn (on_sheet X) z.allowance rows sizes)
              (ap (λ (F : List Line). left no_fault (length lines) (length A.visits) (total (sizes_of lines)) (over (flat (rows_of F)) rows) (over (sizes_of F) sizes)) (sym t)
              ∙ ap (λ (v : State). left no_fault v.listed v.opened v.total v.rows v.sizes) (sym w) ∙ settled_fits z.room s (ap (λ (v : State). v.over) w) (omega arith) refl)
              (listed (walk_opened A.walk) (omega arith) (sizes_sum (plan_kinds Y.sound) lists) lists (omega arith))

pub settles : {s : List ℕ} {h : Head} {T : Tables} {swaps : List (List ℕ)} (z : Limits) (rows sizes : List ℕ) (v : State) (o : Left) → Given s h T swaps → z.carriers ≡ h.carriers → z.risers ≡ h.risers → z.room ≡ min (length rows / h.risers) (length sizes)
    → Searches z T (take h.swaps swaps) rows sizes v → length v.rows ≡ length rows → length v.sizes ≡ length sizes → o ≡ settled z.room v → Lists s z.allowance rows sizes o
unfolding room
settles {s} z rows sizes v o G ek en er S lr lz e =
    let X = G.sheet in
    let q : z.room ≡ min (length rows / risers X) (length sizes) = er ∙ ap (λ (j : ℕ). min (length rows / j) (length sizes)) (sym G.serves.risers) in
    Lists.sheet G.accepted (subst (ListsOn (on_sheet X) z.allowance rows sizes) (sym e) (settles_on (served G z ek en) (ready G z rows sizes ek en er) (S.walks X (served G z ek en)) q lr lz))
