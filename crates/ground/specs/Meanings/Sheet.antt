-- The job sheet: what reading its bytes gives, the sheet or the fault that refuses it
-- (docs/SHEET.md, "The bytes" and "Refusals", 1 to 9).
--
-- A reading goes from the bytes of a sheet and a place to an outcome: what was read and the place after it, or a refusal.
-- `do` joins readings: each starts where the one before it ended, and the first refusal is the outcome. So faults are
-- taken in reading order, and the place of a refusal is the first byte of the field that it is about.
--
--   number_of r        the number of the refusal r, one of those that src/lib.rt declares
--   Fault              what a refusal tells: its number and its place
--   fault q p          the refusal number q at place p; `no_fault` is what an accepted answer has in its stead
--   field w            w bytes that are one field; `sheet_ends` where the sheet ends before it is whole
--   checked q test m   what m reads; q, at m's first byte, where the test fails
--   many one n         n items, each read by `one` from the items before it
--   first_out n test    the first of 0 to n − 1 at which the test fails, or n
--   job_sheet           the whole sheet
--   Accepted s X       the bytes s are the sheet X
--   Refused s f        the bytes s are refused with the fault f
--
-- These are definitions: nothing is assumed or proved here.
use Rattle.std.specs.Prelude.{◌≡◌, Bool, true, false, cond, not, ◌&&◌, ◌||◌, List, [], ◌∷◌, ◌++◌, map, ℕ, zero, suc, ◌+◌, ltb, leb, eqb, length, get_or, take, drop, Option, Some, None}
use Rattle.ground.specs.Meanings.Group.{at}
use Rattle.ground.specs.declared.Refusal.{Refusal}

-- ---- limits

abbrev pub most_carriers : ℕ
most_carriers = 15

abbrev pub most_risers : ℕ
most_risers = 12

abbrev pub most_rules : ℕ
most_rules = 66

abbrev pub most_pairs : ℕ
most_pairs = 225

abbrev pub most_swaps : ℕ
most_swaps = 8

-- ---- the numbers of refusal, and faults

abbrev pub accepted : ℕ
accepted = 0

abbrev pub sheet_ends : ℕ
sheet_ends = 1

abbrev pub wrong_count : ℕ
wrong_count = 2

abbrev pub wrong_carrier : ℕ
wrong_carrier = 3

abbrev pub wrong_rule : ℕ
wrong_rule = 4

abbrev pub wrong_pair : ℕ
wrong_pair = 5

abbrev pub no_permutation : ℕ
no_permutation = 6

abbrev pub list_not_kept : ℕ
list_not_kept = 7

abbrev pub rule_not_kept : ℕ
rule_not_kept = 8

abbrev pub bytes_follow : ℕ
bytes_follow = 9

abbrev pub opened_beyond : ℕ
opened_beyond = 10

abbrev pub listed_beyond : ℕ
listed_beyond = 11

abbrev pub row_not_whole : ℕ
row_not_whole = 12

abbrev pub buffers_not_fitting : ℕ
buffers_not_fitting = 13

-- the number of each of the code's refusals
abbrev pub number_of : Refusal → ℕ
number_of Refusal.SheetEnds = sheet_ends
number_of Refusal.WrongCount = wrong_count
number_of Refusal.WrongCarrier = wrong_carrier
number_of Refusal.WrongRule = wrong_rule
number_of Refusal.WrongPair = wrong_pair
number_of Refusal.NoPermutation = no_permutation
number_of Refusal.ListNotKept = list_not_kept
number_of Refusal.RuleNotKept = rule_not_kept
number_of Refusal.BytesFollow = bytes_follow
number_of Refusal.BeyondAllowance = opened_beyond
number_of Refusal.BeyondRoom = listed_beyond
number_of Refusal.RowNotWhole = row_not_whole
number_of Refusal.BuffersNotFitting = buffers_not_fitting

-- what a refusal tells
pub record Fault : Type 0 where
  pub number : ℕ
  pub place : ℕ

abbrev pub fault : ℕ → ℕ → Fault
fault q p = record { number = q; place = p }

abbrev pub no_fault : Fault
no_fault = fault accepted 0

-- what an answer tells that may be refused
abbrev pub fault_told : Option Fault → Fault
fault_told (Some f) = f
fault_told None = no_fault

-- ---- outcomes and readings

pub data Outcome (A : Type 0) : Type 0 where
  got : A → ℕ → Outcome A
  refused : Fault → Outcome A

abbrev pub Reading : Type 0 → Type 0
Reading A = List ℕ → ℕ → Outcome A

-- the rest of a reading, from what was got and the place after it
abbrev pub and_then : {A B : Type 0} → Outcome A → (A → ℕ → Outcome B) → Outcome B
and_then (got x next) f = f x next
and_then (refused x) f = refused x

infixl 20 ◌>>=◌
abbrev pub ◌>>=◌ : {A B : Type 0} → Reading A → (A → Reading B) → Reading B
(m >>= f) s p = and_then (m s p) (λ x next. f x s next)

abbrev pub yields : {A : Type 0} → A → Reading A
yields x s p = got x p

-- ---- fields

unfoldable pub field : ℕ → Reading (List ℕ)
field w s p = cond (leb (p + w) (length s)) (got (take w (drop p s)) (p + w)) (refused (fault sheet_ends p))

unfoldable pub checked : {A : Type 0} → ℕ → (A → Bool) → Reading A → Reading A
checked q test m s p = and_then (m s p) (λ x next. cond (test x) (got x next) (refused (fault q p)))

unfoldable pub byte : Reading ℕ
byte s p = and_then (field 1 s p) (λ w next. got (at w 0) next)

pub record Pair : Type 0 where
  pub left : ℕ
  pub right : ℕ

unfoldable pub two : Reading Pair
two s p = and_then (field 2 s p) (λ w next. got (record { left = at w 0; right = at w 1 }) next)

unfoldable pub many : {A : Type 0} → (List A → Reading A) → ℕ → List A → Reading (List A)
many one zero done s p = got done p
many one (suc n) done s p = and_then (one done s p) (λ x next. many one n (done ++ (x ∷ [])) s next)

-- ---- orders, membership, and tests of a whole range

-- x comes after the last of the items by the order, or there is none
unfoldable pub after : {A : Type 0} → (A → A → Bool) → List A → A → Bool
after before [] x = true
after before (y ∷ []) x = before y x
after before (y ∷ z ∷ l) x = after before (z ∷ l) x

-- by the left, then by the right
abbrev pub before : Pair → Pair → Bool
before x y = ltb x.left y.left || (eqb x.left y.left && ltb x.right y.right)

unfoldable pub is_in : ℕ → List ℕ → Bool
is_in c [] = false
is_in c (d ∷ l) = eqb c d || is_in c l

unfoldable pub is_pair_in : ℕ → ℕ → List Pair → Bool
is_pair_in u v [] = false
is_pair_in u v (x ∷ l) = (eqb u x.left && eqb v x.right) || is_pair_in u v l

-- l of them are left, from i on
unfoldable pub first_from : (ℕ → Bool) → ℕ → ℕ → ℕ
first_from test zero i = i
first_from test (suc l) i = cond (test i) (first_from test l (suc i)) i

abbrev pub first_out : ℕ → (ℕ → Bool) → ℕ
first_out n test = first_from test n 0

-- the test holds of each of 0 to n − 1
abbrev pub each : ℕ → (ℕ → Bool) → Bool
each n test = eqb (first_out n test) n

abbrev pub implies : Bool → Bool → Bool
implies a b = not a || b

-- ---- 2: counts

unfoldable pub count : ℕ → ℕ → Reading ℕ
count least most = checked wrong_count (λ c. leb least c && leb c most) byte

-- ---- 3: risers

unfoldable pub carrier : ℕ → List ℕ → Reading ℕ
carrier k done = checked wrong_carrier (λ c. after ltb done c && ltb c k) byte

unfoldable pub riser : ℕ → List (List ℕ) → Reading (List ℕ)
riser k done = do
  d ← count 1 k
  many (carrier k) d []

-- ---- 4, 5: rules; `listed r c` says that c is in riser r's list

-- the rule's two risers, and the pairs that it allows them
pub record Rule : Type 0 where
  pub risers : Pair
  pub pairs : List Pair

unfoldable pub allowed_pair : (ℕ → Bool) → (ℕ → Bool) → List Pair → Reading Pair
allowed_pair inLeft inRight done = checked wrong_pair (λ x. (inLeft x.left && inRight x.right) && after before done x) two

-- a rule whose two risers pass the test `follows`
unfoldable pub rule_that : ℕ → (ℕ → ℕ → Bool) → (Pair → Bool) → Reading Rule
rule_that n listed follows = do
  ab ← checked wrong_rule (λ x. (ltb x.left x.right && ltb x.right n) && follows x) two
  m ← count 0 most_pairs
  ps ← many (allowed_pair (listed ab.left) (listed ab.right)) m []
  yields (record { risers = ab; pairs = ps })

abbrev pub rule : ℕ → (ℕ → ℕ → Bool) → List Rule → Reading Rule
rule n listed done = rule_that n listed (after before (map (λ (x : Rule). x.risers) done))

-- ---- 6, 7, 8: swaps; `allows q u v` says that rule q allows the pair (u, v)

-- each entry is below k and none of those before it
unfoldable pub all_new : ℕ → List ℕ → List ℕ → Bool
all_new k done [] = true
all_new k done (c ∷ l) = (ltb c k && not (is_in c done)) && all_new k (done ++ (c ∷ [])) l

-- g takes c, if it is in the list, into the list
unfoldable pub keeps_carrier : (ℕ → Bool) → List ℕ → ℕ → Bool
keeps_carrier list g c = implies (list c) (list (at g c))

abbrev pub keeps_list : ℕ → (ℕ → Bool) → List ℕ → Bool
keeps_list k list g = each k (keeps_carrier list g)

abbrev pub keeps_lists : ℕ → ℕ → (ℕ → ℕ → Bool) → List ℕ → Bool
keeps_lists k n listed g = each n (λ r. keeps_list k (listed r) g)

-- g takes (u, v), if it is allowed, to an allowed pair
unfoldable pub keeps_pair : (ℕ → ℕ → Bool) → List ℕ → ℕ → ℕ → Bool
keeps_pair pairs g u v = implies (pairs u v) (pairs (at g u) (at g v))

abbrev pub keeps_rule : ℕ → (ℕ → ℕ → Bool) → List ℕ → Bool
keeps_rule k pairs g = each k (λ u. each k (keeps_pair pairs g u))

abbrev pub keeps_rules : ℕ → ℕ → (ℕ → ℕ → ℕ → Bool) → List ℕ → Bool
keeps_rules k m allows g = each m (λ q. keeps_rule k (allows q) g)

unfoldable pub swap : ℕ → ℕ → ℕ → (ℕ → ℕ → Bool) → (ℕ → ℕ → ℕ → Bool) → List (List ℕ) → Reading (List ℕ)
swap k n m listed allows done = checked rule_not_kept (keeps_rules k m allows) (checked list_not_kept (keeps_lists k n listed) (checked no_permutation (all_new k []) (field k)))

-- ---- 9, and the whole

unfoldable pub nothing_more : Reading Unit
nothing_more s p = cond (eqb p (length s)) (got tt p) (refused (fault bytes_follow p))

-- the carriers are 0 to `carriers` − 1; the lists are those of the risers, in order
pub record Sheet : Type 0 where
  pub carriers : ℕ
  pub lists : List (List ℕ)
  pub rules : List Rule
  pub swaps : List (List ℕ)

-- carrier c is in riser r's list
abbrev pub is_listed_in : List (List ℕ) → ℕ → ℕ → Bool
is_listed_in lists r c = is_in c (get_or lists r [])

abbrev pub no_rule : Rule
no_rule = record { risers = record { left = 0; right = 0 }; pairs = [] }

-- rule q allows the pair (u, v)
abbrev pub allowed_by : List Rule → ℕ → ℕ → ℕ → Bool
allowed_by rules q u v = is_pair_in u v (get_or rules q no_rule).pairs

unfoldable pub job_sheet : Reading Sheet
job_sheet = do
  k ← count 1 most_carriers
  n ← count 1 most_risers
  lists ← many (riser k) n []
  m ← count 0 most_rules
  rules ← many (rule n (is_listed_in lists)) m []
  c ← count 0 most_swaps
  swaps ← many (swap k n m (is_listed_in lists) (allowed_by rules)) c []
  _ ← nothing_more
  yields (record { carriers = k; lists = lists; rules = rules; swaps = swaps })

-- ---- accepted, refused

pub record Accepted (s : List ℕ) (X : Sheet) : Type 0 where
  pub end : ℕ
  pub read : job_sheet s 0 ≡ got X end

pub record Refused (s : List ℕ) (f : Fault) : Type 0 where
  pub read : job_sheet s 0 ≡ refused f
