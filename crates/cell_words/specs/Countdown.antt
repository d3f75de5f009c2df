-- The countdown board: cell r has the words 5r to 5r+4, a state word and four value words.
use Rattle.std.specs.Prelude.{◌≡◌, ◌⊎◌, ℕ, zero, suc, ◌+◌, ◌*◌, ◌/◌, ◌<◌, ◌≤◌, List, [], ◌∷◌, ◌++◌, length, map, take, slice_index}
use Rattle.std.specs.Prelude.{Option, Some, None, Bool, true, false, not, ◌&&◌, nat_eq, nat_lt, cond, All}
use mathlib.Core.Option.{some}
use lib.ListN.{get_elem?}
use Rattle.atomic_table.specs.Table.{State, Step, Me}
use Rattle.airy_math.specs.declared.Shape.TheVariants.{All as all_shapes}
use Rattle.amp_plan.specs.Plans.{Planning}
use Rattle.amp_plan.specs.Needs.{has, needs_at, dependents_at}
use Rattle.amp_plan.specs.Rows.{AreDistinct}
use Rattle.cell_words.specs.Layout.{cells, outcome_at, code_of, IsPlanned}
use Rattle.cell_words.specs.Words.{IsSized}
use Rattle.cell_words.specs.declared.view.Act.{Act}
use Rattle.cell_words.specs.declared.view.Portion.{Portion}
use Rattle.cell_words.specs.declared.view.View.{View}

abbrev pub CLAIMED : ℕ
CLAIMED = 9223372036854775808

abbrev pub FILLED : ℕ
FILLED = 9223372036854775809

-- the acts of a view, and the act of a rank among them
abbrev pub acts_of : List Portion → List Act
acts_of [] = []
acts_of (p ∷ ps) = p.acts ++ acts_of ps

abbrev pub act_among : ℕ → List Act → Option Act
act_among r [] = None
act_among r (a ∷ as') = cond (nat_eq r a.rank) (Some a) (act_among r as')

-- how many of them are of the rank r
abbrev pub acts_for : ℕ → List Act → ℕ
acts_for r [] = 0
acts_for r (a ∷ as') = cond (nat_eq r a.rank) (suc (acts_for r as')) (acts_for r as')

abbrev pub act_in : View → ℕ → Option Act
act_in v r = act_among r (acts_of v.portions)

abbrev pub numbers_of : List Portion → List ℕ
numbers_of ps = map (λ p. p.number) ps

-- a book of acts: the act of each rank that has one
abbrev pub Book : Type 0
Book = ℕ → Option Act

abbrev pub signed_in : Planning → Option Act → ℕ → ℕ → Bool
signed_in p None q r = false
signed_in p (Some a) q r = a.filled && has r (take a.signed (dependents_at p q))

-- an act of q has signed r
abbrev pub signs : Planning → Book → ℕ → ℕ → Bool
signs p b q r = signed_in p (b q) q r

abbrev pub count_of : (ℕ → Bool) → List ℕ → ℕ
count_of f [] = 0
count_of f (x ∷ xs) = cond (f x) (suc (count_of f xs)) (count_of f xs)

-- the needs of r that haven't signed it
abbrev pub unsigned : Planning → Book → ℕ → ℕ
unsigned p b r = count_of (λ q. not (signs p b q r)) (needs_at p r)

abbrev pub state_of : ℕ → Option Act → ℕ
state_of n None = n
state_of n (Some a) = cond a.filled FILLED CLAIMED

-- the state word of r, where the view has all acts
abbrev pub state_in : Planning → View → ℕ → ℕ
state_in p v r = state_of (unsigned p (act_in v) r) (act_in v r)

abbrev pub written_of : Option Act → ℕ
written_of None = 0
written_of (Some a) = a.written

abbrev pub IsFilled : Option Act → Type 0
IsFilled None = ⊥
IsFilled (Some a) = a.filled ≡ true

-- what is true of the act of r
pub record IsAct (p : Planning) (b : Book) (r : ℕ) (a : Act) : Type 0 where
  pub rank : a.rank ≡ r
  pub needs : (q : ℕ) → has q (needs_at p r) ≡ true → signs p b q r ≡ true
  pub written : a.written ≤ 4
  pub sized : 0 < a.written → IsSized (outcome_at p r)
  pub unsigned_yet : a.filled ≡ false → a.signed ≡ 0
  pub signed : a.signed ≤ length (dependents_at p r)
  pub whole : a.filled ≡ true → a.written ≡ 4

abbrev pub IsActIn : Planning → Book → ℕ → Option Act → Type 0
IsActIn p b r None = Unit {0}
IsActIn p b r (Some a) = IsAct p b r a

-- the words of the cell r
pub record Cell (p : Planning) (words : List ℕ) (b : Book) (r : ℕ) : Type 0 where
  pub state : slice_index words (5 * r) ≡ state_of (unsigned p b r) (b r)
  pub values : (k : ℕ) → k < 4 → slice_index words (5 * r + suc k) ≡ cond (nat_lt k (written_of (b r))) (code_of p r k) 0
  pub act : IsActIn p b r (b r)

-- what is true of the view of a seat: its acts are those of the book that stand in its view
pub record Fits (p : Planning) (seats : ℕ) (b : Book) (owner home : ℕ → ℕ) (id : ℕ) (v : View) : Type 0 where
  pub plan : 0 < v.seats → (v.plan ≡ p) × (v.seats ≡ seats)
  pub acts : (r : ℕ) → act_in v r ≡ cond (nat_eq (owner r) id) (b r) None
  pub numbers : (k : ℕ) → has k (numbers_of v.portions) ≡ nat_lt k seats && nat_eq (home k) id
  pub numbers_once : AreDistinct (numbers_of v.portions)
  pub once : (r : ℕ) → acts_for r (acts_of v.portions) ≤ 1
  pub seen : All (λ r. IsFilled (b r)) v.seen

pub record Lawful (words : List ℕ) (views : List View) : Type 0 where
  pub plan : Planning
  pub seats : ℕ
  pub book : Book
  pub owner : ℕ → ℕ
  pub home : ℕ → ℕ
  pub planned : IsPlanned plan
  pub long : 5 * cells plan ≤ length words
  pub inside : (r : ℕ) → cells plan ≤ r → book r ≡ None
  pub cell : (r : ℕ) → r < cells plan → Cell plan words book r
  pub owned : (r : ℕ) (a : Act) → book r ≡ Some a → owner r < length views
  pub housed : (k : ℕ) → k < seats → home k < length views
  pub each : (id : ℕ) (v : View) → get_elem? views id ≡ some v → Fits plan seats book owner home id v

abbrev pub Keeps : State (Unit {0}) View → Type 0
Keeps s = Lawful s.words s.views

abbrev pub no_plan : Planning
no_plan = record { tensors = record { dim = 0; shape = all_shapes; letter = false; a = []; b = []; c = []; d = [] }; bound = 0 }

-- portions without acts, with n numbers from k on
abbrev pub empty_from : ℕ → ℕ → List Portion
empty_from k zero = []
empty_from k (suc n) = record { number = k; acts = [] } ∷ empty_from (suc k) n

-- the act of a rank that is carried over from another board
abbrev pub carried_act : Planning → ℕ → Act
carried_act p r = record { rank = r; written = 4; filled = true; signed = length (dependents_at p r); freed = [] }

-- all portions: the first with the acts of the carried ranks
abbrev pub first_portions : Planning → ℕ → List ℕ → List Portion
first_portions p zero carried = []
first_portions p (suc n) carried = record { number = 0; acts = map (carried_act p) carried } ∷ empty_from 1 n

-- an empty view
abbrev pub spent : View
spent = record { plan = no_plan; seats = 0; portions = []; seen = []; looks = 0; latest = None }

abbrev pub first_view : Planning → ℕ → List ℕ → View
first_view p seats carried = record spent { plan = p; seats = seats; portions = first_portions p seats carried; seen = carried }

abbrev pub M : Type 0
M = Me (Unit {0}) View

abbrev pub looked : ℕ → ℕ → View → View
looked r n v = record v { seen = cond (nat_eq n FILLED) (v.seen ++ r ∷ []) v.seen; looks = suc v.looks; latest = Some (r, n) }

abbrev pub with_portions : View → List Portion → View
with_portions v ps = record v { portions = ps }

abbrev pub fresh_act : ℕ → Act
fresh_act r = record { rank = r; written = 0; filled = false; signed = 0; freed = [] }

abbrev pub with_fresh : ℕ → List Portion → List Portion
with_fresh r [] = []
with_fresh r (p ∷ ps) = record { number = p.number; acts = p.acts ++ fresh_act r ∷ [] } ∷ ps

abbrev pub claimed : ℕ → View → View
claimed r v = with_portions v (with_fresh r v.portions)

-- the act of r is changed by f
abbrev pub change : ℕ → (Act → Act) → List Act → List Act
change r f as' = map (λ a. cond (nat_eq r a.rank) (f a) a) as'

abbrev pub with_act : ℕ → (Act → Act) → View → View
with_act r f v = with_portions v (map (λ p. record { number = p.number; acts = change r f p.acts }) v.portions)

abbrev pub write_more : Act → Act
write_more a = record a { written = suc a.written }

abbrev pub fill_up : Act → Act
fill_up a = record a { filled = true }

-- the freed ranks, and t where its state word was 1
abbrev pub freed_with : ℕ → ℕ → List ℕ → List ℕ
freed_with n t freed = cond (nat_eq n 1) (freed ++ t ∷ []) freed

abbrev pub sign_one : ℕ → ℕ → Act → Act
sign_one t n a = record a { signed = suc a.signed; freed = freed_with n t a.freed }

abbrev pub sees : ℕ → View → View
sees r v = record v { seen = v.seen ++ r ∷ [] }

-- the rank of the last act of the first portion
abbrev pub last_rank : List Act → ℕ
last_rank [] = 0
last_rank (a ∷ []) = a.rank
last_rank (a ∷ b ∷ as') = last_rank (b ∷ as')

abbrev pub active_in : List Portion → ℕ
active_in [] = 0
active_in (p ∷ ps) = last_rank p.acts

abbrev pub active : View → ℕ
active v = active_in v.portions

-- the seat has claimed r and not yet filled it
abbrev pub Holds : View → ℕ → Type 0
Holds v r = (a : Act) × (act_in v r ≡ Some a) × (a.filled ≡ false)

-- a seat knows what it has seen, the needs of what it holds, and the needs of what it knows
pub data Known (v : View) : ℕ → Type 0 where
  by_sight : (r : ℕ) → has r v.seen ≡ true → Known v r
  by_holding : (r q : ℕ) → Holds v r → has q (needs_at v.plan r) ≡ true → Known v q
  by_need : (r q : ℕ) → Known v r → has q (needs_at v.plan r) ≡ true → Known v q

-- what each step tells: a look, and that a rank which the seat knows is found filled
abbrev pub Looked : Step (Unit {0}) → M → ℕ → M → Type 0
Looked s m n w = (w ≡ (looked (s.word / 5) n m.0, m.1)) × (Known m.0 (s.word / 5) → n ≡ FILLED)

-- the view has the portions of all seat numbers
abbrev pub IsWhole : View → Type 0
IsWhole v = (k : ℕ) → k < v.seats → has k (numbers_of v.portions) ≡ true

-- a state word
abbrev pub IsState : ℕ → Type 0
IsState n = (n < CLAIMED) ⊎ ((n ≡ CLAIMED) ⊎ (n ≡ FILLED))

abbrev pub Claimed : Step (Unit {0}) → M → ℕ → M → Type 0
Claimed s m n w =
    (w ≡ (cond (nat_eq n 0) (claimed (s.word / 5) m.0) (looked (s.word / 5) n m.0), m.1))
    × IsState n
    × (n ≡ 0 → (act_in m.0 (s.word / 5) ≡ None) × (length (acts_of m.0.portions) < cells m.0.plan))
    × (IsWhole m.0 → n ≡ state_in m.0.plan m.0 (s.word / 5))
    × (IsWhole m.0 → (q : ℕ) → Known m.0 q → IsFilled (act_in m.0 q))

abbrev pub Wrote : Step (Unit {0}) → M → ℕ → M → Type 0
Wrote s m n w = w ≡ (with_act (active m.0) write_more m.0, m.1)

abbrev pub Filled : Step (Unit {0}) → M → ℕ → M → Type 0
Filled s m n w = w ≡ (with_act (active m.0) fill_up (sees (active m.0) m.0), m.1)

abbrev pub Signed : Step (Unit {0}) → M → ℕ → M → Type 0
Signed s m n w = (w ≡ (with_act (active m.0) (sign_one (s.word / 5) n) m.0, m.1)) × (0 < n) × (n < CLAIMED)

abbrev pub Read : Step (Unit {0}) → M → ℕ → M → Type 0
Read s m n w = (w ≡ m) × ((r k : ℕ) → s.word ≡ 5 * r + suc k → k < 4 → (n ≡ code_of m.0.plan r k) × IsSized (outcome_at m.0.plan r))

-- one portion moves to a new view
abbrev pub tail_of : List Portion → List Portion
tail_of [] = []
tail_of (p ∷ ps) = ps

abbrev pub head_of : List Portion → List Portion
head_of [] = []
head_of (p ∷ ps) = p ∷ []

abbrev pub left_part : View → View
left_part v = with_portions v (tail_of v.portions)

abbrev pub right_part : View → View
right_part v = record v { portions = head_of v.portions; looks = 0; latest = None }

abbrev pub joined : View → View → View
joined v w = record v { portions = v.portions ++ w.portions; seen = v.seen ++ w.seen }

-- Ranks that are carried over: with a rank all its needs, and the outcome of each is one of the program.
pub record AreCarried (p : Planning) (carried : List ℕ) : Type 0 where
  pub distinct : AreDistinct carried
  pub low : (r : ℕ) → has r carried ≡ true → r < cells p
  pub needs : (r q : ℕ) → has r carried ≡ true → has q (needs_at p r) ≡ true → has q carried ≡ true
  pub sized : (r : ℕ) → has r carried ≡ true → IsSized (outcome_at p r)

-- how many needs of the rank aren't carried
abbrev pub uncarried : Planning → List ℕ → ℕ → ℕ
uncarried p carried r = count_of (λ q. not (has q carried)) (needs_at p r)

-- The words at the start: a carried cell is filled, and the state of any other is the number of its needs that aren't carried.
pub record IsOpening (p : Planning) (carried : List ℕ) (words : List ℕ) : Type 0 where
  pub long : 5 * cells p ≤ length words
  pub filled : (r : ℕ) → r < cells p → has r carried ≡ true → slice_index words (5 * r) ≡ FILLED
  pub states : (r : ℕ) → r < cells p → has r carried ≡ false → slice_index words (5 * r) ≡ uncarried p carried r
  pub values : (r k : ℕ) → r < cells p → k < 4 → slice_index words (5 * r + suc k) ≡ cond (has r carried) (code_of p r k) 0
