-- What a seat at the board's table knows and holds, and what each kind of step tells it.
use Rattle.std.specs.Prelude.{◌≡◌, ◌≢◌, ℕ, zero, suc, ◌+◌, List, [], ◌∷◌, ◌++◌, length, Option, Some, None, nat_lt, if◌then◌else◌}
use Rattle.atomic_table.specs.Table.{Me, Step}
use Rattle.atomic_table.specs.Seated.{TableId}
use Rattle.mg_core.specs.declared.entries.Entry.{Entry}
use Rattle.mg_board.specs.declared.board.Receipt.{Receipt}
use Rattle.mg_core.specs.Book.{Commits}
use Rattle.mg_board.specs.declared.view.View.{View}
use Rattle.mg_board.specs.History.{IsAmong, Reaches, longer}
use Rattle.mg_board.specs.Passes.{PassState}

-- a seat's view, and what it holds of the one slot
abbrev pub Seated : Type 0 → Type 0
Seated X = Me (Option (List X)) (View X)

-- a pass by its seat's view
abbrev pub state_of : {X : Type 0} → TableId → View X → PassState X
state_of board v = record { board = board; opening = v.opening; number = v.number; numbers = v.numbers; seen = v.seen }

-- a seat that has nothing in hand
abbrev pub IsFree : {X : Type 0} → Seated X → Type 0
IsFree me = (me.1 ≡ []) × (me.0.hand ≡ None)

-- a seat between two calls, which stands for its number at least
pub record IsResting {X : Type 0} (me : Seated X) : Type 0 where
  pub free : IsFree me
  pub live : IsAmong me.0.number me.0.numbers

-- a seat that has the turn, and the book in its slot
pub record HasTurn {X : Type 0} (me : Seated X) (log : List X) : Type 0 where
  pub hand : me.0.hand ≡ Some log
  pub slot : me.1 ≡ (0, Some log) ∷ []

-- a log that goes on from what the seat has seen, with no more stamps of its numbers
abbrev pub Reached : {X : Type 0} → (X → ℕ) → Seated X → List X → Type 0
Reached by me log = Reaches by me.0.numbers me.0.seen log

-- so many numbers from this one on
abbrev pub numbers_from : ℕ → ℕ → List ℕ
numbers_from n zero = []
numbers_from n (suc k) = n ∷ numbers_from (n + 1) k

-- the view of a seat that stands for so many numbers from this one on and has seen the opening log
abbrev pub newcomer : {X : Type 0} → List X → ℕ → ℕ → View X
newcomer opening n k = record { number = n; numbers = numbers_from n k; opening = opening; seen = opening; told = []; told_of = []; hand = None }

-- the turn is won: the history goes on from what was seen, and the book is in hand
abbrev pub Wins : {X : Type 0} → (X → ℕ) → Seated X → Seated X → Type 0
Wins {X} by me after = (log : List X) × Reached by me log × (after ≡ (record (me.0) { hand = Some log }, (0, Some log) ∷ []))

-- try the turn: it is won exactly where it is found at 0
abbrev pub tried : {X : Type 0} → (X → ℕ) → Step (Option (List X)) → Seated X → ℕ → Seated X → Type 0
tried by st me found after = (found ≡ 0 → Wins by me after) × (found ≢ 0 → after ≡ me)

-- the whole history is seen
abbrev pub sees : {X : Type 0} → List X → Seated X → Seated X
sees log me = (record (me.0) { seen = log }, me.1)

-- with the turn, the whole history is then seen
abbrev pub SeesAll : {X : Type 0} → Seated X → Seated X → Type 0
SeesAll {X} me after = (log : List X) → HasTurn me log → after ≡ sees log me

-- load the count, with the turn
abbrev pub looked : {X : Type 0} → Step (Option (List X)) → Seated X → ℕ → Seated X → Type 0
looked {X} st me found after = (log : List X) → me.0.hand ≡ Some log → (after ≡ sees log me) × (found ≡ length log)

-- a seat that has the turn, and in its slot a book with one stamp more than the history, which has its number
abbrev pub HasMore : {X : Type 0} → (X → ℕ) → Seated X → ℕ → Type 0
HasMore {X} by me count =
    (log : List X) × (stamp : X) × (me.0.hand ≡ Some log) × (me.1 ≡ (0, Some (log ++ stamp ∷ [])) ∷ [])
    × (by stamp ≡ me.0.number) × (count ≡ length (log ++ stamp ∷ []))

-- the history goes on to this one, which is seen
abbrev pub advances : {X : Type 0} → List X → Seated X → Seated X
advances new me = (record (me.0) { seen = new; told_of = []; hand = Some new }, (0, Some new) ∷ [])

-- the history goes on to what the book in the slot has
abbrev pub GoesOn : {X : Type 0} → Seated X → Seated X → Type 0
GoesOn {X} me after = (new : List X) → me.1 ≡ (0, Some new) ∷ [] → after ≡ advances new me

-- advance the count, by the stamp that the book in hand has more
abbrev pub advanced : {X : Type 0} → Step (Option (List X)) → Seated X → ℕ → Seated X → Type 0
advanced st me found after = GoesOn me after

-- a commit with the turn, from the log in hand to a new one
abbrev pub CommitsInTurn : {R K : Type 0} → (R → Option K) → K → Entry R → Seated (Entry R) → Seated (Entry R) → Receipt → Type 0
CommitsInTurn {R} settles key entry me after receipt =
    (log new : List (Entry R)) × HasTurn me log × Commits settles key log entry new receipt.committed × (after ≡ advances new me)

-- release the turn: the book goes home with it
abbrev pub released : {X : Type 0} → Step (Option (List X)) → Seated X → ℕ → Seated X → Type 0
released st me found after = after ≡ (record (me.0) { hand = None }, [])

-- split a seat: the new one has the first number, and the old one has the others
abbrev pub alone : {X : Type 0} → View X → View X
alone v = record v { numbers = v.number ∷ []; told_of = [] }

abbrev rest : List ℕ → List ℕ
rest [] = []
rest (n ∷ ns) = ns

abbrev pub others : {X : Type 0} → View X → View X
others v = record v { number = v.number + 1; numbers = rest v.numbers; told_of = [] }

-- join a seat: the longer log is seen, and the shorter one told of, with the numbers of the view that saw it
abbrev pub shorter : {X : Type 0} → List X → List X → List X
shorter xs ys = if nat_lt (length xs) (length ys) then xs else ys

abbrev pub lesser : {X : Type 0} → View X → View X → List ℕ
lesser v w = if nat_lt (length v.seen) (length w.seen) then v.numbers else w.numbers

abbrev pub both : {X : Type 0} → View X → View X → View X
both v w = record v { numbers = v.numbers ++ w.numbers; seen = longer v.seen w.seen; told = shorter v.seen w.seen; told_of = lesser v w }

-- the view that is left of the other seat
abbrev pub spent : {X : Type 0} → View X
spent = record { number = 0; numbers = []; opening = []; seen = []; told = []; told_of = []; hand = None }

-- load the count, after two seats were joined: the log told of begins the one that is seen
abbrev pub learned : {X : Type 0} → (X → ℕ) → Step (Option (List X)) → Seated X → ℕ → Seated X → Type 0
learned by st me found after = Reaches by me.0.told_of me.0.told me.0.seen × (after ≡ (record (me.0) { told = []; told_of = [] }, me.1))

-- the view of a seat that another one was joined to
abbrev pub joined : {X : Type 0} → View X → View X → View X
joined v w = record (both v w) { told = []; told_of = [] }
