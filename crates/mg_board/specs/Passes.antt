-- What contracts say of boards and passes.
use Rattle.std.specs.Prelude.{◌≡◌, ◌≢◌, ℕ, zero, suc, ◌+◌, ◌<◌, ◌++◌, List, [], ◌∷◌, Option, IfSome}
use Rattle.std.specs.List.{AllByRecursion}
use Rattle.atomic_table.specs.Seated.{TableId}
use Rattle.mg_core.specs.declared.entries.Entry.{Entry}
use Rattle.mg_core.specs.declared.entries.Committed.{Committed}
use Rattle.mg_core.specs.declared.entries.Committed.TheVariants.{Kept, Dropped}
use Rattle.mg_core.specs.Book.{bare, Commits}
use Rattle.mg_board.specs.declared.board.Receipt.{Receipt}
use Rattle.mg_board.specs.History.{stamps_of, IsAmong, Reaches, longer}
use mathlib.Core.List.{IsPrefix}

-- a board: which one it is, the log that it was opened with, and how many passes it gave
pub record BoardState (X : Type 0) : Type 0 where
  pub board : TableId
  pub opening : List X
  pub passes : ℕ

abbrev pub opened_as : {X : Type 0} → TableId → List X → ℕ → BoardState X
opened_as board opening passes = record { board = board; opening = opening; passes = passes }

-- a pass: its board, the log that this was opened with, its number, the numbers that it stands for, and the log that
-- it has seen
pub record PassState (X : Type 0) : Type 0 where
  pub board : TableId
  pub opening : List X
  pub number : ℕ
  pub numbers : List ℕ
  pub seen : List X

-- a stamp is an entry, and its number is that of the entry's pass
abbrev pub pass_of : {R : Type 0} → Entry R → ℕ
pass_of entry = entry.pass

-- so many passes with the numbers from this one on: each stands for its own number alone and has seen the opening log
abbrev pub dealt : {X : Type 0} → BoardState X → ℕ → ℕ → List (PassState X)
dealt shown n zero = []
dealt shown n (suc k) = (record { board = shown.board; opening = shown.opening; number = n; numbers = n ∷ []; seen = shown.opening }) ∷ dealt shown (n + 1) k

-- a pass of this board with this number, which stands for it alone
pub record IsAlone {X : Type 0} (shown : BoardState X) (n : ℕ) (pass : PassState X) : Type 0 where
  pub board : pass.board ≡ shown.board
  pub number : pass.number ≡ n
  pub numbers : pass.numbers ≡ n ∷ []

-- the pass has seen a log that begins with what it had seen; the own list of its number is longer by these stamps, and
-- the own lists of the other numbers that it stands for are as they were
pub record SeesMore {X : Type 0} (by : X → ℕ) (old new : PassState X) (made : List X) : Type 0 where
  pub same : new ≡ record old { seen = new.seen }
  pub begins : IsPrefix old.seen new.seen
  pub own : stamps_of by old.number new.seen ≡ stamps_of by old.number old.seen ++ made
  pub others : (n : ℕ) → IsAmong n old.numbers → n ≢ old.number → stamps_of by n new.seen ≡ stamps_of by n old.seen

-- the stamp that a commit leaves
abbrev pub stamp_of : {R : Type 0} → Entry R → Committed → Entry R
stamp_of entry (Kept place) = entry
stamp_of entry (Dropped place by) = bare entry

-- the place that a commit answers
abbrev pub place_of : Committed → ℕ
place_of (Kept place) = place
place_of (Dropped place by) = place

-- those of these records that settle something settle the key
abbrev pub AreOfKey : {R K : Type 0} → (R → Option K) → K → List R → Type 0
AreOfKey settles key records = AllByRecursion (λ r. IfSome (settles r) (λ k. k ≡ key)) records

-- there is a log that the pass reaches from what it had seen, at which a book of one thread answers so, and the pass has
-- then seen what this book has
pub record CommitsAt {R K : Type 0} (settles : R → Option K) (key : K) (entry : Entry R) (old new : PassState (Entry R)) (receipt : Receipt) : Type 0 where
  pub log : List (Entry R)
  pub reached : Reaches pass_of old.numbers old.seen log
  pub answered : Commits settles key log entry new.seen receipt.committed

-- the own list of the pass's number is longer by the stamp that the receipt is for, and no other one changes
abbrev pub Stamps : {R : Type 0} → Entry R → PassState (Entry R) → PassState (Entry R) → Receipt → Type 0
Stamps entry old new receipt = SeesMore pass_of old new (stamp_of entry receipt.committed ∷ [])

-- the first of two passes once the second has met it
abbrev pub met : {X : Type 0} → PassState X → PassState X → PassState X
met a b = record a { numbers = a.numbers ++ b.numbers; seen = longer a.seen b.seen }

-- the pass stands for each number that the board gave
abbrev pub StandsForAll : {X : Type 0} → BoardState X → PassState X → Type 0
StandsForAll shown pass = (n : ℕ) → n < shown.passes → IsAmong n pass.numbers

-- the log of a board that was closed with this pass: it begins with what the pass has seen, and what it has of the pass's
-- numbers is the pass's own; each stamp behind the opening log has a number that the board gave
pub record Closes {X : Type 0} (by : X → ℕ) (shown : BoardState X) (pass : PassState X) (log : List X) : Type 0 where
  pub seen : Reaches by pass.numbers pass.seen log
  pub after : List X
  pub begins : log ≡ shown.opening ++ after
  pub numbered : AllByRecursion (λ stamp. by stamp < shown.passes) after
