-- How the checker reads a text once, from the front. Private functions alone cite it; what is accepted is
-- said without it.
use Rattle.std.specs.Prelude.{◌≡◌, ℕ, ◌+◌, ◌<◌, Bool, true, false, ℤ, List, [], ◌∷◌, ◌++◌, length, drop, slice_index_or}
use Rattle.mg_words.specs.Reduction.{free_form}
use Rattle.mg_present.specs.Ask.{Inquiry}
use Rattle.mg_derive.specs.declared.symbol.Symbol.{Symbol}
use Rattle.mg_derive.specs.declared.symbol.Symbol.TheVariants.{Letter, Relator, Member, Cut}
use Rattle.mg_derive.specs.Symbols.{IsSymbolOf, word_of, letter_of}

-- what the symbols of a text do one after another: the goals that are left, whether a member sign was seen
-- in the part, and the reduced words of the part's letters and of the part written out
abbrev pub Goes : Inquiry → Symbol → List (List ℤ) → Bool → List ℤ → List ℤ → (List (List ℤ) → Bool → List ℤ → List ℤ → Type 0) → Type 0
Goes ask (Letter x) goals members letters written Rest = (members ≡ false) × Rest goals false (free_form (letters ++ x ∷ [])) (free_form (written ++ x ∷ []))
Goes ask (Relator place inverse) goals members letters written Rest = (members ≡ false) × Rest goals false letters (free_form (written ++ word_of ask (Relator place inverse)))
Goes ask (Member place inverse) goals members letters written Rest = Rest goals true letters (free_form (written ++ word_of ask (Member place inverse)))
Goes ask Cut goals members letters written Rest = (goals ≡ written ∷ drop 1 goals) × (letters ≡ []) × Rest (drop 1 goals) false [] []

abbrev pub Runs : Inquiry → List Symbol → List (List ℤ) → Bool → List ℤ → List ℤ → Type 0
Runs ask [] goals members letters written = goals ≡ []
Runs ask (symbol ∷ text) goals members letters written = (0 < length goals) × IsSymbolOf ask symbol × Goes ask symbol goals members letters written (Runs ask text)

-- where a reader of a text stands: how many goals are done, whether a member sign was seen in the part, and the
-- reduced words of the part's letters and of the part written out
pub record Standing : Type 0 where
  pub goal : ℕ
  pub members : Bool
  pub letters : List ℤ
  pub written : List ℤ

-- where the reader of a text begins
abbrev pub at_first : Standing
at_first = record { goal = 0; members = false; letters = []; written = [] }

-- a text may go on with this symbol
abbrev pub Allows : Inquiry → Symbol → Standing → Type 0
Allows ask (Letter x) at = at.members ≡ false
Allows ask (Relator place inverse) at = at.members ≡ false
Allows ask (Member place inverse) at = Unit {0}
Allows ask Cut at = (at.letters ≡ []) × (at.written ≡ slice_index_or ask.goals at.goal [])

abbrev pub goal_after : Symbol → ℕ → ℕ
goal_after (Letter x) goal = goal
goal_after (Relator place inverse) goal = goal
goal_after (Member place inverse) goal = goal
goal_after Cut goal = goal + 1

abbrev pub is_member : Symbol → Bool
is_member (Letter x) = false
is_member (Relator place inverse) = false
is_member (Member place inverse) = true
is_member Cut = false

-- the part written out, with one more symbol, where the cut begins the next part
abbrev pub written_after : Inquiry → Symbol → List ℤ → List ℤ
written_after ask (Letter x) written = free_form (written ++ x ∷ [])
written_after ask (Relator place inverse) written = free_form (written ++ word_of ask (Relator place inverse))
written_after ask (Member place inverse) written = free_form (written ++ word_of ask (Member place inverse))
written_after ask Cut written = []

-- a symbol leads a reader from one standing to the next
pub record Takes (ask : Inquiry) (symbol : Symbol) (before after : Standing) : Type 0 where
  pub some : before.goal < length ask.goals
  pub is_symbol : IsSymbolOf ask symbol
  pub allowed : Allows ask symbol before
  pub goal : after.goal ≡ goal_after symbol before.goal
  pub members : after.members ≡ is_member symbol
  pub letters : after.letters ≡ free_form (before.letters ++ letter_of symbol)
  pub written : after.written ≡ written_after ask symbol before.written

-- the symbols of a text lead a reader from one standing to another
abbrev pub Leads : Inquiry → List Symbol → Standing → Standing → Type 0
Leads ask [] before after = before ≡ after
Leads ask (symbol ∷ text) before after = (between : Standing) × Takes ask symbol before between × Leads ask text between after

-- whether the last symbol of a text is a member sign
abbrev pub ends_in_member : List Symbol → Bool
ends_in_member [] = false
ends_in_member (symbol ∷ []) = is_member symbol
ends_in_member (symbol ∷ other ∷ text) = ends_in_member (other ∷ text)
