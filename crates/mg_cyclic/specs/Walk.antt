-- The walk of a search through maps: where it stands, and which numbers it has passed.
use Rattle.std.specs.Prelude.{◌≡◌, ◌≢◌, ℕ, ℤ, ◌+◌, ◌-◌, ◌^◌, ◌<◌, ◌≤◌, List, [], length, drop, replicate, slice_index_or}
use Rattle.std.specs.List.{AllByRecursion}
use Rattle.mg_numbers.specs.Blocks.{number_in}
use Rattle.mg_numbers.specs.Residues.{ResidueTuple, IsResidueTuple, residue_tuples_below}
use Rattle.mg_numbers.specs.declared.blocks.TheConstants.{MOST_NUMBER}
use Rattle.mg_numbers.specs.Plain.{NoneAmong}
use Rattle.mg_present.specs.Ask.{Inquiry, IsAsked}
use Rattle.mg_cyclic.specs.declared.walk.Walk.{Walk}
use Rattle.mg_cyclic.specs.Map.{residue_of_word}
use Rattle.mg_cyclic.specs.Number.{RefutedAt}
use Rattle.mg_cyclic.specs.Exponents.{DependsOnFirst, VanishesWith}
use Rattle.mg_cyclic.specs.Kept.{Keep}

-- one of the words depends on so many of the first residues alone, and doesn't sum to 0
pub record Breaks (words : List (List ℤ)) (level : ℕ) (map : ResidueTuple) : Type 0 where
  pub place : ℕ
  pub there : place < length words
  pub depends : DependsOnFirst (length map.residues) level (slice_index_or words place [])
  pub remains : residue_of_word map (slice_index_or words place []) ≢ 0

-- what a walk is made with
pub record IsEquipped (ask : Inquiry) (walk : Walk) : Type 0 where
  pub asked : IsAsked ask
  pub some : 1 ≤ ask.group.generators
  pub content : AllByRecursion (VanishesWith ask.group.generators walk.content) ask.goals

-- the walk looks at the maps of its modulus whose first residues, as many as its level, are those of its map; its map is
-- the first of them
pub record IsStanding (walk : Walk) : Type 0 where
  pub map : IsResidueTuple (length walk.map.residues) walk.map
  pub level : walk.level ≤ length walk.map.residues
  pub zeros : drop walk.level walk.map.residues ≡ replicate (length walk.map.residues - walk.level) 0

-- it stands so, is made for the Ask, and keeps the sums of relators and subgroup words at its map
pub record IsPlace (ask : Inquiry) (walk : Walk) : Type 0 where
  pub equipped : IsEquipped ask walk
  pub count : length walk.map.residues ≡ ask.group.generators
  pub standing : IsStanding walk
  pub relators : Keep ask.group.relators walk.map walk.relators.items
  pub members : Keep ask.subgroup walk.map walk.members.items

-- how many maps come before that map
abbrev pub first_at : Walk → ℕ
first_at walk = residue_tuples_below (length walk.map.residues) walk.map.modulus + number_in walk.map.modulus walk.map.residues

-- how many maps the walk looks at
abbrev pub stretch_at : Walk → ℕ
stretch_at walk = walk.map.modulus ^ (length walk.map.residues - walk.level)

-- none of them refutes a goal
abbrev pub NoneHere : Inquiry → Walk → Type 0
NoneHere ask walk = NoneAmong (RefutedAt ask) (first_at walk) (first_at walk + stretch_at walk)

-- what a walk keeps true while it goes on: no map with a number before `next` refutes a goal, and `next` is that of the
-- walk's map, or so great that it is never reached
pub record IsWalk (ask : Inquiry) (walk : Walk) : Type 0 where
  pub place : IsPlace ask walk
  pub some : 1 ≤ walk.next
  pub none : NoneAmong (RefutedAt ask) 0 (walk.next - 1)
  pub number : walk.next ≤ MOST_NUMBER → walk.next ≡ first_at walk + 1
