-- Where clap takes the words behind `sample` they are one text and a flag, each at most once.
use Rattle.std.proofs.Common.{◌≡◌, ◌⊎◌, inl, inr, ◌||◌, ℕ, Bool, true, false, List, [], ◌∷◌, Option, Some, None, cond, refl, sym, ap, subst, ◌∙◌, codes, true≢false}
use Rattle.std.specs.Str.{bytes_eq}
use Rattle.std.proofs.lemmas.Slice.Eq.{bytes_eq-Decides}
use Rattle.clap.specs.Lexer.{long_of}
use Rattle.clap.specs.Walk.{Rule, Row, Held, Walk, Step, Text, idle, arg_by_long, arg_by_short, after_step, after_flag, long_met, plain_word, reading_by, walked}
use Rattle.clap.specs.Simple.{Shape, built, filled, new_rule}
use Rattle.clap.specs.Kinds.{Kinds}
use Rattle.clap.specs.Faults.{flag_word_fault, long_fault, step_fault, turn_fault}
use Rattle.clap.specs.declared.error.kind.ErrorKind.{ErrorKind}
use Rattle.clap.specs.declared.parser.matches.ValueSource.TheVariants.{CommandLine}
use Rattle.mg_command.specs.Reading.{sample_app, flag_rule}
use Rattle.mg_command.proofs.Lexed.{whole, dashes, named, other, form}
use Rattle.mg_command.proofs.Turns.{first_none, second_none, holding, standing, fault_as, turn_is, walked_is, plain_is}

abbrev pub S : Shape
S = (built sample_app).top

abbrev pub run_rule : Rule
run_rule = filled (flag_rule (codes "run"))

abbrev pub number_row : Text → Row
number_row v = record { id = codes "number"; values = v ∷ []; count = None; source = Some CommandLine; reading = reading_by (filled (new_rule (codes "number"))) }

abbrev pub run_row : Row
run_row = record { id = codes "run"; values = codes "true" ∷ []; count = None; source = Some CommandLine; reading = reading_by run_rule }

-- what was given so far, in its order
pub data Given : Type 0 where
  none : Given
  number : Text → Given
  flag : Given
  number_first : Text → Given
  flag_first : Text → Given

abbrev pub pending_number : Text → Option (Text × List Text)
pending_number v = Some (codes "number", v ∷ [])

abbrev pub at : Given → Walk
at none = standing 1 idle (holding [] None)
at (number v) = standing 2 idle (holding [] (pending_number v))
at flag = standing 1 idle (holding (run_row ∷ []) None)
at (number_first v) = standing 2 idle (holding (number_row v ∷ run_row ∷ []) None)
at (flag_first v) = standing 2 idle (holding (run_row ∷ []) (pending_number v))

abbrev pub with_number : Given → Text → Option Given
with_number none v = Some (number v)
with_number flag v = Some (flag_first v)
with_number _ v = None

abbrev pub with_flag : Given → Option Given
with_flag none = Some flag
with_flag (number v) = Some (number_first v)
with_flag _ = None

-- a word more
pub data More (g : Given) (word : Text) (m : Given) : Type 0 where
  is_number : with_number g word ≡ Some m → More g word m
  is_flag : word ≡ codes "--run" → with_flag g ≡ Some m → More g word m

abbrev pub Turn : Given → Text → Type 0
Turn g word = (m : Given) × More g word m × (walked S.rules [] (at g) word ≡ at m)

refuses : (k : ErrorKind) (ks : Kinds) → k ∷ ks ≡ [] → ⊥
refuses k ks e = cc e

abbrev IsRun : Text → Type 0
IsRun name = (name ≡ codes "run") × (arg_by_long S.rules name ≡ Some run_rule)

find_long : (name : Text) → IsRun name ⊎ (arg_by_long S.rules name ≡ None)
find_long name = go (bytes_eq (codes "run") name) refl
  where
    found : Bool → Option Rule
    found b = cond (b || false) (Some run_rule) None

    is_found : (b : Bool) → bytes_eq (codes "run") name ≡ b → arg_by_long S.rules name ≡ found b
    is_found b e = λ i. found (e i)

    go : (b : Bool) → bytes_eq (codes "run") name ≡ b → IsRun name ⊎ (arg_by_long S.rules name ≡ None)
    go true e = inl (sym ((bytes_eq-Decides (codes "run") name).0 e), is_found true e)
    go false e = inr (is_found false e)

no_short : (x : ℕ) → arg_by_short S.rules x ≡ None
no_short x = refl

-- a long option
abbrev after : Given → Text → Option Rule → Option Text → Walk
after g word a v = after_step S.rules word (at g) (after_flag S.rules idle word (long_met S.rules a v (at g).held).0 (long_met S.rules a v (at g).held).1).0 (after_flag S.rules idle word (long_met S.rules a v (at g).held).0 (long_met S.rules a v (at g).held).1).1

flag_turn : (g : Given) (word : Text) → word ≡ codes "--run" → long_fault S.rules false (Some run_rule) None (at g).held ≡ [] → walked S.rules [] (at g) word ≡ after g word (Some run_rule) None → Turn g word
flag_turn none word is passed step = (flag, is_flag is refl, step)
flag_turn (number v) word is passed step = (number_first v, is_flag is refl, step)
flag_turn flag word is passed step = absurd (refuses _ _ passed)
flag_turn (number_first v) word is passed step = absurd (refuses _ _ passed)
flag_turn (flag_first v) word is passed step = absurd (refuses _ _ passed)

run_turn : (g : Given) (word : Text) (v : Option Text) → word ≡ 45 ∷ 45 ∷ whole (codes "run") v → long_fault S.rules false (Some run_rule) v (at g).held ≡ [] → walked S.rules [] (at g) word ≡ after g word (Some run_rule) v → Turn g word
run_turn g word None is passed step = flag_turn g word is passed step
run_turn g word (Some v) is passed step = absurd (refuses _ _ passed)

named_turn : (g : Given) (word name : Text) (v : Option Text) → word ≡ 45 ∷ 45 ∷ whole name v → long_fault S.rules false (arg_by_long S.rules name) v (at g).held ≡ [] → walked S.rules [] (at g) word ≡ after g word (arg_by_long S.rules name) v → Turn g word
named_turn g word name v is passed step = elim (find_long name) [
  | inl found ↦ run_turn g word v (is ∙ ap (λ (t : Text). 45 ∷ 45 ∷ whole t v) found.0)
      (subst (λ (a : Option Rule). long_fault S.rules false a v (at g).held ≡ []) found.1 passed) (step ∙ ap (λ (a : Option Rule). after g word a v) found.1)
  | inr unknown ↦ absurd (refuses _ _ (subst (λ (a : Option Rule). long_fault S.rules false a v (at g).held ≡ []) unknown passed))
]

-- a word that is no long option
plain_turn : (g : Given) (word : Text) → step_fault S (at g).position (plain_word S.rules idle word (at g).held).0 (plain_word S.rules idle word (at g).held).1 ≡ []
    → walked S.rules [] (at g) word ≡ after_step S.rules word (at g) (plain_word S.rules idle word (at g).held).0 (plain_word S.rules idle word (at g).held).1 → Turn g word
plain_turn none word passed step = (number word, is_number refl, step)
plain_turn flag word passed step = (flag_first word, is_number refl, step)
plain_turn (number v) word passed step = absurd (refuses _ _ passed)
plain_turn (number_first v) word passed step = absurd (refuses _ _ passed)
plain_turn (flag_first v) word passed step = absurd (refuses _ _ passed)

-- where the walk stands, without the cases of what was given
module _ (g : Given) (position : ℕ) (rows : List Row) (pending : Option (Text × List Text)) (place : at g ≡ standing position idle (holding rows pending)) where
  abbrev w : Walk
  w = standing position idle (holding rows pending)

  named_at : (word name : Text) (v : Option Text) → bytes_eq word (codes "--") ≡ false → turn_fault S [] w word ≡ [] → long_of word ≡ Some (name, v) → word ≡ 45 ∷ 45 ∷ whole name v → Turn g word
  named_at word name v plain passed form is = named_turn g word name v is
      (subst (λ (x : Walk). long_fault S.rules false (arg_by_long S.rules name) v x.held ≡ []) (sym place) (first_none _ _ (sym (turn_is S position idle word (Some (name, v)) (holding rows pending) plain form) ∙ passed)))
      (subst (λ (x : Walk). walked S.rules [] x word ≡ after_step S.rules word x (after_flag S.rules idle word (long_met S.rules (arg_by_long S.rules name) v x.held).0 (long_met S.rules (arg_by_long S.rules name) v x.held).1).0 (after_flag S.rules idle word (long_met S.rules (arg_by_long S.rules name) v x.held).0 (long_met S.rules (arg_by_long S.rules name) v x.held).1).1) (sym place)
      (walked_is S position idle word (Some (name, v)) (holding rows pending) plain form))

  other_at : (word : Text) → bytes_eq word (codes "--") ≡ false → turn_fault S [] w word ≡ [] → long_of word ≡ None → Turn g word
  other_at word plain passed form =
      let met : fault_as S position idle word None (holding rows pending) ≡ [] = sym (turn_is S position idle word None (holding rows pending) plain form) ∙ passed in
      let is_plain = plain_is S no_short idle word rows pending (first_none _ _ met) in
      plain_turn g word
      (subst (λ (x : Walk). step_fault S x.position (plain_word S.rules idle word x.held).0 (plain_word S.rules idle word x.held).1 ≡ []) (sym place)
      (subst (λ (p : Held × Step). step_fault S position p.0 p.1 ≡ []) is_plain (second_none (flag_word_fault S.rules false None word (holding rows pending)) _ met)))
      (subst (λ (x : Walk). walked S.rules [] x word ≡ after_step S.rules word x (plain_word S.rules idle word x.held).0 (plain_word S.rules idle word x.held).1) (sym place)
      (walked_is S position idle word None (holding rows pending) plain form ∙ ap (λ (p : Held × Step). after_step S.rules word w p.0 p.1) is_plain))

  turn_at : (word : Text) → bytes_eq word (codes "--") ≡ false → turn_fault S [] w word ≡ [] → Turn g word
  turn_at word plain passed = elim (form word) [
    | dashes is ↦ absurd (true≢false (ap (λ (t : Text). bytes_eq t (codes "--")) (sym is) ∙ plain))
    | named name v form is ↦ named_at word name v plain passed form is
    | other form ↦ other_at word plain passed form
  ]

pub turn : (g : Given) (word : Text) → bytes_eq word (codes "--") ≡ false → turn_fault S [] (at g) word ≡ [] → Turn g word
turn none word plain passed = turn_at none 1 [] None refl word plain passed
turn (number v) word plain passed = turn_at (number v) 2 [] (pending_number v) refl word plain passed
turn flag word plain passed = turn_at flag 1 (run_row ∷ []) None refl word plain passed
turn (number_first v) word plain passed = turn_at (number_first v) 2 (number_row v ∷ run_row ∷ []) None refl word plain passed
turn (flag_first v) word plain passed = turn_at (flag_first v) 2 (run_row ∷ []) (pending_number v) refl word plain passed
