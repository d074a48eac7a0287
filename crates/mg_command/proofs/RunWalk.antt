-- Where clap takes the words behind `run` they are options with values, each at most once, and these are its matches.
use Rattle.std.proofs.Common.{◌≡◌, ◌⊎◌, inl, inr, ◌||◌, ℕ, Bool, true, false, List, [], ◌∷◌, ◌++◌, Option, Some, None, cond, refl, sym, ap, subst, ◌∙◌, codes, true≢false}
use Rattle.std.specs.Str.{bytes_eq}
use Rattle.std.proofs.lemmas.Slice.Eq.{bytes_eq-Decides}
use Rattle.clap.specs.Walk.{Rule, Row, Held, Walk, Waiting, idle, option, Step, Text, arg_by_long, arg_by_short, after_step, after_flag, long_met, plain_word, reading_by, settled_rows, used, walked}
use Rattle.clap.specs.Simple.{Shape, built, filled}
use Rattle.clap.specs.Kinds.{Kinds}
use Rattle.clap.specs.Faults.{flag_word_fault, long_fault, settle_fault, step_fault, turn_fault, use_fault}
use Rattle.clap.specs.declared.error.kind.ErrorKind.{ErrorKind}
use Rattle.clap.specs.declared.parser.matches.ValueSource.TheVariants.{CommandLine}
use Rattle.mg_command.specs.Reading.{run_app, option_rule}
use Rattle.mg_command.proofs.Lexed.{whole, dashes, named, other, form}
use Rattle.mg_command.proofs.Turns.{first_none, second_none, holding, standing, fault_as, turn_is, walked_is, plain_is}

abbrev pub S : Shape
S = (built run_app).top

pub data Opt : Type 0 where
  workers : Opt
  policy : Opt

abbrev pub name_of : Opt → Text
name_of workers = codes "workers"
name_of policy = codes "policy"

abbrev pub rule : Opt → Rule
rule o = filled (option_rule (name_of o))

abbrev pub row : Opt → Text → Row
row o v = record { id = name_of o; values = v ∷ []; count = None; source = Some CommandLine; reading = reading_by (rule o) }

-- what was given so far, in its order
pub data Kept : Type 0 where
  none : Kept
  one : Opt → Text → Kept
  first_workers : Text → Text → Kept
  first_policy : Text → Text → Kept

abbrev pub rows : Kept → List Row
rows none = []
rows (one o v) = row o v ∷ []
rows (first_workers v u) = row workers v ∷ row policy u ∷ []
rows (first_policy u v) = row policy u ∷ row workers v ∷ []

abbrev pub add : Kept → Opt → Text → Option Kept
add none o v = Some (one o v)
add (one workers v) policy u = Some (first_workers v u)
add (one policy u) workers v = Some (first_policy u v)
add _ o v = None

refuses : (k : ErrorKind) (ks : Kinds) → k ∷ ks ≡ [] → ⊥
refuses k ks e = cc e

abbrev Added : Kept → Opt → Text → Type 0
Added k o v = (m : Kept) × (add k o v ≡ Some m) × (used (rule o) (v ∷ []) (rows k) ≡ rows m)

use_of : (k : Kept) (o : Opt) (v : Text) → use_fault false (rule o) (v ∷ []) (rows k) ≡ [] → Added k o v
use_of none workers v e = (one workers v, refl, refl)
use_of none policy v e = (one policy v, refl, refl)
use_of (one workers a) policy v e = (first_workers a v, refl, refl)
use_of (one policy a) workers v e = (first_policy a v, refl, refl)
use_of (one workers a) workers v e = absurd (refuses _ _ e)
use_of (one policy a) policy v e = absurd (refuses _ _ e)
use_of (first_workers a b) workers v e = absurd (refuses _ _ e)
use_of (first_workers a b) policy v e = absurd (refuses _ _ e)
use_of (first_policy a b) workers v e = absurd (refuses _ _ e)
use_of (first_policy a b) policy v e = absurd (refuses _ _ e)

-- between two words: nothing is open, an option waits for its value, or has it
pub data Phase : Type 0 where
  ready : Phase
  waits : Opt → Phase
  has : Opt → Text → Phase

abbrev pub pending : Phase → Option (Text × List Text)
pending ready = None
pending (waits o) = Some (name_of o, [])
pending (has o v) = Some (name_of o, v ∷ [])

abbrev pub waiting : Phase → Waiting
waiting ready = idle
waiting (waits o) = option (name_of o)
waiting (has o v) = idle

abbrev pub at : Kept → Phase → Walk
at k ph = standing 1 (waiting ph) (holding (rows k) (pending ph))

-- what is open comes to this
abbrev pub Settles : Kept → Phase → Kept → Type 0
Settles k ready m = k ≡ m
Settles k (has o v) m = add k o v ≡ Some m
Settles k (waits o) m = ⊥

abbrev Settled : Kept → Phase → Type 0
Settled k ph = (m : Kept) × Settles k ph m × (settled_rows S.rules (pending ph) (rows k) ≡ rows m)

pub settles : (k : Kept) (ph : Phase) → settle_fault S.rules false (holding (rows k) (pending ph)) ≡ [] → Settled k ph
settles k ready e = (k, refl, refl)
settles k (has workers v) e = use_of k workers v e
settles k (has policy v) e = use_of k policy v e
settles k (waits workers) e = absurd (refuses _ _ e)
settles k (waits policy) e = absurd (refuses _ _ e)

-- a word that clap takes
pub data Turn (k : Kept) (ph : Phase) (word : Text) : Type 0 where
  joined : (m n : Kept) (o : Opt) (v : Text) → word ≡ 45 ∷ 45 ∷ (name_of o ++ 61 ∷ v) → Settles k ph m → add m o v ≡ Some n → walked S.rules [] (at k ph) word ≡ at n ready → Turn k ph word
  apart : (m : Kept) (o : Opt) → word ≡ 45 ∷ 45 ∷ name_of o → Settles k ph m → walked S.rules [] (at k ph) word ≡ at m (waits o) → Turn k ph word
  value_of : (o : Opt) → ph ≡ waits o → walked S.rules [] (at k ph) word ≡ at k (has o word) → Turn k ph word

abbrev IsOption : Text → Type 0
IsOption name = (o : Opt) × (name ≡ name_of o) × (arg_by_long S.rules name ≡ Some (rule o))

find_long : (name : Text) → IsOption name ⊎ (arg_by_long S.rules name ≡ None)
find_long name = go (bytes_eq (codes "workers") name) (bytes_eq (codes "policy") name) refl refl
  where
    found : Bool → Bool → Option Rule
    found b c = cond (b || false) (Some (rule workers)) (cond (c || false) (Some (rule policy)) None)

    is_found : (b c : Bool) → bytes_eq (codes "workers") name ≡ b → bytes_eq (codes "policy") name ≡ c → arg_by_long S.rules name ≡ found b c
    is_found b c e f = λ i. found (e i) (f i)

    go : (b c : Bool) → bytes_eq (codes "workers") name ≡ b → bytes_eq (codes "policy") name ≡ c → IsOption name ⊎ (arg_by_long S.rules name ≡ None)
    go true c e f = inl (workers, sym ((bytes_eq-Decides (codes "workers") name).0 e), is_found true c e f)
    go false true e f = inl (policy, sym ((bytes_eq-Decides (codes "policy") name).0 f), is_found false true e f)
    go false false e f = inr (is_found false false e f)

no_short : (x : ℕ) → arg_by_short S.rules x ≡ None
no_short x = refl

-- a long option
module _ (k : Kept) (ph : Phase) (word name : Text) where
  abbrev h : Held
  h = holding (rows k) (pending ph)

  abbrev after : Option Rule → Option Text → Walk
  after a v = after_step S.rules word (at k ph) (after_flag S.rules (waiting ph) word (long_met S.rules a v h).0 (long_met S.rules a v h).1).0 (after_flag S.rules (waiting ph) word (long_met S.rules a v h).0 (long_met S.rules a v h).1).1

  joined_turn : (o : Opt) (v : Text) → word ≡ 45 ∷ 45 ∷ (name_of o ++ 61 ∷ v) → long_fault S.rules false (Some (rule o)) (Some v) h ≡ [] → walked S.rules [] (at k ph) word ≡ after (Some (rule o)) (Some v) → Turn k ph word
  joined_turn o v is passed step =
      let s = settles k ph (first_none _ _ passed) in
      let u = use_of s.0 o v (subst (λ (rs : List Row). use_fault false (rule o) (v ∷ []) rs ≡ []) s.2 (second_none (settle_fault S.rules false h) _ passed)) in
      joined s.0 u.0 o v is s.1 u.1 (step ∙ (ap (λ (rs : List Row). standing 1 idle (holding (used (rule o) (v ∷ []) rs) None)) s.2 ∙ ap (λ (rs : List Row). standing 1 idle (holding rs None)) u.2))

  apart_turn : (o : Opt) → word ≡ 45 ∷ 45 ∷ name_of o → long_fault S.rules false (Some (rule o)) None h ≡ [] → walked S.rules [] (at k ph) word ≡ after (Some (rule o)) None → Turn k ph word
  apart_turn o is passed step =
      let s = settles k ph passed in
      apart s.0 o is s.1 (step ∙ ap (λ (rs : List Row). standing 1 (option (name_of o)) (holding rs (Some (name_of o, [])))) s.2)

  option_turn : (o : Opt) (v : Option Text) → word ≡ 45 ∷ 45 ∷ whole (name_of o) v → long_fault S.rules false (Some (rule o)) v h ≡ [] → walked S.rules [] (at k ph) word ≡ after (Some (rule o)) v → Turn k ph word
  option_turn o None is passed step = apart_turn o is passed step
  option_turn o (Some v) is passed step = joined_turn o v is passed step

  named_turn : (v : Option Text) → word ≡ 45 ∷ 45 ∷ whole name v → long_fault S.rules false (arg_by_long S.rules name) v h ≡ [] → walked S.rules [] (at k ph) word ≡ after (arg_by_long S.rules name) v → Turn k ph word
  named_turn v is passed step = elim (find_long name) [
    | inl found ↦ option_turn found.0 v (is ∙ ap (λ (t : Text). 45 ∷ 45 ∷ whole t v) found.1)
        (subst (λ (a : Option Rule). long_fault S.rules false a v h ≡ []) found.2 passed) (step ∙ ap (λ (a : Option Rule). after a v) found.2)
    | inr unknown ↦ absurd (refuses _ _ (subst (λ (a : Option Rule). long_fault S.rules false a v h ≡ []) unknown passed))
  ]

-- a word that is no long option
plain_turn : (k : Kept) (ph : Phase) (word : Text) → step_fault S 1 (plain_word S.rules (waiting ph) word (holding (rows k) (pending ph))).0 (plain_word S.rules (waiting ph) word (holding (rows k) (pending ph))).1 ≡ []
    → walked S.rules [] (at k ph) word ≡ after_step S.rules word (at k ph) (plain_word S.rules (waiting ph) word (holding (rows k) (pending ph))).0 (plain_word S.rules (waiting ph) word (holding (rows k) (pending ph))).1 → Turn k ph word
plain_turn k ready word passed step = absurd (refuses _ _ passed)
plain_turn k (has o v) word passed step = absurd (refuses _ _ passed)
plain_turn k (waits workers) word passed step = value_of workers refl step
plain_turn k (waits policy) word passed step = value_of policy refl step

pub turn : (k : Kept) (ph : Phase) (word : Text) → bytes_eq word (codes "--") ≡ false → turn_fault S [] (at k ph) word ≡ [] → Turn k ph word
turn k ph word plain passed = elim (form word) [
  | dashes is ↦ absurd (true≢false (ap (λ (t : Text). bytes_eq t (codes "--")) (sym is) ∙ plain))
  | named name v form is ↦
      named_turn k ph word name v is (first_none _ _ (sym (turn_is S 1 (waiting ph) word (Some (name, v)) (holding (rows k) (pending ph)) plain form) ∙ passed))
      (walked_is S 1 (waiting ph) word (Some (name, v)) (holding (rows k) (pending ph)) plain form)
  | other form ↦ (
      let met : fault_as S 1 (waiting ph) word None (holding (rows k) (pending ph)) ≡ [] = sym (turn_is S 1 (waiting ph) word None (holding (rows k) (pending ph)) plain form) ∙ passed in
      let is_plain = plain_is S no_short (waiting ph) word (rows k) (pending ph) (first_none _ _ met) in
      plain_turn k ph word (subst (λ (p : Held × Step). step_fault S 1 p.0 p.1 ≡ []) is_plain (second_none (flag_word_fault S.rules false None word (holding (rows k) (pending ph))) _ met))
      (walked_is S 1 (waiting ph) word None (holding (rows k) (pending ph)) plain form ∙ ap (λ (p : Held × Step). after_step S.rules word (at k ph) p.0 p.1) is_plain))
]
