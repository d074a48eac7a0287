-- Clap takes words that say a run, and reads their values.
use Rattle.std.proofs.Common.{◌≡◌, ℕ, false, List, [], ◌∷◌, ◌++◌, None, refl, sym, ap, subst, ◌∙◌, codes, ◌||◌}
use Rattle.std.specs.List.{fold}
use Rattle.std.specs.Option.{option_map_or}
use Rattle.clap.specs.Walk.{Row, Walk, Text, first_of, settled_rows, walked, with_default, nothing_held, short_or_plain, after_step}
use Rattle.clap.specs.Simple.{built, matches_of}
use Rattle.clap.specs.Kinds.{Kinds, or_else}
use Rattle.clap.specs.Faults.{bundle_fault, fault_of, settle_fault, step_fault, turn_fault, walk_fault, defaults_fault}
use Rattle.clap.proofs.FaultLemmas.{leaf_fault}
use Rattle.mg_command.specs.declared.command.PolicyName.{PolicyName}
use Rattle.mg_command.specs.Words.{Setting, Workers, Policy, Begins, AreSettings, ComeTo, SaysRun}
use Rattle.mg_command.specs.Words as spec
use Rattle.mg_command.specs.Reading.{run_app, has_dashes, IsWorkers, IsPolicy}
use Rattle.mg_command.proofs.Plain.{IsPlain, number_plain, policy_plain}
use Rattle.mg_command.proofs.Turns.{holding, turn_is, walked_is}
use Rattle.mg_command.proofs.RunWalk.{S, Opt, workers, policy, name_of, Kept, none, one, first_workers, first_policy, rows, ready, waits, has, at, waiting, pending}
use Rattle.mg_command.proofs.RunWords.{Gives, behind, within, finish}

-- ---- the walk goes on

-- the walk from one place over words comes to another with other words to go, without a fault
abbrev Goes : Walk → List Text → Walk → List Text → Type 0
Goes v words w rest = (walk_fault S [] v words ≡ walk_fault S [] w rest) × (fold (walked S.rules []) v words ≡ fold (walked S.rules []) w rest)

goes : (v w : Walk) (word : Text) (words : List Text) → turn_fault S [] v word ≡ [] → walked S.rules [] v word ≡ w → Goes v (word ∷ words) w words
unfolding walk_fault
goes v w word words passed step = (λ i. or_else (passed i) (walk_fault S [] (step i) words), λ i. fold (walked S.rules []) (step i) words)

then_goes : (u v w : Walk) (words more rest : List Text) → Goes u words v more → Goes v more w rest → Goes u words w rest
then_goes u v w words more rest first second = (first.0 ∙ second.0, first.1 ∙ second.1)

-- a word that an option waits for
value_fault : (k : Kept) (o : Opt) (v : Text) → IsPlain v → turn_fault S [] (at k (waits o)) v ≡ []
value_fault k o v plain =
    turn_is S 1 (waiting (waits o)) v None (holding (rows k) (pending (waits o))) plain.no_dashes plain.no_long
    ∙ ((λ i. or_else (option_map_or (λ (flags : Text). bundle_fault S.rules S.args_override_self flags (holding (rows k) (pending (waits o)))) (plain.no_short i) [])
    (step_fault S 1 (short_or_plain S.rules (waiting (waits o)) v (plain.no_short i) (holding (rows k) (pending (waits o)))).0 (short_or_plain S.rules (waiting (waits o)) v (plain.no_short i) (holding (rows k) (pending (waits o)))).1)) ∙ refl)

value_walked : (k : Kept) (o : Opt) (v : Text) → IsPlain v → walked S.rules [] (at k (waits o)) v ≡ at k (has o v)
value_walked k o v plain =
    walked_is S 1 (waiting (waits o)) v None (holding (rows k) (pending (waits o))) plain.no_dashes plain.no_long
    ∙ ((λ i. after_step S.rules v (at k (waits o)) (short_or_plain S.rules (waiting (waits o)) v (plain.no_short i) (holding (rows k) (pending (waits o)))).0 (short_or_plain S.rules (waiting (waits o)) v (plain.no_short i) (holding (rows k) (pending (waits o)))).1) ∙ read k o v)
  where
    read : (k : Kept) (o : Opt) (v : Text) → after_step S.rules v (at k (waits o)) (short_or_plain S.rules (waiting (waits o)) v None (holding (rows k) (pending (waits o)))).0 (short_or_plain S.rules (waiting (waits o)) v None (holding (rows k) (pending (waits o)))).1 ≡ at k (has o v)
    read k workers v = refl
    read k policy v = refl

value_goes : (k : Kept) (o : Opt) (v : Text) (rest : List Text) → IsPlain v → Goes (at k (waits o)) (v ∷ rest) (at k (has o v)) rest
value_goes k o v rest plain = goes (at k (waits o)) (at k (has o v)) v rest (value_fault k o v plain) (value_walked k o v plain)

abbrev joined_word : Opt → Text → Text
joined_word o v = 45 ∷ 45 ∷ (name_of o ++ 61 ∷ v)

abbrev apart_word : Opt → Text
apart_word o = 45 ∷ 45 ∷ name_of o

-- ---- a first setting

abbrev start : Walk
start = at none ready

data First (o : Opt) (v : Text) (w : Walk) : Type 0 where
  kept : w ≡ at (one o v) ready → First o v w
  waits_first : w ≡ at none (has o v) → First o v w

abbrev GoesFirst : Opt → Text → List Text → List Text → Type 0
GoesFirst o v words rest = (w : Walk) × First o v w × Goes start words w rest

first_joined : (o : Opt) (v : Text) (rest : List Text) → Goes start (joined_word o v ∷ rest) (at (one o v) ready) rest
unfolding walked
first_joined workers v rest = goes start (at (one workers v) ready) (joined_word workers v) rest refl refl
first_joined policy v rest = goes start (at (one policy v) ready) (joined_word policy v) rest refl refl

first_apart : (o : Opt) (rest : List Text) → Goes start (apart_word o ∷ rest) (at none (waits o)) rest
unfolding walked
first_apart workers rest = goes start (at none (waits workers)) (apart_word workers) rest refl refl
first_apart policy rest = goes start (at none (waits policy)) (apart_word policy) rest refl refl

goes_first : (o : Opt) (v : Text) (words rest : List Text) → IsPlain v → Gives words o v rest → GoesFirst o v words rest
goes_first o v words rest plain (within e) = (at (one o v) ready, kept refl, subst (λ (ws : List Text). Goes start ws (at (one o v) ready) rest) (sym e) (first_joined o v rest))
goes_first o v words rest plain (behind e) = (
  at none (has o v),
  waits_first refl,
  subst (λ (ws : List Text). Goes start ws (at none (has o v)) rest) (sym e)
      (then_goes start (at none (waits o)) (at none (has o v)) (apart_word o ∷ v ∷ rest) (v ∷ rest) rest (first_apart o (v ∷ rest)) (value_goes none o v rest plain)),
)

-- ---- a second setting

abbrev other : Opt → Opt
other workers = policy
other policy = workers

abbrev two : Opt → Text → Text → Kept
two workers v u = first_workers v u
two policy u v = first_policy u v

data Second (o : Opt) (v u : Text) (w : Walk) : Type 0 where
  both : w ≡ at (two o v u) ready → Second o v u w
  waits_second : w ≡ at (one o v) (has (other o) u) → Second o v u w

abbrev GoesSecond : Opt → Text → Text → Walk → List Text → List Text → Type 0
GoesSecond o v u w words rest = (x : Walk) × Second o v u x × Goes w words x rest

second_joined : (o : Opt) (v u : Text) (w : Walk) (rest : List Text) → First o v w → Goes w (joined_word (other o) u ∷ rest) (at (two o v u) ready) rest
unfolding walked
second_joined workers v u w rest (kept e) = subst (λ (x : Walk). Goes x (joined_word policy u ∷ rest) (at (two workers v u) ready) rest) (sym e) (goes (at (one workers v) ready) (at (two workers v u) ready) (joined_word policy u) rest refl refl)
second_joined policy v u w rest (kept e) = subst (λ (x : Walk). Goes x (joined_word workers u ∷ rest) (at (two policy v u) ready) rest) (sym e) (goes (at (one policy v) ready) (at (two policy v u) ready) (joined_word workers u) rest refl refl)
second_joined workers v u w rest (waits_first e) = subst (λ (x : Walk). Goes x (joined_word policy u ∷ rest) (at (two workers v u) ready) rest) (sym e) (goes (at none (has workers v)) (at (two workers v u) ready) (joined_word policy u) rest refl refl)
second_joined policy v u w rest (waits_first e) = subst (λ (x : Walk). Goes x (joined_word workers u ∷ rest) (at (two policy v u) ready) rest) (sym e) (goes (at none (has policy v)) (at (two policy v u) ready) (joined_word workers u) rest refl refl)

second_apart : (o : Opt) (v : Text) (w : Walk) (rest : List Text) → First o v w → Goes w (apart_word (other o) ∷ rest) (at (one o v) (waits (other o))) rest
unfolding walked
second_apart workers v w rest (kept e) = subst (λ (x : Walk). Goes x (apart_word policy ∷ rest) (at (one workers v) (waits policy)) rest) (sym e) (goes (at (one workers v) ready) (at (one workers v) (waits policy)) (apart_word policy) rest refl refl)
second_apart policy v w rest (kept e) = subst (λ (x : Walk). Goes x (apart_word workers ∷ rest) (at (one policy v) (waits workers)) rest) (sym e) (goes (at (one policy v) ready) (at (one policy v) (waits workers)) (apart_word workers) rest refl refl)
second_apart workers v w rest (waits_first e) = subst (λ (x : Walk). Goes x (apart_word policy ∷ rest) (at (one workers v) (waits policy)) rest) (sym e) (goes (at none (has workers v)) (at (one workers v) (waits policy)) (apart_word policy) rest refl refl)
second_apart policy v w rest (waits_first e) = subst (λ (x : Walk). Goes x (apart_word workers ∷ rest) (at (one policy v) (waits workers)) rest) (sym e) (goes (at none (has policy v)) (at (one policy v) (waits workers)) (apart_word workers) rest refl refl)

goes_second : (o : Opt) (v u : Text) (w : Walk) (words rest : List Text) → First o v w → IsPlain u → Gives words (other o) u rest → GoesSecond o v u w words rest
goes_second o v u w words rest first plain (within e) = (at (two o v u) ready, both refl, subst (λ (ws : List Text). Goes w ws (at (two o v u) ready) rest) (sym e) (second_joined o v u w rest first))
goes_second o v u w words rest first plain (behind e) = (
  at (one o v) (has (other o) u),
  waits_second refl,
  subst (λ (ws : List Text). Goes w ws (at (one o v) (has (other o) u)) rest) (sym e)
      (then_goes w (at (one o v) (waits (other o))) (at (one o v) (has (other o) u)) (apart_word (other o) ∷ u ∷ rest) (u ∷ rest) rest (second_apart o v w (u ∷ rest) first) (value_goes (one o v) (other o) u rest plain)),
)

-- ---- the end

-- at the end nothing is refused, and these are the rows
abbrev Closes : Walk → Kept → Type 0
Closes w m = (settle_fault S.rules false w.held ≡ []) × (settled_rows S.rules w.held.pending w.held.rows ≡ rows m)

first_closes : (o : Opt) (v : Text) (w : Walk) → First o v w → Closes w (one o v)
first_closes o v w (kept e) = subst (λ (x : Walk). Closes x (one o v)) (sym e) (refl, refl)
first_closes workers v w (waits_first e) = subst (λ (x : Walk). Closes x (one workers v)) (sym e) (refl, refl)
first_closes policy v w (waits_first e) = subst (λ (x : Walk). Closes x (one policy v)) (sym e) (refl, refl)

second_closes : (o : Opt) (v u : Text) (w : Walk) → Second o v u w → Closes w (two o v u)
second_closes o v u w (both e) = subst (λ (x : Walk). Closes x (two o v u)) (sym e) (refl, refl)
second_closes workers v u w (waits_second e) = subst (λ (x : Walk). Closes x (two workers v u)) (sym e) (refl, refl)
second_closes policy v u w (waits_second e) = subst (λ (x : Walk). Closes x (two policy v u)) (sym e) (refl, refl)

no_defaults : (m : Kept) → defaults_fault (rows m) S.rules ≡ []
unfolding defaults_fault
no_defaults none = refl
no_defaults (one workers v) = refl
no_defaults (one policy v) = refl
no_defaults (first_workers v u) = refl
no_defaults (first_policy u v) = refl

-- clap takes the words, and has these rows
abbrev Takes : List Text → Kept → Type 0
Takes words m = (fault_of run_app words ≡ []) × (matches_of run_app words ≡ rows m)

takes : (words : List Text) (w : Walk) (m : Kept) → Goes start words w [] → Closes w m → Takes words m
unfolding walk_fault
takes words w m go close = (
  leaf_fault (built run_app) nothing_held words refl
      ∙ ((λ i. or_else (go.0 i) (or_else [] (or_else (settle_fault S.rules false (go.1 i).held) (or_else (defaults_fault (settled_rows S.rules (go.1 i).held.pending (go.1 i).held.rows) S.rules) []))))
      ∙ ((λ i. or_else (close.0 i) (or_else (defaults_fault (close.1 i) S.rules) [])) ∙ ap (λ (ks : Kinds). or_else ks []) (no_defaults m))),
  ap (λ (x : Walk). fold with_default (settled_rows S.rules x.held.pending x.held.rows) S.rules) go.1 ∙ (ap (λ (rs : List Row). fold with_default rs S.rules) close.1 ∙ finish m),
)

-- ---- the settings

no_dashes : (words rest : List Text) (o : Opt) (v : Text) → Gives words o v rest → IsPlain v → has_dashes rest ≡ false → has_dashes words ≡ false
no_dashes words rest workers v (within e) plain more = ap has_dashes e ∙ more
no_dashes words rest policy v (within e) plain more = ap has_dashes e ∙ more
no_dashes words rest workers v (behind e) plain more = ap has_dashes e ∙ (λ i. plain.no_dashes i || more i)
no_dashes words rest policy v (behind e) plain more = ap has_dashes e ∙ (λ i. plain.no_dashes i || more i)

pub record IsRight (words : List Text) (n : ℕ) (p : PolicyName) : Type 0 where
  pub plain : has_dashes words ≡ false
  pub taken : fault_of run_app words ≡ []
  pub number : IsWorkers (first_of (codes "workers") (matches_of run_app words)) n
  pub name : IsPolicy (first_of (codes "policy") (matches_of run_app words)) p

right : (words : List Text) (m : Kept) (n : ℕ) (p : PolicyName) → has_dashes words ≡ false → Takes words m → IsWorkers (first_of (codes "workers") (rows m)) n → IsPolicy (first_of (codes "policy") (rows m)) p → IsRight words n p
right words m n p plain is_taken is_workers is_policy = record {
  plain = plain;
  taken = is_taken.0;
  number = subst (λ (rs : List Row). IsWorkers (first_of (codes "workers") rs) n) (sym is_taken.1) is_workers;
  name = subst (λ (rs : List Row). IsPolicy (first_of (codes "policy") rs) p) (sym is_taken.1) is_policy;
}

abbrev WorkersGiven : List Text → ℕ → List Text → Type 0
WorkersGiven words n rest = (v : Text) × Gives words workers v rest × spec.IsNumberOf 10 1 64 v n × IsPlain v

workers_given : (words rest : List Text) (n : ℕ) → Begins words (Workers n) rest → WorkersGiven words n rest
workers_given words rest n (spec.apart v is e) = (v, behind e, is, number_plain v is.number)
workers_given words rest n (spec.joined v is e) = (v, within e, is, number_plain v is.number)

abbrev PolicyGiven : List Text → PolicyName → List Text → Type 0
PolicyGiven words p rest = (v : Text) × Gives words policy v rest × (v ≡ spec.policy_text p) × IsPlain v

policy_given : (words rest : List Text) (p : PolicyName) → Begins words (Policy p) rest → PolicyGiven words p rest
policy_given words rest p (spec.apart v is e) = (v, behind e, is, subst IsPlain (sym is) (policy_plain p))
policy_given words rest p (spec.joined v is e) = (v, within e, is, subst IsPlain (sym is) (policy_plain p))

abbrev AllRead : Opt → Text → List Text → Type 0
AllRead o v words = (has_dashes words ≡ false) × Takes words (one o v)

one_read : (o : Opt) (v : Text) (words rest : List Text) → Gives words o v rest → IsPlain v → rest ≡ [] → AllRead o v words
one_read o v words rest gives plain end =
    let g = goes_first o v words rest plain gives in
    (no_dashes words rest o v gives plain (ap has_dashes end), takes words g.0 (one o v) (subst (λ (r : List Text). Goes start words g.0 r) end g.2) (first_closes o v g.0 g.1))

abbrev BothRead : Opt → Text → Text → List Text → Type 0
BothRead o v u words = (has_dashes words ≡ false) × Takes words (two o v u)

both_read : (o : Opt) (v u : Text) (words rest more : List Text) → Gives words o v rest → IsPlain v → Gives rest (other o) u more → IsPlain u → more ≡ [] → BothRead o v u words
both_read o v u words rest more gives plain gives_more plain_too end =
    let g = goes_first o v words rest plain gives in
    let h = goes_second o v u g.0 rest more g.1 plain_too gives_more in (
      no_dashes words rest o v gives plain (no_dashes rest more (other o) u gives_more plain_too (ap has_dashes end)),
      takes words h.0 (two o v u) (then_goes start g.0 h.0 words rest [] g.2 (subst (λ (r : List Text). Goes g.0 rest h.0 r) end h.2)) (second_closes o v u h.0 h.1),
    )

none_read : Takes [] none
none_read = takes [] start none (refl, refl) (refl, refl)

-- clap takes words that say a run, and reads its values
pub run_right : (words : List Text) (n : ℕ) (p : PolicyName) → SaysRun words n p → IsRight words n p
run_right words n p ([], are, come) = right words none n p (ap has_dashes are) (subst (λ (ws : List Text). Takes ws none) (sym are) none_read) come.0 come.1
run_right words n p (Workers m ∷ [], are, come) =
    let g = workers_given words are.0 m are.1 in
    let r = one_read workers g.0 words are.0 g.1 g.3 are.2 in
    right words (one workers g.0) n p r.0 r.1 (subst (λ (k : ℕ). spec.IsNumberOf 10 1 64 g.0 k) (sym come.0) g.2) come.1
run_right words n p (Policy q ∷ [], are, come) =
    let g = policy_given words are.0 q are.1 in
    let r = one_read policy g.0 words are.0 g.1 g.3 are.2 in
    right words (one policy g.0) n p r.0 r.1 come.0 (g.2 ∙ ap spec.policy_text (sym come.1))
run_right words n p (Workers m ∷ Policy q ∷ [], are, come) =
    let g = workers_given words are.0 m are.1 in
    let h = policy_given are.0 are.2.0 q are.2.1 in
    let r = both_read workers g.0 h.0 words are.0 are.2.0 g.1 g.3 h.1 h.3 are.2.2 in
    right words (first_workers g.0 h.0) n p r.0 r.1 (subst (λ (k : ℕ). spec.IsNumberOf 10 1 64 g.0 k) (sym come.0) g.2) (h.2 ∙ ap spec.policy_text (sym come.1))
run_right words n p (Policy q ∷ Workers m ∷ [], are, come) =
    let g = policy_given words are.0 q are.1 in
    let h = workers_given are.0 are.2.0 m are.2.1 in
    let r = both_read policy g.0 h.0 words are.0 are.2.0 g.1 g.3 h.1 h.3 are.2.2 in
    right words (first_policy g.0 h.0) n p r.0 r.1 (subst (λ (k : ℕ). spec.IsNumberOf 10 1 64 h.0 k) (sym come.0) h.2) (g.2 ∙ ap spec.policy_text (sym come.1))
run_right words n p (Workers a ∷ Workers b ∷ ss, are, come) = absurd come
run_right words n p (Policy a ∷ Policy b ∷ ss, are, come) = absurd come
run_right words n p (Workers a ∷ Policy b ∷ c ∷ ss, are, come) = absurd come
run_right words n p (Policy a ∷ Workers b ∷ c ∷ ss, are, come) = absurd come
