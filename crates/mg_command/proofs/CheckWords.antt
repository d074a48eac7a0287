-- Clap takes no words behind `check`.
use Rattle.std.proofs.Common.{◌≡◌, ℕ, false, List, [], ◌∷◌, Some, None, refl, sym, ap, subst, ◌∙◌, codes, true≢false}
use Rattle.std.specs.Str.{bytes_eq}
use Rattle.clap.specs.Walk.{Held, Step, Text, arg_by_short, idle, nothing_held}
use Rattle.clap.specs.Simple.{Shape, built}
use Rattle.clap.specs.Kinds.{Kinds}
use Rattle.clap.specs.Faults.{defaults_fault, fault_of, flag_word_fault, step_fault, turn_fault, walk_fault}
use Rattle.clap.specs.declared.error.kind.ErrorKind.{ErrorKind}
use Rattle.clap.proofs.FaultLemmas.{leaf_fault}
use Rattle.mg_command.specs.Reading.{check_app, has_dashes}
use Rattle.mg_command.proofs.Lexed.{dashes, named, other, form}
use Rattle.mg_command.proofs.Turns.{first_none, second_none, holding, standing, fault_as, turn_is, plain_is}
use Rattle.mg_command.proofs.RunWords.{no_dash}

abbrev S : Shape
S = (built check_app).top

abbrev h : Held
h = holding [] None

refuses : (k : ErrorKind) (ks : Kinds) → k ∷ ks ≡ [] → ⊥
refuses k ks e = cc e

no_short : (x : ℕ) → arg_by_short S.rules x ≡ None
no_short x = refl

-- any word is a fault
turned : (word : Text) → bytes_eq word (codes "--") ≡ false → turn_fault S [] (standing 1 idle h) word ≡ [] → ⊥
turned word plain passed = elim (form word) [
  | dashes is ↦ absurd (true≢false (ap (λ (t : Text). bytes_eq t (codes "--")) (sym is) ∙ plain))
  | named name v form is ↦ refuses _ _ (sym (turn_is S 1 idle word (Some (name, v)) h plain form) ∙ passed)
  | other form ↦ (
      let met : fault_as S 1 idle word None h ≡ [] = sym (turn_is S 1 idle word None h plain form) ∙ passed in
      let is_plain = plain_is S no_short idle word [] None (first_none _ _ met) in
      refuses _ _ (subst (λ (p : Held × Step). step_fault S 1 p.0 p.1 ≡ []) is_plain (second_none (flag_word_fault S.rules false None word h) _ met)))
]

pub check_taken : (words : List Text) → has_dashes words ≡ false → fault_of check_app words ≡ [] → words ≡ []
unfolding walk_fault
check_taken [] plain passed = refl
check_taken (word ∷ words) plain passed =
    let level = sym (leaf_fault (built check_app) nothing_held (word ∷ words) refl) ∙ passed in
    absurd (turned word (no_dash word words plain).0 (first_none _ _ (first_none _ _ level)))

pub no_words_taken : fault_of check_app [] ≡ []
unfolding walk_fault defaults_fault
no_words_taken = refl
