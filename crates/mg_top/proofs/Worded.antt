-- What words ask for, by what is read of them.
use Rattle.std.proofs.Common.{◌≡◌, ◌⊎◌, inl, inr, ℕ, Bool, List, sym, ◌∙◌}
use Rattle.std.specs.Prelude.{Result, Ok, Err}
use Rattle.std.specs.Borrow.{Bor}
use Rattle.mg_command.specs.declared.command.Command.{Command}
use Rattle.mg_command.specs.declared.command.Command.TheVariants.{Run, Check, Sample}
use Rattle.mg_command.specs.declared.command.PolicyName.{PolicyName}
use Rattle.mg_command.specs.declared.command.UsageCause.{UsageCause}
use Rattle.mg_command.specs.declared.command.WordsRefused.{WordsRefused}
use Rattle.mg_command.specs.declared.command.WordsRefused.TheVariants.{Usage, NoMemory}
use Rattle.mg_command.specs.Words.{Says, Lacks, texts}
use Rattle.mg_top.specs.Command.{IsRunCommand, IsOtherForm, is_check, is_sample}

-- where a command or a cause is read, no other one is that, and memory isn't wanting
other_command : (read : Result Command WordsRefused) (c d : Command) → read ≡ Ok c → (c ≡ d → ⊥) → (read ≡ Ok d) ⊎ (read ≡ Err NoMemory) → ⊥
other_command read c d is other (inl same) = other (cc (sym is ∙ same))
other_command read c d is other (inr bad) = cc (sym is ∙ bad)

command_or_cause : (read : Result Command WordsRefused) (c : Command) (cause : UsageCause) → read ≡ Ok c → (read ≡ Err (Usage cause)) ⊎ (read ≡ Err NoMemory) → ⊥
command_or_cause read c cause is (inl bad) = cc (sym is ∙ bad)
command_or_cause read c cause is (inr bad) = cc (sym is ∙ bad)

cause_or_command : (read : Result Command WordsRefused) (cause : UsageCause) (c : Command) → read ≡ Err (Usage cause) → (read ≡ Ok c) ⊎ (read ≡ Err NoMemory) → ⊥
cause_or_command read cause c is (inl bad) = cc (sym is ∙ bad)
cause_or_command read cause c is (inr bad) = cc (sym is ∙ bad)

same_cause : (read : Result Command WordsRefused) (cause other : UsageCause) → read ≡ Err (Usage cause) → (read ≡ Err (Usage other)) ⊎ (read ≡ Err NoMemory) → cause ≡ other
same_cause read cause other is (inl same) = cc (sym is ∙ same)
same_cause read cause other is (inr bad) = absurd (cc (sym is ∙ bad))

run_not_check : (n : ℕ) (p : PolicyName) → Run n p ≡ Check → ⊥
run_not_check n p e = cc e

run_not_sample : (n : ℕ) (p : PolicyName) (m : ℕ) (runs : Bool) → Run n p ≡ Sample m runs → ⊥
run_not_sample n p m runs e = cc e

module _ (words : List (Bor (List ℕ))) (read : Result Command WordsRefused) (said : (c : Command) → Says (texts words) c → (read ≡ Ok c) ⊎ (read ≡ Err NoMemory))
    (lacking : (c : UsageCause) → Lacks (texts words) c → (read ≡ Err (Usage c)) ⊎ (read ≡ Err NoMemory)) where
  -- where a command is read the words have no cause
  pub no_cause : (c : Command) → read ≡ Ok c → (cause : UsageCause) → Lacks (texts words) cause → ⊥
  no_cause c is cause h = command_or_cause read c cause is (lacking cause h)

  -- where a run is read they are no other form
  pub no_other : (n : ℕ) (p : PolicyName) → read ≡ Ok (Run n p) → IsOtherForm words → ⊥
  no_other n p is (is_check h) = other_command read (Run n p) Check is (run_not_check n p) (said Check h)
  no_other n p is (is_sample m runs h) = other_command read (Run n p) (Sample m runs) is (run_not_sample n p m runs) (said (Sample m runs) h)

  -- where another command is read, or none, they are no run
  pub no_run_checked : read ≡ Ok Check → IsRunCommand words → ⊥
  no_run_checked is run = other_command read Check (Run run.0 run.1) is (λ e. run_not_check run.0 run.1 (sym e)) (said (Run run.0 run.1) run.2)

  pub no_run_sampled : (m : ℕ) (runs : Bool) → read ≡ Ok (Sample m runs) → IsRunCommand words → ⊥
  no_run_sampled m runs is run = other_command read (Sample m runs) (Run run.0 run.1) is (λ e. run_not_sample run.0 run.1 m runs (sym e)) (said (Run run.0 run.1) run.2)

  pub no_run_lacking : (cause : UsageCause) → read ≡ Err (Usage cause) → IsRunCommand words → ⊥
  no_run_lacking cause is run = cause_or_command read cause (Run run.0 run.1) is (said (Run run.0 run.1) run.2)

  pub no_other_lacking : (cause : UsageCause) → read ≡ Err (Usage cause) → IsOtherForm words → ⊥
  no_other_lacking cause is (is_check h) = cause_or_command read cause Check is (said Check h)
  no_other_lacking cause is (is_sample m runs h) = cause_or_command read cause (Sample m runs) is (said (Sample m runs) h)

  pub one_lacking : (cause other : UsageCause) → read ≡ Err (Usage cause) → Lacks (texts words) other → cause ≡ other
  one_lacking cause other is h = same_cause read cause other is (lacking other h)
