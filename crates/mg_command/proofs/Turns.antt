-- What one word does to clap's walk, for a command without subcommands and short options.
use Rattle.std.proofs.Common.{◌≡◌, ℕ, zero, suc, false, List, [], ◌∷◌, length, drop, Option, Some, None, refl, sym, ap, ◌∙◌}
use Rattle.std.specs.Prelude.{if◌then◌else◌, slice_get, encode_utf8}
use Rattle.std.specs.Option.{option_map_or}
use Rattle.std.specs.Str.{bytes_eq, chars}
use Rattle.clap.specs.Lexer.{long_of, short_of}
use Rattle.clap.specs.Walk.{Rule, Row, Held, Walk, Waiting, idle, option, positional, Step, Outcome, plain, Text, trailing, arg_by_short, bundle_met, bundle_step, long_or_other, short_or_plain, plain_word, after_step, subcommand_met, subcommand_or_other, walked, after_flag}
use Rattle.clap.specs.Simple.{Shape}
use Rattle.clap.specs.Kinds.{Kinds, or_else}
use Rattle.clap.specs.Faults.{flags_fault, bundle_fault, bundle_step_fault, flag_word_fault, other_fault, short_fault, step_fault, turn_fault}

pub first_none : (a b : Kinds) → or_else a b ≡ [] → a ≡ []
first_none [] b e = refl
first_none (k ∷ ks) b e = e

pub second_none : (a b : Kinds) → or_else a b ≡ [] → b ≡ []
second_none [] b e = e
second_none (k ∷ ks) b e = absurd (cc e)

-- what is held, and where the walk stands
abbrev pub holding : List Row → Option (Text × List Text) → Held
holding rows pending = record { rows = rows; pending = pending; skip = 0 }

abbrev pub standing : ℕ → Waiting → Held → Walk
standing position waiting held = record { held = held; waiting = waiting; position = position; is_trailing = false; stopped = None }

none_met : (waiting : Waiting) (word : Text) → subcommand_met [] waiting word ≡ None
none_met idle word = refl
none_met (option id) word = refl
none_met positional word = refl

module _ (S : Shape) where
  -- the step of a word that is not `--`, by its form as a long option
  abbrev pub met_as : Waiting → Text → Option (Text × Option Text) → Held → Held × Step
  met_as waiting word form h = long_or_other S.rules waiting word form h

  abbrev pub fault_as : ℕ → Waiting → Text → Option (Text × Option Text) → Held → Kinds
  fault_as position waiting word form h =
      or_else (flag_word_fault S.rules S.args_override_self form word h) (step_fault S position (met_as waiting word form h).0 (met_as waiting word form h).1)

  pub turn_is : (position : ℕ) (waiting : Waiting) (word : Text) (form : Option (Text × Option Text)) (h : Held) → bytes_eq word (45 ∷ 45 ∷ []) ≡ false → long_of word ≡ form
      → turn_fault S [] (standing position waiting h) word ≡ fault_as position waiting word form h
  turn_is position waiting word form h no_dash is =
      (λ i. or_else (other_fault S (none_met waiting word i) word h)
      (step_fault S position (subcommand_or_other S.rules (none_met waiting word i) waiting position word h).0 (subcommand_or_other S.rules (none_met waiting word i) waiting position word h).1))
      ∙ (λ i. or_else (if no_dash i then [] else flag_word_fault S.rules S.args_override_self (is i) word h)
      (step_fault S position (if no_dash i then (h, trailing position) else met_as waiting word (is i) h).0 (if no_dash i then (h, trailing position) else met_as waiting word (is i) h).1))

  pub walked_is : (position : ℕ) (waiting : Waiting) (word : Text) (form : Option (Text × Option Text)) (h : Held) → bytes_eq word (45 ∷ 45 ∷ []) ≡ false → long_of word ≡ form
      → walked S.rules [] (standing position waiting h) word ≡ after_step S.rules word (standing position waiting h) (met_as waiting word form h).0 (met_as waiting word form h).1
  unfolding walked
  walked_is position waiting word form h no_dash is =
      (λ i. after_step S.rules word (standing position waiting h) (subcommand_or_other S.rules (none_met waiting word i) waiting position word h).0 (subcommand_or_other S.rules (none_met waiting word i) waiting position word h).1)
      ∙ (λ i. after_step S.rules word (standing position waiting h) (if no_dash i then (h, trailing position) else met_as waiting word (is i) h).0 (if no_dash i then (h, trailing position) else met_as waiting word (is i) h).1)

  module _ (no_short : (x : ℕ) → arg_by_short S.rules x ≡ None) where
    bundle_plain : (k : ℕ) (flags : Text) (h : Held) → flags_fault S.rules S.args_override_self k flags 0 h ≡ [] → bundle_met S.rules k flags 0 plain h ≡ (h, plain)
    unfolding flags_fault bundle_met
    bundle_plain zero flags h e = refl
    bundle_plain (suc k) flags h e = go (slice_get (chars flags) 0) e
      where
        go : (c : Option ℕ) → bundle_step_fault S.rules S.args_override_self c flags 0 h (flags_fault S.rules S.args_override_self k) ≡ []
            → bundle_step S.rules c flags 0 plain h (bundle_met S.rules k) ≡ (h, plain)
        go None e = refl
        go (Some x) e = absurd (refused x e)
          where
            refused : (x : ℕ) → bundle_step_fault S.rules S.args_override_self (Some x) flags 0 h (flags_fault S.rules S.args_override_self k) ≡ [] → ⊥
            refused x e = let bad = sym (ap (λ (a : Option Rule). short_fault S.rules S.args_override_self a (drop (length (encode_utf8 x)) flags) h (flags_fault S.rules S.args_override_self k (drop (length (encode_utf8 x)) flags) 0)) (no_short x)) ∙ e in absurd (cc bad)

    -- a word that is no long option and is passed is a plain word
    pub plain_is : (waiting : Waiting) (word : Text) (rows : List Row) (pending : Option (Text × List Text))
        → flag_word_fault S.rules S.args_override_self None word (holding rows pending) ≡ [] → met_as waiting word None (holding rows pending) ≡ plain_word S.rules waiting word (holding rows pending)
    plain_is waiting word rows pending e = go (short_of word) e
      where
        h : Held
        h = holding rows pending

        go : (flags : Option Text) → option_map_or (λ flags. bundle_fault S.rules S.args_override_self flags h) flags [] ≡ [] → short_or_plain S.rules waiting word flags h ≡ plain_word S.rules waiting word h
        go None e = refl
        go (Some flags) e = ap (λ (met : Held × Outcome). after_flag S.rules waiting word met.0 met.1) (bundle_plain (length flags) flags h e)
