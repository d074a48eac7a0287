-- A completion that has just been started: it has no rule, and nothing is done.
use Rattle.std.proofs.Common.{◌≡◌, ℕ, zero, suc, ◌+◌, ◌≤◌, ℤ, List, [], length, Some, None, true, false, inl, refl, sym, arith}
use Rattle.std.specs.Prelude.{◌⊎◌, slice_get, Contains}
use Rattle.mg_present.specs.Presentation.{Group}
use Rattle.mg_present.specs.Ask.{Inquiry, IsAsked}
use Rattle.mg_rules.specs.declared.meeting.Meeting.{Meeting}
use Rattle.mg_rules.specs.Rule.{Rule, rule_numbered}
use Rattle.mg_rules.specs.Meeting.{Meets}
use Rattle.mg_complete.specs.Completion.{IsKept, Done, before_all, first_search}

no_meets : (m : Meeting) → Meets [] m → ⊥
no_meets m h = no_rule m.first h.first h.first_numbered
  where
    no_rule : (number : ℕ) (rule : Rule) → rule_numbered [] number ≡ Some rule → ⊥
    no_rule zero rule e = absurd (let no : None ≡ Some rule = e in cc)
    no_rule (suc n) rule e = absurd (let no : None ≡ Some rule = e in cc)

nothing : (m : Meeting) → Contains [] m → ⊥
nothing m h = absurd (omega (arith, h.1))

none_done : Done [] before_all 0
none_done = record {
  there = inl refl;
  list = [];
  ordered = tt;
  only = λ m h. absurd (nothing m h);
  each = λ m meets done. absurd (no_meets m meets);
  many = refl;
  joined = λ m h. absurd (nothing m h);
  ranks = λ m other h. absurd (nothing m h);
}

pub first_completed : (ask : Inquiry) → IsAsked ask → ask.subgroup ≡ [] → IsKept (first_search ask)
first_completed ask asked alone = record {
  asked = asked;
  alone = alone;
  paired = refl;
  given = λ place rule moves at. absurd (let no : None ≡ Some rule = at in cc);
  within = record { count = omega arith; lefts = tt; letters = omega arith; moves = omega arith };
  done = none_done;
  few = omega arith;
  begun = λ e. absurd (let no : false ≡ true = e in cc);
  unbegun = λ _ _. refl;
}
