-- Rules behind the others change no number, so that what is reached stays reached.
use Rattle.std.proofs.Common.{◌≡◌, ℕ, zero, suc, ℤ, List, [], ◌∷◌, ◌++◌}
use Rattle.std.specs.Prelude.{None, Some, slice_get}
use Rattle.mg_rules.specs.Rule.{Rule, rule_numbered, Rewrites, Leads, Descends, HaveCommon}

at_still : (rules more : List Rule) (n : ℕ) (rule : Rule) → slice_get rules n ≡ Some rule → slice_get (rules ++ more) n ≡ Some rule
at_still [] more n rule e = let never : None ≡ Some rule = e in cc
at_still (r ∷ rules) more zero rule e = e
at_still (r ∷ rules) more (suc n) rule e = at_still rules more n rule e

pub numbered_still : (rules more : List Rule) (number : ℕ) (rule : Rule) → rule_numbered rules number ≡ Some rule → rule_numbered (rules ++ more) number ≡ Some rule
numbered_still rules more zero rule e = let never : None ≡ Some rule = e in cc
numbered_still rules more (suc n) rule e = at_still rules more n rule e

rewrites_still : (rules more : List Rule) (u v : List ℤ) → Rewrites rules u v → Rewrites (rules ++ more) u v
rewrites_still rules more u v r = record {
  at = record {
    number = r.at.number;
    rule = r.at.rule;
    numbered = numbered_still rules more r.at.number r.at.rule r.at.numbered;
    before = r.at.before;
    behind = r.at.behind;
    stands = r.at.stands;
  };
  replaced = r.replaced;
}

leads_still : (rules more : List Rule) (u v : List ℤ) (words : List (List ℤ)) → Leads rules u words v → Leads (rules ++ more) u words v
leads_still rules more u v [] e = e
leads_still rules more u v (w ∷ words) h = (rewrites_still rules more u w h.0, leads_still rules more w v words h.1)

pub descends_still : (rules more : List Rule) (u v : List ℤ) → Descends rules u v → Descends (rules ++ more) u v
descends_still rules more u v h = (h.0, leads_still rules more u v h.0 h.1)

pub common_still : (rules more : List Rule) (u v : List ℤ) → HaveCommon rules u v → HaveCommon (rules ++ more) u v
common_still rules more u v h = (h.0, descends_still rules more u h.0 h.1, descends_still rules more v h.0 h.2)
