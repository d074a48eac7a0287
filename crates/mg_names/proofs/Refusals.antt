-- A script has a plan or is refused, never both, and either of them is one only.
use Rattle.std.proofs.Common.{◌≡◌, ◌⊎◌, inl, inr, ⊎_elim, ℕ, ◌+◌, ◌-◌, ◌<◌, ◌≤◌, List, [], ◌∷◌, ◌++◌, Contains, get_or, refl, sym, ap, subst, ◌∙◌, append_assoc, append-nil, arith}
use Rattle.std.specs.List.{AllByRecursion}
use Rattle.std.proofs.lemmas.Bool.{cases_lt}
use Rattle.std.proofs.lemmas.List.Elements.{All-from_recursion, All-contains}
use Rattle.mg_lex.specs.declared.refusal.Cause.{Cause}
use Rattle.mg_lex.specs.declared.refusal.Cause.TheVariants as cause
use Rattle.mg_lex.specs.declared.refusal.Refused.{Refused}
use Rattle.mg_lex.specs.Cause.{cause_number}
use Rattle.mg_lex.specs.Refusal.{place_of}
use Rattle.mg_script.specs.declared.script.ScriptLine.{ScriptLine}
use Rattle.mg_names.specs.Plan.{Plan}
use Rattle.mg_names.specs.Named.{Statement, IsNamed}
use Rattle.mg_names.specs.Scope.{Scope, nothing}
use Rattle.mg_names.specs.Meaning.{after}
use Rattle.mg_names.specs.Cause.{Shown, shown, IsFirst}
use Rattle.mg_names.specs.Resolve.{Leads, IsPlanOf, IsRefused}
use Rattle.mg_names.specs.Least.{IsNotAfter}
use Rattle.mg_names.specs.Within.{IsReadLine}
use Rattle.mg_names.proofs.Leasts.{only, new_least, same_least}
use Rattle.mg_names.proofs.Trees.{one_named}

-- causes by their numbers
abbrev causes : List Cause
causes = cause.BadByte ∷ cause.BadToken ∷ cause.Unexpected ∷ cause.LineTooLong ∷ cause.NumberTooLarge ∷ cause.WordTooLong ∷ cause.TooMany ∷ cause.NameTaken ∷ cause.UnknownName ∷ cause.WrongKind ∷ cause.UnknownGenerator ∷ cause.GeneratorTwice ∷ cause.ImageMissing ∷ cause.ProcedureDoesNotApply ∷ []

abbrev cause_from : ℕ → Cause
cause_from n = get_or causes (n - 1) cause.BadByte

cause_back : (c : Cause) → cause_from (cause_number c) ≡ c
cause_back cause.BadByte = refl
cause_back cause.BadToken = refl
cause_back cause.Unexpected = refl
cause_back cause.LineTooLong = refl
cause_back cause.NumberTooLarge = refl
cause_back cause.WordTooLong = refl
cause_back cause.TooMany = refl
cause_back cause.NameTaken = refl
cause_back cause.UnknownName = refl
cause_back cause.WrongKind = refl
cause_back cause.UnknownGenerator = refl
cause_back cause.GeneratorTwice = refl
cause_back cause.ImageMissing = refl
cause_back cause.ProcedureDoesNotApply = refl

same_number : (c d : Cause) → cause_number c ≡ cause_number d → c ≡ d
same_number c d same = sym (cause_back c) ∙ ap cause_from same ∙ cause_back d

-- causes have one that is the first
not_after_or : (s t : Shown) → IsNotAfter s t ⊎ (IsNotAfter s t → ⊥)
not_after_or s t =
    ⊎_elim (λ (h : s.place < t.place). inl (inl h))
    (λ (h : t.place ≤ s.place). ⊎_elim (λ (k : t.place < s.place). inr (λ n. ⊎_elim (λ (l : s.place < t.place). omega arith) (λ l. let e = l.0 in omega arith) n))
    (λ (k : s.place ≤ t.place). let e : s.place ≡ t.place = omega arith in
    ⊎_elim (λ (l : cause_number t.cause < cause_number s.cause). inr (λ n. ⊎_elim (λ (m : s.place < t.place). omega arith) (λ m. let f = m.1 in omega arith) n))
    (λ (l : cause_number s.cause ≤ cause_number t.cause). inl (inr (e, l))) (cases_lt (cause_number t.cause) (cause_number s.cause)))
    (cases_lt t.place s.place))
    (cases_lt s.place t.place)

first_behind : (front : List Shown) (s : Shown) (back : List Shown) → IsFirst front s → (f : Shown) × IsFirst (front ++ back) f
first_behind front s [] is = (s, subst (λ (ss : List Shown). IsFirst ss s) (sym (append-nil front)) is)
first_behind front s (t ∷ back) is =
    let step : (u : Shown) → IsFirst (front ++ t ∷ []) u → (f : Shown) × IsFirst (front ++ t ∷ back) f = λ u first.
    let h = first_behind (front ++ t ∷ []) u back first in
    (h.0, subst (λ (ss : List Shown). IsFirst ss h.0) (append_assoc front (t ∷ []) back) h.1) in
    ⊎_elim (λ keeps. step s (same_least front s t is keeps)) (λ goes. step t (new_least front s t is goes)) (not_after_or s t)

first_of : (s : Shown) (ss : List Shown) → (f : Shown) × IsFirst (s ∷ ss) f
first_of s ss = first_behind (s ∷ []) s ss (only s)

not_after : (all : List Shown) (f g : Shown) → IsFirst all f → Contains all g → IsNotAfter f g
not_after all f g is there = All-contains (IsNotAfter f) all g (All-from_recursion (IsNotAfter f) all is.least) there

one_first : (all : List Shown) (f g : Shown) → IsFirst all f → IsFirst all g → (f.place ≡ g.place) × (f.cause ≡ g.cause)
one_first all f g a b =
    ⊎_elim (λ less. ⊎_elim (λ more. absurd (omega (arith, less, more))) (λ same. absurd (omega (arith, less, same.0))) (not_after all g f b a.among))
    (λ same. ⊎_elim (λ more. absurd (omega (arith, same.0, more))) (λ back. (same.0, same_number f.cause g.cause (omega (arith, same.1, back.1)))) (not_after all g f b a.among))
    (not_after all f g a b.among)

none_first : (all : List Shown) (f : Shown) → all ≡ [] → IsFirst all f → ⊥
none_first [] f e is = omega (arith, is.among.1)
none_first (s ∷ ss) f e is = cc

-- where the lines that follow a scope are refused
pub record RefusedFrom (start : Scope) (lines : List ScriptLine) (r : Refused) : Type 0 where
  pub front : List ScriptLine
  pub line : ScriptLine
  pub back : List ScriptLine
  pub split : lines ≡ front ++ line ∷ back
  pub scope : Scope
  pub before : Leads start front scope
  pub statement : Statement
  pub is_named : IsNamed line statement
  pub numbered : r.line ≡ line.number
  pub column : 1 ≤ r.column
  pub first : IsFirst (shown scope line statement) (record { place = place_of r; cause = r.cause })

to_refused : (script : List ScriptLine) (r : Refused) → RefusedFrom nothing script r → IsRefused script r
to_refused script r h = record {
  front = h.front;
  line = h.line;
  back = h.back;
  split = h.split;
  scope = h.scope;
  before = h.before;
  statement = h.statement;
  is_named = h.is_named;
  numbered = h.numbered;
  column = h.column;
  first = h.first;
}

from_refused : (script : List ScriptLine) (r : Refused) → IsRefused script r → RefusedFrom nothing script r
from_refused script r h = record {
  front = h.front;
  line = h.line;
  back = h.back;
  split = h.split;
  scope = h.scope;
  before = h.before;
  statement = h.statement;
  is_named = h.is_named;
  numbered = h.numbered;
  column = h.column;
  first = h.first;
}

refused_here : (start : Scope) (line : ScriptLine) (lines : List ScriptLine) (s : Statement) (f : Shown) → IsNamed line s → IsFirst (shown start line s) f
    → RefusedFrom start (line ∷ lines) (record { line = line.number; column = f.place + 1; cause = f.cause })
refused_here start line lines s f named first = record {
  front = [];
  line = line;
  back = lines;
  split = refl;
  scope = start;
  before = refl;
  statement = s;
  is_named = named;
  numbered = refl;
  column = omega arith;
  first = subst (λ (k : ℕ). IsFirst (shown start line s) (record { place = k; cause = f.cause })) (sym (omega arith)) first;
}

refused_later : (start : Scope) (line : ScriptLine) (lines : List ScriptLine) (s : Statement) (r : Refused) → IsNamed line s → shown start line s ≡ [] → RefusedFrom (after start s) lines r → RefusedFrom start (line ∷ lines) r
refused_later start line lines s r named none h = record {
  front = line ∷ h.front;
  line = h.line;
  back = h.back;
  split = ap (λ ls. line ∷ ls) h.split;
  scope = h.scope;
  before = (s, named, none, h.before);
  statement = h.statement;
  is_named = h.is_named;
  numbered = h.numbered;
  column = h.column;
  first = h.first;
}

-- a plan or a refusal
abbrev IsDecided : Scope → List ScriptLine → Type 0
IsDecided start lines = ((end : Scope) × Leads start lines end) ⊎ ((r : Refused) × RefusedFrom start lines r)

decided : (start : Scope) (lines : List ScriptLine) → AllByRecursion IsReadLine lines → IsDecided start lines
decided start [] read = inl (start, refl)
decided start (line ∷ lines) read = by_shown (shown start line read.0.statement) refl (decided (after start read.0.statement) lines read.1)
  where
    by_shown : (all : List Shown) → shown start line read.0.statement ≡ all → IsDecided (after start read.0.statement) lines → IsDecided start (line ∷ lines)
    by_shown [] none others =
        ⊎_elim (λ leads. inl (leads.0, (read.0.statement, read.0.is_named, none, leads.1)))
        (λ refused. inr (refused.0, refused_later start line lines read.0.statement refused.0 read.0.is_named none refused.1)) others
    by_shown (x ∷ xs) some others =
        let f = first_of x xs in
        inr (
          record { line = line.number; column = f.0.place + 1; cause = f.0.cause },
          refused_here start line lines read.0.statement f.0 read.0.is_named (subst (λ (ss : List Shown). IsFirst ss f.0) (sym some) f.1),
        )

pub plan_or_refusal : (script : List ScriptLine) → AllByRecursion IsReadLine script → ((plan : Plan) × IsPlanOf script plan) ⊎ ((r : Refused) × IsRefused script r)
plan_or_refusal script read =
    ⊎_elim (λ leads. inl (leads.0.plan, (leads.0, leads.1, refl))) (λ refused. inr (refused.0, to_refused script refused.0 refused.1)) (decided nothing script read)

-- lines lead to one scope
pub one_end : (start : Scope) (lines : List ScriptLine) (a b : Scope) → Leads start lines a → Leads start lines b → a ≡ b
one_end start [] a b h k = h ∙ sym k
one_end start (line ∷ lines) a b h k =
    let same : h.0 ≡ k.0 = one_named line h.0 k.0 h.1 k.1 in
    one_end (after start h.0) lines a b h.3 (subst (λ (s : Statement). Leads (after start s) lines b) (sym same) k.3)

pub one_plan : (script : List ScriptLine) (p q : Plan) → IsPlanOf script p → IsPlanOf script q → p ≡ q
one_plan script p q h k = h.2 ∙ ap (λ (s : Scope). s.plan) (one_end nothing script h.0 k.0 h.1 k.1) ∙ sym k.2

-- lines that lead on show no cause
leads_past : (start : Scope) (front : List ScriptLine) (line : ScriptLine) (back : List ScriptLine) (mid end : Scope) (s : Statement) → Leads start front mid → Leads start (front ++ line ∷ back) end → IsNamed line s → shown mid line s ≡ []
leads_past start [] line back mid end s h k named =
    let same : k.0 ≡ s = one_named line k.0 s k.1 named in
    ap (λ (x : Scope). shown x line s) h ∙ ap (λ (t : Statement). shown start line t) (sym same) ∙ k.2
leads_past start (l ∷ front) line back mid end s h k named =
    let same : h.0 ≡ k.0 = one_named l h.0 k.0 h.1 k.1 in
    leads_past (after start h.0) front line back mid end s h.3 (subst (λ (t : Statement). Leads (after start t) (front ++ line ∷ back) end) (sym same) k.3) named

pub never_both : (script : List ScriptLine) (p : Plan) (r : Refused) → IsPlanOf script p → IsRefused script r → ⊥
never_both script p r h k =
    none_first (shown k.scope k.line k.statement) (record { place = place_of r; cause = r.cause })
    (leads_past nothing k.front k.line k.back k.scope h.0 k.statement k.before (subst (λ (ls : List ScriptLine). Leads nothing ls h.0) k.split h.1) k.is_named) k.first

-- lines are refused in one place for one cause
same_refusal : (scope : Scope) (line : ScriptLine) (s : Statement) (r q : Refused) → r.line ≡ line.number → q.line ≡ line.number → 1 ≤ r.column → 1 ≤ q.column
    → IsFirst (shown scope line s) (record { place = place_of r; cause = r.cause }) → IsFirst (shown scope line s) (record { place = place_of q; cause = q.cause }) → r ≡ q
same_refusal scope line s r q here there first_column other_column a b =
    let h = one_first (shown scope line s) (record { place = place_of r; cause = r.cause }) (record { place = place_of q; cause = q.cause }) a b in
    let places : place_of r ≡ place_of q = h.0 in
    let columns : r.column ≡ q.column = omega (arith, places, first_column, other_column) in
    let lines : r.line ≡ q.line = here ∙ sym there in
    ap (λ (k : ℕ). record { line = k; column = r.column; cause = r.cause }) lines ∙ ap (λ (k : ℕ). record { line = q.line; column = k; cause = r.cause }) columns
    ∙ ap (λ (c : Cause). record { line = q.line; column = q.column; cause = c }) h.1

abbrev IsOneFrom : Scope → List ScriptLine → (front back : List ScriptLine) → ScriptLine → Scope → Statement → Refused → Type 0
IsOneFrom start lines front back line scope s r =
    Leads start front scope × IsNamed line s × (r.line ≡ line.number) × (1 ≤ r.column) × IsFirst (shown scope line s) (record { place = place_of r; cause = r.cause })

one_from : (start : Scope) (xs : List ScriptLine) (l : ScriptLine) (ls : List ScriptLine) (a : Scope) (s : Statement) (r : Refused) (ys : List ScriptLine) (m : ScriptLine) (ms : List ScriptLine) (b : Scope) (t : Statement) (q : Refused)
    → xs ++ l ∷ ls ≡ ys ++ m ∷ ms → IsOneFrom start (xs ++ l ∷ ls) xs ls l a s r → IsOneFrom start (ys ++ m ∷ ms) ys ms m b t q → r ≡ q
one_from start [] l ls a s r [] m ms b t q e h k =
    let lines : l ≡ m = cc in
    let named : IsNamed l t = subst (λ (x : ScriptLine). IsNamed x t) (sym lines) k.1 in
    let same : s ≡ t = one_named l s t h.1 named in
    let scopes : a ≡ b = h.0 ∙ sym k.0 in
    let first : IsFirst (shown a l s) (record { place = place_of q; cause = q.cause }) =
    subst (λ (x : Statement). IsFirst (shown a l x) (record { place = place_of q; cause = q.cause })) (sym same)
    (subst (λ (x : Scope). IsFirst (shown x l t) (record { place = place_of q; cause = q.cause })) (sym scopes)
    (subst (λ (x : ScriptLine). IsFirst (shown b x t) (record { place = place_of q; cause = q.cause })) (sym lines) k.4)) in
    same_refusal a l s r q h.2 (k.2 ∙ ap (λ (x : ScriptLine). x.number) (sym lines)) h.3 k.3 h.4 first
one_from start [] l ls a s r (y ∷ ys) m ms b t q e h k =
    let lines : l ≡ y = cc in
    let named : IsNamed l k.0.0 = subst (λ (x : ScriptLine). IsNamed x k.0.0) (sym lines) k.0.1 in
    let same : s ≡ k.0.0 = one_named l s k.0.0 h.1 named in
    let none : shown a l s ≡ [] =
    ap (λ (x : Scope). shown x l s) h.0 ∙ ap (λ (x : ScriptLine). shown start x s) lines ∙ ap (λ (x : Statement). shown start y x) same ∙ k.0.2 in
    absurd (none_first (shown a l s) (record { place = place_of r; cause = r.cause }) none h.4)
one_from start (x ∷ xs) l ls a s r [] m ms b t q e h k =
    let lines : m ≡ x = cc in
    let named : IsNamed m h.0.0 = subst (λ (z : ScriptLine). IsNamed z h.0.0) (sym lines) h.0.1 in
    let same : t ≡ h.0.0 = one_named m t h.0.0 k.1 named in
    let none : shown b m t ≡ [] =
    ap (λ (z : Scope). shown z m t) k.0 ∙ ap (λ (z : ScriptLine). shown start z t) lines ∙ ap (λ (z : Statement). shown start x z) same ∙ h.0.2 in
    absurd (none_first (shown b m t) (record { place = place_of q; cause = q.cause }) none k.4)
one_from start (x ∷ xs) l ls a s r (y ∷ ys) m ms b t q e h k =
    let lines : x ≡ y = cc in
    let rest : xs ++ l ∷ ls ≡ ys ++ m ∷ ms = cc in
    let named : IsNamed x k.0.0 = subst (λ (z : ScriptLine). IsNamed z k.0.0) (sym lines) k.0.1 in
    let same : h.0.0 ≡ k.0.0 = one_named x h.0.0 k.0.0 h.0.1 named in
    one_from (after start h.0.0) xs l ls a s r ys m ms b t q rest (h.0.3, h.1, h.2, h.3, h.4)
    (subst (λ (z : Statement). Leads (after start z) ys b) (sym same) k.0.3, k.1, k.2, k.3, k.4)

pub one_refusal : (script : List ScriptLine) (r q : Refused) → IsRefused script r → IsRefused script q → r ≡ q
one_refusal script r q h k =
    one_from nothing h.front h.line h.back h.scope h.statement r k.front k.line k.back k.scope k.statement q (sym h.split ∙ k.split)
    (h.before, h.is_named, h.numbered, h.column, h.first) (k.before, k.is_named, k.numbered, k.column, k.first)
