-- What the lines so far come to, as they are gone through.
use Rattle.std.proofs.Common.{◌≡◌, ℕ, ◌+◌, ◌-◌, ◌^◌, ◌<◌, ◌≤◌, Option, Some, None, List, [], ◌∷◌, ◌++◌, length, get_or, take, drop, refl, sym, ap, subst, ◌∙◌, append_assoc, arith}
use Rattle.std.proofs.lemmas.List.{take_more, take_all, take-append-drop, length-append, length-take}
use Rattle.std.proofs.lemmas.List.Elements.{All-from_recursion}
use Rattle.mg_lex.specs.declared.refusal.Refused.{Refused}
use Rattle.mg_lex.specs.Refusal.{place_of}
use Rattle.mg_script.specs.declared.script.ScriptLine.{ScriptLine}
use Rattle.mg_script.specs.Script.{IsScript}
use Rattle.mg_names.specs.declared.least.Fault.{Fault}
use Rattle.mg_names.specs.declared.resolver.Resolver.{Resolver}
use Rattle.mg_names.specs.Named.{Statement, IsNamed}
use Rattle.mg_names.specs.Scope.{Scope, nothing}
use Rattle.mg_names.specs.Meaning.{after}
use Rattle.mg_names.specs.Cause.{shown, IsFirst}
use Rattle.mg_names.specs.Resolve.{Leads, IsPlanOf, IsRefused}
use Rattle.mg_names.specs.Least.{IsLeastOf, least_of}
use Rattle.mg_names.specs.Keeping.{Keeps, IsSound, Resolved}
use Rattle.mg_names.specs.Within.{IsScope, IsReadLine}
use Rattle.mg_names.proofs.Lines.{all_read, script_few}
use Rattle.mg_names.proofs.Places.{first_within}
use Rattle.mg_names.proofs.Scopes.{nothing_is, after_keeps}

-- the lines lead to a scope, of which all but the questions is kept
pub record IsLedTo (lines : List ScriptLine) (r : Resolver) : Type 0 where
  pub scope : Scope
  pub leads : Leads nothing lines scope
  pub keeps : Keeps scope r
  pub within : IsScope (length lines) scope

pub led_nothing : (r : Resolver) → Keeps nothing r → IsLedTo [] r
led_nothing r keeps = record { scope = nothing; leads = refl; keeps = keeps; within = nothing_is }

leads_more : (start : Scope) (front : List ScriptLine) (line : ScriptLine) (mid : Scope) (s : Statement) → Leads start front mid → IsNamed line s → shown mid line s ≡ [] → Leads start (front ++ line ∷ []) (after mid s)
leads_more start [] line mid s leads named none =
    (s, named, subst (λ (x : Scope). shown x line s ≡ []) leads none, ap (λ (x : Scope). after x s) leads)
leads_more start (l ∷ front) line mid s leads named none = (leads.0, leads.1, leads.2, leads_more (after start leads.0) front line mid s leads.3 named none)

-- what a line that is gone through brings
abbrev pub Brings : ScriptLine → Resolver → Option Fault → Resolver → Type 0
Brings line old fault new = (scope : Scope) (s : Statement) → Keeps scope old → IsNamed line s → Resolved scope line s (least_of fault) new

read_at : (bytes : List ℕ) (script : List ScriptLine) → IsScript bytes script → (i : ℕ) (line : ScriptLine) → i < length script → line ≡ get_or script i line → IsReadLine line
read_at bytes script is i line less e = subst IsReadLine (sym e) (All-from_recursion IsReadLine script (all_read bytes script is) i line less)

pub line_read : (bytes : List ℕ) (script lines : List ScriptLine) → IsScript bytes script → lines ≡ script → (i : ℕ) (line : ScriptLine) → i < length lines → line ≡ get_or lines i line → IsReadLine line
line_read bytes script lines is same i line less e =
    read_at bytes script is i line (subst (λ (ls : List ScriptLine). i < length ls) same less) (subst (λ (ls : List ScriptLine). line ≡ get_or ls i line) same e)

pub led_sound : (bytes : List ℕ) (script lines : List ScriptLine) → IsScript bytes script → length bytes < 2 ^ 32 - 1 → lines ≡ script → (i : ℕ) (r : Resolver) → IsLedTo (take i lines) r → IsSound r
led_sound bytes script lines is short same i r led =
    let few = script_few bytes script is in
    record { scope = led.scope; lines = length (take i lines); keeps = led.keeps; within = led.within; few = omega (arith, few, short, ap length same, length-take i lines) }

pub led_more : (lines : List ScriptLine) (i : ℕ) (line : ScriptLine) (old new : Resolver) (fault : Option Fault) → i < length lines → line ≡ get_or lines i line → IsReadLine line → IsLedTo (take i lines) old → Brings line old fault new → fault ≡ None
    → IsLedTo (take (i + 1) lines) new
led_more lines i line old new fault less e read led brings none =
    let resolved = brings led.scope read.statement led.keeps read.is_named in
    let shows : shown led.scope line read.statement ≡ [] = subst (λ (o : Option Fault). IsLeastOf (shown led.scope line read.statement) (least_of o)) none resolved.shows in
    let next : take (i + 1) lines ≡ take i lines ++ line ∷ [] = take_more lines i line less ∙ ap (λ (x : ScriptLine). take i lines ++ x ∷ []) (sym e) in
    let kept : Keeps (after led.scope read.statement) new = resolved.keeps (ap least_of none) in
    subst (λ (ls : List ScriptLine). IsLedTo ls new) (sym next)
    (record {
      scope = after led.scope read.statement;
      leads = leads_more nothing (take i lines) line led.scope read.statement led.leads read.is_named shows;
      keeps = kept;
      within = subst (λ (n : ℕ). IsScope n (after led.scope read.statement)) (sym (omega (arith, length-append (take i lines) (line ∷ []))))
          (after_keeps (length (take i lines)) led.scope line read.statement led.within read.sized shows);
    })

pub fault_within : (lines : List ScriptLine) (i : ℕ) (line : ScriptLine) (old new : Resolver) (fault : Option Fault) (f : Fault) → IsReadLine line → IsLedTo (take i lines) old → Brings line old fault new → fault ≡ Some f → f.place < 2 ^ 32 - 1
fault_within lines i line old new fault f read led brings some =
    let resolved = brings led.scope read.statement led.keeps read.is_named in
    let first : IsFirst (shown led.scope line read.statement) (record { place = f.place; cause = f.cause }) =
    subst (λ (o : Option Fault). IsLeastOf (shown led.scope line read.statement) (least_of o)) some resolved.shows in
    let within = first_within led.scope line read.statement (record { place = f.place; cause = f.cause }) read.is_named read.places first in
    omega (arith, within)

pub led_refused : (script lines : List ScriptLine) (i : ℕ) (line : ScriptLine) (old new : Resolver) (fault : Option Fault) (f : Fault) (r : Refused) → lines ≡ script → i < length lines → line ≡ get_or lines i line → IsReadLine line → IsLedTo (take i lines) old
    → Brings line old fault new → fault ≡ Some f → r.line ≡ line.number → r.column ≡ f.place + 1 → r.cause ≡ f.cause → IsRefused script r
led_refused script lines i line old new fault f r same less e read led brings some number column cause =
    let resolved = brings led.scope read.statement led.keeps read.is_named in
    let first : IsFirst (shown led.scope line read.statement) (record { place = f.place; cause = f.cause }) =
    subst (λ (o : Option Fault). IsLeastOf (shown led.scope line read.statement) (least_of o)) some resolved.shows in
    let places : f.place ≡ place_of r = omega (arith, column) in
    let whole : lines ≡ take i lines ++ line ∷ drop (i + 1) lines =
    sym (take-append-drop (i + 1) lines) ∙ ap (λ (ls : List ScriptLine). ls ++ drop (i + 1) lines) (take_more lines i line less ∙ ap (λ (x : ScriptLine). take i lines ++ x ∷ []) (sym e))
    ∙ append_assoc (take i lines) (line ∷ []) (drop (i + 1) lines) in
    record {
      front = take i lines;
      line = line;
      back = drop (i + 1) lines;
      split = sym same ∙ whole;
      scope = led.scope;
      before = led.leads;
      statement = read.statement;
      is_named = read.is_named;
      numbered = number;
      column = omega (arith, column);
      first = subst (λ (k : ℕ). IsFirst (shown led.scope line read.statement) (record { place = k; cause = r.cause })) places
          (subst (λ c. IsFirst (shown led.scope line read.statement) (record { place = f.place; cause = c })) (sym cause) first);
    }

pub led_plan : (script lines : List ScriptLine) (i : ℕ) (r : Resolver) → lines ≡ script → length lines ≤ i → IsLedTo (take i lines) r → IsPlanOf script r.plan
led_plan script lines i r same past led =
    let all : take i lines ≡ script = take_all i lines past ∙ same in
    (led.scope, subst (λ (ls : List ScriptLine). Leads nothing ls led.scope) all led.leads, led.keeps.plan)

pub led_start : (lines : List ScriptLine) (r : Resolver) → Keeps nothing r → IsLedTo (take 0 lines) r
led_start [] r keeps = led_nothing r keeps
led_start (line ∷ lines) r keeps = led_nothing r keeps
