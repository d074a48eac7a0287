-- Reading a text once, symbol by symbol, with two reduced words: that this accepts exactly the accepted texts.
use Rattle.std.proofs.Common.{◌≡◌, ℕ, ◌-◌, ◌<◌, Bool, true, false, ℤ, List, [], ◌∷◌, ◌++◌, length, drop, refl, sym, ap, subst, ◌∙◌, append_assoc, arith}
use Rattle.std.specs.List.{AllByRecursion, flat_map}
use Rattle.std.proofs.lemmas.List.{append-nil}
use Rattle.mg_words.specs.Word.{IsOver}
use Rattle.mg_words.specs.Reduction.{free_form}
use Rattle.mg_words.proofs.Free.{free_form-left, free_form-free_form, free_form-reduced, same_form, freely_from_form, IsOver-free_form}
use Rattle.mg_words.proofs.Chains.{IsOver-append, IsOver-inv}
use Rattle.mg_present.specs.Ask.{Inquiry, IsAsked, IsReducedOver}
use Rattle.mg_present.specs.Presentation.{IsRelator}
use Rattle.mg_present.specs.Same.{signed}
use Rattle.mg_derive.specs.declared.symbol.Symbol.{Symbol}
use Rattle.mg_derive.specs.declared.symbol.Symbol.TheVariants.{Letter, Relator, Member, Cut}
use Rattle.mg_derive.specs.Symbols.{IsSymbolOf, word_of, letter_of, written_out, letters_alone}
use Rattle.mg_derive.specs.Reading.{Runs}
use Rattle.mg_derive.specs.Acceptance.{IsOfGroup, IsMember, IsInOrder, Vanishes, Write, IsAccepted}
use Rattle.mg_derive.proofs.Lists.{all_append, all_left, all_right, all_at}

-- letters and relator signs, and then member signs alone, where the part may have begun before
abbrev pub InOrder : Bool → List Symbol → Type 0
InOrder members [] = Unit {0}
InOrder members (Letter x ∷ part) = (members ≡ false) × InOrder false part
InOrder members (Relator place inverse ∷ part) = (members ≡ false) × InOrder false part
InOrder members (Member place inverse ∷ part) = InOrder true part
InOrder members (Cut ∷ part) = ⊥

in_order_members : (members : Bool) (part : List Symbol) → AllByRecursion IsMember part → InOrder members part
in_order_members members [] h = tt
in_order_members members (Letter x ∷ part) h = absurd h.0
in_order_members members (Relator place inverse ∷ part) h = absurd h.0
in_order_members members (Member place inverse ∷ part) h = in_order_members true part h.1
in_order_members members (Cut ∷ part) h = absurd h.0

in_order_split : (front back : List Symbol) → AllByRecursion IsOfGroup front → AllByRecursion IsMember back → InOrder false (front ++ back)
in_order_split [] back h k = in_order_members false back k
in_order_split (Letter x ∷ front) back h k = (refl, in_order_split front back h.1 k)
in_order_split (Relator place inverse ∷ front) back h k = (refl, in_order_split front back h.1 k)
in_order_split (Member place inverse ∷ front) back h k = absurd h.0
in_order_split (Cut ∷ front) back h k = absurd h.0

pub in_order_from : (part : List Symbol) → IsInOrder part → InOrder false part
in_order_from part h = subst (λ (t : List Symbol). InOrder false t) (sym h.split) (in_order_split h.front h.back h.of_group h.members)

members_alone : (part : List Symbol) → InOrder true part → AllByRecursion IsMember part
members_alone [] h = tt
members_alone (Letter x ∷ part) h = cc
members_alone (Relator place inverse ∷ part) h = cc
members_alone (Member place inverse ∷ part) h = (tt, members_alone part h)
members_alone (Cut ∷ part) h = absurd h

in_order_cons : (symbol : Symbol) (part : List Symbol) → IsOfGroup symbol → IsInOrder part → IsInOrder (symbol ∷ part)
in_order_cons symbol part s h =
    record { front = symbol ∷ h.front; back = h.back; split = ap (λ t. symbol ∷ t) h.split; of_group = (s, h.of_group); members = h.members }

pub in_order_to : (part : List Symbol) → InOrder false part → IsInOrder part
in_order_to [] h = record { front = []; back = []; split = refl; of_group = tt; members = tt }
in_order_to (Letter x ∷ part) h = in_order_cons (Letter x) part tt (in_order_to part h.1)
in_order_to (Relator place inverse ∷ part) h = in_order_cons (Relator place inverse) part tt (in_order_to part h.1)
in_order_to (Member place inverse ∷ part) h =
    record { front = []; back = Member place inverse ∷ part; split = refl; of_group = tt; members = (tt, members_alone part h) }
in_order_to (Cut ∷ part) h = absurd h

-- ---- words of symbols are over the generators

over_signed : (m : ℕ) (inverse : Bool) (w : List ℤ) → IsOver m w → IsOver m (signed inverse w)
over_signed m false w h = h
over_signed m true w h = IsOver-inv m w h

word_over : (ask : Inquiry) (symbol : Symbol) → IsAsked ask → IsSymbolOf ask symbol → IsOver ask.group.generators (word_of ask symbol)
word_over ask (Letter x) a s = (s, tt)
word_over ask (Relator place inverse) a s =
    let r = all_at (IsRelator ask.group.generators) ask.group.relators (place - 1) [] a.group.relators (omega (arith, s.least, s.most)) in
    over_signed ask.group.generators inverse _ r.over
word_over ask (Member place inverse) a s =
    let r = all_at (IsReducedOver ask.group.generators) ask.subgroup (place - 1) [] a.words.subgroup_words (omega (arith, s.least, s.most)) in
    over_signed ask.group.generators inverse _ r.over
word_over ask Cut a s = tt

letter_over : (ask : Inquiry) (symbol : Symbol) → IsSymbolOf ask symbol → IsOver ask.group.generators (letter_of symbol)
letter_over ask (Letter x) s = (s, tt)
letter_over ask (Relator place inverse) s = tt
letter_over ask (Member place inverse) s = tt
letter_over ask Cut s = tt

pub written_over : (ask : Inquiry) (part : List Symbol) → IsAsked ask → AllByRecursion (IsSymbolOf ask) part → IsOver ask.group.generators (written_out ask part)
written_over ask [] a h = tt
written_over ask (symbol ∷ part) a h =
    IsOver-append ask.group.generators (word_of ask symbol) (written_out ask part) (word_over ask symbol a h.0) (written_over ask part a h.1)

pub letters_over : (ask : Inquiry) (part : List Symbol) → AllByRecursion (IsSymbolOf ask) part → IsOver ask.group.generators (letters_alone part)
letters_over ask [] h = tt
letters_over ask (symbol ∷ part) h =
    IsOver-append ask.group.generators (letter_of symbol) (letters_alone part) (letter_over ask symbol h.0) (letters_over ask part h.1)

-- ---- from the one pass to the parts

abbrev closed : List Symbol → List Symbol
closed part = part ++ Cut ∷ []

-- a text in parts, one for each of some goals
record Parted (ask : Inquiry) (goals : List (List ℤ)) (text : List Symbol) : Type 0 where
  symbols : AllByRecursion (IsSymbolOf ask) text
  parts : List (List Symbol)
  cut : text ≡ flat_map closed parts
  in_order : AllByRecursion IsInOrder parts
  vanish : AllByRecursion (Vanishes ask) parts
  write : Write ask parts goals

-- the first part of a text, where a part is being read, and the parts after its cut
record Part (ask : Inquiry) (text : List Symbol) (goals : List (List ℤ)) (members : Bool) (letters written : List ℤ) : Type 0 where
  part : List Symbol
  rest : List Symbol
  split : text ≡ part ++ Cut ∷ rest
  symbols : AllByRecursion (IsSymbolOf ask) part
  order : InOrder members part
  vanish : free_form (letters ++ letters_alone part) ≡ []
  goal : goals ≡ free_form (written ++ written_out ask part) ∷ drop 1 goals
  others : Parted ask (drop 1 goals) rest

step_form : (l a b : List ℤ) → free_form (free_form (l ++ a) ++ b) ≡ free_form (l ++ (a ++ b))
step_form l a b = sym (free_form-left (l ++ a) b) ∙ ap free_form (append_assoc l a b)

take_form : (l : List ℤ) → free_form l ≡ l → free_form (l ++ []) ≡ l
take_form l h = ap free_form (append-nil l) ∙ h

-- a symbol before the first part
longer : (ask : Inquiry) (symbol : Symbol) (text : List Symbol) (goals : List (List ℤ)) (members next : Bool) (letters letters' written : List ℤ)
    → IsSymbolOf ask symbol → ((part : List Symbol) → InOrder next part → InOrder members (symbol ∷ part))
    → ((b : List ℤ) → free_form (letters' ++ b) ≡ free_form (letters ++ (letter_of symbol ++ b)))
    → Part ask text goals next letters' (free_form (written ++ word_of ask symbol)) → Part ask (symbol ∷ text) goals members letters written
longer ask symbol text goals members next letters letters' written s o l p =
    record {
      part = symbol ∷ p.part;
      rest = p.rest;
      split = ap (λ t. symbol ∷ t) p.split;
      symbols = (s, p.symbols);
      order = o p.part p.order;
      vanish = sym (l (letters_alone p.part)) ∙ p.vanish;
      goal = p.goal ∙ ap (λ t. t ∷ drop 1 goals) (step_form written (word_of ask symbol) (written_out ask p.part));
      others = p.others;
    }

-- the first part, closed by its cut, and the other parts
parted_cons : (ask : Inquiry) (goal : List ℤ) (goals : List (List ℤ)) (text : List Symbol) → IsAsked ask → Part ask text (goal ∷ goals) false [] [] → Parted ask (goal ∷ goals) text
parted_cons ask goal goals text a p =
    let m = ask.group.generators in
    let e : goal ≡ free_form (written_out ask p.part) = cc (p.goal) in
    let over = written_over ask p.part a p.symbols in
    record {
      symbols = subst (λ (t : List Symbol). AllByRecursion (IsSymbolOf ask) t) (sym p.split) (all_append (IsSymbolOf ask) p.part (Cut ∷ p.rest) p.symbols (tt, p.others.symbols));
      parts = p.part ∷ p.others.parts;
      cut = p.split ∙ (ap (λ t. p.part ++ Cut ∷ t) p.others.cut ∙ sym (append_assoc p.part (Cut ∷ []) (flat_map closed p.others.parts)));
      in_order = (in_order_to p.part p.order, p.others.in_order);
      vanish = (freely_from_form m (letters_alone p.part) [] (letters_over ask p.part p.symbols) tt p.vanish, p.others.vanish);
      write = (
        freely_from_form m (written_out ask p.part) goal over
            (subst (λ (t : List ℤ). IsOver m t) (sym e) (IsOver-free_form m (written_out ask p.part) over))
            (sym (ap free_form e ∙ free_form-free_form (written_out ask p.part))),
        p.others.write,
      );
    }

parted_start : (ask : Inquiry) (text : List Symbol) (goals : List (List ℤ)) → IsAsked ask
    → (0 < length goals → Part ask text goals false [] []) → Runs ask text goals false [] [] → Parted ask goals text
parted_start ask [] [] a p h = record { symbols = tt; parts = []; cut = refl; in_order = tt; vanish = tt; write = tt }
parted_start ask (symbol ∷ text) [] a p h = absurd (omega (arith, h.0))
parted_start ask text (goal ∷ goals) a p h = parted_cons ask goal goals text a (p (omega arith))

part_of : (ask : Inquiry) (text : List Symbol) (goals : List (List ℤ)) (members : Bool) (letters written : List ℤ) → IsAsked ask
    → 0 < length goals → free_form letters ≡ letters → free_form written ≡ written → Runs ask text goals members letters written → Part ask text goals members letters written
part_of ask [] goals members letters written a g l w h = absurd (omega (arith, ap length h))
part_of ask (Letter x ∷ text) goals members letters written a g l w h =
    longer ask (Letter x) text goals members false letters (free_form (letters ++ x ∷ [])) written h.1 (λ part o. (h.2.0, o)) (λ b. step_form letters (x ∷ []) b)
    (part_of ask text goals false (free_form (letters ++ x ∷ [])) (free_form (written ++ x ∷ [])) a g (free_form-free_form (letters ++ x ∷ [])) (free_form-free_form (written ++ x ∷ [])) h.2.1)
part_of ask (Relator place inverse ∷ text) goals members letters written a g l w h =
    let u = word_of ask (Relator place inverse) in
    longer ask (Relator place inverse) text goals members false letters letters written h.1 (λ part o. (h.2.0, o)) (λ b. refl)
    (part_of ask text goals false letters (free_form (written ++ u)) a g l (free_form-free_form (written ++ u)) h.2.1)
part_of ask (Member place inverse ∷ text) goals members letters written a g l w h =
    let u = word_of ask (Member place inverse) in
    longer ask (Member place inverse) text goals members true letters letters written h.1 (λ part o. o) (λ b. refl)
    (part_of ask text goals true letters (free_form (written ++ u)) a g l (free_form-free_form (written ++ u)) h.2)
part_of ask (Cut ∷ text) goals members letters written a g l w h =
    record {
      part = [];
      rest = text;
      split = refl;
      symbols = tt;
      order = tt;
      vanish = take_form letters l ∙ h.2.1;
      goal = h.2.0 ∙ ap (λ t. t ∷ drop 1 goals) (sym (take_form written w));
      others = parted_start ask text (drop 1 goals) a (λ some. part_of ask text (drop 1 goals) false [] [] a some refl refl h.2.2) h.2.2;
    }

-- what the one pass accepts is accepted
pub accepted_from_runs : (ask : Inquiry) (text : List Symbol) → IsAsked ask → Runs ask text ask.goals false [] [] → IsAccepted ask text
accepted_from_runs ask text a h =
    let p = parted_start ask text ask.goals a (λ some. part_of ask text ask.goals false [] [] a some refl refl h) h in
    record { symbols = p.symbols; parts = p.parts; cut = p.cut; in_order = p.in_order; vanish = p.vanish; write = p.write }

-- ---- from the parts to the one pass

run_part : (ask : Inquiry) (part rest : List Symbol) (goals : List (List ℤ)) (members : Bool) (letters written : List ℤ)
    → 0 < length goals → free_form letters ≡ letters → free_form written ≡ written → AllByRecursion (IsSymbolOf ask) part → InOrder members part
    → free_form (letters ++ letters_alone part) ≡ [] → goals ≡ free_form (written ++ written_out ask part) ∷ drop 1 goals
    → Runs ask rest (drop 1 goals) false [] [] → Runs ask (part ++ Cut ∷ rest) goals members letters written
run_part ask [] rest goals members letters written g l w s o v e r =
    (g, tt, (e ∙ ap (λ t. t ∷ drop 1 goals) (take_form written w), sym (take_form letters l) ∙ v, r))
run_part ask (Letter x ∷ part) rest goals members letters written g l w s o v e r = (
  g,
  s.0,
  (
    o.0,
    run_part ask part rest goals false (free_form (letters ++ x ∷ [])) (free_form (written ++ x ∷ [])) g (free_form-free_form (letters ++ x ∷ [])) (free_form-free_form (written ++ x ∷ [])) s.1 o.1
        (step_form letters (x ∷ []) (letters_alone part) ∙ v) (e ∙ ap (λ t. t ∷ drop 1 goals) (sym (step_form written (x ∷ []) (written_out ask part)))) r,
  ),
)
run_part ask (Relator place inverse ∷ part) rest goals members letters written g l w s o v e r =
    let u = word_of ask (Relator place inverse) in (
      g,
      s.0,
      (
        o.0,
        run_part ask part rest goals false letters (free_form (written ++ u)) g l (free_form-free_form (written ++ u)) s.1 o.1
            v (e ∙ ap (λ t. t ∷ drop 1 goals) (sym (step_form written u (written_out ask part)))) r,
      ),
    )
run_part ask (Member place inverse ∷ part) rest goals members letters written g l w s o v e r =
    let u = word_of ask (Member place inverse) in (
      g,
      s.0,
      run_part ask part rest goals true letters (free_form (written ++ u)) g l (free_form-free_form (written ++ u)) s.1 o
          v (e ∙ ap (λ t. t ∷ drop 1 goals) (sym (step_form written u (written_out ask part)))) r,
    )
run_part ask (Cut ∷ part) rest goals members letters written g l w s o v e r = absurd o

run_parts : (ask : Inquiry) (parts : List (List Symbol)) (goals : List (List ℤ)) → AllByRecursion (IsReducedOver ask.group.generators) goals → AllByRecursion (IsSymbolOf ask) (flat_map closed parts)
    → AllByRecursion IsInOrder parts → AllByRecursion (Vanishes ask) parts → Write ask parts goals → Runs ask (flat_map closed parts) goals false [] []
run_parts ask [] [] g s o v w = refl
run_parts ask [] (goal ∷ goals) g s o v w = absurd w
run_parts ask (part ∷ parts) [] g s o v w = absurd w
run_parts ask (part ∷ parts) (goal ∷ goals) g s o v w =
    let m = ask.group.generators in
    let rest = flat_map closed parts in
    let e = append_assoc part (Cut ∷ []) rest in
    let s' : AllByRecursion (IsSymbolOf ask) (part ++ Cut ∷ rest) = subst (λ (t : List Symbol). AllByRecursion (IsSymbolOf ask) t) e s in
    let f : goal ∷ goals ≡ free_form (written_out ask part) ∷ goals = ap (λ t. t ∷ goals) (sym (same_form m (written_out ask part) goal w.0 ∙ free_form-reduced goal g.0.reduced)) in
    subst (λ (t : List Symbol). Runs ask t (goal ∷ goals) false [] []) (sym e)
    (run_part ask part rest (goal ∷ goals) false [] [] (omega arith) refl refl (all_left (IsSymbolOf ask) part (Cut ∷ rest) s') (in_order_from part o.0)
    (same_form m (letters_alone part) [] v.0) f
    (run_parts ask parts goals g.1 (all_right (IsSymbolOf ask) part (Cut ∷ rest) s').1 o.1 v.1 w.1))

-- what is accepted the one pass accepts
pub runs_from_accepted : (ask : Inquiry) (text : List Symbol) → IsAsked ask → IsAccepted ask text → Runs ask text ask.goals false [] []
runs_from_accepted ask text a h =
    let s : AllByRecursion (IsSymbolOf ask) (flat_map closed h.parts) = subst (λ (t : List Symbol). AllByRecursion (IsSymbolOf ask) t) h.cut h.symbols in
    subst (λ (t : List Symbol). Runs ask t ask.goals false [] []) (sym h.cut) (run_parts ask h.parts ask.goals a.words.goal_words s h.in_order h.vanish h.write)
