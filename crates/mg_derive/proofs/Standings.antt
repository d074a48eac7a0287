-- The standings that symbols lead a reader to: what follows from one, and how it is left again.
use Rattle.std.proofs.Common.{◌≡◌, ℕ, ◌+◌, ◌-◌, ◌*◌, ◌<◌, ◌≤◌, Bool, true, false, ℤ, List, [], ◌∷◌, ◌++◌, length, get_or, drop, take, refl, sym, ap, subst, inl, inr, ◌∙◌, append_assoc, arith}
use Rattle.std.specs.Prelude.{◌↔◌, slice_get, Some, None}
use Rattle.std.specs.List.{AllByRecursion}
use Rattle.std.proofs.lemmas.List.{append-nil, length-append, length-drop, drop_more, drop-drop, take_more, take_all}
use Rattle.std.proofs.lemmas.Option.{slice_get_within, get_or_from_slice_get, slice_get-get_or}
use Rattle.std.proofs.Math.Nat.{mul-le-mul_left}
use Rattle.mg_words.specs.Word.{IsReduced, inv}
use Rattle.mg_words.specs.Reduction.{free_form}
use Rattle.mg_words.proofs.Free.{free_form-reduced, IsReduced-free_form, IsReduced-nil, reduced_as_form}
use Rattle.mg_words.proofs.Chains.{length-inv}
use Rattle.mg_present.specs.Ask.{Inquiry, IsAsked}
use Rattle.mg_derive.specs.declared.symbol.Symbol.{Symbol}
use Rattle.mg_derive.specs.declared.symbol.Symbol.TheVariants.{Letter, Relator, Member, Cut}
use Rattle.mg_derive.specs.Symbols.{IsSymbolOf, word_of, letter_of, written_out, letters_alone}
use Rattle.mg_derive.specs.Acceptance.{IsAccepted}
use Rattle.mg_derive.specs.Reading.{Runs, Standing, at_first, is_member, goal_after, written_after, Takes, Leads, ends_in_member}
use Rattle.mg_derive.specs.Room.{Room, HasRoom, HasRoomForLength}
use Rattle.mg_derive.specs.declared.walk.TheConstants.{SEARCHED_SYMBOLS}
use Rattle.mg_derive.specs.Walk.{NoneFollow, WritesAtMost, IsShort, InReach}
use Rattle.mg_derive.proofs.Lists.{all_append}
use Rattle.mg_derive.proofs.Parts.{accepted_from_runs, runs_from_accepted}
use Rattle.mg_derive.proofs.Ends.{room_for_cuts}
use Rattle.mg_derive.proofs.Steps.{product_length, undone}

-- ---- a word taken back

pub nothing_more : (u : List ℤ) → IsReduced u → free_form (u ++ []) ≡ u
nothing_more u h = ap free_form (append-nil u) ∙ free_form-reduced u h

back_length : (u w : List ℤ) → IsReduced u → length u ≤ length (free_form (u ++ w)) + length w
back_length u w h = omega (arith, product_length (free_form (u ++ w)) (inv w) u (sym (undone u w h)), length-inv w)

-- ---- texts with one symbol more or less

pub leads_on : (ask : Inquiry) (text : List Symbol) (symbol : Symbol) (a b c : Standing) → Leads ask text a b → Takes ask symbol b c → Leads ask (text ++ symbol ∷ []) a c
leads_on ask [] symbol a b c l t = (c, subst (λ (s : Standing). Takes ask symbol s c) (sym l) t, refl)
leads_on ask (x ∷ text) symbol a b c l t = (l.0, l.1, leads_on ask text symbol l.0 b c l.2 t)

pub leads_back : (ask : Inquiry) (text : List Symbol) (symbol : Symbol) (a c : Standing) → Leads ask (text ++ symbol ∷ []) a c → (b : Standing) × Leads ask text a b × Takes ask symbol b c
leads_back ask [] symbol a c l = (a, refl, subst (λ (s : Standing). Takes ask symbol a s) l.2 l.1)
leads_back ask (x ∷ text) symbol a c l = let r = leads_back ask text symbol l.0 c l.2 in (r.0, (l.0, l.1, r.1), r.2)

pub symbols_read : (ask : Inquiry) (text : List Symbol) (a b : Standing) → Leads ask text a b → AllByRecursion (IsSymbolOf ask) text
symbols_read ask [] a b l = tt
symbols_read ask (x ∷ text) a b l = (l.1.is_symbol, symbols_read ask text l.0 b l.2)

-- ---- what holds of every standing

pub record IsStanding (ask : Inquiry) (at : Standing) : Type 0 where
  pub goal : at.goal ≤ length ask.goals
  pub letters : IsReduced at.letters
  pub written : IsReduced at.written

written_reduced : (ask : Inquiry) (symbol : Symbol) (w : List ℤ) → IsReduced (written_after ask symbol w)
written_reduced ask (Letter x) w = IsReduced-free_form (w ++ x ∷ [])
written_reduced ask (Relator place inverse) w = IsReduced-free_form (w ++ word_of ask (Relator place inverse))
written_reduced ask (Member place inverse) w = IsReduced-free_form (w ++ word_of ask (Member place inverse))
written_reduced ask Cut w = IsReduced-nil

goal_within : (ask : Inquiry) (symbol : Symbol) (a b : Standing) → Takes ask symbol a b → b.goal ≤ length ask.goals
goal_within ask (Letter x) a b t = omega (arith, t.goal, t.some)
goal_within ask (Relator place inverse) a b t = omega (arith, t.goal, t.some)
goal_within ask (Member place inverse) a b t = omega (arith, t.goal, t.some)
goal_within ask Cut a b t = omega (arith, t.goal, t.some)

stands_next : (ask : Inquiry) (symbol : Symbol) (a b : Standing) → Takes ask symbol a b → IsStanding ask b
stands_next ask symbol a b t = record {
  goal = goal_within ask symbol a b t;
  letters = reduced_as_form (a.letters ++ letter_of symbol) b.letters t.letters;
  written = subst IsReduced (sym t.written) (written_reduced ask symbol a.written);
}

stands_on : (ask : Inquiry) (text : List Symbol) (a b : Standing) → IsStanding ask a → Leads ask text a b → IsStanding ask b
stands_on ask [] a b s l = subst (λ (t : Standing). IsStanding ask t) l s
stands_on ask (x ∷ text) a b s l = stands_on ask text l.0 b (stands_next ask x a l.0 l.1) l.2

stands_at_first : (ask : Inquiry) → IsStanding ask at_first
stands_at_first ask = record { goal = omega arith; letters = IsReduced-nil; written = IsReduced-nil }

pub stands : (ask : Inquiry) (text : List Symbol) (b : Standing) → Leads ask text at_first b → IsStanding ask b
stands ask text b l = stands_on ask text at_first b (stands_at_first ask) l

-- the member sign at the end
members_of : (ask : Inquiry) (symbol : Symbol) (text : List Symbol) (a b : Standing) → Leads ask (symbol ∷ text) a b → b.members ≡ ends_in_member (symbol ∷ text)
members_of ask symbol [] a b l = sym (ap (λ (s : Standing). s.members) l.2) ∙ l.1.members
members_of ask symbol (other ∷ text) a b l = members_of ask other text l.0 b l.2

pub members_read : (ask : Inquiry) (text : List Symbol) (b : Standing) → Leads ask text at_first b → b.members ≡ ends_in_member text
members_read ask [] b l = sym (ap (λ (s : Standing). s.members) l)
members_read ask (symbol ∷ text) b l = members_of ask symbol text at_first b l

member_at_end : (front : List Symbol) (symbol : Symbol) → ends_in_member (front ++ symbol ∷ []) ≡ is_member symbol
member_at_end [] symbol = refl
member_at_end (x ∷ []) symbol = refl
member_at_end (x ∷ y ∷ front) symbol = member_at_end (y ∷ front) symbol

pub last_member : (text : List Symbol) (symbol : Symbol) → slice_get text (length text - 1) ≡ Some symbol → ends_in_member text ≡ is_member symbol
last_member text symbol e =
    let i : ℕ = length text - 1 in
    let within = slice_get_within text i symbol e in
    let split : text ≡ take i text ++ symbol ∷ [] =
    sym (take_all (i + 1) text (omega arith)) ∙ (take_more text i symbol within ∙ ap (λ x. take i text ++ x ∷ []) (get_or_from_slice_get text i symbol symbol e)) in
    ap ends_in_member split ∙ member_at_end (take i text) symbol

pub no_last_member : (text : List Symbol) → slice_get text (length text - 1) ≡ None → ends_in_member text ≡ false
no_last_member [] e = refl
no_last_member (symbol ∷ text) e =
    let some = slice_get-get_or (symbol ∷ text) (length (symbol ∷ text) - 1) symbol (omega arith) in
    let none : None ≡ Some (get_or (symbol ∷ text) (length (symbol ∷ text) - 1) symbol) = sym e ∙ some in
    cc none

-- ---- lengths

written_longer : (ask : Inquiry) (symbol : Symbol) (w : List ℤ) → length (written_after ask symbol w) ≤ length w + length (word_of ask symbol)
written_longer ask (Letter x) w = product_length w (x ∷ []) _ refl
written_longer ask (Relator place inverse) w = product_length w (word_of ask (Relator place inverse)) _ refl
written_longer ask (Member place inverse) w = product_length w (word_of ask (Member place inverse)) _ refl
written_longer ask Cut w = omega arith

letters_on : (ask : Inquiry) (text : List Symbol) (a b : Standing) → Leads ask text a b → length b.letters ≤ length a.letters + length (letters_alone text)
letters_on ask [] a b l = omega (arith, ap (λ (s : Standing). length s.letters) l)
letters_on ask (x ∷ text) a b l =
    omega (arith, letters_on ask text l.0 b l.2, product_length a.letters (letter_of x) l.0.letters l.1.letters, length-append (letter_of x) (letters_alone text))

written_on : (ask : Inquiry) (text : List Symbol) (a b : Standing) → Leads ask text a b → length b.written ≤ length a.written + length (written_out ask text)
written_on ask [] a b l = omega (arith, ap (λ (s : Standing). length s.written) l)
written_on ask (x ∷ text) a b l =
    omega (arith, written_on ask text l.0 b l.2, ap length l.1.written, written_longer ask x a.written, length-append (word_of ask x) (written_out ask text))

pub letters_read : (ask : Inquiry) (text : List Symbol) (b : Standing) → Leads ask text at_first b → length b.letters ≤ length (letters_alone text)
letters_read ask text b l = omega (arith, letters_on ask text at_first b l)

pub written_read : (ask : Inquiry) (text : List Symbol) (b : Standing) → Leads ask text at_first b → length b.written ≤ length (written_out ask text)
written_read ask text b l = omega (arith, written_on ask text at_first b l)

-- ---- room for one symbol more

letters_push : (text : List Symbol) (symbol : Symbol) → length (letters_alone (text ++ symbol ∷ [])) ≡ length (letters_alone text) + length (letter_of symbol)
letters_push [] symbol = omega (arith, length-append (letter_of symbol) [])
letters_push (x ∷ text) symbol =
    omega (arith, letters_push text symbol, length-append (letter_of x) (letters_alone (text ++ symbol ∷ [])), length-append (letter_of x) (letters_alone text))

written_push : (ask : Inquiry) (text : List Symbol) (symbol : Symbol) → length (written_out ask (text ++ symbol ∷ [])) ≡ length (written_out ask text) + length (word_of ask symbol)
written_push ask [] symbol = omega (arith, length-append (word_of ask symbol) [])
written_push ask (x ∷ text) symbol =
    omega (arith, written_push ask text symbol, length-append (word_of ask x) (written_out ask (text ++ symbol ∷ [])), length-append (word_of ask x) (written_out ask text))

pub shorter : (ask : Inquiry) (m n : ℕ) → n ≤ m → IsShort ask m → IsShort ask n
shorter ask m n h (inl few) = inl (omega arith)
shorter ask m n h (inr one) = inr (one.0, omega (arith, one.1))

room_for : (ask : Inquiry) (text : List Symbol) (room : Room) → HasRoomForLength ask SEARCHED_SYMBOLS room → AllByRecursion (IsSymbolOf ask) text → (n : ℕ) → length text ≤ n + 1 → IsShort ask n → HasRoom ask text room
room_for ask text room h s n k (inl few) = h text (omega arith)
room_for ask text room h s n k (inr one) = room_for_cuts ask text room one.0 s

pub room_kept : (ask : Inquiry) (l w l' w' : ℕ) → l ≤ l' → w ≤ w' → HasRoomForLength ask SEARCHED_SYMBOLS (record { letters = l; written = w })
    → HasRoomForLength ask SEARCHED_SYMBOLS (record { letters = l'; written = w' })
room_kept ask l w l' w' h k r text n = let room = r text n in record { letters = omega (arith, room.letters); written = omega (arith, room.written) }

pub record HasRoomAt (ask : Inquiry) (at : Standing) (symbol : Symbol) (room : Room) : Type 0 where
  pub letters : length at.letters + length (letter_of symbol) ≤ room.letters
  pub written : length at.written + length (word_of ask symbol) ≤ room.written

pub room_for_more : (ask : Inquiry) (text : List Symbol) (symbol : Symbol) (at : Standing) (room : Room) → HasRoomForLength ask SEARCHED_SYMBOLS room → IsShort ask (length text) → Leads ask text at_first at → IsSymbolOf ask symbol → HasRoomAt ask at symbol room
room_for_more ask text symbol at room h short l s =
    let r = room_for ask (text ++ symbol ∷ []) room h (all_append (IsSymbolOf ask) text (symbol ∷ []) (symbols_read ask text at_first at l) (s, tt)) (length text) (omega (arith, length-append text (symbol ∷ []))) short in
    record {
      letters = omega (arith, r.letters, letters_push text symbol, letters_read ask text at l);
      written = omega (arith, r.written, written_push ask text symbol, written_read ask text at l);
    }

pub room_for_goal : (ask : Inquiry) (text : List Symbol) (symbol : Symbol) (before after : Standing) (room : Room) → HasRoomForLength ask SEARCHED_SYMBOLS room → IsShort ask (length text) → Leads ask text at_first before → Takes ask symbol before after
    → symbol ≡ Cut → length (get_or ask.goals before.goal []) ≤ room.written
room_for_goal ask text symbol before after room h short l t e =
    let there : Takes ask Cut before after = subst (λ (s : Symbol). Takes ask s before after) e t in
    let r = room_for ask text room h (symbols_read ask text at_first before l) (length text) (omega arith) short in
    omega (arith, r.written, written_read ask text before l, ap length there.allowed.1)

-- ---- what the last symbol did

pub record Before (ask : Inquiry) (front : List Symbol) (symbol : Symbol) (after : Standing) : Type 0 where
  pub before : Standing
  pub reads : Leads ask front at_first before
  pub stands : IsStanding ask before
  pub takes : Takes ask symbol before after

pub last_read : (ask : Inquiry) (text front : List Symbol) (symbol : Symbol) (after : Standing) → text ≡ front ++ symbol ∷ [] → Leads ask text at_first after → Before ask front symbol after
last_read ask text front symbol after e l =
    let b = leads_back ask front symbol at_first after (subst (λ (t : List Symbol). Leads ask t at_first after) e l) in
    record { before = b.0; reads = b.1; stands = stands ask front b.0 b.1; takes = b.2 }

pub same_goal : (symbol : Symbol) (g h : ℕ) → goal_after symbol g ≡ goal_after symbol h → g ≡ h
same_goal (Letter x) g h e = e
same_goal (Relator place inverse) g h e = e
same_goal (Member place inverse) g h e = e
same_goal Cut g h e = omega arith

pub goal_of_cut : (ask : Inquiry) (symbol : Symbol) (before after : Standing) → Takes ask symbol before after → symbol ≡ Cut → 1 ≤ after.goal
goal_of_cut ask symbol before after t e =
    let there : Takes ask Cut before after = subst (λ (s : Symbol). Takes ask s before after) e t in omega (arith, there.goal)

pub reads_as : (ask : Inquiry) (text : List Symbol) (at : Standing) (g : ℕ) (m : Bool) (l w : List ℤ) → Leads ask text at_first at → at.goal ≡ g → at.members ≡ m → at.letters ≡ l → at.written ≡ w
    → Leads ask text at_first (record { goal = g; members = m; letters = l; written = w })
reads_as ask text at g m l w h eg em el ew =
    subst (λ (t : ℕ). Leads ask text at_first (record { goal = t; members = m; letters = l; written = w })) eg
    (subst (λ (t : Bool). Leads ask text at_first (record { goal = at.goal; members = t; letters = l; written = w })) em
    (subst (λ (t : List ℤ). Leads ask text at_first (record { goal = at.goal; members = at.members; letters = t; written = w })) el
    (subst (λ (t : List ℤ). Leads ask text at_first (record { goal = at.goal; members = at.members; letters = at.letters; written = t })) ew h)))

-- ---- what may follow

abbrev pub RunsFrom : Inquiry → List Symbol → Standing → Type 0
RunsFrom ask text at = Runs ask text (drop at.goal ask.goals) at.members at.letters at.written

carried : (ask : Inquiry) (rest : List Symbol) (g g' : ℕ) (m m' : Bool) (l l' w w' : List ℤ) → g ≡ g' → m ≡ m' → l ≡ l' → w ≡ w'
    → Runs ask rest (drop g ask.goals) m l w → Runs ask rest (drop g' ask.goals) m' l' w'
carried ask rest g g' m m' l l' w w' eg em el ew r =
    subst (λ (t : ℕ). Runs ask rest (drop t ask.goals) m' l' w') eg
    (subst (λ (t : Bool). Runs ask rest (drop g ask.goals) t l' w') em
    (subst (λ (t : List ℤ). Runs ask rest (drop g ask.goals) m t w') el (subst (λ (t : List ℤ). Runs ask rest (drop g ask.goals) m l t) ew r)))

some_left : (ask : Inquiry) (symbol : Symbol) (a b : Standing) → Takes ask symbol a b → 0 < length (drop a.goal ask.goals)
some_left ask symbol a b t = omega (arith, t.some, length-drop a.goal ask.goals)

pub takes_runs : (ask : Inquiry) (symbol : Symbol) (a b : Standing) → IsReduced a.letters → Takes ask symbol a b → (rest : List Symbol) → RunsFrom ask (symbol ∷ rest) a ↔ RunsFrom ask rest b
takes_runs ask (Letter x) a b h t rest = (
  λ r. carried ask rest a.goal b.goal false b.members _ b.letters _ b.written (sym t.goal) (sym t.members) (sym t.letters) (sym t.written) r.2.1,
  λ r. (some_left ask (Letter x) a b t, t.is_symbol, (t.allowed, carried ask rest b.goal a.goal b.members false b.letters _ b.written _ t.goal t.members t.letters t.written r)),
)
takes_runs ask (Relator place inverse) a b h t rest =
    let e : b.letters ≡ a.letters = t.letters ∙ nothing_more a.letters h in (
      λ r. carried ask rest a.goal b.goal false b.members a.letters b.letters _ b.written (sym t.goal) (sym t.members) (sym e) (sym t.written) r.2.1,
      λ r. (some_left ask (Relator place inverse) a b t, t.is_symbol, (t.allowed, carried ask rest b.goal a.goal b.members false b.letters a.letters b.written _ t.goal t.members e t.written r)),
    )
takes_runs ask (Member place inverse) a b h t rest =
    let e : b.letters ≡ a.letters = t.letters ∙ nothing_more a.letters h in (
      λ r. carried ask rest a.goal b.goal true b.members a.letters b.letters _ b.written (sym t.goal) (sym t.members) (sym e) (sym t.written) r.2,
      λ r. (some_left ask (Member place inverse) a b t, t.is_symbol, carried ask rest b.goal a.goal b.members true b.letters a.letters b.written _ t.goal t.members e t.written r),
    )
takes_runs ask Cut a b h t rest =
    let all = ask.goals in
    let d : drop 1 (drop a.goal all) ≡ drop (a.goal + 1) all = drop-drop 1 a.goal all in
    let f : drop a.goal all ≡ a.written ∷ drop 1 (drop a.goal all) =
    drop_more all a.goal [] t.some ∙ (ap (λ u. u ∷ drop (a.goal + 1) all) (sym t.allowed.1) ∙ ap (λ u. a.written ∷ u) (sym d)) in
    let e : b.letters ≡ [] = t.letters ∙ (nothing_more a.letters h ∙ t.allowed.0) in (
      λ r. carried ask rest (a.goal + 1) b.goal false b.members [] b.letters [] b.written (sym t.goal) (sym t.members) (sym e) (sym t.written)
          (subst (λ (u : List (List ℤ)). Runs ask rest u false [] []) d r.2.2),
      λ r. (
        some_left ask Cut a b t,
        tt,
        (
          f,
          t.allowed.0,
          subst (λ (u : List (List ℤ)). Runs ask rest u false [] []) (sym d)
              (carried ask rest b.goal (a.goal + 1) b.members false b.letters [] b.written [] t.goal t.members e t.written r),
        ),
      ),
    )

-- one symbol of a text read in a loop
next_symbol : (text : List Symbol) (i : ℕ) (symbol : Symbol) → i < length text → symbol ≡ get_or text i symbol → drop i text ≡ symbol ∷ drop (i + 1) text
next_symbol text i symbol h e = drop_more text i symbol h ∙ ap (λ s. s ∷ drop (i + 1) text) (sym e)

pub runs_on : (ask : Inquiry) (text : List Symbol) (i : ℕ) (symbol : Symbol) (a b : Standing) (Whole : Type 0) → i < length text → symbol ≡ get_or text i symbol → IsReduced a.letters → Takes ask symbol a b
    → (RunsFrom ask (drop i text) a ↔ Whole) → RunsFrom ask (drop (i + 1) text) b ↔ Whole
runs_on ask text i symbol a b Whole h e r t runs =
    let step = takes_runs ask symbol a b r t (drop (i + 1) text) in
    let split = next_symbol text i symbol h e in (
      λ k. runs.0 (subst (λ (s : List Symbol). RunsFrom ask s a) (sym split) (step.1 k)),
      λ k. step.0 (subst (λ (s : List Symbol). RunsFrom ask s a) split (runs.1 k)),
    )

pub letters_split : (text : List Symbol) (i : ℕ) (symbol : Symbol) → i < length text → symbol ≡ get_or text i symbol → length (letters_alone (drop i text)) ≡ length (letter_of symbol) + length (letters_alone (drop (i + 1) text))
letters_split text i symbol h e = ap (λ t. length (letters_alone t)) (next_symbol text i symbol h e) ∙ length-append (letter_of symbol) (letters_alone (drop (i + 1) text))

pub written_split : (ask : Inquiry) (text : List Symbol) (i : ℕ) (symbol : Symbol) → i < length text → symbol ≡ get_or text i symbol → length (written_out ask (drop i text)) ≡ length (word_of ask symbol) + length (written_out ask (drop (i + 1) text))
written_split ask text i symbol h e = ap (λ t. length (written_out ask t)) (next_symbol text i symbol h e) ∙ length-append (word_of ask symbol) (written_out ask (drop (i + 1) text))

pub leads_runs : (ask : Inquiry) (text rest : List Symbol) (a b : Standing) → IsStanding ask a → Leads ask text a b → RunsFrom ask (text ++ rest) a ↔ RunsFrom ask rest b
leads_runs ask [] rest a b s l = (λ r. subst (λ (t : Standing). RunsFrom ask rest t) l r, λ r. subst (λ (t : Standing). RunsFrom ask rest t) (sym l) r)
leads_runs ask (x ∷ text) rest a b s l =
    let first = takes_runs ask x a l.0 s.letters l.1 (text ++ rest) in
    let others = leads_runs ask text rest l.0 b (stands_next ask x a l.0 l.1) l.2 in
    (λ r. others.0 (first.0 r), λ r. first.1 (others.1 r))

from_first : (ask : Inquiry) (text rest : List Symbol) (b : Standing) → Leads ask text at_first b → RunsFrom ask (text ++ rest) at_first ↔ RunsFrom ask rest b
from_first ask text rest b l = leads_runs ask text rest at_first b (stands_at_first ask) l

-- a symbol that is refused, and a standing from which no text goes on
pub none_by_refusal : (ask : Inquiry) (text : List Symbol) (symbol : Symbol) (left : ℕ) (a : Standing) → IsAsked ask → Leads ask text at_first a
    → ((rest : List Symbol) → RunsFrom ask (symbol ∷ rest) a → ⊥) → NoneFollow ask (text ++ symbol ∷ []) left
none_by_refusal ask text symbol left a q l h rest symbols long accepted =
    let p : IsAccepted ask (text ++ symbol ∷ rest) = subst (λ (t : List Symbol). IsAccepted ask t) (append_assoc text (symbol ∷ []) rest) accepted in
    h rest ((from_first ask text (symbol ∷ rest) a l).0 (runs_from_accepted ask (text ++ symbol ∷ rest) q p))

pub none_from : (ask : Inquiry) (text : List Symbol) (left : ℕ) (b : Standing) → IsAsked ask → Leads ask text at_first b
    → ((rest : List Symbol) → length rest ≡ left → RunsFrom ask rest b → ⊥) → NoneFollow ask text left
none_from ask text left b q l h rest symbols long accepted = h rest long ((from_first ask text rest b l).0 (runs_from_accepted ask (text ++ rest) q accepted))

-- a text that leads through all goals
pub accepted_through : (ask : Inquiry) (text : List Symbol) (b : Standing) → IsAsked ask → Leads ask text at_first b → drop b.goal ask.goals ≡ [] → IsAccepted ask text
accepted_through ask text b q l e =
    accepted_from_runs ask text q (subst (λ (t : List Symbol). RunsFrom ask t at_first) (append-nil text) ((from_first ask text [] b l).1 e))

-- ---- how many symbols are wanted

pub cuts_wanted : (ask : Inquiry) (rest : List Symbol) (goals : List (List ℤ)) (m : Bool) (l w : List ℤ) → Runs ask rest goals m l w → length goals ≤ length rest
cuts_wanted ask [] goals m l w r = omega (arith, ap length r)
cuts_wanted ask (Letter x ∷ rest) goals m l w r = omega (arith, cuts_wanted ask rest goals false _ _ r.2.1)
cuts_wanted ask (Relator place inverse ∷ rest) goals m l w r = omega (arith, cuts_wanted ask rest goals false _ _ r.2.1)
cuts_wanted ask (Member place inverse ∷ rest) goals m l w r = omega (arith, cuts_wanted ask rest goals true _ _ r.2)
cuts_wanted ask (Cut ∷ rest) goals m l w r = omega (arith, cuts_wanted ask rest (drop 1 goals) false [] [] r.2.2, length-drop 1 goals)

pub none_after_all : (ask : Inquiry) (rest : List Symbol) (m : Bool) (l w : List ℤ) → Runs ask rest [] m l w → length rest ≡ 0
none_after_all ask [] m l w r = refl
none_after_all ask (symbol ∷ rest) m l w r = absurd (omega (arith, r.0))

pub letters_wanted : (ask : Inquiry) (rest : List Symbol) (goals : List (List ℤ)) (m : Bool) (l w : List ℤ) → 0 < length goals → IsReduced l → Runs ask rest goals m l w → length l + length goals ≤ length rest
letters_wanted ask [] goals m l w g h r = absurd (omega (arith, ap length r))
letters_wanted ask (Letter x ∷ rest) goals m l w g h r =
    omega (arith, letters_wanted ask rest goals false _ _ g (IsReduced-free_form (l ++ x ∷ [])) r.2.1, back_length l (x ∷ []) h)
letters_wanted ask (Relator place inverse ∷ rest) goals m l w g h r = omega (arith, letters_wanted ask rest goals false l _ g h r.2.1)
letters_wanted ask (Member place inverse ∷ rest) goals m l w g h r = omega (arith, letters_wanted ask rest goals true l _ g h r.2)
letters_wanted ask (Cut ∷ rest) goals m l w g h r = omega (arith, ap length r.2.1, cuts_wanted ask (Cut ∷ rest) goals m l w r)

pub no_letters_left : (ask : Inquiry) (rest : List Symbol) (goals : List (List ℤ)) (l w : List ℤ) → 0 < length goals → Runs ask rest goals true l w → l ≡ []
no_letters_left ask [] goals l w g r = absurd (omega (arith, ap length r))
no_letters_left ask (Letter x ∷ rest) goals l w g r = cc (r.2.0)
no_letters_left ask (Relator place inverse ∷ rest) goals l w g r = cc (r.2.0)
no_letters_left ask (Member place inverse ∷ rest) goals l w g r = no_letters_left ask rest goals l _ g r.2
no_letters_left ask (Cut ∷ rest) goals l w g r = r.2.1

-- ---- how far a part may be from its goal

-- a letter more is worth no more than a symbol
traded : (l l' more more' most : ℕ) → 1 ≤ most → l' + more' + 1 ≡ l + more → l ≤ l' + 1 → l' + more' * most + 1 ≤ l + more * most
traded l l' more more' most h e k =
    let d : ℕ = l' + 1 - l in
    let f : more ≡ more' + d = omega arith in
    omega (arith, ap (λ n. n * most) f, mul-le-mul_left d h)

nearer : (from from' to l l' more more' most step : ℕ) → from ≤ from' + step → from' ≤ from + step → l' + more' * most + step ≤ l + more * most → InReach from' to l' more' most → InReach from to l more most
nearer from from' to l l' more more' most step a b c r = record { down = omega (arith, r.down); up = omega (arith, r.up) }

one_less : (l more most : ℕ) → 1 ≤ more → l + (more - 1) * most + most ≤ l + more * most
one_less l more most h = let e : more ≡ more - 1 + 1 = omega arith in omega (arith, ap (λ n. n * most) e)

-- a sign writes at most so many letters
by_sign : (ask : Inquiry) (most more to l : ℕ) (w : List ℤ) (symbol : Symbol) → WritesAtMost ask most → IsReduced w → 1 ≤ more
    → InReach (length (free_form (w ++ word_of ask symbol))) to l (more - 1) most → InReach (length w) to l more most
by_sign ask most more to l w symbol writes h k r =
    let u = word_of ask symbol in
    nearer (length w) (length (free_form (w ++ u))) to l l more (more - 1) most most
    (omega (arith, back_length w u h, writes symbol)) (omega (arith, product_length w u _ refl, writes symbol)) (one_less l more most k) r

pub in_reach : (ask : Inquiry) (most : ℕ) → 1 ≤ most → WritesAtMost ask most → (rest : List Symbol) (goal : List ℤ) (goals : List (List ℤ)) (m : Bool) (l w : List ℤ) (more : ℕ) → IsReduced l → IsReduced w
    → length rest ≡ length l + more + length (goal ∷ goals) → Runs ask rest (goal ∷ goals) m l w → InReach (length w) (length goal) (length l) more most
in_reach ask most some writes [] goal goals m l w more hl hw e r = absurd (omega (arith, ap length r))
in_reach ask most some writes (Letter x ∷ rest) goal goals m l w more hl hw e r =
    let l' = free_form (l ++ x ∷ []) in
    let w' = free_form (w ++ x ∷ []) in
    let wanted = letters_wanted ask rest (goal ∷ goals) false l' w' (omega arith) (IsReduced-free_form (l ++ x ∷ [])) r.2.1 in
    let more' : ℕ = length l + more - 1 - length l' in
    nearer (length w) (length w') (length goal) (length l) (length l') more more' most 1 (omega (arith, back_length w (x ∷ []) hw)) (omega (arith, product_length w (x ∷ []) _ refl))
    (traded (length l) (length l') more more' most some (omega arith) (omega (arith, back_length l (x ∷ []) hl)))
    (in_reach ask most some writes rest goal goals false l' w' more' (IsReduced-free_form (l ++ x ∷ [])) (IsReduced-free_form (w ++ x ∷ [])) (omega arith) r.2.1)
in_reach ask most some writes (Relator place inverse ∷ rest) goal goals m l w more hl hw e r =
    let u = word_of ask (Relator place inverse) in
    let wanted = letters_wanted ask rest (goal ∷ goals) false l (free_form (w ++ u)) (omega arith) hl r.2.1 in
    by_sign ask most more (length goal) (length l) w (Relator place inverse) writes hw (omega arith)
    (in_reach ask most some writes rest goal goals false l (free_form (w ++ u)) (more - 1) hl (IsReduced-free_form (w ++ u)) (omega arith) r.2.1)
in_reach ask most some writes (Member place inverse ∷ rest) goal goals m l w more hl hw e r =
    let u = word_of ask (Member place inverse) in
    let wanted = letters_wanted ask rest (goal ∷ goals) true l (free_form (w ++ u)) (omega arith) hl r.2 in
    by_sign ask most more (length goal) (length l) w (Member place inverse) writes hw (omega arith)
    (in_reach ask most some writes rest goal goals true l (free_form (w ++ u)) (more - 1) hl (IsReduced-free_form (w ++ u)) (omega arith) r.2)
in_reach ask most some writes (Cut ∷ rest) goal goals m l w more hl hw e r =
    let same : goal ≡ w = cc (r.2.0) in
    record { down = omega (arith, ap length same); up = omega (arith, ap length same) }
