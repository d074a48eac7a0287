-- Every list of lexemes is a statement within the limits, or it has a first cause.
use Rattle.std.proofs.Common.{◌≡◌, ◌≢◌, ◌⊎◌, inl, inr, ⊎_elim, ℕ, zero, suc, ◌+◌, ◌-◌, ◌<◌, ◌≤◌, Option, Some, None, List, [], ◌∷◌, length, get_or, drop, Bor, refl, sym, ap, subst, ◌∙◌, arith, lit<}
use Rattle.std.proofs.lemmas.Bool.{cases_lt}
use Rattle.std.proofs.lemmas.List.{length-drop}
use Rattle.mg_lex.specs.declared.keyword.Keyword.{Keyword}
use Rattle.mg_lex.specs.declared.mark.Mark.TheVariants as mark
use Rattle.mg_lex.specs.declared.refusal.Cause.{Cause}
use Rattle.mg_lex.specs.declared.refusal.Cause.TheVariants as cause
use Rattle.mg_lex.proofs.Total.{same_number_or_not, same_keyword_or_not, same_mark_or_not, in_table}
use Rattle.mg_terms.specs.declared.lexeme.Lexeme.{Lexeme}
use Rattle.mg_terms.specs.declared.lexeme.Lexeme.TheVariants as lexeme
use Rattle.mg_terms.specs.declared.limits.TheConstants.{WORD_LIMIT}
use Rattle.mg_terms.specs.declared.read.WordRead.{WordRead}
use Rattle.mg_terms.specs.Word.{Word}
use Rattle.mg_terms.specs.Beginning.{BeginsBase}
use Rattle.mg_terms.proofs.Total.{word_or_fault, IsSound}
use Rattle.mg_words.specs.declared.procedure.Procedure.{Procedure}
use Rattle.mg_words.specs.declared.procedure.Procedure.TheVariants as procedure
use Rattle.mg_script.specs.declared.counted.Counted.{Counted}
use Rattle.mg_script.specs.declared.counted.Counted.TheVariants as counted
use Rattle.mg_script.specs.declared.counted.Counts.{Counts}
use Rattle.mg_script.specs.declared.counted.TheConstants.{LETTER_LIMIT}
use Rattle.mg_script.specs.declared.form.Property.{Property}
use Rattle.mg_script.specs.declared.form.Property.TheVariants as property
use Rattle.mg_script.specs.declared.reader.Reader.{Reader}
use Rattle.mg_script.specs.declared.sign.Role.TheVariants as role
use Rattle.mg_script.specs.Statement.{sign, property_keyword, procedure_keyword}
use Rattle.mg_script.specs.Count.{limit_of, count_of, how_many, left_letters}
use Rattle.mg_script.specs.Cause.{IsOneTooMany, IsFirstCause}
use Rattle.mg_script.specs.Grammar.{Class, this, a_number, a_procedure, a_property, IsIn, Item, listed_name, listed_word, listed_relation, listed_arrow, Rest, end, sign_then, word_then, either, either_by_two, more, item_then, list_then, Begins, CanEnd, close_group, bar_rest, words_rest, property_rest, first_word_rest, asked_rest, mark_then, report_rest, statement_rest}
use Rattle.mg_script.specs.Reader.{Start, Knows, IsFinished, AddsOne, IsNext, BeginsWord, IsPropertyNext, IsWordThen, any_word, no_property, unread}
use Rattle.mg_script.proofs.Standing.{Misses, started, adds_nothing}
use Rattle.mg_script.proofs.Steps.{ahead_is, unexpected, not_next, no_word, sign_refused, sign_taken, knows_first, knows_second, takes_first, leaves_first, end_refused, end_reached}
use Rattle.mg_script.proofs.Taken.{word_over, word_wrong, read_some, relation_long, letters_many, word_read}
use Rattle.mg_script.proofs.Names.{name_taken}
use Rattle.mg_script.proofs.Listing.{more_either}

-- two lexemes are one or not
same_lexeme_or_not : (x y : Lexeme) → (x ≡ y) ⊎ (x ≢ y)
same_lexeme_or_not lexeme.Name lexeme.Name = inl refl
same_lexeme_or_not lexeme.Name (lexeme.Keyword k) = inr (λ e. cc)
same_lexeme_or_not lexeme.Name lexeme.RelatorSign = inr (λ e. cc)
same_lexeme_or_not lexeme.Name (lexeme.Number n) = inr (λ e. cc)
same_lexeme_or_not lexeme.Name (lexeme.Mark m) = inr (λ e. cc)
same_lexeme_or_not (lexeme.Keyword j) lexeme.Name = inr (λ e. cc)
same_lexeme_or_not (lexeme.Keyword j) (lexeme.Keyword k) =
    ⊎_elim (λ same. inl (ap (λ l. lexeme.Keyword l) same)) (λ other. inr (λ e. let same : j ≡ k = cc in other same)) (same_keyword_or_not j k)
same_lexeme_or_not (lexeme.Keyword j) lexeme.RelatorSign = inr (λ e. cc)
same_lexeme_or_not (lexeme.Keyword j) (lexeme.Number n) = inr (λ e. cc)
same_lexeme_or_not (lexeme.Keyword j) (lexeme.Mark m) = inr (λ e. cc)
same_lexeme_or_not lexeme.RelatorSign lexeme.Name = inr (λ e. cc)
same_lexeme_or_not lexeme.RelatorSign (lexeme.Keyword k) = inr (λ e. cc)
same_lexeme_or_not lexeme.RelatorSign lexeme.RelatorSign = inl refl
same_lexeme_or_not lexeme.RelatorSign (lexeme.Number n) = inr (λ e. cc)
same_lexeme_or_not lexeme.RelatorSign (lexeme.Mark m) = inr (λ e. cc)
same_lexeme_or_not (lexeme.Number l) lexeme.Name = inr (λ e. cc)
same_lexeme_or_not (lexeme.Number l) (lexeme.Keyword k) = inr (λ e. cc)
same_lexeme_or_not (lexeme.Number l) lexeme.RelatorSign = inr (λ e. cc)
same_lexeme_or_not (lexeme.Number l) (lexeme.Number n) =
    ⊎_elim (λ same. inl (ap (λ i. lexeme.Number i) same)) (λ other. inr (λ e. let same : l ≡ n = cc in other same)) (same_number_or_not l n)
same_lexeme_or_not (lexeme.Number l) (lexeme.Mark m) = inr (λ e. cc)
same_lexeme_or_not (lexeme.Mark l) lexeme.Name = inr (λ e. cc)
same_lexeme_or_not (lexeme.Mark l) (lexeme.Keyword k) = inr (λ e. cc)
same_lexeme_or_not (lexeme.Mark l) lexeme.RelatorSign = inr (λ e. cc)
same_lexeme_or_not (lexeme.Mark l) (lexeme.Number n) = inr (λ e. cc)
same_lexeme_or_not (lexeme.Mark l) (lexeme.Mark m) =
    ⊎_elim (λ same. inl (ap (λ i. lexeme.Mark i) same)) (λ other. inr (λ e. let same : l ≡ m = cc in other same)) (same_mark_or_not l m)

-- keywords of procedures and of properties
procedure_at : ℕ → Procedure
procedure_at i =
    get_or (procedure.Derive ∷ procedure.Act ∷ procedure.Residue ∷ procedure.Rewrite ∷ procedure.Cosets ∷ procedure.Nielsen ∷ procedure.Recall ∷ []) i procedure.Derive

place_of_procedure : (p : Procedure) → (i : ℕ) × (i < 7) × (procedure_at i ≡ p)
unfolding procedure_at
place_of_procedure procedure.Derive = (0, lit< tt, refl)
place_of_procedure procedure.Act = (1, lit< tt, refl)
place_of_procedure procedure.Residue = (2, lit< tt, refl)
place_of_procedure procedure.Rewrite = (3, lit< tt, refl)
place_of_procedure procedure.Cosets = (4, lit< tt, refl)
place_of_procedure procedure.Nielsen = (5, lit< tt, refl)
place_of_procedure procedure.Recall = (6, lit< tt, refl)

procedure_or_not : (k : Keyword) → ((p : Procedure) × (procedure_keyword p ≡ k)) ⊎ ((p : Procedure) → procedure_keyword p ≢ k)
procedure_or_not k =
    ⊎_elim (λ found. inl found)
    (λ none. inr (λ p e. let at = place_of_procedure p in none at.0 at.1 (ap procedure_keyword at.2 ∙ e)))
    (in_table Procedure Keyword same_keyword_or_not procedure_keyword procedure_at k 7)

property_at : ℕ → Property
property_at i = get_or (property.Trivial ∷ property.Abelian ∷ property.Normal ∷ property.Extends ∷ property.Onto ∷ []) i property.Trivial

place_of_property : (p : Property) → (i : ℕ) × (i < 5) × (property_at i ≡ p)
unfolding property_at
place_of_property property.Trivial = (0, lit< tt, refl)
place_of_property property.Abelian = (1, lit< tt, refl)
place_of_property property.Normal = (2, lit< tt, refl)
place_of_property property.Extends = (3, lit< tt, refl)
place_of_property property.Onto = (4, lit< tt, refl)

property_or_not : (k : Keyword) → ((p : Property) × (property_keyword p ≡ k)) ⊎ ((p : Property) → property_keyword p ≢ k)
property_or_not k =
    ⊎_elim (λ found. inl found)
    (λ none. inr (λ p e. let at = place_of_property p in none at.0 at.1 (ap property_keyword at.2 ∙ e)))
    (in_table Property Keyword same_keyword_or_not property_keyword property_at k 5)

-- a lexeme is of a class or not
number_or_not : (x : Lexeme) → IsIn a_number x ⊎ (IsIn a_number x → ⊥)
number_or_not (lexeme.Number n) = inl (n, refl)
number_or_not lexeme.Name = inr (λ is. let e = is.1 in cc)
number_or_not (lexeme.Keyword k) = inr (λ is. let e = is.1 in cc)
number_or_not lexeme.RelatorSign = inr (λ is. let e = is.1 in cc)
number_or_not (lexeme.Mark m) = inr (λ is. let e = is.1 in cc)

in_procedure_or_not : (x : Lexeme) → IsIn a_procedure x ⊎ (IsIn a_procedure x → ⊥)
in_procedure_or_not (lexeme.Keyword k) =
    ⊎_elim (λ found. inl (found.0, ap (λ l. lexeme.Keyword l) (sym found.1)))
    (λ none. inr (λ is. let e = is.1 in let same : procedure_keyword is.0 ≡ k = cc in none is.0 same)) (procedure_or_not k)
in_procedure_or_not lexeme.Name = inr (λ is. let e = is.1 in cc)
in_procedure_or_not (lexeme.Number n) = inr (λ is. let e = is.1 in cc)
in_procedure_or_not lexeme.RelatorSign = inr (λ is. let e = is.1 in cc)
in_procedure_or_not (lexeme.Mark m) = inr (λ is. let e = is.1 in cc)

in_property_or_not : (x : Lexeme) → IsIn a_property x ⊎ (IsIn a_property x → ⊥)
in_property_or_not (lexeme.Keyword k) =
    ⊎_elim (λ found. inl (found.0, ap (λ l. lexeme.Keyword l) (sym found.1)))
    (λ none. inr (λ is. let e = is.1 in let same : property_keyword is.0 ≡ k = cc in none is.0 same)) (property_or_not k)
in_property_or_not lexeme.Name = inr (λ is. let e = is.1 in cc)
in_property_or_not (lexeme.Number n) = inr (λ is. let e = is.1 in cc)
in_property_or_not lexeme.RelatorSign = inr (λ is. let e = is.1 in cc)
in_property_or_not (lexeme.Mark m) = inr (λ is. let e = is.1 in cc)

in_class_or_not : (c : Class) (x : Lexeme) → IsIn c x ⊎ (IsIn c x → ⊥)
in_class_or_not (this y) x = same_lexeme_or_not x y
in_class_or_not a_number x = number_or_not x
in_class_or_not a_procedure x = in_procedure_or_not x
in_class_or_not a_property x = in_property_or_not x

base_or_not : (x : Lexeme) → BeginsBase x ⊎ (BeginsBase x → ⊥)
base_or_not lexeme.Name = inl tt
base_or_not (lexeme.Number n) = same_number_or_not n 1
base_or_not (lexeme.Mark m) =
    ⊎_elim (λ same. inl (inl same))
    (λ no_round. ⊎_elim (λ same. inl (inr same)) (λ no_square. inr (λ is. ⊎_elim (λ same. no_round same) (λ same. no_square same) is)) (same_mark_or_not m mark.OpenSquare))
    (same_mark_or_not m mark.OpenRound)
base_or_not (lexeme.Keyword k) = inr (λ is. is)
base_or_not lexeme.RelatorSign = inr (λ is. is)

one_or_other : {A B : Type 0} → A ⊎ (A → ⊥) → B ⊎ (B → ⊥) → (A ⊎ B) ⊎ (A ⊎ B → ⊥)
one_or_other first second =
    ⊎_elim (λ is. inl (inl is)) (λ not_first. ⊎_elim (λ is. inl (inr is)) (λ not_second. inr (λ is. ⊎_elim (λ a. not_first a) (λ b. not_second b) is)) second) first

begins_or_not : (r : Rest) (x : Lexeme) → Begins r x ⊎ (Begins r x → ⊥)
begins_or_not end x = inr (λ none. none)
begins_or_not (sign_then kind c r) x = in_class_or_not c x
begins_or_not (word_then kind left f) x = base_or_not x
begins_or_not (either a b) x = one_or_other (begins_or_not a x) (begins_or_not b x)
begins_or_not (either_by_two a b) x = one_or_other (begins_or_not a x) (begins_or_not b x)
begins_or_not (more i r) x = one_or_other (same_lexeme_or_not x (lexeme.Mark mark.Comma)) (begins_or_not r x)

-- the next lexeme is of a class, begins a word, is a name with a property behind it, or not
next_in : (zs : List Lexeme) (P : Lexeme → Type 0) → ((x : Lexeme) → P x ⊎ (P x → ⊥)) →
    ((x : Lexeme) × (xs : List Lexeme) × (zs ≡ x ∷ xs) × P x) ⊎ ((x : Lexeme) × (xs : List Lexeme) × (zs ≡ x ∷ xs) × P x → ⊥)
next_in [] P by = inr (λ h. let e = h.2 in cc)
next_in (y ∷ ys) P by =
    ⊎_elim (λ is. inl (y, ys, refl, is)) (λ other. inr (λ h. let e = h.2 in let same : h.0 ≡ y = cc in other (subst P same h.3))) (by y)

next_or_not : (now : Reader) (c : Class) → IsNext now c ⊎ (IsNext now c → ⊥)
next_or_not now c = next_in (drop now.place now.lexemes.now) (IsIn c) (in_class_or_not c)

word_or_not : (now : Reader) → BeginsWord now ⊎ (BeginsWord now → ⊥)
word_or_not now = next_in (drop now.place now.lexemes.now) BeginsBase base_or_not

property_next_or_not : (ahead : List Lexeme) → IsPropertyNext ahead ⊎ (IsPropertyNext ahead → ⊥)
property_next_or_not [] = inr (λ h. let e = h.2 in cc)
property_next_or_not (x ∷ []) = inr (λ h. let e = h.2 in cc)
property_next_or_not (x ∷ (y ∷ ys)) =
    ⊎_elim
    (λ name. ⊎_elim
    (λ is. inl (y, ys, ap (λ u. u ∷ (y ∷ ys)) name, is))
    (λ other. inr (λ h. let e = h.2 in let same : h.0 ≡ y = cc in other (subst (IsIn a_property) same h.3)))
    (in_property_or_not y))
    (λ other. inr (λ h. let e = h.2 in let same : x ≡ lexeme.Name = cc in other same))
    (same_lexeme_or_not x lexeme.Name)

-- one more is too many or not
full_or_room : (counts : Counts) (kind : Option Counted) → IsOneTooMany counts [] kind ⊎ (IsOneTooMany counts [] kind → ⊥)
full_or_room counts None = inr (λ full. full)
full_or_room counts (Some k) =
    ⊎_elim (λ room. inr (λ full. omega (arith, room, full))) (λ full. inl full) (cases_lt (count_of counts k + how_many k []) (limit_of k))

-- the counts with one more
counts_from : (Counted → ℕ) → ℕ → Counts
counts_from f letters = record {
  groups = f counted.Groups;
  words = f counted.Words;
  subgroups = f counted.Subgroups;
  maps = f counted.Maps;
  questions = f counted.Questions;
  generators = f counted.Generators;
  relators = f counted.Relators;
  members = f counted.Members;
  reports = f counted.Reports;
  letters = letters;
}

count_from : (f : Counted → ℕ) (letters : ℕ) (k : Counted) → count_of (counts_from f letters) k ≡ f k
unfolding counts_from
count_from f letters counted.Groups = refl
count_from f letters counted.Words = refl
count_from f letters counted.Subgroups = refl
count_from f letters counted.Maps = refl
count_from f letters counted.Questions = refl
count_from f letters counted.Generators = refl
count_from f letters counted.Relators = refl
count_from f letters counted.Members = refl
count_from f letters counted.Reports = refl

letters_from : (f : Counted → ℕ) (letters : ℕ) → (counts_from f letters).letters ≡ letters
unfolding counts_from
letters_from f letters = refl

abbrev with_one : Option Counted → Counts → Counted → ℕ
with_one kind counts k = count_of counts k + how_many k (sign kind lexeme.Name ∷ [])

one_added : Option Counted → Counts → Counts
one_added kind counts = counts_from (with_one kind counts) counts.letters

adds_one : (kind : Option Counted) (counts : Counts) → AddsOne kind counts (one_added kind counts)
unfolding one_added
adds_one kind counts k = count_from (with_one kind counts) counts.letters k

same_letters : (kind : Option Counted) (counts : Counts) → (one_added kind counts).letters ≡ counts.letters
unfolding one_added
same_letters kind counts = letters_from (with_one kind counts) counts.letters

-- What is asked of a rest, so that one can tell what comes next: a word that is counted isn't a right side, the first of
-- two isn't nothing, and two lexemes are needed for what is asked alone.
abbrev HasRole : Option Counted → Option Word → Type 0
HasRole None left = Unit {0}
HasRole (Some k) left = left ≡ None

abbrev IsPlain : Rest → Type 0
IsPlain end = Unit {0}
IsPlain (sign_then kind c r) = IsPlain r
IsPlain (word_then kind left f) = HasRole kind left × ((w : Word) → IsPlain (f w))
IsPlain (either a b) = IsPlain a × IsPlain b × (CanEnd a → ⊥)
IsPlain (either_by_two a b) = (a ≡ property_rest) × (b ≡ first_word_rest)
IsPlain (more i r) = IsPlain r

plain_item : (i : Item) (r : Rest) → IsPlain r → IsPlain (item_then i (more i r))
plain_item listed_name r plain = plain
plain_item listed_word r plain = (refl, λ w. plain)
plain_item listed_relation r plain = (refl, λ u. ((tt, λ v. plain), plain, λ none. none))
plain_item listed_arrow r plain = (tt, λ w. plain)

item_some : (i : Item) (r : Rest) → CanEnd (item_then i r) → ⊥
item_some listed_name r none = none
item_some listed_word r none = none
item_some listed_relation r none = none
item_some listed_arrow r none = none

plain_list : (i : Item) (r : Rest) → IsPlain r → IsPlain (list_then i r)
plain_list i r plain = (plain_item i r plain, plain, item_some i (more i r))

plain_words : IsPlain words_rest
plain_words = ((tt, λ v. tt), ((tt, tt, λ none. none), tt, λ none. none), λ none. none)

plain_report : IsPlain report_rest
plain_report = (tt, (tt, tt, λ none. none), λ none. none)

plain_bar : IsPlain bar_rest
plain_bar = (plain_list listed_relation close_group tt, tt, λ none. none)

plain_statement : IsPlain statement_rest
plain_statement = (
  plain_list listed_name bar_rest plain_bar,
  (
    (tt, λ w. tt),
    (
      plain_list listed_word close_group tt,
      (
        plain_list listed_arrow (mark_then mark.CloseSquare end) tt,
        ((refl, refl), (tt, (tt, ((tt, tt, λ none. none), (tt, plain_report, λ none. none), λ none. none), λ none. none), λ none. none), λ none. none),
        λ none. none,
      ),
      λ none. none,
    ),
    λ none. none,
  ),
  λ none. none,
)

-- a statement within the limits, or the first cause
abbrev pub Decided : Start → Type 0
Decided s = ((after : Counts) × IsFinished s after) ⊎ ((p : ℕ) × (c : Cause) × IsFirstCause s.counts s.lexemes p c)

ends_or_refused : (s : Start) (now : Reader) → Knows s end now → (zs : List Lexeme) → drop now.place now.lexemes.now ≡ zs → Decided s
ends_or_refused s now knows [] e = inl (now.counts, end_reached s now knows e)
ends_or_refused s now knows (x ∷ xs) e = inr (now.place, cause.Unexpected, end_refused s now knows x xs e)

-- something is ahead, so fewer lexemes are left behind it
abbrev behind : Reader → ℕ → Counts → Reader
behind now n counts = record { lexemes = now.lexemes; place = now.place + n; counts = counts }

fewer_behind : (now : Reader) (n : ℕ) (counts : Counts) → 1 ≤ n → n ≤ length (drop now.place now.lexemes.now) → unread (behind now n counts) < unread now
fewer_behind now n counts some within = omega (arith, some, within, length-drop now.place now.lexemes.now)

next_length : (now : Reader) (c : Class) → IsNext now c → 1 ≤ length (drop now.place now.lexemes.now)
next_length now c next = omega (arith, ap length next.2)

-- where fewer lexemes are left, it is decided
abbrev Smaller : Start → ℕ → Type 0
Smaller s n = (r : Rest) → IsPlain r → (now : Reader) → Knows s r now → unread now < n → Decided s

full_word : (s : Start) (kind : Option Counted) (left : Option Word) (f : Word → Rest) (r : Rest) (now : Reader) → HasRole kind left → IsWordThen (drop now.place now.lexemes.now) kind left f r → Knows s r now → BeginsWord now →
    IsOneTooMany now.counts [] kind → IsFirstCause s.counts s.lexemes now.place cause.TooMany
full_word s None left f r now has is_word knows begins full = absurd full
full_word s (Some k) left f r now has is_word knows begins full = word_over s (role.Counted k) left f r now has is_word knows begins full

word_decided : (s : Start) (kind : Option Counted) (left : Option Word) (f : Word → Rest) (r : Rest) (now : Reader) → HasRole kind left → IsWordThen (drop now.place now.lexemes.now) kind left f r → Knows s r now →
    ((w : Word) (new : Reader) → Knows s (f w) new → unread new < unread now → Decided s) → Decided s
word_decided s kind left f r now has is_word knows goes =
    ⊎_elim
    (λ begins. ⊎_elim
    (λ full. inr (now.place, cause.TooMany, full_word s kind left f r now has is_word knows begins full))
    (λ room. ⊎_elim
    (λ read. found read.0 read.1 room)
    (λ fault. inr (now.place + fault.0, fault.1, word_wrong s kind left f r now is_word knows begins room fault.0 fault.1 fault.2))
    (word_or_fault (drop now.place now.lexemes.now)))
    (full_or_room now.counts kind))
    (λ other. inr (now.place, cause.Unexpected, unexpected s r now knows (no_word s r now knows kind left f is_word other)))
    (word_or_not now)
  where
    found : (word : WordRead) → IsSound (drop now.place now.lexemes.now) word → (IsOneTooMany now.counts [] kind → ⊥) → Decided s
    found word sound room =
        ⊎_elim
        (λ long. inr (now.place + word.count - 1, cause.WordTooLong, relation_long s kind left f r now word is_word knows sound.read sound.faultless room sound.letters long))
        (λ short. ⊎_elim
        (λ many. inr (now.place + word.count - 1, cause.TooMany, letters_many s kind left f r now word is_word knows sound.read sound.faultless room short many))
        (λ few.
        let middle = one_added kind now.counts in
        let new = record middle { letters = middle.letters + word.letters } in
        let h = word_read s kind left f r now word is_word knows sound.read sound.faultless room middle new short few (adds_one kind now.counts) (same_letters kind now.counts) refl refl in
        goes h.0 (behind now word.count new) h.2
        (fewer_behind now word.count new (read_some (drop now.place now.lexemes.now) word sound.read) sound.read.reach.within))
        (cases_lt LETTER_LIMIT (now.counts.letters + word.letters)))
        (cases_lt WORD_LIMIT (left_letters left + word.letters))

asked_decided : (s : Start) (n : ℕ) (now : Reader) → Smaller s n → Knows s asked_rest now → unread now ≤ n → Decided s
asked_decided s n now smaller knows fuel =
    ⊎_elim
    (λ next. ends_or_refused s (behind now 2 now.counts) (name_taken s now knows next) _ refl)
    (λ apart. word_decided s None None (λ w. words_rest) asked_rest now tt (no_property apart) knows (λ w new behind_it fewer. smaller words_rest plain_words new behind_it (omega (arith, fewer, fuel))))
    (property_next_or_not (drop now.place now.lexemes.now))

first_or_second : (s : Start) (a b : Rest) (now : Reader) → (CanEnd a → ⊥) → Knows s (either a b) now → (zs : List Lexeme) → drop now.place now.lexemes.now ≡ zs → Knows s a now ⊎ Knows s b now
first_or_second s a b now some knows [] e =
    let left : knows.ahead ≡ [] = sym (ahead_is s (either a b) now knows) ∙ e in
    inr (knows_second s a b now knows (subst (Misses a) (sym left) some))
first_or_second s a b now some knows (x ∷ xs) e =
    let left : knows.ahead ≡ x ∷ xs = sym (ahead_is s (either a b) now knows) ∙ e in
    ⊎_elim
    (λ begins. inl (knows_first s a b now knows x xs e begins))
    (λ misses. inr (knows_second s a b now knows (subst (Misses a) (sym left) misses)))
    (begins_or_not a x)

rest_decided : (s : Start) (n : ℕ) → Smaller s n → (r : Rest) → IsPlain r → (now : Reader) → Knows s r now → unread now ≤ n → Decided s
rest_decided s n smaller end plain now knows fuel = ends_or_refused s now knows _ refl
rest_decided s n smaller (sign_then kind c r) plain now knows fuel =
    ⊎_elim
    (λ next. ⊎_elim
    (λ full. inr (now.place, cause.TooMany, sign_refused s kind c r now knows next full))
    (λ room.
    let counts = one_added kind now.counts in
    rest_decided s n smaller r plain (behind now 1 counts) (sign_taken s kind c r now counts knows next room (adds_one kind now.counts) (same_letters kind now.counts))
    (omega (arith, fuel, fewer_behind now 1 counts (omega arith) (next_length now c next))))
    (full_or_room now.counts kind))
    (λ other. inr (now.place, cause.Unexpected, unexpected s (sign_then kind c r) now knows (not_next s (sign_then kind c r) now knows kind c r other)))
    (next_or_not now c)
rest_decided s n smaller (word_then kind left f) plain now knows fuel =
    word_decided s kind left f (word_then kind left f) now plain.0 (any_word kind left f) knows (λ w new behind_it fewer. rest_decided s n smaller (f w) (plain.1 w) new behind_it (omega (arith, fewer, fuel)))
rest_decided s n smaller (either a b) plain now knows fuel =
    ⊎_elim
    (λ first. rest_decided s n smaller a plain.0 now first fuel)
    (λ second. rest_decided s n smaller b plain.1 now second fuel)
    (first_or_second s a b now plain.2 knows _ refl)
rest_decided s n smaller (either_by_two a b) plain now knows fuel =
    asked_decided s n now smaller (subst (λ q. Knows s (either_by_two property_rest q) now) plain.1 (subst (λ p. Knows s (either_by_two p b) now) plain.0 knows)) fuel
rest_decided s n smaller (more i r) plain now knows fuel =
    let split = more_either s i r now knows in
    ⊎_elim
    (λ next.
    smaller (item_then i (more i r)) (plain_item i r plain) (behind now 1 now.counts) (takes_first s (this (lexeme.Mark mark.Comma)) (item_then i (more i r)) r now split next)
    (omega (arith, fuel, fewer_behind now 1 now.counts (omega arith) (next_length now (this (lexeme.Mark mark.Comma)) next))))
    (λ other. rest_decided s n smaller r plain now (leaves_first s (this (lexeme.Mark mark.Comma)) (item_then i (more i r)) r now split other) fuel)
    (next_or_not now (this (lexeme.Mark mark.Comma)))

decided : (s : Start) (n : ℕ) (r : Rest) → IsPlain r → (now : Reader) → Knows s r now → unread now ≤ n → Decided s
decided s zero r plain now knows fuel = rest_decided s zero (λ q is new behind_it fewer. absurd (omega (arith, fewer))) r plain now knows fuel
decided s (suc n) r plain now knows fuel =
    rest_decided s (suc n) (λ q is new behind_it fewer. decided s n q is new behind_it (omega (arith, fewer))) r plain now knows fuel

-- every list of lexemes
pub statement_or_fault : (s : Start) → Decided s
statement_or_fault s =
    let lexemes : Bor (List Lexeme) = record { ref_ptr = (0, 0); now = s.lexemes } in
    let now : Reader = record { lexemes = lexemes; place = 0; counts = s.counts } in
    let knows : Knows s statement_rest now = record {
      done = [];
      ahead = s.lexemes;
      stand = started s;
      lexemes = refl;
      place = refl;
      adds = adds_nothing s.counts;
      bounded = tt;
      within = λ within. within;
    } in
    decided s (unread now) statement_rest plain_statement now knows (omega arith)
