-- Lexemes are written of one list of pieces.
use Rattle.std.proofs.Common.{◌≡◌, ◌≢◌, ◌⊎◌, inl, inr, ⊎_elim, ℕ, None, ◌<◌, List, [], ◌∷◌, ◌++◌, take, refl, sym, ap, subst, ◌∙◌, arith}
use Rattle.mg_lex.specs.declared.keyword.Keyword.{Keyword}
use Rattle.mg_lex.specs.declared.keyword.Keyword.TheVariants as keyword
use Rattle.mg_lex.specs.declared.mark.Mark.{Mark}
use Rattle.mg_lex.specs.declared.mark.Mark.TheVariants as mark
use Rattle.mg_terms.specs.declared.lexeme.Lexeme.{Lexeme}
use Rattle.mg_terms.specs.declared.lexeme.Lexeme.TheVariants as lexeme
use Rattle.mg_terms.specs.Word.{Word, word_lexemes}
use Rattle.mg_terms.specs.Beginning.{BeginsBase, GoesOn, EndsBefore}
use Rattle.mg_terms.proofs.Beginnings.{follows, one_end}
use Rattle.mg_script.specs.declared.form.Property.{Property}
use Rattle.mg_script.specs.declared.form.Property.TheVariants as property
use Rattle.mg_script.specs.Statement.{property_keyword, Statement, Piece, sign, term, pieces_lexemes, statement_pieces, statement_lexemes}
use Rattle.mg_script.specs.Grammar.{Begins, CanEnd, EndsList, Tells, Item, listed_name, listed_word, listed_relation, listed_arrow, IsIn, a_property, Rest, end, sign_then, either, more, mark_then, keyword_then, item_then, comma_then, Reads, reads_end, reads_sign, reads_word, reads_first, reads_second, reads_one, reads_other, reads_more, reads_last, AreApart, property_rest, first_word_rest, close_group, relations_rest, bar_rest, group_rest, word_rest, subgroup_rest, map_rest, in_rest, words_rest, asked_rest, ask_rest, fund_rest, grant_rest, run_rest, cancel_rest, report_rest, from_report, from_cancel, from_run, from_grant, from_fund, from_ask, from_map, from_subgroup, from_word, statement_rest}
use Rattle.mg_script.proofs.Rests.{name_alone, word_first, reads_begins, reads_nothing, end_inv, sign_inv, this_inv, word_inv, either_inv, by_two_inv, more_cases}
use Rattle.mg_script.proofs.Written.{written}

-- lexemes that stand behind words, and with which no word goes on
mark_apart : (m : Mark) → m ≢ mark.Star → m ≢ mark.Caret → m ≢ mark.OpenRound → m ≢ mark.OpenSquare → (w : Word) → ¬ GoesOn w (lexeme.Mark m)
mark_apart m star caret open_round square w goes =
    ⊎_elim (λ e. star cc) (λ other. ⊎_elim (λ base. ⊎_elim open_round square base) (λ power. let e = power.0 in caret cc) other) (follows w (lexeme.Mark m) goes)

keyword_apart : (k : Keyword) (w : Word) → ¬ GoesOn w (lexeme.Keyword k)
keyword_apart k w goes = ⊎_elim (λ e. absurd cc) (λ other. ⊎_elim (λ base. base) (λ power. let e = power.0 in absurd cc) other) (follows w (lexeme.Keyword k) goes)

-- a lexeme behind a member of a list
abbrev EndsItem : Lexeme → Type 0
EndsItem x = (x ≡ lexeme.Mark mark.Comma) ⊎ EndsList x

at_mark : (m : Mark) → m ≢ mark.Star → m ≢ mark.Caret → m ≢ mark.OpenRound → m ≢ mark.OpenSquare → (x : Lexeme) → x ≡ lexeme.Mark m → (w : Word) → ¬ GoesOn w x
at_mark m star caret open_round square x e w = subst (λ y. ¬ GoesOn w y) (sym e) (mark_apart m star caret open_round square w)

item_apart : (x : Lexeme) → EndsItem x → (w : Word) → ¬ GoesOn w x
item_apart x ends w =
    ⊎_elim (λ e. at_mark mark.Comma (λ f. absurd cc) (λ f. absurd cc) (λ f. absurd cc) (λ f. absurd cc) x e w)
    (λ l. ⊎_elim (λ e. at_mark mark.Greater (λ f. absurd cc) (λ f. absurd cc) (λ f. absurd cc) (λ f. absurd cc) x e w)
    (λ m. ⊎_elim (λ e. at_mark mark.Bar (λ f. absurd cc) (λ f. absurd cc) (λ f. absurd cc) (λ f. absurd cc) x e w)
    (λ e. at_mark mark.CloseSquare (λ f. absurd cc) (λ f. absurd cc) (λ f. absurd cc) (λ f. absurd cc) x e w) m) l) ends

-- the next lexeme tells which of two comes
abbrev IsSplit : Rest → Rest → Type 0
IsSplit a b = ((x : Lexeme) → Begins a x → Begins b x → ⊥) × (CanEnd a → CanEnd b → ⊥)

relation_tells : (r : Rest) → Tells r → ((x : Lexeme) → Begins r x → EndsItem x) → (¬ CanEnd r) → Tells (item_then listed_relation r)
relation_tells r tells ends some u = (
  ((λ v. (tells, λ x begins. item_apart x (ends x begins) v)), tells, (λ x e begins. apart x e (ends x begins)), λ none. absurd none),
  λ x begins. ⊎_elim (λ e. at_mark mark.Equals (λ f. absurd cc) (λ f. absurd cc) (λ f. absurd cc) (λ f. absurd cc) x e u) (λ more'. item_apart x (ends x more') u) begins,
)
  where
    apart : (x : Lexeme) → x ≡ lexeme.Mark mark.Equals → EndsItem x → ⊥
    apart x e ends' = ⊎_elim (λ f. absurd cc) (λ l. ⊎_elim (λ f. absurd cc) (λ m. ⊎_elim (λ f. absurd cc) (λ f. absurd cc) m) l) ends'

pub item_tells : (i : Item) (r : Rest) → Tells r → ((x : Lexeme) → Begins r x → EndsItem x) → (¬ CanEnd r) → Tells (item_then i r)
item_tells listed_name r tells ends some = tells
item_tells listed_word r tells ends some = λ w. (tells, λ x begins. item_apart x (ends x begins) w)
item_tells listed_relation r tells ends some = relation_tells r tells ends some
item_tells listed_arrow r tells ends some = λ w. (tells, λ x begins. item_apart x (ends x begins) w)

pub comma_tells : (i : Item) (r : Rest) → Tells (more i r) → Tells (item_then i (more i r))
comma_tells i r tells = item_tells i (more i r) tells (λ x begins. ⊎_elim (λ e. inl e) (λ last. inr (tells.1 x last)) begins) tells.2

-- what stands behind a word ends it
pub ends_word : (w : Word) (r : Rest) (ps : List Piece) → Reads r ps → ((x : Lexeme) → Begins r x → ¬ GoesOn w x) → EndsBefore w (pieces_lexemes ps)
ends_word w r ps reads apart = by_first (pieces_lexemes ps) refl
  where
    by_first : (xs : List Lexeme) → pieces_lexemes ps ≡ xs → EndsBefore w xs
    by_first [] e = tt
    by_first (x ∷ xs) e = apart x (reads_begins r ps reads x xs e)

-- two that are told apart don't read the same lexemes
split_reads : (a b : Rest) (ps qs : List Piece) → IsSplit a b → Reads a ps → Reads b qs → pieces_lexemes ps ≡ pieces_lexemes qs → ⊥
split_reads a b ps qs split first second e = by_first (pieces_lexemes ps) refl
  where
    by_first : (xs : List Lexeme) → pieces_lexemes ps ≡ xs → ⊥
    by_first [] f = split.1 (reads_nothing a ps first f) (reads_nothing b qs second (sym e ∙ f))
    by_first (x ∷ xs) f = split.0 x (reads_begins a ps first x xs f) (reads_begins b qs second x xs (sym e ∙ f))

pub more_split : (i : Item) (r : Rest) → Tells (more i r) → IsSplit (comma_then i r) r
more_split i r tells = (λ x e begins. by_end x e (tells.1 x begins), λ none. absurd none)
  where
    by_end : (x : Lexeme) → x ≡ lexeme.Mark mark.Comma → EndsList x → ⊥
    by_end x e ends = ⊎_elim (λ f. absurd cc) (λ m. ⊎_elim (λ f. absurd cc) (λ f. absurd cc) m) ends

pub one_reading : (r : Rest) (ps qs : List Piece) → Tells r → Reads r ps → Reads r qs → pieces_lexemes ps ≡ pieces_lexemes qs → ps ≡ qs
one_reading _ _ qs tells reads_end second e = sym (end_inv qs second)
one_reading _ _ qs tells (reads_sign kind c r x ps in_class reads) second e =
    let h = sign_inv kind c r qs second in
    let both : x ∷ pieces_lexemes ps ≡ h.lexeme ∷ pieces_lexemes h.others = e ∙ ap pieces_lexemes h.split in
    let heads : x ≡ h.lexeme = cc in
    let tails : pieces_lexemes ps ≡ pieces_lexemes h.others = cc in
    let others = one_reading r ps h.others tells reads h.reads tails in
    ap (λ y. sign kind y ∷ ps) heads ∙ ap (λ us. sign kind h.lexeme ∷ us) others ∙ sym h.split
one_reading _ _ qs tells (reads_word kind left f w ps reads) second e =
    let h = word_inv kind left f qs second in
    let same = one_end w h.word (pieces_lexemes ps) (pieces_lexemes h.others) (e ∙ ap pieces_lexemes h.split)
    (ends_word w (f w) ps reads (tells w).1) (ends_word h.word (f h.word) h.others h.reads (tells h.word).1) in
    let others = one_reading (f w) ps h.others (tells w).0 reads (subst (λ v. Reads (f v) h.others) (sym same.0) h.reads) same.1 in
    ap (λ v. term kind left v ∷ ps) same.0 ∙ ap (λ us. term kind left h.word ∷ us) others ∙ sym h.split
one_reading _ _ qs tells (reads_first a b ps reads) second e =
    ⊎_elim (λ first. one_reading a ps qs tells.0 reads first e) (λ other. absurd (split_reads a b ps qs (tells.2, tells.3) reads other e)) (either_inv a b qs second)
one_reading _ _ qs tells (reads_second a b ps reads) second e =
    ⊎_elim (λ first. absurd (split_reads a b qs ps (tells.2, tells.3) first reads (sym e))) (λ other. one_reading b ps qs tells.1 reads other e) (either_inv a b qs second)
one_reading _ _ qs tells (reads_one a b ps reads) second e =
    ⊎_elim (λ one. one_reading a ps qs tells.0 reads one e) (λ other. absurd (tells.2 ps qs reads other (ap (take 2) e))) (by_two_inv a b qs second)
one_reading _ _ qs tells (reads_other a b ps reads) second e =
    ⊎_elim (λ one. absurd (tells.2 qs ps one reads (ap (take 2) (sym e)))) (λ other. one_reading b ps qs tells.1 reads other e) (by_two_inv a b qs second)
one_reading _ _ qs tells (reads_more i r ps reads) second e =
    ⊎_elim (λ comma. one_reading (comma_then i r) ps qs (comma_tells i r tells) reads comma e)
    (λ last. absurd (split_reads (comma_then i r) r ps qs (more_split i r tells) reads last e)) (more_cases i r qs second)
one_reading _ _ qs tells (reads_last i r ps reads) second e =
    ⊎_elim (λ comma. absurd (split_reads (comma_then i r) r qs ps (more_split i r tells) comma reads (sym e)))
    (λ last. one_reading r ps qs tells.0 reads last e) (more_cases i r qs second)

-- lists
base_not : (m : Mark) → m ≢ mark.OpenRound → m ≢ mark.OpenSquare → (x : Lexeme) → BeginsBase x → x ≡ lexeme.Mark m → ⊥
base_not m open_round square x base e = ⊎_elim open_round square (subst BeginsBase e base)

at_greater : (x : Lexeme) → x ≡ lexeme.Mark mark.Greater → EndsList x
at_greater x e = inl e

close_tells : (i : Item) → Tells (more i close_group)
close_tells i = (tt, at_greater, λ none. none)

relations_tells : Tells relations_rest
relations_tells = (
  comma_tells listed_relation close_group (close_tells listed_relation),
  tt,
  (λ x base e. base_not mark.Greater (λ f. absurd cc) (λ f. absurd cc) x base e),
  λ none. absurd none,
)

bar_tells : Tells bar_rest
bar_tells = (relations_tells, tt, (λ x e f. absurd cc), λ none. absurd none)

group_tells : Tells group_rest
group_tells = (
  comma_tells listed_name bar_rest (bar_tells, (λ x begins. ⊎_elim (λ e. inr (inl e)) (λ e. inl e) begins), λ none. ⊎_elim (λ n. n) (λ n. n) none),
  bar_tells,
  (λ x e begins. ⊎_elim (λ f. absurd cc) (λ f. absurd cc) begins),
  λ none. absurd none,
)

word_tells : Tells word_rest
word_tells w = (tt, λ x none. absurd none)

subgroup_tells : Tells subgroup_rest
subgroup_tells = (
  comma_tells listed_word close_group (close_tells listed_word),
  tt,
  (λ x base e. base_not mark.Greater (λ f. absurd cc) (λ f. absurd cc) x base e),
  λ none. absurd none,
)

map_tells : Tells map_rest
map_tells =
    (comma_tells listed_arrow (mark_then mark.CloseSquare end) (tt, (λ x e. inr (inr e)), λ none. none), tt, (λ x e f. absurd cc), λ none. absurd none)

-- questions
in_rest_tells : Tells in_rest
in_rest_tells = (tt, tt, (λ x e f. absurd cc), λ none. absurd none)

pub words_tells : Tells words_rest
words_tells = (
  (λ v. (tt, λ x e. subst (λ y. ¬ GoesOn v y) (sym e) (keyword_apart keyword.In v))),
  (in_rest_tells, tt, (λ x e f. absurd cc), λ none. absurd none),
  (λ x e begins. ⊎_elim (λ f. absurd cc) (λ f. absurd cc) begins),
  λ none. absurd none,
)

words_begin : (x : Lexeme) → Begins words_rest x → (w : Word) → ¬ GoesOn w x
words_begin x begins w =
    ⊎_elim (λ e. at_mark mark.Equals (λ f. absurd cc) (λ f. absurd cc) (λ f. absurd cc) (λ f. absurd cc) x e w)
    (λ other. ⊎_elim (λ e. subst (λ y. ¬ GoesOn w y) (sym e) (keyword_apart keyword.In w)) (λ e. subst (λ y. ¬ GoesOn w y) (sym e) (keyword_apart keyword.Central w)) other) begins

property_apart : (p : Property) (x : Lexeme) → x ≡ lexeme.Keyword (property_keyword p) → Begins words_rest x → ⊥
property_apart property.Trivial x e begins = ⊎_elim (λ f. absurd cc) (λ other. ⊎_elim (λ f. absurd cc) (λ f. absurd cc) other) begins
property_apart property.Abelian x e begins = ⊎_elim (λ f. absurd cc) (λ other. ⊎_elim (λ f. absurd cc) (λ f. absurd cc) other) begins
property_apart property.Normal x e begins = ⊎_elim (λ f. absurd cc) (λ other. ⊎_elim (λ f. absurd cc) (λ f. absurd cc) other) begins
property_apart property.Extends x e begins = ⊎_elim (λ f. absurd cc) (λ other. ⊎_elim (λ f. absurd cc) (λ f. absurd cc) other) begins
property_apart property.Onto x e begins = ⊎_elim (λ f. absurd cc) (λ other. ⊎_elim (λ f. absurd cc) (λ f. absurd cc) other) begins

-- a word and what is asked of it don't begin with a name and a property
two_apart : (xs : List Lexeme) (w : Word) (others : List Piece) (x : Lexeme) → word_lexemes w ≡ xs → IsIn a_property x → Reads words_rest others →
    take 2 (xs ++ pieces_lexemes others) ≡ lexeme.Name ∷ x ∷ [] → ⊥
two_apart [] w others x f property reads e = let h = word_first w in let none : h.0 ∷ h.1 ≡ [] = sym h.2 ∙ f in absurd cc
two_apart (y ∷ []) w others x f property reads e = next_apart (pieces_lexemes others) refl
  where
    next_apart : (zs : List Lexeme) → pieces_lexemes others ≡ zs → ⊥
    next_apart [] g = let short : y ∷ [] ≡ lexeme.Name ∷ x ∷ [] = ap (λ us. take 2 (y ∷ us)) (sym g) ∙ e in absurd cc
    next_apart (z ∷ zs) g =
        let two : y ∷ z ∷ [] ≡ lexeme.Name ∷ x ∷ [] = ap (λ us. take 2 (y ∷ us)) (sym g) ∙ e in
        let same : z ≡ x = cc in
        property_apart property.0 z (same ∙ property.1) (reads_begins words_rest others reads z zs g)
two_apart (y ∷ (z ∷ ys)) w others x f property reads e =
    let two : y ∷ z ∷ [] ≡ lexeme.Name ∷ x ∷ [] = e in
    let first : y ≡ lexeme.Name = cc in
    let second : z ≡ x = cc in
    keyword_apart (property_keyword property.0) name_alone (w, ys, f ∙ ap (λ u. u ∷ (z ∷ ys)) first ∙ ap (λ u. lexeme.Name ∷ (u ∷ ys)) (second ∙ property.1))

asked_apart : AreApart property_rest first_word_rest
asked_apart ps qs property words e =
    let h = this_inv None lexeme.Name (sign_then None a_property end) ps property in
    let k = sign_inv None a_property end h.0 h.2 in
    let w = word_inv None None (λ v. words_rest) qs words in
    let both : ps ≡ sign None lexeme.Name ∷ sign None k.lexeme ∷ k.others = h.1 ∙ ap (λ us. sign None lexeme.Name ∷ us) k.split in
    two_apart (word_lexemes w.word) w.word w.others k.lexeme refl k.in_class w.reads
    (ap (λ us. take 2 (pieces_lexemes us)) (sym w.split) ∙ sym e ∙ ap (λ us. take 2 (pieces_lexemes us)) both)

asked_tells : Tells asked_rest
asked_tells = (tt, (λ w. (words_tells, λ x begins. words_begin x begins w)), asked_apart)

pub run_tells : Tells run_rest
run_tells = (tt, tt, (λ x e none. none), λ none. absurd none)

report_tells : Tells report_rest
report_tells =
    (tt, (tt, tt, (λ x e none. none), λ none. absurd none), (λ x e begins. ⊎_elim (λ f. absurd cc) (λ none. none) begins), λ none. absurd none)

-- the keywords of statements, in order
abbrev order : Keyword → ℕ
order keyword.Group = 1
order keyword.Word = 2
order keyword.Subgroup = 3
order keyword.Map = 4
order keyword.Ask = 5
order keyword.Fund = 6
order keyword.Grant = 7
order keyword.Run = 8
order keyword.Cancel = 9
order keyword.Report = 10
order _ = 0

abbrev lexeme_order : Lexeme → ℕ
lexeme_order (lexeme.Keyword k) = order k
lexeme_order _ = 0

-- what is behind a keyword in the order
abbrev IsPast : Keyword → Rest → Type 0
IsPast k b = (x : Lexeme) → Begins b x → order k < lexeme_order x

past : (j k : Keyword) (r b : Rest) → order j < order k → IsPast k b → IsPast j (either (keyword_then k r) b)
past j k r b less behind x begins =
    ⊎_elim (λ e. omega (arith, less, ap lexeme_order e)) (λ other. let more' = behind x other in omega (arith, less, more')) begins

keyword_tells : (k : Keyword) (r b : Rest) → Tells r → Tells b → IsPast k b → Tells (either (keyword_then k r) b)
keyword_tells k r b first second behind =
    (first, second, (λ x e begins. let more' = behind x begins in omega (arith, more', ap lexeme_order e)), λ none. absurd none)

past_cancel : IsPast keyword.Cancel from_report
past_cancel x e = omega (arith, ap lexeme_order e)

past_run : IsPast keyword.Run from_cancel
past_run = past keyword.Run keyword.Cancel cancel_rest from_report (omega arith) past_cancel

past_grant : IsPast keyword.Grant from_run
past_grant = past keyword.Grant keyword.Run run_rest from_cancel (omega arith) past_run

past_fund : IsPast keyword.Fund from_grant
past_fund = past keyword.Fund keyword.Grant grant_rest from_run (omega arith) past_grant

past_ask : IsPast keyword.Ask from_fund
past_ask = past keyword.Ask keyword.Fund fund_rest from_grant (omega arith) past_fund

past_map : IsPast keyword.Map from_ask
past_map = past keyword.Map keyword.Ask ask_rest from_fund (omega arith) past_ask

past_subgroup : IsPast keyword.Subgroup from_map
past_subgroup = past keyword.Subgroup keyword.Map map_rest from_ask (omega arith) past_map

past_word : IsPast keyword.Word from_subgroup
past_word = past keyword.Word keyword.Subgroup subgroup_rest from_map (omega arith) past_subgroup

past_group : IsPast keyword.Group from_word
past_group = past keyword.Group keyword.Word word_rest from_subgroup (omega arith) past_word

pub statement_tells : Tells statement_rest
statement_tells =
    keyword_tells keyword.Group group_rest from_word group_tells
    (keyword_tells keyword.Word word_rest from_subgroup word_tells
    (keyword_tells keyword.Subgroup subgroup_rest from_map subgroup_tells
    (keyword_tells keyword.Map map_rest from_ask map_tells
    (keyword_tells keyword.Ask ask_rest from_fund asked_tells
    (keyword_tells keyword.Fund fund_rest from_grant tt
    (keyword_tells keyword.Grant grant_rest from_run tt
    (keyword_tells keyword.Run run_rest from_cancel run_tells
    (keyword_tells keyword.Cancel cancel_rest from_report tt report_tells past_cancel)
    past_run) past_grant) past_fund) past_ask) past_map) past_subgroup) past_word) past_group

pub one_writing : (s t : Statement) → statement_lexemes s ≡ statement_lexemes t → statement_pieces s ≡ statement_pieces t
one_writing s t e = one_reading statement_rest (statement_pieces s) (statement_pieces t) statement_tells (written s) (written t) e
