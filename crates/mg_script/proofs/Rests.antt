-- What may stand behind a beginning, and the pieces of statements.
use Rattle.std.proofs.Common.{◌≡◌, ◌⊎◌, inl, inr, ⊎_elim, ℕ, zero, suc, Option, Some, None, List, [], ◌∷◌, ◌++◌, map, refl, sym, ap, subst, ◌∙◌, append_assoc, length, ◌<◌, arith, length-append}
use Rattle.mg_lex.specs.declared.keyword.Keyword.TheVariants as keyword
use Rattle.mg_lex.specs.declared.mark.Mark.TheVariants as mark
use Rattle.mg_terms.specs.declared.lexeme.Lexeme.{Lexeme}
use Rattle.mg_terms.specs.declared.lexeme.Lexeme.TheVariants as lexeme
use Rattle.mg_terms.specs.Word.{Base, name, one, round, commutator, Factor, bare, power, Word, single, times, minus_lexemes, star_lexemes, base_lexemes, factor_lexemes, word_lexemes}
use Rattle.mg_terms.specs.Beginning.{BeginsBase}
use Rattle.mg_words.specs.declared.procedure.Procedure.TheVariants as procedure
use Rattle.mg_script.specs.declared.counted.Counted.{Counted}
use Rattle.mg_script.specs.declared.counted.Counted.TheVariants as counted
use Rattle.mg_script.specs.declared.form.Property.TheVariants as property
use Rattle.mg_script.specs.Statement.{Relation, relator, equation, Piece, sign, term, pieces_lexemes, counted_name, a_word, the_mark, listed_on, listed, relation_pieces, member_pieces, arrow_pieces}
use Rattle.mg_script.specs.Grammar.{Begins, CanEnd, Item, listed_name, listed_word, listed_relation, listed_arrow, Class, this, a_number, a_procedure, a_property, IsIn, relation_then, Rest, end, sign_then, word_then, either, either_by_two, more, mark_then, item_then, comma_then, list_then, Reads, reads_end, reads_sign, reads_word, reads_first, reads_second, reads_one, reads_other, reads_more, reads_last}

-- a lexeme of a class
pub one_of : (c : Class) → (x : Lexeme) × IsIn c x
one_of (this x) = (x, refl)
one_of a_number = (lexeme.Number 0, (0, refl))
one_of a_procedure = (lexeme.Keyword keyword.Derive, (procedure.Derive, refl))
one_of a_property = (lexeme.Keyword keyword.Trivial, (property.Trivial, refl))

-- the word that is a name alone
abbrev pub name_alone : Word
name_alone = single (bare name)

-- some pieces are such a rest
pub sample : (r : Rest) → (ps : List Piece) × Reads r ps
sample end = ([], reads_end)
sample (sign_then kind c r) = let x = one_of c in let s = sample r in (sign kind x.0 ∷ s.0, reads_sign kind c r x.0 s.0 x.1 s.1)
sample (word_then kind left f) = let s = sample (f name_alone) in (term kind left name_alone ∷ s.0, reads_word kind left f name_alone s.0 s.1)
sample (either a b) = let s = sample a in (s.0, reads_first a b s.0 s.1)
sample (either_by_two a b) = let s = sample a in (s.0, reads_one a b s.0 s.1)
sample (more i r) = let s = sample r in (s.0, reads_last i r s.0 s.1)

-- the first lexeme of a word
abbrev pub HasFirst : List Lexeme → Type 0
HasFirst xs = (x : Lexeme) × (ys : List Lexeme) × (xs ≡ x ∷ ys) × BeginsBase x

first_append : (xs ys : List Lexeme) → HasFirst xs → HasFirst (xs ++ ys)
first_append xs ys h = (h.0, h.1 ++ ys, ap (λ zs. zs ++ ys) h.2, h.3)

mutual
  base_first : (b : Base) → HasFirst (base_lexemes b)
  base_first name = (lexeme.Name, [], refl, tt)
  base_first one = (lexeme.Number 1, [], refl, refl)
  base_first (round w) = (lexeme.Mark mark.OpenRound, word_lexemes w ++ lexeme.Mark mark.CloseRound ∷ [], refl, inl refl)
  base_first (commutator u v) = (lexeme.Mark mark.OpenSquare, word_lexemes u ++ lexeme.Mark mark.Comma ∷ (word_lexemes v ++ lexeme.Mark mark.CloseSquare ∷ []), refl, inr refl)

  factor_first : (f : Factor) → HasFirst (factor_lexemes f)
  factor_first (bare b) = base_first b
  factor_first (power b negative n) = first_append (base_lexemes b) (lexeme.Mark mark.Caret ∷ (minus_lexemes negative ++ lexeme.Number n ∷ [])) (base_first b)

  pub word_first : (w : Word) → HasFirst (word_lexemes w)
  word_first (single f) = factor_first f
  word_first (times w star f) = first_append (word_lexemes w) (star_lexemes star ++ factor_lexemes f) (word_first w)

pub reads_begins : (r : Rest) (ps : List Piece) → Reads r ps → (x : Lexeme) (ys : List Lexeme) → pieces_lexemes ps ≡ x ∷ ys → Begins r x
reads_begins _ _ reads_end x ys e = absurd cc
reads_begins _ _ (reads_sign kind c r y ps in_class reads) x ys e = let same : y ≡ x = cc in subst (IsIn c) same in_class
reads_begins _ _ (reads_word kind left f w ps reads) x ys e =
    let h = word_first w in
    let heads : h.0 ∷ (h.1 ++ pieces_lexemes ps) ≡ x ∷ ys = ap (λ zs. zs ++ pieces_lexemes ps) (sym h.2) ∙ e in
    let same : h.0 ≡ x = cc in subst BeginsBase same h.3
reads_begins _ _ (reads_first a b ps reads) x ys e = inl (reads_begins a ps reads x ys e)
reads_begins _ _ (reads_second a b ps reads) x ys e = inr (reads_begins b ps reads x ys e)
reads_begins _ _ (reads_one a b ps reads) x ys e = inl (reads_begins a ps reads x ys e)
reads_begins _ _ (reads_other a b ps reads) x ys e = inr (reads_begins b ps reads x ys e)
reads_begins _ _ (reads_more i r ps reads) x ys e = inl (reads_begins (comma_then i r) ps reads x ys e)
reads_begins _ _ (reads_last i r ps reads) x ys e = inr (reads_begins r ps reads x ys e)

pub reads_nothing : (r : Rest) (ps : List Piece) → Reads r ps → pieces_lexemes ps ≡ [] → CanEnd r
reads_nothing _ _ reads_end e = tt
reads_nothing _ _ (reads_sign kind c r y ps in_class reads) e = absurd cc
reads_nothing _ _ (reads_word kind left f w ps reads) e =
    let h = word_first w in
    let heads : h.0 ∷ (h.1 ++ pieces_lexemes ps) ≡ [] = ap (λ zs. zs ++ pieces_lexemes ps) (sym h.2) ∙ e in
    absurd cc
reads_nothing _ _ (reads_first a b ps reads) e = inl (reads_nothing a ps reads e)
reads_nothing _ _ (reads_second a b ps reads) e = inr (reads_nothing b ps reads e)
reads_nothing _ _ (reads_one a b ps reads) e = inl (reads_nothing a ps reads e)
reads_nothing _ _ (reads_other a b ps reads) e = inr (reads_nothing b ps reads e)
reads_nothing _ _ (reads_more i r ps reads) e = absurd (reads_nothing (comma_then i r) ps reads e)
reads_nothing _ _ (reads_last i r ps reads) e = reads_nothing r ps reads e

-- a rest read piece by piece
pub end_inv : (ps : List Piece) → Reads end ps → ps ≡ []
end_inv _ reads_end = refl

pub record SignRead (kind : Option Counted) (c : Class) (r : Rest) (ps : List Piece) : Type 0 where
  pub lexeme : Lexeme
  pub others : List Piece
  pub split : ps ≡ sign kind lexeme ∷ others
  pub in_class : IsIn c lexeme
  pub reads : Reads r others

pub sign_inv : (kind : Option Counted) (c : Class) (r : Rest) (ps : List Piece) → Reads (sign_then kind c r) ps → SignRead kind c r ps
sign_inv _ _ _ _ (reads_sign kind c r x ps in_class reads) = record { lexeme = x; others = ps; split = refl; in_class = in_class; reads = reads }

pub this_inv : (kind : Option Counted) (y : Lexeme) (r : Rest) (ps : List Piece) → Reads (sign_then kind (this y) r) ps → (qs : List Piece) × (ps ≡ sign kind y ∷ qs) × Reads r qs
this_inv kind y r ps reads = let h = sign_inv kind (this y) r ps reads in (h.others, h.split ∙ ap (λ x. sign kind x ∷ h.others) h.in_class, h.reads)

pub record WordRead (kind : Option Counted) (left : Option Word) (f : Word → Rest) (ps : List Piece) : Type 0 where
  pub word : Word
  pub others : List Piece
  pub split : ps ≡ term kind left word ∷ others
  pub reads : Reads (f word) others

pub word_inv : (kind : Option Counted) (left : Option Word) (f : Word → Rest) (ps : List Piece) → Reads (word_then kind left f) ps → WordRead kind left f ps
word_inv _ _ _ _ (reads_word kind left f w ps reads) = record { word = w; others = ps; split = refl; reads = reads }

pub either_inv : (a b : Rest) (ps : List Piece) → Reads (either a b) ps → Reads a ps ⊎ Reads b ps
either_inv _ _ _ (reads_first a b ps reads) = inl reads
either_inv _ _ _ (reads_second a b ps reads) = inr reads

pub by_two_inv : (a b : Rest) (ps : List Piece) → Reads (either_by_two a b) ps → Reads a ps ⊎ Reads b ps
by_two_inv _ _ _ (reads_one a b ps reads) = inl reads
by_two_inv _ _ _ (reads_other a b ps reads) = inr reads

pub more_cases : (i : Item) (r : Rest) (ps : List Piece) → Reads (more i r) ps → Reads (comma_then i r) ps ⊎ Reads r ps
more_cases _ _ _ (reads_more i r ps reads) = inl reads
more_cases _ _ _ (reads_last i r ps reads) = inr reads

pub reads_this : (kind : Option Counted) (y : Lexeme) (r : Rest) (ps : List Piece) → Reads r ps → Reads (sign_then kind (this y) r) (sign kind y ∷ ps)
reads_this kind y r ps reads = reads_sign kind (this y) r y ps refl reads

-- what a member of a list is, and how it is written
abbrev pub Value : Item → Type 0
Value listed_name = Unit {0}
Value listed_word = Word
Value listed_relation = Relation
Value listed_arrow = Word

abbrev pub item_pieces : (i : Item) → Value i → List Piece
item_pieces listed_name = λ u. counted_name counted.Generators ∷ []
item_pieces listed_word = member_pieces
item_pieces listed_relation = relation_pieces
item_pieces listed_arrow = arrow_pieces

abbrev pub more_pieces : (i : Item) → List (Value i) → List Piece
more_pieces i vs = listed_on (map (item_pieces i) vs)

abbrev pub list_pieces : (i : Item) → List (Value i) → List Piece
list_pieces i vs = listed (map (item_pieces i) vs)

relation_reads : (v : Relation) (r : Rest) (ps : List Piece) → Reads r ps → Reads (relation_then r) (relation_pieces v ++ ps)
relation_reads (relator u) r ps reads =
    reads_word (Some counted.Relators) None _ u ps (reads_second (mark_then mark.Equals (word_then None (Some u) (λ v. r))) r ps reads)
relation_reads (equation u v) r ps reads =
    reads_word (Some counted.Relators) None _ u (the_mark mark.Equals ∷ term None (Some u) v ∷ ps)
    (reads_first (mark_then mark.Equals (word_then None (Some u) (λ w. r))) r (the_mark mark.Equals ∷ term None (Some u) v ∷ ps)
    (reads_this None (lexeme.Mark mark.Equals) (word_then None (Some u) (λ w. r)) (term None (Some u) v ∷ ps) (reads_word None (Some u) (λ w. r) v ps reads)))

pub item_reads : (i : Item) (v : Value i) (r : Rest) (ps : List Piece) → Reads r ps → Reads (item_then i r) (item_pieces i v ++ ps)
item_reads listed_name v r ps reads = reads_this (Some counted.Generators) lexeme.Name r ps reads
item_reads listed_word v r ps reads = reads_word (Some counted.Members) None (λ w. r) v ps reads
item_reads listed_relation v r ps reads = relation_reads v r ps reads
item_reads listed_arrow v r ps reads =
    reads_this None lexeme.Name (mark_then mark.Arrow (word_then None None (λ w. r))) (the_mark mark.Arrow ∷ a_word v ∷ ps)
    (reads_this None (lexeme.Mark mark.Arrow) (word_then None None (λ w. r)) (a_word v ∷ ps) (reads_word None None (λ w. r) v ps reads))

pub record ItemRead (i : Item) (r : Rest) (ps : List Piece) : Type 0 where
  pub value : Value i
  pub others : List Piece
  pub split : ps ≡ item_pieces i value ++ others
  pub reads : Reads r others

relation_inv : (r : Rest) (ps : List Piece) → Reads (relation_then r) ps → ItemRead listed_relation r ps
relation_inv r ps reads =
    let h = word_inv (Some counted.Relators) None (λ u. either (mark_then mark.Equals (word_then None (Some u) (λ v. r))) r) ps reads in
    ⊎_elim (λ left.
    let k = this_inv None (lexeme.Mark mark.Equals) (word_then None (Some h.word) (λ v. r)) h.others left in
    let l = word_inv None (Some h.word) (λ v. r) k.0 k.2 in
    record { value = equation h.word l.word; others = l.others; split = cc (h.split, k.1, l.split); reads = l.reads })
    (λ other. record { value = relator h.word; others = h.others; split = h.split; reads = other })
    (either_inv (mark_then mark.Equals (word_then None (Some h.word) (λ v. r))) r h.others h.reads)

pub item_inv : (i : Item) (r : Rest) (ps : List Piece) → Reads (item_then i r) ps → ItemRead i r ps
item_inv listed_name r ps reads = let h = this_inv (Some counted.Generators) lexeme.Name r ps reads in record { value = tt; others = h.0; split = h.1; reads = h.2 }
item_inv listed_word r ps reads = let h = word_inv (Some counted.Members) None (λ w. r) ps reads in record { value = h.word; others = h.others; split = h.split; reads = h.reads }
item_inv listed_relation r ps reads = relation_inv r ps reads
item_inv listed_arrow r ps reads =
    let h = this_inv None lexeme.Name (mark_then mark.Arrow (word_then None None (λ w. r))) ps reads in
    let k = this_inv None (lexeme.Mark mark.Arrow) (word_then None None (λ w. r)) h.0 h.2 in
    let l = word_inv None None (λ w. r) k.0 k.2 in
    record { value = l.word; others = l.others; split = cc (h.1, k.1, l.split); reads = l.reads }

pub more_reads : (i : Item) (vs : List (Value i)) (r : Rest) (ps : List Piece) → Reads r ps → Reads (more i r) (more_pieces i vs ++ ps)
more_reads i [] r ps reads = reads_last i r ps reads
more_reads i (v ∷ vs) r ps reads =
    reads_more i r (more_pieces i (v ∷ vs) ++ ps)
    (reads_this None (lexeme.Mark mark.Comma) (item_then i (more i r)) ((item_pieces i v ++ more_pieces i vs) ++ ps)
    (subst (Reads (item_then i (more i r))) (sym (append_assoc (item_pieces i v) (more_pieces i vs) ps))
    (item_reads i v (more i r) (more_pieces i vs ++ ps) (more_reads i vs r ps reads))))

pub list_reads : (i : Item) (vs : List (Value i)) (r : Rest) (ps : List Piece) → Reads r ps → Reads (list_then i r) (list_pieces i vs ++ ps)
list_reads i [] r ps reads = reads_second (item_then i (more i r)) r ps reads
list_reads i (v ∷ vs) r ps reads =
    reads_first (item_then i (more i r)) r (list_pieces i (v ∷ vs) ++ ps)
    (subst (Reads (item_then i (more i r))) (sym (append_assoc (item_pieces i v) (more_pieces i vs) ps))
    (item_reads i v (more i r) (more_pieces i vs ++ ps) (more_reads i vs r ps reads)))

pub record ListRead (i : Item) (r : Rest) (ps : List Piece) (write : List (Value i) → List Piece) : Type 0 where
  pub values : List (Value i)
  pub others : List Piece
  pub split : ps ≡ write values ++ others
  pub reads : Reads r others

more_step : (i : Item) (r : Rest) (ps : List Piece) → Reads (comma_then i r) ps → (v : Value i) × (qs : List Piece) × (ps ≡ the_mark mark.Comma ∷ (item_pieces i v ++ qs)) × Reads (more i r) qs
more_step i r ps reads =
    let h = this_inv None (lexeme.Mark mark.Comma) (item_then i (more i r)) ps reads in
    let k = item_inv i (more i r) h.0 h.2 in
    (k.value, k.others, h.1 ∙ ap (λ xs. the_mark mark.Comma ∷ xs) k.split, k.reads)

shorter : (i : Item) (v : Value i) (ps qs : List Piece) → ps ≡ the_mark mark.Comma ∷ (item_pieces i v ++ qs) → length qs < length ps
shorter i v ps qs e = omega (arith, ap length e, length-append (item_pieces i v) qs)

more_list : (n : ℕ) (i : Item) (r : Rest) (ps : List Piece) → length ps < n → Reads (more i r) ps → ListRead i r ps (more_pieces i)
more_list zero i r ps short reads = absurd (omega (arith, short))
more_list (suc n) i r ps short reads =
    ⊎_elim (λ comma.
    let h = more_step i r ps comma in
    let less = shorter i h.0 ps h.1 h.2 in
    let k = more_list n i r h.1 (omega (arith, short, less)) h.3 in
    record {
      values = h.0 ∷ k.values;
      others = k.others;
      split = h.2 ∙ ap (λ xs. the_mark mark.Comma ∷ (item_pieces i h.0 ++ xs)) k.split ∙ ap (λ xs. the_mark mark.Comma ∷ xs) (sym (append_assoc (item_pieces i h.0) (more_pieces i k.values) k.others));
      reads = k.reads;
    })
    (λ last. record { values = []; others = ps; split = refl; reads = last })
    (more_cases i r ps reads)

pub more_inv : (i : Item) (r : Rest) (ps : List Piece) → Reads (more i r) ps → ListRead i r ps (more_pieces i)
more_inv i r ps reads = more_list (suc (length ps)) i r ps (omega arith) reads

pub list_inv : (i : Item) (r : Rest) (ps : List Piece) → Reads (list_then i r) ps → ListRead i r ps (list_pieces i)
list_inv i r ps reads =
    ⊎_elim (λ some.
    let h = item_inv i (more i r) ps some in
    let k = more_inv i r h.others h.reads in
    record {
      values = h.value ∷ k.values;
      others = k.others;
      split = h.split ∙ ap (λ xs. item_pieces i h.value ++ xs) k.split ∙ sym (append_assoc (item_pieces i h.value) (more_pieces i k.values) k.others);
      reads = k.reads;
    })
    (λ last. record { values = []; others = ps; split = refl; reads = last })
    (either_inv (item_then i (more i r)) r ps reads)
