-- Laws about keywords.
use Rattle.std.proofs.Common.{◌≡◌, ℕ, ◌<◌, List, get_or, refl, true, false, rules, lit<}
use Rattle.std.specs.Str.{bytes_eq}
use Rattle.std.proofs.lemmas.Slice.Eq.{bytes_eq-Decides}
use Rattle.mg_lex.specs.declared.keyword.Keyword.{Keyword}
use Rattle.mg_lex.specs.declared.keyword.Keyword.TheVariants as keyword
use Rattle.mg_lex.specs.declared.keyword.TheConstants.{KEYWORDS}
use Rattle.mg_lex.specs.Keyword.{keyword_text}
use Rattle.mg_lex.specs.Token.{IsWord}
use Rattle.mg_lex.proofs.Classes.{is_sign}

-- the table's keyword at a place
abbrev pub entry : ℕ → Keyword
entry i = get_or KEYWORDS i keyword.Group

-- each keyword stands in the table
pub place_in_table : (k : Keyword) → (i : ℕ) × (i < 36) × (entry i ≡ k)
place_in_table keyword.Group = (0, lit< tt, refl)
place_in_table keyword.Word = (1, lit< tt, refl)
place_in_table keyword.Subgroup = (2, lit< tt, refl)
place_in_table keyword.Map = (3, lit< tt, refl)
place_in_table keyword.Ask = (4, lit< tt, refl)
place_in_table keyword.Fund = (5, lit< tt, refl)
place_in_table keyword.Grant = (6, lit< tt, refl)
place_in_table keyword.Run = (7, lit< tt, refl)
place_in_table keyword.Cancel = (8, lit< tt, refl)
place_in_table keyword.Report = (9, lit< tt, refl)
place_in_table keyword.Extend = (10, lit< tt, refl)
place_in_table keyword.Known = (11, lit< tt, refl)
place_in_table keyword.See = (12, lit< tt, refl)
place_in_table keyword.By = (13, lit< tt, refl)
place_in_table keyword.Back = (14, lit< tt, refl)
place_in_table keyword.In = (15, lit< tt, refl)
place_in_table keyword.Out = (16, lit< tt, refl)
place_in_table keyword.Of = (17, lit< tt, refl)
place_in_table keyword.Kernel = (18, lit< tt, refl)
place_in_table keyword.Trivial = (19, lit< tt, refl)
place_in_table keyword.Abelian = (20, lit< tt, refl)
place_in_table keyword.Central = (21, lit< tt, refl)
place_in_table keyword.Normal = (22, lit< tt, refl)
place_in_table keyword.Extends = (23, lit< tt, refl)
place_in_table keyword.Onto = (24, lit< tt, refl)
place_in_table keyword.Index = (25, lit< tt, refl)
place_in_table keyword.Infinite = (26, lit< tt, refl)
place_in_table keyword.Derive = (27, lit< tt, refl)
place_in_table keyword.Act = (28, lit< tt, refl)
place_in_table keyword.Residue = (29, lit< tt, refl)
place_in_table keyword.Rewrite = (30, lit< tt, refl)
place_in_table keyword.Cosets = (31, lit< tt, refl)
place_in_table keyword.Nielsen = (32, lit< tt, refl)
place_in_table keyword.Recall = (33, lit< tt, refl)
place_in_table keyword.Facts = (34, lit< tt, refl)
place_in_table keyword.Log = (35, lit< tt, refl)

-- equal bytes are found equal
pub same_bytes : {xs ys : List ℕ} → xs ≡ ys → bytes_eq xs ys ≡ true
same_bytes {xs} {ys} same = search (rules, bytes_eq-Decides)

-- A keyword: a word that is no relator sign.
pub record KeywordForm (bytes : List ℕ) : Type 0 where
  pub word : IsWord bytes
  pub no_sign : is_sign bytes ≡ false

pub keyword_form : (k : Keyword) → KeywordForm (keyword_text k)
keyword_form keyword.Group = record { word = (refl, refl); no_sign = refl }
keyword_form keyword.Word = record { word = (refl, refl); no_sign = refl }
keyword_form keyword.Subgroup = record { word = (refl, refl); no_sign = refl }
keyword_form keyword.Map = record { word = (refl, refl); no_sign = refl }
keyword_form keyword.Ask = record { word = (refl, refl); no_sign = refl }
keyword_form keyword.Fund = record { word = (refl, refl); no_sign = refl }
keyword_form keyword.Grant = record { word = (refl, refl); no_sign = refl }
keyword_form keyword.Run = record { word = (refl, refl); no_sign = refl }
keyword_form keyword.Cancel = record { word = (refl, refl); no_sign = refl }
keyword_form keyword.Report = record { word = (refl, refl); no_sign = refl }
keyword_form keyword.Extend = record { word = (refl, refl); no_sign = refl }
keyword_form keyword.Known = record { word = (refl, refl); no_sign = refl }
keyword_form keyword.See = record { word = (refl, refl); no_sign = refl }
keyword_form keyword.By = record { word = (refl, refl); no_sign = refl }
keyword_form keyword.Back = record { word = (refl, refl); no_sign = refl }
keyword_form keyword.In = record { word = (refl, refl); no_sign = refl }
keyword_form keyword.Out = record { word = (refl, refl); no_sign = refl }
keyword_form keyword.Of = record { word = (refl, refl); no_sign = refl }
keyword_form keyword.Kernel = record { word = (refl, refl); no_sign = refl }
keyword_form keyword.Trivial = record { word = (refl, refl); no_sign = refl }
keyword_form keyword.Abelian = record { word = (refl, refl); no_sign = refl }
keyword_form keyword.Central = record { word = (refl, refl); no_sign = refl }
keyword_form keyword.Normal = record { word = (refl, refl); no_sign = refl }
keyword_form keyword.Extends = record { word = (refl, refl); no_sign = refl }
keyword_form keyword.Onto = record { word = (refl, refl); no_sign = refl }
keyword_form keyword.Index = record { word = (refl, refl); no_sign = refl }
keyword_form keyword.Infinite = record { word = (refl, refl); no_sign = refl }
keyword_form keyword.Derive = record { word = (refl, refl); no_sign = refl }
keyword_form keyword.Act = record { word = (refl, refl); no_sign = refl }
keyword_form keyword.Residue = record { word = (refl, refl); no_sign = refl }
keyword_form keyword.Rewrite = record { word = (refl, refl); no_sign = refl }
keyword_form keyword.Cosets = record { word = (refl, refl); no_sign = refl }
keyword_form keyword.Nielsen = record { word = (refl, refl); no_sign = refl }
keyword_form keyword.Recall = record { word = (refl, refl); no_sign = refl }
keyword_form keyword.Facts = record { word = (refl, refl); no_sign = refl }
keyword_form keyword.Log = record { word = (refl, refl); no_sign = refl }
