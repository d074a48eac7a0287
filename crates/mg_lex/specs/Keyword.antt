-- The words that the language keeps for itself.
use Rattle.std.specs.Prelude.{◌≡◌, ℕ, List, codes}
use Rattle.mg_lex.specs.declared.keyword.Keyword.{Keyword}
use Rattle.mg_lex.specs.declared.keyword.Keyword.TheVariants as keyword

-- how a keyword is written
abbrev pub keyword_text : Keyword → List ℕ
keyword_text keyword.Group = codes "group"
keyword_text keyword.Word = codes "word"
keyword_text keyword.Subgroup = codes "subgroup"
keyword_text keyword.Map = codes "map"
keyword_text keyword.Ask = codes "ask"
keyword_text keyword.Fund = codes "fund"
keyword_text keyword.Grant = codes "grant"
keyword_text keyword.Run = codes "run"
keyword_text keyword.Cancel = codes "cancel"
keyword_text keyword.Report = codes "report"
keyword_text keyword.Extend = codes "extend"
keyword_text keyword.Known = codes "known"
keyword_text keyword.See = codes "see"
keyword_text keyword.By = codes "by"
keyword_text keyword.Back = codes "back"
keyword_text keyword.In = codes "in"
keyword_text keyword.Out = codes "out"
keyword_text keyword.Of = codes "of"
keyword_text keyword.Kernel = codes "kernel"
keyword_text keyword.Trivial = codes "trivial"
keyword_text keyword.Abelian = codes "abelian"
keyword_text keyword.Central = codes "central"
keyword_text keyword.Normal = codes "normal"
keyword_text keyword.Extends = codes "extends"
keyword_text keyword.Onto = codes "onto"
keyword_text keyword.Index = codes "index"
keyword_text keyword.Infinite = codes "infinite"
keyword_text keyword.Derive = codes "derive"
keyword_text keyword.Act = codes "act"
keyword_text keyword.Residue = codes "residue"
keyword_text keyword.Rewrite = codes "rewrite"
keyword_text keyword.Cosets = codes "cosets"
keyword_text keyword.Nielsen = codes "nielsen"
keyword_text keyword.Recall = codes "recall"
keyword_text keyword.Facts = codes "facts"
keyword_text keyword.Log = codes "log"

-- the bytes write a keyword
abbrev pub IsKeyword : List ℕ → Type 0
IsKeyword bytes = (k : Keyword) × (keyword_text k ≡ bytes)
