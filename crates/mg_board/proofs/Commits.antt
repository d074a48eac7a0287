-- A commit appends one stamp, and answers its place.
use Rattle.std.proofs.Common.{◌≡◌, ℕ, List, [], ◌∷◌, ◌++◌, length, Option, Result, Ok, Err, IfOk, ◌≢◌, refl, ap, sym, subst, ◌∙◌, append-nil}
use Rattle.mg_core.specs.declared.entries.Entry.{Entry}
use Rattle.mg_core.specs.declared.entries.Committed.{Committed}
use Rattle.mg_core.specs.declared.entries.Committed.TheVariants.{Kept, Dropped}
use Rattle.mg_core.specs.Book.{Commits}
use mathlib.Core.List.{IsPrefix}
use Rattle.mg_board.specs.History.{stamps_of, IsAmong, Reaches}
use Rattle.mg_board.specs.Passes.{stamp_of, place_of, pass_of, PassState, SeesMore}
use Rattle.mg_board.proofs.Histories.{prefix_more, prefix_trans, stamps_append, stamps_here, stamps_else}

module _ {R K : Type 0} (settles : R → Option K) (key : K) (old : List (Entry R)) (entry : Entry R) (new : List (Entry R)) where
  pub commit_appends : (c : Committed) → Commits settles key old entry new c → new ≡ old ++ stamp_of entry c ∷ []
  commit_appends (Kept place) h = h.1
  commit_appends (Dropped place by) h = h.2

  pub commit_place : (c : Committed) → Commits settles key old entry new c → place_of c ≡ length new
  commit_place (Kept place) h = h.2
  commit_place (Dropped place by) h = h.3

pub stamp_pass : {R : Type 0} (entry : Entry R) (c : Committed) → pass_of (stamp_of entry c) ≡ pass_of entry
stamp_pass entry (Kept place) = refl
stamp_pass entry (Dropped place by) = refl

module _ {X : Type 0} (by : X → ℕ) where
  -- a log that was reached, with one stamp more of the pass's number
  pub goes_on : (pass new : PassState X) (log : List X) (x : X) → new ≡ record pass { seen = new.seen } → Reaches by pass.numbers pass.seen log → new.seen ≡ log ++ x ∷ [] → by x ≡ pass.number → IsAmong pass.number pass.numbers → SeesMore by pass new (x ∷ [])
  goes_on pass new log x same r more is live = record {
    same = same;
    begins = subst (IsPrefix pass.seen) (sym more) (prefix_trans pass.seen log (log ++ x ∷ []) r.begins (prefix_more log (x ∷ [])));
    own = ap (stamps_of by pass.number) more ∙ (stamps_append by pass.number log (x ∷ []) ∙ (ap (λ l. l ++ stamps_of by pass.number (x ∷ [])) (r.own pass.number live) ∙ ap (λ l. stamps_of by pass.number pass.seen ++ l) (stamps_here by pass.number x is)));
    others = λ n a ne. let apart : by x ≢ n = λ e. ne (sym e ∙ is) in
        ap (stamps_of by n) more ∙ (stamps_append by n log (x ∷ []) ∙ (ap (λ l. stamps_of by n log ++ l) (stamps_else by n x apart) ∙ (append-nil (stamps_of by n log) ∙ r.own n a)));
  }

  pub goes_still : (pass new : PassState X) → new ≡ record pass { seen = new.seen } → Reaches by pass.numbers pass.seen new.seen → IsAmong pass.number pass.numbers → SeesMore by pass new []
  goes_still pass new same r live = record {
    same = same;
    begins = r.begins;
    own = r.own pass.number live ∙ sym (append-nil (stamps_of by pass.number pass.seen));
    others = λ n a ne. r.own n a;
  }

pub if_ok_map : {X E : Type 0} (P Q : X → Type 0) → ((x : X) → P x → Q x) → (r : Result X E) → IfOk r P → IfOk r Q
if_ok_map P Q f (Ok x) h = f x h
if_ok_map P Q f (Err e) h = h
