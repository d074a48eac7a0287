use Rattle.std.proofs.Common.{◌≡◌, ℕ, ◌-◌, ◌≤◌, length}
use Rattle.mg_numbers.specs.Perms.{factorial}
use Rattle.mg_action.specs.Next.{IsPlaced, behind}
use Rattle.mg_action.proofs.nexts.put_next.Given as goal

abbrev pub invariant-loop-place : goal.invariant-loop-place
invariant-loop-place l = record {
  same : l.perm ≡ l.fn.perm;
  within : l.place ≤ l.fn.images;
  behind_all : (n : ℕ) → IsPlaced (length l.fn.perm) n l.fn.perm → behind (factorial (length l.fn.perm - l.fn.images)) n ≡ behind (factorial (length l.fn.perm - l.place)) n;
}

abbrev pub decreases-loop-place : goal.decreases-loop-place
decreases-loop-place l = l.place
