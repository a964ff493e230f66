-- The soundness test as flags joined by "and", and as the rules' list of clauses.
use Prim.Native.Nat.{ℕ}
use mathlib.Core.Path.{◌≡◌, refl, sym, ap, ◌∙◌}
use mathlib.Core.Bool.{Bool, ◌&&◌, and-true, and_assoc}
use mathlib.Core.List.{List, [], ◌∷◌, ◌++◌}
use lib.ListN.{drop}
use Rattle.rules.specs.declared.Row.{Row}
use Rattle.rules.specs.declared.State.{State}
use Rattle.rules.specs.Sound.{all, are_marks, received_clauses, cycle_clauses, resting_clauses, selected_clauses, page_clauses, clauses, is_sound}

all_append : (a b : List Bool) → all (a ++ b) ≡ (all a && all b)
all_append [] b = refl
all_append (x ∷ a) b = ap (λ (t : Bool). x && t) (all_append a b) ∙ sym (and_assoc x (all a) (all b))

pub all_sound : (row : Row) (s : State) (latch : List ℕ) {a b c d e f : Bool} → a ≡ all (received_clauses row s) → b ≡ all (cycle_clauses row s) → c ≡ all (resting_clauses s)
    → d ≡ all (selected_clauses s) → e ≡ all (page_clauses row s)
    → f ≡ are_marks (drop row.page latch) → (a && b && c && d && e && f) ≡ is_sound row s latch
unfolding is_sound clauses
all_sound row s latch ea eb ec ed ee ef = rw (ea, eb, ec, ed, ee, ef) (simp (and_assoc, and-true))
