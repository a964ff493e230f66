-- `memory::are_marks` meets its contract.
use mathlib.Core.Path.{refl, ◌∙◌}
use mathlib.Core.Bool.{◌&&◌}
use lib.Dec.{leb}
use borrow.Author.Rules.{rules}
use borrow.Author.Tests.{tests}
use Rattle.std.specs.List.{list_all}
use Rattle.std.proofs.lemmas.Iterator.{YieldsList-from_slice}
use Rattle.std.proofs.lemmas.Iterator.Search.{all_from_yields_List}
use Rattle.std.proofs.lemmas.List.Recursion.{same_from_clauses}
use Rattle.rules.specs.Sound.{are_marks}
use Rattle.memory.proofs.are_marks.Goals as goal

pub returns : goal.returns
returns c =
    let ms = c.args.marks.now in
    all_from_yields_List (λ m. leb m 1) _ _ _ c.all.ensures.ran (YieldsList-from_slice ms cc) (λ x b q k. search (rules, tests))
    ∙ same_from_clauses (list_all (λ m. leb m 1)) are_marks (λ m r. leb m 1 && r) refl (λ _ _. refl) (λ _ _. refl) ms
