-- `player::room::put_room` meets its contract.
use Rattle.std.specs.Prelude.{Result, Ok, Err, Option, None}
use Rattle.std.specs.Result.{result_unwrap_or}
use Rattle.std.proofs.Common.{◌≡◌, ℕ, List, refl, sym, ap, ◌∙◌, subst}
use Rattle.rules.specs.declared.refusal.Refusal.{Refusal}
use Rattle.rules.specs.Refused.{page_of}
use Rattle.rules.specs.Call.{Counted, counted_as, count_outcome, Found, found_as, blank_outcome}
use Rattle.rules.specs.Device.{row_of, page_count}
use Rattle.rules.specs.Room.{Lowest, IsBlank}
use Rattle.rules.proofs.Room.{counted-as-read}
use Rattle.text.proofs.Putting.{joined, whole}
use Rattle.player.proofs.room.put_room.Goals as goal

page-or-none : (r : Result (Option ℕ) Refusal) → page_of r ≡ result_unwrap_or r None
page-or-none (Ok page) = refl
page-or-none (Err e) = refl

-- What was counted and then found is the first blank page of the cells.
named : (device : ℕ) (cells counts : List ℕ) {q m : ℕ} {k : List ℕ} {b : Option ℕ} → (count_outcome device cells counts).number ≡ 0 → counted_as q k ≡ count_outcome device cells counts
    → found_as m b ≡ blank_outcome device k → Lowest (IsBlank (row_of device) cells) (page_count (row_of device)) b
named device cells counts z ec ef =
    let found = ef ∙ ap (λ (o : Counted). blank_outcome device o.counts) ec in
    subst (Lowest (IsBlank (row_of device) cells) (page_count (row_of device))) (sym (ap (λ (f : Found). f.blank) found)) (counted-as-read device cells counts z).1

pub returns-clause-tells_room : goal.returns-clause-tells_room
returns-clause-tells_room c =
    let given = c.args in
    let row = row_of given.device in
    let found = page-or-none c.first_blank.result ∙ sym c.unwrap_or-blank.ensures in
    record {
      blank = c.unwrap_or-blank.result;
      first = subst (Lowest (IsBlank row given.cells.now) (page_count row)) found (named given.device given.cells.now given.counts.now c.requires.0 c.count_pages.ensures c.first_blank.ensures);
      says = (whole _ _ _ _ (joined c.put-named.ensures c.put_page.ensures)).1;
    }
