-- What a record is refused with before its event is asked about: by its bytes and the room for its answer alone, whatever the device.
use Rattle.std.specs.Prelude.{ℕ, ◌+◌, ◌-◌, ◌≡◌, Bool, not, List, length, eqb, ltb, if◌then◌else◌, Result, Ok, Err}
use Rattle.rules.specs.declared.refusal.Refusal.{Refusal}
use Rattle.traces.specs.declared.trace.RecordKind.{RecordKind}
use Rattle.rules.specs.Trace.{two, length_of, bad_pin}

-- The number of each kind, and what a number that should be a kind's gives.
abbrev pub kind_number : RecordKind → ℕ
kind_number RecordKind.Pin = 1
kind_number RecordKind.Wait = 2
kind_number RecordKind.Power = 3

abbrev pub IsKind : ℕ → Result RecordKind Refusal → Type 0
IsKind number (Ok kind) = number ≡ kind_number kind
IsKind number (Err e) = (length_of number ≡ 0) × (e ≡ Refusal.Kind)

unfoldable pub form_refusal : List ℕ → ℕ → Bool → ℕ
form_refusal t at full =
    let left = length t - at in
    let kind = two t (at + 2) in
    if ltb left 4 then 6
    else if eqb (length_of kind) 0 then 7
    else if not (eqb (two t at) (length_of kind)) then 8
    else if ltb left (2 + two t at) then 6
    else if bad_pin t at kind then 9
    else if full then 10
    else 0

-- Where a turn leaves the place and the count: refused, where they were.
abbrev pub place_after : ℕ → Result ℕ Refusal → ℕ
place_after at (Ok next) = next
place_after at (Err e) = at

abbrev pub count_after : ℕ → Result ℕ Refusal → ℕ
count_after n (Ok next) = n + 1
count_after n (Err e) = n
