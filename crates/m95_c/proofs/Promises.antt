-- What the bytes of a state and the places of a page are worth: a state that was put is read back (`read_back`), bytes that are no state get 5
-- (`no-state-refused`), the place of a page is the page that the library shows (`page-shown`).
use Rattle.std.specs.Prelude.{if◌then◌else◌}
use Prim.Native.Nat.{ℕ, zero, suc, ◌-◌, ◌%◌, ◌^◌, ◌<◌}
use mathlib.Core.Path.{◌≡◌, refl, sym, ap}
use mathlib.Core.Bool.{Bool, true, false, not}
use mathlib.Core.List.{List, [], ◌∷◌}
use native.Mathlib.Omega.{arith}
use lib.Dec.{eqb}
use lib.ListN.{take, drop, length}
use lib.Seq.{take-length}
use borrow.Author.Tests.{ne_eqb}
use Rattle.rules.specs.declared.Region.{Region}
use Rattle.rules.specs.declared.Row.{Row}
use Rattle.rules.specs.World.{World}
use Rattle.rules.specs.Device.{row_of}
use Rattle.rules.specs.Sound.{is_sound, clauses}
use Rattle.rules.specs.Instruction.{changes}
use Rattle.rules.specs.Call.{memory_refusal, lent_refusal, world_refusal, part_of, is_past, view_outcome}
use Rattle.rules.proofs.Widths.{of-device}
use Rattle.m95.proofs.Calling.{fine}
use Rattle.state_bytes.specs.StateBytes.{is_state, state_of, bytes_of}
use Rattle.state_bytes.proofs.Back.{is_state_lem, state-back}
use Rattle.m95_c.specs.Left.{device_of, Buffers, buffers_refusal, is_region, region_of, slice_of, part_start, placed_as, view_left}

-- A state that was put is the state that is read: the numbers of a device that is not refused fit their bytes.
pub read_back : (device : ℕ) (w : World) → world_refusal device w ≡ 0 → state_of (bytes_of w.state) ≡ w.state
unfolding state_of
read_back device w z =
    let sound = (fine device w z).0.unsettled in
    let fits = (of-device device).cells_most in
    rw (is_state_lem w.state)
    (state-back w.state (omega (arith, sound.inside, fits)) (omega (arith, sound.cycle.inside, fits)) (left (changes w.state.cycle.kind).runs refl))
  where
    left : (t : Bool) → (changes w.state.cycle.kind).runs ≡ t → w.state.place.left < 2 ^ 32
    left true e = omega (arith, ((fine device w z).0.unsettled.cycle.runs e).1, (of-device device).soon)
    left false e = omega (arith, (fine device w z).0.unsettled.cycle.rests e)

pub no-state-refused : (device : ℕ) (b : Buffers) → is_state b.state ≡ false
    → lent_refusal (device_of device) b.cells b.identification b.latch b.counts ≡ 0 → buffers_refusal device b ≡ 5
unfolding world_refusal state_of is_sound clauses
no-state-refused device b none z = rw (z, none)

-- As many bytes of a list as a front of it has are that front.
front : (n : ℕ) (l : List ℕ) → take (length (take n l)) l ≡ take n l
front zero l = refl
front (suc n) [] = refl
front (suc n) (x ∷ l) = ap (λ (k : List ℕ). x ∷ k) (front n l)

-- What a region shows stands in its buffer, at its start.
placed : (row : Row) (region : Region) (cells identification : List ℕ) (address : ℕ)
    → let part = part_of row region cells identification address in
    part ≡ take (length part) (drop (part_start row region address) (slice_of region cells identification))
unfolding part_of
placed row Region.Cells cells identification address = sym (front row.page (drop (address - address % row.page) cells))
placed row Region.Identification cells identification address = sym (take-length identification)

pub page-shown : (device region : ℕ) (cells identification : List ℕ) (address : ℕ) → is_region region ≡ true
    → let told = view_left device region cells identification address in
    (view_outcome (device_of device) (region_of region) cells identification address).part
    ≡ take told.length (drop told.start (slice_of (region_of region) cells identification))
unfolding view_outcome view_left
page-shown device region cells identification address h =
    let row = row_of (device_of device) in
    let m = memory_refusal (device_of device) cells identification in
    let r = region_of region in
    rw h (told m (is_past row r address) (part_of row r cells identification address) (slice_of r cells identification) (part_start row r address) (placed row r cells identification address))
  where
    told : (m : ℕ) (past : Bool) (part buffer : List ℕ) (start : ℕ) → part ≡ take (length part) (drop start buffer)
        → let n : ℕ = if not (eqb m 0) then m else if past then 13 else 0 in
        let k : ℕ = if not (eqb m 0) then m else n in
        let shown = if eqb n 0 then part else [] in
        let at = if eqb k 0 then placed_as 0 start (length shown) else placed_as k 0 0 in
        shown ≡ take at.length (drop at.start buffer)
    told zero true part buffer start e = refl
    told zero false part buffer start e = e
    told (suc m) past part buffer start e = let no = ne_eqb (suc m) 0 (λ z. absurd (omega (arith, z))) in rw (no, no)
