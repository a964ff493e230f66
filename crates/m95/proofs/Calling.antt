-- The outcome of each call that asks for a whole world, one law for each way through the rules.
use Rattle.std.specs.Prelude.{Result, Ok, Err, IfOk, if◌then◌else◌}
use Prim.Native.Nat.{ℕ, zero, suc, ◌≤◌, ◌<◌}
use mathlib.Core.Path.{◌≡◌, refl, sym, ap, ◌∙◌, subst}
use mathlib.Core.Bool.{not, ◌&&◌}
use mathlib.Core.List.{List}
use native.Mathlib.Omega.{arith}
use lib.Dec.{eqb}
use lib.ListN.{length}
use borrow.Author.Tests.{ne_eqb}
use Rattle.rules.specs.declared.Row.{Row}
use Rattle.rules.specs.declared.Event.{Event}
use Rattle.rules.specs.declared.Level.{Level}
use Rattle.rules.specs.declared.device.Device.{Device}
use Rattle.rules.specs.declared.refusal.Refusal.{Refusal}
use Rattle.rules.specs.World.{bit, World}
use Rattle.rules.specs.Device.{row_of}
use Rattle.rules.specs.Instruction.{busy}
use Rattle.rules.specs.Send.{status_byte}
use Rattle.rules.specs.Sound.{Sound, Lent}
use Rattle.rules.specs.Event.{refusal}
use Rattle.rules.specs.Call.{world_refusal, Replied, replied_as, event_outcome, run_outcome}
use Rattle.rules.specs.Refused.{number_of}
use Rattle.rules.proofs.Choice.{number_small}
use Rattle.rules.proofs.Program.{world-facts}
use Rattle.rules.proofs.Runs.{Course, course}
use Rattle.rules.proofs.Widths.{of-device}
-- What is asked of a device number and of room, for those who stand on `m95`.
pub use Rattle.rules.proofs.Widths.{row-widths}
pub use Rattle.lent.proofs.Lending.{a-device, lent-room}

-- A device that is not refused is sound, and its buffers are as long as they should be.
pub fine : (device : ℕ) (w : World) → world_refusal device w ≡ 0 → Sound (row_of device) w × Lent (row_of device) w
fine device w e = let facts = world-facts device w e in (facts.1, facts.2)

-- The same, of what was judged.
pub fine-sound : (device : ℕ) (w : World) (r : Result Device Refusal) → number_of r ≡ world_refusal device w → IfOk r (λ (d : Device). d.row ≡ row_of device)
    → IfOk r (λ (d : Device). Sound d.row w)
fine-sound device w (Ok d) en ek = subst (λ (row : Row). Sound row w) (sym ek) (fine device w (sym en)).0
fine-sound device w (Err e) en ek = tt

pub fine-lent : (device : ℕ) (w : World) (r : Result Device Refusal) → number_of r ≡ world_refusal device w → IfOk r (λ (d : Device). d.row ≡ row_of device)
    → IfOk r (λ (d : Device). Lent d.row w)
fine-lent device w (Ok d) en ek = subst (λ (row : Row). Lent row w) (sym ek) (fine device w (sym en)).1
fine-lent device w (Err e) en ek = tt

-- An event that was done was asked of a sound device.
pub event_sound : (device : ℕ) (w u : World) (e : Event) (r : Result Level Refusal) (a : ℕ) → replied_as (number_of r) a u ≡ event_outcome device w e
    → IfOk r (λ (q : Level). Sound (row_of device) w)
unfolding event_outcome
event_sound device w u e (Err d) a told = tt
event_sound device w u e (Ok q) a told = go (world_refusal device w) refl (ap (λ (x : Replied). x.number) told)
  where
    go : (n : ℕ) → world_refusal device w ≡ n → 0 ≡ (if not (eqb (world_refusal device w) 0) then world_refusal device w else refusal (row_of device) e w) → Sound (row_of device) w
    go zero z f = (fine device w z).0
    go (suc n) z f = absurd (omega (arith, rw (z, ne_eqb (suc n) 0 (λ e. absurd (omega (arith, e)))) at f))

-- What holds after a run that is not refused and has room for its answers.
pub run-course : (device : ℕ) (w : World) (t a : List ℕ) (limit : ℕ) → world_refusal device w ≡ 0 → length t ≤ length a → Course (row_of device) t (length a) limit (run_outcome device w t a limit)
unfolding run_outcome
run-course device w t a limit z enough =
    let f = fine device w z in
    rw z (course (row_of device) (of-device device) t (length a) enough w a f.0 f.1 refl limit)

-- Running leaves cells and identification page as long as they were.
abbrev AsLong : World → World → Type 0
AsLong w u = (length u.cells ≡ length w.cells) × (length u.identification ≡ length w.identification)

as-long : {row : Row} {w u : World} → Lent row w → Lent row u → AsLong w u
as-long l k = (k.cells ∙ sym l.cells, k.identification ∙ sym l.identification)

pub run-long : (device : ℕ) (w : World) (t a : List ℕ) (limit : ℕ) → length t ≤ length a → AsLong w (run_outcome device w t a limit).world
unfolding run_outcome
run-long device w t a limit enough = go (world_refusal device w) refl
  where
    go : (n : ℕ) → world_refusal device w ≡ n → AsLong w (run_outcome device w t a limit).world
    go zero z = as-long (fine device w z).1 (run-course device w t a limit z enough).lent
    go (suc n) z = rw (z, ne_eqb (suc n) 0 (λ e. absurd (omega (arith, e)))) (refl, refl)

-- The status of a sound state is a byte.
pub status-small : (row : Row) (w : World) → Sound row w → status_byte w.state < 256
status-small row w h =
    let s = w.state in
    omega (arith, h.unsettled.stored, number_small (row.srwd && bit s.registers.status 7), number_small s.registers.wel, number_small (busy s))

pub fine-status : (device : ℕ) (w : World) → world_refusal device w ≡ 0 → status_byte w.state < 256
fine-status device w z = status-small (row_of device) w (fine device w z).0
