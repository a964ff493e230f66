-- Two laws of the calls for C: what is sound was read from bytes that are a state, and what a refused event leaves.
use Rattle.std.specs.Prelude.{if◌then◌else◌}
use Prim.Native.Nat.{ℕ, zero, suc, ◌≤◌}
use mathlib.Core.Path.{◌≡◌, sym, ap}
use mathlib.Core.List.{List}
use native.Mathlib.Omega.{arith}
use lib.Dec.{eqb}
use lib.ListN.{length}
use borrow.Author.Tests.{ne_eqb}
use Rattle.rules.specs.declared.Row.{Row}
use Rattle.rules.specs.declared.State.{State}
use Rattle.rules.specs.declared.refusal.Refusal.{Refusal}
use Rattle.rules.specs.World.{World, world_of}
use Rattle.rules.specs.Sound.{Sound}
use Rattle.rules.specs.Refused.{refusal_number}
use Rattle.rules.specs.Call.{Replied as Answered, replied_as as answered_as, event_outcome}
use Rattle.rules.proofs.Choice.{if-elim}
use Rattle.rules.proofs.Numbers.{some-number}
use Rattle.state_bytes.proofs.Packing.{state-length}
use Rattle.state_bytes.specs.StateBytes.{is_state, state_of}
use Rattle.m95_c.specs.Left.{device_of, Buffers, buffers_of, buffers_with, world_in, replied_as, event_of, asked, event_left}

bits-few : (b : List ℕ) → (state_of b).input.bits ≤ 7 → length b ≡ 36
unfolding state_of
bits-few b = if-elim (λ (x : State). x.input.bits ≤ 7 → length b ≡ 36) (is_state b) (λ h _. state-length b h) (λ _ k. absurd (omega (arith, k)))

-- Bytes that are none stand for a state that is not sound, so that those of a sound state are 36.
pub state_long : (b : List ℕ) (row : Row) (w : World) → Sound row w → w.state ≡ state_of b → length b ≡ 36
state_long b row w sound e = bits-few b (rw (sym e) sound.unsettled.input.few)

-- A refused event leaves what was lent, and its number.
kept : (b : Buffers) (m : ℕ) (o : Answered) (w v : World) (e : Refusal) (a : ℕ)
    → answered_as (refusal_number e) a v ≡ (if eqb m 0 then answered_as 0 o.answer o.world else answered_as m 2 w)
    → replied_as (refusal_number e) 2 (buffers_of b.state v.cells v.identification v.latch v.counts)
    ≡ (if eqb m 0 then replied_as 0 o.answer (buffers_with o.world) else replied_as m 2 (buffers_of b.state w.cells w.identification w.latch w.counts))
kept b zero o w v e a = λ told. absurd (some-number e (ap (λ (x : Answered). x.number) told))
kept b (suc m) o w v e a =
    rw (ne_eqb (suc m) 0 (λ z. absurd (omega (arith, z))))
    (ap (λ (x : Answered). replied_as x.number 2 (buffers_of b.state x.world.cells x.world.identification x.world.latch x.world.counts)))

pub event_refused : (n : ℕ) (b : Buffers) (kind value : ℕ) (e : Refusal) {a : ℕ} {s : State} {c i l k : List ℕ}
    → answered_as (refusal_number e) a (world_of s c i l k) ≡ asked (device_of n) (world_in b) kind value
    → replied_as (refusal_number e) 2 (buffers_of b.state c i l k) ≡ event_left n b kind value
unfolding asked event_left
event_refused n b kind value e {a} {s} {c} {i} {l} {k} told =
    kept b _ (event_outcome (device_of n) (world_in b) (event_of kind value)) (world_in b) (world_of s c i l k) e a told
