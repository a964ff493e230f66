-- The theorem `incident`: the incident is an instance of demand 3; and a prepared device is sound, so that demand 3 holds from there.
use Prim.Native.Nat.{ℕ, zero, suc, ◌+◌, ◌*◌, ◌/◌, ◌%◌}
use mathlib.Core.Path.{◌≡◌, refl, sym}
use mathlib.Core.Bool.{Bool, true, false, ◌&&◌}
use mathlib.Core.List.{List, [], ◌∷◌, ◌++◌}
use native.Mathlib.Nat.{zero-mod}
use native.Mathlib.Omega.{arith}
use lib.ListN.{length-append, length-replicate}
use lib.Dec.{lit<}
use Rattle.rules.specs.World.{Row, Event, World, bit, number}
use Rattle.rules.specs.Device.{Widths, page_count, m95128d, prepared}
use Rattle.rules.specs.Event.{next, after}
use Rattle.rules.specs.Sound.{Sound, Lent}
use Rattle.rules.specs.Examples.{bits_in}
use Rattle.rules.specs.Selections.{Broken, rises, Inside, end, clock, input, Cut, done, keep, drop, enabling, bounced, reading, happened, remaining, Incident, heard, heard_left, contents}
use Rattle.rules.proofs.Choice.{clash}
use Rattle.rules.proofs.Widths.{page-below, of-device}
use Rattle.rules.proofs.Latch.{zeros}
use Rattle.rules.proofs.Opened.{opened}
use Rattle.rules.proofs.Selections.{demand-3}

-- A prepared device is sound.
pub prepared-sound : {row : Row} → Widths row → Sound row (prepared row)
unfolding prepared
prepared-sound {row} v =
    record {
      unsettled =
          record {
            input = record { few = omega arith; small = lit< tt; counted = omega arith };
            inside = omega (arith, page-below v);
            stored = nothing row.srwd;
            page = record { lockable = λ e. clash (sym e); instruction = λ e. clash (sym e) };
            cycle =
                record {
                  only = nothing row.srwd;
                  runs = λ e. clash (sym e);
                  rests = λ _. refl;
                  aligned = zero-mod row.page;
                  inside = omega (arith, page-below v);
                  first = λ _. refl;
                  has_page = λ e. clash (sym e);
                };
            off = λ _. record { held = refl; bits = refl; bytes = refl; z = refl };
            low = λ e. clash (sym e);
            saw = λ e. clash (sym e);
            turned = λ e. clash (sym e);
            marks = λ i. omega (arith, zeros (row.page * 2) (row.page + i));
          };
      holds = λ e. clash (sym e);
    }
  where
    -- Over the flag alone, since a row cannot be split on: what `storable` makes of 0.
    nothing : (b : Bool) → ◌≡◌ {A = ℕ} (number (b && bit 0 7) * 128 + 0 / 4 % 4 * 4) 0
    nothing true = refl
    nothing false = refl

pub prepared-lent : {row : Row} → Widths row → Lent row (prepared row)
unfolding prepared
prepared-lent {row} v =
    record {
      cells = length-replicate row.cells 0xFF;
      identification = simp (length-append, length-replicate) (omega (arith, v.code_fits));
      latch = rw length-replicate (omega arith);
      counts = length-replicate (page_count row) 0;
    }

-- Events that are kept one and all.
keeping : {row : Row} {w : World} {fs ks : List Event} (es : List Event) → Cut row (after row es w) fs ks → Cut row w (es ++ fs) (es ++ ks)
keeping [] c = c
keeping {row = row} {w = w} (e ∷ es) c = keep e (keeping {w = next row e w} es c)

inside-bits : {es ks : List Event} (n b : ℕ) → Inside es ks → Inside (bits_in n b ++ es) (bits_in n b ++ ks)
inside-bits zero b i = i
inside-bits (suc n) b i = input (bit b n) (clock true (clock false (inside-bits n b i)))

-- Before the WRITE the device is deselected and S is high; the WRITE has 33 decoded rises.
before : World
before = after m95128d enabling (prepared m95128d)

begins : (before.state.selection.selected ≡ false) × (before.state.pins.s ≡ true)
unfolding before opened
begins = (refl, refl)

bounces : Broken (rises m95128d bounced (next m95128d (Event.Select false) before) 0)
unfolding before opened
bounces e = let z : ◌≡◌ {A = ℕ} 1 0 = e in absurd (omega arith)

pub incident : Incident
unfolding before
incident =
    keeping {row = m95128d} {w = prepared m95128d} enabling
    (drop {w = before} {inner = bounced} {kept = bounced} begins.0 begins.1
    (inside-bits 8 0x02 (inside-bits 8 0x00 (inside-bits 8 0x05 (inside-bits 8 0x66 (inside-bits 1 0 end))))) bounces
    (keeping {row = m95128d} {w = next m95128d (Event.Select true) (after m95128d bounced (next m95128d (Event.Select false) before))} reading done))

-- So nobody can tell the run with the bouncing WRITE from the one without its Chip Select events.
pub incident-unseen :
    let w = prepared m95128d in
    (heard incident ≡ heard_left incident w)
    × (contents (after m95128d happened w) ≡ contents (after m95128d remaining w))
incident-unseen =
    let v = of-device 2 in
    let r = demand-3 m95128d v (prepared m95128d) (prepared-sound v) (prepared-lent v) happened remaining incident in
    (r.0, r.1)
