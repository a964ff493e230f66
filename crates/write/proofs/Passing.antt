-- What a wait that ends a cycle can lean on.
use mathlib.Core.Path.{◌≡◌, sym, ap, ◌∙◌}
use mathlib.Core.Bool.{Bool, true, ◌&&◌}
use Prim.Native.Nat.{ℕ}
use Rattle.rules.specs.declared.Row.{Row}
use Rattle.rules.specs.declared.Kind.{Kind}
use Rattle.rules.specs.declared.Change.{Change}
use Rattle.rules.specs.Device.{Widths}
use Rattle.rules.specs.Instruction.{changes}
use Rattle.rules.specs.Sound.{SoundCycle}
use Rattle.rules.proofs.Choice.{and_right, or_left}

-- A cycle that writes the identification page has a whole one to write to.
pub has-page : {row : Row} → Widths row → (k : Kind) {next start left : ℕ} → SoundCycle row k next start left → {c : Change} → c ≡ changes k
    → (ends : Bool) → (ends && c.identification) ≡ true → row.identification ≡ row.page
has-page v k h {c} ec ends e =
    let of = ap (λ (x : Change). x.identification) (sym ec) ∙ and_right ends c.identification e in
    v.whole (h.has_page (or_left (changes k).identification (changes k).lock of))
