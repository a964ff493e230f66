-- That a prepared chip with what its file holds can be played on.
use Prim.Native.Nat.{ℕ}
use mathlib.Core.Path.{◌≡◌, sym, ap, ◌∙◌, subst}
use mathlib.Core.Bool.{true}
use mathlib.Core.List.{List}
use lib.ListN.{length}
use borrow.Author.Tests.{eq-eqb}
use Rattle.rules.specs.declared.Row.{Row}
use Rattle.rules.specs.declared.State.{State}
use Rattle.rules.specs.declared.Stored.{Stored}
use Rattle.rules.specs.World.{world_of}
use Rattle.rules.specs.Device.{is_device, row_of, page_count, prepared}
use Rattle.rules.specs.Sound.{Sound, Lent}
use Rattle.rules.specs.Call.{lent_refusal, prepared_as, prepare_outcome, Counted, counted_as, count_outcome, powered_with, Loaded, loaded_as, load_outcome}
use Rattle.rules.specs.Counts.{Agree}
use Rattle.rules.proofs.Counts.{counted-agrees}
use Rattle.rules.proofs.Program.{world-taken, lent-facts}
use Rattle.rules.proofs.Widths.{of-device}
use Rattle.rules.proofs.Loaded.{load-taken, loaded-sound}
use Rattle.rules.proofs.Incident.{prepared-sound, prepared-lent}
use Rattle.player.specs.Playing.{Playable}

-- Cells and counts of a device's lengths are counted.
pub counting_taken : (device : ℕ) (cells counts : List ℕ) → is_device device ≡ true → length cells ≡ (row_of device).cells → length counts ≡ page_count (row_of device)
    → (count_outcome device cells counts).number ≡ 0
unfolding count_outcome
counting_taken device cells counts known ec ek =
    let row = row_of device in
    rw (known, eq-eqb (length cells) row.cells ec, eq-eqb (length counts) (page_count row) ek)

-- A prepared chip with what its file holds is not refused, and once its pages are counted it can be played on.
module _ (device : ℕ) (cells identification latch counts : List ℕ) (z : lent_refusal device cells identification latch counts ≡ 0)
    (n : ℕ) (s : State) (c i l k : List ℕ) (ew : prepared_as n (world_of s c i l k) ≡ prepare_outcome device cells identification latch counts) where
  ready : world_of s c i l k ≡ prepared (row_of device)
  unfolding prepare_outcome
  ready = ap (λ x. x.world) ew ∙ rw z

  ready-lent : Lent (row_of device) (world_of s c i l k)
  ready-lent = subst (Lent (row_of device)) (sym ready) (prepared-lent (of-device device))

  known : is_device device ≡ true
  known = (lent-facts device (world_of s cells identification latch counts) z).0

  pub load_fits : (row : Row) → row ≡ row_of device → (length c ≡ row.cells) × (length i ≡ row.identification)
  load_fits row e = rw e (ready-lent.cells, ready-lent.identification)

  pub loaded : (x : Stored) (t : State) → loaded_as 0 t ≡ load_outcome device x → (c' i' k' : List ℕ) → length c' ≡ length c → length i' ≡ length i → length k' ≡ length k
      → (q : ℕ) → counted_as q k' ≡ count_outcome device c' k → Playable device (world_of t c' i' l k')
  loaded x t eo c' i' k' ec ei ek q en =
      let row = row_of device in
      let given = load-taken device x (sym (ap (λ (o : Loaded). o.number) eo)) in
      let is : t ≡ powered_with x = ap (λ (o : Loaded). o.state) eo ∙ given.1 in
      let sound : Sound row (world_of s c i l k) = subst (Sound row) (sym ready) (prepared-sound (of-device device)) in
      let sound' : Sound row (world_of t c' i' l k') = rw is (loaded-sound (of-device device) x c' i' l k' sound.unsettled.marks given.0) in
      let lent : Lent row (world_of t c' i' l k') =
      record {
        cells = ec ∙ ready-lent.cells;
        identification = ei ∙ ready-lent.identification;
        latch = ready-lent.latch;
        counts = ek ∙ ready-lent.counts;
      } in
      record {
        taken = world-taken device (world_of t c' i' l k') known sound' lent;
        agrees = subst (Agree row c') (sym (ap (λ (o : Counted). o.counts) en)) (counted-agrees device c' k (counting_taken device c' k known (ec ∙ ready-lent.cells) ready-lent.counts));
      }
