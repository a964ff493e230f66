-- The theorem `bench-uncut`: neither the limit nor the room for answers ends the bench's run; and what the public test of a world says, both ways.
use Prim.Native.Nat.{ℕ, ◌+◌}
use mathlib.Core.Path.{◌≡◌, sym, ap, ◌∙◌, subst}
use mathlib.Core.Bool.{true, not}
use mathlib.Core.List.{List}
use native.Mathlib.Nat.{le_refl}
use native.Mathlib.Omega.{arith}
use lib.ListN.{length, replicate, length-replicate}
use lib.Dec.{eqb}
use borrow.Author.Tests.{eqb-true, eq-eqb, not-false}
use Rattle.rules.specs.World.{World}
use Rattle.rules.specs.Device.{is_device, row_of, page_count, prepared}
use Rattle.rules.specs.Sound.{is_sound, Sound, Lent}
use Rattle.rules.specs.Trace.{progress_of, run}
use Rattle.rules.specs.Call.{memory_refusal, lent_refusal, world_refusal, run_outcome}
use Rattle.rules.specs.Program as spec
use Rattle.rules.proofs.Choice.{if-elim, clash}
use Rattle.rules.proofs.Incident.{prepared-sound, prepared-lent}
use Rattle.rules.proofs.Runs.{Course, course, uncut}
use Rattle.rules.proofs.Soundness.{reads}
use Rattle.rules.proofs.Widths.{of-device}

-- A sound world of a device with buffers of its lengths is not refused.
pub world-taken : (device : ℕ) (w : World) → is_device device ≡ true → Sound (row_of device) w → Lent (row_of device) w → world_refusal device w ≡ 0
unfolding world_refusal lent_refusal memory_refusal
world-taken device w d s l =
    let row = row_of device in
    let cells = eq-eqb (length w.cells) row.cells l.cells in
    let page = eq-eqb (length w.identification) row.identification l.identification in
    let latch = eq-eqb (length w.latch) (row.page + row.page) l.latch in
    let counts = eq-eqb (length w.counts) (page_count row) l.counts in
    rw (d, cells, page, latch, counts, (reads row w).1 s)

-- Cells and an identification page that are not refused are of a device, and have its lengths.
pub memory-facts : (device : ℕ) (cells identification : List ℕ) → memory_refusal device cells identification ≡ 0
    → (is_device device ≡ true) × (length cells ≡ (row_of device).cells) × (length identification ≡ (row_of device).identification)
unfolding memory_refusal
memory-facts device cells identification =
    let row = row_of device in
    let rightCells = eqb (length cells) row.cells in
    let rightPage = eqb (length identification) row.identification in
    let P : ℕ → Type 0 = λ (n : ℕ). n ≡ 0 → (is_device device ≡ true) × (length cells ≡ row.cells) × (length identification ≡ row.identification) in
    if-elim P (not (is_device device)) (λ _ e. absurd (omega arith))
    (λ d. if-elim P (not rightCells) (λ _ e. absurd (omega arith))
    (λ c. if-elim P (not rightPage) (λ _ e. absurd (omega arith))
    (λ i _. (
      not-false (is_device device) d,
      eqb-true (length cells) row.cells (not-false rightCells c),
      eqb-true (length identification) row.identification (not-false rightPage i),
    ))))

-- Buffers that are not refused have its lengths too, and a world that is not refused is sound besides.
module _ (device : ℕ) (w : World) where
  pub lent-facts : lent_refusal device w.cells w.identification w.latch w.counts ≡ 0 → (is_device device ≡ true) × Lent (row_of device) w
  unfolding lent_refusal
  lent-facts =
      let row = row_of device in
      let n = memory_refusal device w.cells w.identification in
      let rightLatch = eqb (length w.latch) (row.page + row.page) in
      let rightCounts = eqb (length w.counts) (page_count row) in
      let P : ℕ → Type 0 = λ (m : ℕ). m ≡ 0 → (is_device device ≡ true) × Lent row w in
      if-elim P (not (eqb n 0)) (λ h e. clash (sym h ∙ ap not (eq-eqb n 0 e)))
      (λ h. if-elim P (not rightLatch) (λ _ e. absurd (omega arith))
      (λ l. if-elim P (not rightCounts) (λ _ e. absurd (omega arith))
      (λ k _.
      let memory = memory-facts device w.cells w.identification (eqb-true n 0 (not-false (eqb n 0) h)) in (
        memory.0,
        record {
          cells = memory.1;
          identification = memory.2;
          latch = eqb-true (length w.latch) (row.page + row.page) (not-false rightLatch l);
          counts = eqb-true (length w.counts) (page_count row) (not-false rightCounts k);
        },
      ))))

  pub world-facts : world_refusal device w ≡ 0 → (is_device device ≡ true) × Sound (row_of device) w × Lent (row_of device) w
  unfolding world_refusal
  world-facts =
      let row = row_of device in
      let n = lent_refusal device w.cells w.identification w.latch w.counts in
      let sound = is_sound row w.state w.latch in
      let P : ℕ → Type 0 = λ (m : ℕ). m ≡ 0 → (is_device device ≡ true) × Sound row w × Lent row w in
      if-elim P (not (eqb n 0)) (λ h e. clash (sym h ∙ ap not (eq-eqb n 0 e)))
      (λ h. if-elim P (not sound) (λ _ e. absurd (omega arith))
      (λ s _. let lent = lent-facts (eqb-true n 0 (not-false (eqb n 0) h)) in (lent.0, (reads row w).0 (not-false sound s), lent.1)))

-- The bench's run is a run of its whole trace.
module _ (device : ℕ) (trace : List ℕ) (d : is_device device ≡ true) where
  bench-runs : spec.bench_run device trace ≡ run (length trace) (row_of device) trace (progress_of 0 0 0 (prepared (row_of device)) (replicate (length trace) 0))
  unfolding spec.bench_run run_outcome
  bench-runs = rw (world-taken device (prepared (row_of device)) d (prepared-sound (of-device device)) (prepared-lent (of-device device)))

  pub bench-course : Course (row_of device) trace (length trace) (length trace) (spec.bench_run device trace)
  bench-course =
      let v = of-device device in
      subst (Course (row_of device) trace (length trace) (length trace)) (sym bench-runs)
      (course (row_of device) v trace (length trace) (le_refl (length trace)) (prepared (row_of device)) (replicate (length trace) 0)
      (prepared-sound v) (prepared-lent v) (length-replicate (length trace) 0) (length trace))

  pub bench-uncut : spec.Uncut trace (spec.bench_run device trace)
  bench-uncut = uncut (row_of device) trace (length trace) (length trace) (spec.bench_run device trace) (le_refl (length trace)) bench-course
