-- W-204's theorems but for `filled-says`: `counts-kept`, `counts-never-refuse`, both for the public calls, and how counts come to agree.
use Rattle.std.specs.Prelude.{if◌then◌else◌}
use Prim.Native.Nat.{ℕ, zero, suc, ◌+◌, ◌*◌, ◌/◌, ◌≤◌, ◌<◌}
use mathlib.Core.Path.{◌≡◌, refl, sym, ap, ◌∙◌, subst}
use mathlib.Core.Bool.{Bool, true, false, not, ◌&&◌}
use mathlib.Core.List.{List}
use native.Mathlib.Nat.{div-add-mod', mul-div_cancel, not-suc-le-zero}
use native.Mathlib.Omega.{arith}
use lib.ListN.{length, get_or, set, replicate, length-set, get_or-replicate}
use lib.Seq.{get_or-set_same, get_or-set_other}
use lib.Dec.{eqb}
use borrow.Author.Tests.{eqb-true, eqb-false, eq-eqb, not-false}
use Rattle.rules.specs.World.{Row, Event, World}
use Rattle.rules.specs.Device.{Widths, is_device, row_of, page_count, prepared}
use Rattle.rules.specs.Instruction.{changes, busy}
use Rattle.rules.specs.Cycle.{written, filled, is_miscounted, recounted, ends, waited}
use Rattle.rules.specs.Event.{refusal, react, step, next}
use Rattle.rules.specs.Sound.{Sound, Lent, is_sound}
use Rattle.rules.specs.Trace.{event_at, Progress, progress_of, turn, run}
use Rattle.rules.specs.Call.{memory_refusal, lent_refusal, world_refusal, prepare_outcome, recounted_to, count_outcome, event_outcome, run_outcome}
use Rattle.rules.specs.Counts.{Agree, Agreeing, CountsKept, CountsNeverRefuse, Reliable, CountsInEvents, CountsInTraces, PreparedAgrees, CountedAgrees}
use Rattle.rules.proofs.Choice.{if-elim, clash, and_right}
use Rattle.rules.proofs.Filled.{blank-filled, filled-same}
use Rattle.rules.proofs.Latch.{zeros}
use Rattle.rules.proofs.Preserved.{preserved}
use Rattle.rules.proofs.Program.{world-facts}
use Rattle.rules.proofs.Runs.{by_turn, refused-late}
use Rattle.rules.proofs.Widths.{of-device, page-positive, page-count, page-inside, pages-apart}

-- The end of a cycle writes to its own page alone.
written-elsewhere : (n page : ℕ) (l : List ℕ) (a : ℕ) (xs : List ℕ) (i : ℕ) → ((j : ℕ) → j < n → i ≡ a + j → ⊥) → get_or (written n page l a xs) i 0 ≡ get_or xs i 0
unfolding written
written-elsewhere zero page l a xs i h = refl
written-elsewhere (suc n) page l a xs i h =
    let before = written-elsewhere n page l a xs i (λ j u. h j (omega arith)) in
    if-elim (λ (ys : List ℕ). get_or ys i 0 ≡ get_or xs i 0) (eqb (get_or l (page + n) 0) 1)
    (λ _. get_or-set_other (written n page l a xs) (a + n) i (get_or l n 0) 0 (h n (omega arith)) ∙ before) (λ _. before)

-- Counts with one page's taken afresh: that page's is new, every other is as it was.
module _ {row : Row} (v : Widths row) (cells counts : List ℕ) (q : ℕ) (within : q < length counts) where
  fresh : ℕ
  fresh = filled row.page (q * row.page) cells

  recounted-read : (p : ℕ) → get_or (recounted row (q * row.page) cells counts) p 0 ≡ (if eqb p q then fresh else get_or counts p 0)
  unfolding fresh
  recounted-read p = subst (λ (i : ℕ). get_or (set counts i fresh) p 0 ≡ (if eqb p q then fresh else get_or counts p 0)) (sym (mul-div_cancel q (page-positive v))) (go (eqb p q) refl)
    where
      go : (t : Bool) → eqb p q ≡ t → get_or (set counts q fresh) p 0 ≡ (if t then fresh else get_or counts p 0)
      go true e = subst (λ (k : ℕ). get_or (set counts q fresh) k 0 ≡ fresh) (sym (eqb-true p q e)) (get_or-set_same counts q fresh 0 within)
      go false e = get_or-set_other counts q p fresh 0 (eqb-false p q e)

-- The end of a cycle on page q.
module _ {row : Row} (v : Widths row) (cells counts latch : List ℕ) (long : length counts ≡ page_count row) (h : Agree row cells counts) (q : ℕ) (u : q < page_count row) where
  after : List ℕ
  after = written row.page row.page latch (q * row.page) cells

  elsewhere : (p : ℕ) → (p ≡ q → ⊥) → filled row.page (p * row.page) cells ≡ filled row.page (p * row.page) after
  unfolding after
  elsewhere p other =
      filled-same row.page (p * row.page) cells after
      (λ i k. sym (written-elsewhere row.page row.page latch (q * row.page) cells (p * row.page + i) (λ j m e. other (pages-apart row.page p q i j k m e))))

  page-agrees : Agree row after (recounted row (q * row.page) after counts)
  unfolding fresh
  page-agrees p within = recounted-read v after counts q (omega arith) p ∙ go (eqb p q) refl
    where
      go : (t : Bool) → eqb p q ≡ t → (if t then filled row.page (q * row.page) after else get_or counts p 0) ≡ filled row.page (p * row.page) after
      go true e = ap (λ (k : ℕ). filled row.page (k * row.page) after) (sym (eqb-true p q e))
      go false e = h p within ∙ elsewhere p (eqb-false p q e)

-- A wait, and every event.
module _ {row : Row} (v : Widths row) (w : World) (k : Sound row w) (l : Lent row w) (h : Agreeing row w) where
  start : ℕ
  start = w.state.place.start

  page : ℕ
  page = start / row.page

  starts : page * row.page ≡ start
  unfolding page start
  starts = omega (arith, div-add-mod' start row.page, k.unsettled.cycle.aligned)

  inside : page < page_count row
  unfolding page start
  inside = page-count v start k.unsettled.cycle.inside

  right-count : is_miscounted row start w.cells w.counts ≡ false
  unfolding page
  right-count =
      ap not (eq-eqb (get_or w.counts page 0) (filled row.page start w.cells) (h page inside ∙ ap (λ (a : ℕ). filled row.page a w.cells) starts))

  wait-kept : (n : ℕ) → Agreeing row (step row (Event.Wait n) w)
  unfolding step react waited start after
  wait-kept n = go (ends n w.state && (changes w.state.cycle.kind).cells)
    where
      over : ℕ → List ℕ
      over a = written row.page row.page w.latch a w.cells

      ended : Agree row (over start) (recounted row start (over start) w.counts)
      ended = subst (λ (a : ℕ). Agree row (over a) (recounted row a (over a) w.counts)) starts (page-agrees v w.cells w.counts w.latch l.counts h page inside)

      go : (t : Bool) → Agree row (if t then over start else w.cells) (if t then recounted row start (over start) w.counts else w.counts)
      go true = ended
      go false = h

  step_kept : (e : Event) → Agreeing row (step row e w)
  unfolding step react
  step_kept (Event.Clock true) = h
  step_kept (Event.Clock false) = h
  step_kept (Event.Data b) = h
  step_kept (Event.Select true) = h
  step_kept (Event.Select false) = h
  step_kept (Event.Hold b) = h
  step_kept (Event.Protect true) = h
  step_kept (Event.Protect false) = h
  step_kept (Event.Wait n) = wait-kept n
  step_kept Event.Power = h

  never-refused : (e : Event) → refusal row e w ≡ 15 → ⊥
  unfolding start
  never-refused (Event.Clock b) = λ e. absurd (omega arith)
  never-refused (Event.Data b) = λ e. absurd (omega arith)
  never-refused (Event.Select b) = λ e. absurd (omega arith)
  never-refused (Event.Hold b) = λ e. absurd (omega arith)
  never-refused (Event.Protect b) = λ e. absurd (omega arith)
  never-refused (Event.Wait n) =
      let s = w.state in
      let over = ends n s && (changes s.cycle.kind).cells in
      let wrong = is_miscounted row s.place.start w.cells w.counts in
      if-elim (λ (m : ℕ). m ≡ 15 → ⊥) (over && wrong) (λ t _. clash (sym (and_right over wrong t) ∙ right-count)) (λ _ e. absurd (omega arith))
  never-refused Event.Power = if-elim (λ (m : ℕ). m ≡ 15 → ⊥) (busy w.state) (λ _ e. absurd (omega arith)) (λ _ e. absurd (omega arith))

pub counts-kept : CountsKept
unfolding next
counts-kept row v e w k l h = if-elim (Agreeing row) (eqb (refusal row e w) 0) (λ _. step_kept v w k l h e) (λ _. h)

pub counts-never-refuse : CountsNeverRefuse
counts-never-refuse row v e w k l h = never-refused v w k l h e

-- A world is never refused with 15.
world-never : (device : ℕ) (w : World) → world_refusal device w ≡ 15 → ⊥
unfolding world_refusal lent_refusal memory_refusal
world-never device w =
    let row = row_of device in
    let P : ℕ → Type 0 = λ (n : ℕ). n ≡ 15 → ⊥ in
    let memory : P (memory_refusal device w.cells w.identification) =
    if-elim P (not (is_device device)) (λ _ e. absurd (omega arith))
    (λ _. if-elim P (not (eqb (length w.cells) row.cells)) (λ _ e. absurd (omega arith))
    (λ _. if-elim P (not (eqb (length w.identification) row.identification)) (λ _ e. absurd (omega arith)) (λ _ e. absurd (omega arith)))) in
    let lent : P (lent_refusal device w.cells w.identification w.latch w.counts) =
    if-elim P (not (eqb (memory_refusal device w.cells w.identification) 0)) (λ _. memory)
    (λ _. if-elim P (not (eqb (length w.latch) (row.page + row.page))) (λ _ e. absurd (omega arith))
    (λ _. if-elim P (not (eqb (length w.counts) (page_count row))) (λ _ e. absurd (omega arith)) (λ _ e. absurd (omega arith)))) in
    if-elim P (not (eqb (lent_refusal device w.cells w.identification w.latch w.counts) 0)) (λ _. lent)
    (λ _. if-elim P (not (is_sound row w.state w.latch)) (λ _ e. absurd (omega arith)) (λ _ e. absurd (omega arith)))

pub counts-in-events : CountsInEvents
unfolding event_outcome
counts-in-events device w e h =
    let row = row_of device in
    let n = world_refusal device w in
    if-elim (λ (m : ℕ). Reliable row m (if eqb m 0 then step row e w else w)) (not (eqb n 0))
    (λ refused. record {
      agrees = if-elim (Agreeing row) (eqb n 0) (λ z. clash (sym refused ∙ ap not z)) (λ _. h);
      never = world-never device w;
    })
    (λ taken.
    let k = world-facts device w (eqb-true n 0 (not-false (eqb n 0) taken)) in
    record {
      agrees = if-elim (Agreeing row) (eqb (refusal row e w) 0) (λ _. step_kept (of-device device) w k.1 k.2 h e) (λ _. h);
      never = never-refused (of-device device) w k.1 k.2 h e;
    })

-- A run, turn by turn.
record Steady (row : Row) (p : Progress) : Type 0 where
  sound : Sound row p.world
  lent : Lent row p.world
  counts : Reliable row p.number p.world

module _ {row : Row} (v : Widths row) (t : List ℕ) where
  turn-steady : (p : Progress) → Steady row p → Steady row (turn row t p)
  turn-steady p s =
      by_turn row t (λ (_ q : Progress). Steady row q) p (λ _ _. s)
      (λ r z h e n.
      record {
        sound = s.sound;
        lent = s.lent;
        counts =
            record {
              agrees = s.counts.agrees;
              never = λ f. never-refused v p.world s.sound s.lent s.counts.agrees (event_at t p.taken)
                  (refused-late row t p.taken _ p.world 15 (omega arith) (sym e ∙ f));
            };
      })
      (λ u b z h r e.
      let kept = preserved row v (event_at t p.taken) p.world s.sound s.lent in
      record {
        sound = subst (Sound row) (sym e) kept.0;
        lent = subst (Lent row) (sym e) kept.1;
        counts =
            record {
              agrees = subst (Agreeing row) (sym e) (step_kept v p.world s.sound s.lent s.counts.agrees (event_at t p.taken));
              never = λ f. absurd (omega arith);
            };
      })

  run-steady : (limit : ℕ) (p : Progress) → Steady row p → Steady row (run limit row t p)
  run-steady zero p s = s
  run-steady (suc limit) p s = run-steady limit (turn row t p) (turn-steady p s)

pub counts-in-traces : CountsInTraces
unfolding run_outcome
counts-in-traces device w trace answers limit h =
    let row = row_of device in
    let n = world_refusal device w in
    let begun = progress_of n 0 0 w answers in
    if-elim (λ (m : ℕ). let p = run m row trace begun in Reliable row p.number p.world) (eqb n 0)
    (λ z.
    let k = world-facts device w (eqb-true n 0 z) in
    (run-steady (of-device device) trace limit begun (record { sound = k.1; lent = k.2; counts = record { agrees = h; never = world-never device w } })).counts)
    (λ _. record { agrees = h; never = world-never device w })

-- A prepared device is blank, and every count is 0.
blank-agrees : {row : Row} → Widths row → Agreeing row (prepared row)
unfolding prepared
blank-agrees {row} v p u =
    zeros (page_count row) p
    ∙ sym (blank-filled (p * row.page) (replicate row.cells 0xFF) row.page
    (λ i k. get_or-replicate row.cells (p * row.page + i) 0xFF 0 (omega (arith, page-inside v p u))))

pub prepared-agrees : PreparedAgrees
unfolding prepare_outcome
prepared-agrees device cells identification latch counts z =
    if-elim (Agreeing (row_of device)) (eqb (lent_refusal device cells identification latch counts) 0) (λ _. blank-agrees (of-device device)) (λ n. clash (sym (eq-eqb _ 0 z) ∙ n))

-- Pages counted one after the other.
pub recounted-long : (n : ℕ) (row : Row) (cells counts : List ℕ) → length (recounted_to n row cells counts) ≡ length counts
unfolding recounted_to
recounted-long zero row cells counts = refl
recounted-long (suc n) row cells counts = length-set (recounted_to n row cells counts) _ _ ∙ recounted-long n row cells counts

module _ {row : Row} (v : Widths row) (cells counts : List ℕ) (long : length counts ≡ page_count row) where
  counted-so : (n : ℕ) → n ≤ page_count row → (p : ℕ) → p < n → get_or (recounted_to n row cells counts) p 0 ≡ filled row.page (p * row.page) cells
  unfolding recounted_to fresh
  counted-so zero few p h = absurd (not-suc-le-zero h)
  counted-so (suc n) few p h = recounted-read v cells before n (omega (arith, recounted-long n row cells counts)) p ∙ go (counted-so n (omega arith) p) (eqb p n) refl
    where
      before : List ℕ
      before = recounted_to n row cells counts

      go : (p < n → get_or before p 0 ≡ filled row.page (p * row.page) cells) → (t : Bool) → eqb p n ≡ t
          → (if t then filled row.page (n * row.page) cells else get_or before p 0) ≡ filled row.page (p * row.page) cells
      go so true e = ap (λ (k : ℕ). filled row.page (k * row.page) cells) (sym (eqb-true p n e))
      go so false e = let other = eqb-false p n e in so (omega arith)

pub counted-agrees : CountedAgrees
unfolding count_outcome
counted-agrees device cells counts =
    let row = row_of device in
    let rightCells = eqb (length cells) row.cells in
    let rightCounts = eqb (length counts) (page_count row) in
    let P : ℕ → Type 0 = λ (n : ℕ). n ≡ 0 → Agree row cells (if eqb n 0 then recounted_to (page_count row) row cells counts else counts) in
    if-elim P (not (is_device device)) (λ _ e. absurd (omega arith))
    (λ _. if-elim P (not rightCells) (λ _ e. absurd (omega arith))
    (λ _. if-elim P (not rightCounts) (λ _ e. absurd (omega arith))
    (λ c _. counted-so (of-device device) cells counts (eqb-true (length counts) (page_count row) (not-false rightCounts c)) (page_count row) (omega arith))))
