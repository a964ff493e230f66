-- Any two outcomes that a public call's contract allows are equal: a theorem `unique-…` for each call, under its name. An outcome is in numbers, and
-- a call gives a Result: a theorem `given-…` says of each such call that two results which its contract allows are alike, too.
use Rattle.std.specs.Prelude.{Result, Ok, Err, IfOk, MatchResult}
use Prim.Native.Nat.{ℕ}
use mathlib.Core.Path.{◌≡◌, sym, ap, ◌∙◌, subst}
use mathlib.Core.List.{List, []}
use Rattle.rules.specs.declared.Event.{Event}
use Rattle.rules.specs.declared.Level.{Level}
use Rattle.rules.specs.declared.Region.{Region}
use Rattle.rules.specs.declared.State.{State}
use Rattle.rules.specs.declared.Stored.{Stored}
use Rattle.rules.specs.declared.device.Device.{Device}
use Rattle.rules.specs.declared.refusal.Refusal.{Refusal}
use Rattle.rules.specs.World.{World, world_of, Option}
use Rattle.rules.specs.Device.{prepared_state, row_of}
use Rattle.rules.specs.Send.{status_byte}
use Rattle.rules.specs.Trace.{Progress, progress_of}
use Rattle.rules.specs.Refused.{refusal_number, number_of, answer_of, state_of, page_of}
use Rattle.rules.specs.Call.{world_refusal, Prepared, prepared_as, prepare_outcome, Counted, counted_as, count_outcome, Found, found_as, blank_outcome, stored_in}
use Rattle.rules.specs.Call.{Loaded, loaded_as, load_outcome, Replied, replied_as, event_outcome, run_outcome, Shown, shown_as, view_outcome}
use Rattle.rules.proofs.Numbers.{some-number, same-refusal, same-level, Alike, alike}

-- What a contract of the form "the outcome is this function of the input" allows is one outcome.
pub unique : {A : Type 0} {x y z : A} → x ≡ z → y ≡ z → x ≡ y
unique e f = e ∙ sym f

pub unique-prepare : {x y : Prepared} (device : ℕ) (cells identification latch counts : List ℕ) → x ≡ prepare_outcome device cells identification latch counts
    → y ≡ prepare_outcome device cells identification latch counts → x ≡ y
unique-prepare device cells identification latch counts = unique

pub unique-count-pages : {x y : Counted} (device : ℕ) (cells counts : List ℕ) → x ≡ count_outcome device cells counts → y ≡ count_outcome device cells counts → x ≡ y
unique-count-pages device cells counts = unique

pub unique-first-blank : {x y : Found} (device : ℕ) (counts : List ℕ) → x ≡ blank_outcome device counts → y ≡ blank_outcome device counts → x ≡ y
unique-first-blank device counts = unique

pub unique-load : {x y : Loaded} (device : ℕ) (stored : Stored) → x ≡ load_outcome device stored → y ≡ load_outcome device stored → x ≡ y
unique-load device stored = unique

pub unique-stored : {x y : Stored} (s : State) → x ≡ stored_in s → y ≡ stored_in s → x ≡ y
unique-stored s e f = unique e f

pub unique-event : {x y : Replied} (device : ℕ) (w : World) (e : Event) → x ≡ event_outcome device w e → y ≡ event_outcome device w e → x ≡ y
unique-event device w e = unique

pub unique-run : {x y : Progress} (device : ℕ) (w : World) (trace answers : List ℕ) (limit : ℕ) → x ≡ run_outcome device w trace answers limit
    → y ≡ run_outcome device w trace answers limit → x ≡ y
unique-run device w trace answers limit = unique

pub unique-view : {x y : Shown} (device : ℕ) (region : Region) (cells identification : List ℕ) (address : ℕ)
    → x ≡ view_outcome device region cells identification address → y ≡ view_outcome device region cells identification address → x ≡ y
unique-view device region cells identification address = unique

pub unique-status-byte : {x y : ℕ} (s : State) → x ≡ status_byte s → y ≡ status_byte s → x ≡ y
unique-status-byte s e f = unique e f

pub unique-prepared-state : {x y : State} → x ≡ prepared_state → y ≡ prepared_state → x ≡ y
unique-prepared-state e f = unique e f

pub unique-world-refused : {x y : ℕ} (device : ℕ) (w : World) → x ≡ world_refusal device w → y ≡ world_refusal device w → x ≡ y
unique-world-refused device w = unique

-- What each call gives, of two runs on one input: the letters with a prime are those of the second.
pub given-prepare : (x y : Result State Refusal) {c c' i i' l l' n n' : List ℕ} (device : ℕ) (cells identification latch counts : List ℕ)
    → prepared_as (number_of x) (world_of (state_of prepared_state x) c i l n) ≡ prepare_outcome device cells identification latch counts
    → prepared_as (number_of y) (world_of (state_of prepared_state y) c' i' l' n') ≡ prepare_outcome device cells identification latch counts → Alike (λ a b. a ≡ b) x y
given-prepare x y device cells identification latch counts e f =
    let same = unique-prepare device cells identification latch counts e f in
    let state = ap (λ (p : Prepared). p.world.state) same in
    alike (λ a b. a ≡ b) x y (ap (λ (p : Prepared). p.number) same) (λ a b ex ey. sym (ap (state_of prepared_state) ex) ∙ state ∙ ap (state_of prepared_state) ey)

pub given-count-pages : {T : Type 0} (x y : Result T Refusal) {n n' : List ℕ} (device : ℕ) (cells counts : List ℕ)
    → counted_as (number_of x) n ≡ count_outcome device cells counts → counted_as (number_of y) n' ≡ count_outcome device cells counts → Alike (λ a b. Unit) x y
given-count-pages x y device cells counts e f =
    alike (λ a b. Unit) x y (ap (λ (p : Counted). p.number) (unique-count-pages device cells counts e f)) (λ a b ex ey. tt)

pub given-first-blank : (x y : Result (Option ℕ) Refusal) (device : ℕ) (counts : List ℕ)
    → found_as (number_of x) (page_of x) ≡ blank_outcome device counts → found_as (number_of y) (page_of y) ≡ blank_outcome device counts → Alike (λ a b. a ≡ b) x y
given-first-blank x y device counts e f =
    let same = unique-first-blank device counts e f in
    let page = ap (λ (p : Found). p.blank) same in
    alike (λ a b. a ≡ b) x y (ap (λ (p : Found). p.number) same) (λ a b ex ey. sym (ap page_of ex) ∙ page ∙ ap page_of ey)

pub given-load : (x y : Result State Refusal) (device : ℕ) (stored : Stored) → loaded_as (number_of x) (state_of prepared_state x) ≡ load_outcome device stored
    → loaded_as (number_of y) (state_of prepared_state y) ≡ load_outcome device stored → Alike (λ a b. a ≡ b) x y
given-load x y device stored e f =
    let same = unique-load device stored e f in
    let state = ap (λ (p : Loaded). p.state) same in
    alike (λ a b. a ≡ b) x y (ap (λ (p : Loaded). p.number) same) (λ a b ex ey. sym (ap (state_of prepared_state) ex) ∙ state ∙ ap (state_of prepared_state) ey)

pub given-event : (x y : Result Level Refusal) {u u' : World} (device : ℕ) (w : World) (event : Event)
    → replied_as (number_of x) (answer_of x) u ≡ event_outcome device w event → replied_as (number_of y) (answer_of y) u' ≡ event_outcome device w event → Alike (λ a b. a ≡ b) x y
given-event x y device w event e f =
    let same = unique-event device w event e f in
    let answer = ap (λ (p : Replied). p.answer) same in
    alike (λ a b. a ≡ b) x y (ap (λ (p : Replied). p.number) same) (λ a b ex ey. same-level a b (sym (ap answer_of ex) ∙ answer ∙ ap answer_of ey))

pub given-run : {T : Type 0} (x y : Result T Refusal) {taken taken' done done' : ℕ} {u u' : World} {a a' : List ℕ} (device : ℕ) (w : World) (trace answers : List ℕ) (limit : ℕ)
    → progress_of (number_of x) taken done u a ≡ run_outcome device w trace answers limit → progress_of (number_of y) taken' done' u' a' ≡ run_outcome device w trace answers limit
    → Alike (λ a b. Unit) x y
given-run x y device w trace answers limit e f =
    alike (λ a b. Unit) x y (ap (λ (p : Progress). p.number) (unique-run device w trace answers limit e f)) (λ a b ex ey. tt)

-- Of a page that is shown, its bytes: where they stand is the reference's own matter.
abbrev Shows : {T : Type 0} → (T → List ℕ) → Shown → Result T Refusal → Type 0
Shows bytes o x = MatchResult x (λ part. shown_as 0 (bytes part) ≡ o) (λ e. shown_as (refusal_number e) [] ≡ o)

shows-alike : {T : Type 0} (bytes : T → List ℕ) (o : Shown) (x y : Result T Refusal) → Shows bytes o x → Shows bytes o y → Alike (λ a b. bytes a ≡ bytes b) x y
shows-alike bytes o (Ok a) (Ok b) e f = ap (λ (p : Shown). p.part) (unique e f)
shows-alike bytes o (Ok a) (Err d) e f = some-number d (sym (ap (λ (p : Shown). p.number) (unique e f)))
shows-alike bytes o (Err c) (Ok b) e f = some-number c (ap (λ (p : Shown). p.number) (unique e f))
shows-alike bytes o (Err c) (Err d) e f = same-refusal c d (ap (λ (p : Shown). p.number) (unique e f))

pub given-view : {T : Type 0} (bytes : T → List ℕ) (x y : Result T Refusal) (device : ℕ) (region : Region) (cells identification : List ℕ) (address : ℕ)
    → Shows bytes (view_outcome device region cells identification address) x → Shows bytes (view_outcome device region cells identification address) y
    → Alike (λ a b. bytes a ≡ bytes b) x y
given-view bytes x y device region cells identification address = shows-alike bytes (view_outcome device region cells identification address) x y

-- Of a device that is known, its row. `judged` gives the same of a world.
is-row : (device : ℕ) (x : Result Device Refusal) {a : Device} → IfOk x (λ (d : Device). d.row ≡ row_of device) → x ≡ Ok a → a.row ≡ row_of device
is-row device x known ex = subst (λ (r : Result Device Refusal). IfOk r (λ (d : Device). d.row ≡ row_of device)) ex known

pub given-world-refused : (x y : Result Device Refusal) (device : ℕ) (w : World) → number_of x ≡ world_refusal device w → IfOk x (λ (d : Device). d.row ≡ row_of device)
    → number_of y ≡ world_refusal device w → IfOk y (λ (d : Device). d.row ≡ row_of device) → Alike (λ a b. a.row ≡ b.row) x y
given-world-refused x y device w e known f other =
    alike (λ (a b : Device). a.row ≡ b.row) x y (unique-world-refused device w e f) (λ a b ex ey. is-row device x known ex ∙ sym (is-row device y other ey))
