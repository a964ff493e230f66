-- Any two outcomes that the contract of a call for C allows are equal.
use Prim.Native.Nat.{ℕ}
use mathlib.Core.Path.{◌≡◌}
use mathlib.Core.List.{List}
use Rattle.rules.specs.Call.{Counted, count_outcome}
use Rattle.m95.proofs.Unique.{unique}
use Rattle.state_bytes.specs.StateBytes.{version}
use Rattle.m95_c.specs.Left.{device_of, sizes_of, Buffers, buffers_refusal, Prepared, prepare_left, Loaded, load_left, Kept, stored_left}
use Rattle.m95_c.specs.Left.{Replied, event_left, Ran, run_left, Searched, blank_left, Told, status_left, Placed, view_left}

pub unique-cells : {x y : ℕ} (device : ℕ) → x ≡ (sizes_of device).cells → y ≡ (sizes_of device).cells → x ≡ y
unique-cells device e f = unique e f

pub unique-page : {x y : ℕ} (device : ℕ) → x ≡ (sizes_of device).page → y ≡ (sizes_of device).page → x ≡ y
unique-page device e f = unique e f

pub unique-identification : {x y : ℕ} (device : ℕ) → x ≡ (sizes_of device).identification → y ≡ (sizes_of device).identification → x ≡ y
unique-identification device e f = unique e f

pub unique-pages : {x y : ℕ} (device : ℕ) → x ≡ (sizes_of device).pages → y ≡ (sizes_of device).pages → x ≡ y
unique-pages device e f = unique e f

pub unique-count-pages : {x y : Counted} (device : ℕ) (cells counts : List ℕ) → x ≡ count_outcome (device_of device) cells counts → y ≡ count_outcome (device_of device) cells counts → x ≡ y
unique-count-pages device cells counts = unique

pub unique-first-blank : {x y : Searched} (device : ℕ) (counts : List ℕ) → x ≡ blank_left device counts → y ≡ blank_left device counts → x ≡ y
unique-first-blank device counts = unique

pub unique-refusal : {x y : ℕ} (device : ℕ) (b : Buffers) → x ≡ buffers_refusal device b → y ≡ buffers_refusal device b → x ≡ y
unique-refusal device b = unique

pub unique-prepare : {x y : Prepared} (device : ℕ) (b : Buffers) → x ≡ prepare_left device b → y ≡ prepare_left device b → x ≡ y
unique-prepare device b = unique

pub unique-event : {x y : Replied} (device : ℕ) (b : Buffers) (kind value : ℕ) → x ≡ event_left device b kind value → y ≡ event_left device b kind value → x ≡ y
unique-event device b kind value = unique

pub unique-run : {x y : Ran} (device : ℕ) (b : Buffers) (trace answers : List ℕ) (limit : ℕ) → x ≡ run_left device b trace answers limit → y ≡ run_left device b trace answers limit → x ≡ y
unique-run device b trace answers limit = unique

pub unique-status-byte : {x y : Told} (state : List ℕ) → x ≡ status_left state → y ≡ status_left state → x ≡ y
unique-status-byte state = unique

pub unique-view : {x y : Placed} (device region : ℕ) (cells identification : List ℕ) (address : ℕ) → x ≡ view_left device region cells identification address
    → y ≡ view_left device region cells identification address → x ≡ y
unique-view device region cells identification address = unique

pub unique-version : {x y : ℕ} → x ≡ version → y ≡ version → x ≡ y
unique-version e f = unique e f

pub unique-load : {x y : Loaded} (device : ℕ) (state : List ℕ) (status lock : ℕ) → x ≡ load_left device state status lock → y ≡ load_left device state status lock → x ≡ y
unique-load device state status lock = unique

pub unique-stored : {x y : Kept} (state : List ℕ) → x ≡ stored_left state → y ≡ stored_left state → x ≡ y
unique-stored state = unique
