-- 01, "Bench program": what it prints, byte for byte, as one function of its input. Texts are lists of ASCII codes.
use Rattle.std.specs.Prelude.{◌+◌, ◌/◌, ◌%◌, ◌≡◌, ◌∷◌, ◌++◌, if◌then◌else◌}
use Rattle.rules.specs.World.{ℕ, zero, suc, true, false, List, [], take, drop, replicate, length, eqb, ltb, with_stored, with_state, Each}
use Rattle.rules.specs.Device.{m95128d, row_of, prepared_state, prepared}
use Rattle.rules.specs.Send.{status_byte}
use Rattle.rules.specs.Trace.{Progress, progress_of}
use Rattle.rules.specs.Call.{run_outcome, first_record}

-- A digit, 0 to 9 and then A to F.
abbrev pub digit : ℕ → ℕ
digit d = if ltb d 10 then 48 + d else 55 + d

-- A number in decimal, with no zero in front. Twenty places hold every number of 64 bits.
abbrev pub decimal_in : ℕ → ℕ → List ℕ
decimal_in zero n = []
decimal_in (suc places) n = if ltb n 10 then digit n ∷ [] else decimal_in places (n / 10) ++ (digit (n % 10) ∷ [])

unfoldable pub decimal : ℕ → List ℕ
decimal n = decimal_in 20 n

-- A byte as two capital hexadecimal digits.
abbrev pub hexadecimal : ℕ → List ℕ
hexadecimal b = digit (b / 16) ∷ digit (b % 16) ∷ []

-- An answer byte as it is shown: 0, 1 or Z.
abbrev pub shown : ℕ → ℕ
shown answer = if eqb answer 0 then 48 else if eqb answer 1 then 49 else 90

-- The header, "record q".
abbrev pub header : List ℕ
header = 114 ∷ 101 ∷ 99 ∷ 111 ∷ 114 ∷ 100 ∷ 32 ∷ 113 ∷ 10 ∷ []

-- The line of one record: its number, a space, its answer.
abbrev pub line : ℕ → ℕ → List ℕ
line n answer = decimal n ++ (32 ∷ shown answer ∷ 10 ∷ [])

-- A line for each answer; the first record has the number n.
abbrev pub lines : ℕ → List ℕ → List ℕ
lines n [] = []
lines n (answer ∷ rest) = line n answer ++ lines (n + 1) rest

-- How it ended: "end", the number, the status; and as the last line.
abbrev pub ending : ℕ → List ℕ → List ℕ
ending number status = (101 ∷ 110 ∷ 100 ∷ 32 ∷ []) ++ decimal number ++ (32 ∷ []) ++ status

abbrev pub ended : ℕ → List ℕ → List ℕ
ended number status = ending number status ++ (10 ∷ [])

-- Where there is no status, "--".
abbrev pub unknown : List ℕ
unknown = 45 ∷ 45 ∷ []

-- The run of a trace on a prepared device, with a limit and answer bytes that cannot end it: as many as the trace has bytes.
unfoldable pub bench_run : ℕ → List ℕ → Progress
bench_run device trace = run_outcome device (prepared (row_of device)) trace (replicate (length trace) 0) (length trace)

-- What a run prints: the header, a line for each record done, the end.
unfoldable pub run_text : Progress → List ℕ
run_text p = header ++ lines 1 (take p.done p.answers) ++ ended p.number (hexadecimal (status_byte p.world.state))

-- The whole output. The trace follows the first record, which has five bytes.
unfoldable pub bench_text : List ℕ → List ℕ
bench_text input =
    if eqb (first_record input).number 0 then run_text (bench_run (first_record input).device (drop 5 input))
    else ended (first_record input).number unknown

-- Limit and answer room never end a run: none ends with 10, and one that ends with 0 has taken the whole trace.
pub record Uncut (trace : List ℕ) (p : Progress) : Type 0 where
  pub room : p.number ≡ 10 → ⊥
  pub whole : p.number ≡ 0 → p.taken ≡ length trace

-- A line: what the bench prints of an input or of a run, and the whole text written out.
abbrev pub Line : Type 0
Line = List ℕ × List ℕ

abbrev pub Prints : Line → Type 0
Prints l = l.0 ≡ l.1

-- 01's own: two records, each answered by Z, and the end.
abbrev pub printed_two_records : Line
printed_two_records = (
  bench_text (3 ∷ 0 ∷ 16 ∷ 0 ∷ 1 ∷ 3 ∷ 0 ∷ 1 ∷ 0 ∷ 4 ∷ 3 ∷ 0 ∷ 1 ∷ 0 ∷ 5 ∷ []),
  header ++ (49 ∷ 32 ∷ 90 ∷ 10 ∷ 50 ∷ 32 ∷ 90 ∷ 10 ∷ 101 ∷ 110 ∷ 100 ∷ 32 ∷ 48 ∷ 32 ∷ 48 ∷ 48 ∷ 10 ∷ []),
)

-- A run that is refused at its second record prints what was done before.
abbrev pub printed_then_refused : Line
printed_then_refused = (
  bench_text (3 ∷ 0 ∷ 16 ∷ 0 ∷ 2 ∷ 3 ∷ 0 ∷ 1 ∷ 0 ∷ 4 ∷ 3 ∷ 0 ∷ 16 ∷ 0 ∷ 1 ∷ []),
  header ++ (49 ∷ 32 ∷ 90 ∷ 10 ∷ 101 ∷ 110 ∷ 100 ∷ 32 ∷ 55 ∷ 32 ∷ 48 ∷ 48 ∷ 10 ∷ []),
)

-- No record at all: the header stands all the same.
abbrev pub printed_no_record : Line
printed_no_record = (bench_text (3 ∷ 0 ∷ 16 ∷ 0 ∷ 1 ∷ []), header ++ (101 ∷ 110 ∷ 100 ∷ 32 ∷ 48 ∷ 32 ∷ 48 ∷ 48 ∷ 10 ∷ []))

-- The two ways to print no more than the end: an input too long, and a first record that is refused.
abbrev pub printed_too_long : Line
printed_too_long = (bench_text (replicate 32_769 0), 101 ∷ 110 ∷ 100 ∷ 32 ∷ 49 ∷ 50 ∷ 32 ∷ 45 ∷ 45 ∷ 10 ∷ [])

abbrev pub printed_device_four : Line
printed_device_four = (bench_text (3 ∷ 0 ∷ 16 ∷ 0 ∷ 4 ∷ []), 101 ∷ 110 ∷ 100 ∷ 32 ∷ 49 ∷ 32 ∷ 45 ∷ 45 ∷ 10 ∷ [])

-- Each level as it is shown, answers past the last record done left out, a number of two digits, and RDSR's byte: WEL with SRWD, BP1 and BP0.
abbrev pub printed_levels : Line
printed_levels = (
  run_text
      (progress_of 11 0 3 (with_state (with_stored (record { status = 0x8C; wel = true; locked = false }) prepared_state.cycle 0 0 prepared_state) (prepared m95128d)) (0 ∷ 1 ∷ 2 ∷ 1 ∷ [])),
  header ++ (49 ∷ 32 ∷ 48 ∷ 10 ∷ 50 ∷ 32 ∷ 49 ∷ 10 ∷ 51 ∷ 32 ∷ 90 ∷ 10 ∷ 101 ∷ 110 ∷ 100 ∷ 32 ∷ 49 ∷ 49 ∷ 32 ∷ 56 ∷ 69 ∷ 10 ∷ []),
)

abbrev pub printed : List Line
printed = printed_two_records ∷ printed_then_refused ∷ printed_no_record ∷ printed_too_long ∷ printed_device_four ∷ printed_levels ∷ []

-- The theorem `printed`: each input prints as expected.
abbrev pub Printed : Type 0
Printed = Each Prints printed
