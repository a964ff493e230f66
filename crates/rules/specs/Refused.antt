-- 01, "Numbers given back": the number of each refusal, and what a call of the code gives, told in the numbers of the outcomes.
use Rattle.std.specs.Prelude.{Result, Ok, Err}
use Rattle.rules.specs.World.{ℕ, Option, None, Level, State}
use Rattle.rules.specs.declared.refusal.Refusal.{Refusal}
use Rattle.rules.specs.Trace.{answer_byte}

abbrev pub refusal_number : Refusal → ℕ
refusal_number Refusal.Device = 1
refusal_number Refusal.Cells = 2
refusal_number Refusal.Identification = 3
refusal_number Refusal.Latch = 4
refusal_number Refusal.State = 5
refusal_number Refusal.Cut = 6
refusal_number Refusal.Kind = 7
refusal_number Refusal.Length = 8
refusal_number Refusal.Pin = 9
refusal_number Refusal.Answers = 10
refusal_number Refusal.Power = 11
refusal_number Refusal.Long = 12
refusal_number Refusal.Address = 13
refusal_number Refusal.Counts = 14
refusal_number Refusal.Count = 15

-- 0 where it was done.
abbrev pub number_of : {T : Type 0} → Result T Refusal → ℕ
number_of (Ok x) = 0
number_of (Err e) = refusal_number e

-- What is given besides: the answer's byte, a state, a page. Refused, an event answers 2 for Z, a state is the one named, and there is no page.
abbrev pub answer_of : Result Level Refusal → ℕ
answer_of (Ok q) = answer_byte q
answer_of (Err e) = 2

abbrev pub state_of : State → Result State Refusal → State
state_of other (Ok s) = s
state_of other (Err e) = other

abbrev pub page_of : Result (Option ℕ) Refusal → Option ℕ
page_of (Ok page) = page
page_of (Err e) = None
