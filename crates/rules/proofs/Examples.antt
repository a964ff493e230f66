-- The theorem `examples`: a law for each line, by computation on lists of full size, and the whole table from them.
use mathlib.Core.Path.{refl}
use Rattle.rules.specs.World.{none, ◌and◌}
use Rattle.rules.specs.Examples as spec
use Rattle.rules.proofs.Opened.{opened}

example_1 : spec.Seen spec.example_1
unfolding opened
example_1 = refl

example_2_one_address_byte : spec.Seen spec.example_2_one_address_byte
unfolding opened
example_2_one_address_byte = refl

example_2_two_address_bytes : spec.Seen spec.example_2_two_address_bytes
unfolding opened
example_2_two_address_bytes = refl

example_3 : spec.Seen spec.example_3
unfolding opened
example_3 = refl

example_4_busy : spec.Seen spec.example_4_busy
unfolding opened
example_4_busy = refl

example_4_ready : spec.Seen spec.example_4_ready
unfolding opened
example_4_ready = refl

example_5 : spec.Seen spec.example_5
unfolding opened
example_5 = refl

example_6 : spec.Seen spec.example_6
unfolding opened
example_6 = refl

example_7 : spec.Seen spec.example_7
unfolding opened
example_7 = refl

example_8 : spec.Seen spec.example_8
unfolding opened
example_8 = refl

example_9_one_address_byte : spec.Seen spec.example_9_one_address_byte
unfolding opened
example_9_one_address_byte = refl

example_9_two_address_bytes : spec.Seen spec.example_9_two_address_bytes
unfolding opened
example_9_two_address_bytes = refl

example_10 : spec.Seen spec.example_10
unfolding opened
example_10 = refl

example_11 : spec.Seen spec.example_11
unfolding opened
example_11 = refl

example_12 : spec.Seen spec.example_12
unfolding opened
example_12 = refl

pub examples : spec.Hold spec.examples
examples =
    example_1 and example_2_one_address_byte and example_2_two_address_bytes and example_3 and example_4_busy and example_4_ready
    and example_5 and example_6 and example_7 and example_8 and example_9_one_address_byte and example_9_two_address_bytes
    and example_10 and example_11 and example_12 and none
