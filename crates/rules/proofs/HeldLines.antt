-- The theorem `examples_206`: a law for each line, by computation on chips of full size, and the whole table from them.
use mathlib.Core.Path.{refl}
use Rattle.rules.specs.World.{none, ◌and◌}
use Rattle.rules.specs.Examples.{Seen, Hold}
use Rattle.rules.specs.HeldLines as spec
use Rattle.rules.proofs.Opened.{opened}

m95128d_held_write : Seen spec.m95128d_held_write
unfolding opened
m95128d_held_write = refl

m95128_held_write : Seen spec.m95128_held_write
unfolding opened
m95128_held_write = refl

m95040_held_write : Seen spec.m95040_held_write
unfolding opened
m95040_held_write = refl

m95m01_held_write : Seen spec.m95m01_held_write
unfolding opened
m95m01_held_write = refl

m95m02_held_write : Seen spec.m95m02_held_write
unfolding opened
m95m02_held_write = refl

m95010_held_write : Seen spec.m95010_held_write
unfolding opened
m95010_held_write = refl

m95020_held_write : Seen spec.m95020_held_write
unfolding opened
m95020_held_write = refl

held_wrid : Seen spec.held_wrid
unfolding opened
held_wrid = refl

held_lid : Seen spec.held_lid
unfolding opened
held_lid = refl

held_wren : Seen spec.held_wren
unfolding opened
held_wren = refl

held_wrdi : Seen spec.held_wrdi
unfolding opened
held_wrdi = refl

held_wrsr : Seen spec.held_wrsr
unfolding opened
held_wrsr = refl

held_with_hold_high_write : Seen spec.held_with_hold_high_write
unfolding opened
held_with_hold_high_write = refl

held_with_hold_high_wrsr : Seen spec.held_with_hold_high_wrsr
unfolding opened
held_with_hold_high_wrsr = refl

not_held_with_hold_low_write : Seen spec.not_held_with_hold_low_write
unfolding opened
not_held_with_hold_low_write = refl

not_held_with_hold_low_wrsr : Seen spec.not_held_with_hold_low_wrsr
unfolding opened
not_held_with_hold_low_wrsr = refl

held_write_with_a_bit_over : Seen spec.held_write_with_a_bit_over
unfolding opened
held_write_with_a_bit_over = refl

held_write_without_data : Seen spec.held_write_without_data
unfolding opened
held_write_without_data = refl

held_write_without_wel : Seen spec.held_write_without_wel
unfolding opened
held_write_without_wel = refl

held_write_in_a_cycle : Seen spec.held_write_in_a_cycle
unfolding opened
held_write_in_a_cycle = refl

clocks_in_hold_complete_no_byte : Seen spec.clocks_in_hold_complete_no_byte
unfolding opened
clocks_in_hold_complete_no_byte = refl

clocks_in_hold_spoil_no_byte : Seen spec.clocks_in_hold_spoil_no_byte
unfolding opened
clocks_in_hold_spoil_no_byte = refl

selected_after_a_held_write : Seen spec.selected_after_a_held_write
unfolding opened
selected_after_a_held_write = refl

pub examples_206 : Hold spec.examples_206
examples_206 =
    m95128d_held_write and m95128_held_write and m95040_held_write and m95m01_held_write and m95m02_held_write and m95010_held_write
    and m95020_held_write and held_wrid and held_lid and held_wren and held_wrdi and held_wrsr and held_with_hold_high_write
    and held_with_hold_high_wrsr and not_held_with_hold_low_write and not_held_with_hold_low_wrsr and held_write_with_a_bit_over
    and held_write_without_data and held_write_without_wel and held_write_in_a_cycle
    and clocks_in_hold_complete_no_byte and clocks_in_hold_spoil_no_byte and selected_after_a_held_write and none
