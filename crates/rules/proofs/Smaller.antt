-- The theorem `examples_202`: a law for each line, by computation on chips of full size, and the whole table from them.
use mathlib.Core.Path.{refl}
use Rattle.rules.specs.World.{none, ◌and◌}
use Rattle.rules.specs.Examples.{Seen, Hold}
use Rattle.rules.specs.Smaller as spec
use Rattle.rules.proofs.Opened.{opened}

m95010_wren_0e : Seen spec.m95010_wren_0e
unfolding opened
m95010_wren_0e = refl

m95020_wren_0e : Seen spec.m95020_wren_0e
unfolding opened
m95020_wren_0e = refl

m95128_no_wren_0e : Seen spec.m95128_no_wren_0e
unfolding opened
m95128_no_wren_0e = refl

m95010_write_0a : Seen spec.m95010_write_0a
unfolding opened
m95010_write_0a = refl

m95020_write_0a : Seen spec.m95020_write_0a
unfolding opened
m95020_write_0a = refl

m95010_one_cell : Seen spec.m95010_one_cell
unfolding opened
m95010_one_cell = refl

m95010_read_goes_on : Seen spec.m95010_read_goes_on
unfolding opened
m95010_read_goes_on = refl

m95020_read_goes_on : Seen spec.m95020_read_goes_on
unfolding opened
m95020_read_goes_on = refl

m95128_read_goes_on : Seen spec.m95128_read_goes_on
unfolding opened
m95128_read_goes_on = refl

m95010_page : Seen spec.m95010_page
unfolding opened
m95010_page = refl

m95020_page : Seen spec.m95020_page
unfolding opened
m95020_page = refl

m95128_page : Seen spec.m95128_page
unfolding opened
m95128_page = refl

m95010_status : Seen spec.m95010_status
unfolding opened
m95010_status = refl

m95020_status : Seen spec.m95020_status
unfolding opened
m95020_status = refl

m95128_status : Seen spec.m95128_status
unfolding opened
m95128_status = refl

m95010_upper_quarter : Seen spec.m95010_upper_quarter
unfolding opened
m95010_upper_quarter = refl

m95020_upper_quarter : Seen spec.m95020_upper_quarter
unfolding opened
m95020_upper_quarter = refl

m95128_upper_quarter : Seen spec.m95128_upper_quarter
unfolding opened
m95128_upper_quarter = refl

m95010_w_low : Seen spec.m95010_w_low
unfolding opened
m95010_w_low = refl

m95020_w_low : Seen spec.m95020_w_low
unfolding opened
m95020_w_low = refl

m95128_w_low : Seen spec.m95128_w_low
unfolding opened
m95128_w_low = refl

m95010_no_page : Seen spec.m95010_no_page
unfolding opened
m95010_no_page = refl

m95020_no_page : Seen spec.m95020_no_page
unfolding opened
m95020_no_page = refl

m95128_83h_sends_nothing : Seen spec.m95128_83h_sends_nothing
unfolding opened
m95128_83h_sends_nothing = refl

m95128_82h_starts_nothing : Seen spec.m95128_82h_starts_nothing
unfolding opened
m95128_82h_starts_nothing = refl

m95128_82h_clears_no_marks : Seen spec.m95128_82h_clears_no_marks
unfolding opened
m95128_82h_clears_no_marks = refl

pub examples_202 : Hold spec.examples_202
examples_202 =
    m95010_wren_0e and m95020_wren_0e and m95128_no_wren_0e and m95010_write_0a and m95020_write_0a and m95010_one_cell
    and m95010_read_goes_on and m95020_read_goes_on and m95128_read_goes_on and m95010_page and m95020_page and m95128_page
    and m95010_status and m95020_status and m95128_status and m95010_upper_quarter and m95020_upper_quarter and m95128_upper_quarter
    and m95010_w_low and m95020_w_low and m95128_w_low and m95010_no_page and m95020_no_page and m95128_83h_sends_nothing
    and m95128_82h_starts_nothing and m95128_82h_clears_no_marks and none
