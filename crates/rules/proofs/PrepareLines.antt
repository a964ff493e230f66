-- Preparing, loading and what is stored: a law for each line, by computation, and the whole table from them.
use mathlib.Core.Path.{refl}
use Rattle.rules.specs.World.{none, ◌and◌}
use Rattle.rules.specs.Lines.{Gives, Given}
use Rattle.rules.specs.PrepareLines as spec
use Rattle.rules.proofs.Opened.{calls}

prepare_taken : Gives spec.prepare_taken
unfolding calls
prepare_taken = refl

prepare_device_eight : Gives spec.prepare_device_eight
unfolding calls
prepare_device_eight = refl

prepare_device_zero : Gives spec.prepare_device_zero
unfolding calls
prepare_device_zero = refl

prepare_cells : Gives spec.prepare_cells
unfolding calls
prepare_cells = refl

prepare_identification : Gives spec.prepare_identification
unfolding calls
prepare_identification = refl

prepare_latch : Gives spec.prepare_latch
unfolding calls
prepare_latch = refl

prepare_counts : Gives spec.prepare_counts
unfolding calls
prepare_counts = refl

prepare_counts_of_bytes : Gives spec.prepare_counts_of_bytes
unfolding calls
prepare_counts_of_bytes = refl

prepare_the_m95010 : Gives spec.prepare_the_m95010
unfolding calls
prepare_the_m95010 = refl

prepare_the_m95020 : Gives spec.prepare_the_m95020
unfolding calls
prepare_the_m95020 = refl

prepare_a_page_where_there_is_none : Gives spec.prepare_a_page_where_there_is_none
unfolding calls
prepare_a_page_where_there_is_none = refl

count_taken : Gives spec.count_taken
unfolding calls
count_taken = refl

count_device : Gives spec.count_device
unfolding calls
count_device = refl

count_cells : Gives spec.count_cells
unfolding calls
count_cells = refl

count_counts : Gives spec.count_counts
unfolding calls
count_counts = refl

load_all_bits : Gives spec.load_all_bits
unfolding calls
load_all_bits = refl

load_nothing : Gives spec.load_nothing
unfolding calls
load_nothing = refl

load_no_device : Gives spec.load_no_device
unfolding calls
load_no_device = refl

load_no_srwd : Gives spec.load_no_srwd
unfolding calls
load_no_srwd = refl

load_wel : Gives spec.load_wel
unfolding calls
load_wel = refl

load_above_a_byte : Gives spec.load_above_a_byte
unfolding calls
load_above_a_byte = refl

load_lock : Gives spec.load_lock
unfolding calls
load_lock = refl

load_without_a_page : Gives spec.load_without_a_page
unfolding calls
load_without_a_page = refl

load_lock_without_a_page : Gives spec.load_lock_without_a_page
unfolding calls
load_lock_without_a_page = refl

stored_in_a_status_cycle : Gives spec.stored_in_a_status_cycle
unfolding calls
stored_in_a_status_cycle = refl

stored_in_a_lock_cycle : Gives spec.stored_in_a_lock_cycle
unfolding calls
stored_in_a_lock_cycle = refl

stored_lock : Gives spec.stored_lock
unfolding calls
stored_lock = refl

pub preparing : Given spec.preparing
preparing =
    prepare_taken and prepare_device_eight and prepare_device_zero and prepare_cells and prepare_identification and prepare_latch
    and prepare_counts and prepare_counts_of_bytes
    and prepare_the_m95010 and prepare_the_m95020 and prepare_a_page_where_there_is_none
    and count_taken and count_device and count_cells and count_counts and load_all_bits and load_nothing and load_no_device
    and load_no_srwd and load_wel and load_above_a_byte and load_lock and load_without_a_page and load_lock_without_a_page
    and stored_in_a_status_cycle and stored_in_a_lock_cycle and stored_lock and none
