-- Where there is room: a law for each line, by computation, and the whole table from them.
use mathlib.Core.Path.{refl}
use Rattle.rules.specs.World.{none, ◌and◌}
use Rattle.rules.specs.Lines.{Gives, Given}
use Rattle.rules.specs.BlankLines as spec
use Rattle.rules.proofs.Opened.{calls}

blank_first_page : Gives spec.blank_first_page
unfolding calls
blank_first_page = refl

blank_lowest_page : Gives spec.blank_lowest_page
unfolding calls
blank_lowest_page = refl

blank_last_page : Gives spec.blank_last_page
unfolding calls
blank_last_page = refl

blank_none : Gives spec.blank_none
unfolding calls
blank_none = refl

blank_wrong_counts : Gives spec.blank_wrong_counts
unfolding calls
blank_wrong_counts = refl

blank_device_eight : Gives spec.blank_device_eight
unfolding calls
blank_device_eight = refl

blank_device_zero : Gives spec.blank_device_zero
unfolding calls
blank_device_zero = refl

blank_fewer_counts : Gives spec.blank_fewer_counts
unfolding calls
blank_fewer_counts = refl

blank_more_counts : Gives spec.blank_more_counts
unfolding calls
blank_more_counts = refl

pub blanks : Given spec.blanks
blanks =
    blank_first_page and blank_lowest_page and blank_last_page and blank_none and blank_wrong_counts and blank_device_eight
    and blank_device_zero and blank_fewer_counts and blank_more_counts and none
