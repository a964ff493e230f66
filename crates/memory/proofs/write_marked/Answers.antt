-- `memory::write_marked` meets its contract. The test of a mark is handed to `omega`, so that its meaning counts and not its spelling.
use Prim.Native.Nat.{◌+◌}
use Rattle.rules.specs.Cycle.{written}
use lib.ListN.{get_or, length, take, drop}
use mathlib.Core.Path.{◌≡◌, refl}
use native.Mathlib.Omega.{arith}
use Rattle.std.proofs.lemmas.List.{length_push}
use Rattle.std.proofs.lemmas.Iterator.{YieldsList-from_slice, YieldsList-from_zip}
use Rattle.std.proofs.lemmas.Iterator.Consumers.{YieldsList-at, YieldsList-from_enumerate, YieldsList-turn}
use Rattle.memory.proofs.Laws.{written-set, written-keep, place-at}
use Rattle.memory.proofs.write_marked.Goals as goal
use Rattle.memory.proofs.write_marked.Goals.{In-Some}

-- The byte and the mark of this turn are those of the next place.
here : (c : In-Some) → let n = length c.loop-i.yielded in
    (c.in-Some.i ≡ n) × (c.in-Some.byte.now ≡ get_or c.args.latch.now n 0) × (c.in-Some.mark.now ≡ get_or c.args.latch.now (c.args.row.page + n) 0)
here c =
    let page = c.args.row.page in
    let latch = c.args.latch.now in
    let item = c.in-Some in
    let pairs = YieldsList-from_zip {s = c.zip.result} (YieldsList-from_slice (take page latch) cc) (YieldsList-from_slice (drop page latch) cc) in
    let places = YieldsList-at c.into_iter-i-iterator.ensures.into_iter_gives (YieldsList-from_enumerate (YieldsList-at c.enumerate-i-items.ensures.source pairs) c.enumerate-i-items.ensures.count) in
    let turn = YieldsList-turn places c.loop-i.yielded c.loop-i.i-iterator c.loop-i.yielded_by _ c.next.new.self (item.i, (item.byte, item.mark)) item.is c.next.ensures.steps in
    place-at page latch (length c.loop-i.yielded) item.i item.byte.now item.mark.now c.requires.0 turn

pub loop-i-init : goal.loop-i-init
unfolding written
loop-i-init c = refl

pub loop-i-preserved-then-is_marked : goal.loop-i-preserved-then-is_marked
loop-i-preserved-then-is_marked c =
    let a = c.args in
    let at = here (goal.at.loop-i-preserved-then-is_marked c).In-Some in
    let more = length_push c.loop-i.yielded (c.in-Some.i, (c.in-Some.byte, c.in-Some.mark)) in
    cc (written-set a.row.page a.latch.now a.start a.bytes.now (length c.loop-i.yielded) (omega (arith, c.if-is_marked.true)))

pub loop-i-preserved : goal.loop-i-preserved
loop-i-preserved c =
    let a = c.args in
    let at = here (goal.at.loop-i-preserved c).In-Some in
    let more = length_push c.loop-i.yielded (c.in-Some.i, (c.in-Some.byte, c.in-Some.mark)) in
    cc (written-keep a.row.page a.latch.now a.start a.bytes.now (length c.loop-i.yielded) (omega (arith, c.if-is_marked.false)))
