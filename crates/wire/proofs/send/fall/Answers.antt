-- `wire::send::fall` meets its contract.
use Rattle.rules.proofs.Received.{shown-inside}
use Rattle.rules.proofs.Widths.{widths}
use Rattle.wire.proofs.send.fall.Goals as goal

pub output_after-t-requires : goal.output_after-t-requires
output_after-t-requires c =
    let inside = shown-inside (widths _ c.args.device.wide) c.args.s c.requires.1 in
    rw c.shown_address-t.ensures (c.requires.0, c.requires.2, inside, c.requires.3, c.requires.4)
