use Rattle.std.proofs.Common.{◌∙◌, sym}
use Rattle.overlay.proofs.overlay.OverlayBlocks.bytes.Goals as goal

pub returns-in-None : goal.returns-in-None
returns-in-None g c = λ disk shows. c.bytes-in-None.ensures _ shows.below ∙ sym (c.in-None.ensures.below disk shows)
