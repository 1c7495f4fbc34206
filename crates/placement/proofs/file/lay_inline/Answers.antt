use Rattle.placement.proofs.InlineLaws.{inline_stands}
use Rattle.placement.proofs.file.lay_inline.Goals as goal

pub returns-clause-stands : goal.returns-clause-stands
returns-clause-stands g c = λ s disk e shows ends.
    inline_stands s disk e c.args.object.now c.in_ok-inline_bytes.field-0 (record { layout = c.layout.result; heights = c.new.result }) c.requires.level c.new.ensures.items ends
    (c.in_ok-inline_bytes.ensures.whole disk shows) (c.in_ok-inline_bytes.ensures.bytes disk shows)
