use Rattle.std.proofs.Common.{◌∙◌}
use Rattle.std.proofs.Math.Path.{ap₂}
use Rattle.served.specs.Known.{known_of}
use Rattle.served.specs.Telling.{attributes_of, entry_of}
use Rattle.served.specs.Making as spec
use Rattle.served.proofs.MakingLaws.{came_enters}
use Rattle.served.proofs.making.made.Goals as goal

pub returns : goal.returns
returns g c =
    let told = c.attributes_of-told.ensures ∙ ap₂ (λ inode parts. attributes_of inode c.args.stat.now parts c.made-marks.result) c.from.ensures c.parts_of_size-parts.ensures in
    let entry = c.entry_of.ensures ∙ ap₂ (λ node told. entry_of node c.handle_of-handle.result.generation told) c.node_of.ensures told in
    came_enters g.F.FileSystem c.args.files.now (known_of c.args.memory.now) (known_of c.mark.new.self) (known_of c.touch_directory.new.memory) c.args.asker (spec.place_of c.args.new.now) c.args.stat.now c.handle_of-handle.result c.made-marks.result c.entry_of.result
    c.handle_of-handle.ensures c.made-marks.ensures c.mark.ensures c.touch_directory.ensures entry
