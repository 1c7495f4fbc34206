use Rattle.std.proofs.Common.{ap, ◌∙◌}
use Rattle.layout.specs.InodeReading.{kind_and_links_in}
use Rattle.layout.proofs.InodeLaws.{head_again}
use Rattle.layout.proofs.inode.Inode.kind_and_links.Goals as goal

pub returns-clause-only : goal.returns-clause-only
returns-clause-only c = λ s i fits is. c.read_kind_and_links.ensures ∙ ap kind_and_links_in is ∙ head_again s i fits
