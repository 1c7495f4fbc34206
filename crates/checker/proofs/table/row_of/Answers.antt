use Rattle.std.proofs.Common.{◌∙◌, ℕ, ap}
use Rattle.std.specs.Option.{unwrap_or}
use Rattle.std.specs.Prelude.{Option}
use Rattle.layout.specs.declared.kind.Kind.{Kind}
use Rattle.layout.specs.declared.kind.Kind.TheVariants.{Free}
use Rattle.checker.proofs.table.row_of.Goals as goal

pub returns-clause-inode : goal.returns-clause-inode
returns-clause-inode c = λ s i fits is.
    let read = c.unwrap_or-kind.ensures ∙ ap (λ (found : Option (Kind × ℕ)). unwrap_or found (Free, 0)) (c.kind_and_links.ensures.only s i fits is) in
    (ap (λ (x : Kind × ℕ). x.0) read, ap (λ (x : Kind × ℕ). x.1) read)
