use Rattle.std.proofs.Common.{rules, ◌≡◌, ◌∙◌, ◌↔◌, ℕ, List, map, ap, sym, subst}
use Rattle.std.proofs.lemmas.List.Elements.{All-map, All-same}
use Rattle.std.specs.List.{Contains}
use Rattle.model.specs.Volumes.{entries}
use Rattle.dirs.specs.declared.directory.NumberedName.{NumberedName}
use Rattle.paths.specs.Numbers.{IsInodeNumber}
use Rattle.records.specs.Below.{IsChild}
use Rattle.records.proofs.BelowLaws.{listed_children}
use Rattle.records.proofs.below.children_of.Goals as goal

pub returns-in_err-names-clause-damaged : goal.returns-in_err-names-clause-damaged
returns-in_err-names-clause-damaged g c = λ detail disk settled v stands is. c.in_err-names.ensures.damaged disk settled v stands (search rules)

pub returns-clause-within : goal.returns-clause-within
returns-clause-within g c =
    let number : NumberedName → ℕ = λ n. n.number in
    let items : c.in_ok-children.children.items ≡ map number c.in_ok-names.names.items = c.in_ok-children.ensures ∙ ap (map number) c.as_slice.ensures.value in
    let inodes = c.args.inodes.now.geometry.inodes in
    All-same (IsInodeNumber inodes) _ _ items (All-map (IsInodeNumber inodes) number c.in_ok-names.names.items c.in_ok-names.ensures.within.numbers)

pub returns-clause-children : goal.returns-clause-children
returns-clause-children g c = λ detail disk settled v stands n.
    let number : NumberedName → ℕ = λ n. n.number in
    let items : c.in_ok-children.children.items ≡ map number c.in_ok-names.names.items = c.in_ok-children.ensures ∙ ap (map number) c.as_slice.ensures.value in
    subst (λ (xs : List ℕ). Contains xs n ↔ IsChild (entries v) c.args.number n) (sym items)
    (listed_children (entries v c.args.number) c.in_ok-names.names.items (c.in_ok-names.ensures.found disk settled v stands) n)
