use Rattle.std.proofs.Common.{◌≡◌, ◌∙◌, ℕ, ap, sym, subst}
use Rattle.std.specs.Prelude.{None, Option, Some}
use Rattle.layout.specs.Inode.{IsInode}
use Rattle.layout.specs.Limits.{Sizes}
use Rattle.images.specs.Roots.{whole}
use Rattle.loading.specs.Images.{IsFileOfInode}
use Rattle.checker.specs.Findings.{first_fault, tree_in}
use Rattle.checker.specs.Trees.{IsOpened, IsSeenTo, IsTreeOf}
use Rattle.checker.specs.declared.fault.Fault.{Fault}
use Rattle.checker.specs.declared.tree.Tree.{Tree}
use Rattle.checker.proofs.HaltLaws.{told_fault}
use Rattle.checker.proofs.OpenLaws.{TellsOut, seen_opened, seen_out}
use Rattle.checker.proofs.trees.open_tree.Goals as goal
use Rattle.checker.proofs.trees.open_tree.Goals.{in-Some, in_default}

pub returns-clause-tree : goal.returns-clause-tree
returns-clause-tree g c = λ disk r shows root same has named top kind unmarked none.
    let tree = c.open_files-opened.new.tree in
    let file : IsFileOfInode c.args.top.now c.in_ok-file.file = record { blocks = c.in_ok-file.ensures.blocks; starts = c.in_ok-file.ensures.settled } in
    let fits = subst (λ (s : Sizes). IsInode s c.args.top.now) (sym same) c.requires.top in
    let is : IsTreeOf disk r tree = subst (IsTreeOf disk r) (sym c.open_files-opened.ensures.same) (record { has = has; named = named; top = top; fits = fits; kind = kind; file = file }) in
    let none_yet : tree.fault ≡ None = ap (λ (x : Tree). x.fault) c.open_files-opened.ensures.same in
    let told = told_fault (λ _. IsOpened disk r c.open_files-opened.new.marks c.open_files-opened.new.shared.of tree) (TellsOut r (tree_in (whole disk r) c.args.plane)) c.open_files-opened.result c.in_ok-fault.field-0
    c.in_ok-fault.ensures (c.open_files-opened.ensures.opened disk r shows root same (record { has = has; named = named; top = top; fits = fits; kind = kind; file = file }) unmarked none) in
    let plane : tree.plane ≡ c.args.plane = ap (λ (x : Tree). x.plane) c.open_files-opened.ensures.same in
    elim c.match-branch-3.branch [
      | in-Some w ↦
          let added : IsTreeOf disk r w.add.new.self = subst (IsTreeOf disk r) (sym w.add.ensures) (record { has = is.has; named = is.named; top = is.top; fits = is.fits; kind = is.kind; file = is.file }) in
          let fault : w.add.new.self.fault ≡ Some w.in-Some.fault =
          ap (λ (x : Tree). x.fault) w.add.ensures ∙ ap (λ (o : Option Fault). Some (first_fault o w.in-Some.fault)) none_yet in
          let same_plane : w.add.new.self.plane ≡ c.args.plane = ap (λ (x : Tree). x.plane) w.add.ensures ∙ plane in
          subst (IsSeenTo disk r 0 0 c.open_files-opened.new.marks c.open_files-opened.new.shared.of) (sym w.tree-is)
          (seen_out disk r c.open_files-opened.new.marks c.open_files-opened.new.shared.of w.add.new.self w.in-Some.fault fault added
          (subst (λ (k : ℕ). TellsOut r (tree_in (whole disk r) k) w.in-Some.fault) (sym same_plane) (told.1 w.in-Some.fault w.in-Some.is)))
      | in_default w ↦
          subst (IsSeenTo disk r 0 0 c.open_files-opened.new.marks c.open_files-opened.new.shared.of) (sym w.tree-is)
          (seen_opened disk r c.open_files-opened.new.marks c.open_files-opened.new.shared.of tree none_yet is (told.0 w.in_default.is))
    ]
