use Rattle.std.proofs.Common.{◌≡◌, ◌≤◌, ◌-◌, ℕ, ap, sym, subst, ◌∙◌, arith}
use Rattle.layout.specs.Inode.{FitsKind}
use Rattle.layout.specs.declared.kind.Kind.{Kind}
use Rattle.model.specs.Volumes.{with_name_less}
use Rattle.inofile.specs.Settled.{content_of_object}
use Rattle.records.specs.Steps.{IsFileWithLinks, with_node_links}
use Rattle.inofile.proofs.DetailLaws.{by_size}
use Rattle.records.proofs.KindLaws.{sized_file}
use Rattle.records.proofs.FileLaws.{file_is, gone_with_name, less_links}
use Rattle.records.proofs.name_removal.released.Goals as goal

pub returns-in_default-clause-updates : goal.returns-in_default-clause-updates
returns-in_default-clause-updates c = λ detail count disk settled v volume many o. (ap with_name_less (c.in_default.ensures.stands_for_none _ count disk settled v volume), omega arith)

pub returns-in-File-clause-updates : goal.returns-in-File-clause-updates
returns-in-File-clause-updates c = λ detail count disk settled v volume many o.
    let is = c.in-Some.ensures.stands _ count disk settled v volume in
    let object = c.in-Some.object.now in
    let content = content_of_object disk object in
    let sizes = c.args.inodes.now.geometry in
    let links = object.status.links in
    let held = sized_file detail object.status.kind sizes.inodes content (v c.args.number) is.stands c.in-File.is in
    let file : IsFileWithLinks links (v c.args.number) = (content.attributes, held.0, held.2) in
    let most : links ≤ 1000 = subst (λ (k : Kind). FitsKind k sizes object.status.attributes links object.file.size) c.in-File.is (is.fits sizes) in
    let less : c.saturating_sub.result ≡ links - 1 = c.saturating_sub.ensures in (
      (
        file_is links (v c.args.number) file,
        omega arith,
        less_links links (v c.args.number) file ∙ ap (λ (n : ℕ). with_node_links n (v c.args.number)) (sym less),
      ),
      omega arith,
    )

pub returns-in_default-kind-clause-updates : goal.returns-in_default-kind-clause-updates
returns-in_default-kind-clause-updates c = λ detail count disk settled v volume many o.
    let is = c.in-Some.ensures.stands _ count disk settled v volume in (
      gone_with_name c.in-Some.object.now.status.kind c.args.inodes.now.geometry.inodes (content_of_object disk c.in-Some.object.now) (v c.args.number)
          (by_size detail c.in-Some.object.now.status.kind c.args.inodes.now.geometry.inodes (content_of_object disk c.in-Some.object.now) (v c.args.number) is.stands) c.in_default-kind.not-File,
      omega arith,
    )
