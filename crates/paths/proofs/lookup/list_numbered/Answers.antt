use Rattle.std.proofs.Common.{rules, ◌≡◌, ◌≢◌, ◌∙◌, ◌/◌, ℕ, All, IfOk, sym, ap, subst}
use Rattle.dirs.specs.Directory.{AreDirectoryBlocks}
use Rattle.dirs.specs.Listings.{IsNumberedListing}
use Rattle.dirs.specs.declared.directory.NumberedName.{NumberedName}
use Rattle.entries.specs.Entries.{IsObjectNumber}
use Rattle.inode.specs.Files.{file_block}
use Rattle.inofile.specs.Objects.{IsObjectIn}
use Rattle.layout.specs.declared.kind.Kind.TheVariants as kinds
use Rattle.model.specs.Volumes.{entries, names_in}
use Rattle.paths.specs.Listed.{IsListedWithin}
use Rattle.paths.proofs.LookingUp.{fails_into, finds_into}
use Rattle.paths.proofs.Objects.{listed_within, none_numbered, none_within, without_names, of_names, blocks_of, can_read}
use Rattle.paths.proofs.Looks.{looks_reads}
use Rattle.paths.proofs.lookup.list_numbered.Goals as goal

pub returns-in_err-load : goal.returns-in_err-load
returns-in_err-load g c = fails_into c.from_residual.result c.from_residual.ensures.1 c.in_err-load.ensures.looks c.load.ensures.loads (λ detail disk settled v stands. c.in_err-load.ensures.damaged {detail = detail} disk settled v stands)

pub returns-in_default : goal.returns-in_default
returns-in_default g c = finds_into c.in_ok-load.ensures.looks c.load.ensures.loads (subst (IsListedWithin c.args.inodes.now.geometry.inodes) (sym c.new.ensures.items) (none_within c.args.inodes.now.geometry.inodes)) (λ detail disk settled v stands.
    let none = none_numbered (entries v c.args.directory) (λ x. ap (λ node. names_in node x) (c.in_default.ensures.stands_for_none _ _ disk settled v (c.load.ensures.looks.kept disk settled v stands).volume)) in
    subst (IsNumberedListing (entries v c.args.directory)) (sym c.new.ensures.items) none)

pub returns-then-ne : goal.returns-then-ne
returns-then-ne g c = finds_into c.in_ok-load.ensures.looks c.load.ensures.loads (subst (IsListedWithin c.args.inodes.now.geometry.inodes) (sym c.new-then-ne.ensures.items) (none_within c.args.inodes.now.geometry.inodes)) (λ detail disk settled v stands.
    let o = c.in-Some.object.now in
    let now = c.load.ensures.looks.kept disk settled v stands in
    let is_object = c.in-Some.ensures.stands _ _ disk settled v now.volume in
    let other : o.status.kind ≢ kinds.Directory = search rules in
    let none = none_numbered (entries v c.args.directory) (without_names disk c.load.new.inodes.geometry.inodes (settled c.args.directory) o (v c.args.directory) is_object other) in
    subst (IsNumberedListing (entries v c.args.directory)) (sym c.new-then-ne.ensures.items) none)

pub returns : goal.returns
returns g c =
    let same : c.load.new.inodes.geometry.inodes ≡ c.inodes-count.result = sym (c.inodes-count.ensures.value ∙ ap (λ s. s.inodes) c.geometry.ensures) in
    let kind : c.in-Some.object.now.status.kind ≡ kinds.Directory = search rules in
    record {
      looks = looks_reads c.in_ok-load.ensures.looks c.list_numbered.ensures.reads;
      loads = c.load.ensures.loads;
      within =
          listed_within c.args.inodes.now.geometry.inodes c.list_numbered.result c.list_numbered.ensures.ordered
          (subst (λ (n : ℕ). IfOk c.list_numbered.result (λ l. All (λ (x : NumberedName). IsObjectNumber n x.number) l.items)) (sym same ∙ ap (λ s. s.inodes) c.in_ok-load.ensures.looks.geometry) c.list_numbered.ensures.ordinary);
      found = λ {detail} disk settled v stands.
          let o = c.in-Some.object.now in
          let now = c.load.ensures.looks.kept disk settled v stands in
          let is_object = c.in-Some.ensures.stands _ _ disk settled v now.volume in
          let counted = subst (λ n. IsObjectIn detail disk n (settled c.args.directory) o (v c.args.directory)) same is_object in
          of_names disk c.inodes-count.result (settled c.args.directory) o (v c.args.directory) counted (λ names. IfOk c.list_numbered.result (λ l. IsNumberedListing names l.items)) kind (λ names are. c.list_numbered.ensures.listed disk names now.shows are);
      damaged = λ {detail} disk settled v stands is.
          let o = c.in-Some.object.now in
          let now = c.load.ensures.looks.kept disk settled v stands in
          let is_object = c.in-Some.ensures.stands _ _ disk settled v now.volume in
          let blocks = blocks_of disk c.load.new.inodes.geometry.inodes (settled c.args.directory) o (v c.args.directory) is_object kind in
          c.list_numbered.ensures.damaged disk now.shows is
          (λ i below. c.objects_stand_in_their_grammar.ensures _ _ disk settled c.load.new.inodes v c.args.directory i o (v c.args.directory) now.volume is_object (can_read disk c.load.new.inodes.geometry.inodes (settled c.args.directory) o (v c.args.directory) is_object kind i))
          (subst (λ n. AreDirectoryBlocks n (o.file.size / 4096) (file_block disk o.file)) same blocks);
    }
