use Rattle.std.proofs.Common.{rules, ◌∙◌, ◌≡◌, sym, subst, ap, refl, Some}
use Rattle.std.proofs.lemmas.Bool.{false≢true}
use Rattle.layout.specs.declared.inode.Inode.{Inode}
use Rattle.images.specs.Nodes.{held}
use Rattle.images.specs.Sizes.{StandsForIn}
use Rattle.images.specs.Soundness.{IsHeldFile, IsOrdinary}
use Rattle.inofile.specs.Settled.{held_content, settled_content}
use Rattle.inofile.specs.declared.inode_file.ObjectSlot.TheVariants.{Loaded}
use Rattle.inofile.proofs.VolumeLaws.{all_stand, load_stands, load_same, unknown_stands}
use Rattle.inofile.proofs.RoomLaws.{set_needs}
use Rattle.inofile.proofs.inode_file.InodeFile.load.Goals as goal
use Rattle.images.proofs.KindLaws.{ordinary_kind}

pub returns-in-Ok-clause-volume : goal.returns-in-Ok-clause-volume
returns-in-Ok-clause-volume g c = λ detail disk settled v shows is.
    let same : c.in_ok-inode.inode ≡ settled c.args.number = c.in_ok-inode.ensures.read _ disk settled shows is.inodes in
    let sound : IsHeldFile detail c.args.self.now.geometry (held disk c.in_ok-inode.inode) =
    subst (λ (i : Inode). IsHeldFile detail c.args.self.now.geometry (held disk i)) (sym same) (is.inodes.sound c.args.number) in
    let ordinary : IsOrdinary c.in_ok-inode.inode.kind =
    subst (λ (i : Inode). IsOrdinary i.kind) (sym same) (ordinary_kind c.args.number _ c.requires.low (is.inodes.fits c.args.number)) in
    let found : StandsForIn detail c.args.self.now.geometry.inodes (held_content disk c.in_ok-inode.inode) (v c.args.number) =
    subst (λ (i : Inode). StandsForIn detail c.args.self.now.geometry.inodes (held_content disk i) (v c.args.number)) (sym same)
    (unknown_stands detail disk c.args.self.now.geometry.inodes (settled c.args.number) _ (v c.args.number)
    (λ known. false≢true (sym c.if-is_known.false ∙ c.is_known.ensures.1 known)) (is.objects c.args.number)) in
    record {
      inodes = is.inodes;
      mapped = is.mapped;
      own = is.own;
      objects = all_stand detail disk c.args.self.now.geometry.inodes settled c.args.self.now.slots c.insert.new.self c.args.number (Some (Loaded c.in_ok-object.object)) c.in-Ok.ensures.updates
          v v (λ n ne. refl) (λ n ne. is.objects n)
          (load_stands detail disk c.args.self.now.geometry.inodes (settled c.args.number) c.in_ok-inode.inode c.in_ok-object.object (v c.args.number) same
          (c.in_ok-object.ensures.as_settled _ c.args.self.now.geometry disk sound)
          (c.in_ok-object.ensures.stands _ c.args.self.now.geometry disk c.args.self.now.geometry.inodes (v c.args.number) sound ordinary found));
    }

pub returns-in-Ok-clause-same : goal.returns-in-Ok-clause-same
returns-in-Ok-clause-same g c = λ detail disk settled shows are.
    let same : c.in_ok-inode.inode ≡ settled c.args.number = c.in_ok-inode.ensures.read _ disk settled shows are in
    let sound : IsHeldFile detail c.args.self.now.geometry (held disk c.in_ok-inode.inode) =
    subst (λ (i : Inode). IsHeldFile detail c.args.self.now.geometry (held disk i)) (sym same) (are.sound c.args.number) in
    load_same disk settled c.args.self.now.slots c.insert.new.self c.args.number c.in_ok-object.object c.in-Ok.ensures.updates
    (λ known. false≢true (sym c.if-is_known.false ∙ c.is_known.ensures.1 known))
    (c.in_ok-object.ensures.content _ c.args.self.now.geometry disk sound ∙ ap (settled_content disk) same)

pub returns-in_err-inode-clause-damaged : goal.returns-in_err-inode-clause-damaged
returns-in_err-inode-clause-damaged g c = λ detail disk settled shows bad are. c.in_err-inode.ensures.damaged _ disk settled shows (search rules) are

pub returns-in-Ok-clause-needs : goal.returns-in-Ok-clause-needs
returns-in-Ok-clause-needs g c = set_needs c.args.self.now.slots c.insert.new.self c.args.number (Some (Loaded c.in_ok-object.object)) refl c.in-Ok.ensures.updates
