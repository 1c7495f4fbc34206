use Rattle.std.proofs.Common.{rules, ℕ, ◌∙◌, sym, ap, subst}
use Rattle.std.proofs.lemmas.Bool.{false≢true}
use Rattle.layout.specs.declared.inode.Inode.{Inode}
use Rattle.images.specs.Sizes.{StandsForIn}
use Rattle.model.specs.Volumes.{is_orphan}
use Rattle.inofile.specs.Settled.{held_content}
use Rattle.inofile.proofs.VolumeLaws.{unknown_stands}
use Rattle.replay.proofs.Errors.{undamaged}
use Rattle.replay.proofs.orphans.has_orphan.Goals as goal

pub returns-then-not-is_taken-clause-tells : goal.returns-then-not-is_taken-clause-tells
returns-then-not-is_taken-clause-tells g c detail disk settled v shows stands =
    sym (ap is_orphan (c.is_taken.ensures.free detail (g.B.Blocks.count c.args.blocks.now) disk settled v stands (search rules)))

pub returns-then-is_known-clause-tells : goal.returns-then-is_known-clause-tells
returns-then-is_known-clause-tells g c detail disk settled v shows stands =
    c.is_orphan.ensures _ (g.B.Blocks.count c.args.blocks.now) disk settled v stands ∙ ap (λ (k : ℕ). is_orphan (v k)) c.new.ensures

pub returns-in_err-inode-clause-tells : goal.returns-in_err-inode-clause-tells
returns-in_err-inode-clause-tells g c detail disk settled v shows stands =
    undamaged _ c.from_residual.result (search rules) (λ is. c.in_err-inode.ensures.damaged detail disk settled shows (search rules) stands.inodes)

pub returns-clause-tells : goal.returns-clause-tells
returns-clause-tells g c detail disk settled v shows stands =
    let s = c.args.inodes.now in
    let n = c.args.number in
    c.is_orphan_inode.ensures detail disk s.geometry.inodes (v n)
    (subst (λ (i : Inode). StandsForIn detail s.geometry.inodes (held_content disk i) (v n)) (sym (c.in_ok-inode.ensures.read detail disk settled shows stands.inodes))
    (unknown_stands detail disk s.geometry.inodes (settled n) _ (v n) (λ known. false≢true (sym c.if-is_known.false ∙ c.is_known.ensures.1 known)) (stands.objects n)))
