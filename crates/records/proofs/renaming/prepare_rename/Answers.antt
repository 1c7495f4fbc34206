use Rattle.std.proofs.Common.{◌≡◌, ◌∙◌, ℕ, List, Option, None, Some, Err, IsSome, IsTrue, refl, ap, sym, subst}
use Rattle.std.proofs.lemmas.Bool.{both_ways, false≢true}
use Rattle.layout.specs.StateLimits.{limits_of}
use Rattle.layout.specs.Limits.{Sizes}
use Rattle.layout.specs.declared.inode.Inode.{Inode}
use Rattle.model.specs.Volumes.{Node, Volume, entries, is_directory_node, names_in}
use Rattle.model.specs.declared.errno.Errno.TheVariants.{DIRFULL}
use Rattle.model.proofs.OptionLaws.{none_some}
use Rattle.images.specs.Soundness.{Detail}
use Rattle.paths.specs.Standing.{StandsIn}
use Rattle.paths.proofs.Looks.{looks_more}
use Rattle.records.specs.Moving.{MovesOver}
use Rattle.records.specs.Obstacles.{BarsMove}
use Rattle.records.specs.Preparing.{IsKnownVolume}
use Rattle.records.specs.declared.failure.Failure.TheVariants.{Read}
use Rattle.records.proofs.DetailLaws.{graph_of}
use Rattle.records.proofs.BelowLaws.{closed_below, never_around}
use Rattle.records.proofs.Deciding.{follows, obstructs, stops, unread}
use Rattle.records.proofs.Recording.{bars, goes_on, hinders}
use Rattle.records.proofs.StandLaws.{no_look}
use Rattle.records.proofs.renaming.prepare_rename.Goals as goal

pub returns-then-not-is_number : goal.returns-then-not-is_number
returns-then-not-is_number g c = bars (obstructs no_look refl (λ detail disk settled v sure volume.
    ap (λ (o : Option Node). names_in o c.args.name.now) (c.is_number.ensures.no c.if-not-is_number.true detail v sure.1)))

pub returns-in_err-found : goal.returns-in_err-found
returns-in_err-found g c = hinders _ c.from_residual.result c.from_residual.ensures.1 (unread (Err (Read _)) refl c.in_err-found.ensures.number)

pub returns-in_default : goal.returns-in_default
returns-in_default g c = bars (obstructs c.in_ok-found.ensures.number.looks refl (λ detail disk settled v sure volume.
    sym (c.in_ok-found.ensures.number.found disk settled v sure.0) ∙ c.in_default.is))

-- nothing has a number that is none
pub returns-then-not-is_number-2 : goal.returns-then-not-is_number-2
returns-then-not-is_number-2 g c =
    let found = c.in_ok-found.ensures.number in
    bars (obstructs found.looks refl (λ detail disk settled v sure volume.
    let x = c.args.name.now in
    let n = c.in-Some.number in
    let k = c.args.new_parent in
    let y = c.args.new_name.now in
    let there : entries v c.args.parent x ≡ Some n = sym (found.found disk settled v sure.0) ∙ c.in-Some.is in
    let nothing = c.is_number-2.ensures.no c.if-not-is_number-2.true detail v (subst (λ (s : Sizes). IsKnownVolume detail (limits_of s) v) (sym found.looks.geometry) sure.1) in
    let graph = graph_of detail (limits_of c.args.inodes.now.geometry) v sure.1 in
    let none : entries v k y ≡ None = ap (λ (o : Option Node). names_in o y) nothing in (
      n,
      there,
      subst (λ (o : Option ℕ). BarsMove (limits_of c.args.inodes.now.geometry) v c.args.parent n k y o DIRFULL) (sym none) (
        (λ at. none_some at),
        (λ below.
            let some = closed_below (entries v) (λ j. IsSome (v j)) (λ d m some child. graph.naming.used d m child.0 child.1) n k (graph.naming.used c.args.parent n x there) below in
            false≢true (subst IsSome nothing some)),
        (
          (λ same. none_some (sym (ap (λ (j : ℕ). entries v j x) same ∙ ap (λ (o : Option Node). names_in o x) nothing) ∙ there)),
          (λ takes. false≢true (subst (λ (o : Option Node). IsTrue (is_directory_node o)) nothing takes.directory)),
        ),
      ),
    )))

pub returns-in_err-below : goal.returns-in_err-below
returns-in_err-below g c =
    hinders _ c.from_residual-in_err-below.result c.from_residual-in_err-below.ensures.1
    (follows c.in_ok-found.ensures.number.looks
    (stops (Err (Read _)) refl c.in_err-below.ensures.looks (λ detail disk settled v stands reads. c.in_err-below.ensures.damaged detail disk settled v stands))
    (λ detail. c.in_ok-found.ensures.number.looks.kept {detail = detail}) (λ detail disk settled v sure. c.in_ok-found.ensures.number.looks.kept {detail = detail} disk settled v sure.0))

pub returns-then-below : goal.returns-then-below
returns-then-below g c =
    let found = c.in_ok-found.ensures.number in
    bars (obstructs (looks_more found.looks c.in_ok-below.ensures.looks) refl (λ detail disk settled v sure volume.
    let n = c.in-Some.number in
    let k = c.args.new_parent in
    let there : entries v c.args.parent c.args.name.now ≡ Some n = sym (found.found disk settled v sure.0) ∙ c.in-Some.is in
    let below = (c.in_ok-below.ensures.below detail c.args.name.now disk settled v (found.looks.kept disk settled v sure.0)
    (subst (λ (s : Sizes). IsKnownVolume detail (limits_of s) v) (sym found.looks.geometry) sure.1) there).0 c.if-below.true in
    (n, there, ((λ at. never_around v (graph_of detail (limits_of c.args.inodes.now.geometry) v sure.1) n k c.args.new_name.now at below), below))))

pub returns-in_err-target : goal.returns-in_err-target
returns-in_err-target g c =
    let before = looks_more c.in_ok-found.ensures.number.looks c.in_ok-below.ensures.looks in
    hinders _ c.from_residual-in_err-target.result c.from_residual-in_err-target.ensures.1
    (follows before (unread (Err (Read _)) refl c.in_err-target.ensures.number)
    (λ detail. before.kept {detail = detail}) (λ detail disk settled v sure. before.kept {detail = detail} disk settled v sure.0))

pub returns : goal.returns
returns g c =
    let found = c.in_ok-found.ensures.number in
    let target = c.in_ok-target.ensures.number in
    let before = looks_more found.looks c.in_ok-below.ensures.looks in
    let known = looks_more before target.looks in
    let over = λ (detail : Detail) (disk : ℕ → List ℕ) (settled : ℕ → Inode) (v : Volume) (stands : StandsIn detail g.B.Blocks disk settled v c.args.blocks.now c.args.inodes.now).
    let o : MovesOver v c.args.parent c.args.name.now c.in-Some.number c.args.new_parent c.args.new_name.now c.in_ok-target.target = record {
      there = sym (found.found disk settled v stands) ∙ c.in-Some.is;
      over = sym (target.found disk settled v (before.kept disk settled v stands));
    } in
    o in
    goes_on known c.prepare_move.ensures
    (λ detail disk settled v stands. (known.kept disk settled v stands, over detail disk settled v stands))
    (λ detail disk settled v sure.
    let moves = over detail disk settled v sure.0 in
    let told = c.in_ok-below.ensures.below detail c.args.name.now disk settled v (found.looks.kept disk settled v sure.0)
    (subst (λ (s : Sizes). IsKnownVolume detail (limits_of s) v) (sym found.looks.geometry) sure.1) moves.there in
    (known.kept disk settled v sure.0, moves, λ is. both_ways c.in_ok-below.below c.if-below.false (told.1 is)))
