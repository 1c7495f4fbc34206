use Rattle.std.proofs.Common.{◌∙◌, ℕ, refl, sym, subst}
use Rattle.std.proofs.lemmas.Bool.{false≢true}
use Rattle.layout.specs.StateLimits.{limits_of}
use Rattle.model.specs.Finding.{here}
use Rattle.model.specs.Records.{IsBelow}
use Rattle.model.specs.Volumes.{entries}
use Rattle.records.specs.Moving.{MovesOver}
use Rattle.calls.specs.Rename.{MovesName}
use Rattle.calls.proofs.PrepareSteps.{follows_knowing, refuses, stops, whatever}
use Rattle.calls.proofs.preparing.rename.move_name.Goals as goal

pub returns-in_err-below : goal.returns-in_err-below
returns-in_err-below g c = whatever (stops c.from_residual.result c.from_residual.ensures.1 c.in_err-below.ensures.looks c.in_err-below.ensures.damaged)

pub returns-then-below : goal.returns-then-below
returns-then-below g c = whatever (refuses c.in_ok-below.ensures.looks refl (λ disk settled v table stands volume mounted names moves. (
  c.args.number,
  names.there,
  (moves.other, (c.in_ok-below.ensures.below disk settled v stands c.args.name.items volume names.there moves.tells).0 c.if-below.true),
)))

pub returns : goal.returns
returns g c =
    let d = c.args.parent in
    let x = c.args.name.items in
    let n = c.args.number in
    let y = c.args.new_name.items in
    let is = c.here-new_parent.ensures in
    follows_knowing c.in_ok-below.ensures.looks c.record_move.ensures
    (λ disk settled v stands names. subst (λ (k : ℕ). MovesOver v d x n k y c.args.target) (sym is) names)
    (λ disk settled v table stands volume mounted names told records moves.
    let outside : IsBelow (entries v) n (here c.args.trail) → ⊥ = λ below. false≢true (sym c.if-below.false ∙ (c.in_ok-below.ensures.below disk settled v stands x volume names.there moves.tells).1 below) in
    subst (λ (k : ℕ). MovesName (limits_of c.args.inodes.now.geometry) c.args.now v d x k y told) is (records (subst (λ (k : ℕ). IsBelow (entries v) n k → ⊥) (sym is) outside)))
