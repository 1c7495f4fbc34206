use Rattle.std.proofs.Common.{◌≡◌, ◌∙◌, ℕ, List, inl, inr, ap, refl, sym, subst}
use Rattle.layout.specs.StateLimits.{limits_of}
use Rattle.model.specs.Records.{Applies, Change, rename, stamped}
use Rattle.model.specs.Volumes.{Volume, entries}
use Rattle.model.proofs.OptionLaws.{some_or_none}
use Rattle.records.specs.Moving.{MovesOver}
use Rattle.records.specs.Obstacles.{IsObstacle}
use Rattle.records.proofs.StandLaws.{no_look}
use Rattle.calls.proofs.PrepareSteps.{granted_knowing, hindered, refuses, whatever}
use Rattle.calls.proofs.preparing.rename.record_move.Goals as goal

-- what is no name isn't there
pub returns-in_default : goal.returns-in_default
returns-in_default g c = whatever (refuses no_look refl (λ disk settled v table stands volume mounted names outside. elim (some_or_none (entries v c.args.parent c.args.name.items)) [
  | inl there ↦ absurd (c.in_default.ensures.none (volume.graph.naming.names c.args.parent c.args.name.items there))
  | inr none ↦ none
]))

pub returns-in_default-new : goal.returns-in_default-new
returns-in_default-new g c = whatever (refuses no_look refl (λ disk settled v table stands volume mounted names outside. c.in_default-new.ensures.none))

pub returns-in_err-prepared : goal.returns-in_err-prepared
returns-in_err-prepared g c =
    let d = c.args.parent in
    let k = c.args.new_parent in
    let x = c.deref.ensures.value ∙ c.in-Some.ensures.some in
    let y = c.deref-2.ensures.value ∙ c.in-Some-new.ensures.some in
    let said = λ (z w : List ℕ). stamped c.args.now (rename d z k w) in
    let same : said c.deref.result.now c.deref-2.result.now ≡ said c.args.name.items c.args.new_name.items =
    ap (λ (z : List ℕ). said z c.deref-2.result.now) x ∙ ap (said c.args.name.items) y in
    let over = λ (v : Volume) (names : MovesOver v d c.args.name.items c.args.number k c.args.new_name.items c.args.target).
    subst (λ (z : List ℕ). MovesOver v d z c.args.number k c.deref-2.result.now c.args.target) (sym x)
    (subst (λ (w : List ℕ). MovesOver v d c.args.name.items c.args.number k w c.args.target) (sym y) names) in
    whatever (hindered _ c.from_residual.result c.from_residual.ensures.1 c.in_err-prepared.ensures (λ disk settled v table stands volume errno first names outside.
    subst (λ (h : Change). IsObstacle (limits_of c.args.inodes.now.geometry) v h errno) same (first (stands, over v names, outside))))

pub returns : goal.returns
returns g c =
    let d = c.args.parent in
    let k = c.args.new_parent in
    let x = c.deref.ensures.value ∙ c.in-Some.ensures.some in
    let y = c.deref-2.ensures.value ∙ c.in-Some-new.ensures.some in
    let said = λ (z w : List ℕ). stamped c.args.now (rename d z k w) in
    let same : said c.deref.result.now c.deref-2.result.now ≡ said c.args.name.items c.args.new_name.items =
    ap (λ (z : List ℕ). said z c.deref-2.result.now) x ∙ ap (said c.args.name.items) y in
    let new_name = c.in-Some-new.new_name.bytes.items in
    let says : said c.in-Some.name.bytes.items new_name ≡ said c.deref.result.now c.deref-2.result.now =
    ap (λ (z : List ℕ). said z new_name) (sym c.deref.ensures.value) ∙ ap (said c.deref.result.now) (sym c.deref-2.ensures.value) in
    let over = λ (v : Volume) (names : MovesOver v d c.args.name.items c.args.number k c.args.new_name.items c.args.target).
    subst (λ (z : List ℕ). MovesOver v d z c.args.number k c.deref-2.result.now c.args.target) (sym x)
    (subst (λ (w : List ℕ). MovesOver v d c.args.name.items c.args.number k w c.args.target) (sym y) names) in
    rw c.note_move.ensures (granted_knowing _ c.in_ok-prepared.ensures says (refl, tt) (λ disk settled v stands names. (stands, over v names))
    (λ disk settled v table stands volume names applies outside. (
      says ∙ same,
      subst (Applies (limits_of c.args.inodes.now.geometry) v) same (applies (stands, over v names, outside)),
    )))
