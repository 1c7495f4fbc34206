use Rattle.std.proofs.Common.{◌≡◌, ◌∙◌, ◌+◌, ◌<◌, ◌≤◌, suc, length, sym, subst, arith, List, ℕ}
use Rattle.std.proofs.lemmas.List.{get_or_default}
use Rattle.layout.specs.declared.pointer.Pointer.TheVariants.{Block, Hole}
use Rattle.images.specs.BlockMap.{IsSystem}
use Rattle.images.specs.Roots.{slot}
use Rattle.checker.proofs.SystemLaws.{IsSystemTo, MarksSystem, of_roots, of_slot, roots_alone, slot_before, slot_more, slots_all, system_more, system_none, system_same}
use Rattle.checker.proofs.map.mark_system.Goals as goal
use Rattle.checker.proofs.map.mark_system.Goals.{in-Block, in_default}

pub loop-k-init : goal.loop-k-init
loop-k-init c =
    let first : MarksSystem c.args.marks.now c.mark.new.self (λ b. b ≡ c.new.result) =
    system_more c.args.marks.now c.args.marks.now c.mark.new.self c.new.result (λ b. ⊥) (λ b. b ≡ c.new.result) (system_none c.args.marks.now) c.mark.ensures.length
    (record { here = c.mark.ensures.here; others = c.mark.ensures.others }) (λ b never. absurd never) (λ i. c.new.result) (λ b other is. absurd (other is)) in
    system_more c.args.marks.now c.mark.new.self c.mark-2.new.self c.new-2.result (λ b. b ≡ c.new.result) (IsSystemTo c.args.root.now 0) first c.mark-2.ensures.length
    (record { here = c.mark-2.ensures.here; others = c.mark-2.ensures.others }) (λ b is. of_roots (omega (arith, is, c.new.ensures))) (of_roots (omega (arith, c.new-2.ensures)))
    (λ b other is. roots_alone c.args.root.now b c.new.result c.new-2.result c.new.ensures c.new-2.ensures other is)

pub loop-k-preserved : goal.loop-k-preserved
loop-k-preserved c =
    let r = c.args.root.now in
    let k = c.loop-k.k in
    let within : c.loop-k.k < length c.args.root.now.snapshots = omega (arith, c.requires.root.slots, c.loop-k-test.true) in elim c.match-root-k.branch [
      | in-Block w ↦
          let there : slot r (suc k) ≡ Block w.in-Block.block = get_or_default r.snapshots k Hole _ within ∙ w.in-Block.is in
          subst (λ (m : List ℕ). MarksSystem c.args.marks.now m (IsSystemTo r (k + 1))) (sym w.marks-is)
          (system_more c.args.marks.now c.loop-k.marks w.mark-in-Block.new.self w.in-Block.block (IsSystemTo r k) (IsSystemTo r (k + 1)) c.loop-k.invariant w.mark-in-Block.ensures.length
          (record { here = w.mark-in-Block.ensures.here; others = w.mark-in-Block.ensures.others }) (λ b is. slot_more r k b is) (of_slot k (omega arith) there)
          (λ b other is. slot_before r k b (λ at. let same : b ≡ w.in-Block.block = cc in other same) is))
      | in_default w ↦ subst (λ (m : List ℕ). MarksSystem c.args.marks.now m (IsSystemTo r (k + 1))) (sym w.marks-is)
          (system_same c.args.marks.now c.loop-k.marks (IsSystemTo r k) (IsSystemTo r (k + 1)) c.loop-k.invariant (λ b is. slot_more r k b is)
          (λ b is. slot_before r k b (λ at. w.in_default.not-Block b (sym (get_or_default r.snapshots k Hole _ within) ∙ at)) is))
    ]

pub returns-clause-system : goal.returns-clause-system
returns-clause-system c b =
    let most : length c.args.root.now.snapshots ≤ c.loop-k.k = omega (arith, c.requires.root.slots, c.loop-k-test.false) in
    (system_same c.args.marks.now c.loop-k.marks (IsSystemTo c.args.root.now c.loop-k.k) (IsSystem c.args.root.now) c.loop-k.invariant
    (λ x is. (slots_all c.args.root.now c.loop-k.k x most).0 is) (λ x is. (slots_all c.args.root.now c.loop-k.k x most).1 is)).system b
