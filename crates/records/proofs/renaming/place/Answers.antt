use Rattle.std.proofs.Common.{◌≡◌, ◌∙◌, ◌≤◌, inl, inr, ℕ, Option, None, Some, IfSome, IfNone, IsTrue, refl, ap, sym, subst, arith}
use Rattle.layout.specs.StateLimits.{limits_of}
use Rattle.layout.specs.Limits.{Sizes}
use Rattle.layout.specs.declared.entry.Entry.{Entry}
use Rattle.model.specs.Records.{edited, rename}
use Rattle.model.specs.Volumes.{Node, Volume, entries, is_directory_node, released, with_entry, with_node}
use Rattle.dirs.specs.Directory.{with_name}
use Rattle.dirs.specs.Room.{piece_count}
use Rattle.inofile.specs.Inodes.{loaded}
use Rattle.records.specs.Entering.{Accepts, EditsIn, PreparesEdit, names_after, pieces_of, with_node_names}
use Rattle.records.specs.Moving.{edit_for}
use Rattle.records.specs.Steps.{StepsSome, TakesUpdate}
use Rattle.records.specs.declared.naming.NameEdit.{NameEdit}
use Rattle.records.specs.declared.naming.NameEdit.TheVariants as edits
use Rattle.records.specs.declared.steps.Update.TheVariants as updates
use Rattle.records.proofs.EnterLaws.{found_directory, takes_accepted}
use Rattle.records.proofs.FileLaws.{alone_some, alone_some_apart, does_two, ready_two}
use Rattle.records.proofs.Looking.{some_at_hand_behind}
use Rattle.records.proofs.MoveLaws.{accepts_move, accepts_other, aside_new, aside_old, beside_new, beside_old, can_rename, few_pieces, moved_across, moved_inside, names_for, room_on, steps_on}
use Rattle.records.proofs.Deciding.{decides, obstructs, reads_in, unread}
use Rattle.records.proofs.ObstacleLaws.{no_place}
use Rattle.records.proofs.PlaceLaws.{leaves_inside, leaves_other}
use Rattle.records.proofs.renaming.place.Goals as goal
use Rattle.model.proofs.ObjectLaws.{node_other}
use Rattle.model.proofs.VolumeLemmas.{enters_directory}

pub returns-in_err-planned : goal.returns-in_err-planned
returns-in_err-planned g c = unread c.from_residual.result c.from_residual.ensures.1 c.in_err-planned.ensures.edit

pub returns-in_default : goal.returns-in_default
returns-in_default g c = obstructs c.in_ok-planned.ensures.edit.looks refl (λ detail disk settled v known volume.
    let entry : Entry = record { number = c.args.entry.now.number; name = c.args.entry.now.name } in
    let old : Entry = record { number = 0; name = c.args.name } in
    let k = c.args.new_parent in
    let s = c.edit_parent.new.inodes in
    absurd (subst (PreparesEdit disk (limits_of s.geometry) (edits.Move c.args.name entry) (v k) (loaded s k)) c.in_default.is (c.in_ok-planned.ensures.edit.found disk settled v known.0)
    (subst (λ (z : Sizes). Accepts (limits_of z) (edits.Move c.args.name entry) (v k)) (sym c.in_ok-planned.ensures.edit.looks.geometry)
    (accepts_move detail disk settled v c.args.parent c.args.name.now entry.number k entry.name.now c.args.replaced known.1 (limits_of c.args.inodes.now.geometry) old entry refl refl volume (c.is_same.ensures.yes c.if-is_same.true)))))

pub returns-then-is_same : goal.returns-then-is_same
returns-then-is_same g c =
    let planned = c.in_ok-planned.ensures in
    let entry : Entry = record { number = c.args.entry.now.number; name = c.args.entry.now.name } in
    let d = c.args.parent in
    let x = c.args.name.now in
    let n = entry.number in
    let k = c.args.new_parent in
    let y = entry.name.now in
    let step = c.args.replaced in
    let s = c.edit_parent.new.inodes in
    let f = names_after (edits.Move c.args.name entry) in
    decides planned.edit.looks
    (ready_two (subst (λ o. IfSome o (λ e. TakesUpdate s k (updates.Names e))) c.in-Some.is planned.ready)
    (alone_some s step c.requires.alone (some_at_hand_behind step planned.edit c.requires.at_hand)) (alone_some_apart k step c.requires.alone))
    (λ detail disk settled v known.
    let moves = known.1 in
    let edit = subst (PreparesEdit disk (limits_of s.geometry) (edits.Move c.args.name entry) (v k) (loaded s k)) c.in-Some.is (planned.edit.found disk settled v known.0) in
    let between = with_node k (with_node_names f (v k)) v in
    let target = entries v k y in
    let same : edited (rename d x k y) v ≡ released target between =
    ap (λ (to : Option ℕ). with_entry k y to (with_entry d x None (released target v))) moves.there
    ∙ moved_inside d k x y (Some n) target v (c.is_same.ensures.yes c.if-is_same.true) (aside_new detail disk settled v d x n k y step moves) in
    does_two (record { number = k; update = updates.Names c.in-Some.edit }) step between 13 6 (with_node_names f (v k), (f, edit.0, refl), refl)
    (subst (StepsSome detail disk settled s between step) (sym same) (steps_on detail disk settled v d x n k y step moves s between (λ m other apart. node_other k m (with_node_names f (v k)) v apart)))
    (beside_new detail disk settled v d x n k y step moves) (omega (arith, edit.2)) (room_on detail disk settled v d x n k y step moves s) (omega arith) tt)
    (λ detail disk settled v known.
    let edit = subst (PreparesEdit disk (limits_of s.geometry) (edits.Move c.args.name entry) (v k) (loaded s k)) c.in-Some.is (planned.edit.found disk settled v known.0) in
    can_rename detail disk settled v d x n k y step known.1 (limits_of c.args.inodes.now.geometry) (found_directory (v k) edit.1.attributes edit.1.names edit.1.is) c.requires.entry.name known.2 (λ none. inl (c.is_same.ensures.yes c.if-is_same.true)))
    (λ detail disk settled v known.
    let edit = subst (PreparesEdit disk (limits_of s.geometry) (edits.Move c.args.name entry) (v k) (loaded s k)) c.in-Some.is (planned.edit.found disk settled v known.0) in
    let accepts = subst (λ (z : Sizes). Accepts (limits_of z) (edits.Move c.args.name entry) (v k)) planned.edit.looks.geometry edit.1 in
    leaves_inside (limits_of c.args.inodes.now.geometry) v d x k y accepts.attributes accepts.names accepts.is (c.is_same.ensures.yes c.if-is_same.true) accepts.takes)
    (λ detail disk settled v known. reads_in detail v (rename d x k y) tt)

pub returns-in_err-both : goal.returns-in_err-both
returns-in_err-both g c = unread c.from_residual-in_err-both.result c.from_residual-in_err-both.ensures.1 c.in_err-both.ensures.both

pub returns-in_default-both : goal.returns-in_default-both
returns-in_default-both g c = obstructs c.in_ok-both.ensures.both.looks refl (λ detail disk settled v known volume.
    let entry : Entry = record { number = c.args.entry.now.number; name = c.args.entry.now.name } in
    let d = c.args.parent in
    let x = c.args.name.now in
    let k = c.args.new_parent in
    let step = c.args.replaced in
    let s = c.edit_both.new.inodes in
    let wanted = c.edit_for-wanted.ensures in
    no_place (limits_of c.args.inodes.now.geometry) detail disk settled v d x entry.number k entry.name.now step known.1 c.requires.entry.name known.2 (c.is_same.ensures.no c.if-is_same.false) (λ can.
    let accepts = accepts_other detail disk settled v d x entry.number k entry.name.now step known.1 (limits_of c.args.inodes.now.geometry) entry refl volume (c.is_same.ensures.no c.if-is_same.false) can in
    subst (λ o. IfNone o (Accepts (limits_of s.geometry) c.edit_for-wanted.result (v k) → IsTrue (is_directory_node (v d)) → ⊥)) c.in_default-both.is (c.in_ok-both.ensures.both.found disk settled v known.0).1
    (subst (λ (z : Sizes). Accepts (limits_of z) c.edit_for-wanted.result (v k)) (sym c.in_ok-both.ensures.both.looks.geometry) (subst (λ (e : NameEdit). Accepts (limits_of c.args.inodes.now.geometry) e (v k)) (sym wanted) accepts)) (enters_directory (v d) x entry.number known.1.there)))

pub returns : goal.returns
returns g c =
    let both = c.in_ok-both.ensures in
    let entry : Entry = record { number = c.args.entry.now.number; name = c.args.entry.now.name } in
    let d = c.args.parent in
    let x = c.args.name.now in
    let n = entry.number in
    let k = c.args.new_parent in
    let y = entry.name.now in
    let step = c.args.replaced in
    let s = c.edit_both.new.inodes in
    let other = c.is_same.ensures.no c.if-is_same.false in
    let wanted = c.edit_for-wanted.ensures in
    let f = with_name y (Some n) in
    let h = with_name x None in
    let ready = subst (λ o. IfSome o (λ e. TakesUpdate s k (updates.Names e.0) × TakesUpdate s d (updates.Names e.1))) c.in-Some-both.is both.ready in
    decides both.both.looks
    (record {
      first = ready.0;
      next = ready.1;
      last = alone_some s step c.requires.alone (some_at_hand_behind step both.both c.requires.at_hand);
      next_apart = other;
      last_apart = alone_some_apart k step c.requires.alone;
      apart = alone_some_apart d step c.requires.alone;
    })
    (λ detail disk settled v known.
    let moves = known.1 in
    let edits_are = subst (λ o. IfSome o (λ e. PreparesEdit disk (limits_of s.geometry) c.edit_for-wanted.result (v k) (loaded s k) (Some e.0) × EditsIn disk s.geometry.inodes h (v d) (loaded s d) e.1 × (piece_count e.1 ≤ 1))) c.in-Some-both.is
    (both.both.found disk settled v known.0).0 in
    let added = subst (λ j. EditsIn disk s.geometry.inodes j (v k) (loaded s k) c.in-Some-both.added) (ap names_after wanted ∙ names_for entry step) edits_are.0.0 in
    let between = with_node k (with_node_names f (v k)) v in
    let stays : between d ≡ v d = node_other k d (with_node_names f (v k)) v other in
    let second = with_node d (with_node_names h (between d)) between in
    let target = entries v k y in
    record {
      between = between;
      second = second;
      first = (with_node_names f (v k), (f, added, refl), refl);
      next = (with_node_names h (between d), (h, subst (λ (o : Option Node). EditsIn disk s.geometry.inodes h o (loaded s d) c.in-Some-both.removed) (sym stays) edits_are.1, refl), refl);
      last =
          subst (λ (u : Volume). StepsSome detail disk settled s second step u)
          (sym (
          ap (λ (to : Option ℕ). with_entry k y to (with_entry d x None (released target v))) moves.there
          ∙ moved_across d k x y (Some n) target v other (aside_new detail disk settled v d x n k y step moves) (aside_old detail disk settled v d x n k y step moves)
          ))
          (steps_on detail disk settled v d x n k y step moves s second (λ m not_old not_new. node_other d m (with_node_names h (between d)) between not_old ∙ node_other k m (with_node_names f (v k)) v not_new));
      next_beside = other;
      last_beside = beside_new detail disk settled v d x n k y step moves;
      beside = beside_old detail disk settled v d x n k y step moves;
      firsts = 10;
      nexts = 7;
      lasts = 6;
      first_room = omega (arith, edits_are.0.2, ap pieces_of wanted, few_pieces entry step);
      next_room = omega (arith, edits_are.2);
      last_room = room_on detail disk settled v d x n k y step moves s;
      within = omega arith;
      knows = tt;
    })
    (λ detail disk settled v known.
    let edits_are = subst (λ o. IfSome o (λ e. PreparesEdit disk (limits_of s.geometry) c.edit_for-wanted.result (v k) (loaded s k) (Some e.0) × EditsIn disk s.geometry.inodes h (v d) (loaded s d) e.1 × (piece_count e.1 ≤ 1))) c.in-Some-both.is
    (both.both.found disk settled v known.0).0 in
    let accepts = subst (λ (z : Sizes). Accepts (limits_of z) c.edit_for-wanted.result (v k)) both.both.looks.geometry edits_are.0.1 in
    can_rename detail disk settled v d x n k y step known.1 (limits_of c.args.inodes.now.geometry) (found_directory (v k) accepts.attributes accepts.names accepts.is) c.requires.entry.name known.2
    (λ none. inr (takes_accepted (limits_of c.args.inodes.now.geometry) v k entry c.requires.entry.name (subst (λ (e : NameEdit). Accepts (limits_of c.args.inodes.now.geometry) e (v k)) (wanted ∙ ap (edit_for entry) none) accepts))))
    (λ detail disk settled v known.
    let edits_are = subst (λ o. IfSome o (λ e. PreparesEdit disk (limits_of s.geometry) c.edit_for-wanted.result (v k) (loaded s k) (Some e.0) × EditsIn disk s.geometry.inodes h (v d) (loaded s d) e.1 × (piece_count e.1 ≤ 1))) c.in-Some-both.is
    (both.both.found disk settled v known.0).0 in
    let accepts = subst (λ (z : Sizes). Accepts (limits_of z) c.edit_for-wanted.result (v k)) both.both.looks.geometry edits_are.0.1 in
    leaves_other (limits_of c.args.inodes.now.geometry) v d x k step entry other (subst (λ (e : NameEdit). Accepts (limits_of c.args.inodes.now.geometry) e (v k)) wanted accepts))
    (λ detail disk settled v known. reads_in detail v (rename d x k y) tt)
