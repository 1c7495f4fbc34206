use Rattle.std.proofs.Common.{Option, Some, IfSome, IsTrue, refl, ap, sym, subst, ◌∙◌, arith}
use Rattle.std.proofs.lemmas.Bool.{false≢true}
use Rattle.layout.specs.StateLimits.{limits_of}
use Rattle.layout.specs.Limits.{Sizes}
use Rattle.layout.specs.declared.entry.Entry.{Entry}
use Rattle.model.specs.Records.{TakesName, node_of}
use Rattle.model.specs.Volumes.{Node, is_directory_node, with_node}
use Rattle.inofile.specs.Inodes.{loaded}
use Rattle.paths.proofs.Looks.{looks_more, looks_ok}
use Rattle.records.specs.Entering.{PreparesEdit, names_after, with_node_names}
use Rattle.records.specs.Steps.{TakesUpdate}
use Rattle.records.specs.declared.naming.NameEdit.TheVariants as edits
use Rattle.records.specs.declared.steps.Update.TheVariants as updates
use Rattle.records.proofs.EnterLaws.{accepts_entry, found_directory, names_set, put_volume, takes_accepted, vacant_apart}
use Rattle.records.proofs.Failures.{damaged_read, looks_read}
use Rattle.records.proofs.Looking.{at_hand_behind}
use Rattle.records.proofs.plans.plan_new.Goals as goal

pub returns-then-not-is_number-clause-refused : goal.returns-then-not-is_number-clause-refused
returns-then-not-is_number-clause-refused g c = λ detail disk settled v stands volume takes.
    false≢true (subst (λ (o : Option Node). IsTrue (is_directory_node o)) (c.is_number.ensures.no c.if-not-is_number.true _ v volume) takes.directory)

pub returns-in_err-load_to_change-clause-looks : goal.returns-in_err-load_to_change-clause-looks
returns-in_err-load_to_change-clause-looks g c = looks_read c.from_residual.result c.from_residual.ensures.1 c.in_err-load_to_change.ensures.looks

pub returns-in_err-load_to_change-clause-damaged : goal.returns-in_err-load_to_change-clause-damaged
returns-in_err-load_to_change-clause-damaged g c = λ detail disk settled v stands. damaged_read c.from_residual.result c.from_residual.ensures.1 (c.in_err-load_to_change.ensures.damaged {detail = detail} disk settled v stands)

pub returns-in_err-planned-clause-looks : goal.returns-in_err-planned-clause-looks
returns-in_err-planned-clause-looks g c =
    looks_read c.from_residual-in_err-planned.result c.from_residual-in_err-planned.ensures.1 (looks_more c.in_ok-load_to_change.ensures.looks c.in_err-planned.ensures.edit.looks)

pub returns-in_err-planned-clause-damaged : goal.returns-in_err-planned-clause-damaged
returns-in_err-planned-clause-damaged g c = λ detail disk settled v stands. damaged_read c.from_residual-in_err-planned.result c.from_residual-in_err-planned.ensures.1
    (c.in_err-planned.ensures.edit.damaged {detail = detail} disk settled v (c.in_ok-load_to_change.ensures.looks.kept disk settled v stands))

pub returns-in_default-clause-looks : goal.returns-in_default-clause-looks
returns-in_default-clause-looks g c = looks_ok (looks_more c.in_ok-load_to_change.ensures.looks c.in_ok-planned.ensures.edit.looks)

pub returns-in_default-clause-refused : goal.returns-in_default-clause-refused
returns-in_default-clause-refused g c = λ detail disk settled v stands volume takes.
    let now = c.in_ok-load_to_change.ensures.looks.kept disk settled v stands in
    let entry : Entry = record { number = c.args.number; name = c.args.name } in
    let s = c.edit_parent.new.inodes in
    let same = c.in_ok-planned.ensures.edit.looks.geometry ∙ c.in_ok-load_to_change.ensures.looks.geometry in
    subst (PreparesEdit disk (limits_of s.geometry) (edits.Add entry) (v c.args.parent) (loaded s c.args.parent)) c.in_default.is (c.in_ok-planned.ensures.edit.found disk settled v now)
    (accepts_entry (limits_of s.geometry) v c.args.parent entry (subst (λ (z : Sizes). TakesName (limits_of z) v c.args.parent c.args.name.now) (sym same) takes))

pub returns-clause-looks : goal.returns-clause-looks
returns-clause-looks g c = looks_ok (looks_more c.in_ok-load_to_change.ensures.looks c.in_ok-planned.ensures.edit.looks)

pub returns-clause-ready : goal.returns-clause-ready
returns-clause-ready g c =
    let planned = c.in_ok-planned.ensures in
    record {
      first = subst (λ o. IfSome o (λ e. TakesUpdate c.edit_parent.new.inodes c.args.parent (updates.Names e))) c.in-Some.is planned.ready;
      next = record {
        at_hand = at_hand_behind c.args.number planned.edit c.in_ok-load_to_change.ensures.known;
        fits = tt;
      };
      last = tt;
      next_apart = tt;
      last_apart = tt;
      apart = tt;
    }

pub returns-clause-does : goal.returns-clause-does
returns-clause-does g c = λ detail disk settled v made stands is_free is_object small.
    let now = c.in_ok-load_to_change.ensures.looks.kept disk settled v stands in
    let name = c.args.name.now in
    let number = c.args.number in
    let d = c.args.parent in
    let s = c.edit_parent.new.inodes in
    let entry : Entry = record { number = c.args.number; name = c.args.name } in
    let f = names_after (edits.Add entry) in
    let edit = subst (PreparesEdit disk (limits_of s.geometry) (edits.Add entry) (v d) (loaded s d)) c.in-Some.is (c.in_ok-planned.ensures.edit.found disk settled v now) in
    let node = node_of made in
    let apart = vacant_apart v number d is_free (found_directory (v d) edit.1.attributes edit.1.names edit.1.is) in
    let to = with_node_names f (v d) in
    let between = with_node d to v in
    record {
      between = between;
      second = with_node number (Some node) between;
      first = (to, (f, edit.0, refl), refl);
      next = (Some node, is_object s.geometry.inodes, refl);
      last =
          sym (put_volume number d name (Some number) (Some node) v apart)
          ∙ ap (λ o. with_node number (Some node) (with_node d o v)) (sym (names_set name (Some number) (v d)));
      next_beside = apart;
      last_beside = tt;
      beside = tt;
      firsts = 7;
      nexts = 12;
      lasts = 0;
      first_room = omega (arith, edit.2);
      next_room = omega (arith, small);
      last_room = tt;
      within = omega arith;
      knows = tt;
    }

pub returns-clause-takes : goal.returns-clause-takes
returns-clause-takes g c = λ detail disk settled v stands.
    let now = c.in_ok-load_to_change.ensures.looks.kept disk settled v stands in
    let entry : Entry = record { number = c.args.number; name = c.args.name } in
    let s = c.edit_parent.new.inodes in
    let edit = subst (PreparesEdit disk (limits_of s.geometry) (edits.Add entry) (v c.args.parent) (loaded s c.args.parent)) c.in-Some.is (c.in_ok-planned.ensures.edit.found disk settled v now) in
    let same = c.in_ok-planned.ensures.edit.looks.geometry ∙ c.in_ok-load_to_change.ensures.looks.geometry in
    subst (λ (z : Sizes). TakesName (limits_of z) v c.args.parent c.args.name.now) same (takes_accepted (limits_of s.geometry) v c.args.parent entry (c.fits.ensures.0 c.if-not-fits.false).name edit.1)
