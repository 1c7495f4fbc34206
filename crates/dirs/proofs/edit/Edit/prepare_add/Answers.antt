use Rattle.std.proofs.Common.{rules, ◌≡◌, ◌∙◌, ◌+◌, ◌≤◌, ◌∷◌, ◌++◌, [], length, arith, ap, subst, sym, List, Some}
use Rattle.layout.specs.Directory.{Named, HoldsEntries, named_of, entry_bytes}
use Rattle.layout.proofs.EntryLaws.{length-entry_bytes}
use Rattle.blocktree.specs.Trees.{IsSoundAt}
use Rattle.entries.specs.Entries.{used_by}
use Rattle.layout.specs.DirectoryNames.{HoldNames}
use Rattle.dirs.specs.Directory.{with_name}
use Rattle.dirs.specs.Edits.{edited_block}
use Rattle.dirs.specs.Surveys.{IsBounded, IsFirstRoom}
use Rattle.dirs.proofs.HoldLaws.{hold_added, has_count, damaged_below}
use Rattle.dirs.proofs.SurveyLaws.{free_name, taken_name}
use Rattle.dirs.proofs.edit.Edit.prepare_add.Goals as goal

pub survey_of-requires : goal.survey_of-requires
survey_of-requires g c = omega (arith, c.encoded_len-bytes.ensures, length-entry_bytes (named_of c.args.entry.now), c.requires.entry.name.short)

pub returns-in_err-survey-clause-damaged : goal.returns-in_err-survey-clause-damaged
returns-in_err-survey-clause-damaged g c = λ disk shows is reached sound. c.in_err-survey.ensures.damaged disk shows (search (rules, damaged_below)) reached sound

pub returns-in_err-add_to-in-Some-clause-damaged : goal.returns-in_err-add_to-in-Some-clause-damaged
returns-in_err-add_to-in-Some-clause-damaged g c = λ disk shows is reached sound.
    let i = c.in-Some.i in
    let survey = c.in_ok-survey.ensures in
    let below = subst (IsBounded c.args.self.now.count c.in_ok-survey.survey) c.in-Some.is survey.bounded in
    let here = subst (λ n. IsSoundAt n disk c.args.file.now.tree i) (sym survey.reads.count) (reached i below) in
    c.in_err-add_to-in-Some.ensures.damaged disk (survey.reads.same disk shows) (search (rules, damaged_below)) here

pub returns-then-is_full-clause-full : goal.returns-then-is_full-clause-full
returns-then-is_full-clause-full g c = λ disk names shows knows has is.
    let free = free_name c.args.inodes c.args.self.now.count (edited_block disk c.args.file.now c.args.self.now) names c.args.entry.now.name.now c.encoded_len-bytes.result c.in_ok-survey.survey has (c.in_ok-survey.ensures.finds disk shows knows) (sym c.is_some.ensures ∙ c.if-is_some.false) in
    (free, c.in_ok-survey.survey.names, has_count c.args.inodes c.args.self.now.count (edited_block disk c.args.file.now c.args.self.now) names c.in_ok-survey.survey.names has ((c.in_ok-survey.ensures.finds disk shows knows).names has.entries has.holds), omega arith)

pub returns-in_ok-add_to-in-Some-clause-room : goal.returns-in_ok-add_to-in-Some-clause-room
returns-in_ok-add_to-in-Some-clause-room g c = λ disk names shows knows has is.
    (c.in_ok-survey.survey.names, has_count c.args.inodes c.args.self.now.count (edited_block disk c.args.file.now c.args.self.now) names c.in_ok-survey.survey.names has ((c.in_ok-survey.ensures.finds disk shows knows).names has.entries has.holds), omega arith)

pub returns-in_ok-add_behind-in-None-clause-room : goal.returns-in_ok-add_behind-in-None-clause-room
returns-in_ok-add_behind-in-None-clause-room g c = λ disk names shows knows has is.
    (c.in_ok-survey.survey.names, has_count c.args.inodes c.args.self.now.count (edited_block disk c.args.file.now c.args.self.now) names c.in_ok-survey.survey.names has ((c.in_ok-survey.ensures.finds disk shows knows).names has.entries has.holds), omega arith)

pub returns-in_ok-add_to-in-Some-clause-added : goal.returns-in_ok-add_to-in-Some-clause-added
returns-in_ok-add_to-in-Some-clause-added g c = λ disk names shows knows has is.
    let free = free_name c.args.inodes c.args.self.now.count (edited_block disk c.args.file.now c.args.self.now) names c.args.entry.now.name.now c.encoded_len-bytes.result c.in_ok-survey.survey has (c.in_ok-survey.ensures.finds disk shows knows) (sym c.is_some.ensures ∙ c.if-is_some.false) in
    let e = named_of c.args.entry.now in
    let old = edited_block disk c.args.file.now c.args.self.now in
    let new = edited_block disk c.add_to.new.file c.add_to.new.self in
    let i = c.in-Some.i in
    let add = c.in_ok-add_to-in-Some.ensures in
    let room = subst (IsFirstRoom has.entries c.args.self.now.count c.encoded_len-bytes.result) c.in-Some.is ((c.in_ok-survey.ensures.finds disk shows knows).room has.entries has.holds) in
    let within : used_by (has.entries i) + length (entry_bytes e) ≤ 4096 = omega (arith, room.1, c.encoded_len-bytes.ensures) in
    subst (λ n. HoldNames c.args.inodes n new (with_name e.name (Some e.number) names)) (sym add.many)
    (hold_added c.args.inodes c.args.self.now.count old new names i c.args.self.now.count e has free (record {
      others = λ j below else. (below, add.others disk j else);
      here = λ below. add.here disk (has.entries i) (c.in_ok-survey.ensures.reads.same disk shows) (c.in_ok-survey.ensures.knows disk shows knows) (has.holds i room.0) within;
      past = λ j beyond else. has.past j beyond;
      gone = λ beyond. absurd (omega (arith, beyond, room.0));
    }))

pub returns-in_ok-add_behind-in-None-clause-added : goal.returns-in_ok-add_behind-in-None-clause-added
returns-in_ok-add_behind-in-None-clause-added g c = λ disk names shows knows has is.
    let free = free_name c.args.inodes c.args.self.now.count (edited_block disk c.args.file.now c.args.self.now) names c.args.entry.now.name.now c.encoded_len-bytes.result c.in_ok-survey.survey has (c.in_ok-survey.ensures.finds disk shows knows) (sym c.is_some.ensures ∙ c.if-is_some.false) in
    let e = named_of c.args.entry.now in
    let count = c.args.self.now.count in
    let old = edited_block disk c.args.file.now c.args.self.now in
    let new = edited_block disk c.add_behind.new.file c.add_behind.new.self in
    let add = c.in_ok-add_behind-in-None.ensures in
    let alone : has.entries count ++ e ∷ [] ≡ e ∷ [] = ap (λ (es : List Named). es ++ e ∷ []) (has.past count (omega arith)) in
    subst (λ n. HoldNames c.args.inodes n new (with_name e.name (Some e.number) names)) (sym add.many)
    (hold_added c.args.inodes count old new names count (count + 1) e has free (record {
      others = λ j below else. (omega (arith, below, else), add.others disk j else);
      here = λ below. subst (HoldsEntries c.args.inodes (new count)) (sym alone) (add.here disk);
      past = λ j beyond else. has.past j (omega (arith, beyond));
      gone = λ beyond. absurd (omega (arith, beyond));
    }))

pub returns-in_ok-add_to-in-Some-clause-first : goal.returns-in_ok-add_to-in-Some-clause-first
returns-in_ok-add_to-in-Some-clause-first g c = λ disk names shows knows has is.
    let e = named_of c.args.entry.now in
    let i = c.in-Some.i in
    let add = c.in_ok-add_to-in-Some.ensures in
    let room = subst (IsFirstRoom has.entries c.args.self.now.count c.encoded_len-bytes.result) c.in-Some.is ((c.in_ok-survey.ensures.finds disk shows knows).room has.entries has.holds) in
    let within : used_by (has.entries i) + length (entry_bytes e) ≤ 4096 = omega (arith, room.1, c.encoded_len-bytes.ensures) in
    record {
      at = i;
      full = λ j before. omega (arith, room.2 j before, c.encoded_len-bytes.ensures);
      room = within;
      here = add.here disk (has.entries i) (c.in_ok-survey.ensures.reads.same disk shows) (c.in_ok-survey.ensures.knows disk shows knows) (has.holds i room.0) within;
      others = λ j else. add.others disk j else;
      many = omega (arith, add.many, room.0);
    }

pub returns-in_ok-add_behind-in-None-clause-first : goal.returns-in_ok-add_behind-in-None-clause-first
returns-in_ok-add_behind-in-None-clause-first g c = λ disk names shows knows has is.
    let e = named_of c.args.entry.now in
    let count = c.args.self.now.count in
    let add = c.in_ok-add_behind-in-None.ensures in
    let full = subst (IsFirstRoom has.entries count c.encoded_len-bytes.result) c.in-None.is ((c.in_ok-survey.ensures.finds disk shows knows).room has.entries has.holds) in
    let none : has.entries count ≡ [] = has.past count (omega arith) in
    record {
      at = count;
      full = λ j before. omega (arith, full j before, c.encoded_len-bytes.ensures);
      room = subst (λ es. used_by es + length (entry_bytes e) ≤ 4096) (sym none) (omega (arith, length-entry_bytes e, c.requires.entry.name.short));
      here = subst (λ es. HoldsEntries c.args.inodes (edited_block disk c.add_behind.new.file c.add_behind.new.self count) (es ++ e ∷ [])) (sym none) (add.here disk);
      others = λ j else. add.others disk j else;
      many = omega (arith, add.many);
    }

pub returns-in_ok-add_to-in-Some-clause-missing : goal.returns-in_ok-add_to-in-Some-clause-missing
returns-in_ok-add_to-in-Some-clause-missing g c = λ disk names shows knows has is.
    let free = free_name c.args.inodes c.args.self.now.count (edited_block disk c.args.file.now c.args.self.now) names c.args.entry.now.name.now c.encoded_len-bytes.result c.in_ok-survey.survey has (c.in_ok-survey.ensures.finds disk shows knows) (sym c.is_some.ensures ∙ c.if-is_some.false) in
    free

pub returns-in_ok-add_behind-in-None-clause-missing : goal.returns-in_ok-add_behind-in-None-clause-missing
returns-in_ok-add_behind-in-None-clause-missing g c = λ disk names shows knows has is.
    let free = free_name c.args.inodes c.args.self.now.count (edited_block disk c.args.file.now c.args.self.now) names c.args.entry.now.name.now c.encoded_len-bytes.result c.in_ok-survey.survey has (c.in_ok-survey.ensures.finds disk shows knows) (sym c.is_some.ensures ∙ c.if-is_some.false) in
    free

pub returns-then-is_some-clause-there : goal.returns-then-is_some-clause-there
returns-then-is_some-clause-there g c = λ disk names shows knows has is.
    taken_name c.args.inodes c.args.self.now.count (edited_block disk c.args.file.now c.args.self.now) names c.args.entry.now.name.now c.encoded_len-bytes.result c.in_ok-survey.survey has (c.in_ok-survey.ensures.finds disk shows knows)
    (sym c.is_some.ensures ∙ c.if-is_some.true)

pub returns-in_ok-add_to-in-Some-clause-knows : goal.returns-in_ok-add_to-in-Some-clause-knows
returns-in_ok-add_to-in-Some-clause-knows g c = λ disk shows knows. c.in_ok-add_to-in-Some.ensures.knows disk (c.in_ok-survey.ensures.reads.same disk shows) (c.in_ok-survey.ensures.knows disk shows knows)

pub returns-in_ok-add_behind-in-None-clause-knows : goal.returns-in_ok-add_behind-in-None-clause-knows
returns-in_ok-add_behind-in-None-clause-knows g c = λ disk shows knows. c.in_ok-add_behind-in-None.ensures.knows disk (c.in_ok-survey.ensures.knows disk shows knows)

pub returns-then-is_some-clause-sound : goal.returns-then-is_some-clause-sound
returns-then-is_some-clause-sound g c = λ disk shows knows. (c.in_ok-survey.ensures.finds disk shows knows).sound

pub returns-in_ok-add_to-in-Some-clause-sound : goal.returns-in_ok-add_to-in-Some-clause-sound
returns-in_ok-add_to-in-Some-clause-sound g c = λ disk shows knows. (c.in_ok-survey.ensures.finds disk shows knows).sound

pub returns-in_ok-add_behind-in-None-clause-sound : goal.returns-in_ok-add_behind-in-None-clause-sound
returns-in_ok-add_behind-in-None-clause-sound g c = λ disk shows knows. (c.in_ok-survey.ensures.finds disk shows knows).sound
