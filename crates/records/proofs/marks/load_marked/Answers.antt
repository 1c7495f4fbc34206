use Rattle.std.proofs.Common.{ap, ◌∙◌, refl}
use Rattle.std.specs.Prelude.{not}
use Rattle.records.specs.Marks.{AreMarkedAtHand, touches_in}
use Rattle.records.specs.Steps.{IsAtHand}
use Rattle.records.proofs.LaterLaws.{brings_failed, brings_nothing, brings_then, hand_later, marked_so, nothing_marked}
use Rattle.records.proofs.marks.load_marked.Goals as goal

pub returns-then-is_none : goal.returns-then-is_none
returns-then-is_none g c = brings_nothing (nothing_marked (IsAtHand c.args.inodes.now) c.args.marks.now (c.is_none.ensures ∙ ap not c.if-is_none.true))

pub returns-in_err-load_some : goal.returns-in_err-load_some
returns-in_err-load_some g c = brings_failed c.from_residual.result c.from_residual.ensures.1 c.in_err-load_some.ensures

pub returns-in_err-load_some-2 : goal.returns-in_err-load_some-2
returns-in_err-load_some-2 g c =
    brings_failed c.from_residual-in_err-load_some-2.result c.from_residual-in_err-load_some-2.ensures.1 (brings_then {Told = λ s. Unit {0}} c.in_ok-load_some.ensures c.in_err-load_some-2.ensures tt)

pub returns-in_err-load_some-3 : goal.returns-in_err-load_some-3
returns-in_err-load_some-3 g c =
    let two = brings_then {Told = λ s. Unit {0}} c.in_ok-load_some.ensures c.in_ok-load_some-2.ensures tt in
    brings_failed c.from_residual-in_err-load_some-3.result c.from_residual-in_err-load_some-3.ensures.1 (brings_then {Told = λ s. Unit {0}} two c.in_err-load_some-3.ensures tt)

pub returns-in_err-load_some-4 : goal.returns-in_err-load_some-4
returns-in_err-load_some-4 g c =
    let two = brings_then {Told = λ s. Unit {0}} c.in_ok-load_some.ensures c.in_ok-load_some-2.ensures tt in
    let three = brings_then {Told = λ s. Unit {0}} two c.in_ok-load_some-3.ensures tt in
    brings_failed c.from_residual-in_err-load_some-4.result c.from_residual-in_err-load_some-4.ensures.1 (brings_then {Told = λ s. Unit {0}} three c.in_err-load_some-4.ensures tt)

pub returns : goal.returns
returns g c =
    let object = c.in_ok-load_some.ensures in
    let replaced = c.in_ok-load_some-2.ensures in
    let parent = c.in_ok-load_some-3.ensures in
    let new_parent = c.in_ok-load_some-4.ensures in
    let marks = c.args.marks.now in
    let two = brings_then {Told = λ s. Unit {0}} object replaced tt in
    let three = brings_then {Told = λ s. Unit {0}} two parent tt in
    brings_then {Told = λ s. AreMarkedAtHand s marks} three new_parent
    (marked_so (IsAtHand c.load_some-4.new.inodes) marks (touches_in marks) refl record {
      object = hand_later new_parent marks.object (hand_later parent marks.object (hand_later replaced marks.object object.brings.known));
      replaced = hand_later new_parent marks.replaced (hand_later parent marks.replaced replaced.brings.known);
      parent = hand_later new_parent marks.parent parent.brings.known;
      new_parent = new_parent.brings.known;
    })
